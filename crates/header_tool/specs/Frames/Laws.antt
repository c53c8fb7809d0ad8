-- Laws of the text of recorded KISS text.
use Rattle.std.specs.Prelude.{◌≡◌, ℕ, List}
use Rattle.px_base.specs.Octets.{IsOctets}
use Rattle.header_tool.specs.Frames.FramesText.{FramesText}

-- recorded octets have one text at most
abbrev pub IsOneText : Type 0
IsOneText = (recorded one other : List ℕ) → FramesText recorded one → FramesText recorded other → one ≡ other

-- all recorded octets have a text
abbrev pub HasText : Type 0
HasText = (recorded : List ℕ) → IsOctets recorded → (text : List ℕ) × FramesText recorded text
