-- Laws of the text that shows a header: it is said of a file's items and fault, whatever way they are found. And laws of
-- the body of a file.
use Rattle.std.specs.Prelude.{◌≡◌, ℕ, ◌+◌, List, drop, length, Option, option_map}
use Rattle.px_base.specs.Numbers.{le16, le32}
use Rattle.px_base.specs.Octets.{IsOctets}
use Rattle.pfh_items.specs.declared.fault.FileFault.{FileFault}
use Rattle.pfh_items.specs.Faults.{IsFaultless, IsFound, code_of, content_of}
use Rattle.pfh_items.specs.Layout.{ItemValue, FileText}
use Rattle.header_tool.specs.Bodies.{HasBody}
use Rattle.header_tool.specs.Lines.{check_text, header_lines, last_line, shown_text}
use Rattle.header_tool.specs.Made.{IsMade, MakeValue}

-- a header with these items and a body, whose first fault this is, or which has none: the lines of the items, and the last
abbrev pub ShowsItems : Type 0
ShowsItems =
    (items : List ItemValue) (body file : List ℕ) (fault : Option FileFault) → IsOctets file → FileText items body file → IsFound file fault
    → header_lines file ≡ shown_text items (option_map code_of fault)

-- no header and body: the last line alone
abbrev pub ShowsFault : Type 0
ShowsFault =
    (file : List ℕ) (fault : Option FileFault) → IsOctets file → ((items : List ItemValue) (body : List ℕ) → FileText items body file → ⊥)
    → IsFound file fault → header_lines file ≡ last_line (option_map code_of fault)

-- the last line is what the check of a file says
abbrev pub ChecksFault : Type 0
ChecksFault =
    (file : List ℕ) (fault : Option FileFault) → IsOctets file → IsFound file fault → check_text file ≡ last_line (option_map code_of fault)

-- the body begins at the place that body_offset says, and ends where file_size says that the file does
abbrev pub IsBodyBehind : Type 0
IsBodyBehind =
    (items : List ItemValue) (body file : List ℕ) → IsFaultless items body file
    → (body ≡ drop (le16 (content_of 0x0B items) 0) file)
    × (le16 (content_of 0x0B items) 0 + length body ≡ le32 (content_of 0x04 items) 0)

-- a file has one body,
abbrev pub IsOneBody : Type 0
IsOneBody = (file body other : List ℕ) → HasBody file body → HasBody file other → body ≡ other

-- and one that is made of a body has that one
abbrev pub IsBodyOfMade : Type 0
IsBodyOfMade = (spec : MakeValue) (body file : List ℕ) → IsMade spec body file → HasBody file body
