-- What the commands that show a file of the shelf show, and why they end.
use Rattle.std.specs.Prelude.{◌≡◌, ◌⊎◌, ℕ, ◌<◌, ◌≤◌, ◌==◌, List, [], ◌∷◌, length, Bool, true, false, Option, None, Some}
use Rattle.std.specs.Prelude.{IfSome, IsTrue, Result, Ok, Err, if◌then◌else◌}
use Rattle.px_base.specs.Octets.{IsFront}
use Rattle.px_base.specs.Outside.{Gains, GainsPrefix, Rose}
use Rattle.px_base.specs.Shelves.{Holding, content_of}
use Rattle.px_base.specs.declared.memory.OutOfMemory.{OutOfMemory as NoMemory}
use Rattle.header_tool.specs.Faults.{fault_code}
use Rattle.header_tool.specs.declared.shown.Shown.{Shown}
use Rattle.header_tool.specs.Lines.{check_text, header_lines}
use Rattle.header_tool.specs.Frames.FramesText.{FramesText}
use Rattle.command_words.specs.declared.command.FileCommand.{FileCommand}
use Rattle.command_words.specs.declared.command.FileCommand.TheVariants.{Frames, Show, Check}
use Rattle.pacsat_cli.specs.declared.status.RefusedBy.TheVariants.{Shown as by_shown}
use Rattle.pacsat_cli.specs.declared.status.Status.{Status}
use Rattle.pacsat_cli.specs.declared.status.Status.TheVariants.{Done, Refused, NoSuch, OutOfMemory, Out, Shelf, TooLong}
use Rattle.pacsat_cli.specs.Run.{HasStatusCause, IsUnless, Shows}
use Rattle.pacsat_cli.specs.Status.{line_of}

-- the most octets of a file of the shelf
abbrev pub most_octets : ℕ
most_octets = 4194304

-- this is the command's text of a file with these octets
abbrev pub IsTextOf : FileCommand → List ℕ → List ℕ → Type 0
IsTextOf Frames octets text = FramesText octets text
IsTextOf Show octets text = text ≡ header_lines octets
IsTextOf Check octets text = text ≡ check_text octets

-- a file with this fault is refused, and one without is not
abbrev pub fault_status : Option ℕ → Status
fault_status None = Done
fault_status (Some code) = Refused by_shown

-- the same, by the code, 0 for none
abbrev pub code_status : ℕ → Status
code_status code = if code == 0 then Done else Refused by_shown

-- The status of the command, where all of the text was shown. A file is refused by its first fault, whose code the last line
-- of the text says.
abbrev pub end_of : FileCommand → List ℕ → Status
end_of Frames octets = Done
end_of Show octets = fault_status (fault_code octets)
end_of Check octets = fault_status (fault_code octets)

-- This content may be shown: this is its text, and this is the status where all of it was shown.
pub record FileText (command : FileCommand) (content : Option (List ℕ)) (all : List ℕ) (last : Status) : Type 0 where
  pub octets : List ℕ
  pub there : content ≡ Some octets
  pub most : length octets ≤ most_octets
  pub text : IsTextOf command octets all
  pub ends : end_of command octets ≡ last

-- How the command ended, by the content of the name and by the text that was shown before the status's line: each status has
-- its cause, and no other status comes.
abbrev pub FileEnd : FileCommand → Option (List ℕ) → List ℕ → Status → Type 0
FileEnd command content text Done = FileText command content text Done
FileEnd command content text (Refused by_shown) = FileText command content text (Refused by_shown)
FileEnd command content text NoSuch = (content ≡ None) × (text ≡ [])
FileEnd command content text TooLong =
    (octets : List ℕ) × (content ≡ Some octets) × (most_octets < length octets) × (text ≡ [])
FileEnd command content text Out = (all : List ℕ) × (last : Status) × FileText command content all last × IsFront text all
FileEnd command content text Shelf = text ≡ []
FileEnd command content text OutOfMemory = text ≡ []
FileEnd command content text status = ⊥

-- whether the command can refuse a file
abbrev pub checks_headers : FileCommand → Bool
checks_headers Frames = false
checks_headers Show = true
checks_headers Check = true

-- whether the command can end with this status
abbrev pub is_file_status : FileCommand → Status → Bool
is_file_status command Done = true
is_file_status command (Refused by_shown) = checks_headers command
is_file_status command NoSuch = true
is_file_status command TooLong = true
is_file_status command Out = true
is_file_status command Shelf = true
is_file_status command OutOfMemory = true
is_file_status command status = false

-- whether such a command can end with this status before it shows anything
abbrev pub is_unshown : Status → Bool
is_unshown NoSuch = true
is_unshown TooLong = true
is_unshown Shelf = true
is_unshown OutOfMemory = true
is_unshown status = false

-- The command showed some text and ended with this status, which has a cause by the text; its line isn't shown yet. The
-- output's count of faults rose where showing failed, and stayed where it didn't; where nothing was to be shown the output
-- wasn't touched.
pub record TextShown {O : Type 0} (shown : O → Option (List ℕ)) (faults : O → ℕ) (command : FileCommand) (Ends : List ℕ → Status → Type 0) (before now : O) (status : Status) : Type 0 where
  pub text : List ℕ
  pub gains : Gains (shown before) (shown now) text
  pub possible : IsTrue (is_file_status command status)
  pub ends : Ends text status
  pub cause : HasStatusCause Out (faults before) (faults now) status
  pub unshown : IsTrue (is_unshown status) → now ≡ before

-- so it was with these octets
abbrev pub OctetsShown : {O : Type 0} → (O → Option (List ℕ)) → (O → ℕ) → FileCommand → List ℕ → O → O → Status → Type 0
OctetsShown shown faults command octets before now status =
    TextShown shown faults command (FileEnd command (Some octets)) before now status

-- so it was with the content of this name, where it is told what the shelf holds
abbrev pub FileShown : {O : Type 0} → (O → Option (List ℕ)) → (O → ℕ) → FileCommand → Option Holding → List ℕ → O → O → Status → Type 0
FileShown shown faults command held name before now status =
    TextShown shown faults command (λ text last. IfSome held (λ shelf. FileEnd command (content_of shelf name) text last)) before now status

-- The command showed some text of the content of this name, ended with this status, and then showed its line, if it has one.
pub record FileRan {O : Type 0} (shown : O → Option (List ℕ)) (faults : O → ℕ) (command : FileCommand) (held : Option Holding) (name : List ℕ) (before now : O) (status : Status) : Type 0 where
  pub mid : O
  pub text : FileShown shown faults command held name before mid status
  pub line : Shows shown faults mid now (line_of status)
  pub done : line_of status ≡ [] → now ≡ mid

-- where there is no content, the status is NoSuch
abbrev pub IsNoSuchBy : Status → FileCommand → Option (List ℕ) → Type 0
IsNoSuchBy status command content = content ≡ None → IsUnless status NoSuch (Shelf ∷ OutOfMemory ∷ [])

-- where the content is longer than may be, it is TooLong
abbrev pub IsTooLongBy : Status → FileCommand → Option (List ℕ) → Type 0
IsTooLongBy status command content =
    (octets : List ℕ) → content ≡ Some octets → most_octets < length octets → IsUnless status TooLong (Shelf ∷ OutOfMemory ∷ [])

-- where the content may be shown, it is the one of the content
abbrev pub IsShownBy : Status → FileCommand → Option (List ℕ) → Type 0
IsShownBy status command content =
    (octets : List ℕ) → content ≡ Some octets → length octets ≤ most_octets
    → IsUnless status (end_of command octets) (Shelf ∷ Out ∷ OutOfMemory ∷ [])

-- A text of a file's header was put, and the status is the one of its fault, or a front of it was, and the status is Out;
-- where there was no memory for the text, nothing was put.
abbrev pub IsTextPut : {O : Type 0} → (O → Option (List ℕ)) → (O → ℕ) → Result Shown NoMemory → O → O → Status → Type 0
IsTextPut shown faults (Ok made) before now status =
    (Gains (shown before) (shown now) made.text × (faults now ≡ faults before) × (status ≡ code_status made.code))
    ⊎ (GainsPrefix (shown before) (shown now) made.text × Rose (faults before) (faults now) × (status ≡ Out))
IsTextPut shown faults (Err refused) before now status = (status ≡ OutOfMemory) × (now ≡ before)
