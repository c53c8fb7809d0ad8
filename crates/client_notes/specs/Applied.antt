-- What a command from a record does to the notes.
use Rattle.std.specs.Prelude.{◌≡◌, ℕ, ◌-◌, ◌<◌, Bool, true, false, List, length, take, None, Some, ⊤}
use Rattle.client_notes.specs.Command.{NotesCommand, changed_at}
use Rattle.client_notes.specs.Notes.{GotFile, Lists}
use Rattle.client_notes.specs.Records.{notes_after}
use Rattle.client_notes.specs.declared.lists.Behind.{Behind}
use Rattle.client_notes.specs.declared.lists.Behind.TheVariants as behind

-- its condition held, and the notes are those after it; or its condition doesn't hold, and all is as it was
abbrev pub Applied : Bool → Lists → Lists → NotesCommand → Type 0
Applied true before now command = notes_after before command ≡ Some now
Applied false before now command = (notes_after before command ≡ None) × (now ≡ before)

-- the first octets of a got file
abbrev pub cut_to : ℕ → GotFile → GotFile
cut_to len file = record file { octets = take len file.octets }

-- the files without the octets that came last
abbrev pub taken_back : Behind → List GotFile → List GotFile
taken_back behind.Nothing files = take (length files - 1) files
taken_back (behind.Octets place len) files = changed_at place (cut_to len) files

-- the place is that of a file
abbrev pub IsPlaceOf : Behind → List GotFile → Type 0
IsPlaceOf behind.Nothing files = ⊤
IsPlaceOf (behind.Octets place len) files = place < length files
