-- The numbers that the process ends with, and the lines that say so.
use Rattle.std.specs.Prelude.{ℕ, List, [], ◌++◌, codes, decimal, Option, None, Some}
use Rattle.hex.specs.Hex.{encode_lower}
use Rattle.air_rehearsal.specs.Breaches.{breach_words, place_of_breach}
use Rattle.air_rehearsal.specs.declared.stopped.Breach.{Breach}
use Rattle.uploader.specs.declared.sum.FileSum.{FileSum}
use Rattle.pacsat_cli.specs.declared.status.BadStore.{BadStore}
use Rattle.pacsat_cli.specs.declared.status.BadStore.TheVariants.{NotAStore, Damaged}
use Rattle.pacsat_cli.specs.declared.status.RefusedBy.{RefusedBy}
use Rattle.pacsat_cli.specs.declared.status.RefusedBy.TheVariants.{Shown, Server, Fault}
use Rattle.pacsat_cli.specs.declared.status.Status.{Status}
use Rattle.pacsat_cli.specs.declared.status.Status.TheVariants.{Done, Refused, Usage, AirRead, AirWrite, Disk, NoSuch, FileChanged, BadStore as bad_store, OutOfMemory, Spent, Out, Shelf, LinkDown, BadSchedule, Strange, NotesFull, TooLong, Broken}

abbrev pub number_of : Status → ℕ
number_of Done = 0
number_of (Refused by) = 1
number_of Usage = 2
number_of AirRead = 3
number_of AirWrite = 4
number_of Disk = 5
number_of NoSuch = 6
number_of (FileChanged kept given) = 7
number_of (bad_store why) = 8
number_of OutOfMemory = 9
number_of Spent = 10
number_of Out = 11
number_of Shelf = 12
number_of LinkDown = 13
number_of (BadSchedule line) = 14
number_of (Strange kind) = 15
number_of NotesFull = 16
number_of TooLong = 17
number_of (Broken line what) = 22

-- The line of content that is no store: its first eight octets in hexadecimal digits, in lower case; or the place of the
-- damage in decimal digits.
abbrev pub bad_line : BadStore → List ℕ
bad_line (NotAStore found) = codes "not a store " ++ encode_lower found ++ codes "\n"
bad_line (Damaged at) = codes "damaged " ++ decimal at ++ codes "\n"

-- the line of these words and a number in decimal digits
abbrev pub numbered_line : List ℕ → ℕ → List ℕ
numbered_line words number = words ++ decimal number ++ codes "\n"

-- The line of a refusal: the server's code, or that of the file's first fault; none where what was shown says it.
abbrev pub refused_line : RefusedBy → List ℕ
refused_line Shown = []
refused_line (Server code) = numbered_line (codes "refused ") code
refused_line (Fault code) = numbered_line (codes "fault ") code

-- a file's length in decimal digits and its digest in hexadecimal ones, in lower case
abbrev pub sum_text : FileSum → List ℕ
sum_text sum = decimal sum.length ++ codes " " ++ encode_lower sum.digest

-- the line of a file that isn't the one of its task: what that one is, and then what it is itself
abbrev pub changed_line : FileSum → FileSum → List ℕ
changed_line kept given = codes "file changed " ++ sum_text kept ++ codes " " ++ sum_text given ++ codes "\n"

-- a blank and the place of damage in decimal digits, if there is one
abbrev pub place_text : Option ℕ → List ℕ
place_text None = []
place_text (Some at) = codes " " ++ decimal at

-- the line of a rehearsal that broke: the number of its line, what was found, and the place of damage
abbrev pub broken_line : ℕ → Breach → List ℕ
broken_line line what =
    codes "broken " ++ decimal line ++ codes " " ++ breach_words what ++ place_text (place_of_breach what) ++ codes "\n"

abbrev pub line_of : Status → List ℕ
line_of Done = []
line_of (Refused by) = refused_line by
line_of Usage = codes "usage\n"
line_of AirRead = codes "air read\n"
line_of AirWrite = codes "air write\n"
line_of Disk = codes "disk\n"
line_of NoSuch = codes "no such file\n"
line_of (FileChanged kept given) = changed_line kept given
line_of (bad_store why) = bad_line why
line_of OutOfMemory = codes "out of memory\n"
line_of Spent = codes "spent\n"
line_of Out = codes "out\n"
line_of Shelf = codes "shelf\n"
line_of LinkDown = codes "link down\n"
line_of (BadSchedule line) = numbered_line (codes "bad schedule ") line
line_of (Strange kind) = numbered_line (codes "strange packet ") kind
line_of NotesFull = codes "notes full\n"
line_of TooLong = codes "too long\n"
line_of (Broken line what) = broken_line line what
