-- The text of a schedule: lines, each ended by LF, whose words are separated by one blank. Numbers are decimal, without
-- leading zero.
use Rattle.std.specs.Prelude.{◌≡◌, ◌==◌, ℕ, ◌-◌, ◌<◌, ◌≤◌, ◌^◌, List, [], ◌∷◌, ◌++◌, codes, decimal, length, map, Ok}
use Rattle.std.specs.List.{slice_split}
use Rattle.hex.specs.Hex.{decode_of}
use Rattle.px_base.specs.CallSign.{CallSign, CallText}
use Rattle.air_schedule.specs.Schedule.{Event, IsInRange, IsSchedule, Schedule}
use Rattle.air_schedule.specs.Schedule.{ask_download, ask_list, ask_resume, ask_upload, break_client}
use Rattle.air_schedule.specs.Schedule.{cut_client, cut_server, tick_client, tick_server, to_client, to_server}

-- what a line says
pub data Line : Type 0 where
  window_line : ℕ → Line
  client_line : CallSign → Line
  event_line : Event → Line

-- the lines of a schedule: that of the window, those of the clients, and those of the events
abbrev pub lines_of : Schedule → List Line
lines_of schedule = window_line schedule.size ∷ (map client_line schedule.calls ++ map event_line schedule.events)

-- the parts of a text between its LFs: its lines, and what comes after the last LF
abbrev pub parts_of : List ℕ → List (List ℕ)
parts_of text = slice_split (λ octet. octet == 10) text

-- the words of a line: its parts between the blanks
abbrev pub words_of : List ℕ → List (List ℕ)
words_of line = slice_split (λ octet. octet == 32) line

-- a number that a word may write
abbrev pub IsNumber : ℕ → Type 0
IsNumber number = number < 2 ^ 64

-- The words of an event. A client has a number, and so has a transmission; the octets of a selection's tokens are
-- hexadecimal, two digits an octet, in either case.
abbrev pub EventWords : Event → List (List ℕ) → Type 0
EventWords (ask_upload c count) words =
    IsNumber c × IsNumber count × (words ≡ codes "ask" ∷ decimal c ∷ codes "upload" ∷ decimal count ∷ [])
EventWords (ask_resume c) words = IsNumber c × (words ≡ codes "ask" ∷ decimal c ∷ codes "resume" ∷ [])
EventWords (ask_list c tokens) words =
    (hex : List ℕ) × IsNumber c × (decode_of hex ≡ Ok tokens)
    × (words ≡ codes "ask" ∷ decimal c ∷ codes "list" ∷ hex ∷ [])
EventWords (ask_download c number) words =
    IsNumber c × IsNumber number × (words ≡ codes "ask" ∷ decimal c ∷ codes "download" ∷ decimal number ∷ [])
EventWords (to_server c number) words =
    IsNumber c × IsNumber number × (words ≡ codes "air" ∷ codes "server" ∷ decimal c ∷ decimal number ∷ [])
EventWords (to_client c number) words =
    IsNumber c × IsNumber number × (words ≡ codes "air" ∷ codes "client" ∷ decimal c ∷ decimal number ∷ [])
EventWords tick_server words = words ≡ codes "tick" ∷ codes "server" ∷ []
EventWords (tick_client c) words = IsNumber c × (words ≡ codes "tick" ∷ decimal c ∷ [])
EventWords (break_client c) words = IsNumber c × (words ≡ codes "break" ∷ decimal c ∷ [])
EventWords (cut_server call choice) words =
    IsNumber call × IsNumber choice × (words ≡ codes "cut" ∷ codes "server" ∷ decimal call ∷ decimal choice ∷ [])
EventWords (cut_client c call choice) words =
    IsNumber c × IsNumber call × IsNumber choice
    × (words ≡ codes "cut" ∷ decimal c ∷ decimal call ∷ decimal choice ∷ [])

-- the words of an event whose numbers have their ranges
abbrev pub EventText : Event → List (List ℕ) → Type 0
EventText event words = IsInRange event × EventWords event words

-- the words of a line
abbrev pub LineWords : Line → List (List ℕ) → Type 0
LineWords (window_line size) words = (1 ≤ size) × (size ≤ 7) × (words ≡ codes "window" ∷ decimal size ∷ [])
LineWords (client_line call) words = (text : List ℕ) × CallText call text × (words ≡ codes "client" ∷ text ∷ [])
LineWords (event_line event) words = EventText event words

-- this text is the line, without its LF
abbrev pub LineText : Line → List ℕ → Type 0
LineText line text = LineWords line (words_of text)

-- these parts of a text are these lines, and then the rest
abbrev pub LinesThen : List Line → List (List ℕ) → List (List ℕ) → Type 0
LinesThen [] rest parts = parts ≡ rest
LinesThen (line ∷ lines) rest parts =
    (text : List ℕ) × (later : List (List ℕ)) × LineText line text × (parts ≡ text ∷ later) × LinesThen lines rest later

-- this text is the schedule: its lines, and nothing after the last LF
pub record ScheduleText (schedule : Schedule) (text : List ℕ) : Type 0 where
  pub is_schedule : IsSchedule schedule
  pub lines : LinesThen (lines_of schedule) ([] ∷ []) (parts_of text)

-- these are the first lines of some schedule
abbrev pub BeginSchedule : List Line → Type 0
BeginSchedule lines =
    (schedule : Schedule) × (more : List Line) × IsSchedule schedule × (lines_of schedule ≡ lines ++ more)

-- this number of lines of the text, each ended by LF, are the first lines of some schedule
pub record BeginsWell (count : ℕ) (text : List ℕ) : Type 0 where
  pub lines : List Line
  pub last : List ℕ
  pub rest : List (List ℕ)
  pub enough : length lines ≡ count
  pub begin : BeginSchedule lines
  pub stand : LinesThen lines (last ∷ rest) (parts_of text)

-- The text is no schedule, and its first line that can't be one's has this number, from 1 on.
pub record FirstBadLine (text : List ℕ) (line : ℕ) : Type 0 where
  pub counted : 1 ≤ line
  pub none : (schedule : Schedule) → ScheduleText schedule text → ⊥
  pub before : BeginsWell (line - 1) text
  pub here : BeginsWell line text → ⊥

-- Each text is the text of at most one schedule.
abbrev pub OneSchedule : Type 0
OneSchedule =
    (text : List ℕ) (one other : Schedule) → ScheduleText one text → ScheduleText other text → one ≡ other

-- Each text has at most one first bad line ..
abbrev pub OneFirstBadLine : Type 0
OneFirstBadLine =
    (text : List ℕ) (one other : ℕ) → FirstBadLine text one → FirstBadLine text other → one ≡ other

-- .. and none if it is the text of a schedule.
abbrev pub NoFirstBadLine : Type 0
NoFirstBadLine =
    (text : List ℕ) (schedule : Schedule) (line : ℕ) → ScheduleText schedule text → FirstBadLine text line → ⊥
