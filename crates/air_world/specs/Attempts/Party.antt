-- One client of the world: the client itself, what its tasks send, and its attempts.
use Rattle.std.specs.Prelude.{◌≡◌, ℕ, ◌-◌, ◌==◌, List, [], ◌∷◌, map, slice_get, Bool, false, if◌then◌else◌}
use Rattle.std.specs.Prelude.{Option, None, Some, IfSome, MatchOption, ⊤}
use Rattle.std.specs.List.{AllByRecursion}
use Rattle.std.specs.Option.{option_and_then, option_map, option_map_or, option_or}
use Rattle.px_base.specs.CallSign.{CallSign}
use Rattle.ax25_link.specs.Air.{Transmission, delivering, sending_all}
use Rattle.ax25_frames.specs.FrameText.{FrameValue}
use Rattle.ax25_link.specs.Window.{Window}
use Rattle.client_notes.specs.Notes.{no_notes}
use Rattle.ftl0_client.specs.Attempt.Attempted.{Attempted}
use Rattle.ftl0_client.specs.Client.{Client, new_client}
use Rattle.air_world.specs.Attempts.Attempt.{Attempt}
use Rattle.air_world.specs.Attempts.Sides.{ServerSide}

-- The client; of each of its tasks, in order, which upload it is; its attempts, the newest one first; and whether its
-- next event is to be cut.
pub record Party : Type 0 where
  pub client : Client
  pub uploads : List ℕ
  pub attempts : List Attempt
  pub is_cut : Bool

-- a client of which nothing was asked, without notes
abbrev pub first_party : CallSign → Window → CallSign → Party
first_party server w me =
    record { client = new_client me server w no_notes; uploads = []; attempts = []; is_cut = false }

-- an upload that was asked: the place of the client, the name under which it is noted, and the file
pub record Asked : Type 0 where
  pub client : ℕ
  pub name : List ℕ
  pub file : List ℕ

-- which upload the task of this number is, if there is one
abbrev pub upload_of : Party → ℕ → Option ℕ
upload_of party task = if task == 0 then None else slice_get party.uploads (task - 1)

-- the file of the task of this number: the one with which its upload was asked
abbrev pub file_of_task : List Asked → Party → ℕ → Option (List ℕ)
file_of_task files party task =
    option_map (λ (asked : Asked). asked.file) (option_and_then (slice_get files) (upload_of party task))

abbrev pub IsFileOf : List Asked → Party → ℕ → List ℕ → Type 0
IsFileOf files party task file = file_of_task files party task ≡ Some file

-- the current attempt, if there was one
abbrev pub newest : Party → Option Attempt
newest party = slice_get party.attempts 0

-- the newest attempt, if there is one, made into this, and no other
abbrev pub with_newest : (Attempt → Attempt) → List Attempt → List Attempt
with_newest change [] = []
with_newest change (a ∷ older) = change a ∷ older

-- the newest attempt that a session answered made into this, and no other
abbrev pub with_answered : (Attempt → ServerSide → Attempt) → List Attempt → List Attempt
with_answered change [] = []
with_answered change (a ∷ older) =
    option_map_or (λ side. change a side ∷ older) a.server (a ∷ with_answered change older)

-- the server's side of the newest attempt that a session answered, if there is one
abbrev pub newest_side : List Attempt → Option ServerSide
newest_side [] = None
newest_side (a ∷ older) = option_or a.server (newest_side older)

-- the sessions are over: their ends and states stay as they were last
abbrev pub over : ServerSide → ServerSide
over side = record side { is_up = false }

abbrev pub all_over : List Attempt → List Attempt
all_over attempts = map (λ (a : Attempt). record a { server = option_map over a.server }) attempts

abbrev pub sessions_over : Party → Party
sessions_over party = record party { attempts = all_over party.attempts }

-- the transmission at this place of one of the two stations is delivered
abbrev pub to_server_delivered : ℕ → Transmission → Attempt → Attempt
to_server_delivered place t a = record a { by_client = delivering a.by_client place t }

abbrev pub to_client_delivered : ℕ → Transmission → Attempt → Attempt
to_client_delivered place t a = record a { by_server = delivering a.by_server place t }

-- none of the sessions of these attempts is up
abbrev pub AreOver : List Attempt → Type 0
AreOver attempts = AllByRecursion (λ a. IfSome a.server (λ side. side.is_up ≡ false)) attempts

-- of the sessions of a client at most the newest one is up
abbrev pub OnlyNewestUp : List Attempt → Type 0
OnlyNewestUp [] = ⊤
OnlyNewestUp (a ∷ older) = MatchOption a.server (OnlyNewestUp older) (λ _. AreOver older)

-- these frames are sent by one of them
abbrev pub client_sends : List FrameValue → Attempt → Attempt
client_sends frames a = record a { by_client = sending_all a.by_client frames }

abbrev pub server_sends : List FrameValue → Attempt → Attempt
server_sends frames a = record a { by_server = sending_all a.by_server frames }

-- so it is of each attempt
abbrev pub EachAttempt : Party → (Attempt → Type 0) → Type 0
EachAttempt party P = AllByRecursion P party.attempts

-- so it is of each session that a client ever had
abbrev pub EachSide : Party → (Attempt → ServerSide → Type 0) → Type 0
EachSide party P = EachAttempt party (λ a. IfSome a.server (P a))

-- the client's link and job, if it has any, are those of its current attempt
abbrev pub IsLinkOf : Option Attempt → Option Attempted → Type 0
IsLinkOf current None = ⊤
IsLinkOf None (Some a) = ⊥
IsLinkOf (Some current) (Some a) = current.client.attempted ≡ a
