-- A schedule: the window of the links, the clients' calls, and the events, in order. Clients and transmissions are
-- numbered from 1 on.
use Rattle.std.specs.Prelude.{◌≢◌, ℕ, ◌<◌, ◌≤◌, ◌^◌, List, [], ◌∷◌, length, ⊤}
use Rattle.std.specs.List.{AllByRecursion}
use Rattle.px_base.specs.CallSign.{CallSign, IsCall}
use Rattle.px_base.specs.Octets.{IsOctets}

pub data Event : Type 0 where
  -- a client is asked: for a new file with a body of this number of octets; for its last unfinished upload again; for
  -- the list of the files of these tokens' selection; for the file of this number
  ask_upload : ℕ → ℕ → Event
  ask_resume : ℕ → Event
  ask_list : ℕ → List ℕ → Event
  ask_download : ℕ → ℕ → Event
  -- the server hears the transmission of this number of a client's; a client hears that of the server's
  to_server : ℕ → ℕ → Event
  to_client : ℕ → ℕ → Event
  tick_server : Event
  tick_client : ℕ → Event
  -- a client starts again from its notes
  break_client : ℕ → Event
  -- The next event of the station is to be cut, at the call of this number that writes or syncs; which octets its
  -- disk is left with is the disk's choice by the other number.
  cut_server : ℕ → ℕ → Event
  cut_client : ℕ → ℕ → ℕ → Event

-- tokens of a selection that may be asked, and the number of a file that may be
abbrev pub AreTokens : List ℕ → Type 0
AreTokens tokens = (1 ≤ length tokens) × (length tokens ≤ 2047) × IsOctets tokens

abbrev pub IsFileNumber : ℕ → Type 0
IsFileNumber number = (1 ≤ number) × (number < 2 ^ 32)

-- the numbers of an event have their ranges
abbrev pub IsInRange : Event → Type 0
IsInRange (ask_upload c count) = count ≤ 40000
IsInRange (ask_resume c) = ⊤
IsInRange (ask_list c tokens) = AreTokens tokens
IsInRange (ask_download c number) = IsFileNumber number
IsInRange (to_server c number) = ⊤
IsInRange (to_client c number) = ⊤
IsInRange tick_server = ⊤
IsInRange (tick_client c) = ⊤
IsInRange (break_client c) = ⊤
IsInRange (cut_server call choice) = 1 ≤ call
IsInRange (cut_client c call choice) = 1 ≤ call

-- it is no cut of a station's event
abbrev pub IsNoCut : Event → Type 0
IsNoCut (cut_server call choice) = ⊥
IsNoCut (cut_client c call choice) = ⊥
IsNoCut event = ⊤

pub record Schedule : Type 0 where
  pub size : ℕ
  pub calls : List CallSign
  pub events : List Event

-- none of these calls is another one's
abbrev pub AreDistinct : List CallSign → Type 0
AreDistinct [] = ⊤
AreDistinct (call ∷ calls) = AllByRecursion (λ other. call ≢ other) calls × AreDistinct calls

-- what a schedule is: a window of 1 to 7, at most eight clients of different calls, and events in their ranges
pub record IsSchedule (schedule : Schedule) : Type 0 where
  pub some : 1 ≤ schedule.size
  pub few : schedule.size ≤ 7
  pub most : length schedule.calls ≤ 8
  pub are_calls : AllByRecursion IsCall schedule.calls
  pub distinct : AreDistinct schedule.calls
  pub in_range : AllByRecursion IsInRange schedule.events
