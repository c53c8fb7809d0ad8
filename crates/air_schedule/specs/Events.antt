-- What the events in memory stand for, and what a reader of their words answers.
use Rattle.std.specs.Prelude.{ℕ, List, Option, MatchOption, MatchResult, Result}
use Rattle.air_schedule.specs.declared.event.Event.{Event as StoredEvent}
use Rattle.air_schedule.specs.declared.event.Event.TheVariants.{AskDownload, AskList, AskResume, AskUpload, BreakClient}
use Rattle.air_schedule.specs.declared.event.Event.TheVariants.{CutClient, CutServer, TickClient, TickServer}
use Rattle.air_schedule.specs.declared.event.Event.TheVariants.{ToClient, ToServer}
use Rattle.air_schedule.specs.declared.fault.LineFault.{LineFault}
use Rattle.air_schedule.specs.Causes.{IsCause}
use Rattle.air_schedule.specs.Schedule.{Event, ask_download, ask_list, ask_resume, ask_upload, break_client}
use Rattle.air_schedule.specs.Schedule.{cut_client, cut_server, tick_client, tick_server, to_client, to_server}
use Rattle.air_schedule.specs.Text.{EventText}

-- the event that one in memory stands for
abbrev pub event_value : StoredEvent → Event
event_value (AskUpload c count) = ask_upload c count
event_value (AskResume c) = ask_resume c
event_value (AskList c tokens) = ask_list c tokens.items
event_value (AskDownload c number) = ask_download c number
event_value (ToServer c number) = to_server c number
event_value (ToClient c number) = to_client c number
event_value TickServer = tick_server
event_value (TickClient c) = tick_client c
event_value (BreakClient c) = break_client c
event_value (CutServer call choice) = cut_server call choice
event_value (CutClient c call choice) = cut_client c call choice

-- no event has these words
abbrev pub IsNoEvent : List (List ℕ) → Type 0
IsNoEvent words = (event : Event) → EventText event words → ⊥

-- the event of these words is read, or there is none
abbrev pub ReadsEvent : List (List ℕ) → Option StoredEvent → Type 0
ReadsEvent words answer = MatchOption answer (IsNoEvent words) (λ event. EventText (event_value event) words)

-- the same, or there was no memory
abbrev pub TakesEvent : List (List ℕ) → Result StoredEvent LineFault → Type 0
TakesEvent words answer = MatchResult answer (λ event. EventText (event_value event) words) (IsCause (IsNoEvent words))
