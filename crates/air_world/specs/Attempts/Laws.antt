-- Laws of the attempts of one client: what each event makes of them, and what a side took of what the other one said.
use Rattle.std.specs.Prelude.{◌≡◌, ◌≢◌, ◌⊎◌, ℕ, ◌^◌, ◌<◌, List, [], ◌∷◌, ◌++◌, length, map, slice_get}
use Rattle.std.specs.Prelude.{true, false, None, Some, Ok}
use Rattle.std.specs.Prelude.{⊤}
use Rattle.std.specs.List.{AllByRecursion}
use Rattle.px_base.specs.CallSign.{CallSign}
use Rattle.px_base.specs.Octets.{IsOctets}
use Rattle.ax25_frames.specs.FrameText.{FrameValue}
use Rattle.ax25_link.specs.Air.{IsLawful, Transmission}
use Rattle.ax25_link.specs.declared.state.LinkState.TheVariants.{Up}
use Rattle.ax25_link.specs.Ends.{LinkEnd}
use Rattle.ax25_link.specs.Rows.{is_call}
use Rattle.ax25_link.specs.Window.{IsWindow}
use Rattle.ftl0_packets.specs.Layout.{Fits}
use Rattle.turn_loop.specs.Events.{NodeEvent, hears as frame_comes, ticks as tick_comes}
use Rattle.file_store.specs.Command.{after_all}
use Rattle.ftl0_server.specs.Connection.Connected.{Connected, caller_of}
use Rattle.ftl0_server.specs.Connection.Hearing.{Happened, hearing, with_end}
use Rattle.ftl0_server.specs.Entries as session
use Rattle.ftl0_server.specs.Server.{Server}
use Rattle.ftl0_server.specs.ServerStep.{ServerStep, Stepped}
use Rattle.ftl0_server.specs.Slots.{connected, leaving, place_of}
use Rattle.ftl0_server.specs.StepLaws.Steps as server
use Rattle.client_notes.specs.Command.{NotesCommand}
use Rattle.ftl0_client_job.specs.JobState.{IsNew, NotesGoWith}
use Rattle.ftl0_client_job.specs.declared.work.Work.{Work}
use Rattle.ftl0_client_job.specs.declared.work.Work.TheVariants as work
use Rattle.ftl0_client.specs.Client.{Client, ClientEvent, asks, hears, ticks}
use Rattle.ftl0_client.specs.ClientStep.{ClientStep}
use Rattle.ftl0_client.specs.Entries as job
use Rattle.ftl0_client.specs.Laws as client
use Rattle.air_world.specs.Attempts.Attempt.{Attempt, IsAttempt}
use Rattle.air_world.specs.Attempts.Lists.{AreFirstOf}
use Rattle.air_world.specs.Attempts.Party.{AreOver, IsLinkOf, OnlyNewestUp, all_over, newest_side, to_client_delivered}
use Rattle.air_world.specs.Attempts.Party.{to_server_delivered, with_newest}
use Rattle.air_world.specs.Attempts.Sides.{ServerSide, said_by_client, said_by_server}
use Rattle.air_world.specs.Attempts.Transfers.{ServerDid, after_event, after_hearing, after_tick, connection_of}

-- each is an attempt of the client at this call with this server
abbrev pub AreAttempts : CallSign → CallSign → List Attempt → Type 0
AreAttempts me server attempts = AllByRecursion (IsAttempt me server) attempts

-- A transmission of those that these are in the current attempt may be delivered. These are the attempts once it is
-- marked.
pub record Delivers (sent : Attempt → List Transmission) (mark : ℕ → Transmission → Attempt → Attempt)
    (attempts : List Attempt) (frame : FrameValue) (marked : List Attempt) : Type 0 where
  pub attempt : Attempt
  pub current : slice_get attempts 0 ≡ Some attempt
  pub place : ℕ
  pub t : Transmission
  pub lawful : IsLawful attempt.window (sent attempt) place t
  pub frame_is : frame ≡ t.frame
  pub marked_is : marked ≡ with_newest (mark place t) attempts

abbrev pub DeliversToClient : List Attempt → FrameValue → List Attempt → Type 0
DeliversToClient attempts frame marked = Delivers (λ a. a.by_server) to_client_delivered attempts frame marked

abbrev pub DeliversToServer : List Attempt → FrameValue → List Attempt → Type 0
DeliversToServer attempts frame marked = Delivers (λ a. a.by_client) to_server_delivered attempts frame marked

-- The packets that a session took are the first of those that its client said.
abbrev pub ServerTookFront : Attempt → ServerSide → Type 0
ServerTookFront a side = AreFirstOf (session.items_in side.entries) (map Ok (said_by_client a.client))

-- The packets that a job took are the first of those that its session said.
abbrev pub ClientTookFront : Attempt → ServerSide → Type 0
ClientTookFront a side = AreFirstOf (job.items_in a.client.entries) (map Ok (said_by_server side))

-- ---- the client's events

-- What reaches the client may come: a job that was just made, a transmission of the server's, or a tick. These are its
-- attempts then, with the delivery, if it is one, marked.
abbrev pub MayComeTo : ClientEvent → List Attempt → List Attempt → Type 0
MayComeTo (asks job) attempts marked = IsNew job × (marked ≡ attempts)
MayComeTo (hears frame) attempts marked = DeliversToClient attempts frame marked
MayComeTo ticks attempts marked = marked ≡ attempts

-- A client and its attempts: each is one of its own, with its window; its link, if it has one, is that of the current
-- one; and it may step.
pub record GoesWith (it : Client) (attempts : List Attempt) : Type 0 where
  pub window : IsWindow it.window
  pub attempts_are : AreAttempts it.me it.server attempts
  pub windows : AllByRecursion (λ a. a.window ≡ it.window) attempts
  pub link : IsLinkOf (slice_get attempts 0) it.attempt
  pub may_step : client.MayStep it

-- the fields of the packets by which this work is asked have their ranges
abbrev pub WorkFits : Work → Type 0
WorkFits (work.Upload at) = (at.known < 2 ^ 32) × (length at.file < 2 ^ 32) × IsOctets at.file
WorkFits (work.Directory at) = (length at.tokens < 2048) × IsOctets at.tokens
WorkFits (work.Download at) = at.number < 2 ^ 32

-- What the job of an attempt needs so that the fields of all that it says have their ranges: its work's have, and the
-- notes go with it.
pub record MaySay (it : Client) (a : Attempt) : Type 0 where
  pub asked : WorkFits a.client.asked
  pub go_with : NotesGoWith it.lists a.client.attempted.job

-- So it is with the current attempt, if the client's link is its, at an event at which the job may say something.
abbrev pub MaySayAt : ClientEvent → Client → List Attempt → Type 0
MaySayAt (asks job) it attempts = ⊤
MaySayAt event it attempts =
    (a : Attempt) → slice_get attempts 0 ≡ Some a → it.attempt ≡ Some a.client.attempted → MaySay it a

-- So it is after each event that may come.
abbrev pub ClientLaw : Type 0
ClientLaw =
    (old new : Client) (event : ClientEvent) (noted : List NotesCommand) (frames : List FrameValue)
    (attempts marked : List Attempt) → GoesWith old attempts → MaySayAt event old attempts
    → MayComeTo event attempts marked → ClientStep old event noted frames new
    → GoesWith new (after_event event (record { old = old; now = new; frames = frames }) marked)

-- ---- the server's events

-- this connection is at the place of the server
abbrev pub IsSeatedIn : Server → ℕ → Connected → Type 0
IsSeatedIn it place c = slice_get it.slots place ≡ Some (connected c)

-- A server between events: it has eight places, no two connections of one caller, none whose session is over, and each
-- with its link up; and it may step.
pub record IsBetween (it : Server) : Type 0 where
  pub window : IsWindow it.window
  pub may_step : server.MayStep it
  pub eight : length it.slots ≡ 8
  pub distinct :
      (place other : ℕ) (c that : Connected) → IsSeatedIn it place c → IsSeatedIn it other that
      → caller_of c ≡ caller_of that → place ≡ other
  pub none_leaving : (place : ℕ) (c : Connected) → slice_get it.slots place ≢ Some (leaving c)
  pub ups : (place : ℕ) (c : Connected) → IsSeatedIn it place c → c.end.state ≡ Up

-- the connection is that of the newest session of these attempts, which is up
pub record IsNewestSession (c : Connected) (attempts : List Attempt) : Type 0 where
  pub side : ServerSide
  pub is_newest : newest_side attempts ≡ Some side
  pub connected_is : side.connected ≡ c
  pub is_up : side.is_up ≡ true

-- The attempts of the caller at this call and its place in the server: without one no session is up, and else the
-- newest one is, which is there.
pub record SitsBy (it : Server) (me : CallSign) (attempts : List Attempt) : Type 0 where
  pub none : place_of me it.slots ≡ None → AreOver attempts
  pub some :
      (place : ℕ) (c : Connected) → place_of me it.slots ≡ Some place → IsSeatedIn it place c
      → IsNewestSession c attempts
  pub newest_up : OnlyNewestUp attempts

-- A caller of a server: its attempts, each with the server's window, and its place.
pub record Calls (it : Server) (me : CallSign) (attempts : List Attempt) : Type 0 where
  pub attempts_are : AreAttempts me it.me attempts
  pub windows : AllByRecursion (λ a. a.window ≡ it.window) attempts
  pub sits : SitsBy it me attempts

-- what the server did in a step of an event at this moment in which no disk call fails
abbrev pub did_in : {old : Server} {event : NodeEvent} {gives : Stepped} → ℕ → ServerStep old event [] gives → ServerDid
did_in {old} {event} {gives} moment step =
    record { old = old; last = step.last; moment = moment; frames = gives.frames }

-- a connection of this caller was there, or the caller is one of these
abbrev pub IsKnown : Server → (CallSign → Type 0) → CallSign → Type 0
IsKnown old IsNew caller =
    IsNew caller ⊎ ((place : ℕ) × (c : Connected) × IsSeatedIn old place c × (caller_of c ≡ caller))

-- A step keeps the server's call, window and places, and its store is the one after its commands. No caller gets a
-- place except one of these.
pub record StaysServer (old : Server) (gives : Stepped) (IsNew : CallSign → Type 0) : Type 0 where
  pub me_is : gives.new.me ≡ old.me
  pub window_is : gives.new.window ≡ old.window
  pub between : IsBetween gives.new
  pub store_is : gives.new.store ≡ after_all old.store gives.done
  pub known : (place : ℕ) (c : Connected) → IsSeatedIn gives.new place c → IsKnown old IsNew (caller_of c)

-- The fields of all that the server says at a frame have their ranges: LOGIN_RESP of this moment, and what the session
-- of the frame's sender says.
pub record SaysFit (old : Server) (frame : FrameValue) (moment : ℕ) : Type 0 where
  pub moment_fits : moment < 2 ^ 32
  pub said :
      (place : ℕ) (c : Connected) → place_of frame.src old.slots ≡ Some place → IsSeatedIn old place c
      → is_call frame.kind.control ≡ false
      → AllByRecursion Fits
      (session.said_in (session.entries_heard old.window moment old.store old.lists c frame))

-- What the server makes of a frame: of the attempts of the client whose frame it is, and of all others.
pub record ServerHearsLaw : Type 0 where
  pub server :
      (old : Server) (frame : FrameValue) (moment : ℕ) (gives : Stepped) → IsBetween old
      → ServerStep old (frame_comes frame moment) [] gives → StaysServer old gives (λ caller. caller ≡ frame.src)
  pub own :
      (old : Server) (frame : FrameValue) (moment : ℕ) (gives : Stepped) (attempts marked : List Attempt)
      → IsBetween old → SaysFit old frame moment → Calls old frame.src attempts
      → DeliversToServer attempts frame marked → (step : ServerStep old (frame_comes frame moment) [] gives)
      → Calls gives.new frame.src (after_hearing (did_in moment step) frame marked)
  pub other :
      (old : Server) (frame : FrameValue) (moment : ℕ) (gives : Stepped) (me : CallSign) (attempts : List Attempt)
      → IsBetween old → Calls old me attempts → me ≢ frame.src
      → ServerStep old (frame_comes frame moment) [] gives → Calls gives.new me attempts

-- what a frame of the caller makes of its connection, at what the server did
abbrev pub heard_in : ServerDid → Connected → FrameValue → Happened
heard_in did c frame = hearing did.old.window did.moment did.old.store did.old.lists c frame []

-- the caller's connection, the commands and the lists are those that the session makes of the frame
pub record SessionHears (did : ServerDid) (gives : Stepped) (frame : FrameValue) (c : Connected) : Type 0 where
  pub end : LinkEnd
  pub after_is : connection_of did.last frame.src ≡ Some (with_end (heard_in did c frame).after end)
  pub done_is : gives.done ≡ (heard_in did c frame).done
  pub lists_are : gives.new.lists ≡ (heard_in did c frame).lists

-- What a frame makes of store and lists: what the session makes of it that hears it; and nothing, if it is a SABM or no
-- session does.
pub record HeardLaw : Type 0 where
  pub heard :
      (old : Server) (frame : FrameValue) (moment : ℕ) (gives : Stepped) (place : ℕ) (c : Connected) → IsBetween old
      → is_call frame.kind.control ≡ false → place_of frame.src old.slots ≡ Some place → IsSeatedIn old place c
      → (step : ServerStep old (frame_comes frame moment) [] gives) → SessionHears (did_in moment step) gives frame c
  pub unheard :
      (old : Server) (frame : FrameValue) (moment : ℕ) (gives : Stepped) → IsBetween old
      → (is_call frame.kind.control ≡ true) ⊎ (place_of frame.src old.slots ≡ None)
      → ServerStep old (frame_comes frame moment) [] gives
      → (gives.done ≡ []) × (gives.new.lists ≡ old.lists)

-- And what it makes of a tick, of the attempts of each client.
pub record ServerTicksLaw : Type 0 where
  pub server :
      (old : Server) (moment : ℕ) (gives : Stepped) → IsBetween old → ServerStep old (tick_comes moment) [] gives
      → StaysServer old gives (λ caller. ⊥) × (gives.new.store ≡ old.store) × (gives.new.lists ≡ old.lists)
  pub each :
      (old : Server) (moment : ℕ) (gives : Stepped) (me : CallSign) (attempts : List Attempt) → IsBetween old
      → Calls old me attempts → (step : ServerStep old (tick_comes moment) [] gives)
      → Calls gives.new me (after_tick (did_in moment step) me attempts)

-- the newest attempt is this one, with this session, which is up
pub record IsServedBy (attempts : List Attempt) (c : Connected) : Type 0 where
  pub attempt : Attempt
  pub older : List Attempt
  pub attempts_are : attempts ≡ attempt ∷ older
  pub side : ServerSide
  pub is_side : attempt.server ≡ Some side
  pub connected_is : side.connected ≡ c
  pub is_up : side.is_up ≡ true

-- A frame that is no SABM and that a session hears is of the current attempt, and so is the session.
abbrev pub CurrentLaw : Type 0
CurrentLaw =
    (old : Server) (frame : FrameValue) (attempts marked : List Attempt) (place : ℕ) (c : Connected)
    → Calls old frame.src attempts → DeliversToServer attempts frame marked → is_call frame.kind.control ≡ false
    → place_of frame.src old.slots ≡ Some place → IsSeatedIn old place c → IsServedBy attempts c

-- What a session takes by a frame are the next packets that its client said.
abbrev pub HeardFrontLaw : Type 0
HeardFrontLaw =
    (old : Server) (frame : FrameValue) (moment : ℕ) (attempts marked : List Attempt) (place : ℕ) (c : Connected)
    → IsBetween old → Calls old frame.src attempts → DeliversToServer attempts frame marked
    → is_call frame.kind.control ≡ false → place_of frame.src old.slots ≡ Some place → IsSeatedIn old place c
    → (served : IsServedBy attempts c)
    → ServerTookFront served.attempt
    (record served.side {
      entries = served.side.entries ++ session.entries_heard old.window moment old.store old.lists c frame;
    })

-- ---- what a power cut leaves

-- Attempts stay attempts if their sessions are over, and if a transmission is marked as delivered.
pub record LeftLaw : Type 0 where
  pub over : (me server : CallSign) (attempts : List Attempt) → AreAttempts me server attempts
      → AreAttempts me server (all_over attempts)
  pub to_client :
      (me server : CallSign) (attempts marked : List Attempt) (frame : FrameValue)
      → AreAttempts me server attempts → DeliversToClient attempts frame marked → AreAttempts me server marked
  pub to_server :
      (me server : CallSign) (attempts marked : List Attempt) (frame : FrameValue)
      → AreAttempts me server attempts → DeliversToServer attempts frame marked → AreAttempts me server marked

-- ---- what one side took

-- So it is in each attempt that a session answered.
abbrev pub FrontLaw : Type 0
FrontLaw =
    (me server : CallSign) (a : Attempt) (side : ServerSide) → IsAttempt me server a → a.server ≡ Some side
    → ServerTookFront a side × ClientTookFront a side
