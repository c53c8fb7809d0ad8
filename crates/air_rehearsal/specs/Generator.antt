-- The events that a number draws: which schedule is played, as the worlds go on.
use Rattle.std.specs.Prelude.{◌≡◌, ◌⊎◌, ℕ, zero, suc, ◌+◌, ◌*◌, ◌-◌, ◌/◌, ◌%◌, ◌^◌, ◌==◌, min, List, [], ◌∷◌, length}
use Rattle.std.specs.Prelude.{Bool, true, false, ◌&&◌, not, if◌then◌else◌, Option, None, Some, ⊤}
use Rattle.std.specs.List.{range_with_len}
use Rattle.std.specs.Option.{option_and_then, option_map_or}
use Rattle.disk_model.specs.Cuts.{Cuts}
use Rattle.disk_model.specs.declared.disk.Disk.{Ghosts}
use Rattle.ax25_link.specs.Air.{Transmission}
use Rattle.ax25_link.specs.declared.state.LinkState.TheVariants.{Down}
use Rattle.ftl0_client.specs.Attempt.Attempted.{Attempted}
use Rattle.ftl0_client.specs.Outcomes.{is_under_way}
use Rattle.air_world.specs.Attempts.Attempt.{Attempt}
use Rattle.air_world.specs.Attempts.Party.{Party, newest}
use Rattle.air_world.specs.Lawful.{IsAllowed, last_unfinished}
use Rattle.air_world.specs.Schedule.{Event, Schedule, ask_download, ask_resume, ask_upload, break_client, cut_client}
use Rattle.air_world.specs.Schedule.{cut_server, tick_client, tick_server, to_client, to_server}
use Rattle.air_world.specs.World.{World, first_world}
use Rattle.air_rehearsal.specs.Drawn.{IsDrawnFor, last_acked, rounds}
use Rattle.air_rehearsal.specs.Numbers.{numbered}
use Rattle.air_rehearsal.specs.Rehearsed.{Rehearsed}
use Rattle.air_rehearsal.specs.declared.generator.Fate.{Fate}
use Rattle.air_rehearsal.specs.declared.generator.Fate.TheVariants.{Late, Lost, Once, Twice}
use Rattle.air_rehearsal.specs.declared.generator.Looked.{Looked}
use Rattle.air_rehearsal.specs.declared.report.Report.{Report as StoredReport}

-- Numbers are drawn by a linear congruential generator modulo 2^64: its next state, and the number that a state gives.
abbrev pub next_state : ℕ → ℕ
next_state state = (state * 6364136223846793005 + 1442695040888963407) % 2 ^ 64

abbrev pub number_of : ℕ → ℕ
number_of state = state / 2 ^ 33

-- the next number
abbrev pub next_number : ℕ → ℕ
next_number state = number_of (next_state state)

-- the state after so many draws
abbrev pub state_after : ℕ → ℕ → ℕ
state_after zero state = state
state_after (suc count) state = state_after count (next_state state)

-- Where a generator stands: its state and the world, and the events and the worlds that are still to come.
pub record Drawing : Type 0 where
  pub state : ℕ
  pub world : World
  pub events : List Event
  pub worlds : List World

-- the same, so many draws later
abbrev pub drawn : ℕ → Drawing → Drawing
drawn count it = record it { state = state_after count it.state }

-- ---- an event comes, if it may

-- This event comes, if it may, and no other one.
abbrev pub Tries : Event → Drawing → Drawing → Type 0
Tries event old new =
    (IsAllowed old.world event × (old.events ≡ event ∷ new.events) × (old.worlds ≡ new.world ∷ new.worlds)
    × (new.state ≡ old.state))
    ⊎ ((¬ IsAllowed old.world event) × (new ≡ old))

-- this one, if there is one
abbrev pub TriesIf : Option Event → Drawing → Drawing → Type 0
TriesIf None old new = new ≡ old
TriesIf (Some event) old new = Tries event old new

-- this one so many times, each time if it may
abbrev pub TriesTimes : ℕ → Event → Drawing → Drawing → Type 0
TriesTimes zero event old new = new ≡ old
TriesTimes (suc more) event old new = (next : Drawing) × Tries event old next × TriesTimes more event next new

-- an event, if one is drawn, and how many numbers are drawn for it
pub record Draw : Type 0 where
  pub event : Option Event
  pub count : ℕ

-- no number is drawn, and no event comes
abbrev pub none_drawn : Draw
none_drawn = record { event = None; count = 0 }

-- it is drawn, and comes, if it may
abbrev pub Takes : Draw → Drawing → Drawing → Type 0
Takes it old new = TriesIf it.event (drawn it.count old) new

-- ---- the air

-- What becomes of a transmission, by the number that is drawn, modulo 16, and by whether it is the last one: it is
-- lost, delivered twice, delivered behind the next one, or delivered once.
abbrev pub fate_of : ℕ → Bool → Fate
fate_of draw is_last =
    if draw == 0 then Lost
    else (if draw == 1 then Twice else (if (draw == 2) && not is_last then Late else Once))

-- whether there is none
abbrev pub is_none_of : List ℕ → Bool
is_none_of [] = true
is_none_of (number ∷ later) = false

-- what becomes of the next transmission, where these come behind it
abbrev pub next_fate : ℕ → List ℕ → Fate
next_fate state later = fate_of (next_number state % 16) (is_none_of later)

-- how often it is delivered at once
abbrev pub times_of : Fate → ℕ
times_of Lost = 0
times_of Twice = 2
times_of Late = 0
times_of Once = 1

-- its delivery, if it is put off
abbrev pub put_off : {E : Type 0} → Fate → E → Option E
put_off Lost delivery = None
put_off Twice delivery = None
put_off Late delivery = Some delivery
put_off Once delivery = None

-- this becomes of a transmission, and then the delivery that was put off comes, if one was
abbrev pub CarriesOne : Fate → Event → Option Event → Drawing → Drawing → Type 0
CarriesOne fate delivery waiting old new =
    (amid : Drawing) × TriesTimes (times_of fate) delivery old amid × TriesIf waiting amid new

-- These transmissions are on the air, as this makes deliveries of them, with one draw for each. A delivery that was put
-- off comes behind what is drawn for the next transmission.
abbrev pub Carries : (ℕ → Event) → Option Event → List ℕ → Drawing → Drawing → Type 0
Carries event waiting [] old new = new ≡ old
Carries event waiting (number ∷ later) old new =
    (next : Drawing) × CarriesOne (next_fate old.state later) (event number) waiting (drawn 1 old) next
    × Carries event (put_off (next_fate old.state later) (event number)) later next new

-- the transmissions from one number of them up to another, by their numbers from 1 on
abbrev pub between : ℕ → ℕ → List ℕ
between from to = range_with_len (from + 1) (to - from)

-- ---- exchanges

-- the client of this number
abbrev pub party_of : World → ℕ → Option Party
party_of world number = numbered number world.parties

-- how many attempts it made, as a number of 64 bits tells it
abbrev pub attempts_of : World → ℕ → ℕ
attempts_of world number = option_map_or (λ (party : Party). length party.attempts % 2 ^ 64) (party_of world number) 0

-- how many transmissions its current attempt has, of those that these are
abbrev pub sent_of : (Attempt → List Transmission) → World → ℕ → ℕ
sent_of sent world number = option_map_or (λ a. length (sent a)) (option_and_then newest (party_of world number)) 0

-- none is looked at yet
abbrev pub none_looked : World → ℕ → Looked
none_looked world number = record { attempt = attempts_of world number; to_server = 0; to_client = 0 }

-- those that were looked at, where the attempt is the current one still
abbrev pub still_looked : World → ℕ → Looked → Looked
still_looked world number looked =
    if attempts_of world number == looked.attempt then looked else none_looked world number

-- What comes behind the client's transmissions: the server's, and where there are neither, a tick of both.
abbrev pub Answers : ℕ → List ℕ → List ℕ → Drawing → Drawing → Type 0
Answers number [] [] old new =
    (next : Drawing) × Tries (tick_client number) old next × Tries tick_server next new
Answers number [] (first ∷ more) old new = Carries (to_client number) None (first ∷ more) old new
Answers number (first ∷ more) numbers old new = Carries (to_client number) None numbers old new

-- An exchange: the transmissions of the client that weren't looked at come, and then those of the server.
pub record Exchange (number : ℕ) (looked looked_now : Looked) (old new : Drawing) : Type 0 where
  pub amid : Drawing
  pub attempt : looked_now.attempt ≡ looked.attempt
  pub by_client : looked_now.to_server ≡ sent_of (λ a. a.by_client) old.world number
  pub first : Carries (to_server number) None (between looked.to_server looked_now.to_server) old amid
  pub by_server : looked_now.to_client ≡ sent_of (λ a. a.by_server) amid.world number
  pub second :
      Answers number (between looked.to_server looked_now.to_server)
      (between looked.to_client looked_now.to_client) amid new

-- the client has no link, or one that is down
abbrev pub IsDown : Option Attempted → Type 0
IsDown None = ⊤
IsDown (Some a) = a.end.state ≡ Down

abbrev pub IsClosedBy : Option Party → Type 0
IsClosedBy None = ⊤
IsClosedBy (Some party) = IsDown party.client.attempt

abbrev pub IsClosed : World → ℕ → Type 0
IsClosed world number = IsClosedBy (party_of world number)

-- exchanges until the client is closed, at most so many
abbrev pub Exchanges : ℕ → ℕ → Looked → Drawing → Drawing → Type 0
Exchanges zero number looked old new = new ≡ old
Exchanges (suc more) number looked old new =
    (IsClosed old.world number × (new ≡ old))
    ⊎ ((¬ IsClosed old.world number)
    × ((looked_now : Looked) × (next : Drawing)
    × Exchange number (still_looked old.world number looked) looked_now old next
    × Exchanges more number looked_now next new))

-- those of a turn: none is looked at yet, and there are twenty at most
abbrev pub TurnExchanges : ℕ → Drawing → Drawing → Type 0
TurnExchanges number old new = Exchanges 20 number (none_looked old.world number) old new

-- ---- what is asked

-- what is asked where the client has no unfinished upload, by the draw: the last file that was acknowledged, if one
-- was, or a new one
abbrev pub question : ℕ → ℕ → Option ℕ → Event
question draw number None = ask_upload number (min (draw % 40001) 40000)
question draw number (Some file) =
    if draw % 4 == 0 then ask_download number file else ask_upload number (min (draw % 40001) 40000)

-- the unfinished upload, if there is one, or what is drawn
abbrev pub wish_by : ℕ → ℕ → Option ℕ → Option ℕ → Draw
wish_by state number (Some task) acked = record { event = Some (ask_resume number); count = 0 }
wish_by state number None acked =
    record { event = Some (question (next_number state) number acked); count = 1 }

-- nothing where what was asked of the client is under way
abbrev pub wish_of : ℕ → ℕ → Party → Draw
wish_of state number party =
    if is_under_way party.client.attempt then none_drawn
    else wish_by state number (last_unfinished party.client.lists) (last_acked party.client.lists)

-- what the client of this number is asked for, if anything
abbrev pub wish : ℕ → ℕ → World → Draw
wish state number world = option_map_or (wish_of state number) (party_of world number) none_drawn

-- ---- what ends a turn

-- at which call a cut is to come, and by which choice, as the two next draws say
abbrev pub cut_call : ℕ → ℕ
cut_call state = next_number state % 9 + 1

abbrev pub cut_choice : ℕ → ℕ
cut_choice state = next_number (next_state state)

-- by a draw, modulo 8, behind which this is the state
abbrev pub ending_by : ℕ → ℕ → ℕ → Draw
ending_by draw state number =
    if draw == 0 then record { event = Some (break_client number); count = 1 }
    else (if draw == 1
    then record { event = Some (cut_client number (cut_call state) (cut_choice state)); count = 3 }
    else (if draw == 2 then record { event = Some (cut_server (cut_call state) (cut_choice state)); count = 3 }
    else record { event = None; count = 1 }))

-- what ends the turn of the client of this number: it is broken off, a cut of it or of the server is to come, or
-- nothing
abbrev pub ending : ℕ → ℕ → Draw
ending state number = ending_by (next_number state % 8) (next_state state) number

-- ---- turns

-- the turn of a client: a question, twenty exchanges at most, and what ends it
pub record Turn (number : ℕ) (old new : Drawing) : Type 0 where
  pub asked : Drawing
  pub asks : Takes (wish old.state number old.world) old asked
  pub exchanged : Drawing
  pub exchanges : TurnExchanges number asked exchanged
  pub ends : Takes (ending exchanged.state number) exchanged new

-- turns of these clients, one after another
abbrev pub Turns : List ℕ → Drawing → Drawing → Type 0
Turns [] old new = new ≡ old
Turns (number ∷ numbers) old new = (next : Drawing) × Turn number old next × Turns numbers next new

-- before the first draw
abbrev pub begun_by : ℕ → Schedule → List World → Drawing
begun_by seed schedule worlds =
    record { state = seed; world = first_world schedule; events = schedule.events; worlds = worlds }

-- The schedule's events are those of so many rounds, as the number draws them: the same number and the same worlds give
-- the same events.
pub record IsDrawnBy (seed count : ℕ) (schedule : Schedule) (worlds : List World) : Type 0 where
  pub last : Drawing
  pub turns : Turns (rounds count) (begun_by seed schedule worlds) last
  pub all_events : last.events ≡ []
  pub all_worlds : last.worlds ≡ []

-- A schedule of so many rounds, as the number draws it, was played to its end.
pub record DrivenBy {B : Type 0} (g : Ghosts B) (cuts : Cuts B) (seed count : ℕ) (bench bench_now : List B)
    (report : StoredReport) : Type 0 where
  pub schedule : Schedule
  pub drawn_for : IsDrawnFor schedule
  pub rehearsed : Rehearsed g cuts schedule bench bench_now report
  pub drawn_by : IsDrawnBy seed count schedule rehearsed.worlds
