-- A rehearsal from its first event to its end.
use Rattle.std.specs.Prelude.{◌≡◌, ◌+◌, ◌%◌, ◌^◌, ◌<◌, ◌∷◌, ◌++◌}
use Rattle.std.proofs.Common.{sym, ap, ◌∙◌, subst, arith}
use Rattle.air_rehearsal.specs.declared.report.Report.{Report as StoredReport}
use Rattle.air_rehearsal.proofs.Names.{ℕ, zero, suc, List, [], length, map, Option, None, refl, Bool, false, true, range_with_len, sum_by, option_and_then, sum_by-cons, Cuts, Ghosts, ClientDoes, ClientEvent, Plays, ServerDoes, ServerEvent, WorldStep, ServerTakes, Event, Schedule, ask_download, ask_list, ask_resume, ask_upload, break_client, cut_client, cut_server, tick_client, tick_server, to_client, to_server, World, first_world, Follow, Stage, last_stage, Tells, HasPlayed, counts_to, Bench, IsPlaying, IsStage, PlaysEvent, cuts_in, waiting_in, first_stage, until, Report, cuts_of, is_fetch, is_refusal, last_world, waiting_of, IsStationOf, Station, client_at, role_of, stations_of, the_server, with_cut, Party as StoredParty, Stations, NodeEvent}
use Rattle.air_rehearsal.proofs.CountLemmas.{all-cuts-more, events-more, one-cut, one_cut, questions-more, times-more, waiting_since}
use Rattle.air_rehearsal.proofs.CourseLemmas.{has_played_more}

-- ---- an event is one more

delivers_no_event :
    (old : World) (event : Event) (coming : NodeEvent) (delivered : World) → ServerTakes old event coming delivered
    → delivered.events ≡ old.events
delivers_no_event old (to_server zero place) coming delivered takes = absurd takes
delivers_no_event old (to_server (suc c) zero) coming delivered takes = absurd takes
delivers_no_event old (to_server (suc c) (suc place)) coming delivered takes =
    ap (λ (w : World). w.events) takes.delivered_is
delivers_no_event old tick_server coming delivered takes = ap (λ (w : World). w.events) takes.1
delivers_no_event old (ask_upload c count) coming delivered takes = absurd takes
delivers_no_event old (ask_resume c) coming delivered takes = absurd takes
delivers_no_event old (ask_list c tokens) coming delivered takes = absurd takes
delivers_no_event old (ask_download c number) coming delivered takes = absurd takes
delivers_no_event old (to_client c place) coming delivered takes = absurd takes
delivers_no_event old (tick_client c) coming delivered takes = absurd takes
delivers_no_event old (break_client c) coming delivered takes = absurd takes
delivers_no_event old (cut_server call choice) coming delivered takes = absurd takes
delivers_no_event old (cut_client c call choice) coming delivered takes = absurd takes

server_counts : (old new : World) (event : Event) → ServerEvent old event new → new.events ≡ suc old.events
server_counts old new event happens =
    let same = delivers_no_event old event happens.coming happens.delivered happens.takes in
    does_count old.is_cut happens.does ∙ ap suc same
  where
    does_count :
        (cut : Bool) → ServerDoes cut old happens.coming happens.delivered new
        → new.events ≡ suc happens.delivered.events
    does_count false does = ap (λ (w : World). w.events) does.new_is
    does_count true does = ap (λ (w : World). w.events) does.new_is

client_counts : (old new : World) (event : Event) → ClientEvent old event new → new.events ≡ suc old.events
client_counts old new event happens = does_count happens.part.party.is_cut happens.does
  where
    does_count : (cut : Bool) → ClientDoes cut old happens.c happens.part new → new.events ≡ suc old.events
    does_count false does = ap (λ (w : World). w.events) does.new_is
    does_count true does = ap (λ (w : World). w.events) does.new_is

pub one_more : (old new : World) (event : Event) → WorldStep old event new → new.events ≡ suc old.events
one_more old new (ask_upload c count) step = client_counts old new (ask_upload c count) step.happens
one_more old new (ask_resume c) step = client_counts old new (ask_resume c) step.happens
one_more old new (ask_list c tokens) step = client_counts old new (ask_list c tokens) step.happens
one_more old new (ask_download c number) step = client_counts old new (ask_download c number) step.happens
one_more old new (to_server c place) step = server_counts old new (to_server c place) step.happens
one_more old new (to_client c place) step = client_counts old new (to_client c place) step.happens
one_more old new tick_server step = server_counts old new tick_server step.happens
one_more old new (tick_client c) step = client_counts old new (tick_client c) step.happens
one_more old new (break_client c) step = ap (λ (w : World). w.events) step.happens.3
one_more old new (cut_server call choice) step = ap (λ (w : World). w.events) step.happens
one_more old new (cut_client c call choice) step = ap (λ (w : World). w.events) step.happens.3

-- the next world is played then
pub playing_next :
    {B : Type 0} (g : Ghosts B) (cuts : Cuts B) (world : World) (event : Event) (at now : Bench B)
    → (plays : PlaysEvent g cuts world event at now) → IsPlaying g cuts plays.goes.next now
playing_next g cuts world event at now plays = record {
  bench = plays.goes.bench;
  moment =
      plays.goes.moment ∙ plays.moment_is
      ∙ ap (λ (n : ℕ). n % 2 ^ 32) (sym (one_more world plays.goes.next event plays.goes.step));
}

-- ---- the cut that waits

module _ {B : Type 0} (g : Ghosts B) (cuts : Cuts B) (station : Station) where
  follow_waits :
      (stage : Stage B) (events : List Event) (stages : List (Stage B)) → Follow g cuts station stage events stages
      → (last_stage stage stages).waiting ≡ waiting_since station stage.waiting events
  follow_waits stage [] stages follow =
      ap (λ (s : List (Stage B)). (last_stage stage s).waiting) follow
  follow_waits stage (event ∷ events) stages follow =
      ap (λ (s : List (Stage B)). (last_stage stage s).waiting) follow.2
      ∙ follow_waits follow.0 events follow.1 follow.4
      ∙ ap (λ (w : Option ℕ). waiting_since station w events) follow.3.waiting_is

stage_waits :
    {B : Type 0} (world : World) (at : Bench B) (station : Station) (stage : Stage B) → IsStage world at station stage
    → waiting_in at.stations station ≡ stage.waiting
stage_waits world at the_server stage is = sym (ap (λ (s : Stage _). s.waiting) is)
stage_waits world at (client_at c) stage is =
    ap (λ (x : Option StoredParty). option_and_then (λ (party : StoredParty). waiting_of party.cut) x) is.is_party
    ∙ sym (ap (λ (s : Stage _). s.waiting) is.stage_is)

-- two sums over the stations of a rehearsal
same_sums :
    (f h : Station → ℕ) (from n : ℕ) → ((c : ℕ) → c < from + n → f (client_at c) ≡ h (client_at c))
    → sum_by f (map client_at (range_with_len from n)) ≡ sum_by h (map client_at (range_with_len from n))
same_sums f h from zero same = refl
same_sums f h from (suc n) same =
    let first = same from (omega arith) in
    let rest = same_sums f h (from + 1) n (λ c less. same c (omega (arith, less))) in
    let one = sum_by-cons f (client_at from) (map client_at (range_with_len (from + 1) n)) in
    let other = sum_by-cons h (client_at from) (map client_at (range_with_len (from + 1) n)) in
    omega (arith, first, rest, one, other)

module _ {B : Type 0} (g : Ghosts B) (cuts : Cuts B) (schedule : Schedule) (worlds : List World) (bench : List B)
    (at : Bench B) (played : HasPlayed g cuts schedule worlds bench at) where
  waits :
      (station : Station) → IsStationOf schedule station
      → waiting_in at.stations station ≡ waiting_since station None schedule.events
  waits station is =
      let path = (played.paths station is).2 in
      stage_waits (last_world (first_world schedule) worlds) at station
      (last_stage (first_stage schedule path.start) path.stages) path.last
      ∙ follow_waits g cuts station (first_stage schedule path.start) schedule.events path.stages path.follow

  cuts_so :
      (event : Event) (world : World)
      → cuts_in at.stations event world
      ≡ sum_by (λ station. one_cut (role_of station event) (waiting_since station None schedule.events))
      (stations_of schedule)
  cuts_so event world =
      let f : Station → ℕ = λ station.
      length (with_cut (role_of station event) (waiting_in at.stations station) world []) in
      let h : Station → ℕ = λ station.
      one_cut (role_of station event) (waiting_since station None schedule.events) in
      let each : (station : Station) → IsStationOf schedule station → f station ≡ h station = λ station is.
      one-cut (role_of station event) (waiting_in at.stations station) world
      ∙ ap (λ (w : Option ℕ). one_cut (role_of station event) w) (waits station is) in
      let first = each the_server tt in
      let count = ap (λ (n : ℕ). sum_by f (the_server ∷ map client_at (range_with_len 0 n))) played.count_is in
      let one = sum_by-cons f the_server (map client_at (range_with_len 0 (length schedule.calls))) in
      let other = sum_by-cons h the_server (map client_at (range_with_len 0 (length schedule.calls))) in
      let rest = same_sums f h 0 (length schedule.calls) (λ c less. each (client_at c) (omega (arith, less))) in
      count ∙ (let e : sum_by f (the_server ∷ map client_at (range_with_len 0 (length schedule.calls)))
      ≡ sum_by h (the_server ∷ map client_at (range_with_len 0 (length schedule.calls))) =
      omega (arith, first, one, other, rest) in e)

-- ---- one event more

-- what a report tells is told of equal numbers
tells_equal : (report : StoredReport) (counts those : Report) → counts ≡ those → Tells report counts → Tells report those
tells_equal report counts those same tells = subst (λ (c : Report). Tells report c) same tells

plays_many :
    (world : World) (events : List Event) (worlds : List World) → Plays world events worlds
    → length worlds ≡ length events
plays_many world [] worlds plays = ap length plays
plays_many world (event ∷ events) worlds plays =
    ap length plays.2 ∙ ap suc (plays_many plays.0 events plays.1 plays.4)

abbrev counts_of : ℕ → ℕ → ℕ → ℕ → ℕ → ℕ → ℕ → Report
counts_of a b c d e f h =
    record { events = a; asked = b; acked = c; kept = d; refused = e; fetched = f; cuts = h }

counts_equal :
    (a a2 b b2 c c2 d d2 e e2 f f2 h h2 : ℕ) → a ≡ a2 → b ≡ b2 → c ≡ c2 → d ≡ d2 → e ≡ e2 → f ≡ f2 → h ≡ h2
    → counts_of a b c d e f h ≡ counts_of a2 b2 c2 d2 e2 f2 h2
counts_equal a a2 b b2 c c2 d d2 e e2 f f2 h h2 p q r s t u v = cc

module _ {B : Type 0} (g : Ghosts B) (cuts : Cuts B) (schedule : Schedule) (worlds : List World) (bench : List B)
    (at now : Bench B) (played : HasPlayed g cuts schedule worlds bench at) (event : Event)
    (plays : PlaysEvent g cuts (last_world (first_world schedule) worlds) event at now) where
  abbrev world : World
  world = last_world (first_world schedule) worlds

  abbrev more : Schedule
  more = until (schedule.events ++ event ∷ []) schedule

  abbrev worlds_now : List World
  worlds_now = worlds ++ plays.goes.next ∷ []

  counts_now : Tells now.stations.report (counts_to more worlds_now)
  counts_now =
      let many = plays_many (first_world schedule) schedule.events worlds played.plays in
      let cuts_same : cuts_in plays.counted event world ≡ cuts_in at.stations event world =
      ap (λ (s : Stations). cuts_in s event world) plays.counted_is in
      let all = all-cuts-more schedule schedule.events worlds event plays.goes.next many in
      let here = cuts_so g cuts schedule worlds bench at played event world in
      let told = plays.goes.counts _ (plays.one_more (counts_to schedule worlds) played.counts) in
      tells_equal now.stations.report _ (counts_to more worlds_now)
      (counts_equal _ _ _ _ _ _ _ _ _ _ _ _ _ _ (sym (events-more schedule.events event))
      (sym (questions-more schedule.events event)) refl refl
      (sym (times-more is_refusal (first_world schedule) worlds plays.goes.next))
      (sym (times-more is_fetch (first_world schedule) worlds plays.goes.next))
      (let sum : sum_by (cuts_of schedule worlds) (stations_of schedule) + cuts_in plays.counted event world
      ≡ sum_by (cuts_of more worlds_now) (stations_of more) = omega (arith, cuts_same, all, here) in sum))
      told

  pub stepped : HasPlayed g cuts more worlds_now bench now
  stepped = has_played_more g cuts schedule worlds event bench at now played plays
      (playing_next g cuts world event at now plays) counts_now

-- Some worlds of this schedule were played.
abbrev pub PlayedSome : {B : Type 0} → Ghosts B → Cuts B → Schedule → List B → Bench B → Type 0
PlayedSome g cuts schedule bench at = (worlds : List World) × HasPlayed g cuts schedule worlds bench at
