-- What the stations make of an event of the server, in whichever world is played.
use Rattle.std.specs.Prelude.{◌≡◌, ◌+◌, ◌%◌, ◌^◌}
use Rattle.std.proofs.Common.{sym, ap, ◌∙◌, subst, arith}
use Rattle.air_rehearsal.specs.declared.report.Report.{Report as StoredReport}
use Rattle.air_rehearsal.proofs.Names.{ℕ, zero, suc, List, is_some, Bool, false, true, Option, None, Some, refl, Cuts, Ghosts, NodeEvent, ServerState, Happens, ServerDoes, ServerEvent, WorldStep, ServerTakes, SoundLaw, IsAllowed, Event, ask_download, ask_list, ask_resume, ask_upload, break_client, cut_client, cut_server, tick_client, tick_server, to_client, to_server, World, next_moment, Stage, Tells, one_if, Bench, GoesOn, IsBench, IsPlaying, IsStage, PlaysEvent, bench_of, AreReady, KeepsClients, is_fetch, is_question, is_refusal, CountsCut, CountsEvent, AwaitsServer, CanCount, ServesEvent, TellsFailure, serving, waiting_of, StandsNow, Station, acts, client_at, looks_on, role_of, the_server, PlaysWorld, Cut, Stations}
use Rattle.air_rehearsal.proofs.CutCounts.{server_cuts}
use Rattle.air_rehearsal.proofs.PlayCounts.{server_came, tells_cuts, tells_with}
use Rattle.air_rehearsal.proofs.ReadyLemmas.{kept_ready}
use Rattle.air_rehearsal.proofs.ServerGoes.{goes_server}

delivered_cut : (world : World) (event : Event) (coming : NodeEvent) (delivered : World)
    → ServerTakes world event coming delivered → delivered.is_cut ≡ world.is_cut
delivered_cut world (to_server zero place) coming delivered takes = absurd takes
delivered_cut world (to_server (suc c) zero) coming delivered takes = absurd takes
delivered_cut world (to_server (suc c) (suc at)) coming delivered takes =
    ap (λ (w : World). w.is_cut) takes.delivered_is
delivered_cut world tick_server coming delivered takes = ap (λ (w : World). w.is_cut) takes.1
delivered_cut world (ask_upload n count) coming delivered takes = absurd takes
delivered_cut world (ask_resume n) coming delivered takes = absurd takes
delivered_cut world (ask_list n tokens) coming delivered takes = absurd takes
delivered_cut world (ask_download n file) coming delivered takes = absurd takes
delivered_cut world (to_client n place) coming delivered takes = absurd takes
delivered_cut world (tick_client n) coming delivered takes = absurd takes
delivered_cut world (break_client n) coming delivered takes = absurd takes
delivered_cut world (cut_server call choice) coming delivered takes = absurd takes
delivered_cut world (cut_client n call choice) coming delivered takes = absurd takes

does_not_cut : (is_cut : Bool) (world : World) (coming : NodeEvent) (delivered next : World)
    → delivered.is_cut ≡ is_cut → ServerDoes is_cut world coming delivered next → next.is_cut ≡ false
does_not_cut false world coming delivered next is does = ap (λ (w : World). w.is_cut) does.new_is ∙ is
does_not_cut true world coming delivered next is does = ap (λ (w : World). w.is_cut) does.new_is

-- no cut waits for the server after an event of it
not_cut : (world : World) (event : Event) (next : World) → ServerEvent world event next → next.is_cut ≡ false
not_cut world event next happens =
    does_not_cut world.is_cut world happens.coming happens.delivered next
    (delivered_cut world event happens.coming happens.delivered happens.takes) happens.does

tells_failure : {B : Type 0} (g : Ghosts B) (cut : Option Cut) (disk : B) → CanCount g disk → TellsFailure g cut disk
tells_failure g None disk can = tt
tells_failure g (Some cut) disk can = can

module _ {B : Type 0} (g : Ghosts B) (cuts : Cuts B) (world : World) (old : Bench B) (counted : Stations)
    (bench : IsBench g cuts world old) (counts : CountsCut old.stations counted) (can : CanCount g old.disk)
    (moment : old.stations.moment ≡ next_moment world) where
  -- the server awaits its event
  pub awaits : AwaitsServer g cuts world (serving counted old.server old.disk)
  awaits =
      record {
        sound = bench.sound;
        none_gone = bench.none_gone;
        plays =
            subst (λ (s : Stations). PlaysWorld g s old.server old.disk world) (sym counts.same)
            (record {
              server = bench.plays.server;
              blocks = bench.plays.blocks;
              stations = record {
                me_is = bench.plays.stations.me_is;
                window_is = bench.plays.stations.window_is;
                cut_is = bench.plays.stations.cut_is;
                files_are = bench.plays.stations.files_are;
                parties = bench.plays.stations.parties;
              };
            });
        moment = ap (λ (s : Stations). s.moment) counts.same ∙ moment;
        stands =
            bench.stands the_server
            (record { world = world; waiting = waiting_of old.stations.cut; disk = old.disk }) refl;
        steady = bench.steady;
        tells = tells_failure g counted.cut old.disk can;
      }

  -- The server took part.
  pub goes_served :
      (law : SoundLaw) (new : Bench B) (event : Event) → KeepsClients counted new.stations → new.disks ≡ old.disks
      → ServesEvent g cuts world event (serving counted old.server old.disk)
      (serving new.stations new.server new.disk)
      → ((next : World) → ServerEvent world event next → WorldStep world event next)
      → role_of the_server event ≡ acts → ((c : ℕ) → role_of (client_at c) event ≡ looks_on)
      → is_question event ≡ false → GoesOn g cuts world event old new
  goes_served law new event keeps same_disks serves step role others asks =
      goes_server g cuts world event old counted new bench counts keeps same_disks serves law
      (step serves.next serves.happens) (not_cut world event serves.next serves.happens) serves.stands role others
      (λ numbers tells.
      tells_with old.stations event world serves.next new.stations.report numbers 0 0 0 (one_if (is_some old.stations.cut))
      (ap one_if asks) (server_came is_refusal refl world event serves.next serves.happens)
      (server_came is_fetch refl world event serves.next serves.happens)
      (server_cuts old.stations event world role others)
      (tells_cuts new.stations.report numbers (one_if (is_some old.stations.cut))
      (subst
      (λ (r : StoredReport). Tells r (record numbers { cuts = numbers.cuts + one_if (is_some old.stations.cut) }))
      (sym keeps.report) (counts.counts numbers tells))))

  -- what the server does where it awaits the event is what becomes of the bench
  pub goes_event :
      (law : SoundLaw) (event : Event) (new : Stations) (later : ServerState) (disk : B) → KeepsClients counted new
      → (AwaitsServer g cuts world (serving counted old.server old.disk) → IsAllowed world event
      → ServesEvent g cuts world event (serving counted old.server old.disk) (serving new later disk))
      → ((next : World) → ServerEvent world event next → Happens world event next)
      → role_of the_server event ≡ acts → ((c : ℕ) → role_of (client_at c) event ≡ looks_on)
      → is_question event ≡ false → IsAllowed world event
      → GoesOn g cuts world event old (bench_of new later disk old.disks)
  goes_event law event new later disk keeps serves happens role others asks allowed =
      goes_served law (bench_of new later disk old.disks) event keeps refl (serves awaits allowed)
      (λ next it. record { allowed = allowed; happens = happens next it }) role others asks

-- The event makes a next world of whichever is played, by which the server is that one then, over this disk.
abbrev pub GoesSo : {B : Type 0} → Ghosts B → Cuts B → Bench B → Stations → B → Event → ServerState → Type 0
GoesSo g cuts old new disk event later =
    (world : World) → IsBench g cuts world old → CanCount g old.disk → old.stations.moment ≡ next_moment world
    → IsAllowed world event → GoesOn g cuts world event old (bench_of new later disk old.disks)

-- the clients are ready where the server took part
pub served_ready :
    {D : Type 0} (g : Ghosts D) (old counted new : Stations) (disks : List D) → CountsCut old counted
    → KeepsClients counted new → AreReady g old.parties.items disks → AreReady g new.parties.items disks
served_ready g old counted new disks counts keeps ready =
    kept_ready g counted new disks keeps
    (subst (λ (s : Stations). AreReady g s.parties.items disks) (sym counts.same) ready)

-- ---- an event is counted

module _ {B : Type 0} (g : Ghosts B) (cuts : Cuts B) (world : World) (old : Bench B)
    (bench : IsBench g cuts world old) where
  counted_stands :
      (moment : ℕ) (report : StoredReport) (station : Station) (stage : Stage B)
      → IsStage world (record old { stations = record old.stations { moment = moment; report = report } }) station stage
      → StandsNow g station world stage.disk
  counted_stands moment report the_server stage is = bench.stands the_server stage is
  counted_stands moment report (client_at c) stage is =
      bench.stands (client_at c) stage
      (record {
        party = is.party;
        is_party = is.is_party;
        disk = is.disk;
        is_disk = is.is_disk;
        stage_is = is.stage_is;
      })

  counted_bench :
      (moment : ℕ) (report : StoredReport)
      → IsBench g cuts world (record old { stations = record old.stations { moment = moment; report = report } })
  counted_bench moment report =
      record {
        sound = bench.sound;
        none_gone = bench.none_gone;
        plays = record {
          server = bench.plays.server;
          blocks = bench.plays.blocks;
          stations = record {
            me_is = bench.plays.stations.me_is;
            window_is = bench.plays.stations.window_is;
            cut_is = bench.plays.stations.cut_is;
            files_are = bench.plays.stations.files_are;
            parties = bench.plays.stations.parties;
          };
        };
        steady = bench.steady;
        all_steady = bench.all_steady;
        enough = bench.enough;
        stands = counted_stands moment report;
      }

next_of_moment : (events moment then : ℕ) → moment ≡ events % 2 ^ 32 → then ≡ (moment + 1) % 2 ^ 32
    → then ≡ suc events % 2 ^ 32
next_of_moment events moment then is next = omega (arith, is, next)

module _ {B : Type 0} (g : Ghosts B) (cuts : Cuts B) (world : World) (old : Bench B) (counted : Stations)
    (playing : IsPlaying g cuts world old) (counts : CountsEvent old.stations counted) where
  -- the stations play the world still, at the moment of its next event
  pub counted_is_bench : IsBench g cuts world (record old { stations = counted })
  counted_is_bench =
      subst (λ (s : Stations). IsBench g cuts world (record old { stations = s })) (sym counts.same)
      (counted_bench g cuts world old playing.bench counted.moment counted.report)

  pub counted_moment : counted.moment ≡ next_moment world
  counted_moment =
      next_of_moment world.events old.stations.moment counted.moment playing.moment counts.moment_is

-- the event that was counted is played
pub plays_event :
    {B : Type 0} (g : Ghosts B) (cuts : Cuts B) (world : World) (event : Event) (old new : Bench B) (counted : Stations)
    → IsPlaying g cuts world old → CountsEvent old.stations counted
    → (IsBench g cuts world (record old { stations = counted }) → counted.moment ≡ next_moment world
    → GoesOn g cuts world event (record old { stations = counted }) new)
    → PlaysEvent g cuts world event old new
plays_event {B} g cuts world event old new counted playing counts goes =
    let moment = counted_moment g cuts world old counted playing counts in
    record {
      counted = counted;
      counted_is = counts.same;
      moment_is = moment;
      one_more = counts.one_more;
      goes = goes (counted_is_bench g cuts world old counted playing counts) moment;
    }
