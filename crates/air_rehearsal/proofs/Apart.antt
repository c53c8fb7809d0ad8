-- A client that is broken off, and cuts that are to come.
use Rattle.std.specs.Prelude.{◌≡◌, ◌≤◌, ◌∷◌}
use Rattle.std.proofs.Common.{sym, ap, ◌∙◌, subst, arith}
use Rattle.air_world.specs.Attempts.Party.{Party}
use Rattle.air_rehearsal.proofs.Names.{ℕ, zero, suc, List, [], slice_get, slice_set, true, Some, IfSome, refl, same_Some, Cuts, Ghosts, told_weaker, images_now, ServerState, WorldStep, broken, SoundLaw, IsAllowed, break_client, cut_client, cut_server, PartyAt, World, counted, with_party, DiskStep, Stage, StepBy, Tells, Bench, GoesOn, IsBench, IsStage, bench_of, counts_with, Report, BrokeOff, ChangesAt, Clients, IsSeated, with_server, waiting_of, StandsNow, Role, Station, breaks_off, client_at, the_server, waiting_after, will_be_cut, PlaysParty, asked_from, Cut, Party as StoredParty, Stations}
use Rattle.air_rehearsal.proofs.ClientFacts.{IsClients, for_other, for_own}
use Rattle.air_rehearsal.proofs.ClientGoes.{goes_client, set_there}
use Rattle.air_rehearsal.proofs.ServerGoes.{stands_still}
use Rattle.air_rehearsal.proofs.StandsNowLemmas.{notes_stand}
use Rattle.air_rehearsal.proofs.Took.{seated}

pub breaks_roles : (c : ℕ) → IsClients (break_client (suc c)) c breaks_off
breaks_roles c =
    record { server = refl; own = for_own c breaks_off; others = λ i other. for_other c i breaks_off other }

pub cuts_roles : (c call choice : ℕ) → IsClients (cut_client (suc c) call choice) c (will_be_cut call)
cuts_roles c call choice =
    record {
      server = refl;
      own = for_own c (will_be_cut call);
      others = λ i other. for_other c i (will_be_cut call) other;
    }

-- a list whose element at a place is that one still
pub set_same : {X : Type 0} (xs : List X) (c : ℕ) (x : X) → slice_get xs c ≡ Some x → slice_set xs c x ≡ xs
set_same [] c x is = absurd cc
set_same (first ∷ xs) zero x is = ap (λ (y : _). y ∷ xs) (sym (same_Some first x is))
set_same (first ∷ xs) (suc c) x is = ap (λ (ys : List _). first ∷ ys) (set_same xs c x is)

module _ {B : Type 0} (g : Ghosts B) (cuts : Cuts B) (law : SoundLaw)
    (is_image : (disk : B) → IfSome (g.content disk) (g.images disk))
    (counts_now : (disk : B) (t : ℕ) (image : List ℕ) → t ≤ g.moment disk → g.images disk image
    → g.images_since disk t image)
    (world : World) (old new : Clients B) (server : ServerState) (disk : B)
    (bench : IsBench g cuts world (with_server old server disk)) (c : ℕ) (party : Party) (at : PartyAt world c party)
  where
    abbrev seat_of : IsSeated g cuts c old (record { world = world; c = c; party = party })
    seat_of = seated g cuts world old server disk bench c party at

    -- A client was broken off.
    module _ (allowed : IsAllowed world (break_client (suc c)))
        (broke : BrokeOff g cuts c (record { world = world; c = c; party = party }) old new seat_of) where
      abbrev next_of : World
      next_of = counted (with_party world c (broken party))

      step_of : WorldStep world (break_client (suc c)) next_of
      step_of = record { allowed = allowed; happens = (c, broken party, (refl, (party, at, refl)), refl) }

      there_now : PartyAt next_of c (broken party)
      there_now = set_there world.parties c party (broken party) at

      stands_of : StandsNow g (client_at c) next_of broke.disk
      stands_of =
          notes_stand g broke.party.client.notes.lists broke.disk next_of c (broken party) broke.breaks.steady.told
          (told_weaker (g.content broke.disk) (g.images broke.disk) (images_now g broke.disk)
          (λ image _ here. counts_now broke.disk (g.moment broke.disk) image (omega arith) here) (is_image broke.disk))
          broke.images there_now broke.breaks.plays.client.lists

      disk_step :
          DiskStep g cuts (client_at c)
          (record { world = world; waiting = waiting_of seat_of.party.cut; disk = seat_of.disk }) (break_client (suc c))
          (record { world = next_of; waiting = waiting_of broke.party.cut; disk = broke.disk })
      disk_step =
          let role = (breaks_roles c).own in
          record {
            does =
                subst
                (λ (r : Role).
                StepBy g cuts (client_at c) r (waiting_of seat_of.party.cut)
                (record { world = world; waiting = waiting_of seat_of.party.cut; disk = seat_of.disk })
                (break_client (suc c))
                (record { world = next_of; waiting = waiting_of broke.party.cut; disk = broke.disk })) (sym role)
                (broke.breaks.again c);
            waiting_is =
                subst
                (λ (r : Role).
                waiting_of broke.party.cut ≡ waiting_after r (waiting_of seat_of.party.cut)) (sym role)
                (ap waiting_of broke.breaks.cut);
            stands = stands_of;
          }

      pub goes_broken :
          ((numbers : Report) → Tells old.stations.report numbers
          → Tells new.stations.report (counts_with old.stations (break_client (suc c)) world next_of numbers))
          → GoesOn g cuts world (break_client (suc c)) (with_server old server disk) (with_server new server disk)
      goes_broken tells =
          goes_client g cuts world next_of (break_client (suc c)) (with_server old server disk)
          (with_server new server disk) c bench seat_of.party broke.party party (broken party) seat_of.disk broke.disk
          seat_of.is_party at seat_of.is_disk (record { server = refl; parties = refl; is_cut = refl })
          (record {
            server = refl;
            server_disk = refl;
            me = ap (λ (s : Stations). s.me) broke.changes.stations_are;
            k = ap (λ (s : Stations). s.k) broke.changes.stations_are;
            cut = ap (λ (s : Stations). s.cut) broke.changes.stations_are;
            moment = ap (λ (s : Stations). s.moment) broke.changes.stations_are;
            parties = broke.changes.parties_are;
            disks = broke.changes.disks_are;
          })
          law step_of broke.breaks.plays broke.breaks.steady
          (bench.plays.stations.files_are ∙ ap (λ (s : Stations). asked_from 0 s.uploads.items) (sym broke.changes.stations_are))
          stands_of disk_step (breaks_roles c).server (breaks_roles c).others tells

    -- A cut of the client is to come.
    module _ (call choice : ℕ) (allowed : IsAllowed world (cut_client (suc c) call choice)) (cut : Cut)
        (call_is : cut.call ≡ call)
        (changes : ChangesAt c old new (record seat_of.party { cut = Some cut }) seat_of.disk) where
      abbrev cut_party : Party
      cut_party = record party { is_cut = true }

      abbrev next_cut : World
      next_cut = counted (with_party world c cut_party)

      step_cut : WorldStep world (cut_client (suc c) call choice) next_cut
      step_cut = record { allowed = allowed; happens = (c, cut_party, (refl, (party, at, refl)), refl) }

      there_cut : PartyAt next_cut c cut_party
      there_cut = set_there world.parties c party cut_party at

      plays_cut : PlaysParty (record seat_of.party { cut = Some cut }) cut_party
      plays_cut =
          record {
            me_is = seat_of.is_seat.plays.me_is;
            client = seat_of.is_seat.plays.client;
            lanes = seat_of.is_seat.plays.lanes;
            uploads_are = seat_of.is_seat.plays.uploads_are;
            cut_is = refl;
          }

      stands_cut : StandsNow g (client_at c) next_cut seat_of.disk
      stands_cut =
          stands_still g c world next_cut party cut_party seat_of.disk
          (bench.stands (client_at c)
          (record { world = world; waiting = waiting_of seat_of.party.cut; disk = seat_of.disk })
          (record {
            party = seat_of.party;
            is_party = seat_of.is_party;
            disk = seat_of.disk;
            is_disk = seat_of.is_disk;
            stage_is = refl;
          })) at there_cut refl

      disk_cut :
          DiskStep g cuts (client_at c)
          (record { world = world; waiting = waiting_of seat_of.party.cut; disk = seat_of.disk })
          (cut_client (suc c) call choice)
          (record { world = next_cut; waiting = Some cut.call; disk = seat_of.disk })
      disk_cut =
          let role = (cuts_roles c call choice).own in
          record {
            does =
                subst
                (λ (r : Role).
                StepBy g cuts (client_at c) r (waiting_of seat_of.party.cut)
                (record { world = world; waiting = waiting_of seat_of.party.cut; disk = seat_of.disk })
                (cut_client (suc c) call choice)
                (record { world = next_cut; waiting = Some cut.call; disk = seat_of.disk })) (sym role) refl;
            waiting_is =
                subst (λ (r : Role). Some cut.call ≡ waiting_after r (waiting_of seat_of.party.cut)) (sym role)
                (ap Some call_is);
            stands = stands_cut;
          }

      pub goes_cut_client :
          ((numbers : Report) → Tells old.stations.report numbers
          → Tells new.stations.report
          (counts_with old.stations (cut_client (suc c) call choice) world next_cut numbers))
          → GoesOn g cuts world (cut_client (suc c) call choice) (with_server old server disk)
          (with_server new server disk)
      goes_cut_client tells =
          goes_client g cuts world next_cut (cut_client (suc c) call choice) (with_server old server disk)
          (with_server new server disk) c bench seat_of.party (record seat_of.party { cut = Some cut }) party cut_party
          seat_of.disk seat_of.disk seat_of.is_party at seat_of.is_disk
          (record { server = refl; parties = refl; is_cut = refl })
          (record {
            server = refl;
            server_disk = refl;
            me = ap (λ (s : Stations). s.me) changes.stations_are;
            k = ap (λ (s : Stations). s.k) changes.stations_are;
            cut = ap (λ (s : Stations). s.cut) changes.stations_are;
            moment = ap (λ (s : Stations). s.moment) changes.stations_are;
            parties = changes.parties_are;
            disks = changes.disks_are;
          })
          law step_cut plays_cut seat_of.steady
          (bench.plays.stations.files_are ∙ ap (λ (s : Stations). asked_from 0 s.uploads.items) (sym changes.stations_are))
          stands_cut disk_cut (cuts_roles c call choice).server (cuts_roles c call choice).others tells

-- A cut of the server is to come.
module _ {B : Type 0} (g : Ghosts B) (cuts : Cuts B) (law : SoundLaw) (world : World) (old : Clients B) (new : Stations)
    (server : ServerState) (disk : B) (bench : IsBench g cuts world (with_server old server disk)) (call choice : ℕ)
    (allowed : IsAllowed world (cut_server call choice)) (cut : Cut) (call_is : cut.call ≡ call)
    (new_is : new ≡ record old.stations { cut = Some cut }) where
  abbrev next_then : World
  next_then = counted (record world { is_cut = true })

  step_then : WorldStep world (cut_server call choice) next_then
  step_then = record { allowed = allowed; happens = refl }

  -- the bench with the cut
  abbrev cut_bench : Bench B
  cut_bench = bench_of (record old.stations { cut = Some cut }) server disk old.disks

  stands_then :
      (station : Station) (stage : Stage B) → IsStage next_then cut_bench station stage
      → StandsNow g station next_then stage.disk
  stands_then the_server stage is =
      let stands = bench.stands the_server _ refl in
      subst (λ (s : Stage B). StandsNow g the_server next_then s.disk) (sym is)
      (record {
        content = stands.content;
        is_content = stands.is_content;
        stands = stands.stands;
        images = stands.images;
      })
  stands_then (client_at c) stage is =
      let stands = bench.stands (client_at c)
      (record { world = world; waiting = waiting_of is.party.cut; disk = is.disk })
      (record {
        party = is.party;
        is_party = is.is_party;
        disk = is.disk;
        is_disk = is.is_disk;
        stage_is = refl;
      }) in
      subst (λ (s : Stage B). StandsNow g (client_at c) next_then s.disk) (sym is.stage_is)
      (record {
        content = stands.content;
        is_content = stands.is_content;
        stands = stands.stands;
        images = stands.images;
      })

  disks_then :
      (station : Station) (stage later : Stage B) → IsStage world (with_server old server disk) station stage
      → IsStage next_then cut_bench station later → DiskStep g cuts station stage (cut_server call choice) later
  disks_then the_server stage later is is_later =
      record {
        does = ap (λ (s : Stage B). s.disk) is_later ∙ sym (ap (λ (s : Stage B). s.disk) is);
        waiting_is = ap (λ (s : Stage B). s.waiting) is_later ∙ ap Some call_is;
        stands =
            subst (λ (w : World). StandsNow g the_server w later.disk)
            (sym (ap (λ (s : Stage B). s.world) is_later)) (stands_then the_server later is_later);
      }
  disks_then (client_at c) stage later is is_later =
      let same_party = same_Some is_later.party is.party (sym is_later.is_party ∙ is.is_party) in
      let same_disk = same_Some is_later.disk is.disk (sym is_later.is_disk ∙ is.is_disk) in
      record {
        does =
            ap (λ (s : Stage B). s.disk) is_later.stage_is ∙ same_disk
            ∙ sym (ap (λ (s : Stage B). s.disk) is.stage_is);
        waiting_is =
            ap (λ (s : Stage B). s.waiting) is_later.stage_is
            ∙ ap (λ (p : StoredParty). waiting_of p.cut) same_party
            ∙ sym (ap (λ (s : Stage B). s.waiting) is.stage_is);
        stands =
            subst (λ (w : World). StandsNow g (client_at c) w later.disk)
            (sym (ap (λ (s : Stage B). s.world) is_later.stage_is)) (stands_then (client_at c) later is_later);
      }

  goes_with :
      ((numbers : Report) → Tells old.stations.report numbers
      → Tells old.stations.report (counts_with old.stations (cut_server call choice) world next_then numbers))
      → GoesOn g cuts world (cut_server call choice) (with_server old server disk) cut_bench
  goes_with tells =
      record {
        next = next_then;
        step = step_then;
        bench = record {
          sound = law.kept world next_then (cut_server call choice) bench.sound step_then;
          none_gone = law.none_gone world next_then (cut_server call choice) bench.sound step_then bench.none_gone;
          plays = record {
            server = bench.plays.server;
            blocks = bench.plays.blocks;
            stations = record {
              me_is = bench.plays.stations.me_is;
              window_is = bench.plays.stations.window_is;
              cut_is = refl;
              files_are = bench.plays.stations.files_are;
              parties = bench.plays.stations.parties;
            };
          };
          steady = bench.steady;
          all_steady = bench.all_steady;
          enough = bench.enough;
          stands = stands_then;
        };
        disks = disks_then;
        others = λ c far. refl;
        as_many = refl;
        same_count = refl;
        moment = refl;
        counts = tells;
      }

  pub goes_cut_server :
      ((numbers : Report) → Tells old.stations.report numbers
      → Tells old.stations.report (counts_with old.stations (cut_server call choice) world next_then numbers))
      → GoesOn g cuts world (cut_server call choice) (with_server old server disk)
      (bench_of new server disk old.disks)
  goes_cut_server tells =
      subst
      (λ (s : Stations).
      GoesOn g cuts world (cut_server call choice) (with_server old server disk) (bench_of s server disk old.disks))
      (sym new_is) (goes_with tells)
