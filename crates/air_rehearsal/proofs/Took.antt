-- A client that took part, or was broken off, in whichever world is played.
use Rattle.std.specs.Prelude.{◌≡◌, ◌+◌, ◌≤◌, ◌∷◌}
use Rattle.std.proofs.Common.{sym, ap, ◌∙◌, subst, arith}
use Rattle.air_world.specs.Attempts.Party.{Party}
use Rattle.air_rehearsal.proofs.Names.{ℕ, zero, suc, List, [], slice_get, is_some, false, Bool, Option, None, Some, IfSome, refl, same_Some, Cuts, Ghosts, told_weaker, images_now, ServerState, Asked, upload_name, ClientDoes, WorldStep, ClientPart, ClientTakes, SoundLaw, IsAllowed, Event, with_asked, PartyAt, World, DiskStep, StepBy, Tells, GoesOn, IsBench, bench_of, counts_with, Report, Clients, IsSeated, MayTake, TookPart, with_server, waiting_of, StandsNow, Role, client_at, waiting_after, AreNamed, DoesPart, IsPart, PlaysStations, asked_from, Upload, Cut, Part, Stations}
use Rattle.air_rehearsal.proofs.BenchLemmas.{plays_at}
use Rattle.air_rehearsal.proofs.ClientFacts.{clients_event, happens_so, same_client}
use Rattle.air_rehearsal.proofs.ClientGoes.{does_event, goes_client, set_there, within_of}
use Rattle.air_rehearsal.proofs.CourseLemmas.{there}
use Rattle.air_rehearsal.proofs.ServerGoes.{none_of}
use Rattle.air_rehearsal.proofs.StandsNowLemmas.{notes_stand}

-- each upload is noted under its number
named_from :
    (number : ℕ) (uploads : List Upload) (i : ℕ) (asked : Asked) → slice_get (asked_from number uploads) i ≡ Some asked
    → asked.name ≡ upload_name (number + i)
named_from number [] i asked is = absurd cc
named_from number (upload ∷ uploads) zero asked is =
    ap (λ (a : Asked). a.name) (sym (same_Some _ asked is)) ∙ ap upload_name (let e : number ≡ number + 0 = omega arith in e)
named_from number (upload ∷ uploads) (suc i) asked is =
    named_from (suc number) uploads i asked is
    ∙ ap upload_name (let e : suc number + i ≡ number + suc i = omega arith in e)

pub are_named : (self : Stations) (world : World) → PlaysStations self world → AreNamed world.files
are_named self world plays upload asked is =
    named_from 0 self.uploads.items upload asked
    (subst (λ (f : List Asked). slice_get f upload ≡ Some asked) plays.files_are is)
    ∙ ap upload_name (let e : 0 + upload ≡ upload = omega arith in e)

module _ {B : Type 0} (g : Ghosts B) (cuts : Cuts B) (world : World) (at : Clients B) (server : ServerState) (disk : B)
    (bench : IsBench g cuts world (with_server at server disk)) where
  -- the client at this place is seated
  pub seated :
      (c : ℕ) (party : Party) → PartyAt world c party
      → IsSeated g cuts c at (record { world = world; c = c; party = party })
  seated c party is =
      let self = plays_at at.stations.parties.items world.parties c party bench.plays.stations.parties is in
      let within = within_of at.stations.parties.items c self.0 self.1 in
      let its = there at.disks c (omega (arith, within, bench.enough)) in
      record {
        party = self.0;
        is_party = self.1;
        disk = its.0;
        is_disk = its.1;
        steady = bench.all_steady c its.0 within its.1;
        is_seat = record {
          sound = bench.sound;
          named = are_named at.stations world bench.plays.stations;
          is_party = is;
          plays = self.2;
        };
        place_is = refl;
      }

  abbrev pub may_take :
      (event : Event) (c : ℕ) (party : Party) (part : Part) (whole : ClientPart) → PartyAt world c party
      → IsAllowed world event → ClientTakes world event c whole
      → IsPart (record { world = world; c = c; party = party }) part whole → MayTake g cuts c at part whole
  may_take event c party part whole is allowed takes is_part =
      record {
        seat = record { world = world; c = c; party = party };
        seated = seated c party is;
        event = event;
        allowed = allowed;
        takes = takes;
        is_part = is_part;
      }

-- what a client does is what its event makes of the world
client_does :
    {B : Type 0} (g : Ghosts B) (cuts : Cuts B) (world : World) (c : ℕ) (whole : ClientPart) (then : Party)
    (cut : Option Cut) (disk disk_now : B) → is_some cut ≡ whole.party.is_cut
    → DoesPart g cuts cut whole then disk disk_now
    → ClientDoes whole.party.is_cut world c whole (with_asked world c whole then)
client_does g cuts world c whole then None disk disk_now is does =
    subst (λ (b : Bool). ClientDoes b world c whole (with_asked world c whole then)) is
    (record {
      noted = does.0.noted;
      did = does.0.did;
      old_is = does.0.old_is;
      step = does.0.step;
      new_is = ap (with_asked world c whole) does.0.next_is;
    })
client_does g cuts world c whole then (Some cut) disk disk_now is does =
    subst (λ (b : Bool). ClientDoes b world c whole (with_asked world c whole then)) is
    (record {
      count = does.0.count;
      within = does.0.within;
      new_is = ap (with_asked world c whole) does.0.next_is;
    })

-- no cut waits for the client any more
not_cut :
    {B : Type 0} (g : Ghosts B) (cuts : Cuts B) (whole : ClientPart) (then : Party) (cut : Option Cut)
    (disk disk_now : B) → is_some cut ≡ whole.party.is_cut → DoesPart g cuts cut whole then disk disk_now
    → then.is_cut ≡ false
not_cut g cuts whole then None disk disk_now is does = ap (λ (p : Party). p.is_cut) does.0.next_is ∙ sym is
not_cut g cuts whole then (Some cut) disk disk_now is does = ap (λ (p : Party). p.is_cut) does.0.next_is

module _ {B : Type 0} (g : Ghosts B) (cuts : Cuts B) (law : SoundLaw)
    (is_image : (disk : B) → IfSome (g.content disk) (g.images disk))
    (counts_now : (disk : B) (t : ℕ) (image : List ℕ) → t ≤ g.moment disk → g.images disk image
    → g.images_since disk t image)
    (world : World) (old mid : Clients B) (server : ServerState) (disk : B)
    (bench : IsBench g cuts world (with_server old server disk)) (event : Event) (c : ℕ) (party : Party) (part : Part)
    (whole : ClientPart) (at : PartyAt world c party) (allowed : IsAllowed world event)
    (takes : ClientTakes world event c whole)
    (is_part : IsPart (record { world = world; c = c; party = party }) part whole)
    (took :
    TookPart g cuts c part whole old mid
    (may_take g cuts world old server disk bench event c party part whole at allowed takes is_part)) where
  abbrev seat_of : IsSeated g cuts c old (record { world = world; c = c; party = party })
  seat_of = seated g cuts world old server disk bench c party at

  abbrev next_of : World
  next_of = with_asked world c whole took.takes.next

  cut_of : is_some seat_of.party.cut ≡ whole.party.is_cut
  cut_of = seat_of.is_seat.plays.cut_is ∙ sym (same_client world event c whole party takes at).is_cut

  pub step_of : WorldStep world event next_of
  step_of =
      record {
        allowed = allowed;
        happens =
            happens_so world next_of event c whole takes
            (record {
              c = c;
              part = whole;
              takes = takes;
              does =
                  client_does g cuts world c whole took.takes.next seat_of.party.cut seat_of.disk took.disk cut_of
                  took.takes.does;
            });
      }

  then_there : PartyAt next_of c took.takes.next
  then_there = set_there world.parties c party took.takes.next at

  stands_of : StandsNow g (client_at c) next_of took.disk
  stands_of =
      notes_stand g took.party.client.notes.lists took.disk next_of c took.takes.next took.takes.steady.told
      (told_weaker (g.content took.disk) (g.images took.disk) (images_now g took.disk)
      (λ image _ here. counts_now took.disk (g.moment took.disk) image (omega arith) here) (is_image took.disk))
      took.images then_there took.takes.plays.client.lists

  disk_step :
      DiskStep g cuts (client_at c)
      (record { world = world; waiting = waiting_of seat_of.party.cut; disk = seat_of.disk }) event
      (record { world = next_of; waiting = waiting_of took.party.cut; disk = took.disk })
  disk_step =
      let role = (clients_event world event c whole takes).own in
      let no_more : took.party.cut ≡ None =
      none_of took.party.cut
      (took.takes.plays.cut_is
      ∙ not_cut g cuts whole took.takes.next seat_of.party.cut seat_of.disk took.disk cut_of took.takes.does) in
      record {
        does =
            subst
            (λ (r : Role).
            StepBy g cuts (client_at c) r (waiting_of seat_of.party.cut)
            (record { world = world; waiting = waiting_of seat_of.party.cut; disk = seat_of.disk }) event
            (record { world = next_of; waiting = waiting_of took.party.cut; disk = took.disk })) (sym role)
            (does_event g world event c whole takes cuts next_of took.takes.next then_there seat_of.party.cut
            seat_of.disk took.disk (waiting_of took.party.cut) took.takes.does);
        waiting_is =
            subst
            (λ (r : Role).
            waiting_of took.party.cut ≡ waiting_after r (waiting_of seat_of.party.cut)) (sym role)
            (ap waiting_of no_more);
        stands = stands_of;
      }

  -- The event goes on, where these are the stations then.
  pub goes_took :
      (final : Stations) → final ≡ record mid.stations { uploads = final.uploads }
      → next_of.files ≡ asked_from 0 final.uploads.items
      → ((numbers : Report) → Tells old.stations.report numbers
      → Tells final.report (counts_with old.stations event world next_of numbers))
      → GoesOn g cuts world event (with_server old server disk) (bench_of final server disk mid.disks)
  goes_took final final_is files tells =
      let roles = clients_event world event c whole takes in
      goes_client g cuts world next_of event (with_server old server disk) (bench_of final server disk mid.disks) c bench
      seat_of.party took.party party took.takes.next seat_of.disk took.disk seat_of.is_party at seat_of.is_disk
      (record { server = refl; parties = refl; is_cut = refl })
      (record {
        server = refl;
        server_disk = refl;
        me = ap (λ (s : Stations). s.me) final_is ∙ ap (λ (s : Stations). s.me) took.changes.stations_are;
        k = ap (λ (s : Stations). s.k) final_is ∙ ap (λ (s : Stations). s.k) took.changes.stations_are;
        cut = ap (λ (s : Stations). s.cut) final_is ∙ ap (λ (s : Stations). s.cut) took.changes.stations_are;
        moment = ap (λ (s : Stations). s.moment) final_is ∙ ap (λ (s : Stations). s.moment) took.changes.stations_are;
        parties = ap (λ (s : Stations). s.parties.items) final_is ∙ took.changes.parties_are;
        disks = took.changes.disks_are;
      })
      law step_of took.takes.plays took.takes.steady files stands_of disk_step roles.server roles.others tells
