-- An event of the server makes a next world of the one that is played.
use Rattle.std.specs.Prelude.{◌≡◌, ◌≤◌}
use Rattle.std.proofs.Common.{sym, ap, ◌∙◌, subst, arith}
use Rattle.client_notes.specs.State as notes
use Rattle.air_world.specs.Attempts.Party.{Party}
use Rattle.air_rehearsal.specs.Standing.{StandsFor}
use Rattle.air_rehearsal.proofs.Names.{ℕ, List, length, slice_get, is_some, false, true, Option, None, Some, refl, same_Some, Cuts, Ghosts, Lists, WorldStep, SoundLaw, Event, PartyAt, World, DiskStep, Stage, StepBy, Bench, GoesOn, IsBench, IsStage, client_count, counts_with, Tells, KeepsClients, Report, CountsCut, ServesEvent, serving, waiting_of, StandsNow, Role, Station, acts, client_at, looks_on, role_of, the_server, waiting_after, PlaysParty, Party as StoredParty, Stations}
use Rattle.air_rehearsal.proofs.BenchLemmas.{kept_count, kept_from, one_at, played_at}

-- a disk on which a client's notes stand, where another world's client has the same
pub stands_still :
    {D : Type 0} (g : Ghosts D) (c : ℕ) (world next : World) (party now : Party) (disk : D)
    → StandsNow g (client_at c) world disk → PartyAt world c party → PartyAt next c now
    → now.client.lists ≡ party.client.lists → StandsNow g (client_at c) next disk
stands_still g c world next party now disk stands at at_now same =
    let own : (image : List ℕ) → StandsFor (client_at c) world image → StandsFor (client_at c) next image =
    λ image it.
    let is : it.0 ≡ party = one_at c world.parties world.parties it.0 party it.1 at refl in (
      now,
      at_now,
      subst (λ (l : Lists). notes.StandsFor image l) (sym same)
          (subst (λ (p : Party). notes.StandsFor image p.client.lists) is it.2),
    ) in
    record {
      content = stands.content;
      is_content = stands.is_content;
      stands = own stands.content stands.stands;
      images = λ image since. own image (stands.images image since);
    }

pub none_of : {X : Type 0} (x : Option X) → is_some x ≡ false → x ≡ None
none_of None is = refl
none_of (Some x) is = absurd (let e : true ≡ false = is in cc)

-- the notes of a client that plays two worlds are those of both
same_lists :
    (self other : StoredParty) (party now : Party) → other.client ≡ self.client → PlaysParty self party
    → PlaysParty other now → now.client.lists ≡ party.client.lists
same_lists self other party now same plays plays_now =
    sym plays_now.client.lists
    ∙ ap (λ (c : _). c.notes.lists) same ∙ plays.client.lists

module _ {B : Type 0} (g : Ghosts B) (cuts : Cuts B) (world : World) (event : Event) (old : Bench B) (counted : Stations)
    (new : Bench B) (bench : IsBench g cuts world old) (counts : CountsCut old.stations counted)
    (keeps : KeepsClients counted new.stations) (same_disks : new.disks ≡ old.disks)
    (serves :
    ServesEvent g cuts world event (serving counted old.server old.disk)
    (serving new.stations new.server new.disk)) where
  same_count : client_count new.stations ≡ client_count old.stations
  same_count =
      kept_count counted.parties.items new.stations.parties.items keeps.parties
      ∙ ap (λ (s : Stations). client_count s) counts.same

  -- what the client at this place was
  was_at :
      (c : ℕ) (now : StoredParty) → slice_get new.stations.parties.items c ≡ Some now
      → (was : StoredParty) × (slice_get old.stations.parties.items c ≡ Some was) × (now.client ≡ was.client)
      × (now.cut ≡ was.cut)
  was_at c now is =
      let from = kept_from counted.parties.items new.stations.parties.items c now keeps.parties is in
      let old_is : slice_get old.stations.parties.items c ≡ Some from.0 =
      subst (λ (s : Stations). slice_get s.parties.items c ≡ Some from.0) counts.same from.1 in
      (from.0, old_is, ap (λ (p : StoredParty). p.client) from.2.same, ap (λ (p : StoredParty). p.cut) from.2.same)

  abbrev stage_old : Stage B
  stage_old = record { world = world; waiting = waiting_of old.stations.cut; disk = old.disk }

  abbrev stage_new : Stage B
  stage_new = record { world = serves.next; waiting = waiting_of new.stations.cut; disk = new.disk }

  step_server :
      role_of the_server event ≡ acts → serves.next.is_cut ≡ false → StandsNow g the_server serves.next new.disk
      → DiskStep g cuts the_server stage_old event stage_new
  step_server role not_cut stands =
      let no_cut : new.stations.cut ≡ None =
      none_of new.stations.cut (serves.plays.stations.cut_is ∙ not_cut) in
      let does : StepBy g cuts the_server acts (waiting_of old.stations.cut) stage_old event stage_new =
      subst
      (λ (s : Stations).
      StepBy g cuts the_server acts (waiting_of s.cut)
      (record { world = world; waiting = waiting_of s.cut; disk = old.disk }) event stage_new)
      counts.same serves.does in
      record {
        does =
            subst (λ (r : Role). StepBy g cuts the_server r (waiting_of old.stations.cut) stage_old event stage_new)
            (sym role) does;
        waiting_is =
            subst (λ (r : Role). waiting_of new.stations.cut ≡ waiting_after r (waiting_of old.stations.cut)) (sym role)
            (ap waiting_of no_cut);
        stands = stands;
      }

  -- the notes of a client stand as before
  client_stands :
      (c : ℕ) (now : StoredParty) (disk : B) → slice_get new.stations.parties.items c ≡ Some now
      → slice_get new.disks c ≡ Some disk → StandsNow g (client_at c) serves.next disk
  client_stands c now disk is is_disk =
      let was = was_at c now is in
      let old_disk : slice_get old.disks c ≡ Some disk =
      subst (λ (d : List B). slice_get d c ≡ Some disk) same_disks is_disk in
      let party = played_at old.stations.parties.items world.parties c was.0 bench.plays.stations.parties was.1 in
      let then = played_at new.stations.parties.items serves.next.parties c now serves.plays.stations.parties is in
      stands_still g c world serves.next party.0 then.0 disk
      (bench.stands (client_at c)
      (record { world = world; waiting = waiting_of was.0.cut; disk = disk })
      (record { party = was.0; is_party = was.1; disk = disk; is_disk = old_disk; stage_is = refl }))
      party.1 then.1
      (same_lists was.0 now party.0 then.0 was.2 party.2 then.2)

  stands_all :
      StandsNow g the_server serves.next new.disk → (station : Station) (stage : Stage B)
      → IsStage serves.next new station stage → StandsNow g station serves.next stage.disk
  stands_all stands the_server stage is = subst (λ (s : Stage B). StandsNow g the_server serves.next s.disk) (sym is) stands
  stands_all stands (client_at c) stage is =
      subst (λ (s : Stage B). StandsNow g (client_at c) serves.next s.disk) (sym is.stage_is)
      (client_stands c is.party is.disk is.is_party is.is_disk)

  step_all :
      role_of the_server event ≡ acts → ((c : ℕ) → role_of (client_at c) event ≡ looks_on)
      → serves.next.is_cut ≡ false → StandsNow g the_server serves.next new.disk
      → (station : Station) (stage stage_now : Stage B) → IsStage world old station stage
      → IsStage serves.next new station stage_now → DiskStep g cuts station stage event stage_now
  step_all role others not_cut stands the_server stage stage_now is is_now =
      subst (λ (s : Stage B). DiskStep g cuts the_server s event stage_now) (sym is)
      (subst (λ (s : Stage B). DiskStep g cuts the_server stage_old event s) (sym is_now)
      (step_server role not_cut stands))
  step_all role others not_cut stands (client_at c) stage stage_now is is_now =
      let was = was_at c is_now.party is_now.is_party in
      let same_party : was.0 ≡ is.party = same_Some was.0 is.party (sym was.1 ∙ is.is_party) in
      let same_disk : is_now.disk ≡ is.disk = one_at c new.disks old.disks is_now.disk is.disk is_now.is_disk is.is_disk same_disks in
      let disk_same : stage_now.disk ≡ stage.disk =
      ap (λ (s : Stage B). s.disk) is_now.stage_is ∙ same_disk ∙ sym (ap (λ (s : Stage B). s.disk) is.stage_is) in
      let waiting_same : stage_now.waiting ≡ stage.waiting =
      ap (λ (s : Stage B). s.waiting) is_now.stage_is
      ∙ ap waiting_of was.3
      ∙ ap (λ (p : StoredParty). waiting_of p.cut) same_party
      ∙ sym (ap (λ (s : Stage B). s.waiting) is.stage_is) in
      let world_now : stage_now.world ≡ serves.next = ap (λ (s : Stage B). s.world) is_now.stage_is in
      record {
        does =
            subst (λ (r : Role). StepBy g cuts (client_at c) r stage.waiting stage event stage_now) (sym (others c))
            disk_same;
        waiting_is =
            subst (λ (r : Role). stage_now.waiting ≡ waiting_after r stage.waiting) (sym (others c)) waiting_same;
        stands =
            subst (λ (w : World). StandsNow g (client_at c) w stage_now.disk) (sym world_now)
            (stands_all stands (client_at c) stage_now is_now);
      }

  -- The event goes on.
  pub goes_server :
      SoundLaw → WorldStep world event serves.next
      → serves.next.is_cut ≡ false → StandsNow g the_server serves.next new.disk → role_of the_server event ≡ acts
      → ((c : ℕ) → role_of (client_at c) event ≡ looks_on)
      → ((numbers : Report) → Tells old.stations.report numbers
      → Tells new.stations.report (counts_with old.stations event world serves.next numbers))
      → GoesOn g cuts world event old new
  goes_server law step not_cut stands role others tells =
      record {
        next = serves.next;
        step = step;
        bench = record {
          sound = law.kept world serves.next event bench.sound step;
          none_gone = law.none_gone world serves.next event bench.sound step bench.none_gone;
          plays = serves.plays;
          steady = serves.steady;
          all_steady = λ c disk within is.
              bench.all_steady c disk (omega (arith, within, same_count))
              (subst (λ (d : List B). slice_get d c ≡ Some disk) same_disks is);
          enough =
              subst (λ (d : List B). client_count new.stations ≤ length d) (sym same_disks)
              (omega (arith, same_count, bench.enough));
          stands = stands_all stands;
        };
        disks = step_all role others not_cut stands;
        others = λ c far. ap (λ (d : List B). slice_get d c) same_disks;
        as_many = ap length same_disks;
        same_count = same_count;
        moment = keeps.moment ∙ ap (λ (s : Stations). s.moment) counts.same;
        counts = tells;
      }
