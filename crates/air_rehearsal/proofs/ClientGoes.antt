-- An event of a client makes a next world of the one that is played.
use Rattle.std.specs.Prelude.{◌≡◌, ◌≢◌, ◌⊎◌, ◌∷◌, ◌-◌, ◌<◌}
use Rattle.std.proofs.Common.{sym, ap, ◌∙◌, subst, inl, inr, arith}
use Rattle.client_notes.specs.Several as notes
use Rattle.client_notes.specs.State as notes_state
use Rattle.file_store.specs.State.{StandsFor as StandsForStore}
use Rattle.air_world.specs.Attempts.Party.{Party}
use Rattle.air_rehearsal.specs.Standing.{StandsFor}
use Rattle.air_rehearsal.proofs.Names.{ℕ, zero, suc, [], is_some, List, length, slice_get, slice_set, Option, None, Some, refl, same_Some, Cuts, LeavesOnly, Ghosts, told_weaker, weaker, window_of, Server, IsServer, ServerState, store_on, WorldStep, client_commands, ClientPart, ClientTakes, SoundLaw, Event, PartyAt, World, CarriesOut, DiskStep, Stage, StepBy, Tells, Bench, GoesOn, IsBench, IsStage, client_count, counts_with, Report, waiting_of, Makes, StandsDuring, StandsNow, least_done, Role, Station, acts, client_at, looks_on, role_of, the_server, waiting_after, CarriesPart, DoesPart, HasDone, IsSteady, PlayParties, PlaysParty, PlaysStations, asked_from, Cut, Party as StoredParty, Form, Lists, NotesCommand, notes_form}
use Rattle.air_rehearsal.proofs.BenchLemmas.{played_at, plays_set, set_count}
use Rattle.air_rehearsal.proofs.ServerGoes.{stands_still}

module _ {B : Type 0} (g : Ghosts B) (world : World) (event : Event) (c : ℕ) (part : ClientPart)
    (takes : ClientTakes world event c part) where
  during : (image : List ℕ) → notes.MakesFirst part.party.client.lists (client_commands part) image
      → StandsDuring (client_at c) world event image
  during image makes = record { part = part; takes = takes; stands = makes }

  makes : (least : (S C : Type 0) → Form S C → List C → ℕ) (image : List ℕ) → HasDone (least Lists NotesCommand notes_form) part image → Makes least (client_at c) world event image
  makes least image done = record { part = part; takes = takes; stands = done }

  pub carries_out : (disk disk_now : B) → CarriesPart g part disk disk_now
      → CarriesOut g (client_at c) world event disk disk_now
  carries_out disk disk_now carries =
      record {
        told = carries.told;
        since =
            told_weaker (g.content disk)
            (λ _.
            LeavesOnly g.moment g.images_since disk disk_now
            (notes.MakesFirst part.party.client.lists (client_commands part)))
            (λ _. LeavesOnly g.moment g.images_since disk disk_now (StandsDuring (client_at c) world event))
            (λ _ _ leaves.
            weaker g.moment g.images_since disk disk_now
            (notes.MakesFirst part.party.client.lists (client_commands part))
            (StandsDuring (client_at c) world event) during leaves) carries.since;
        lasts = carries.lasts;
      }

  module _ (cuts : Cuts B) (next : World) (party : Party) (at : PartyAt next c party) where
    -- what a client does at its part is what the event does to its disk
    pub does_event :
        (cut : Option Cut) (disk disk_now : B) (waiting : Option ℕ) → DoesPart g cuts cut part party disk disk_now
        → StepBy g cuts (client_at c) acts (waiting_of cut)
        (record { world = world; waiting = waiting_of cut; disk = disk }) event
        (record { world = next; waiting = waiting; disk = disk_now })
    does_event None disk disk_now waiting does = carries_out disk disk_now does.1
    does_event (Some cut) disk disk_now waiting does =
        let it = does.1 in
        record {
          armed = it.armed;
          arms = it.arms;
          lost = it.lost;
          carries = carries_out it.armed it.lost it.carries;
          left = it.left;
          loses = it.loses;
          keeps = it.keeps;
          memory = it.memory;
          stands =
              told_weaker (g.content it.left) (λ image. notes_state.StandsFor image party.client.lists)
              (StandsFor (client_at c) next) (λ image _ stands. (party, at, stands)) it.stands;
          no_fewer = λ few.
              let least = least_done (cuts.arming it.lost) (cut.call - 1) in
              told_weaker (g.content it.left) (HasDone (least Lists NotesCommand notes_form) part) (Makes least (client_at c) world event)
              (λ image _ done. makes least image done) (it.no_fewer few);
          again = it.again c;
        }

-- The world with one client changed, and the uploads that were asked.
pub record NextWorld (world : World) (c : ℕ) (party : Party) (next : World) : Type 0 where
  pub server : next.server ≡ world.server
  pub parties : next.parties ≡ slice_set world.parties c party
  pub is_cut : next.is_cut ≡ world.is_cut

-- The bench with one client changed, over its disk.
pub record NextBench {B : Type 0} (c : ℕ) (old new : Bench B) (party : StoredParty) (disk : B) : Type 0 where
  pub server : new.server ≡ old.server
  pub server_disk : new.disk ≡ old.disk
  pub me : new.stations.me ≡ old.stations.me
  pub k : new.stations.k ≡ old.stations.k
  pub cut : new.stations.cut ≡ old.stations.cut
  pub moment : new.stations.moment ≡ old.stations.moment
  pub parties : new.stations.parties.items ≡ slice_set old.stations.parties.items c party
  pub disks : new.disks ≡ slice_set old.disks c disk

-- a place is another one, or the same
pub same_or_other : (i c : ℕ) → (i ≡ c) ⊎ (i ≢ c)
same_or_other zero zero = inl refl
same_or_other zero (suc c) = inr (λ e. (let no : ⊥ = omega (arith, e) in no))
same_or_other (suc i) zero = inr (λ e. (let no : ⊥ = omega (arith, e) in no))
same_or_other (suc i) (suc c) = elim (same_or_other i c) [
  | inl same ↦ inl (ap suc same)
  | inr other ↦ inr (λ e. other (let same : i ≡ c = omega (arith, e) in same))
]

pub within_of : {X : Type 0} (xs : List X) (c : ℕ) (x : X) → slice_get xs c ≡ Some x → c < length xs
within_of [] c x is = absurd cc
within_of (first ∷ xs) zero x is = omega arith
within_of (first ∷ xs) (suc c) x is = (let less = within_of xs c x is in omega (arith, less))

pub set_there : {X : Type 0} (xs : List X) (c : ℕ) (x y : X) → slice_get xs c ≡ Some x → slice_get (slice_set xs c y) c ≡ Some y
set_there [] c x y is = absurd cc
set_there (first ∷ xs) zero x y is = refl
set_there (first ∷ xs) (suc c) x y is = set_there xs c x y is

pub set_other : {X : Type 0} (xs : List X) (c i : ℕ) (y : X) → i ≢ c → slice_get (slice_set xs c y) i ≡ slice_get xs i
set_other [] c i y other = refl
set_other (first ∷ xs) zero zero y other = absurd (other refl)
set_other (first ∷ xs) zero (suc i) y other = refl
set_other (first ∷ xs) (suc c) zero y other = refl
set_other (first ∷ xs) (suc c) (suc i) y other = set_other xs c i y (λ same. other (ap suc same))

module _ {B : Type 0} (g : Ghosts B) (cuts : Cuts B) (world next : World) (event : Event) (old new : Bench B) (c : ℕ)
    (bench : IsBench g cuts world old) (stored now : StoredParty) (party then : Party) (disk disk_now : B)
    (is_stored : slice_get old.stations.parties.items c ≡ Some stored) (is_party : PartyAt world c party)
    (is_disk : slice_get old.disks c ≡ Some disk) (goes : NextWorld world c then next)
    (changes : NextBench c old new now disk_now) where
  now_at : slice_get new.stations.parties.items c ≡ Some now
  now_at =
      subst (λ (p : List StoredParty). slice_get p c ≡ Some now) (sym changes.parties)
      (set_there old.stations.parties.items c stored now is_stored)

  then_at : PartyAt next c then
  then_at =
      subst (λ (p : List Party). slice_get p c ≡ Some then) (sym goes.parties)
      (set_there world.parties c party then is_party)

  disk_at : slice_get new.disks c ≡ Some disk_now
  disk_at =
      subst (λ (d : List B). slice_get d c ≡ Some disk_now) (sym changes.disks) (set_there old.disks c disk disk_now is_disk)

  count_same : client_count new.stations ≡ client_count old.stations
  count_same = ap length changes.parties ∙ set_count old.stations.parties.items c now

  disks_same : length new.disks ≡ length old.disks
  disks_same = ap length changes.disks ∙ set_count old.disks c disk_now

  -- a client that is another one than that at the place
  other_at :
      (i : ℕ) (self : StoredParty) → i ≢ c → slice_get new.stations.parties.items i ≡ Some self
      → slice_get old.stations.parties.items i ≡ Some self
  other_at i self other is =
      sym (set_other old.stations.parties.items c i now other)
      ∙ subst (λ (p : List StoredParty). slice_get p i ≡ Some self) changes.parties is

  other_disk : (i : ℕ) (it : B) → i ≢ c → slice_get new.disks i ≡ Some it → slice_get old.disks i ≡ Some it
  other_disk i it other is =
      sym (set_other old.disks c i disk_now other) ∙ subst (λ (d : List B). slice_get d i ≡ Some it) changes.disks is

  other_party : (i : ℕ) (it : Party) → i ≢ c → PartyAt world i it → PartyAt next i it
  other_party i it other is =
      subst (λ (p : List Party). slice_get p i ≡ Some it) (sym goes.parties) (set_other world.parties c i then other ∙ is)

  plays_stations :
      PlaysParty now then → next.files ≡ asked_from 0 new.stations.uploads.items → PlaysStations new.stations next
  plays_stations plays files =
      record {
        me_is = changes.me ∙ bench.plays.stations.me_is ∙ sym (ap (λ (s : Server). s.me) goes.server);
        window_is =
            ap (λ (s : Server). s.window) goes.server ∙ bench.plays.stations.window_is
            ∙ sym (ap (λ (k : ℕ). window_of k) changes.k);
        cut_is =
            ap (λ (x : Option Cut). is_some x) changes.cut ∙ bench.plays.stations.cut_is ∙ sym goes.is_cut;
        files_are = files;
        parties =
            subst (λ (p : List StoredParty). PlayParties p next.parties) (sym changes.parties)
            (subst (λ (p : List Party).
            PlayParties (slice_set old.stations.parties.items c now) p) (sym goes.parties)
            (plays_set old.stations.parties.items world.parties c now then bench.plays.stations.parties plays));
      }

  server_still : StandsNow g the_server next new.disk
  server_still =
      let stands = bench.stands the_server _ refl in
      let own : (image : List ℕ) → StandsFor the_server world image → StandsFor the_server next image =
      λ image it. subst (λ (s : Server). StandsForStore image s.store) (sym goes.server) it in
      subst (λ (d : B). StandsNow g the_server next d) (sym changes.server_disk)
      (record {
        content = stands.content;
        is_content = stands.is_content;
        stands = own stands.content stands.stands;
        images = λ image since. own image (stands.images image since);
      })

  stands_each :
      StandsNow g (client_at c) next disk_now → (station : Station) (stage : Stage B) → IsStage next new station stage
      → StandsNow g station next stage.disk
  stands_each stands the_server stage is = subst (λ (s : Stage B). StandsNow g the_server next s.disk) (sym is) server_still
  stands_each stands (client_at i) stage is =
      subst (λ (s : Stage B). StandsNow g (client_at i) next s.disk) (sym is.stage_is)
      (elim (same_or_other i c) [
        | inl same ↦
            let here : is.disk ≡ disk_now =
            same_Some is.disk disk_now
            (sym is.is_disk ∙ ap (λ (j : ℕ). slice_get new.disks j) same ∙ disk_at) in
            subst (λ (j : ℕ). StandsNow g (client_at j) next is.disk) (sym same)
            (subst (λ (d : B). StandsNow g (client_at c) next d) (sym here) stands)
        | inr other ↦
            let self = other_at i is.party other is.is_party in
            let it = played_at old.stations.parties.items world.parties i is.party bench.plays.stations.parties self in
            stands_still g i world next it.0 it.0 is.disk
            (bench.stands (client_at i)
            (record { world = world; waiting = waiting_of is.party.cut; disk = is.disk })
            (record {
              party = is.party;
              is_party = self;
              disk = is.disk;
              is_disk = other_disk i is.disk other is.is_disk;
              stage_is = refl;
            })) it.1 (other_party i it.0 other it.1) refl
      ])

  abbrev stage_then : Stage B
  stage_then = record { world = world; waiting = waiting_of stored.cut; disk = disk }

  abbrev stage_now : Stage B
  stage_now = record { world = next; waiting = waiting_of now.cut; disk = disk_now }

  -- a station that only looks on
  looks :
      (station : Station) (stage later : Stage B) → role_of station event ≡ looks_on → later.disk ≡ stage.disk
      → later.waiting ≡ stage.waiting → StandsNow g station later.world later.disk
      → DiskStep g cuts station stage event later
  looks station stage later role same waiting stands =
      record {
        does = subst (λ (r : Role). StepBy g cuts station r stage.waiting stage event later) (sym role) same;
        waiting_is = subst (λ (r : Role). later.waiting ≡ waiting_after r stage.waiting) (sym role) waiting;
        stands = stands;
      }

  step_each :
      StandsNow g (client_at c) next disk_now → DiskStep g cuts (client_at c) stage_then event stage_now
      → role_of the_server event ≡ looks_on → ((i : ℕ) → i ≢ c → role_of (client_at i) event ≡ looks_on)
      → (station : Station) (stage later : Stage B) → IsStage world old station stage → IsStage next new station later
      → DiskStep g cuts station stage event later
  step_each stands step role others the_server stage later is is_later =
      subst (λ (s : Stage B). DiskStep g cuts the_server s event later) (sym is)
      (subst
      (λ (s : Stage B).
      DiskStep g cuts the_server
      (record { world = world; waiting = waiting_of old.stations.cut; disk = old.disk }) event s) (sym is_later)
      (looks the_server _ _ role changes.server_disk (ap waiting_of changes.cut) server_still))
  step_each stands step role others (client_at i) stage later is is_later =
      subst (λ (s : Stage B). DiskStep g cuts (client_at i) s event later) (sym is.stage_is)
      (subst
      (λ (s : Stage B).
      DiskStep g cuts (client_at i)
      (record { world = world; waiting = waiting_of is.party.cut; disk = is.disk }) event s) (sym is_later.stage_is)
      (elim (same_or_other i c) [
        | inl same ↦
            let party_is : is.party ≡ stored =
            same_Some is.party stored
            (sym is.is_party ∙ ap (λ (j : ℕ). slice_get old.stations.parties.items j) same ∙ is_stored) in
            let disk_is : is.disk ≡ disk =
            same_Some is.disk disk (sym is.is_disk ∙ ap (λ (j : ℕ). slice_get old.disks j) same ∙ is_disk) in
            let party_now : is_later.party ≡ now =
            same_Some is_later.party now
            (sym is_later.is_party ∙ ap (λ (j : ℕ). slice_get new.stations.parties.items j) same ∙ now_at) in
            let disk_is_now : is_later.disk ≡ disk_now =
            same_Some is_later.disk disk_now
            (sym is_later.is_disk ∙ ap (λ (j : ℕ). slice_get new.disks j) same ∙ disk_at) in
            subst
            (λ (j : ℕ).
            DiskStep g cuts (client_at j)
            (record { world = world; waiting = waiting_of is.party.cut; disk = is.disk }) event
            (record { world = next; waiting = waiting_of is_later.party.cut; disk = is_later.disk })) (sym same)
            (subst
            (λ (p : StoredParty).
            DiskStep g cuts (client_at c) (record { world = world; waiting = waiting_of p.cut; disk = is.disk }) event
            (record { world = next; waiting = waiting_of is_later.party.cut; disk = is_later.disk })) (sym party_is)
            (subst
            (λ (d : B).
            DiskStep g cuts (client_at c) (record { world = world; waiting = waiting_of stored.cut; disk = d }) event
            (record { world = next; waiting = waiting_of is_later.party.cut; disk = is_later.disk })) (sym disk_is)
            (subst
            (λ (p : StoredParty).
            DiskStep g cuts (client_at c) stage_then event
            (record { world = next; waiting = waiting_of p.cut; disk = is_later.disk })) (sym party_now)
            (subst
            (λ (d : B).
            DiskStep g cuts (client_at c) stage_then event
            (record { world = next; waiting = waiting_of now.cut; disk = d })) (sym disk_is_now) step))))
        | inr other ↦
            let self = other_at i is_later.party other is_later.is_party in
            let party_is : is_later.party ≡ is.party = same_Some is_later.party is.party (sym self ∙ is.is_party) in
            let disk_is : is_later.disk ≡ is.disk =
            same_Some is_later.disk is.disk (sym (other_disk i is_later.disk other is_later.is_disk) ∙ is.is_disk) in
            looks (client_at i) _ _ (others i other) disk_is (ap (λ (p : StoredParty). waiting_of p.cut) party_is)
            (subst (λ (s : Stage B). StandsNow g (client_at i) next s.disk) is_later.stage_is
            (stands_each stands (client_at i) later is_later))
      ]))

  -- The event goes on.
  pub goes_client :
      SoundLaw → WorldStep world event next → PlaysParty now then → IsSteady g cuts disk_now
      → next.files ≡ asked_from 0 new.stations.uploads.items → StandsNow g (client_at c) next disk_now
      → DiskStep g cuts (client_at c) stage_then event stage_now → role_of the_server event ≡ looks_on
      → ((i : ℕ) → i ≢ c → role_of (client_at i) event ≡ looks_on)
      → ((numbers : Report) → Tells old.stations.report numbers
      → Tells new.stations.report (counts_with old.stations event world next numbers))
      → GoesOn g cuts world event old new
  goes_client law step plays steady files stands does role others tells =
      record {
        next = next;
        step = step;
        bench = record {
          sound = law.kept world next event bench.sound step;
          none_gone = law.none_gone world next event bench.sound step bench.none_gone;
          plays = record {
            server =
                subst (λ (d : B). IsServer (store_on g new.server.store d) new.server next.server)
                (sym changes.server_disk)
                (subst (λ (s : ServerState). IsServer (store_on g s.store old.disk) s next.server) (sym changes.server)
                (subst (λ (s : Server). IsServer (store_on g old.server.store old.disk) old.server s) (sym goes.server)
                bench.plays.server));
            blocks = ap (λ (s : Server). s.store.blocks) goes.server ∙ bench.plays.blocks;
            stations = plays_stations plays files;
          };
          steady = subst (λ (d : B). IsSteady g cuts d) (sym changes.server_disk) bench.steady;
          all_steady = λ i it within is. elim (same_or_other i c) [
            | inl same ↦
                let here : it ≡ disk_now =
                same_Some it disk_now (sym is ∙ ap (λ (j : ℕ). slice_get new.disks j) same ∙ disk_at) in
                subst (λ (d : B). IsSteady g cuts d) (sym here) steady
            | inr other ↦ bench.all_steady i it (omega (arith, within, count_same)) (other_disk i it other is)
          ];
          enough = omega (arith, count_same, disks_same, bench.enough);
          stands = stands_each stands;
        };
        disks = step_each stands does role others;
        others = λ i far.
            subst (λ (d : List B). slice_get d i ≡ slice_get old.disks i) (sym changes.disks)
            (set_other old.disks c i disk_now
            (λ same. (let less = within_of old.stations.parties.items c stored is_stored in let no : ⊥ = omega (arith, same, less, far) in no)));
        as_many = disks_same;
        same_count = count_same;
        moment = changes.moment;
        counts = tells;
      }
