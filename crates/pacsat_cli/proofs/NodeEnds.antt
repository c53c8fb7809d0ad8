-- What a session and a service have in common: how they end, what they count, and what their disk has to do with it.
use Rattle.std.proofs.Common.{◌≡◌, ℕ, ◌≤◌, List, [], ◌++◌, length, arith, refl, ap, sym, subst, ◌∙◌, inl, inr, Bool, true, false, append-nil}
use Rattle.std.proofs.lemmas.List.{append_cancel_left}
use Rattle.std.specs.Prelude.{◌||◌, ◌⊎◌}
use Rattle.px_base.specs.declared.air.Air.{Ghosts as AirGhosts}
use Rattle.file_store.specs.StoreFault.TheVariants as fault
use Rattle.server_node.specs.OnDisk.{NodeRuns}
use Rattle.server_node.specs.Served.{TurnsBy}
use Rattle.turn_loop.specs.declared.stop.NodeStop.TheVariants as stop
use Rattle.pacsat_cli.specs.declared.status.Status.TheVariants as status
use Rattle.pacsat_cli.proofs.Names.{or_parts, Option, Some, None, IfSome, Result, Err, IsErrOf, HasEnd, HearsAll, Turn, Ghosts, standing_of, PutsAmongReads, StoreFault, stop_of_fault, CountsBy, EndsExactly, RefusesSession, NodeStop, Served, DiskWord, Fresh, Named, AsksClient, Status, HasStatusCause, AsksFresh, AsksStore, HasDiskCause, HasReadCause, HasWriteCause, IsDoneAtEnd, IsSpentBy, RefusesExactly, status_of, told-same}
use Rattle.pacsat_cli.proofs.Ended.{damaged-end, disk-end, done_by, heard_by, is_heard_status, mended, not_a_store-end, read_cause, reads_end, spent_by, write_cause}

-- whether a session or a service over this disk can end so before anything is heard or said
abbrev pub is_early_status : Status → DiskWord → Bool
is_early_status status.Disk Named = true
is_early_status (status.BadStore why) Named = true
is_early_status status.OutOfMemory which = true
is_early_status s which = false

fault-early : (why : StoreFault) → is_early_status (status_of (Err (stop_of_fault why))) Named ≡ true
fault-early (fault.NotAStore found) = refl
fault-early (fault.Damaged at) = refl
fault-early fault.Disk = refl
fault-early fault.OutOfMemory = refl

-- whether it can end so at all
abbrev pub is_node_status : Status → DiskWord → Bool
is_node_status s which = is_early_status s which || is_heard_status s which

-- Nothing was heard or said, and it ended early.
pub record Early {A : Type 0} (which : DiskWord) (before now : A) (s : Status) : Type 0 where
  pub kind : is_early_status s which ≡ true
  pub same : now ≡ before

-- It took turns, over this disk.
pub record Went {A : Type 0} (air : AirGhosts A) (polls : ℕ) (which : DiskWord) (before now : A) (s : Status) : Type 0 where
  pub ended : Result Served NodeStop
  pub turns : List Turn
  pub turns_heard : HearsAll (air.heard before) (air.heard now) turns
  pub ends : TurnsBy ended polls turns
  pub counts : CountsBy ended (air.read_faults before) (air.read_faults now) (air.write_faults before) (air.write_faults now)
  pub status_is : s ≡ mended which (status_of ended)

-- Either of the two.
abbrev pub Goes : {A : Type 0} → AirGhosts A → ℕ → DiskWord → A → A → Status → Type 0
Goes air polls which before now s = Early which before now s ⊎ Went air polls which before now s

module _ {A : Type 0} (air : AirGhosts A) (before now : A) (s : Status) where
  -- where all stayed no turns were heard
  pub no-turns : now ≡ before → (earlier turns : List Turn) → air.heard before ≡ Some earlier → air.heard now ≡ Some (earlier ++ turns) → turns ≡ []
  no-turns same earlier turns told_before told_now =
      let P : A → Type 0 = λ a. air.heard a ≡ Some (earlier ++ turns) in
      let all : earlier ++ [] ≡ earlier ++ turns = (let one = sym told_before ∙ subst P same told_now in let nil = append-nil earlier in cc) in
      sym (append_cancel_left earlier [] turns all)

  module _ (polls : ℕ) (which : DiskWord) where
    -- it ends with no other status: with none of another command, nor, over a disk in memory, with one of the disk
    pub node-not : Goes air polls which before now s → (other : Status) → is_node_status other which ≡ false → s ≡ other → ⊥
    node-not (inl early) other isnt is = let same = sym early.kind ∙ ap (λ (t : Status). is_early_status t which) is ∙ (or_parts (is_early_status other which) (is_heard_status other which) isnt).0 in absurd (cc)
    node-not (inr went) other isnt is =
        let same = sym (heard_by which went.ended polls went.turns went.ends) ∙ ap (λ (t : Status). is_heard_status t which) (sym went.status_is ∙ is) ∙ (or_parts (is_early_status other which) (is_heard_status other which) isnt).1 in absurd (cc)

    pub node-read : (words : List (List ℕ)) → Goes air polls which before now s → HasReadCause words (air.read_faults before) (air.read_faults now) s
    node-read words (inl early) = record {
      rose = λ e. let other = ap (λ (t : Status). is_early_status t which) e in let yes = early.kind in absurd (cc);
      same = λ _ _. ap air.read_faults early.same;
    }
    node-read words (inr went) =
        let P : Status → Type 0 = λ t. HasStatusCause status.AirRead (air.read_faults before) (air.read_faults now) t in
        let cause = subst P (sym went.status_is) (read_cause which went.ended (air.read_faults before) (air.read_faults now) (air.write_faults before) (air.write_faults now) went.counts) in
        record { rose = cause.rose; same = λ isnt _. cause.same isnt }

    pub node-write : (words : List (List ℕ)) → (which ≡ Fresh → AsksFresh words) → (which ≡ Named → AsksStore words) → Goes air polls which before now s → HasWriteCause words (air.write_faults before) (air.write_faults now) s
    node-write words fresh store (inl early) = record {
      rose = λ e. let other = ap (λ (t : Status). is_early_status t which) e in let yes = early.kind in absurd (cc);
      same = λ _ _ _ _. ap air.write_faults early.same;
    }
    node-write words fresh store (inr went) =
        let P : Status → Type 0 = λ t. HasWriteCause words (air.write_faults before) (air.write_faults now) t in
        subst P (sym went.status_is) (write_cause which words went.ended (air.read_faults before) (air.read_faults now) (air.write_faults before) (air.write_faults now) fresh store went.counts)

    -- the turns that it took are those that are told
    pub turns_told : (went : Went air polls which before now s) (earlier turns : List Turn) → air.heard before ≡ Some earlier → air.heard now ≡ Some (earlier ++ turns) → went.turns ≡ turns
    turns_told went earlier turns told_before told_now = told-same (air.heard before) (air.heard now) earlier turns went.turns told_before told_now went.turns_heard

    -- where the end was heard, it is done
    pub node-complete : Goes air polls which before now s → (earlier turns : List Turn) → air.heard before ≡ Some earlier → air.heard now ≡ Some (earlier ++ turns) → HasEnd turns → s ≡ status.Done
    node-complete (inl early) earlier turns told_before told_now end =
        let P : List Turn → Type 0 = λ x. HasEnd x in
        absurd (subst P (no-turns early.same earlier turns told_before told_now) end)
    node-complete (inr went) earlier turns told_before told_now end =
        let P : List Turn → Type 0 = λ x. HasEnd x in
        went.status_is ∙ done_by which went.ended polls went.turns went.ends (subst P (sym (turns_told went earlier turns told_before told_now)) end)

    -- where all polls were made and left the air open, it is spent, but for a fault of saying or of the disk
    pub node-spent : Goes air polls which before now s → (asked : ℕ) → 1 ≤ asked → (earlier turns : List Turn) → air.heard before ≡ Some earlier → air.heard now ≡ Some (earlier ++ turns)
        → IsSpentBy s which asked turns
    node-spent (inl early) asked some earlier turns told_before told_now count all_open =
        let none = ap length (no-turns early.same earlier turns told_before told_now) in
        absurd (omega (arith, some, none, count))
    node-spent (inr went) asked some earlier turns told_before told_now count all_open =
        let at_status : Status → Type 0 = λ t. IsSpentBy t which asked turns in
        let at_turns : List Turn → Type 0 = λ x. IsSpentBy (mended which (status_of went.ended)) which asked x in
        subst at_status (sym went.status_is)
        (subst at_turns (turns_told went earlier turns told_before told_now) (spent_by which went.ended polls asked went.turns went.ends))
        count all_open

    -- where it is done, the end of the air was read, and no count rose but that of failed reads of the disk
    pub node-done :
        {D : Type 0} (words : List (List ℕ)) (reads writes : D → ℕ) (disk disk_now : D) → (which ≡ Fresh → AsksFresh words)
        → (which ≡ Named → AsksStore words) → (AsksClient words → ⊥)
        → Goes air polls which before now s → HasDiskCause words reads writes disk disk_now before now s → s ≡ status.Done
        → IsDoneAtEnd air reads writes before now disk disk_now
    node-done words reads writes disk disk_now fresh store others goes cause done =
        let disks = cause.same (λ e. let other = sym done ∙ e in cc) in
        record {
          end =
              elim goes [
                | inl early ↦ absurd (let kind = sym early.kind ∙ ap (λ (t : Status). is_early_status t which) done in cc)
                | inr went ↦ (went.turns, went.turns_heard, reads_end which went.ended polls went.turns went.ends (sym went.status_is ∙ done))
              ];
          air_reads = (node-read words goes).same (λ e. let other = sym done ∙ e in cc) (λ pass. others pass.0);
          air_writes = (node-write words fresh store goes).same (λ e. let other = sym done ∙ e in cc) (λ e. let other = sym done ∙ e in absurd (cc)) (λ e. let other = sym done ∙ e in absurd (cc)) (λ pass. others pass.0);
          disk_reads = cause.no_less.0;
          disk_writes = disks;
        }

-- It was over the disk that DISK names: the recovery of its store was refused, or it took turns.
pub record OnDisk {A D : Type 0} (g : Ghosts D) (air : AirGhosts A) (blocks polls : ℕ) (disk disk_now : D) (before now : A) (s : Status) : Type 0 where
  pub ended : Result Served NodeStop
  pub refuses : RefusesSession blocks (g.content disk) ended
  pub runs : NodeRuns g (IsErrOf ended stop.Disk) disk disk_now
  pub status_is : s ≡ status_of ended
  pub goes :
      ((why : StoreFault) × (ended ≡ Err (stop_of_fault why)) × (now ≡ before))
      ⊎ (PutsAmongReads g (IsErrOf ended stop.Disk) disk disk_now × Went air polls Named before now s)

-- the recovery was refused before anything was heard
pub early-of : {A : Type 0} (before now : A) (s : Status) (ended : Result Served NodeStop) (why : StoreFault) → s ≡ status_of ended → ended ≡ Err (stop_of_fault why) → now ≡ before → Early Named before now s
early-of before now s ended why is answer same = record { kind = ap (λ (t : Status). is_early_status t Named) (is ∙ ap status_of answer) ∙ fault-early why; same = same }

module _ {A D : Type 0} (g : Ghosts D) (air : AirGhosts A) (blocks polls : ℕ) (disk disk_now : D) (before now : A) (s : Status) (over : OnDisk g air blocks polls disk disk_now before now s) where
  pub on_disk-goes : Goes air polls Named before now s
  on_disk-goes =
      elim over.goes [
        | inl refused ↦ inl (early-of before now s over.ended refused.0 over.status_is refused.1 refused.2)
        | inr went ↦ inr went.1
      ]

  -- the disk's counts by how it ended
  pub on_disk-cause : (words : List (List ℕ)) → AsksStore words → HasDiskCause words g.read_faults g.write_faults disk disk_now before now s
  on_disk-cause words asks = record {
    asked = λ _. inl asks;
    rose = λ e.
        let failed = disk-end over.ended (sym over.status_is ∙ e) in
        elim over.goes [
          | inl refused ↦ elim (over.runs.rose failed) [ inl reads ↦ inr (reads, refused.2) | inr writes ↦ inl writes ]
          | inr went ↦ inl (went.0.faults.rose failed)
        ];
    same = λ isnt. over.runs.same (λ failed. isnt (over.status_is ∙ ap status_of failed));
    same_reads = λ _ none. absurd (none asks);
    no_less = (over.runs.reads, over.runs.writes);
  }

  -- each refusal, by what the content stands for
  exact-of : (octets : List ℕ) → EndsExactly blocks octets over.ended → RefusesExactly (standing_of blocks octets) s
  exact-of octets h = record {
    not_a_store = λ found. (
      λ e. (h.not_a_store found).0 (not_a_store-end over.ended found (sym over.status_is ∙ e)),
      λ stands. over.status_is ∙ ap status_of ((h.not_a_store found).1 stands),
    );
    damaged = λ at. (
      λ e. (h.damaged at).0 (damaged-end over.ended at (sym over.status_is ∙ e)),
      λ stands. over.status_is ∙ ap status_of ((h.damaged at).1 stands),
    );
  }

  told-exact : (content : Option (List ℕ)) → IfSome content (λ octets. EndsExactly blocks octets over.ended) → IfSome content (λ octets. RefusesExactly (standing_of blocks octets) s)
  told-exact None h = tt
  told-exact (Some octets) h = exact-of octets h

  pub on_disk-exact : (s ≡ status.Disk → ⊥) → (s ≡ status.OutOfMemory → ⊥) → IfSome (g.content disk) (λ octets. RefusesExactly (standing_of blocks octets) s)
  on_disk-exact disk_not memory_not =
      told-exact (g.content disk)
      (over.refuses (λ failed. disk_not (over.status_is ∙ ap status_of failed)) (λ failed. memory_not (over.status_is ∙ ap status_of failed)))
