-- A session over a fresh disk in memory.
use Rattle.std.proofs.Common.{◌≡◌, ℕ, List, [], refl, ap, sym, subst, ◌∙◌, inl, inr}
use Rattle.px_base.specs.declared.air.Air.{Ghosts as AirGhosts}
use Rattle.disk_model.specs.Disk.{IsTold}
use Rattle.disk_model.specs.Memory.{read_faults, state as disk_state}
use Rattle.disk_model.specs.declared.memory_disk.MemoryDisk.{MemoryDisk}
use Rattle.file_store.specs.Journal.{journal_of}
use Rattle.file_store.specs.Walk.{state}
use Rattle.file_store.specs.Store.{Store, empty_store}
use Rattle.file_store.specs.StoreFault.TheVariants as fault
use Rattle.server_node.specs.Sessions.SessionRan.{SessionEnds, SessionRan}
use Rattle.turn_loop.specs.declared.stop.NodeStop.TheVariants as stop
use Rattle.server_node.specs.declared.terms.SessionTerms.{SessionTerms}
use Rattle.pacsat_cli.proofs.Names.{Option, Some, IfSome, Result, Err, ⊤, new_state, Ghosts, IsKnown, standing_of, CountsSome, StoreFault, lent, seen, Run, stop_of_fault, HasAirCause, EndsExactly, RefusesSession, NodeStop, Served, OverMemory, status_in_memory, status_of}

-- a disk without octets stands for the empty store
fresh-stands : (blocks : ℕ) → standing_of blocks [] ≡ state (empty_store blocks)
unfolding journal_of
fresh-stands blocks = refl

state-same : (a b : Store) → state a ≡ state b → a ≡ b
state-same a b h = cc

-- neither refusal comes
no-refusal : (blocks : ℕ) (ended : Result Served NodeStop) → EndsExactly blocks [] ended → (found : List ℕ) → ended ≡ Err (stop.NotAStore found) → ⊥
no-refusal blocks ended exact found is = let told = sym (fresh-stands blocks) ∙ (exact.not_a_store found).0 is in absurd (cc)

no-damage : (blocks : ℕ) (ended : Result Served NodeStop) → EndsExactly blocks [] ended → (at : ℕ) → ended ≡ Err (stop.Damaged at) → ⊥
no-damage blocks ended exact at is = let told = sym (fresh-stands blocks) ∙ (exact.damaged at).0 is in absurd (cc)

-- where it is known what octets the store's files have, all is told
all-told : (K : Type 0) → K → (terms : SessionTerms) (start : Store) (run : Run) (ended : Result Served NodeStop) → SessionRan K terms start run ended → SessionRan ⊤ terms start run ended
all-told K known terms start run ended h = record {
  one_each = h.one_each;
  events = h.events;
  rest = h.rest;
  brings = h.brings;
  stream = h.stream;
  bound = h.bound;
  ends = h.ends;
  said =
      elim h.said [
        | inl none ↦ inl none
        | inr greeted ↦
            inr
            (record {
              replies = greeted.replies;
              text_is = greeted.text_is;
              earlier = greeted.earlier;
              but_last = greeted.but_last;
              least = greeted.least;
              left = greeted.left;
              brought = greeted.brought;
              ends_over = λ always. greeted.ends_over known;
            })
      ];
}

module _ {A C : Type 0} (g : Ghosts MemoryDisk) (air : AirGhosts A) (given : C → Option (List ℕ)) (disk disk_now : MemoryDisk) (before now : A) (clock clock_n : C) (terms : SessionTerms) (ended : Result Served NodeStop)
    (fresh : g.content disk ≡ Some []) (refuses : RefusesSession terms.limits.blocks (g.content disk) ended) (counts : HasAirCause air.read_faults air.write_faults before now ended) where
  exact : (why : NodeStop) → ended ≡ Err why → (why ≡ stop.Disk → ⊥) → (why ≡ stop.OutOfMemory → ⊥) → EndsExactly terms.limits.blocks [] ended
  exact why is disk_not memory_not =
      let P : Option (List ℕ) → Type 0 = λ o. IfSome o (λ octets. EndsExactly terms.limits.blocks octets ended) in
      subst P fresh
      (refuses (λ e. disk_not (let told = sym is ∙ e in cc)) (λ e. memory_not (let told = sym is ∙ e in cc)))

  -- a recovery that is refused finds no memory
  refused : (why : StoreFault) → ended ≡ Err (stop_of_fault why) → now ≡ before → clock_n ≡ clock → OverMemory air given before now clock clock_n terms (status_in_memory (status_of ended))
  refused (fault.NotAStore found) is same clock_same = absurd (no-refusal terms.limits.blocks ended (exact (stop.NotAStore found) is (λ e. cc) (λ e. cc)) found is)
  refused (fault.Damaged at) is same clock_same = absurd (no-damage terms.limits.blocks ended (exact (stop.Damaged at) is (λ e. cc) (λ e. cc)) at is)
  refused fault.Disk is same clock_same = inl (ap (λ (r : Result Served NodeStop). status_in_memory (status_of r)) is, same, clock_same)
  refused fault.OutOfMemory is same clock_same = inl (ap (λ (r : Result Served NodeStop). status_in_memory (status_of r)) is, same, clock_same)

  pub over-memory : disk_state disk ≡ new_state [] [] → ((d : MemoryDisk) → g.read_faults d ≡ read_faults d) → SessionEnds (seen g air given) (lent disk before clock) (lent disk_now now clock_n) terms ended
      → OverMemory air given before now clock clock_n terms (status_in_memory (status_of ended))
  over-memory is_new counts_so (inl h) = refused h.fault h.answer h.air h.clock
  over-memory is_new counts_so (inr h) =
      let P : Option (List ℕ) → Type 0 = λ o. IfSome o (λ octets. standing_of terms.limits.blocks octets ≡ state h.start) in
      let start_is = state-same h.start (empty_store terms.limits.blocks) (sym (subst P fresh h.stood) ∙ fresh-stands terms.limits.blocks) in
      let Q : Store → Type 0 = λ s. SessionRan ⊤ terms s h.run ended in
      let known : IsKnown g disk = inr (subst (λ (c : Option (List ℕ)). IsTold c) (sym fresh) refl) in
      inr
      (record {
        ended = ended;
        run = h.run;
        turns_heard = h.turns_heard;
        moments_given = h.moments_given;
        text_said = h.text_said;
        is_unsaid = h.is_unsaid;
        ran = subst Q start_is (all-told (IsKnown g disk) known terms h.start h.run ended h.ran);
        fresh = disk;
        is_fresh = is_new;
        used = disk_now;
        reads =
            let at_first : ℕ → Type 0 = λ n. CountsSome n (read_faults disk_now) h.run.all.missed in
            let at_last : ℕ → Type 0 = λ n. CountsSome (g.read_faults disk) n h.run.all.missed in
            subst at_first (counts_so disk) (subst at_last (counts_so disk_now) (h.reads known));
        counts = counts;
        status_is = refl;
      })
