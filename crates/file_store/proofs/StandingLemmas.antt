-- What stays through a recovery of the store and the calls that come after it, of which the disk may have cut off the
-- last.
use Rattle.std.proofs.Common.{◌≡◌, ℕ, List, IfSome}
use Rattle.file_journal.specs.Recovery.{IsSyncedFirst}
use Rattle.file_journal.specs.Through.{StandsThrough}
use Rattle.file_journal.specs.Walk.{state}
use Rattle.file_store.proofs.Names.{at, Ghosts, placed_seen, among_reads, Leaves, TellsAlike, stands_through, Command, kept_at, StandsAlike, StoreState, standing_of, store_form, store_on, CutsOffAmongReads}

module _ {D : Type 0} (g : Ghosts D) (failed : Type 0) (blocks : ℕ) (old mid now : D)
    (start new : StoreState) (done cut : List Command) (missed : ℕ) (alike : TellsAlike (g.content old) (g.content mid))
    (stood : IfSome (g.content old) (λ before. standing_of blocks before ≡ state (store_on g start mid)))
    (since_start : Leaves g old mid (StandsAlike blocks)) (since_sync : IfSome (g.content old) (λ before. IsSyncedFirst g old mid (StandsAlike blocks before)))
    (cuts : CutsOffAmongReads g failed missed (at start mid) (at new now) done cut) where
  pub stands-through :
      (stands : StandsThrough g store_form failed (store_on g start mid) done cut old now)
      × (stands.ready ≡ g.moment mid) × (stands.journal ≡ start.journal)
  stands-through =
      stands_through g store_form placed_seen.own_number blocks failed old (kept_at g start mid) (kept_at g cuts.then_is.it cuts.then_is.disk) (kept_at g new now) done cut alike stood since_start since_sync
      (among_reads g ⊥ missed) (among_reads g failed 0) cuts.first cuts.second cuts.first.puts.told cuts.second.puts.told
