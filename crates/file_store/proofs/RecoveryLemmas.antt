-- The recovery of a store, said as the store says it.
use Rattle.std.proofs.Common.{◌≡◌, ℕ, List, Option, IfSome, Result, Err, ◌∙◌, ap, arith}
use Rattle.std.proofs.lemmas.Grind.{common_steps}
use Rattle.file_journal.specs.Journal.{HasGoodHeader, journal_of}
use Rattle.file_journal.specs.Walk.{state}
use Rattle.file_journal.specs.declared.faults.StoreFault.{StoreFault}
use Rattle.file_journal.specs.declared.faults.StoreFault.TheVariants as fault
use Rattle.file_store.proofs.Names.{good_header, told_weaker, Ghosts, RefusesRecovery, Store, placed_seen, placed_steps, seen, standing_of, store_form, store_layout, store_magic}

-- a refusal of the kept state is one of the store
pub recovery-refuses : {T U : Type 0} (blocks : ℕ) (content : Option (List ℕ)) (e : StoreFault) (result : Result U StoreFault) → result ≡ Err e
    → RefusesRecovery {T = T} blocks content (Err e) → RefusesRecovery blocks content result
recovery-refuses {T} blocks content e result is refuses healthy room =
    told_weaker content _ _ (λ before told exact. record { not_a_store = λ found. grind (arith, common_steps, exact.not_a_store found); damaged = λ at. grind (arith, common_steps, exact.damaged at) })
    (refuses (λ disk. healthy (let one : e ≡ fault.Disk = cc disk in is ∙ ap Err one)) (λ memory. room (let one : e ≡ fault.OutOfMemory = cc memory in is ∙ ap Err one)))

-- a content that stands for a store begins as one, or is of none yet
pub recovered_good : {D : Type 0} (g : Ghosts D) (blocks : ℕ) (content : Option (List ℕ)) (store : Store) → IfSome content (λ before. standing_of blocks before ≡ state store) → IfSome content (λ before. HasGoodHeader (journal_of store_magic store_layout before))
recovered_good g blocks content store stands = told_weaker content _ _ (λ before told is. good_header g placed_steps seen store_form placed_seen blocks before store is) stands
