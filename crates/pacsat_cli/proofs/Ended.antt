-- How a session or a service ended, as its status says.
use Rattle.std.proofs.Common.{◌≡◌, ℕ, List, refl, ap, sym, subst, ◌∙◌, inl, inr, Bool, true, false, arith}
use Rattle.px_base.specs.declared.air.Turn.TheVariants as turn
use Rattle.server_node.specs.Served.{TurnsBy}
use Rattle.turn_loop.specs.declared.stop.NodeStop.TheVariants as stop
use Rattle.pacsat_cli.specs.declared.status.BadStore.TheVariants as bad
use Rattle.pacsat_cli.specs.declared.status.Status.TheVariants as status
use Rattle.pacsat_cli.proofs.Names.{Result, Ok, Err, EndsWith, HasEnd, Turn, CountsBy, NodeStop, Served, DiskWord, Fresh, Named, Status, HasStatusCause, HasWriteCause, AsksFresh, AsksStore, IsSpentBy, disk_fault, status_in_memory, status_of}
use Rattle.pacsat_cli.proofs.OpenTurns.{ends_with-not_open, failed-no_end, open-no_end}

-- the status over this disk
abbrev pub mended : DiskWord → Status → Status
mended which status.Disk = disk_fault which
mended which s = s

pub mended-memory : (ended : Result Served NodeStop) → mended Fresh (status_of ended) ≡ status_in_memory (status_of ended)
mended-memory (Ok served) = refl
mended-memory (Err stop.AirRead) = refl
mended-memory (Err stop.AirWrite) = refl
mended-memory (Err stop.Disk) = refl
mended-memory (Err (stop.NotAStore found)) = refl
mended-memory (Err (stop.Damaged at)) = refl
mended-memory (Err stop.Spent) = refl
mended-memory (Err stop.OutOfMemory) = refl

pub mended-disk : (ended : Result Served NodeStop) → mended Named (status_of ended) ≡ status_of ended
mended-disk (Ok served) = refl
mended-disk (Err stop.AirRead) = refl
mended-disk (Err stop.AirWrite) = refl
mended-disk (Err stop.Disk) = refl
mended-disk (Err (stop.NotAStore found)) = refl
mended-disk (Err (stop.Damaged at)) = refl
mended-disk (Err stop.Spent) = refl
mended-disk (Err stop.OutOfMemory) = refl

-- where the end was heard, it is done
pub done_by : (which : DiskWord) (ended : Result Served NodeStop) (polls : ℕ) (turns : List Turn) → TurnsBy ended polls turns → HasEnd turns → mended which (status_of ended) ≡ status.Done
done_by which (Ok served) polls turns h end = refl
done_by which (Err stop.AirRead) polls turns h end = let P : List Turn → Type 0 = λ x. HasEnd x in absurd (failed-no_end h.0 h.2 (subst P h.1 end))
done_by which (Err stop.AirWrite) polls turns h end = absurd (open-no_end turns h end)
done_by which (Err stop.Disk) polls turns h end = absurd (open-no_end turns h end)
done_by which (Err (stop.NotAStore found)) polls turns h end = absurd h
done_by which (Err (stop.Damaged at)) polls turns h end = absurd h
done_by which (Err stop.Spent) polls turns h end = absurd (open-no_end turns h.1 end)
done_by which (Err stop.OutOfMemory) polls turns h end = absurd h

-- what is done read the end of the air
pub reads_end : (which : DiskWord) (ended : Result Served NodeStop) (polls : ℕ) (turns : List Turn) → TurnsBy ended polls turns → mended which (status_of ended) ≡ status.Done → EndsWith turns turn.End
reads_end which (Ok served) polls turns h done = h.0
reads_end which (Err stop.AirRead) polls turns h done = absurd (cc)
reads_end which (Err stop.AirWrite) polls turns h done = absurd (cc)
reads_end Fresh (Err stop.Disk) polls turns h done = absurd (cc)
reads_end Named (Err stop.Disk) polls turns h done = absurd (cc)
reads_end which (Err (stop.NotAStore found)) polls turns h done = absurd h
reads_end which (Err (stop.Damaged at)) polls turns h done = absurd h
reads_end which (Err stop.Spent) polls turns h done = absurd (cc)
reads_end which (Err stop.OutOfMemory) polls turns h done = absurd h

-- where all turns are open ones the run is spent, but for a fault of saying or of the disk
pub spent_by : (which : DiskWord) (ended : Result Served NodeStop) (polls asked : ℕ) (turns : List Turn) → TurnsBy ended polls turns → IsSpentBy (mended which (status_of ended)) which asked turns
spent_by which (Ok served) polls asked turns h count all_open = absurd (ends_with-not_open turns turn.End h.0 all_open)
spent_by which (Err stop.AirRead) polls asked turns h count all_open = absurd (ends_with-not_open turns turn.Fail h all_open)
spent_by which (Err stop.AirWrite) polls asked turns h count all_open = inr (0, omega arith, refl)
spent_by which (Err stop.Disk) polls asked turns h count all_open = inr (1, omega arith, refl)
spent_by which (Err (stop.NotAStore found)) polls asked turns h count all_open = absurd h
spent_by which (Err (stop.Damaged at)) polls asked turns h count all_open = absurd h
spent_by which (Err stop.Spent) polls asked turns h count all_open = inl refl
spent_by which (Err stop.OutOfMemory) polls asked turns h count all_open = absurd h

-- hearing failed where the count rose, and only there
pub read_cause : (which : DiskWord) (ended : Result Served NodeStop) (reads reads_now writes writes_now : ℕ) → CountsBy ended reads reads_now writes writes_now → HasStatusCause status.AirRead reads reads_now (mended which (status_of ended))
read_cause which (Ok served) reads reads_now writes writes_now h = record { rose = λ e. absurd (cc); same = λ _. h.0 }
read_cause which (Err stop.AirRead) reads reads_now writes writes_now h = record { rose = λ _. h.0; same = λ isnt. absurd (isnt refl) }
read_cause which (Err stop.AirWrite) reads reads_now writes writes_now h = record { rose = λ e. absurd (cc); same = λ _. h.0 }
read_cause Fresh (Err stop.Disk) reads reads_now writes writes_now h = record { rose = λ e. absurd (cc); same = λ _. h.0 }
read_cause Named (Err stop.Disk) reads reads_now writes writes_now h = record { rose = λ e. absurd (cc); same = λ _. h.0 }
read_cause which (Err (stop.NotAStore found)) reads reads_now writes writes_now h = record { rose = λ e. absurd (cc); same = λ _. h.0 }
read_cause which (Err (stop.Damaged at)) reads reads_now writes writes_now h = record { rose = λ e. absurd (cc); same = λ _. h.0 }
read_cause which (Err stop.Spent) reads reads_now writes writes_now h = record { rose = λ e. absurd (cc); same = λ _. h.0 }
read_cause which (Err stop.OutOfMemory) reads reads_now writes writes_now h = record { rose = λ e. absurd (cc); same = λ _. h.0 }

-- and so with saying, but for the reply after a fault of the disk
pub write_cause : (which : DiskWord) (words : List (List ℕ)) (ended : Result Served NodeStop) (reads reads_now writes writes_now : ℕ) → (which ≡ Fresh → AsksFresh words) → (which ≡ Named → AsksStore words) → CountsBy ended reads reads_now writes writes_now → HasWriteCause words writes writes_now (mended which (status_of ended))
write_cause which words (Ok served) reads reads_now writes writes_now fresh store h = record { rose = λ e. absurd (cc); same = λ _ _ _ _. h.1 }
write_cause which words (Err stop.AirRead) reads reads_now writes writes_now fresh store h = record { rose = λ e. absurd (cc); same = λ _ _ _ _. h.1 }
write_cause which words (Err stop.AirWrite) reads reads_now writes writes_now fresh store h = record { rose = λ _. h.1; same = λ isnt _ _ _. absurd (isnt refl) }
write_cause Fresh words (Err stop.Disk) reads reads_now writes writes_now fresh store h = record { rose = λ e. absurd (cc); same = λ _ _ named _. absurd (named refl (fresh refl)) }
write_cause Named words (Err stop.Disk) reads reads_now writes writes_now fresh store h = record { rose = λ e. absurd (cc); same = λ _ isnt _ _. absurd (isnt refl (store refl)) }
write_cause which words (Err (stop.NotAStore found)) reads reads_now writes writes_now fresh store h = record { rose = λ e. absurd (cc); same = λ _ _ _ _. h.1 }
write_cause which words (Err (stop.Damaged at)) reads reads_now writes writes_now fresh store h = record { rose = λ e. absurd (cc); same = λ _ _ _ _. h.1 }
write_cause which words (Err stop.Spent) reads reads_now writes writes_now fresh store h = record { rose = λ e. absurd (cc); same = λ _ _ _ _. h.1 }
write_cause which words (Err stop.OutOfMemory) reads reads_now writes writes_now fresh store h = record { rose = λ e. absurd (cc); same = λ _ _ _ _. h.1 }

-- which end has the status Disk, and which that of content that is no store
pub disk-end : (ended : Result Served NodeStop) → status_of ended ≡ status.Disk → ended ≡ Err stop.Disk
disk-end (Ok served) e = absurd (cc)
disk-end (Err stop.AirRead) e = absurd (cc)
disk-end (Err stop.AirWrite) e = absurd (cc)
disk-end (Err stop.Disk) e = refl
disk-end (Err (stop.NotAStore found)) e = absurd (cc)
disk-end (Err (stop.Damaged at)) e = absurd (cc)
disk-end (Err stop.Spent) e = absurd (cc)
disk-end (Err stop.OutOfMemory) e = absurd (cc)

pub not_a_store-end : (ended : Result Served NodeStop) (found : List ℕ) → status_of ended ≡ status.BadStore (bad.NotAStore found) → ended ≡ Err (stop.NotAStore found)
not_a_store-end (Ok served) found e = absurd (cc)
not_a_store-end (Err stop.AirRead) found e = absurd (cc)
not_a_store-end (Err stop.AirWrite) found e = absurd (cc)
not_a_store-end (Err stop.Disk) found e = absurd (cc)
not_a_store-end (Err (stop.NotAStore other)) found e = (let same : other ≡ found = cc in ap (λ (f : List ℕ). Err (stop.NotAStore f)) same)
not_a_store-end (Err (stop.Damaged at)) found e = absurd (cc)
not_a_store-end (Err stop.Spent) found e = absurd (cc)
not_a_store-end (Err stop.OutOfMemory) found e = absurd (cc)

pub damaged-end : (ended : Result Served NodeStop) (at : ℕ) → status_of ended ≡ status.BadStore (bad.Damaged at) → ended ≡ Err (stop.Damaged at)
damaged-end (Ok served) at e = absurd (cc)
damaged-end (Err stop.AirRead) at e = absurd (cc)
damaged-end (Err stop.AirWrite) at e = absurd (cc)
damaged-end (Err stop.Disk) at e = absurd (cc)
damaged-end (Err (stop.NotAStore found)) at e = absurd (cc)
damaged-end (Err (stop.Damaged other)) at e = (let same : other ≡ at = cc in ap (λ (p : ℕ). Err (stop.Damaged p)) same)
damaged-end (Err stop.Spent) at e = absurd (cc)
damaged-end (Err stop.OutOfMemory) at e = absurd (cc)

-- whether a run over this disk can end so once it has heard something
abbrev pub is_heard_status : Status → DiskWord → Bool
is_heard_status status.Done which = true
is_heard_status status.AirRead which = true
is_heard_status status.AirWrite which = true
is_heard_status status.Spent which = true
is_heard_status status.Disk Named = true
is_heard_status status.OutOfMemory Fresh = true
is_heard_status s which = false

pub heard_by : (which : DiskWord) (ended : Result Served NodeStop) (polls : ℕ) (turns : List Turn) → TurnsBy ended polls turns → is_heard_status (mended which (status_of ended)) which ≡ true
heard_by which (Ok served) polls turns h = refl
heard_by which (Err stop.AirRead) polls turns h = refl
heard_by which (Err stop.AirWrite) polls turns h = refl
heard_by Fresh (Err stop.Disk) polls turns h = refl
heard_by Named (Err stop.Disk) polls turns h = refl
heard_by which (Err (stop.NotAStore found)) polls turns h = absurd h
heard_by which (Err (stop.Damaged at)) polls turns h = absurd h
heard_by which (Err stop.Spent) polls turns h = refl
heard_by which (Err stop.OutOfMemory) polls turns h = absurd h

-- over the disk that DISK names that is no want of memory
pub heard-not_memory : (ended : Result Served NodeStop) (polls : ℕ) (turns : List Turn) → TurnsBy ended polls turns → status_of ended ≡ status.OutOfMemory → ⊥
heard-not_memory ended polls turns h is = let same = sym (heard_by Named ended polls turns h) ∙ ap (λ (t : Status). is_heard_status t Named) (mended-disk ended ∙ is) in cc
