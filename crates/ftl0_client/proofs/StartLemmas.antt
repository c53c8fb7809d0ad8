-- The task that a start gives is one that an upload of its file needs, and may be asked.
use Rattle.std.proofs.Common.{◌≡◌, ◌⊎◌, ℕ, List, length, sym, subst}
use Rattle.sha2.specs.Sha256.{sha256}
use Rattle.ftl0_client.proofs.Names.{IfOk, IsErr, IsTrue, Result, Ok, Err, CallSign, Ghosts, StartsBy, answer_of, fresh_task, start_reaches, Begun, NotesRefusal, Does, Untouched, NotesState, IsOwned, IsStarted, OwnedLaw, StartedLaw, started}

module _ {D : Type 0} (g : Ghosts D) (start : StartedLaw g) (own : OwnedLaw g) (old new : NotesState) (disk disk_now : D) (server caller : CallSign) (name digest : List ℕ) (len : ℕ) where
  -- what a start that gave this says of its task
  abbrev Gives : Begun → Type 0
  Gives given = (file : List ℕ) → length file ≡ len → sha256 file ≡ digest → IsStarted new.lists file given × IsOwned new.lists server caller (sha256 file) given

  pub start-gives : (result : Result Begun NotesRefusal) → StartsBy old (answer_of old.lists server caller name len digest) result → IsTrue (start_reaches result) ⊎ Untouched old new disk disk_now
      → (IsTrue (start_reaches result) → Does g (IsErr result) old new disk disk_now (fresh_task old.lists server caller name len digest)) → IfOk result Gives
  start-gives (Err why) starts untouched does = tt
  start-gives (Ok given) starts untouched does = λ file is_len is_digest.
      let P : ℕ → Type 0 = λ n. StartsBy old (answer_of old.lists server caller name n digest) (started given) in
      let Q : ℕ → Type 0 = λ n. IsTrue (start_reaches (started given)) → Does g (IsErr (started given)) old new disk disk_now (fresh_task old.lists server caller name n digest) in (
        start old new disk disk_now server caller name file digest given (subst P (sym is_len) starts) untouched (subst Q (sym is_len) does),
        subst (λ (d : List ℕ). IsOwned new.lists server caller d given) (sym is_digest) (own old new disk disk_now server caller name digest len given starts untouched does),
      )
