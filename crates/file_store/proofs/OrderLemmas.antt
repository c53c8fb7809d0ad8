-- How the end of a file goes is how the call goes that seals it.
use Rattle.std.proofs.Common.{◌≡◌, inl, inr, ℕ, Bool, false, true, List, [], ◌∷◌, Option, Result, Ok, Err, IsErrOf, refl, ap}
use Rattle.file_store.specs.Sealing.{SealsFile, commands_with}
use Rattle.file_store.specs.declared.end.End.TheVariants as end
use Rattle.file_store.specs.declared.refusals.SealRefusal.{SealRefusal}
use Rattle.file_store.specs.declared.refusals.SealRefusal.TheVariants as seal_refusal
use Rattle.file_store.proofs.Names.{store_of, AtDisk, at, Ghosts, DiskFault, Command, last_grow, seal_commands, seal_missed, EndsFile, EndsInOrder, IsKnown, StoreState, store_on, Upload, ending, waiting, DoesAmongReads}
use Rattle.file_store.proofs.DoesLemmas.{among-at, among-parked, among-same, Does-moved, Does-same}

module _ {D : Type 0} (g : Ghosts D) where
  order-same : (P Q : Type 0) (missed : Bool) (before now : AtDisk StoreState D) (first last : List Command) → (P → Q) → (Q → P)
      → EndsInOrder g P missed before now first last → EndsInOrder g Q missed before now first last
  order-same P Q missed before now first last there back (inl cut) = inl (there cut.0, Does-same g P Q before.it now.it before.disk now.disk first there back cut.1)
  order-same P Q missed before now first last there back (inr between) =
      inr (record {
        then_is = between.then_is;
        disk_read = between.disk_read;
        holds = between.holds;
        reads = between.reads;
        unread = between.unread;
        ends = λ fine. Does-same g P Q between.then_is.it now.it between.disk_read now.disk last there back (between.ends fine);
      })

  -- the store at the end is another that is the same, with the same journal
  order-parked : (P : Type 0) (old new after : StoreState) (disk disk_now : D) (first last : List Command) → store_of after.files ≡ store_of new.files → after.journal ≡ new.journal
      → EndsInOrder g P false (at old disk) (at new disk_now) first last → EndsInOrder g P false (at old disk) (at after disk_now) first last
  order-parked P old new after disk disk_now first last same journal (inl cut) = inl (cut.0, Does-moved g P old new old after disk disk_now first refl refl same journal cut.1)
  order-parked P old new after disk disk_now first last same journal (inr between) =
      inr (record {
        then_is = between.then_is;
        disk_read = between.disk_read;
        holds = between.holds;
        reads = between.reads;
        unread = λ is. absurd (cc is);
        ends = λ fine. Does-moved g P between.then_is.it new between.then_is.it after between.disk_read disk_now last refl refl same journal (between.ends fine);
      })

-- those by which what waits of the upload becomes held
abbrev first_of : StoreState → Upload → List Command
first_of old up = last_grow up.number (waiting old up)

module _ {D T : Type 0} (g : Ghosts D) (old new : StoreState) (disk disk_now : D) (up : Upload) (moment : ℕ) where
  -- it is sealed
  pub seals-good : (receipt : T) → EndsFile g (Ok end.Sealed) old new disk disk_now up.number moment → SealsFile {T = T} g (Ok receipt) old new disk disk_now up moment
  seals-good receipt ends = record {
    code = ends.code;
    tells = ends.tells;
    answers = ends.answers;
    does = among-same g _ _ 0 0 old new disk disk_now _ (λ p. absurd (cc p)) (λ q. absurd (cc q)) refl ends.does;
    order = order-same g _ _ false (at old disk) (at new disk_now) (first_of old up) (ending up.number moment ends.code ∷ []) (λ p. absurd (cc p)) (λ q. absurd (cc q)) ends.order;
  }

  -- it is dropped
  pub seals-bad : (code : ℕ) → EndsFile g (Ok (end.Dropped code)) old new disk disk_now up.number moment → SealsFile {T = T} g (Err (seal_refusal.Header code)) old new disk disk_now up moment
  seals-bad code ends = record {
    code = ends.code;
    tells = ends.tells;
    answers = ends.answers;
    does = among-same g _ _ 0 0 old new disk disk_now _ (λ p. absurd (cc p)) (λ q. absurd (cc q)) refl ends.does;
    order = order-same g _ _ false (at old disk) (at new disk_now) (first_of old up) (ending up.number moment ends.code ∷ []) (λ p. absurd (cc p)) (λ q. absurd (cc q)) ends.order;
  }

  -- a read failed
  pub seals-unread : (back : Upload) → EndsFile g (Ok end.Unread) old new disk disk_now up.number moment → SealsFile {T = T} g (Err (seal_refusal.Read back)) old new disk disk_now up moment
  seals-unread back ends = record {
    code = ends.code;
    tells = ends.tells;
    answers = tt;
    does = among-same g _ _ 1 1 old new disk disk_now _ (λ p. absurd (cc p)) (λ q. absurd (cc q)) refl ends.does;
    order = order-same g _ _ true (at old disk) (at new disk_now) (first_of old up) (ending up.number moment ends.code ∷ []) (λ p. absurd (cc p)) (λ q. absurd (cc q)) ends.order;
  }

  -- the disk failed, and the upload is given up
  pub seals-cut : (fault : DiskFault) (after : StoreState) → store_of after.files ≡ store_of new.files → after.journal ≡ new.journal
      → EndsFile g (Err fault) old new disk disk_now up.number moment → SealsFile {T = T} g (Err seal_refusal.Disk) old after disk disk_now up moment
  seals-cut fault after same journal ends =
      let last : List Command = ending up.number moment ends.code ∷ [] in
      record {
        code = ends.code;
        tells = ends.tells;
        answers = tt;
        does =
            among-same g _ _ 0 0 old after disk disk_now _ (λ p. refl) (λ q. refl) refl
            (among-parked g _ 0 old new after disk disk_now _ same journal ends.does);
        order =
            order-same g _ _ false (at old disk) (at after disk_now) (first_of old up) last (λ p. refl) (λ q. refl)
            (order-parked g _ old new after disk disk_now (first_of old up) last same journal ends.order);
      }

-- which commands they are is known if the octets of the file are
pub seals-known : {D T : Type 0} (g : Ghosts D) (result : Result T SealRefusal) (old new : StoreState) (disk disk_now : D) (up : Upload) (moment : ℕ) → SealsFile g result old new disk disk_now up moment
    → IsKnown g disk → DoesAmongReads g (IsErrOf result seal_refusal.Disk) (seal_missed result) old new disk disk_now (seal_commands result (store_on g old disk) old up moment)
seals-known g result old new disk disk_now up moment seals known =
    among-at g (IsErrOf result seal_refusal.Disk) (seal_missed result) old new disk disk_now (commands_with result old up moment seals.code) (seal_commands result (store_on g old disk) old up moment)
    (ap (λ (code : Option ℕ). commands_with result old up moment code) (seals.tells known)) seals.does
