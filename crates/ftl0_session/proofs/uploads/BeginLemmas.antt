-- A new file: what it leaves of other files, and the answer to a refusal.
use Rattle.std.proofs.Common.{◌≡◌, ◌⊎◌, ℕ, List, [], ◌∷◌, refl, ap, sym, ◌∙◌, subst, inl, inr, None, Some, true, true≢false}
use Rattle.file_store.specs.BeginBar.TheVariants as bar
use Rattle.file_store.specs.declared.refusals.BeginRefusal.{BeginRefusal}
use Rattle.file_store.specs.declared.refusals.BeginRefusal.TheVariants as refusal
use Rattle.ftl0_session.specs.declared.uploads.phase.Phase.TheVariants as phase
use Rattle.ftl0_session.specs.Uploads.SessionState.{MayTake}
use Rattle.ftl0_session.proofs.Names.{⊤, IsTrue, Result, Ok, Err, IsErr, CallSign, Ghosts, texts, Item, ul_error_resp, upload_cmd, RefusesBegin, begin_reaches, BeginBar, Bars, Command, MayBegin, after, begin, can_begin, KeepsComplete, KeepsRests, IsStore, KeepsUploads, Does, IsStoreLike, StandsOn, StoreState, store_in, Entry, Store, entry_of, new_entry, Upload, like_bars, like_can_begin, at, DiskFault, packet_of, KeepsOtherCallers, command, granted_row, session_row, NoOtherOut, Answered, AnswersRefusal}
use Rattle.ftl0_session.proofs.uploads.DoesLemmas.{answered-alone, takes-cut}
use Rattle.ftl0_session.proofs.uploads.OtherLemmas.{never_some}
use Rattle.ftl0_session.proofs.uploads.Rows.{upload-refused}
use Rattle.ftl0_session.proofs.uploads.UploadRows.{bars-cannot, below-next, may-can, push-back, row-barred, row-granted}

module _ (caller : CallSign) (moment len : ℕ) (before now : StoreState) (is : IsStore (store_in before)) (rests : KeepsRests before.files now.files (store_in before).next) where
  -- the store after the file was begun
  module _ (made : store_in now ≡ after (store_in before) (begin (store_in before).next caller len moment)) where
    back : (number : ℕ) (e : Entry) → entry_of (store_in now) number ≡ Some e
        → (entry_of (store_in before) number ≡ Some e) ⊎ ((number ≡ (store_in before).next) × (e ≡ new_entry (store_in before).next caller len moment))
    back number e found =
        push-back (store_in before).entries (new_entry (store_in before).next caller len moment) number e (ap (λ (s : Store). entry_of s number) (sym made) ∙ found)

    pub begun-others : KeepsUploads before now → KeepsOtherCallers before now caller
    begun-others uploads = record {
      uploads = λ up ne holds. uploads up holds;
      entries = λ number e ne found.
          elim (back number e found) [
            | inl here ↦ (here, rests number (below-next (store_in before) number e is here))
            | inr new ↦ absurd (ne (ap (λ (x : Entry). x.caller) new.1))
          ];
    }

    pub begun-only : NoOtherOut before caller None → NoOtherOut now caller (Some (store_in before).next)
    begun-only only number e found theirs other =
        elim (back number e found) [
          | inl here ↦ rests number (below-next (store_in before) number e is here) ∙ only number e here theirs (never_some number)
          | inr new ↦ absurd (other (ap Some (sym new.0)))
        ]

  -- the store as it was
  module _ (same : store_in now ≡ store_in before) where
    here : (number : ℕ) (e : Entry) → entry_of (store_in now) number ≡ Some e → entry_of (store_in before) number ≡ Some e
    here number e found = ap (λ (s : Store). entry_of s number) (sym same) ∙ found

    pub unbegun-others : KeepsUploads before now → KeepsOtherCallers before now caller
    unbegun-others uploads = record {
      uploads = λ up ne holds. uploads up holds;
      entries = λ number e ne found. (here number e found, rests number (below-next (store_in before) number e is (here number e found)));
    }

    pub unbegun-only : NoOtherOut before caller None → NoOtherOut now caller None
    unbegun-only only number e found theirs other =
        rests number (below-next (store_in before) number e is (here number e found)) ∙ only number e (here number e found) theirs other

-- ---- the row of one that may be begun

-- over a store that is so, whatever octets its files have
pub granted-like : (caller : CallSign) (moment len : ℕ) (one other : Store) → IsStoreLike one other → IsStore one → MayBegin one len
    → session_row caller moment other command (Ok (upload_cmd 0 len)) ≡ Some (granted_row caller moment other.next len)
granted-like caller moment len one other like is may =
    let can : can_begin other len ≡ true = sym (like_can_begin one other like len) ∙ may-can one len is may in
    row-granted caller moment other len can

-- its command
pub begin-like : (caller : CallSign) (moment len : ℕ) (one other : Store) → IsStoreLike one other → begin one.next caller len moment ∷ [] ≡ begin other.next caller len moment ∷ []
begin-like caller moment len one other like = ap (λ (n : ℕ). begin n caller len moment ∷ []) like.next

-- ---- a refusal

abbrev refusing : BeginRefusal → Result Upload BeginRefusal
refusing r = Err r

module _ {D : Type 0} (g : Ghosts D) (caller : CallSign) (moment len : ℕ) (before now : StoreState) (disk disk_now : D) (is : IsStore (store_in before))
    (may : MayTake g before disk caller phase.Command) (lasts : g.lasts disk disk) where
  abbrev Item-asked : Item
  Item-asked = Ok (upload_cmd 0 len)

  abbrev Gives-it : StoreState → D → List ℕ → Result ⊤ DiskFault → Type 0
  Gives-it now disk_now replies result = Answered g (packet_of caller moment (Ok (upload_cmd 0 len))) command (at before disk) (at now disk_now) replies (phase.Command, result)

  -- nothing was touched
  untouched : (replies : List ℕ) (result : Result ⊤ DiskFault) → (now ≡ before) × (disk_now ≡ disk) → Gives-it before disk replies result → Gives-it now disk_now replies result
  untouched replies result same given =
      subst (λ (s : StoreState). Gives-it s disk_now replies result) (sym same.0) (subst (λ (d : D). Gives-it before d replies result) (sym same.1) given)

  barred : (replies : List ℕ) (result : Result ⊤ DiskFault) (cause : BeginBar) → (now ≡ before) × (disk_now ≡ disk) → Bars cause (store_in before) len
      → (result ≡ Ok tt) × (replies ≡ texts (ul_error_resp 13 ∷ [])) → Gives-it now disk_now replies result
  barred replies result cause same bars answer =
      subst (λ (r : Result ⊤ DiskFault). Gives-it now disk_now replies r) (sym answer.0)
      (untouched replies (Ok tt) same
      (answered-alone g (packet_of caller moment Item-asked) command before disk may.ready before replies (phase.Command, Ok tt) lasts
      (upload-refused caller moment Item-asked before before 13 replies (phase.Command, Ok tt)
      (λ files like. row-barred caller moment files len (bars-cannot files len cause (like_bars (store_in before) files like cause len bars))) refl refl answer.1 may.only)))

  not_reached : {P : Type 0} → IsTrue (begin_reaches (refusing refusal.TooLong)) ⊎ P → P
  not_reached (inl never) = absurd (true≢false (sym never))
  not_reached (inr p) = p

  pub begin-refused : (r : BeginRefusal) (replies : List ℕ) (result : Result ⊤ DiskFault) → RefusesBegin before len r
      → IsTrue (begin_reaches (refusing r)) ⊎ ((now ≡ before) × (disk_now ≡ disk))
      → (IsTrue (begin_reaches (refusing r)) → Does g (IsErr (refusing r)) before now disk disk_now (begin (store_in before).next caller len moment ∷ []))
      → store_in now ≡ store_in before → StandsOn g now disk_now
      → KeepsUploads before now → KeepsRests before.files now.files (store_in before).next → KeepsComplete (store_in before) (store_in now)
      → AnswersRefusal r replies result → Gives-it now disk_now replies result
  begin-refused refusal.TooLong replies result refused same does still stands uploads rests kept answer = barred replies result bar.TooLong (not_reached same) refused answer
  begin-refused refusal.TooMany replies result refused same does still stands uploads rests kept answer = barred replies result bar.TooMany (not_reached same) refused answer
  begin-refused refusal.NumbersGone replies result refused same does still stands uploads rests kept answer = barred replies result bar.NumbersGone (not_reached same) refused answer
  begin-refused (refusal.NoRoom blocks free) replies result refused same does still stands uploads rests kept answer =
      barred replies result (bar.NoRoom blocks free) (not_reached same) refused answer
  begin-refused refusal.Failed replies result refused same does still stands uploads rests kept answer = absurd answer
  begin-refused refusal.Disk replies (Ok done) refused same does still stands uploads rests kept answer = absurd (true≢false (sym answer.0))
  begin-refused refusal.Disk replies (Err fault) refused same does still stands uploads rests kept answer =
      let commands : List Command = begin (store_in before).next caller len moment ∷ [] in
      let done = does refl in
      record {
        takes =
            takes-cut g (packet_of caller moment Item-asked) command before disk may.ready command now disk_now replies _ commands refl done
            (λ files like.
            (granted_row caller moment files.next len, granted-like caller moment len (store_in before) files like is refused.0, begin-like caller moment len (store_in before) files like)) refl answer.1;
        failed = λ e. (done.cut refl).failed;
        healthy = λ fine. absurd (fine refl);
        stands_on = stands;
        held = tt;
        only = unbegun-only caller moment len before now is rests still may.only;
        others = unbegun-others caller moment len before now is rests still uploads;
        kept = kept;
      }
