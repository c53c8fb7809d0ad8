-- What downloading makes of two stores that are like each other except for the octets of their files.
use Rattle.std.proofs.Common.{◌≡◌, ℕ, ◌==◌, ◌<◌, List, [], ◌∷◌, length, Bool, true, false, true≢false, ◌&&◌, Option, None, Some, refl, sym, ap, ap₂, ◌∙◌, arith, inl, inr, length-append}
use Rattle.std.specs.Prelude.{if◌then◌else◌}
use Rattle.file_store.specs.declared.refusals.HeaderFault.{HeaderFault}
use Rattle.file_store.specs.declared.refusals.HeaderFault.TheVariants as fault
use Rattle.ftl0_session.specs.Downloads.Sending.{next_due}
use Rattle.ftl0_session.proofs.Names.{Err, IsErrOf, Result, is_some, list_all, option_map, nat_tests, append-nil, CallSign, Ghosts, dl_error_resp, packet_text, Reads, IsCompleteIn, IsStoreLike, IsKnown, StoreState, store_in, store_on, Entry, Holding, Store, complete, entry_of, octets_at, partial, like_complete, like_entry, like_none, like_octets_length, like_partial, like_whole, reads_same, CallerList, AreStored, IsDueIn, IsStored, LiesIn, due_octets, is_due, is_read, joined, octets_due, DownloadRow, DownloadState, Due, asked_file, asked_row, complete_octets, directory_row, download_cmd_row, file_of, file_row, files_row, has_file, kept, listed_files, listing, lists_after, octets_in, ready, refused_row, sending, stored, waiting, Made, MakesRow, made, made_by}
use Rattle.ftl0_session.proofs.CauseLemmas.{says-one}
use Rattle.ftl0_session.proofs.downloads.DueLemmas.{length-due, length-stored}
use Rattle.ftl0_session.proofs.downloads.FileLemmas.{file_in}

-- as many octets, or none
abbrev SameLength : Option (List ℕ) → Option (List ℕ) → Type 0
SameLength one other = option_map length one ≡ option_map length other

file-of : (one other : Entry) → (held : (octets : List ℕ) → one.holding ≡ partial octets → (held_then : List ℕ) × (other.holding ≡ partial held_then))
    → (whole : (octets : List ℕ) (moment : ℕ) → one.holding ≡ complete octets moment → (all : List ℕ) × (other.holding ≡ complete all moment) × (length octets ≡ length all))
    → SameLength (complete_octets one.holding) (complete_octets other.holding)
file-of one other held whole = by one.holding refl
  where
    by : (h : Holding) → one.holding ≡ h → SameLength (complete_octets one.holding) (complete_octets other.holding)
    by (partial octets) is = let other_held = held octets is in rw (is, other_held.1) refl
    by (complete octets moment) is = let all = whole octets moment is in rw (is, all.1) (ap Some all.2)

-- whether there is one, by its length
some-by : (one other : Option (List ℕ)) → SameLength one other → is_some one ≡ is_some other
some-by None None same = refl
some-by None (Some file) same = absurd (cc)
some-by (Some file) None same = absurd (cc)
some-by (Some one) (Some other) same = refl

-- the row of a file that is asked for, by its length
file-row-by : (caller : CallSign) (lists : List CallerList) (asked offset number : ℕ) (one other : Option (List ℕ)) → SameLength one other → file_row caller lists asked offset number one ≡ file_row caller lists asked offset number other
file-row-by caller lists asked offset number None None same = refl
file-row-by caller lists asked offset number None (Some file) same = absurd (cc)
file-row-by caller lists asked offset number (Some file) None same = absurd (cc)
file-row-by caller lists asked offset number (Some one) (Some other) same =
    let long : length one ≡ length other = cc in
    rw long refl

module _ (one other : Store) (like : IsStoreLike one other) where
  length-like : (number : ℕ) → SameLength (file_of one number) (file_of other number)
  length-like number = by (entry_of one number) refl
    where
      by : (o : Option Entry) → entry_of one number ≡ o → SameLength (file_of one number) (file_of other number)
      by None is =
          ap (λ (o : Option Entry). option_map length (file_in o)) is ∙ sym (ap (λ (o : Option Entry). option_map length (file_in o)) (like_none one other like number is))
      by (Some entry) is =
          let there = like_entry one other like number entry is in
          ap (λ (o : Option Entry). option_map length (file_in o)) is
          ∙ file-of entry there.0 (λ octets at. let p = like_partial entry there.0 there.2 octets at in (p.0, p.1)) (λ octets moment at. like_whole entry there.0 there.2 octets moment at)
          ∙ sym (ap (λ (o : Option Entry). option_map length (file_in o)) there.1)

  has-like : (number : ℕ) → has_file one number ≡ has_file other number
  has-like number = some-by (file_of one number) (file_of other number) (length-like number)

  pub all-like : (numbers : List ℕ) → list_all (has_file one) numbers ≡ list_all (has_file other) numbers
  all-like [] = refl
  all-like (number ∷ numbers) = ap₂ (λ (a b : Bool). a && b) (has-like number) (all-like numbers)

  asked-like : (caller : CallSign) (lists : List CallerList) (asked offset : ℕ) (o : Option ℕ) → asked_row caller one lists asked offset o ≡ asked_row caller other lists asked offset o
  asked-like caller lists asked offset None = refl
  asked-like caller lists asked offset (Some number) = file-row-by caller lists asked offset number (file_of one number) (file_of other number) (length-like number)

  -- the row of a DOWNLOAD_CMD is the same
  pub cmd-like : (caller : CallSign) (lists : List CallerList) (number offset lock : ℕ) → download_cmd_row caller one lists number offset lock ≡ download_cmd_row caller other lists number offset lock
  cmd-like caller lists number offset lock =
      ap (λ r. if lock == 0 then r else refused_row lists 10) (asked-like caller lists number offset (asked_file lists caller number))

  -- what is due lies within the files of both
  octets-like : (number : ℕ) → IsCompleteIn one number → length (octets_in one number) ≡ length (octets_in other number)
  octets-like number is =
      let there = like_entry one other like number is.0 is.1 in
      ap (λ (o : Option Entry). length (octets_at o)) is.1 ∙ like_octets_length is.0 there.0 there.2 ∙ sym (ap (λ (o : Option Entry). length (octets_at o)) there.1)

  pub lies-like : (number place last : ℕ) → LiesIn one number place last → LiesIn other number place last
  lies-like number place last lies = record {
    complete = like_complete one other like number lies.complete;
    forward = lies.forward;
    within = omega (arith, lies.within, octets-like number lies.complete);
  }

  stored-like : (due : Due) → IsStored one due → IsStored other due
  stored-like (stored number place last) is = lies-like number place last is
  stored-like (kept octets) is = tt

  pub all-stored-like : (dues : List Due) → AreStored one dues → AreStored other dues
  all-stored-like [] are = tt
  all-stored-like (due ∷ dues) are = (stored-like due are.0, all-stored-like dues are.1)

  pub due-like : (state : DownloadState) → IsDueIn one state → IsDueIn other state
  due-like ready is = tt
  due-like (sending number place last) is = lies-like number place last is
  due-like waiting is = tt
  due-like (listing dues) is = all-stored-like dues is

  -- and as much is due of both
  pub joined-like : (dues : List Due) → AreStored one dues → length (joined one dues) ≡ length (joined other dues)
  joined-like [] are = refl
  joined-like (due ∷ dues) are =
      omega (
        arith,
        length-append (due_octets one due) (joined one dues),
        length-append (due_octets other due) (joined other dues),
        length-due one due are.0,
        length-due other due (stored-like due are.0),
        joined-like dues are.1,
      )

  pub due-length-like : (state : DownloadState) → IsDueIn one state → length (octets_due one state) ≡ length (octets_due other state)
  due-length-like ready is = refl
  due-length-like (sending number place last) is = length-stored one number place last is ∙ sym (length-stored other number place last (lies-like number place last is))
  due-length-like waiting is = refl
  due-length-like (listing dues) is = joined-like dues is

-- ---- the row of a directory command, by what memory shows of its files

module _ (caller : CallSign) (files : Store) (lists : List CallerList) (asked : ℕ) (due : Store → List ℕ → List Due) (numbers : List ℕ) (listed : listed_files lists caller asked ≡ numbers)
    (some : (length numbers == 0) ≡ false) where
  pub row-missing : (fails : Bool) → list_all (has_file files) numbers ≡ false → directory_row caller files lists asked due fails ≡ refused_row lists 4
  row-missing fails missing = ap (λ (l : List ℕ). files_row caller files lists asked due fails l) listed ∙ rw (some, missing) refl

  pub row-unread_header : list_all (has_file files) numbers ≡ true → directory_row caller files lists asked due true ≡ refused_row lists 3
  row-unread_header all = ap (λ (l : List ℕ). files_row caller files lists asked due true l) listed ∙ rw (some, all) refl

  pub row-listed : list_all (has_file files) numbers ≡ true
      → directory_row caller files lists asked due false ≡ record { state = listing (due files numbers); lists = lists_after lists caller asked (length numbers); replies = [] }
  row-listed all = ap (λ (l : List ℕ). files_row caller files lists asked due false l) listed ∙ rw (some, all) refl

  -- if headers are read, it isn't the same if that fails
  pub rows-differ : list_all (has_file files) numbers ≡ true → directory_row caller files lists asked due true ≡ directory_row caller files lists asked due false → ⊥
  rows-differ all same =
      let replies : dl_error_resp 3 ∷ [] ≡ [] = ap (λ (r : DownloadRow). r.replies) (sym (row-unread_header all) ∙ same ∙ row-listed all) in cc replies

-- no file is listed
pub row-nothing : (caller : CallSign) (files : Store) (lists : List CallerList) (asked : ℕ) (due : Store → List ℕ → List Due) (numbers : List ℕ) (fails : Bool) → listed_files lists caller asked ≡ numbers
    → (length numbers == 0) ≡ true → directory_row caller files lists asked due fails ≡ refused_row lists 11
row-nothing caller files lists asked due numbers fails listed none = ap (λ (l : List ℕ). files_row caller files lists asked due fails l) listed ∙ rw none refl

-- what a refusal makes
pub made-refused : (state : DownloadState) (lists : List CallerList) (code : ℕ) (replies : List ℕ) → state ≡ ready → replies ≡ packet_text (dl_error_resp code)
    → made state lists replies ≡ made_by (refused_row lists code)
made-refused state lists code replies is text =
    ap (λ (s : DownloadState). made s lists replies) is ∙ ap (λ (l : List ℕ). made ready lists l) (text ∙ sym (append-nil (packet_text (dl_error_resp code))))

pub made-is : (state next : DownloadState) (lists lists_now : List CallerList) (replies said : List ℕ) → state ≡ next → lists ≡ lists_now → replies ≡ said → made state lists replies ≡ made next lists_now said
made-is state next lists lists_now replies said state_is lists_are text =
    ap (λ (s : DownloadState). made s lists replies) state_is ∙ ap (λ (l : List CallerList). made next l replies) lists_are ∙ ap (λ (r : List ℕ). made next lists_now r) text

-- a header couldn't be read: code 3, and if it is known what the store's files hold, only for a read that failed
pub header-refused : {D T : Type 0} (g : Ghosts D) (store : StoreState) (disk disk_now : D) (row : Store → Bool → DownloadRow) (lists : List CallerList) (now : Made) (why : HeaderFault)
    (result : Result T HeaderFault) → result ≡ Err why → Reads g (IsErrOf result fault.Disk) disk disk_now → (IsErrOf result fault.NoHeader → ¬ IsKnown g disk)
    → (IsKnown g disk → row (store_on g store disk) true ≡ refused_row lists 3) → (row (store_in store) true ≡ row (store_in store) false → ⊥) → now ≡ made_by (refused_row lists 3)
    → MakesRow g store disk disk_now row now
header-refused g store disk disk_now row lists now fault.Disk result is reads there given differ made_now = record {
  fails = true;
  reads = reads_same g disk disk_now (IsErrOf result fault.Disk) (true ≡ true) (λ e. refl) (λ e. is) reads;
  told = λ known failed. ap (λ (r : DownloadRow). r.replies) (given known);
  is_row = λ known. made_now ∙ sym (ap made_by (given known));
  anyway = λ same. absurd (differ same);
  says = says-one g disk true now.replies (dl_error_resp 3) (ap (λ (m : Made). m.replies) made_now) (λ failed. refl) (λ three. inl refl);
}
header-refused g store disk disk_now row lists now fault.NoHeader result is reads there given differ made_now = record {
  fails = false;
  reads = reads_same g disk disk_now (IsErrOf result fault.Disk) (false ≡ true) (λ e. absurd (let other = sym is ∙ e in cc)) (λ e. absurd (true≢false (sym e))) reads;
  told = λ known failed. absurd (true≢false (sym failed));
  is_row = λ known. absurd (there is known);
  anyway = λ same. absurd (differ same);
  says = says-one g disk false now.replies (dl_error_resp 3) (ap (λ (m : Made). m.replies) made_now) (λ failed. absurd (true≢false (sym failed))) (λ three. inr (there is));
}

-- ---- what is due next

-- code 3, if a read fails
pub next-error : (files : Store) (state : DownloadState) → is_due state ≡ true → 0 < length (octets_due files state) → is_read state ≡ true
    → next_due files state true ≡ Some (record { packet = dl_error_resp 3; state = ready })
next-error files state here some read =
    let test : (length (octets_due files state) == 0) ≡ false = grind (arith, nat_tests, some) in
    rw (here, test, read) refl
