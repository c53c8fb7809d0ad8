-- What is sent if no read fails: all that is due, and DATA_END.
use Rattle.std.proofs.Common.{◌≡◌, ◌≢◌, ℕ, zero, suc, ◌-◌, ◌==◌, ◌≤◌, ◌<◌, List, [], ◌∷◌, ◌++◌, length, map, take, drop, Bool, true, false, None, Some, refl, ap, ◌∙◌, subst, arith, inl, inr, length-append, length-drop}
use Rattle.ftl0_session.specs.Downloads.Sending.{next_due}
use Rattle.ftl0_session.proofs.Names.{nat_lt, flat_map, take-append_seam, cases_lt, nat_tests, append-nil, take-append-drop, All-head, All-tail, CallSign, data_end, data_part, download_cmd, CallerList, IsHeaderOf, body_octets, header_octets, IsCompleteIn, Store, BeginWithHeaders, IsSent, Sends, SendsAll, AreStored, IsDueIn, LiesIn, due_octets, is_due, joined, most_data, octets_due, state_after, state_at_end, DownloadRow, DownloadState, command_row, download_row, file_of, header_due, lists_after, listing, long_due, octets_in, ready, sending, short_due, short_octets, stored, waiting}
use Rattle.ftl0_session.proofs.downloads.DueLemmas.{due-after, octets_due-after, take-all}
use Rattle.ftl0_session.proofs.downloads.FileLemmas.{file-complete}

-- ---- what is due next

pub due-none : (store : Store) (state : DownloadState) (fails : Bool) → is_due state ≡ false → next_due store state fails ≡ None
due-none store state fails is = rw is refl

pub due-end : (store : Store) (state : DownloadState) (fails : Bool) → is_due state ≡ true → length (octets_due store state) ≡ 0
    → next_due store state fails ≡ Some (record { packet = data_end; state = state_at_end state })
due-end store state fails is none =
    let test : (length (octets_due store state) == 0) ≡ true = grind (arith, nat_tests) in
    rw is (rw test refl)

pub due-data : (store : Store) (state : DownloadState) → is_due state ≡ true → 0 < length (octets_due store state)
    → next_due store state false ≡ Some (record { packet = data_part (take most_data (octets_due store state)); state = state_after most_data state })
due-data store state is some =
    let test : (length (octets_due store state) == 0) ≡ false = grind (arith, nat_tests) in
    rw is (rw test refl)

-- ---- all of it

end-none : (state : DownloadState) → is_due (state_at_end state) ≡ false
end-none ready = refl
end-none (sending number place last) = refl
end-none waiting = refl
end-none (listing dues) = refl

pub end-after : (state : DownloadState) (count : ℕ) → state_at_end (state_after count state) ≡ state_at_end state
end-after ready count = refl
end-after (sending number place last) count = refl
end-after waiting count = refl
end-after (listing dues) count = refl

pub is_due-after : (state : DownloadState) (count : ℕ) → is_due (state_after count state) ≡ is_due state
is_due-after ready count = refl
is_due-after (sending number place last) count = refl
is_due-after waiting count = refl
is_due-after (listing dues) count = refl

nothing : (octets : List ℕ) → length octets ≡ 0 → [] ≡ octets
nothing [] none = refl
nothing (o ∷ octets) none = absurd (omega (arith, none))

sent-none : (store : Store) (state : DownloadState) → is_due state ≡ true → length (octets_due store state) ≡ 0 → SendsAll store state (octets_due store state) (state_at_end state)
sent-none store state is none = record {
  pieces = [];
  sends = (state_at_end state, due-end store state false is none, (refl, due-none store (state_at_end state) false (end-none state)));
  all = nothing (octets_due store state) none;
}

sent-more : (store : Store) (state : DownloadState) → is_due state ≡ true → IsDueIn store state → 0 < length (octets_due store state)
    → SendsAll store (state_after most_data state) (octets_due store (state_after most_data state)) (state_at_end (state_after most_data state))
    → SendsAll store state (octets_due store state) (state_at_end state)
sent-more store state is due some later =
    let next = state_after most_data state in
    let octets = octets_due store state in record {
      pieces = take most_data octets ∷ later.pieces;
      sends = (
        next,
        due-data store state is some,
        subst (λ (s : DownloadState). Sends store next (map data_part later.pieces ++ data_end ∷ []) s) (end-after state most_data) later.sends,
      );
      all =
          ap (λ (l : List ℕ). take most_data octets ++ l) (later.all ∙ octets_due-after store state most_data due)
          ∙ take-append-drop most_data octets;
    }

pub sent-all : (fuel : ℕ) (store : Store) (state : DownloadState) → is_due state ≡ true → IsDueIn store state → length (octets_due store state) ≤ fuel → SendsAll store state (octets_due store state) (state_at_end state)
sent-all zero store state is due few = sent-none store state is (omega (arith, few))
sent-all (suc fuel) store state is due few = elim (cases_lt 0 (length (octets_due store state))) [
  | inl some ↦
      let left : length (octets_due store (state_after most_data state)) ≤ fuel =
      omega (arith, few, some, ap (λ (l : List ℕ). length l) (octets_due-after store state most_data due), length-drop most_data (octets_due store state)) in
      sent-more store state is due some
      (sent-all fuel store (state_after most_data state) (is_due-after state most_data ∙ is) (due-after store state most_data due) left)
  | inr none ↦ sent-none store state is (omega (arith, none))
]

-- the same, of octets that these are
sent-same : (store : Store) (state : DownloadState) (octets : List ℕ) → is_due state ≡ true → IsDueIn store state → octets_due store state ≡ octets → SendsAll store state octets (state_at_end state)
sent-same store state octets is due same =
    subst (λ (l : List ℕ). SendsAll store state l (state_at_end state)) same (sent-all (length (octets_due store state)) store state is due (omega arith))

-- ---- a download

none-taken : (lists : List CallerList) (caller : CallSign) (number count : ℕ) → (number == 0) ≡ false → lists_after lists caller number count ≡ lists
none-taken lists caller number count is = rw is refl

granted : (caller : CallSign) (store : Store) (lists : List CallerList) (number offset : ℕ) (file : List ℕ) → number ≢ 0 → file_of store number ≡ Some file → offset ≤ length file
    → download_row caller store lists ready (download_cmd number offset 0) false ≡ Some (record { state = sending number offset (length file); lists = lists; replies = [] })
unfolding download_row command_row
granted caller store lists number offset file not_zero is within =
    let test : (number == 0) ≡ false = grind (arith, nat_tests) in
    let fits : nat_lt (length file) offset ≡ false = grind (arith, nat_tests) in
    rw test (rw is (rw fits (ap (λ (l : List CallerList). let row : DownloadRow = record { state = sending number offset (length file); lists = l; replies = [] } in Some row)
    (none-taken lists caller number 1 test))))

pub downloaded : (caller : CallSign) (store : Store) (lists : List CallerList) (number offset : ℕ) (file : List ℕ) → number ≢ 0 → file_of store number ≡ Some file → offset ≤ length file → IsSent caller store lists number offset file
downloaded caller store lists number offset file not_zero is within =
    let both = file-complete store number file is in
    let lies : LiesIn store number offset (length file) = record {
      complete = both.0;
      forward = within;
      within = omega (arith, ap (λ (l : List ℕ). length l) both.1);
    } in
    let octets : due_octets store (stored number offset (length file)) ≡ drop offset file =
    ap (λ (l : List ℕ). take (length file - offset) (drop offset l)) both.1
    ∙ take-all (length file - offset) (drop offset file) (omega (arith, length-drop offset file)) in record {
      row = granted caller store lists number offset file not_zero is within;
      sent = sent-same store (sending number offset (length file)) (drop offset file) refl lies octets;
    }

-- ---- directories

pub short-listed : (store : Store) (numbers : List ℕ) → SendsAll store (listing (short_due store numbers)) (flat_map (λ number. short_octets (octets_in store number)) numbers) ready
short-listed store numbers =
    sent-same store (listing (short_due store numbers)) (flat_map (λ number. short_octets (octets_in store number)) numbers) refl (tt, tt)
    (append-nil (flat_map (λ number. short_octets (octets_in store number)) numbers))

header-lies : (store : Store) (number : ℕ) → IsCompleteIn store number → IsHeaderOf (octets_in store number) (header_octets (octets_in store number)) → LiesIn store number 0 (length (header_octets (octets_in store number)))
header-lies store number is begins =
    let file = octets_in store number in record {
      complete = is;
      forward = omega arith;
      within = omega (arith, ap (λ (l : List ℕ). length l) begins.front, length-append (header_octets file) (body_octets file));
    }

header-due : (store : Store) (number : ℕ) → IsHeaderOf (octets_in store number) (header_octets (octets_in store number)) → due_octets store (header_due store number) ≡ header_octets (octets_in store number)
header-due store number begins =
    let file = octets_in store number in
    let all : length (header_octets file) - 0 ≡ length (header_octets file) = omega arith in
    ap (λ (k : ℕ). take k file) all
    ∙ ap (λ (l : List ℕ). take (length (header_octets file)) l) begins.front
    ∙ take-append_seam (header_octets file) (body_octets file)

-- the file begins with its header
abbrev Begins : Store → ℕ → Type 0
Begins store number = IsHeaderOf (octets_in store number) (header_octets (octets_in store number))

others : (store : Store) (number : ℕ) (numbers : List ℕ) → BeginWithHeaders store (number ∷ numbers) → BeginWithHeaders store numbers
others store number numbers are = record {
  complete = All-tail (IsCompleteIn store) number numbers are.complete;
  headers = All-tail (Begins store) number numbers are.headers;
}

pub headers-lie : (store : Store) (numbers : List ℕ) → BeginWithHeaders store numbers → AreStored store (long_due store numbers)
headers-lie store [] are = tt
headers-lie store (number ∷ numbers) are = (
  header-lies store number (All-head (IsCompleteIn store) number numbers are.complete) (All-head (Begins store) number numbers are.headers),
  headers-lie store numbers (others store number numbers are),
)

headers-due : (store : Store) (numbers : List ℕ) → BeginWithHeaders store numbers → joined store (long_due store numbers) ≡ flat_map (λ number. header_octets (octets_in store number)) numbers
headers-due store [] are = refl
headers-due store (number ∷ numbers) are =
    ap (λ (l : List ℕ). l ++ joined store (long_due store numbers)) (header-due store number (All-head (Begins store) number numbers are.headers))
    ∙ ap (λ (l : List ℕ). header_octets (octets_in store number) ++ l) (headers-due store numbers (others store number numbers are))

pub long-listed : (store : Store) (numbers : List ℕ) → BeginWithHeaders store numbers → SendsAll store (listing (long_due store numbers)) (flat_map (λ number. header_octets (octets_in store number)) numbers) ready
long-listed store numbers are =
    sent-same store (listing (long_due store numbers)) (flat_map (λ number. header_octets (octets_in store number)) numbers) refl (headers-lie store numbers are) (headers-due store numbers are)
