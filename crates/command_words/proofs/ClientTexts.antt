-- What the words after a client's command mean, and that they mean only that.
use Rattle.std.proofs.Common.{◌≡◌, ◌+◌, ◌≤◌, ℕ, true, List, [], ◌∷◌, length, Option, Result, Ok, Err, refl, sym, ap, ◌∙◌, subst, arith, inl, inr, codes}
use Rattle.hex.specs.Hex.{decode_of}
use Rattle.hex.specs.declared.error.FromHexError.{FromHexError}
use Rattle.hex.proofs.HexLemmas.{decode_of-ok, decode_of-same}
use Rattle.command_words.specs.declared.command.ClientCommand.TheVariants as client
use Rattle.command_words.specs.declared.terms.ClientTerms.{ClientTerms}
use Rattle.command_words.proofs.Names.{list_all, cases_lt, CallText, AreTermsInRange, ClientText, FetchText, HexText, ListText, SendText, TermsText, client_options, AsksBy, client_word, ClientCommand, Named, IsDiskOf, line_places, line_value, ClientLine, are_places, client_places, fetch_places, is_option_name, IsNumberOr, NumberText, default_k, default_polls, number_after, IsAir}
use Rattle.command_words.proofs.Uses.{Text}
use Rattle.command_words.proofs.Meanings.{air_from, air_in, air_text, disk_in, in_range, number_one, one_text, same_call, same_places, same_value}
use Rattle.command_words.proofs.Decided.{Decided, air_decided, call_decided, file_decided, line_decided, number_decided, number_or_decided, two_texts}

-- ---- terms

-- the same of the same texts
terms_as : {server server2 me me2 : Text} {k k2 polls polls2 : Option Text} {terms : ClientTerms} → server ≡ server2 → me ≡ me2 → k ≡ k2 → polls ≡ polls2
    → TermsText server me k polls terms → TermsText server2 me2 k2 polls2 terms
terms_as {terms = terms} server_is me_is k_is polls_is given = record {
  server_called = subst (λ (t : Text). CallText terms.server t) server_is given.server_called;
  me_called = subst (λ (t : Text). CallText terms.me t) me_is given.me_called;
  k_given = subst (λ (o : Option Text). IsNumberOr default_k 1 7 o terms.k) k_is given.k_given;
  polls_given = subst (λ (o : Option Text). IsNumberOr default_polls 1 18446744073709551615 o terms.polls) polls_is given.polls_given;
}

-- their numbers are in their ranges
terms_in_range : {server me : Text} (k polls : Option Text) (terms : ClientTerms) → TermsText server me k polls terms → AreTermsInRange terms
terms_in_range k polls terms given =
    let (some_k, most_k) = in_range default_k 1 7 k terms.k (omega arith) (omega arith) given.k_given in
    let (some_polls, most_polls) = in_range default_polls 1 18446744073709551615 polls terms.polls (omega arith) (omega arith) given.polls_given in
    record { some_k = some_k; most_k = most_k; some_polls = some_polls }

-- texts give one client's terms
terms_one : (server me : Text) (k polls : Option Text) (one other : ClientTerms) → TermsText server me k polls one → TermsText server me k polls other → one ≡ other
terms_one server me k polls one other given also =
    let servers = same_call one.server other.server server given.server_called also.server_called in
    let mes = same_call one.me other.me me given.me_called also.me_called in
    let ks = number_one default_k 1 7 k one.k other.k given.k_given also.k_given in
    let many = number_one default_polls 1 18446744073709551615 polls one.polls other.polls given.polls_given also.polls_given in
    λ i. record { server = servers i; me = mes i; k = ks i; polls = many i }

terms_decided : (server me : Text) (k polls : Option Text) → Decided ((terms : ClientTerms) × TermsText server me k polls terms)
terms_decided server me k polls = elim (call_decided server) [
  | inr none ↦ inr (λ (terms, given). none (terms.server, given.server_called))
  | inl (server_call, server_called) ↦ elim (call_decided me) [
    | inr none ↦ inr (λ (terms, given). none (terms.me, given.me_called))
    | inl (me_call, me_called) ↦ elim (number_or_decided default_k 1 7 k) [
      | inr none ↦ inr (λ (terms, given). none (terms.k, given.k_given))
      | inl (k_no, k_given) ↦ elim (number_or_decided default_polls 1 18446744073709551615 polls) [
        | inr none ↦ inr (λ (terms, given). none (terms.polls, given.polls_given))
        | inl (polls_no, polls_given) ↦ inl (
          record { server = server_call; me = me_call; k = k_no; polls = polls_no },
          record { server_called = server_called; me_called = me_called; k_given = k_given; polls_given = polls_given },
        )
      ]
    ]
  ]
]

-- ---- lines

-- what a line gives of terms is what its words mean
pub client_from : {count : ℕ} {words : List Text} {server me : Text} {further : List Text} {k polls : Option Text} (terms : ClientTerms)
    → ClientLine count words (server ∷ me ∷ further) k polls → TermsText server me k polls terms → ClientText count terms further words
client_from {server = server} {me = me} {k = k} {polls = polls} terms line given = record {
  line = line.line;
  server = server;
  me = me;
  places = line.places_are;
  given = terms_as refl refl (sym line.k_given) (sym line.polls_given) given;
  ranges = terms_in_range k polls terms given;
}

-- two texts or more begin with two
two_first : (texts : List Text) → 2 ≤ length texts → (one : Text) × (other : Text) × (further : List Text) × (texts ≡ one ∷ other ∷ further)
two_first [] two = absurd (omega arith)
two_first (one ∷ []) two = absurd (omega arith)
two_first (one ∷ other ∷ further) two = (one, other, further, refl)

module _ (ids : List Text) (placed : are_places ids ≡ true) (options : list_all (is_option_name ids) client_options ≡ true) where
  -- and what they mean is what a line gives
  pub client_agrees : {words : List Text} {server me : Text} {further others : List Text} {k polls : Option Text} {terms : ClientTerms}
      → ClientLine (length ids) words (server ∷ me ∷ further) k polls → ClientText (length ids) terms others words
      → (others ≡ further) × TermsText server me k polls terms
  client_agrees {server = server} {me = me} {further = further} {others = others} {k = k} {polls = polls} line text =
      let same : server ∷ me ∷ further ≡ text.server ∷ text.me ∷ others =
      sym line.places_are ∙ same_places client_options ids placed options line.line text.line ∙ text.places in
      let server_is : text.server ≡ server = cc in
      let me_is : text.me ≡ me = cc in
      let rest : others ≡ further = cc in
      let k_is : line_value text.line (codes "k") ≡ k = same_value client_options ids placed options text.line line.line (codes "k") ∙ line.k_given in
      let polls_is : line_value text.line (codes "polls") ≡ polls = same_value client_options ids placed options text.line line.line (codes "polls") ∙ line.polls_given in
      (rest, terms_as server_is me_is k_is polls_is text.given)

  -- words have one meaning
  pub client_one : {words : List Text} {one other : ClientTerms} {further others : List Text} → ClientText (length ids) one further words
      → ClientText (length ids) other others words → (one ≡ other) × (further ≡ others)
  client_one {one = one} {other = other} first second =
      let (rest, given) = client_agrees (record { line = first.line; places_are = first.places; k_given = refl; polls_given = refl }) second in
      (terms_one _ _ _ _ one other first.given given, sym rest)

  pub client_decided : 2 ≤ length ids → (words : List Text) → Decided ((terms : ClientTerms) × (further : List Text) × ClientText (length ids) terms further words)
  client_decided two words = elim (line_decided client_options ids placed options words) [
    | inr none ↦ inr (λ (terms, further, text). none text.line)
    | inl line ↦
        let many : 2 ≤ length (line_places line) = let same = line.counted in omega arith in
        let (server, me, further, places) = two_first (line_places line) many in
        let read : ClientLine (length ids) words (server ∷ me ∷ further) (line_value line (codes "k")) (line_value line (codes "polls")) =
        record { line = line; places_are = places; k_given = refl; polls_given = refl } in
        elim (terms_decided server me (line_value line (codes "k")) (line_value line (codes "polls"))) [
          | inl (terms, given) ↦ inl (terms, further, client_from terms read given)
          | inr none ↦ inr (λ (terms, others, text). none (terms, (client_agrees read text).1))
        ]
  ]

-- so many places are behind SERVER and ME
further_count : {count : ℕ} {terms : ClientTerms} {further words : List Text} → ClientText count terms further words → count ≡ 2 + length further
further_count text = let counted = text.line.counted in omega (arith, ap length text.places)

-- the last place of `send` and `list`, and NUMBER of `fetch`, are those that were read
pub subject_of : {words : List Text} {server me subject another : Text} {k polls : Option Text} {terms : ClientTerms}
    → ClientLine 3 words (server ∷ me ∷ subject ∷ []) k polls → ClientText 3 terms (another ∷ []) words → another ≡ subject
subject_of line text = let (same, given) = client_agrees client_places refl refl line text in cc

pub number_of : {words : List Text} {server me number name more another : Text} {k polls : Option Text} {terms : ClientTerms}
    → ClientLine 4 words (server ∷ me ∷ number ∷ name ∷ []) k polls → ClientText 4 terms (more ∷ another ∷ []) words → more ≡ number
number_of line text = let (same, given) = client_agrees fetch_places refl refl line text in cc

-- ---- `send`

pub send_same : {others : List Text} {one other : ClientTerms} {name another : Text} → SendText one name others → SendText other another others
    → (one ≡ other) × (name ≡ another)
send_same first second =
    let (terms, names) = client_one client_places refl refl first.text second.text in
    (terms, cc)

pub send_decided : (others : List Text) → Decided ((terms : ClientTerms) × (name : Text) × SendText terms name others)
send_decided others = elim (client_decided client_places refl refl (omega arith) others) [
  | inr none ↦ inr (λ (terms, name, text). none (terms, name ∷ [], text.text))
  | inl (terms, further, text) ↦
      let (name, is) = one_text further (omega (arith, further_count text)) in
      let named : ClientText 3 terms (name ∷ []) others = subst (λ (ts : List Text). ClientText 3 terms ts others) is text in
      elim (cases_lt (length name) 1) [
        | inl empty ↦ inr (λ (other, another, send). let same = name_of named send.text in let some = send.some in omega (arith, ap length same))
        | inr some ↦ elim (cases_lt 64 (length name)) [
          | inl long ↦ inr (λ (other, another, send). let same = name_of named send.text in let few = send.few in omega (arith, ap length same))
          | inr few ↦ inl (terms, name, record { text = named; some = some; few = few })
        ]
      ]
]
  where
    name_of : {words : List Text} {one other : ClientTerms} {name another : Text} → ClientText 3 one (name ∷ []) words → ClientText 3 other (another ∷ []) words → name ≡ another
    name_of first second = let (terms, names) = client_one client_places refl refl first second in cc

-- ---- `fetch`

pub fetch_same : {others : List Text} {one other : ClientTerms} {number more : ℕ} {name another : Text} → FetchText one number name others
    → FetchText other more another others → (one ≡ other) × (number ≡ more) × (name ≡ another)
fetch_same {number = number} {more = more} {name = name} {another = another} first second =
    let (terms, texts) = client_one fetch_places refl refl first.text second.text in
    let digits : first.number_text ≡ second.number_text = cc in
    let names : name ≡ another = cc in
    (terms, first.in_range.value ∙ ap (number_after 0) digits ∙ sym second.in_range.value, names)

pub fetch_decided : (others : List Text) → Decided ((terms : ClientTerms) × (number : ℕ) × (name : Text) × FetchText terms number name others)
fetch_decided others = elim (client_decided fetch_places refl refl (omega arith) others) [
  | inr none ↦ inr (λ (terms, number, name, text). none (terms, text.number_text ∷ name ∷ [], text.text))
  | inl (terms, further, text) ↦
      let (digits, name, is) = two_texts further (omega (arith, further_count text)) in
      let named : ClientText 4 terms (digits ∷ name ∷ []) others = subst (λ (ts : List Text). ClientText 4 terms ts others) is text in
      elim (number_decided 1 4294967295 digits) [
        | inl (number, in_range) ↦ inl (terms, number, name, record { number_text = digits; text = named; in_range = in_range })
        | inr none ↦ inr (λ (other, number, another, fetch).
            none (number, subst (λ (t : Text). NumberText 1 4294967295 t number) (digits_of fetch.text named) fetch.in_range))
      ]
]
  where
    digits_of : {words : List Text} {one other : ClientTerms} {digits more name another : Text} → ClientText 4 one (digits ∷ name ∷ []) words
        → ClientText 4 other (more ∷ another ∷ []) words → digits ≡ more
    digits_of first second = let (terms, texts) = client_one fetch_places refl refl first second in cc

-- ---- `list`

-- HEX has at most two digits for each octet
pub hex_length : (hex octets : List ℕ) → HexText hex octets → length hex ≤ 4094
hex_length hex octets is =
    let (even, digits, twice, bytes) = decode_of-ok hex octets is.decoded in
    let few = is.few in
    omega (arith, twice, few)

pub list_same : {others : List Text} {one other : ClientTerms} {tokens more : List ℕ} → ListText one tokens others → ListText other more others
    → (one ≡ other) × (tokens ≡ more)
list_same {tokens = tokens} {more = more} first second =
    let (terms, texts) = client_one client_places refl refl first.text second.text in
    let hexes : second.hex ≡ first.hex = cc in
    (terms, decode_of-same first.hex tokens more first.hexed.decoded (ap decode_of (sym hexes) ∙ second.hexed.decoded))

hex_decided : (hex : Text) → Decided ((octets : List ℕ) × HexText hex octets)
hex_decided hex = decide (decode_of hex) refl
  where
    decide : (read : Result (List ℕ) FromHexError) → decode_of hex ≡ read → Decided ((octets : List ℕ) × HexText hex octets)
    decide (Err e) bad = inr (λ (octets, is). let no : Ok octets ≡ Err e = sym is.decoded ∙ bad in cc no)
    decide (Ok octets) good = elim (cases_lt 2047 (length octets)) [
      | inl long ↦ inr (λ (other, is). let same = decode_of-same hex octets other good is.decoded in let few = is.few in omega (arith, ap length same))
      | inr few ↦ inl (octets, record { decoded = good; few = few })
    ]

pub list_decided : (others : List Text) → Decided ((terms : ClientTerms) × (tokens : List ℕ) × ListText terms tokens others)
list_decided others = elim (client_decided client_places refl refl (omega arith) others) [
  | inr none ↦ inr (λ (terms, tokens, text). none (terms, text.hex ∷ [], text.text))
  | inl (terms, further, text) ↦
      let (hex, is) = one_text further (omega (arith, further_count text)) in
      let named : ClientText 3 terms (hex ∷ []) others = subst (λ (ts : List Text). ClientText 3 terms ts others) is text in
      elim (hex_decided hex) [
        | inl (tokens, hexed) ↦ inl (terms, tokens, record { hex = hex; text = named; hexed = hexed })
        | inr none ↦ inr (λ (other, tokens, list). none (tokens, subst (λ (t : Text). HexText t tokens) (hex_of list.text named) list.hexed))
      ]
]
  where
    hex_of : {words : List Text} {one other : ClientTerms} {hex another : Text} → ClientText 3 one (hex ∷ []) words → ClientText 3 other (another ∷ []) words → hex ≡ another
    hex_of first second = let (terms, texts) = client_one client_places refl refl first second in cc

-- ---- the words of each

-- DISK names a file and AIR an air, or not
station_decided : (disk air : Text) → Decided (IsDiskOf disk Named × IsAir air)
station_decided disk air = elim (file_decided disk) [
  | inr none ↦ inr (λ is. none is.0)
  | inl named ↦ elim (air_decided air) [ inl form ↦ inl (named, form) | inr none ↦ inr (λ is. none is.1) ]
]

pub by_decided : (command : ClientCommand) (disk air : Text) (others : List Text) → Decided (AsksBy command (disk ∷ air ∷ client_word command ∷ others))
by_decided client.Send disk air others = elim (station_decided disk air) [
  | inr none ↦ inr (λ (terms, name, asks). none (disk_in asks, air_in asks))
  | inl (named, form) ↦ elim (send_decided others) [
    | inr none ↦ inr (λ (terms, name, asks). none (terms, name, air_text asks))
    | inl (terms, name, text) ↦ inl (terms, name, air_from disk air others named form text)
  ]
]
by_decided client.Fetch disk air others = elim (station_decided disk air) [
  | inr none ↦ inr (λ (terms, number, name, asks). none (disk_in asks, air_in asks))
  | inl (named, form) ↦ elim (fetch_decided others) [
    | inr none ↦ inr (λ (terms, number, name, asks). none (terms, number, name, air_text asks))
    | inl (terms, number, name, text) ↦ inl (terms, number, name, air_from disk air others named form text)
  ]
]
by_decided client.List disk air others = elim (station_decided disk air) [
  | inr none ↦ inr (λ (terms, tokens, asks). none (disk_in asks, air_in asks))
  | inl (named, form) ↦ elim (list_decided others) [
    | inr none ↦ inr (λ (terms, tokens, asks). none (terms, tokens, air_text asks))
    | inl (terms, tokens, text) ↦ inl (terms, tokens, air_from disk air others named form text)
  ]
]
