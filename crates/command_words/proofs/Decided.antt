-- Each question that the command set asks of the words has an answer.
use Rattle.std.proofs.Common.{◌≡◌, ◌==◌, ◌<◌, ◌≤◌, ◌⊎◌, ℕ, zero, suc, true, List, [], ◌∷◌, length, take, drop, Option, None, Some, unwrap_or, refl, sym, ap, ◌∙◌, subst, arith, inl, inr, codes, true≢false, append_assoc}
use Rattle.command_words.proofs.Names.{AllByRecursion, after_first, before_first, list_all, bytes_eq, cases_Bool, cases_lt, CallSign, CallText, SsidText, base_length, padded, ssid_digits, call_is, cut_of, has_byte, IsDiskOf, DiskWord, Fresh, Named, Line, line_places, line_value, are_apart, are_places, is_option_name, MakeValue, spec_refusal, MakeOptions, MakeSays, MakeText, make_options, options_given, GivesNumber, IsDigit, IsNumberOr, NumberText, default_blocks, default_k, default_polls, number_after, BodyText, CallGiven, IsAir, IsHostPort, NameText, ServeText, SessionText, serve_options, session_options}
use Rattle.command_words.proofs.Bytes.{after_first-append, before_first-append, before_first-lacks, has_byte-append, split_at_byte}
use Rattle.command_words.proofs.HostPorts.{all_lack, lack_all}
use Rattle.command_words.proofs.Uses.{Text, Uses, text_eq, text_same}
use Rattle.command_words.proofs.Machine.{run}
use Rattle.command_words.proofs.Rules.{AreApart}
use Rattle.command_words.proofs.Readings.{all_good, apart_names, apart_places, are_given, line-run, run-line, uses_in}
use Rattle.command_words.proofs.Meanings.{are_served, disk_of, make_says, one_text, says_one, serve_given, session_given}

abbrev pub Decided : Type 0 → Type 0
Decided P = P ⊎ (P → ⊥)

-- ---- numbers

digit_decided : (c : ℕ) → Decided (IsDigit c)
digit_decided c = elim (cases_lt c 48) [
  | inl below ↦ inr (λ digit. omega (arith, digit.0))
  | inr least ↦ elim (cases_lt 57 c) [
    | inl above ↦ inr (λ digit. omega (arith, digit.1))
    | inr most ↦ inl (least, most)
  ]
]

digits_decided : (text : Text) → Decided (AllByRecursion IsDigit text)
digits_decided [] = inl tt
digits_decided (c ∷ text) = elim (digit_decided c) [
  | inr none ↦ inr (λ all. none all.0)
  | inl digit ↦ elim (digits_decided text) [
    | inl all ↦ inl (digit, all)
    | inr none ↦ inr (λ all. none all.1)
  ]
]

pub number_decided : (low high : ℕ) (text : Text) → Decided ((number : ℕ) × NumberText low high text number)
number_decided low high text = elim (digits_decided text) [
  | inr none ↦ inr (λ (number, is). none is.digits)
  | inl digits ↦ elim (cases_lt (length text) 1) [
    | inl empty ↦ inr (λ (number, is). let some = is.some in omega arith)
    | inr some ↦ elim (cases_lt 20 (length text)) [
      | inl long ↦ inr (λ (number, is). let few = is.few in omega arith)
      | inr few ↦ elim (cases_lt (number_after 0 text) low) [
        | inl below ↦ inr (λ (number, is). let least = is.least in let value = is.value in omega arith)
        | inr least ↦ elim (cases_lt high (number_after 0 text)) [
          | inl above ↦ inr (λ (number, is). let most = is.most in let value = is.value in omega arith)
          | inr most ↦ inl (number_after 0 text, record { some = some; few = few; digits = digits; value = refl; least = least; most = most })
        ]
      ]
    ]
  ]
]

pub gives_decided : (low high : ℕ) (value : Option Text) → Decided ((number : Option ℕ) × GivesNumber low high value number)
gives_decided low high None = inl (None, refl)
gives_decided low high (Some text) = elim (number_decided low high text) [
  | inl (number, is) ↦ inl (Some number, (text, refl, is))
  | inr none ↦ inr (λ (number, gives). none (of_one number gives))
]
  where
    of_one : (number : Option ℕ) → GivesNumber low high (Some text) number → (n : ℕ) × NumberText low high text n
    of_one None e = absurd cc
    of_one (Some n) (other, e, is) = let same : other ≡ text = cc in (n, subst (λ (t : Text). NumberText low high t n) same is)

pub number_or_decided : (otherwise low high : ℕ) (value : Option Text) → Decided ((number : ℕ) × IsNumberOr otherwise low high value number)
number_or_decided otherwise low high None = inl (otherwise, refl)
number_or_decided otherwise low high (Some text) = number_decided low high text

-- ---- calls

ssid_from : (text : Text) (n : ℕ) → n ≤ 16 → Decided ((ssid : ℕ) × (ssid < n) × (text ≡ 45 ∷ ssid_digits ssid))
ssid_from text zero most = inr (λ (ssid, below, e). omega arith)
ssid_from text (suc n) most = elim (cases_Bool (bytes_eq text (45 ∷ ssid_digits n))) [
  | inl same ↦ inl (n, omega arith, text_same text (45 ∷ ssid_digits n) same)
  | inr other ↦ elim (ssid_from text n (omega arith)) [
    | inl (ssid, below, e) ↦ inl (ssid, omega arith, e)
    | inr none ↦ inr (λ (ssid, below, e). elim (cases_lt ssid n) [
      | inl lower ↦ none (ssid, lower, e)
      | inr last ↦
          let is : ssid ≡ n = omega arith in
          true≢false (sym (text_eq text (45 ∷ ssid_digits n) (e ∙ ap (λ (k : ℕ). 45 ∷ ssid_digits k) is)) ∙ other)
    ])
  ]
]

ssid_decided : (text : Text) → Decided ((ssid : ℕ) × SsidText ssid text)
ssid_decided [] = inl (0, (omega arith, inr (refl, refl)))
ssid_decided (x ∷ text) = elim (ssid_from (x ∷ text) 16 (omega arith)) [
  | inl (ssid, below, e) ↦ inl (ssid, (omega arith, inl e))
  | inr none ↦ inr (λ (ssid, (most, cases)). elim cases [
    | inl e ↦ none (ssid, omega arith, e)
    | inr e ↦ let empty = e.1 in absurd cc
  ])
]

pub call_decided : (text : Text) → Decided ((caller : CallSign) × CallText caller text)
call_decided text = elim (cases_lt 0 (base_length text)) [
  | inr none ↦ inr (λ (caller, is). let some = (cut_of caller text is).some in omega arith)
  | inl some ↦ elim (ssid_decided (drop (base_length text) text)) [
    | inr none ↦ inr (λ (caller, is). none (caller.ssid, (cut_of caller text is).ssid))
    | inl (ssid, is) ↦
        let caller : CallSign = record { chars = padded (take (base_length text) text); ssid = ssid } in
        inl (caller, call_is caller text (record { some = some; spelled = refl; ssid = is }))
  ]
]

-- ---- the word AIR

host_port_decided : (air : Text) → Decided (IsHostPort air)
host_port_decided air = elim (cases_Bool (has_byte 58 air)) [
  | inr none ↦ inr (λ is.
      let written = is.written ∙ append_assoc is.host (58 ∷ []) is.port in
      true≢false (sym (ap (has_byte 58) written ∙ has_byte-append 58 is.host is.port) ∙ none))
  | inl colon ↦
      let host = before_first (λ c. c == 58) air in
      let port = after_first (λ c. c == 58) air in
      elim (number_decided 1 65535 port) [
        | inr none ↦ inr (λ is.
            let written = is.written ∙ append_assoc is.host (58 ∷ []) is.port in
            let same : port ≡ is.port = ap (after_first (λ c. c == 58)) written ∙ after_first-append 58 is.host is.port (all_lack is.host is.plain) in
            none (is.number, subst (λ (t : Text). NumberText 1 65535 t is.number) (sym same) is.in_range))
        | inl (number, in_range) ↦ elim (cases_lt (length host) 1) [
          | inl empty ↦ inr (λ is.
              let written = is.written ∙ append_assoc is.host (58 ∷ []) is.port in
              let same : host ≡ is.host = ap (before_first (λ c. c == 58)) written ∙ before_first-append 58 is.host is.port (all_lack is.host is.plain) in
              let some = is.some in
              omega (arith, ap length same))
          | inr some ↦ inl (record {
            host = host;
            port = port;
            number = number;
            written = split_at_byte 58 air colon ∙ sym (append_assoc host (58 ∷ []) port);
            some = some;
            plain = lack_all host (before_first-lacks 58 air);
            in_range = in_range;
          })
        ]
      ]
]

-- a word is standard input and output, or a host and port, or neither
pub air_decided : (air : Text) → Decided (IsAir air)
air_decided air = elim (cases_Bool (bytes_eq air (codes "-"))) [
  | inl same ↦ inl (inl (text_same air (codes "-") same))
  | inr other ↦ elim (host_port_decided air) [
    | inl is ↦ inl (inr is)
    | inr none ↦ inr (λ is. elim is [
      | inl same ↦ true≢false (sym (text_eq air (codes "-") same) ∙ other)
      | inr host_port ↦ none host_port
    ])
  ]
]

-- DISK names a file
pub file_decided : (disk : Text) → Decided (IsDiskOf disk Named)
file_decided disk = decide (disk_of disk)
  where
    decide : (which : DiskWord) × IsDiskOf disk which → Decided (IsDiskOf disk Named)
    decide (Fresh, none) = inr (λ named. named none)
    decide (Named, named) = inl named

-- ---- the words after COMMAND

pub line_decided : (names ids : List Text) → are_places ids ≡ true → list_all (is_option_name ids) names ≡ true → (words : List Text) → Decided (Line names words (length ids))
line_decided names ids placed options words = decide (run names ids words None (Some [])) refl
  where
    apart : AreApart names ids
    apart = apart_names names ids options

    distinct : are_apart ids ≡ true
    distinct = apart_places ids placed

    decide : (read : Option Uses) → run names ids words None (Some []) ≡ read → Decided (Line names words (length ids))
    decide None e = inr (λ line.
        let (read, given) = line-run names ids apart distinct words (all_good ids names options) line in
        let none : None ≡ Some (uses_in names ids apart distinct line) = sym e ∙ read in
        absurd cc)
    decide (Some all) e = elim (cases_Bool (are_given ids all)) [
      | inl given ↦ inl (run-line names ids apart distinct words all e given).0
      | inr none ↦ inr (λ line.
          let (read, given) = line-run names ids apart distinct words (all_good ids names options) line in
          let some : Some all ≡ Some (uses_in names ids apart distinct line) = sym e ∙ read in
          let same : all ≡ uses_in names ids apart distinct line = cc in
          true≢false (sym given ∙ ap (are_given ids) (sym same) ∙ none))
    ]

-- a place and options give a call, blocks and polls, or not
abbrev GivesCall : List Text → (Text → Option Text) → Type 0
GivesCall places value = (call : CallSign) × (blocks : ℕ) × (polls : ℕ) × CallGiven places value call blocks polls

module _ (places : List Text) (value : Text → Option Text) (call_text : Text) (place : places ≡ call_text ∷ []) where
  same_call : (call : CallSign) (blocks polls : ℕ) → CallGiven places value call blocks polls → CallText call call_text
  same_call call blocks polls given =
      let same : given.call_text ∷ [] ≡ call_text ∷ [] = sym given.place ∙ place in
      let call_is : given.call_text ≡ call_text = cc in
      subst (λ (t : Text). CallText call t) call_is given.called

  given_decided : Decided (GivesCall places value)
  given_decided = elim (call_decided call_text) [
    | inr none ↦ inr (λ (call, blocks, polls, given). none (call, same_call call blocks polls given))
    | inl (call, called) ↦ elim (number_or_decided default_blocks 1 65536 (value (codes "blocks"))) [
      | inr none ↦ inr (λ (other, blocks, polls, given). none (blocks, given.blocks_given))
      | inl (blocks, blocks_given) ↦ elim (number_or_decided default_polls 1 18446744073709551615 (value (codes "polls"))) [
        | inr none ↦ inr (λ (other, many, polls, given). none (polls, given.polls_given))
        | inl (polls, polls_given) ↦ inl (call, blocks, polls, record { call_text = call_text; place = place; called = called; blocks_given = blocks_given; polls_given = polls_given })
      ]
    ]
  ]

-- the words after `session` give a call and numbers
abbrev pub GivesSession : List Text → Type 0
GivesSession others = (caller : CallSign) × (moment : Option ℕ) × (blocks : ℕ) × (polls : ℕ) × SessionText others caller moment blocks polls

session_from_line : (others : List Text) (line : Line session_options others 1) (call_text : Text) → line_places line ≡ call_text ∷ [] → Decided (GivesSession others)
session_from_line others line call_text place = elim (given_decided (line_places line) (line_value line) call_text place) [
  | inr none ↦ inr (λ (caller, moment, blocks, polls, text). none (caller, blocks, polls, (session_given text line).0))
  | inl (caller, blocks, polls, given) ↦ elim (gives_decided 0 4294967295 (line_value line (codes "moment"))) [
    | inr none ↦ inr (λ (other, moment, many, more, text). none (moment, (session_given text line).1))
    | inl (moment, moment_given) ↦ inl (caller, moment, blocks, polls, record { line = line; given = given; moment_given = moment_given })
  ]
]

pub session_decided : (others : List Text) → Decided (GivesSession others)
session_decided others = elim (line_decided session_options (codes "caller" ∷ []) refl refl others) [
  | inl line ↦ let (call_text, place) = one_text (line_places line) line.counted in session_from_line others line call_text place
  | inr none ↦ inr (λ (caller, moment, blocks, polls, text). none text.line)
]

-- the words after `serve` give a call and numbers
abbrev pub GivesServe : List Text → Type 0
GivesServe others = (me : CallSign) × (k : ℕ) × (blocks : ℕ) × (polls : ℕ) × ServeText others me k blocks polls

serve_from_line : (others : List Text) (line : Line serve_options others 1) (call_text : Text) → line_places line ≡ call_text ∷ [] → Decided (GivesServe others)
serve_from_line others line call_text place = elim (given_decided (line_places line) (line_value line) call_text place) [
  | inr none ↦ inr (λ (me, k, blocks, polls, text). none (me, blocks, polls, (serve_given text line).0))
  | inl (me, blocks, polls, given) ↦ elim (number_or_decided default_k 1 7 (line_value line (codes "k"))) [
    | inr none ↦ inr (λ (other, k, many, more, text). none (k, (serve_given text line).1))
    | inl (k, k_given) ↦ inl (me, k, blocks, polls, record { line = line; given = given; k_given = k_given; ranges = are_served (line_value line (codes "k")) k blocks polls given k_given })
  ]
]

pub serve_decided : (others : List Text) → Decided (GivesServe others)
serve_decided others = elim (line_decided serve_options (codes "me" ∷ []) refl refl others) [
  | inl line ↦ let (call_text, place) = one_text (line_places line) line.counted in serve_from_line others line call_text place
  | inr none ↦ inr (λ (me, k, blocks, polls, text). none text.line)
]

-- a NAME is there, or not
pub name_decided : (others : List Text) → Decided ((name : Text) × NameText name others)
name_decided others = elim (line_decided [] (codes "name" ∷ []) refl refl others) [
  | inl line ↦ let (name, place) = one_text (line_places line) line.counted in inl (name, record { line = line; place = place })
  | inr none ↦ inr (λ (name, text). none text.line)
]

-- a list of two texts
pub two_texts : (texts : List Text) → length texts ≡ 2 → (one : Text) × (other : Text) × (texts ≡ one ∷ other ∷ [])
two_texts [] e = absurd (omega arith)
two_texts (one ∷ []) e = absurd (omega arith)
two_texts (one ∷ other ∷ []) e = (one, other, refl)
two_texts (one ∷ other ∷ more ∷ texts) e = absurd (omega arith)

-- NAME and OUT are there, or not
pub body_decided : (others : List Text) → Decided ((name kept : Text) × BodyText name kept others)
body_decided others = elim (line_decided [] (codes "name" ∷ codes "out" ∷ []) refl refl others) [
  | inl line ↦ let (name, kept, places) = two_texts (line_places line) line.counted in inl (name, kept, record { line = line; places = places })
  | inr none ↦ inr (λ (name, kept, text). none text.line)
]

-- ---- the words after `pfh-make`

says_decided : (options : MakeOptions) → Decided ((spec : MakeValue) × MakeSays options spec)
says_decided options = named options.name refl
  where
    named : (name : Option Text) → options.name ≡ name → Decided ((spec : MakeValue) × MakeSays options spec)
    named None e = inr (λ (spec, says). let none : None ≡ Some spec.name = sym e ∙ says.name in absurd cc)
    named (Some name) e = elim (number_or_decided 0 0 255 options.file_type) [
      | inr none ↦ inr (λ (spec, says). none (spec.file_type, says.file_type))
      | inl (file_type, type_is) ↦ elim (number_or_decided 0 0 4294967295 options.time) [
        | inr none ↦ inr (λ (spec, says). none (spec.time, says.time))
        | inl (time, time_is) ↦ inl (
          record {
            name = name;
            ext = unwrap_or options.ext [];
            file_type = file_type;
            time = time;
            source = unwrap_or options.source [];
            destination = options.destination;
            title = options.title;
          },
          record { name = e; ext = refl; file_type = type_is; time = time_is; source = refl; destination = refl; title = refl },
        )
      ]
    ]

-- the words after `pfh-make` ask for a file, or not
abbrev pub GivesMake : List Text → Type 0
GivesMake others = (body : Text) × (kept : Text) × (spec : MakeValue) × MakeText body kept spec others

none_decided : {A : Type 0} (value : Option A) → Decided (value ≡ None)
none_decided None = inl refl
none_decided (Some x) = inr (λ e. absurd cc)

make_on : (others : List Text) (line : Line make_options others 2) (body kept : Text) → line_places line ≡ body ∷ kept ∷ [] → Decided (GivesMake others)
make_on others line body kept places = elim (says_decided (options_given (line_value line))) [
  | inr none ↦ inr (λ (b, k, spec, text). none (spec, (make_says text line).1))
  | inl (spec, says) ↦ elim (none_decided (spec_refusal spec)) [
    | inl possible ↦ inl (body, kept, spec, record { line = line; places = places; says = says; possible = possible })
    | inr impossible ↦ inr (λ (b, k, other, text).
        let same : other ≡ spec = says_one (options_given (line_value line)) other spec (make_says text line).1 says in
        impossible (sym (ap spec_refusal same) ∙ text.possible))
  ]
]

pub make_decided : (others : List Text) → Decided (GivesMake others)
make_decided others = elim (line_decided make_options (codes "body" ∷ codes "kept" ∷ []) refl refl others) [
  | inl line ↦ let (body, kept, places) = two_texts (line_places line) line.counted in make_on others line body kept places
  | inr none ↦ inr (λ (body, kept, spec, text). none text.line)
]
