-- What the words of the built commands mean, and that they mean only that.
use Rattle.std.proofs.Common.{◌≡◌, ◌≤◌, ◌⊎◌, ℕ, true, List, [], ◌∷◌, ◌++◌, append_assoc, length, map, drop, Option, None, Some, refl, sym, ap, ap₂, ◌∙◌, subst, arith, cond, inl, inr, codes, false, true≢false, get_or, string_bytes, take, take_all, ◌-◌}
use Rattle.command_words.specs.declared.command.ClientCommand.TheVariants as client
use Rattle.command_words.specs.declared.command.CommandWord.TheVariants as word
use Rattle.command_words.specs.declared.line.MakeTexts.{MakeTexts}
use Rattle.command_words.specs.Airs.{IsAirOf}
use Rattle.command_words.specs.declared.air.AirWord.{AirWord}
use Rattle.command_words.proofs.Names.{String, IfNone, IfSome, is_some, slice_get, list_all, bytes_eq, cases_Bool, CallSign, CallText, one_call, has_byte, Line, line_places, line_value, AsksServe, AsksSession, MakeLine, ServeLine, SessionLine, are_apart, are_places, is_option_name, options_read, MakeValue, spec_refusal, MakeOptions, MakeSays, MakeText, make_options, options_given, GivesNumber, IsNumberOr, default_blocks, default_k, default_polls, AsksBy, IsCommandOf, client_word, word_of, ClientCommand, CommandWord, FileCommand, Check, Frames, Show, HostPort, Nothing, Standard, IsDiskOf, DiskWord, Fresh, Named, AreInRange, AsksRehearse, CallGiven, InSet, IsAir, IsBody, IsHostPort, IsMake, IsNamed, IsUsage, NeedsAir, NeedsNeither, ServeText, SessionText, serve_options, session_options}
use Rattle.command_words.proofs.Bytes.{has_byte-append}
use Rattle.command_words.proofs.Uses.{Text, Uses, text_eq, text_same, values}
use Rattle.command_words.proofs.Machine.{is_name}
use Rattle.command_words.proofs.Rules.{AreApart}
use Rattle.command_words.proofs.Readings.{all_good, apart_names, apart_places, line-run, line_places_are, line_value_is, no_values, some_texts, uses_in}

-- ---- lines

module _ (names ids : List Text) (placed : are_places ids ≡ true) (options : list_all (is_option_name ids) names ≡ true) where
  apart : AreApart names ids
  apart = apart_names names ids options

  distinct : are_apart ids ≡ true
  distinct = apart_places ids placed

  abbrev uses : {words : List Text} → Line names words (length ids) → Uses
  uses line = uses_in names ids apart distinct line

  -- Words are one line: its places and its values are the same.
  same_uses : {words : List Text} (one other : Line names words (length ids)) → uses one ≡ uses other
  same_uses {words} one other =
      let good = all_good ids names options in
      let same : Some (uses one) ≡ Some (uses other) =
      sym (line-run names ids apart distinct words good one).0 ∙ (line-run names ids apart distinct words good other).0 in
      cc

  pub same_places : {words : List Text} (one other : Line names words (length ids)) → line_places one ≡ line_places other
  same_places one other =
      let first : map (λ x. slice_get (values x (uses one)) 0) ids ≡ map (λ text. Some text) (line_places one) =
      line_places_are names ids apart distinct one (λ x. slice_get (values x (uses one)) 0) (λ x. refl) in
      let second : map (λ x. slice_get (values x (uses one)) 0) ids ≡ map (λ text. Some text) (line_places other) =
      line_places_are names ids apart distinct other (λ x. slice_get (values x (uses one)) 0)
      (λ x. ap (λ (all : Uses). slice_get (values x all) 0) (same_uses one other)) in
      some_texts (line_places one) (line_places other) (sym first ∙ second)

  pub same_value : {words : List Text} (one other : Line names words (length ids)) (name : Text) → line_value one name ≡ line_value other name
  same_value one other name = elim (cases_Bool (is_name names name)) [
    | inl known ↦ sym (line_value_is names ids apart distinct one name known)
        ∙ ap (λ (all : Uses). slice_get (values name all) 0) (same_uses one other) ∙ line_value_is names ids apart distinct other name known
    | inr none ↦ ap (λ (texts : List Text). slice_get texts 0) (no_values names name one.reading.parts none one.reading.each)
        ∙ sym (ap (λ (texts : List Text). slice_get texts 0) (no_values names name other.reading.parts none other.reading.each))
  ]

  -- what holds of the texts of one line of the words holds of those of another
  pub of_line : (P : List Text → (Text → Option Text) → Type 0) {words : List Text} (one other : Line names words (length ids))
      → P (line_places one) (line_value one) → P (line_places other) (line_value other)
  of_line P one other holds =
      let at_places : List Text → Type 0 = λ places. P places (line_value one) in
      let at_value : (Text → Option Text) → Type 0 = λ value. P (line_places other) value in
      let values_are : (λ name. line_value one name) ≡ (λ name. line_value other name) = λ i. λ name. same_value one other name i in
      subst at_value values_are (subst at_places (same_places one other) holds)

-- a list of one text
pub one_text : (texts : List Text) → length texts ≡ 1 → (text : Text) × (texts ≡ text ∷ [])
one_text [] e = absurd (omega arith)
one_text (text ∷ []) e = (text, refl)
one_text (text ∷ other ∷ texts) e = absurd (omega arith)

-- a text spells one call
pub same_call : (one other : CallSign) (text : Text) → CallText one text → CallText other text → one ≡ other
same_call one other text s t =
    let (chars, ssid) = one_call text one other s t in
    λ i. record { chars = chars i; ssid = ssid i }

-- ---- a call, blocks and polls

-- a number of the words is in its range
pub in_range : (otherwise low high : ℕ) (value : Option Text) (number : ℕ) → low ≤ otherwise → otherwise ≤ high → IsNumberOr otherwise low high value number
    → (low ≤ number) × (number ≤ high)
in_range otherwise low high None number least most h = omega (arith, least, most, h)
in_range otherwise low high (Some text) number least most h = (h.least, h.most)

-- what a line gives of a call, blocks and polls is what its words mean
pub record Agreed (call_text : Text) (blocks polls : Option Text) (call : CallSign) (blocks_no polls_no : ℕ) : Type 0 where
  pub called : CallText call call_text
  pub blocks_given : IsNumberOr default_blocks 1 65536 blocks blocks_no
  pub polls_given : IsNumberOr default_polls 1 18446744073709551615 polls polls_no

module _ {places : List Text} {value : Text → Option Text} {call_text : Text} {blocks polls : Option Text} {call : CallSign} {blocks_no polls_no : ℕ} (place : places ≡ call_text ∷ []) (blocks_is : value (codes "blocks") ≡ blocks) (polls_is : value (codes "polls") ≡ polls) where
  pub given_agrees : CallGiven places value call blocks_no polls_no → Agreed call_text blocks polls call blocks_no polls_no
  given_agrees given =
      let same : given.call_text ∷ [] ≡ call_text ∷ [] = sym given.place ∙ place in
      let call_is : given.call_text ≡ call_text = cc in
      record {
        called = subst (λ (t : Text). CallText call t) call_is given.called;
        blocks_given = subst (λ (o : Option Text). IsNumberOr default_blocks 1 65536 o blocks_no) blocks_is given.blocks_given;
        polls_given = subst (λ (o : Option Text). IsNumberOr default_polls 1 18446744073709551615 o polls_no) polls_is given.polls_given;
      }

  pub given_from : Agreed call_text blocks polls call blocks_no polls_no → CallGiven places value call blocks_no polls_no
  given_from agreed = record {
    call_text = call_text;
    place = place;
    called = agreed.called;
    blocks_given = subst (λ (o : Option Text). IsNumberOr default_blocks 1 65536 o blocks_no) (sym blocks_is) agreed.blocks_given;
    polls_given = subst (λ (o : Option Text). IsNumberOr default_polls 1 18446744073709551615 o polls_no) (sym polls_is) agreed.polls_given;
  }

-- ---- sessions' texts

-- the texts of a session's words, seen from any line of them
pub session_given : {others : List Text} {caller : CallSign} {moment : Option ℕ} {blocks polls : ℕ} → SessionText others caller moment blocks polls
    → (line : Line session_options others 1)
    → CallGiven (line_places line) (line_value line) caller blocks polls × GivesNumber 0 4294967295 (line_value line (codes "moment")) moment
session_given {caller = caller} {moment = moment} {blocks = blocks} {polls = polls} text line =
    of_line session_options (codes "caller" ∷ []) refl refl
    (λ places value. CallGiven places value caller blocks polls × GivesNumber 0 4294967295 (value (codes "moment")) moment) text.line line (text.given, text.moment_given)

-- what a line gives is what its words mean
pub session_agrees : {others : List Text} {caller : Text} {moment blocks polls : Option Text} {call : CallSign} {seconds : Option ℕ} {blocks_no polls_no : ℕ}
    → SessionLine others caller moment blocks polls → SessionText others call seconds blocks_no polls_no
    → Agreed caller blocks polls call blocks_no polls_no × GivesNumber 0 4294967295 moment seconds
session_agrees {seconds = seconds} line text =
    let (given, moment) = session_given text line.line in
    (given_agrees line.place line.blocks_given line.polls_given given, subst (λ (o : Option Text). GivesNumber 0 4294967295 o seconds) line.moment_given moment)

-- and what they mean is what a line gives
pub session_from : {others : List Text} {caller : Text} {moment blocks polls : Option Text} (call : CallSign) (seconds : Option ℕ) (blocks_no polls_no : ℕ)
    → SessionLine others caller moment blocks polls → Agreed caller blocks polls call blocks_no polls_no → GivesNumber 0 4294967295 moment seconds
    → SessionText others call seconds blocks_no polls_no
session_from call seconds blocks_no polls_no line agreed moment = record {
  line = line.line;
  given = given_from line.place line.blocks_given line.polls_given agreed;
  moment_given = subst (λ (o : Option Text). GivesNumber 0 4294967295 o seconds) (sym line.moment_given) moment;
}

-- ---- services' texts

-- the numbers that a service's words give are in their ranges
pub are_served : {places : List Text} {value : Text → Option Text} {me : CallSign} (k_value : Option Text) (k blocks polls : ℕ)
    → CallGiven places value me blocks polls → IsNumberOr default_k 1 7 k_value k → AreInRange k blocks polls
are_served {value = value} k_value k blocks polls given k_given =
    let (some_k, most_k) = in_range default_k 1 7 k_value k (omega arith) (omega arith) k_given in
    let (some_blocks, most_blocks) = in_range default_blocks 1 65536 (value (codes "blocks")) blocks (omega arith) (omega arith) given.blocks_given in
    let (some_polls, most_polls) = in_range default_polls 1 18446744073709551615 (value (codes "polls")) polls (omega arith) (omega arith) given.polls_given in
    record { some_k = some_k; most_k = most_k; some_blocks = some_blocks; most_blocks = most_blocks; some_polls = some_polls }

-- the texts of a service's words, seen from any line of them
pub serve_given : {others : List Text} {me : CallSign} {k blocks polls : ℕ} → ServeText others me k blocks polls → (line : Line serve_options others 1)
    → CallGiven (line_places line) (line_value line) me blocks polls × IsNumberOr default_k 1 7 (line_value line (codes "k")) k
serve_given {me = me} {k = k} {blocks = blocks} {polls = polls} text line =
    of_line serve_options (codes "me" ∷ []) refl refl
    (λ places value. CallGiven places value me blocks polls × IsNumberOr default_k 1 7 (value (codes "k")) k) text.line line (text.given, text.k_given)

-- what a line gives is what its words mean
pub serve_agrees : {others : List Text} {me : Text} {k blocks polls : Option Text} {call : CallSign} {k_no blocks_no polls_no : ℕ}
    → ServeLine others me k blocks polls → ServeText others call k_no blocks_no polls_no
    → Agreed me blocks polls call blocks_no polls_no × IsNumberOr default_k 1 7 k k_no
serve_agrees {k_no = k_no} line text =
    let (given, k_is) = serve_given text line.line in
    (given_agrees line.place line.blocks_given line.polls_given given, subst (λ (o : Option Text). IsNumberOr default_k 1 7 o k_no) line.k_given k_is)

-- and what they mean is what a line gives
pub serve_from : {others : List Text} {me : Text} {k blocks polls : Option Text} (call : CallSign) (k_no blocks_no polls_no : ℕ) → ServeLine others me k blocks polls
    → Agreed me blocks polls call blocks_no polls_no → IsNumberOr default_k 1 7 k k_no → ServeText others call k_no blocks_no polls_no
serve_from {k = k} call k_no blocks_no polls_no line agreed k_is =
    let given = given_from line.place line.blocks_given line.polls_given agreed in
    record {
      line = line.line;
      given = given;
      k_given = subst (λ (o : Option Text). IsNumberOr default_k 1 7 o k_no) (sym line.k_given) k_is;
      ranges = are_served k k_no blocks_no polls_no given k_is;
    }

-- ---- commands that need neither disk nor air

module _ {command : Text} {P : List Text → Type 0} where
  -- the words after the command, and AIR, of such words
  pub neither_text : {d a : Text} {others : List Text} → NeedsNeither command P (d ∷ a ∷ command ∷ others) → P others × ((a ≡ codes "none") ⊎ IsAir a)
  neither_text {a = a} {others = others} asks =
      let same : asks.others ≡ others = let whole = asks.written in cc in
      let air : asks.air ≡ a = let whole = asks.written in cc in
      (subst P same asks.text, subst (λ (t : Text). (t ≡ codes "none") ⊎ IsAir t) air asks.air_form)

  pub neither_from : (d a : Text) (others : List Text) → (a ≡ codes "none") ⊎ IsAir a → P others → NeedsNeither command P (d ∷ a ∷ command ∷ others)
  neither_from d a others form text = record { disk = d; air = a; others = others; written = refl; air_form = form; text = text }

-- ---- commands that need an air

module _ {command : Text} {which : DiskWord} {P : List Text → Type 0} where
  -- the words after the command, AIR and DISK, of such words
  pub air_text : {d a : Text} {others : List Text} → NeedsAir command which P (d ∷ a ∷ command ∷ others) → P others
  air_text {others = others} asks = let same : asks.others ≡ others = let whole = asks.written in cc in subst P same asks.text

  pub air_in : {d a : Text} {others : List Text} → NeedsAir command which P (d ∷ a ∷ command ∷ others) → IsAir a
  air_in {a = a} asks = let same : asks.air ≡ a = let whole = asks.written in cc in subst IsAir same asks.air_form

  pub disk_in : {d a : Text} {others : List Text} → NeedsAir command which P (d ∷ a ∷ command ∷ others) → IsDiskOf d which
  disk_in {d = d} asks = let same : asks.disk ≡ d = let whole = asks.written in cc in subst (λ (t : Text). IsDiskOf t which) same asks.disk_named

  pub air_from : (d a : Text) (others : List Text) → IsDiskOf d which → IsAir a → P others → NeedsAir command which P (d ∷ a ∷ command ∷ others)
  air_from d a others named form text = record { disk = d; air = a; others = others; written = refl; disk_named = named; air_form = form; text = text }

-- ---- the word AIR

air_of : (word : Text) (air : AirWord) → IsAirOf word air → (word ≡ codes "none") ⊎ IsAir word
air_of word Nothing is = inl is
air_of word Standard is = inr (inl is)
air_of word HostPort is = inr (inr is)

pub air_read : (word : Text) (read : Option AirWord) → IfSome read (λ air. IsAirOf word air) → is_some read ≡ true → (word ≡ codes "none") ⊎ IsAir word
air_read word None is e = absurd (true≢false (sym e))
air_read word (Some air) is e = air_of word air is

-- a text without a colon is no host and port,
no_colon : (air text : Text) → has_byte 58 text ≡ false → air ≡ text → IsHostPort air → ⊥
no_colon air text none same is =
    let written : text ≡ is.host ++ 58 ∷ is.port = sym same ∙ is.written ∙ append_assoc is.host (58 ∷ []) is.port in
    true≢false (sym (has_byte-append 58 is.host is.port) ∙ sym (ap (has_byte 58) written) ∙ none)

-- so `none` is no air,
pub no_air : (air : Text) → air ≡ codes "none" → IsAir air → ⊥
no_air air nothing (inl standard) = let same : codes "none" ≡ codes "-" = sym nothing ∙ standard in absurd cc
no_air air nothing (inr is) = no_colon air (codes "none") refl nothing is

-- and a word names one thing
pub one_air : (word : Text) (one other : AirWord) → IsAirOf word one → IsAirOf word other → other ≡ one
one_air word Nothing Nothing is also = refl
one_air word Nothing Standard is also = absurd (no_air word is (inl also))
one_air word Nothing HostPort is also = absurd (no_air word is (inr also))
one_air word Standard Nothing is also = absurd (no_air word also (inl is))
one_air word Standard Standard is also = refl
one_air word Standard HostPort is also = absurd (no_colon word (codes "-") refl is also)
one_air word HostPort Nothing is also = absurd (no_air word also (inr is))
one_air word HostPort Standard is also = absurd (no_colon word (codes "-") refl also is)
one_air word HostPort HostPort is also = refl

-- a word that names none of them
pub names_none : (word : Text) → (word ≡ codes "none" → ⊥) → (word ≡ codes "-" → ⊥) → (IsHostPort word → ⊥) → (air : AirWord) → IsAirOf word air → ⊥
names_none word no_nothing no_standard no_host_port Nothing is = no_nothing is
names_none word no_nothing no_standard no_host_port Standard is = no_standard is
names_none word no_nothing no_standard no_host_port HostPort is = no_host_port is

-- AIR has none of its forms where nothing was read,
pub unnamed : (word : Text) → ((air : AirWord) → IsAirOf word air → ⊥) → IsAir word → ⊥
unnamed word none (inl standard) = none Standard standard
unnamed word none (inr host_port) = none HostPort host_port

-- and a command that needs neither disk nor air has one of them
pub air_unread : (word : Text) (read : Option AirWord) → IfNone read ((air : AirWord) → IsAirOf word air → ⊥) → is_some read ≡ false
    → (word ≡ codes "none") ⊎ IsAir word → ⊥
air_unread word None none e (inl nothing) = none Nothing nothing
air_unread word None none e (inr form) = unnamed word none form
air_unread word (Some air) none e form = true≢false e

-- ---- the word DISK

-- the disk that a word names,
pub disk_of : (disk : Text) → (which : DiskWord) × IsDiskOf disk which
disk_of disk = elim (cases_Bool (bytes_eq disk (codes "none"))) [
  | inl same ↦ (Fresh, text_same disk (codes "none") same)
  | inr other ↦ (Named, λ same. true≢false (sym (text_eq disk (codes "none") same) ∙ other))
]

-- and no other
pub one_disk : (disk : Text) (one other : DiskWord) → IsDiskOf disk one → IsDiskOf disk other → one ≡ other
one_disk disk Fresh Fresh is also = refl
one_disk disk Fresh Named is also = absurd (also is)
one_disk disk Named Fresh is also = absurd (is also)
one_disk disk Named Named is also = refl

-- ---- the three words by place

pub three_words : {Z : Type 0} (words : List (String Z)) (disk air command : String Z) (d a c : Text) → 3 ≤ length words
    → disk ≡ get_or words 0 disk → air ≡ get_or words 1 air → command ≡ get_or words 2 command
    → d ≡ string_bytes disk → a ≡ string_bytes air → c ≡ string_bytes command
    → map string_bytes words ≡ d ∷ a ∷ c ∷ drop 1 (map string_bytes (take (length words - 2) (drop 2 words)))
three_words [] disk air command d a c some d_at a_at c_at d_is a_is c_is = absurd (omega arith)
three_words (x ∷ []) disk air command d a c some d_at a_at c_at d_is a_is c_is = absurd (omega arith)
three_words (x ∷ y ∷ []) disk air command d a c some d_at a_at c_at d_is a_is c_is = absurd (omega arith)
three_words (x ∷ y ∷ z ∷ words) disk air command d a c some d_at a_at c_at d_is a_is c_is =
    let first : string_bytes x ≡ d = ap string_bytes (sym d_at) ∙ sym d_is in
    let second : string_bytes y ≡ a = ap string_bytes (sym a_at) ∙ sym a_is in
    let third : string_bytes z ≡ c = ap string_bytes (sym c_at) ∙ sym c_is in
    let rest : take (length (x ∷ y ∷ z ∷ words) - 2) (z ∷ words) ≡ z ∷ words = take_all (length (x ∷ y ∷ z ∷ words) - 2) (z ∷ words) (omega arith) in
    let after : drop 1 (map string_bytes (take (length (x ∷ y ∷ z ∷ words) - 2) (z ∷ words))) ≡ map string_bytes words =
    ap (λ ws. drop 1 (map string_bytes ws)) rest in
    cc

-- ---- the command of words

-- the words of each command
abbrev pub AreOf : CommandWord → List Text → Type 0
AreOf word.Session words = AsksSession words
AreOf word.Serve words = AsksServe words
AreOf (word.Client command) words = AsksBy command words
AreOf (word.File command) words = (name : Text) × IsNamed (word_of command) words name
AreOf word.PfhMake words = (body kept : Text) × (spec : MakeValue) × IsMake words body kept spec
AreOf word.PfhBody words = (name kept : Text) × IsBody words name kept
AreOf word.Rehearse words = AsksRehearse words

-- words in the command set are those of some command,
pub of_set : {words : List Text} → InSet words → (command : CommandWord) × AreOf command words
of_set (inl session) = (word.Session, session)
of_set (inr (inl serve)) = (word.Serve, serve)
of_set (inr (inr (inl (inl send)))) = (word.Client client.Send, send)
of_set (inr (inr (inl (inr (inl fetch))))) = (word.Client client.Fetch, fetch)
of_set (inr (inr (inl (inr (inr list))))) = (word.Client client.List, list)
of_set (inr (inr (inr (inl frames)))) = (word.File Frames, frames)
of_set (inr (inr (inr (inr (inl (inl check)))))) = (word.File Check, check)
of_set (inr (inr (inr (inr (inl (inr (inl show))))))) = (word.File Show, show)
of_set (inr (inr (inr (inr (inl (inr (inr (inl make)))))))) = (word.PfhMake, make)
of_set (inr (inr (inr (inr (inl (inr (inr (inr body)))))))) = (word.PfhBody, body)
of_set (inr (inr (inr (inr (inr rehearse))))) = (word.Rehearse, rehearse)

-- which their third word names
pub third_word : {words : List Text} (command : CommandWord) → AreOf command words
    → (d a c : Text) × (others : List Text) × (words ≡ d ∷ a ∷ c ∷ others) × IsCommandOf c command
third_word word.Session (asked, asks) = (asks.disk, asks.air, codes "session", asks.others, asks.written, refl)
third_word word.Serve (asked, asks) = (asks.disk, asks.air, codes "serve", asks.others, asks.written, refl)
third_word (word.Client client.Send) (terms, name, asks) = (asks.disk, asks.air, codes "send", asks.others, asks.written, refl)
third_word (word.Client client.Fetch) (terms, number, name, asks) = (asks.disk, asks.air, codes "fetch", asks.others, asks.written, refl)
third_word (word.Client client.List) (terms, tokens, asks) = (asks.disk, asks.air, codes "list", asks.others, asks.written, refl)
third_word (word.File command) (name, asks) = (asks.disk, asks.air, word_of command, asks.others, asks.written, refl)
third_word word.PfhMake (body, kept, spec, asks) = (asks.disk, asks.air, codes "pfh-make", asks.others, asks.written, refl)
third_word word.PfhBody (name, kept, asks) = (asks.disk, asks.air, codes "pfh-body", asks.others, asks.written, refl)
third_word word.Rehearse (inl (name, asks)) = (asks.disk, asks.air, codes "rehearse", asks.others, asks.written, refl)
third_word word.Rehearse (inr (seed, count, asks)) = (asks.disk, asks.air, codes "rehearse", asks.others, asks.written, refl)

pub command_in : {words : List Text} {d a c : Text} {others : List Text} → words ≡ d ∷ a ∷ c ∷ others → (command : CommandWord) → AreOf command words
    → IsCommandOf c command
command_in {c = c} whole command asks =
    let (disk, air, third, rest, written, is) = third_word command asks in
    let same : third ≡ c = cc in
    subst (λ (t : Text). IsCommandOf t command) same is

-- the command that a word names, if it names one
abbrev pub named_by : Text → Option CommandWord
named_by c =
    cond (bytes_eq c (codes "session")) (Some word.Session)
    (cond (bytes_eq c (codes "serve")) (Some word.Serve)
    (cond (bytes_eq c (codes "send")) (Some (word.Client client.Send))
    (cond (bytes_eq c (codes "fetch")) (Some (word.Client client.Fetch))
    (cond (bytes_eq c (codes "list")) (Some (word.Client client.List))
    (cond (bytes_eq c (codes "frames")) (Some (word.File Frames))
    (cond (bytes_eq c (codes "pfh-check")) (Some (word.File Check))
    (cond (bytes_eq c (codes "pfh-show")) (Some (word.File Show))
    (cond (bytes_eq c (codes "pfh-make")) (Some word.PfhMake)
    (cond (bytes_eq c (codes "pfh-body")) (Some word.PfhBody)
    (cond (bytes_eq c (codes "rehearse")) (Some word.Rehearse) None))))))))))

pub names : (c : Text) (command : CommandWord) → IsCommandOf c command → named_by c ≡ Some command
names c word.Session is = ap named_by is
names c word.Serve is = ap named_by is
names c (word.Client client.Send) is = ap named_by is
names c (word.Client client.Fetch) is = ap named_by is
names c (word.Client client.List) is = ap named_by is
names c (word.File Frames) is = ap named_by is
names c (word.File Check) is = ap named_by is
names c (word.File Show) is = ap named_by is
names c word.PfhMake is = ap named_by is
names c word.PfhBody is = ap named_by is
names c word.Rehearse is = ap named_by is

one_command : (c : Text) (one other : CommandWord) → IsCommandOf c one → IsCommandOf c other → one ≡ other
one_command c one other is also = let same : Some one ≡ Some other = sym (names c one is) ∙ names c other also in cc

-- Words are those of one command.
pub not_both : (words : List Text) (one other : CommandWord) → (one ≡ other → ⊥) → AreOf one words → AreOf other words → ⊥
not_both words one other differ asks also =
    let (disk, air, c, others, whole, is) = third_word one asks in
    differ (one_command c one other is (command_in whole other also))

-- Words aren't in the command set where their command has no such words,
usage_of : {words : List Text} {d a c : Text} {others : List Text} (command : CommandWord) → IsCommandOf c command → words ≡ d ∷ a ∷ c ∷ others
    → (AreOf command (d ∷ a ∷ c ∷ others) → ⊥) → IsUsage words
usage_of {words = words} {c = c} command is whole none set =
    let (other, asks) = of_set set in
    let same : other ≡ command = one_command c other command (command_in whole other asks) is in
    none (subst (AreOf command) whole (subst (λ (k : CommandWord). AreOf k words) same asks))

pub session_usage : {words : List Text} {d a : Text} {others : List Text} → words ≡ d ∷ a ∷ codes "session" ∷ others
    → (AsksSession (d ∷ a ∷ codes "session" ∷ others) → ⊥) → IsUsage words
session_usage whole none = usage_of word.Session refl whole none

pub serve_usage : {words : List Text} {d a : Text} {others : List Text} → words ≡ d ∷ a ∷ codes "serve" ∷ others
    → (AsksServe (d ∷ a ∷ codes "serve" ∷ others) → ⊥) → IsUsage words
serve_usage whole none = usage_of word.Serve refl whole none

pub client_usage : (command : ClientCommand) {words : List Text} {d a : Text} {others : List Text} → words ≡ d ∷ a ∷ client_word command ∷ others
    → (AsksBy command (d ∷ a ∷ client_word command ∷ others) → ⊥) → IsUsage words
client_usage command whole none = usage_of (word.Client command) refl whole none

pub name_usage : (command : FileCommand) {words : List Text} {d a : Text} {others : List Text} → words ≡ d ∷ a ∷ word_of command ∷ others
    → ((name : Text) → IsNamed (word_of command) (d ∷ a ∷ word_of command ∷ others) name → ⊥) → IsUsage words
name_usage command whole none = usage_of (word.File command) refl whole (λ (name, asks). none name asks)

pub make_usage : {words : List Text} {d a : Text} {others : List Text} → words ≡ d ∷ a ∷ codes "pfh-make" ∷ others
    → ((body kept : Text) (spec : MakeValue) → IsMake (d ∷ a ∷ codes "pfh-make" ∷ others) body kept spec → ⊥) → IsUsage words
make_usage whole none = usage_of word.PfhMake refl whole (λ (body, kept, spec, asks). none body kept spec asks)

pub body_usage : {words : List Text} {d a : Text} {others : List Text} → words ≡ d ∷ a ∷ codes "pfh-body" ∷ others
    → ((name kept : Text) → IsBody (d ∷ a ∷ codes "pfh-body" ∷ others) name kept → ⊥) → IsUsage words
body_usage whole none = usage_of word.PfhBody refl whole (λ (name, kept, asks). none name kept asks)

pub rehearse_usage : {words : List Text} {d a : Text} {others : List Text} → words ≡ d ∷ a ∷ codes "rehearse" ∷ others
    → (AsksRehearse (d ∷ a ∷ codes "rehearse" ∷ others) → ⊥) → IsUsage words
rehearse_usage whole none = usage_of word.Rehearse refl whole none

-- nor where their command is none
pub no_command_usage : {words : List Text} {d a c : Text} {others : List Text} → words ≡ d ∷ a ∷ c ∷ others
    → ((command : CommandWord) → IsCommandOf c command → ⊥) → IsUsage words
no_command_usage whole none set = let (command, asks) = of_set set in none command (command_in whole command asks)

-- ---- what a header is made of

-- another line of the same words says the same
pub make_says : {others : List Text} {body kept : Text} {spec : MakeValue} → MakeText body kept spec others → (line : Line make_options others 2)
    → (line_places line ≡ body ∷ kept ∷ []) × MakeSays (options_given (line_value line)) spec
make_says {body = body} {kept = kept} {spec = spec} text line =
    of_line make_options (codes "body" ∷ codes "kept" ∷ []) refl refl (λ places value. (places ≡ body ∷ kept ∷ []) × MakeSays (options_given value) spec)
    text.line line (text.places, text.says)

-- what a line gives is what its words mean
pub make_agrees : {others : List Text} {texts : MakeTexts} {body kept : Text} {spec : MakeValue} → MakeLine texts others → MakeText body kept spec others
    → MakeSays (options_read texts) spec
make_agrees {spec = spec} line text = subst (λ (options : MakeOptions). MakeSays options spec) line.options (make_says text line.line).1

pub make_from : {others : List Text} {texts : MakeTexts} (body kept : Text) (spec : MakeValue) → MakeLine texts others
    → body ≡ texts.body.now → kept ≡ texts.kept.now → MakeSays (options_read texts) spec → spec_refusal spec ≡ None → MakeText body kept spec others
make_from body kept spec line body_is kept_is says possible = record {
  line = line.line;
  places = line.places ∙ ap₂ (λ (b k : Text). b ∷ k ∷ []) (sym body_is) (sym kept_is);
  says = subst (λ (options : MakeOptions). MakeSays options spec) (sym line.options) says;
  possible = possible;
}

-- an option's number is one
pub number_one : (otherwise low high : ℕ) (value : Option Text) (one other : ℕ) → IsNumberOr otherwise low high value one → IsNumberOr otherwise low high value other
    → one ≡ other
number_one otherwise low high None one other e f = e ∙ sym f
number_one otherwise low high (Some text) one other is is2 = is.value ∙ sym is2.value

-- what is said is one thing
pub says_one : (options : MakeOptions) (one other : MakeValue) → MakeSays options one → MakeSays options other → one ≡ other
says_one options one other says also =
    let names : Some one.name ≡ Some other.name = sym says.name ∙ also.name in
    let name : one.name ≡ other.name = cc in
    let ext : one.ext ≡ other.ext = sym says.ext ∙ also.ext in
    let file_type : one.file_type ≡ other.file_type = number_one 0 0 255 options.file_type one.file_type other.file_type says.file_type also.file_type in
    let time : one.time ≡ other.time = number_one 0 0 4294967295 options.time one.time other.time says.time also.time in
    let source : one.source ≡ other.source = sym says.source ∙ also.source in
    let destination : one.destination ≡ other.destination = sym says.destination ∙ also.destination in
    let title : one.title ≡ other.title = sym says.title ∙ also.title in
    λ i. record {
      name = name i;
      ext = ext i;
      file_type = file_type i;
      time = time i;
      source = source i;
      destination = destination i;
      title = title i;
    }
