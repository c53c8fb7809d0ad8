-- Each list of words has one meaning.
use Rattle.std.proofs.Common.{◌≡◌, ◌≤◌, ◌⊎◌, ℕ, List, [], ◌∷◌, length, Option, None, Some, refl, sym, ap, ◌∙◌, subst, arith, inl, inr, codes, false, true≢false}
use Rattle.command_words.specs.declared.command.ClientCommand.TheVariants as client
use Rattle.command_words.specs.declared.command.CommandWord.TheVariants as word
use Rattle.command_words.specs.declared.request.SessionRequest.{SessionRequest}
use Rattle.command_words.specs.declared.serve.ServeRequest.{ServeRequest}
use Rattle.command_words.proofs.Names.{bytes_eq, cases_Bool, CallSign, CallText, AsksBy, IsCommandOf, client_word, word_of, ClientCommand, CommandWord, FileCommand, Check, Frames, Show, IsDiskOf, DiskWord, line_value, AsksFrames, AsksServe, AsksSession, Determined, OnlyBody, OnlyMake, OnlyOne, options_given, GivesNumber, default_blocks, default_k, default_polls, AsksClient, AsksHeader, AsksRehearse, CallGiven, IsAir, IsNamed, IsServe, IsSession, IsUsage, NameText, NeedsAir, NeedsNeither}
use Rattle.command_words.proofs.Uses.{Text, text_eq, text_same}
use Rattle.command_words.proofs.Meanings.{AreOf, air_from, air_in, air_text, body_usage, client_usage, disk_in, disk_of, make_says, make_usage, name_usage, neither_from, neither_text, no_command_usage, not_both, number_one, of_set, one_disk, rehearse_usage, same_call, same_places, says_one, serve_given, serve_usage, session_given, session_usage, third_word}
use Rattle.command_words.proofs.ClientTexts.{by_decided, fetch_same, list_same, send_same}
use Rattle.command_words.proofs.RehearseTexts.{drawn_decided, drawn_same, name_drawn, rehearse_form, rehearse_text}
use Rattle.command_words.proofs.Decided.{Decided, air_decided, body_decided, file_decided, make_decided, name_decided, serve_decided, session_decided}

-- ---- two lines

gives_same : (low high : ℕ) (value : Option Text) (one two : Option ℕ) → GivesNumber low high value one → GivesNumber low high value two → one ≡ two
gives_same low high value None None e f = refl
gives_same low high value None (Some n) e (text, f, is) = let no : None ≡ Some text = sym e ∙ f in absurd cc
gives_same low high value (Some m) None (text, e, is) f = let no : Some text ≡ None = sym e ∙ f in absurd cc
gives_same low high value (Some m) (Some n) (text, e, is) (other, f, is2) =
    let both : Some text ≡ Some other = sym e ∙ f in
    let same : text ≡ other = cc in
    let number : m ≡ n = is.value ∙ ap (Rattle.command_words.specs.Numbers.number_after 0) same ∙ sym is2.value in
    ap (λ (k : ℕ). Some k) number

-- what a place and options give is one call, one number of blocks and one of polls
given_same : {places : List Text} {value : Text → Option Text} {one other : CallSign} {blocks blocks2 polls polls2 : ℕ}
    → CallGiven places value one blocks polls → CallGiven places value other blocks2 polls2 → (one ≡ other) × (blocks ≡ blocks2) × (polls ≡ polls2)
given_same {one = one} {other = other} {blocks = blocks} {blocks2 = blocks2} {polls = polls} {polls2 = polls2} first second =
    let both : first.call_text ∷ [] ≡ second.call_text ∷ [] = sym first.place ∙ second.place in
    let text : first.call_text ≡ second.call_text = cc in (
      same_call one other second.call_text (subst (λ (t : Text). CallText one t) text first.called) second.called,
      number_one default_blocks 1 65536 _ blocks blocks2 first.blocks_given second.blocks_given,
      number_one default_polls 1 18446744073709551615 _ polls polls2 first.polls_given second.polls_given,
    )

-- words of one command that needs an air are its others, whatever is said of them, and DISK names one disk
air_same : {command : Text} {which which2 : DiskWord} {P Q : List Text → Type 0} {words : List Text} → NeedsAir command which P words → NeedsAir command which2 Q words
    → (which ≡ which2) × ((others : List Text) × P others × Q others)
air_same {which = which} {which2 = which2} {Q = Q} one two =
    let e = one.written in
    let f = two.written in
    let same : two.others ≡ one.others = cc in
    let disks : one.disk ≡ two.disk = cc in
    let disk = one_disk two.disk which which2 (subst (λ (t : Text). IsDiskOf t which) disks one.disk_named) two.disk_named in
    (disk, (one.others, one.text, subst Q same two.text))

-- two sessions of the same words are one
session_same : {words : List Text} (asked other : SessionRequest) → IsSession words asked → IsSession words other → asked ≡ other
session_same asked other one two =
    let (disk, (others, first, second)) = air_same one two in
    let (given, moment_given) = session_given second first.line in
    let (callers, blocks, polls) = given_same first.given given in
    let moments = gives_same 0 4294967295 _ asked.moment other.moment first.moment_given moment_given in
    λ i. record { disk = disk i; caller = callers i; moment = moments i; blocks = blocks i; polls = polls i }

-- and two services
serve_same : {words : List Text} (asked other : ServeRequest) → IsServe words asked → IsServe words other → asked ≡ other
serve_same asked other one two =
    let (disk, (others, first, second)) = air_same one two in
    let (given, k_given) = serve_given second first.line in
    let (calls, blocks, polls) = given_same first.given given in
    let ks = number_one default_k 1 7 _ asked.k other.k first.k_given k_given in
    λ i. record { me = calls i; k = ks i; blocks = blocks i; polls = polls i }

-- ---- only one meaning

-- words that ask for a header are of no other command
header_apart : (words : List Text) (other : CommandWord) → (other ≡ word.File Check → ⊥) → (other ≡ word.File Show → ⊥) → (other ≡ word.PfhMake → ⊥)
    → (other ≡ word.PfhBody → ⊥) → AreOf other words → AsksHeader words → ⊥
header_apart words other no_check no_show no_make no_body asks (inl check) = not_both words other (word.File Check) no_check asks check
header_apart words other no_check no_show no_make no_body asks (inr (inl show)) = not_both words other (word.File Show) no_show asks show
header_apart words other no_check no_show no_make no_body asks (inr (inr (inl make))) = not_both words other word.PfhMake no_make asks make
header_apart words other no_check no_show no_make no_body asks (inr (inr (inr body))) = not_both words other word.PfhBody no_body asks body

-- words that ask for something of a client are of no other command
client_apart : (words : List Text) (other : CommandWord) → ((command : ClientCommand) → other ≡ word.Client command → ⊥) → AreOf other words → AsksClient words → ⊥
client_apart words other differ asks (inl send) = not_both words other (word.Client client.Send) (differ client.Send) asks send
client_apart words other differ asks (inr (inl fetch)) = not_both words other (word.Client client.Fetch) (differ client.Fetch) asks fetch
client_apart words other differ asks (inr (inr list)) = not_both words other (word.Client client.List) (differ client.List) asks list

-- nor for a header
client_headers : (words : List Text) → AsksClient words → AsksHeader words → ⊥
client_headers words client (inl check) = client_apart words (word.File Check) (λ command same. cc) check client
client_headers words client (inr (inl show)) = client_apart words (word.File Show) (λ command same. cc) show client
client_headers words client (inr (inr (inl make))) = client_apart words word.PfhMake (λ command same. cc) make client
client_headers words client (inr (inr (inr body))) = client_apart words word.PfhBody (λ command same. cc) body client

-- words of one command are its others, whatever is said of them
neither_same : {command : Text} {P Q : List Text → Type 0} {words : List Text} → NeedsNeither command P words → NeedsNeither command Q words
    → (others : List Text) × P others × Q others
neither_same {Q = Q} one two =
    let e = one.written in
    let f = two.written in
    let same : two.others ≡ one.others = cc in
    (one.others, one.text, subst Q same two.text)

pub only_one : (words : List Text) → OnlyOne words
only_one words = record {
  usage_session = λ usage session. usage (inl session);
  usage_serve = λ usage serve. usage (inr (inl serve));
  usage_client = λ usage client. usage (inr (inr (inl client)));
  usage_frames = λ usage frames. usage (inr (inr (inr (inl frames))));
  usage_header = λ usage header. usage (inr (inr (inr (inr (inl header)))));
  usage_rehearse = λ usage rehearse. usage (inr (inr (inr (inr (inr rehearse)))));
  session_serve = λ session serve. not_both words word.Session word.Serve (λ same. cc) session serve;
  session_client = λ session client. client_apart words word.Session (λ command same. cc) session client;
  session_frames = λ session frames. not_both words word.Session (word.File Frames) (λ same. cc) session frames;
  session_header = λ session header. header_apart words word.Session (λ same. cc) (λ same. cc) (λ same. cc) (λ same. cc) session header;
  session_rehearse = λ session rehearse. not_both words word.Session word.Rehearse (λ same. cc) session rehearse;
  serve_client = λ serve client. client_apart words word.Serve (λ command same. cc) serve client;
  serve_frames = λ serve frames. not_both words word.Serve (word.File Frames) (λ same. cc) serve frames;
  serve_header = λ serve header. header_apart words word.Serve (λ same. cc) (λ same. cc) (λ same. cc) (λ same. cc) serve header;
  serve_rehearse = λ serve rehearse. not_both words word.Serve word.Rehearse (λ same. cc) serve rehearse;
  client_frames = λ client frames. client_apart words (word.File Frames) (λ command same. cc) frames client;
  client_header = λ client header. client_headers words client header;
  client_rehearse = λ client rehearse. client_apart words word.Rehearse (λ command same. cc) rehearse client;
  frames_header = λ frames header. header_apart words (word.File Frames) (λ same. cc) (λ same. cc) (λ same. cc) (λ same. cc) frames header;
  frames_rehearse = λ frames rehearse. not_both words (word.File Frames) word.Rehearse (λ same. cc) frames rehearse;
  header_rehearse = λ header rehearse. header_apart words word.Rehearse (λ same. cc) (λ same. cc) (λ same. cc) (λ same. cc) rehearse header;
  send_fetch = λ send fetch. not_both words (word.Client client.Send) (word.Client client.Fetch) (λ same. cc) send fetch;
  send_list = λ send list. not_both words (word.Client client.Send) (word.Client client.List) (λ same. cc) send list;
  fetch_list = λ fetch list. not_both words (word.Client client.Fetch) (word.Client client.List) (λ same. cc) fetch list;
  check_show = λ name other check show. not_both words (word.File Check) (word.File Show) (λ same. cc) (name, check) (other, show);
  check_make = λ name body kept spec check make. not_both words (word.File Check) word.PfhMake (λ same. cc) (name, check) (body, kept, spec, make);
  show_make = λ name body kept spec show make. not_both words (word.File Show) word.PfhMake (λ same. cc) (name, show) (body, kept, spec, make);
  check_body = λ name other kept check body. not_both words (word.File Check) word.PfhBody (λ same. cc) (name, check) (other, kept, body);
  show_body = λ name other kept show body. not_both words (word.File Show) word.PfhBody (λ same. cc) (name, show) (other, kept, body);
  make_body = λ body kept name other spec make is. not_both words word.PfhMake word.PfhBody (λ same. cc) (body, kept, spec, make) (name, other, is);
  rehearsal_drawn = λ name seed count named drawn. let (others, first, second) = neither_same named drawn in name_drawn name seed count first second;
}

-- ---- determined

-- words have one NAME
name_same : {others : List Text} (name other : Text) → NameText name others → NameText other others → name ≡ other
name_same name other one two =
    let same : name ∷ [] ≡ other ∷ [] = sym one.place ∙ same_places [] (codes "name" ∷ []) refl refl one.line two.line ∙ two.place in
    cc

named_same : (command : Text) (words : List Text) (name other : Text) → IsNamed command words name → IsNamed command words other → name ≡ other
named_same command words name other one two =
    let (others, first, second) = neither_same one two in
    name_same name other first second

-- words of `pfh-make` make one file
make_same : (words : List Text) → OnlyMake words
make_same words body other kept another spec later one two =
    let (others, first, second) = neither_same one two in
    let (places, says) = make_says second first.line in
    let both : body ∷ kept ∷ [] ≡ other ∷ another ∷ [] = sym first.places ∙ places in
    let bodies : body ≡ other = cc in
    let names : kept ≡ another = cc in
    (bodies, names, says_one (options_given (line_value first.line)) spec later first.says says)

-- and those of `pfh-body` ask for one body
body_same : (words : List Text) → OnlyBody words
body_same words name other kept another one two =
    let (others, first, second) = neither_same one two in
    let both : name ∷ kept ∷ [] ≡ other ∷ another ∷ [] = sym first.places ∙ same_places [] (codes "name" ∷ codes "out" ∷ []) refl refl first.line second.line ∙ second.places in
    (cc, cc)

pub determined : (words : List Text) → Determined words
determined words = record {
  session = λ asked other one two. session_same asked other one two;
  serve = λ asked other one two. serve_same asked other one two;
  send = λ terms other name another one two. let (disk, (others, first, second)) = air_same one two in send_same first second;
  fetch = λ terms other number more name another one two. let (disk, (others, first, second)) = air_same one two in fetch_same first second;
  list = λ terms other tokens more one two. let (disk, (others, first, second)) = air_same one two in list_same first second;
  frames = λ name other one two. named_same (codes "frames") words name other one two;
  check = λ name other one two. named_same (codes "pfh-check") words name other one two;
  show = λ name other one two. named_same (codes "pfh-show") words name other one two;
  make = λ body other kept another spec later one two. make_same words body other kept another spec later one two;
  body = λ name other kept another one two. body_same words name other kept another one two;
  rehearsal = λ name other one two. named_same (codes "rehearse") words name other one two;
  drawn = λ seed other count more one two. let (others, first, second) = neither_same one two in drawn_same first second;
}

-- ---- some meaning

abbrev Meant : List Text → Type 0
Meant words = IsUsage words ⊎ (AsksSession words ⊎ (AsksServe words ⊎ (AsksClient words ⊎ (AsksFrames words ⊎ (AsksHeader words ⊎ AsksRehearse words)))))

-- too few words
few : (words : List Text) → length words ≤ 2 → IsUsage words
few words short set =
    let (command, asks) = of_set set in
    let (disk, air, third, others, whole, is) = third_word command asks in
    omega (arith, ap length whole)

session_meant : (disk air : Text) (others : List Text) → Meant (disk ∷ air ∷ codes "session" ∷ others)
session_meant disk air others = elim (session_decided others) [
  | inr none ↦ inl (session_usage refl (λ (asked, asks). none (asked.caller, asked.moment, asked.blocks, asked.polls, air_text asks)))
  | inl (caller, moment, blocks, polls, text) ↦ elim (air_decided air) [
    | inr none ↦ inl (session_usage refl (λ (asked, asks). none (air_in asks)))
    | inl form ↦
        let (which, named) = disk_of disk in
        inr (inl (record { disk = which; caller = caller; moment = moment; blocks = blocks; polls = polls }, air_from disk air others named form text))
  ]
]

serve_meant : (disk air : Text) (others : List Text) → Meant (disk ∷ air ∷ codes "serve" ∷ others)
serve_meant disk air others = elim (serve_decided others) [
  | inr none ↦ inl (serve_usage refl (λ (asked, asks). none (asked.me, asked.k, asked.blocks, asked.polls, air_text asks)))
  | inl (me, k, blocks, polls, text) ↦ elim (air_decided air) [
    | inr none ↦ inl (serve_usage refl (λ (asked, asks). none (air_in asks)))
    | inl form ↦ elim (file_decided disk) [
      | inr none ↦ inl (serve_usage refl (λ (asked, asks). none (disk_in asks)))
      | inl named ↦ inr (inr (inl (record { me = me; k = k; blocks = blocks; polls = polls }, air_from disk air others named form text)))
    ]
  ]
]

by_asks : {words : List Text} (command : ClientCommand) → AsksBy command words → AsksClient words
by_asks client.Send asks = inl asks
by_asks client.Fetch asks = inr (inl asks)
by_asks client.List asks = inr (inr asks)

-- words of a client's command
client_meant : (command : ClientCommand) (disk air : Text) (others : List Text) → Meant (disk ∷ air ∷ client_word command ∷ others)
client_meant command disk air others = elim (by_decided command disk air others) [
  | inl asks ↦ inr (inr (inr (inl (by_asks command asks))))
  | inr none ↦ inl (client_usage command refl none)
]

-- AIR has one of its forms
form_decided : (air : Text) → Decided ((air ≡ codes "none") ⊎ IsAir air)
form_decided air = elim (air_decided air) [
  | inl form ↦ inl (inr form)
  | inr none ↦ elim (cases_Bool (bytes_eq air (codes "none"))) [
    | inl nothing ↦ inl (inl (text_same air (codes "none") nothing))
    | inr other ↦ inr (λ is. elim is [
      | inl same ↦ true≢false (sym (text_eq air (codes "none") same) ∙ other)
      | inr an_air ↦ none an_air
    ])
  ]
]

-- words of a command with a name
named_meant : (command : FileCommand) (disk air : Text) (others : List Text)
    → ((name : Text) → IsNamed (word_of command) (disk ∷ air ∷ word_of command ∷ others) name → Meant (disk ∷ air ∷ word_of command ∷ others))
    → Meant (disk ∷ air ∷ word_of command ∷ others)
named_meant command disk air others asked = elim (name_decided others) [
  | inr none ↦ inl (name_usage command refl (λ name asks. none (name, (neither_text asks).0)))
  | inl (name, text) ↦ elim (form_decided air) [
    | inl is ↦ asked name (neither_from disk air others is text)
    | inr none ↦ inl (name_usage command refl (λ other asks. none (neither_text asks).1))
  ]
]

command_meant : (command : FileCommand) (disk air : Text) (others : List Text) → Meant (disk ∷ air ∷ word_of command ∷ others)
command_meant Frames disk air others = named_meant Frames disk air others (λ name asks. inr (inr (inr (inr (inl (name, asks))))))
command_meant Check disk air others = named_meant Check disk air others (λ name asks. inr (inr (inr (inr (inr (inl (inl (name, asks))))))))
command_meant Show disk air others = named_meant Show disk air others (λ name asks. inr (inr (inr (inr (inr (inl (inr (inl (name, asks)))))))))

make_meant : (disk air : Text) (others : List Text) → Meant (disk ∷ air ∷ codes "pfh-make" ∷ others)
make_meant disk air others = elim (make_decided others) [
  | inr none ↦ inl (make_usage refl (λ body kept spec asks. none (body, kept, spec, (neither_text asks).0)))
  | inl (body, kept, spec, text) ↦ elim (form_decided air) [
    | inl is ↦ inr (inr (inr (inr (inr (inl (inr (inr (inl (body, kept, spec, neither_from disk air others is text)))))))))
    | inr none ↦ inl (make_usage refl (λ b k other asks. none (neither_text asks).1))
  ]
]

body_meant : (disk air : Text) (others : List Text) → Meant (disk ∷ air ∷ codes "pfh-body" ∷ others)
body_meant disk air others = elim (body_decided others) [
  | inr none ↦ inl (body_usage refl (λ name kept asks. none (name, kept, (neither_text asks).0)))
  | inl (name, kept, text) ↦ elim (form_decided air) [
    | inl is ↦ inr (inr (inr (inr (inr (inl (inr (inr (inr (name, kept, neither_from disk air others is text)))))))))
    | inr none ↦ inl (body_usage refl (λ n k asks. none (neither_text asks).1))
  ]
]

-- words of `rehearse` with a NAME, or with the two options
rehearse_meant : (disk air : Text) (others : List Text) → Meant (disk ∷ air ∷ codes "rehearse" ∷ others)
rehearse_meant disk air others = elim (form_decided air) [
  | inr none ↦ inl (rehearse_usage refl (λ asks. none (rehearse_form asks)))
  | inl form ↦ elim (name_decided others) [
    | inl (name, text) ↦ inr (inr (inr (inr (inr (inr (inl (name, neither_from disk air others form text)))))))
    | inr no_name ↦ elim (drawn_decided others) [
      | inl (seed, count, text) ↦ inr (inr (inr (inr (inr (inr (inr (seed, count, neither_from disk air others form text)))))))
      | inr no_draws ↦ inl (rehearse_usage refl (λ asks. rehearse_text asks (λ name text. no_name (name, text)) (λ seed count text. no_draws (seed, count, text))))
    ]
  ]
]

-- a word names a client's command or none
client_word_decided : (c : Text) → Decided ((command : ClientCommand) × (c ≡ client_word command))
client_word_decided c = elim (cases_Bool (bytes_eq c (codes "send"))) [
  | inl is ↦ inl (client.Send, text_same c (codes "send") is)
  | inr no_send ↦ elim (cases_Bool (bytes_eq c (codes "fetch"))) [
    | inl is ↦ inl (client.Fetch, text_same c (codes "fetch") is)
    | inr no_fetch ↦ elim (cases_Bool (bytes_eq c (codes "list"))) [
      | inl is ↦ inl (client.List, text_same c (codes "list") is)
      | inr no_list ↦ inr (λ (command, is). none command is no_send no_fetch no_list)
    ]
  ]
]
  where
    none : (command : ClientCommand) → c ≡ client_word command → bytes_eq c (codes "send") ≡ false → bytes_eq c (codes "fetch") ≡ false
        → bytes_eq c (codes "list") ≡ false → ⊥
    none client.Send is no_send no_fetch no_list = true≢false (sym (text_eq c (codes "send") is) ∙ no_send)
    none client.Fetch is no_send no_fetch no_list = true≢false (sym (text_eq c (codes "fetch") is) ∙ no_fetch)
    none client.List is no_send no_fetch no_list = true≢false (sym (text_eq c (codes "list") is) ∙ no_list)

-- or one with a name, or none
name_word_decided : (c : Text) → Decided ((command : FileCommand) × (c ≡ word_of command))
name_word_decided c = elim (cases_Bool (bytes_eq c (codes "frames"))) [
  | inl is ↦ inl (Frames, text_same c (codes "frames") is)
  | inr no_frames ↦ elim (cases_Bool (bytes_eq c (codes "pfh-check"))) [
    | inl is ↦ inl (Check, text_same c (codes "pfh-check") is)
    | inr no_check ↦ elim (cases_Bool (bytes_eq c (codes "pfh-show"))) [
      | inl is ↦ inl (Show, text_same c (codes "pfh-show") is)
      | inr no_show ↦ inr (λ (command, is). none command is no_frames no_check no_show)
    ]
  ]
]
  where
    none : (command : FileCommand) → c ≡ word_of command → bytes_eq c (codes "frames") ≡ false → bytes_eq c (codes "pfh-check") ≡ false
        → bytes_eq c (codes "pfh-show") ≡ false → ⊥
    none Frames is no_frames no_check no_show = true≢false (sym (text_eq c (codes "frames") is) ∙ no_frames)
    none Check is no_frames no_check no_show = true≢false (sym (text_eq c (codes "pfh-check") is) ∙ no_check)
    none Show is no_frames no_check no_show = true≢false (sym (text_eq c (codes "pfh-show") is) ∙ no_show)

-- each word names a command or none
command_decided : (c : Text) → Decided ((command : CommandWord) × IsCommandOf c command)
command_decided c = elim (cases_Bool (bytes_eq c (codes "rehearse"))) [
  | inl is ↦ inl (word.Rehearse, text_same c (codes "rehearse") is)
  | inr no_rehearsal ↦ elim (cases_Bool (bytes_eq c (codes "session"))) [
    | inl is ↦ inl (word.Session, text_same c (codes "session") is)
    | inr no_session ↦ elim (cases_Bool (bytes_eq c (codes "serve"))) [
      | inl is ↦ inl (word.Serve, text_same c (codes "serve") is)
      | inr no_serve ↦ elim (cases_Bool (bytes_eq c (codes "pfh-make"))) [
        | inl is ↦ inl (word.PfhMake, text_same c (codes "pfh-make") is)
        | inr no_make ↦ elim (cases_Bool (bytes_eq c (codes "pfh-body"))) [
          | inl is ↦ inl (word.PfhBody, text_same c (codes "pfh-body") is)
          | inr no_body ↦ elim (client_word_decided c) [
            | inl (command, is) ↦ inl (word.Client command, is)
            | inr no_client ↦ elim (name_word_decided c) [
              | inl (command, is) ↦ inl (word.File command, is)
              | inr no_name ↦ inr (λ (command, is). none command is no_rehearsal no_session no_serve no_make no_body no_client no_name)
            ]
          ]
        ]
      ]
    ]
  ]
]
  where
    none : (command : CommandWord) → IsCommandOf c command → bytes_eq c (codes "rehearse") ≡ false → bytes_eq c (codes "session") ≡ false
        → bytes_eq c (codes "serve") ≡ false → bytes_eq c (codes "pfh-make") ≡ false → bytes_eq c (codes "pfh-body") ≡ false → ((command : ClientCommand) × (c ≡ client_word command) → ⊥)
        → ((command : FileCommand) × (c ≡ word_of command) → ⊥) → ⊥
    none word.Session is no_rehearsal no_session no_serve no_make no_body no_client no_name = true≢false (sym (text_eq c (codes "session") is) ∙ no_session)
    none word.Serve is no_rehearsal no_session no_serve no_make no_body no_client no_name = true≢false (sym (text_eq c (codes "serve") is) ∙ no_serve)
    none (word.Client command) is no_rehearsal no_session no_serve no_make no_body no_client no_name = no_client (command, is)
    none (word.File command) is no_rehearsal no_session no_serve no_make no_body no_client no_name = no_name (command, is)
    none word.PfhMake is no_rehearsal no_session no_serve no_make no_body no_client no_name = true≢false (sym (text_eq c (codes "pfh-make") is) ∙ no_make)
    none word.PfhBody is no_rehearsal no_session no_serve no_make no_body no_client no_name = true≢false (sym (text_eq c (codes "pfh-body") is) ∙ no_body)
    none word.Rehearse is no_rehearsal no_session no_serve no_make no_body no_client no_name = true≢false (sym (text_eq c (codes "rehearse") is) ∙ no_rehearsal)

meant_by : (d a c : Text) (others : List Text) (command : CommandWord) → IsCommandOf c command → Meant (d ∷ a ∷ c ∷ others)
meant_by d a c others word.Session is = subst (λ (t : Text). Meant (d ∷ a ∷ t ∷ others)) (sym is) (session_meant d a others)
meant_by d a c others word.Serve is = subst (λ (t : Text). Meant (d ∷ a ∷ t ∷ others)) (sym is) (serve_meant d a others)
meant_by d a c others (word.Client command) is = subst (λ (t : Text). Meant (d ∷ a ∷ t ∷ others)) (sym is) (client_meant command d a others)
meant_by d a c others (word.File command) is = subst (λ (t : Text). Meant (d ∷ a ∷ t ∷ others)) (sym is) (command_meant command d a others)
meant_by d a c others word.PfhMake is = subst (λ (t : Text). Meant (d ∷ a ∷ t ∷ others)) (sym is) (make_meant d a others)
meant_by d a c others word.PfhBody is = subst (λ (t : Text). Meant (d ∷ a ∷ t ∷ others)) (sym is) (body_meant d a others)
meant_by d a c others word.Rehearse is = subst (λ (t : Text). Meant (d ∷ a ∷ t ∷ others)) (sym is) (rehearse_meant d a others)

pub has_meaning : (words : List Text) → Meant words
has_meaning [] = inl (few [] (omega arith))
has_meaning (d ∷ []) = inl (few (d ∷ []) (omega arith))
has_meaning (d ∷ a ∷ []) = inl (few (d ∷ a ∷ []) (omega arith))
has_meaning (d ∷ a ∷ c ∷ others) = elim (command_decided c) [
  | inl (command, is) ↦ meant_by d a c others command is
  | inr none ↦ inl (no_command_usage refl (λ command is. none (command, is)))
]
