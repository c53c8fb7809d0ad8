-- Which events may have words that begin so.
use Rattle.std.proofs.Common.{◌≡◌, ◌≢◌, ℕ, ◌<◌, ◌≤◌, ◌^◌, false, cond, List, [], ◌∷◌, ◌++◌, codes, decimal, bytes_eq, get_or, ap, sym, ◌∙◌, refl, arith}
use Rattle.air_schedule.proofs.Names.{decimal_injective, decode_of, decode_of-same, Event, ask_download, ask_list, ask_resume, ask_upload, break_client, cut_client, cut_server, tick_client, tick_server, to_client, to_server, EventText, EventWords, words_of}
use Rattle.air_schedule.proofs.WordLemmas.{no_station, other_words, sole_word}

-- the words of a line that are the same for all events of a kind
abbrev pub sign : List (List ℕ) → List ℕ
sign words =
    get_or words 0 [] ++ cond (bytes_eq (get_or words 0 []) (codes "ask")) (get_or words 2 [])
    (cond (bytes_eq (get_or words 0 []) (codes "air")) (get_or words 1 []) [])

abbrev pub sign_of : Event → List ℕ
sign_of (ask_upload c count) = codes "askupload"
sign_of (ask_resume c) = codes "askresume"
sign_of (ask_list c tokens) = codes "asklist"
sign_of (ask_download c number) = codes "askdownload"
sign_of (to_server c number) = codes "airserver"
sign_of (to_client c number) = codes "airclient"
sign_of tick_server = codes "tick"
sign_of (tick_client c) = codes "tick"
sign_of (break_client c) = codes "break"
sign_of (cut_server call choice) = codes "cut"
sign_of (cut_client c call choice) = codes "cut"

pub signs : (event : Event) (words : List (List ℕ)) → EventWords event words → sign words ≡ sign_of event
signs (ask_upload c count) words h = ap sign h.2
signs (ask_resume c) words h = ap sign h.1
signs (ask_list c tokens) words h = ap sign h.3
signs (ask_download c number) words h = ap sign h.2
signs (to_server c number) words h = ap sign h.2
signs (to_client c number) words h = ap sign h.2
signs tick_server words h = ap sign h
signs (tick_client c) words h = ap sign h.1
signs (break_client c) words h = ap sign h.1
signs (cut_server call choice) words h = ap sign h.2
signs (cut_client c call choice) words h = ap sign h.3

-- a cut isn't at call 0
pub zero_cut : (event : Event) (station : List ℕ) (choice : ℕ)
    → EventText event (codes "cut" ∷ station ∷ decimal 0 ∷ decimal choice ∷ []) → ⊥
zero_cut (cut_server call other) station choice h =
    let least : 1 ≤ call = h.0 in
    let same : 0 ≡ call = decimal_injective 0 call (omega arith) h.1.0 (cc) in
    omega arith
zero_cut (cut_client c call other) station choice h =
    let least : 1 ≤ call = h.0 in
    let same : 0 ≡ call = decimal_injective 0 call (omega arith) h.1.1 (cc) in
    omega arith
zero_cut event station choice h =
    other_words (codes "cut") (sign_of event) refl (signs event (codes "cut" ∷ station ∷ decimal 0 ∷ decimal choice ∷ []) h.1)

-- a client is asked for a job of these words alone
pub no_job : (event : Event) (client : ℕ) (job kind detail : List ℕ) → job ≢ codes "resume" → kind ≢ codes "upload"
    → kind ≢ codes "download" → kind ≢ codes "list" → words_of job ≡ kind ∷ words_of detail
    → EventText event (codes "ask" ∷ decimal client ∷ words_of job) → ⊥
no_job (ask_upload c count) client job kind detail resume upload download list split h = upload (cc)
no_job (ask_resume c) client job kind detail resume upload download list split h = resume (sole_word job (codes "resume") (cc))
no_job (ask_list c tokens) client job kind detail resume upload download list split h = list (cc)
no_job (ask_download c number) client job kind detail resume upload download list split h = download (cc)
no_job event client job kind detail resume upload download list split h =
    other_words (codes "ask" ++ get_or (words_of job) 0 []) (sign_of event) refl
    (signs event (codes "ask" ∷ decimal client ∷ words_of job) h.1)

-- words are those of one event
pub one_event : (one other : Event) (words : List (List ℕ)) → EventWords one words → EventWords other words → one ≡ other
one_event (ask_upload c count) (ask_upload d number) words h k =
    let client : c ≡ d = decimal_injective c d h.0 k.0 (cc) in
    let same : count ≡ number = decimal_injective count number h.1 k.1 (cc) in
    cc
one_event (ask_resume c) (ask_resume d) words h k =
    let client : c ≡ d = decimal_injective c d h.0 k.0 (cc) in cc
one_event (ask_list c tokens) (ask_list d others) words h k =
    let client : c ≡ d = decimal_injective c d h.1 k.1 (cc) in
    let same : h.0 ≡ k.0 = cc in
    let read : tokens ≡ others = decode_of-same h.0 tokens others h.2 (ap decode_of same ∙ k.2) in
    cc
one_event (ask_download c count) (ask_download d number) words h k =
    let client : c ≡ d = decimal_injective c d h.0 k.0 (cc) in
    let same : count ≡ number = decimal_injective count number h.1 k.1 (cc) in
    cc
one_event (to_server c count) (to_server d number) words h k =
    let client : c ≡ d = decimal_injective c d h.0 k.0 (cc) in
    let same : count ≡ number = decimal_injective count number h.1 k.1 (cc) in
    cc
one_event (to_client c count) (to_client d number) words h k =
    let client : c ≡ d = decimal_injective c d h.0 k.0 (cc) in
    let same : count ≡ number = decimal_injective count number h.1 k.1 (cc) in
    cc
one_event tick_server tick_server words h k = refl
one_event tick_server (tick_client c) words h k = absurd (no_station c k.0 (cc))
one_event (tick_client c) tick_server words h k = absurd (no_station c h.0 (cc))
one_event (tick_client c) (tick_client d) words h k =
    let client : c ≡ d = decimal_injective c d h.0 k.0 (cc) in cc
one_event (break_client c) (break_client d) words h k =
    let client : c ≡ d = decimal_injective c d h.0 k.0 (cc) in cc
one_event (cut_server call choice) (cut_server other pick) words h k =
    let same : call ≡ other = decimal_injective call other h.0 k.0 (cc) in
    let left : choice ≡ pick = decimal_injective choice pick h.1 k.1 (cc) in
    cc
one_event (cut_server call choice) (cut_client c other pick) words h k = absurd (no_station c k.0 (cc))
one_event (cut_client c other pick) (cut_server call choice) words h k = absurd (no_station c h.0 (cc))
one_event (cut_client c call choice) (cut_client d other pick) words h k =
    let client : c ≡ d = decimal_injective c d h.0 k.0 (cc) in
    let same : call ≡ other = decimal_injective call other h.1 k.1 (cc) in
    let left : choice ≡ pick = decimal_injective choice pick h.2 k.2 (cc) in
    cc
one_event one other words h k =
    absurd (other_words (sign_of one) (sign_of other) refl (sym (signs one words h) ∙ signs other words k))

-- no such event ticks
pub no_tick : (event : Event) (station : List ℕ) → station ≢ codes "server"
    → ((c : ℕ) → c < 2 ^ 64 → words_of station ≡ decimal c ∷ [] → ⊥) → EventText event (codes "tick" ∷ words_of station) → ⊥
no_tick tick_server station server client h = server (sole_word station (codes "server") (cc))
no_tick (tick_client c) station server client h = client c h.1.0 (cc)
no_tick event station server client h =
    other_words (codes "tick") (sign_of event) refl (signs event (codes "tick" ∷ words_of station) h.1)

-- no event begins as the line of the window or of a client
pub event_apart : (event : Event) → (bytes_eq (sign_of event) (codes "window") ≡ false) × (bytes_eq (sign_of event) (codes "client") ≡ false)
event_apart tick_server = (refl, refl)
event_apart event = (refl, refl)
