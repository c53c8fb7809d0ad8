-- Which line may follow the lines of a schedule.
use Rattle.std.proofs.Common.{◌≡◌, ◌≢◌, ℕ, ◌<◌, ◌≤◌, ◌==◌, ◌&&◌, Bool, false, true, inl, inr, List, [], ◌∷◌, ◌++◌, length, map, codes, bytes_eq, ap, ap₂, sym, subst, ◌∙◌, refl, arith, append_assoc, length-append}
use Rattle.std.specs.Bool.{Decides}
use Rattle.px_base.proofs.Calls.{one_call}
use Rattle.air_schedule.proofs.Names.{AllByRecursion, list_any, false≢true, or_cases, or_parts, Decides-and, Decides-eqb, Decides-like, decimal_injective, map-append, bytes_eq-Decides, CallSign, CallText, IsCall, AreDistinct, Event, IsInRange, IsSchedule, Schedule, BeginSchedule, EventText, Line, LineWords, client_line, event_line, lines_of, window_line}
use Rattle.air_schedule.proofs.EventCases.{event_apart, one_event, sign, sign_of, signs}
use Rattle.air_schedule.proofs.WordLemmas.{other_words}

abbrev line_sign : Line → List ℕ
line_sign (window_line size) = codes "window"
line_sign (client_line call) = codes "client"
line_sign (event_line event) = sign_of event

line_signs : (said : Line) (words : List (List ℕ)) → LineWords said words → sign words ≡ line_sign said
line_signs (window_line size) words h = ap sign h.2
line_signs (client_line call) words h = ap sign h.2
line_signs (event_line event) words h = signs event words h.1

same_call : (one other : CallSign) → (one.chars ≡ other.chars) × (one.ssid ≡ other.ssid) → one ≡ other
same_call one other same = ap₂ (λ (chars : List ℕ) (ssid : ℕ). record { chars = chars; ssid = ssid }) same.0 same.1

-- whether two calls are the same
abbrev pub is_same : CallSign → CallSign → Bool
is_same one other = bytes_eq one.chars other.chars && (one.ssid == other.ssid)

same-decides : (one other : CallSign) → Decides (is_same one other) (one ≡ other)
same-decides one other =
    Decides-like (is_same one other) (same_call one other)
    (λ same. (ap (λ (c : CallSign). c.chars) same, ap (λ (c : CallSign). c.ssid) same))
    (Decides-and (bytes_eq one.chars other.chars) (one.ssid == other.ssid) (bytes_eq-Decides one.chars other.chars) (Decides-eqb one.ssid other.ssid))

-- a call is none of these, or one of them
pub is_new : (calls : List CallSign) (call : CallSign) → list_any (λ other. is_same other call) calls ≡ false → AllByRecursion (λ other. other ≢ call) calls
is_new [] call h = tt
is_new (c ∷ calls) call h =
    let parts = or_parts (is_same c call) (list_any (λ other. is_same other call) calls) h in
    (λ same. false≢true (sym parts.0 ∙ (same-decides c call).1 same), is_new calls call parts.1)

pub is_known : (calls : List CallSign) (call : CallSign) → list_any (λ other. is_same other call) calls ≡ true → AllByRecursion (λ other. other ≢ call) calls → ⊥
is_known [] call h new = false≢true h
is_known (c ∷ calls) call h new = elim (or_cases (is_same c call) (list_any (λ other. is_same other call) calls) h) [
  | inl same ↦ new.0 ((same-decides c call).0 same)
  | inr known ↦ is_known calls call known new.1
]

-- words are those of one line
pub one_line : (one other : Line) (words : List (List ℕ)) → LineWords one words → LineWords other words → one ≡ other
one_line (window_line size) (window_line other) words h k =
    let small : size ≤ 7 = h.1 in
    let few : other ≤ 7 = k.1 in
    let same : size ≡ other = decimal_injective size other (omega arith) (omega arith) (cc) in
    cc
one_line (client_line call) (client_line other) words h k =
    let text : k.0 ≡ h.0 = cc in
    let one = one_call h.0 call other h.1 (subst (CallText other) text k.1) in
    ap client_line (same_call call other one)
one_line (event_line event) (event_line other) words h k = ap event_line (one_event event other words h.1 k.1)
one_line (event_line event) (window_line size) words h k =
    absurd (other_words (sign_of event) (codes "window") (event_apart event).0 (sym (signs event words h.1) ∙ line_signs (window_line size) words k))
one_line (event_line event) (client_line call) words h k =
    absurd (other_words (sign_of event) (codes "client") (event_apart event).1 (sym (signs event words h.1) ∙ line_signs (client_line call) words k))
one_line (window_line size) (event_line event) words h k =
    absurd (other_words (sign_of event) (codes "window") (event_apart event).0 (sym (signs event words k.1) ∙ line_signs (window_line size) words h))
one_line (client_line call) (event_line event) words h k =
    absurd (other_words (sign_of event) (codes "client") (event_apart event).1 (sym (signs event words k.1) ∙ line_signs (client_line call) words h))
one_line one other words h k =
    absurd (other_words (line_sign one) (line_sign other) refl (sym (line_signs one words h) ∙ line_signs other words k))

-- after events come events
events_alone : (events before : List Event) (call : CallSign) (more : List Line)
    → map event_line events ≡ map event_line before ++ client_line call ∷ more → ⊥
events_alone [] [] call more h = cc
events_alone [] (e ∷ before) call more h = cc
events_alone (e ∷ events) [] call more h = cc
events_alone (e ∷ events) (b ∷ before) call more h = events_alone events before call more (cc)

-- if a client comes, no events come before it, and these clients do
behind : (all calls : List CallSign) (events before : List Event) (call : CallSign) (more : List Line)
    → map client_line all ++ map event_line events ≡ map client_line calls ++ (map event_line before ++ client_line call ∷ more)
    → (before ≡ []) × ((others : List CallSign) × (all ≡ calls ++ call ∷ others))
behind [] [] [] before call more h = absurd (events_alone [] before call more h)
behind [] [] (e ∷ events) before call more h = absurd (events_alone (e ∷ events) before call more h)
behind (d ∷ all) [] events [] call more h = (refl, (all, cc))
behind (d ∷ all) [] events (b ∷ before) call more h = absurd (cc)
behind [] (c ∷ calls) [] before call more h = absurd (cc)
behind [] (c ∷ calls) (e ∷ events) before call more h = absurd (cc)
behind (d ∷ all) (c ∷ calls) events before call more h =
    let rest = behind all calls events before call more (cc) in
    let others : List CallSign = rest.1.0 in
    let same : all ≡ calls ++ call ∷ others = rest.1.1 in
    let first : d ≡ c = cc in
    (rest.0, (others, cc))

abbrev lines_behind : List Line → List Line
lines_behind [] = []
lines_behind (first ∷ lines) = lines

-- A client that follows these lines follows clients alone, and some schedule has it and all those.
pub client_follows : (schedule : Schedule) (call : CallSign) (more : List Line) → BeginSchedule (lines_of schedule ++ client_line call ∷ more)
    → (schedule.events ≡ []) × ((whole : Schedule) × (others : List CallSign) × IsSchedule whole × (whole.calls ≡ schedule.calls ++ call ∷ others))
client_follows schedule call more h =
    let lines = ap lines_behind h.3 in
    let found = behind h.0.calls schedule.calls h.0.events schedule.events call (more ++ h.1) (simp append_assoc at lines) in
    (found.0, (h.0, found.1.0, h.2, found.1.1))

no_window : (calls : List CallSign) (events : List Event) (front : List Line) (size : ℕ) (more : List Line)
    → map client_line calls ++ map event_line events ≡ front ++ window_line size ∷ more → ⊥
no_window [] [] [] size more h = cc
no_window [] (e ∷ events) [] size more h = cc
no_window (c ∷ calls) events [] size more h = cc
no_window [] [] (f ∷ front) size more h = cc
no_window [] (e ∷ events) (f ∷ front) size more h = no_window [] events front size more (cc)
no_window (c ∷ calls) events (f ∷ front) size more h = no_window calls events front size more (cc)

-- the window's line follows none
pub window_follows : (schedule : Schedule) (size : ℕ) (more : List Line) → BeginSchedule (lines_of schedule ++ window_line size ∷ more) → ⊥
window_follows schedule size more h =
    let front : List Line = map client_line schedule.calls ++ map event_line schedule.events in
    no_window h.0.calls h.0.events (map client_line schedule.calls ++ map event_line schedule.events) size (more ++ h.1)
    (ap lines_behind h.3 ∙ append_assoc front (window_line size ∷ more) h.1)

-- one more call, which none of the others is
pub distinct_more : (calls : List CallSign) (call : CallSign) → AreDistinct calls → AllByRecursion (λ other. other ≢ call) calls
    → AreDistinct (calls ++ call ∷ [])
distinct_more [] call h new = (tt, tt)
distinct_more (c ∷ calls) call h new = (all_more calls h.0 new.0, distinct_more calls call h.1 new.1)
  where
    all_more : (others : List CallSign) → AllByRecursion (λ other. c ≢ other) others → c ≢ call → AllByRecursion (λ other. c ≢ other) (others ++ call ∷ [])
    all_more [] h new = (new, tt)
    all_more (o ∷ others) h new = (h.0, all_more others h.1 new)

-- such calls hold none twice
pub not_distinct : (calls others : List CallSign) (call : CallSign) → AreDistinct (calls ++ call ∷ others) → AllByRecursion (λ other. other ≢ call) calls
not_distinct [] others call h = tt
not_distinct (c ∷ calls) others call h = (apart calls h.0, not_distinct calls others call h.1)
  where
    apart : (before : List CallSign) → AllByRecursion (λ other. c ≢ other) (before ++ call ∷ others) → c ≢ call
    apart [] h = h.0
    apart (b ∷ before) h = apart before h.1

-- none follows that is none of a client and none of an event
pub no_line_follows : (schedule : Schedule) (said : Line) (more : List Line) (words : List (List ℕ))
    → ((call : CallSign) → LineWords (client_line call) words → ⊥) → ((event : Event) → EventText event words → ⊥)
    → LineWords said words → BeginSchedule (lines_of schedule ++ said ∷ more) → ⊥
no_line_follows schedule (window_line size) more words client event h begin = window_follows schedule size more begin
no_line_follows schedule (client_line call) more words client event h begin = client call h
no_line_follows schedule (event_line said) more words client event h begin = event said h

all-append : {P : Type 0} (Q : P → Type 0) (xs ys : List P) → AllByRecursion Q xs → AllByRecursion Q ys → AllByRecursion Q (xs ++ ys)
all-append Q [] ys h k = k
all-append Q (x ∷ xs) ys h k = (h.0, all-append Q xs ys h.1 k)

-- a schedule with one more client, or one more event
pub IsSchedule-client : (schedule : Schedule) (call : CallSign) → IsSchedule schedule → length schedule.calls < 8
    → AllByRecursion (λ other. other ≢ call) schedule.calls → IsCall call → IsSchedule (record schedule { calls = schedule.calls ++ call ∷ [] })
IsSchedule-client schedule call is few new is_call = record {
  some = is.some;
  few = is.few;
  most = omega (arith, length-append schedule.calls (call ∷ []));
  are_calls = all-append IsCall schedule.calls (call ∷ []) is.are_calls (is_call, tt);
  distinct = distinct_more schedule.calls call is.distinct new;
  in_range = is.in_range;
}

pub IsSchedule-event : (schedule : Schedule) (event : Event) → IsSchedule schedule → IsInRange event → IsSchedule (record schedule { events = schedule.events ++ event ∷ [] })
IsSchedule-event schedule event is in_range = record {
  some = is.some;
  few = is.few;
  most = is.most;
  are_calls = is.are_calls;
  distinct = is.distinct;
  in_range = all-append IsInRange schedule.events (event ∷ []) is.in_range (in_range, tt);
}

-- and its lines
pub lines_of-event : (schedule : Schedule) (event : Event) → lines_of (record schedule { events = schedule.events ++ event ∷ [] }) ≡ lines_of schedule ++ event_line event ∷ []
lines_of-event schedule event =
    ap (λ lines. window_line schedule.size ∷ lines)
    (ap (λ lines. map client_line schedule.calls ++ lines) (map-append event_line schedule.events (event ∷ []))
    ∙ sym (append_assoc (map client_line schedule.calls) (map event_line schedule.events) (event_line event ∷ [])))

-- the text of a call is that of a call
pub IsCall-text : (call : CallSign) (text : List ℕ) → CallText call text → IsCall call
IsCall-text call text h = record { spelled = (h.0, h.1, h.2); in_range = h.3 }
