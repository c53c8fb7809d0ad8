-- The lines of a text, as far as they were read.
use Rattle.std.proofs.Common.{◌≡◌, ◌≢◌, ℕ, ◌+◌, ◌-◌, ◌≤◌, ◌⊎◌, ◌==◌, inl, inr, List, [], ◌∷◌, ◌++◌, drop, length, map, take, ap, sym, subst, ◌∙◌, refl, arith, append-nil, append_assoc, length-append, length-take-le, take-append-drop}
use Rattle.air_schedule.proofs.Names.{cases_lt, length-slice_split, CallSign, Event, IsSchedule, Schedule, BeginSchedule, BeginsWell, FirstBadLine, Line, LineText, LinesThen, ScheduleText, client_line, event_line, lines_of, parts_of, window_line, words_of}
use Rattle.air_schedule.proofs.ScheduleLemmas.{one_line}

-- one more line
pub LinesThen-more : (lines : List Line) (said : Line) (text : List ℕ) (later rest parts : List (List ℕ))
    → LinesThen lines rest parts → rest ≡ text ∷ later → LineText said text → LinesThen (lines ++ said ∷ []) later parts
LinesThen-more [] said text later rest parts h e says = (text, later, says, h ∙ e, refl)
LinesThen-more (line ∷ lines) said text later rest parts h e says =
    (h.0, h.1, h.2, h.3, LinesThen-more lines said text later rest h.1 h.4 e says)

-- lines and more lines are there if those are there first, and these after them
LinesThen-front : (front more : List Line) (rest parts : List (List ℕ)) → LinesThen (front ++ more) rest parts
    → (left : List (List ℕ)) × LinesThen front left parts × LinesThen more rest left
LinesThen-front [] more rest parts h = (parts, refl, h)
LinesThen-front (line ∷ front) more rest parts h =
    let behind = LinesThen-front front more rest h.1 h.4 in (behind.0, (h.0, h.1, h.2, h.3, behind.1), behind.2)

-- there is no line in nothing
LinesThen-nil : (lines : List Line) (rest : List (List ℕ)) → LinesThen lines rest [] → rest ≡ []
LinesThen-nil [] rest h = sym h
LinesThen-nil (line ∷ lines) rest h = absurd (none h.0 h.1 h.3)
  where
    none : (text : List ℕ) (later : List (List ℕ)) → [] ≡ text ∷ later → ⊥
    none text later e = cc

-- Of two readings of the same parts, the second goes on at the end of the first ..
record GoesOn (lines other : List Line) (rest last : List (List ℕ)) : Type 0 where
  said : Line
  more : List Line
  text : List ℕ
  later : List (List ℕ)
  whole : other ≡ lines ++ said ∷ more
  says : LineText said text
  here : rest ≡ text ∷ later
  stand : LinesThen more last later

-- .. or the first goes at least as far.
record GoesAsFar (lines other : List Line) (rest last : List (List ℕ)) : Type 0 where
  more : List Line
  whole : lines ≡ other ++ more
  stand : LinesThen more rest last

compare : (lines other : List Line) (rest last parts : List (List ℕ)) → LinesThen lines rest parts → LinesThen other last parts
    → GoesOn lines other rest last ⊎ GoesAsFar lines other rest last
compare [] [] rest last parts h k = inr (record { more = []; whole = refl; stand = sym k ∙ h })
compare [] (o ∷ other) rest last parts h k =
    inl (record { said = o; more = other; text = k.0; later = k.1; whole = refl; says = k.2; here = sym h ∙ k.3; stand = k.4 })
compare (l ∷ lines) [] rest last parts h k =
    inr (record { more = l ∷ lines; whole = refl; stand = subst (LinesThen (l ∷ lines) rest) k h })
compare (l ∷ lines) (o ∷ other) rest last parts h k =
    let text : k.0 ≡ h.0 = cc in
    let later : k.1 ≡ h.1 = cc in
    let same : l ≡ o = one_line l o (words_of h.0) h.2 (subst (LineText o) text k.2) in
    elim (compare lines other rest last h.1 h.4 (subst (LinesThen other last) later k.4)) [
      | inl on ↦ let whole : other ≡ lines ++ on.said ∷ on.more = on.whole in
          inl (record { said = on.said; more = on.more; text = on.text; later = on.later; whole = cc; says = on.says; here = on.here; stand = on.stand })
      | inr far ↦ let whole : lines ≡ other ++ far.more = far.whole in
          inr (record { more = far.more; whole = cc; stand = far.stand })
    ]

-- no line of a schedule is next
abbrev pub NoNext : List Line → List (List ℕ) → Type 0
NoNext lines rest = (said : Line) (more : List Line) (text : List ℕ) (later : List (List ℕ)) → rest ≡ text ∷ later → LineText said text
    → later ≢ [] → BeginSchedule (lines ++ said ∷ more) → ⊥

pub parts_some : (text : List ℕ) → parts_of text ≡ [] → ⊥
parts_some text h = omega (arith, length-slice_split (λ octet. octet == 10) text, ap length h)

pub begins : (schedule : Schedule) → IsSchedule schedule → BeginSchedule (lines_of schedule)
begins schedule is = (schedule, [], is, sym (append-nil (lines_of schedule)))

-- the line after those that were read is the first that can't be a schedule's
pub first_bad : (text last : List ℕ) (lines : List Line) (rest later : List (List ℕ)) → BeginSchedule lines → LinesThen lines rest (parts_of text)
    → rest ≡ last ∷ later → (rest ≡ [] ∷ [] → lines ≡ []) → NoNext lines rest → FirstBadLine text (length lines + 1)
first_bad text last lines rest later begin stand some ended next = record {
  counted = omega arith;
  none = no_schedule;
  before = record { lines = lines; last = last; rest = later; enough = omega arith; begin = begin; stand = subst (λ r. LinesThen lines r (parts_of text)) some stand };
  here = no_lines;
}
  where
    -- a line comes after another part
    ended_behind : (more : List Line) (end : List ℕ) (ends behind : List (List ℕ)) → LinesThen more (end ∷ ends) behind → behind ≢ []
    ended_behind more end ends behind h = λ z. some_part (LinesThen-nil more (end ∷ ends) (subst (LinesThen more (end ∷ ends)) z h))
      where
        some_part : end ∷ ends ≡ [] → ⊥
        some_part e = cc

    finished : (schedule : Schedule) (more : List Line) → lines ≡ lines_of schedule ++ more → LinesThen more rest ([] ∷ []) → ⊥
    finished schedule [] whole h = let none : lines ≡ [] = ended (sym h) in nothing (sym whole ∙ none)
      where
        nothing : lines_of schedule ++ [] ≡ [] → ⊥
        nothing e = cc
    finished schedule (line ∷ more) whole h =
        let ends : h.1 ≡ [] = cc in
        let none : rest ≡ [] = LinesThen-nil more rest (subst (LinesThen more rest) ends h.4) in
        nothing (sym some ∙ none)
      where
        nothing : last ∷ later ≡ [] → ⊥
        nothing e = cc

    no_schedule : (schedule : Schedule) → ScheduleText schedule text → ⊥
    no_schedule schedule h = elim (compare lines (lines_of schedule) rest ([] ∷ []) (parts_of text) stand h.lines) [
      | inl on ↦ next on.said on.more on.text on.later on.here on.says (ended_behind on.more [] [] on.later on.stand)
          (schedule, [], h.is_schedule, on.whole ∙ sym (append-nil (lines ++ on.said ∷ on.more)))
      | inr far ↦ finished schedule far.more far.whole far.stand
    ]

    no_lines : BeginsWell (length lines + 1) text → ⊥
    no_lines h = elim (compare lines h.lines rest (h.last ∷ h.rest) (parts_of text) stand h.stand) [
      | inl on ↦ next on.said on.more on.text on.later on.here on.says (ended_behind on.more h.last h.rest on.later on.stand)
          (h.begin.0, h.begin.1, h.begin.2, h.begin.3 ∙ ap (λ whole. whole ++ h.begin.1) on.whole)
      | inr far ↦ let same = h.enough in let longer = ap length far.whole ∙ length-append h.lines far.more in omega arith
    ]

-- a line without its LF
pub unended : (text last : List ℕ) (lines : List Line) (rest : List (List ℕ)) → BeginSchedule lines → LinesThen lines rest (parts_of text)
    → rest ≡ last ∷ [] → (last ≡ [] → lines ≡ []) → FirstBadLine text (length lines + 1)
unended text last lines rest begin stand some none =
    first_bad text last lines rest [] begin stand some (λ e. let empty : last ≡ [] = cc in none empty)
    (λ said more here later at says behind _. let nothing : later ≡ [] = cc in behind nothing)

-- a line that may not be there
pub refused : (text next later : List ℕ) (lines : List Line) (rest : List (List ℕ)) → BeginSchedule lines → LinesThen lines rest (parts_of text)
    → rest ≡ next ∷ parts_of later
    → ((said : Line) (more : List Line) → LineText said next → BeginSchedule (lines ++ said ∷ more) → ⊥) → FirstBadLine text (length lines + 1)
refused text next later lines rest begin stand some none =
    first_bad text next lines rest (parts_of later) begin stand some
    (λ e. let nothing : parts_of later ≡ [] = cc in absurd (parts_some later nothing))
    (λ said more here behind at says _ goes. let same : here ≡ next = cc in none said more (subst (LineText said) same says) goes)

-- before the first line
pub nothing_begins : BeginSchedule []
nothing_begins =
    let schedule : Schedule = record { size = 1; calls = []; events = [] } in
    (schedule, lines_of schedule, record { some = omega arith; few = omega arith; most = omega arith; are_calls = tt; distinct = tt; in_range = tt }, refl)

-- the first line is that of the window
pub window_first : (said : Line) (more : List Line) → BeginSchedule (said ∷ more) → (size : ℕ) × (said ≡ window_line size)
window_first said more h = (h.0.size, first h.0.size (map client_line h.0.calls ++ map event_line h.0.events) (more ++ h.1) h.3)
  where
    first : (size : ℕ) (behind all : List Line) → window_line size ∷ behind ≡ said ∷ all → said ≡ window_line size
    first size behind all e = cc

pub nothing_left : (text : List ℕ) → length text ≡ 0 → text ≡ []
nothing_left [] h = refl
nothing_left (octet ∷ text) h = absurd (omega arith)

-- two schedules with the same lines are the same
same_lines : (one other : Schedule) → lines_of one ≡ lines_of other → one ≡ other
same_lines one other h =
    let size : one.size ≡ other.size = cc in
    let rest : map client_line one.calls ++ map event_line one.events ≡ map client_line other.calls ++ map event_line other.events = cc in
    let parts = same_parts one.calls other.calls one.events other.events rest in
    ap (λ n. make n one.calls one.events) size ∙ ap (λ calls. make other.size calls one.events) parts.0 ∙ ap (make other.size other.calls) parts.1
  where
    make : ℕ → List CallSign → List Event → Schedule
    make size calls events = record { size = size; calls = calls; events = events }

    same_events : (events others : List Event) → map event_line events ≡ map event_line others → events ≡ others
    same_events [] [] h = refl
    same_events [] (o ∷ others) h = absurd (cc)
    same_events (e ∷ events) [] h = absurd (cc)
    same_events (e ∷ events) (o ∷ others) h =
        let rest : events ≡ others = same_events events others (cc) in
        let first : e ≡ o = cc in
        cc

    same_parts : (calls others : List CallSign) (events theirs : List Event)
        → map client_line calls ++ map event_line events ≡ map client_line others ++ map event_line theirs → (calls ≡ others) × (events ≡ theirs)
    same_parts [] [] events theirs h = (refl, same_events events theirs h)
    same_parts [] (o ∷ others) [] theirs h = absurd (cc)
    same_parts [] (o ∷ others) (e ∷ events) theirs h = absurd (cc)
    same_parts (c ∷ calls) [] events [] h = absurd (cc)
    same_parts (c ∷ calls) [] events (t ∷ theirs) h = absurd (cc)
    same_parts (c ∷ calls) (o ∷ others) events theirs h =
        let rest = same_parts calls others events theirs (cc) in
        let first : c ≡ o = cc in
        let behind : calls ≡ others = rest.0 in
        (cc, rest.1)

-- a text is one schedule's
pub one_schedule : (text : List ℕ) (one other : Schedule) → ScheduleText one text → ScheduleText other text → one ≡ other
one_schedule text one other h k = elim (compare (lines_of one) (lines_of other) ([] ∷ []) ([] ∷ []) (parts_of text) h.lines k.lines) [
  | inl on ↦ absurd (nothing_more on.more on.text on.later on.here on.stand)
  | inr far ↦ same_lines one other (ended far.more far.whole far.stand)
]
  where
    some_part : (parts : List (List ℕ)) → parts ≡ [] ∷ [] → parts ≡ [] → ⊥
    some_part parts e none = cc

    nothing_more : (more : List Line) (text : List ℕ) (later : List (List ℕ)) → [] ∷ [] ≡ text ∷ later → LinesThen more ([] ∷ []) later → ⊥
    nothing_more more text later e stand =
        let none : later ≡ [] = cc in
        some_part ([] ∷ []) refl (LinesThen-nil more ([] ∷ []) (subst (LinesThen more ([] ∷ [])) none stand))

    ended : (more : List Line) → lines_of one ≡ lines_of other ++ more → LinesThen more ([] ∷ []) ([] ∷ []) → lines_of one ≡ lines_of other
    ended [] whole stand = whole ∙ append-nil (lines_of other)
    ended (line ∷ more) whole stand = absurd (nothing_more more stand.0 stand.1 stand.3 stand.4)

-- if this number of lines are the first of some schedule, fewer are
begins_fewer : (text : List ℕ) (few many : ℕ) → few ≤ many → BeginsWell many text → BeginsWell few text
begins_fewer text few many less h =
    let front : List Line = take few h.lines in
    let more : List Line = drop few h.lines in
    let whole : front ++ more ≡ h.lines = take-append-drop few h.lines in
    let cut = LinesThen-front front more (h.last ∷ h.rest) (parts_of text)
    (subst (λ (lines : List Line). LinesThen lines (h.last ∷ h.rest) (parts_of text)) (sym whole) h.stand) in
    let left = first_part more cut.0 cut.2 in
    record {
      lines = front;
      last = left.0;
      rest = left.1;
      enough = length-take-le few h.lines (omega (arith, h.enough));
      begin = (
        h.begin.0,
        more ++ h.begin.1,
        h.begin.2,
        h.begin.3 ∙ ap (λ (lines : List Line). lines ++ h.begin.1) (sym whole) ∙ append_assoc front more h.begin.1,
      );
      stand = subst (λ (parts : List (List ℕ)). LinesThen front parts (parts_of text)) left.2 cut.1;
    }
  where
    first_part : (lines : List Line) (parts : List (List ℕ)) → LinesThen lines (h.last ∷ h.rest) parts
        → (first : List ℕ) × (later : List (List ℕ)) × (parts ≡ first ∷ later)
    first_part [] parts stand = (h.last, h.rest, stand)
    first_part (line ∷ lines) parts stand = (stand.0, stand.1, stand.3)

-- a text has one first bad line
pub one_first_bad_line : (text : List ℕ) (one other : ℕ) → FirstBadLine text one → FirstBadLine text other → one ≡ other
one_first_bad_line text one other h k =
    let least : one ≤ other = at_most one other h k in
    let most : other ≤ one = at_most other one k h in
    omega arith
  where
    at_most : (line later : ℕ) → FirstBadLine text line → FirstBadLine text later → line ≤ later
    at_most line later bad behind = elim (cases_lt later line) [
      | inl before ↦ absurd (behind.here (begins_fewer text later (line - 1) (omega (arith, before)) bad.before))
      | inr past ↦ past
    ]
