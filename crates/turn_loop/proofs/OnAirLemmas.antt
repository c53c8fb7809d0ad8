-- The course of a station on the air.
use Rattle.std.proofs.Common.{◌≡◌, ◌<◌, ◌+◌, ℕ, Option, None, Some, Result, Ok, Err, List, [], ◌∷◌, ◌++◌, refl, sym, ap, ◌∙◌, subst, append_assoc, append-nil, take, drop, length, ◌-◌, arith, length-drop}
use Rattle.turn_loop.proofs.Names.{AllByRecursion, ⊤, drop-take, take-append-drop, take-take, take_all, All-append, All-from_recursion, All-nil, All-take, CallSign, IsOctets, FrameValue, AtDisk, Course, GaveAll, GivesNext, IsLawful, OwesBy, at, Finishes, NodeEvent, heard_at, ticks, Input, IsInput, octet, octets_at, octets_in, tick, SomeFramesLaw, Brings, BringsOver, HasHeardSome, StaysOnAir, inner, on_air, HasHeard, HearsRun, StationValue, Halt, OnAir, NodeStop}
use Rattle.turn_loop.proofs.BringsLemmas.{brings-octet, brings-run, brings-then}
use Rattle.turn_loop.proofs.InputLemmas.{are-octets, octets_at-append, octets_in-append, octets_in-at}

pub octets-nil : IsOctets []
octets-nil = All-nil (λ o. o < 256)

pub octets-append : (xs ys : List ℕ) → IsOctets xs → IsOctets ys → IsOctets (xs ++ ys)
octets-append xs ys h k = All-append (λ o. o < 256) xs ys h k

-- whatever inputs come, they bring some events
some-events : SomeFramesLaw → (me : CallSign) (before : List ℕ) (inputs : List Input) → IsOctets before → AllByRecursion IsInput inputs → (events : List NodeEvent) × Brings me before inputs events
some-events law me before [] are h = ([], refl)
some-events law me before (octet o moment ∷ inputs) are h =
    let one : IsOctets (o ∷ []) = All-from_recursion (λ o. o < 256) (o ∷ []) (h.0, tt) in
    let frames = law me before (o ∷ []) are one in
    let rest = some-events law me (before ++ o ∷ []) inputs (octets-append before (o ∷ []) are one) h.1 in
    (heard_at moment frames.0 ++ rest.0, (frames.0, rest.0, frames.1, refl, rest.1))
some-events law me before (tick moment ∷ inputs) are h =
    let rest = some-events law me before inputs are h.1 in (ticks moment ∷ rest.0, (rest.0, refl, rest.1))

module _ {S D : Type 0} (me : S → CallSign) (course : Course S D NodeEvent) where
  abbrev Own : Course (OnAir S) D Input
  Own = on_air me course

  abbrev Heard : AtDisk (OnAir S) D → List ℕ → List Input → Type 0
  Heard new all inputs = HasHeard new.it.reader (all ++ octets_in inputs)

  -- where nothing was handed over
  heard-none : (a : AtDisk (OnAir S) D) (all : List ℕ) → HasHeard a.it.reader all → Heard a all []
  heard-none a all h = subst (λ (o : List ℕ). HasHeard a.it.reader o) (sym (append-nil all)) h

  stays-none : (a : AtDisk (OnAir S) D) → a.it.reader.me ≡ me a.it.station → HasHeardSome a.it.reader → StaysOnAir me a [] a
  stays-none a own some = record { some = some; same_me = refl; own = own; are_octets = octets-nil }

  stays-then : (a b c : AtDisk (OnAir S) D) (xs ys : List Input) → StaysOnAir me a xs b → StaysOnAir me b ys c → StaysOnAir me a (xs ++ ys) c
  stays-then a b c xs ys h k = record {
    some = h.some;
    same_me = k.same_me ∙ h.same_me;
    own = k.own;
    are_octets = subst (λ (o : List ℕ). IsOctets o) (sym (octets_in-append xs ys)) (octets-append (octets_in xs) (octets_in ys) h.are_octets k.are_octets);
  }

  module _ (a b : AtDisk (OnAir S) D) (xs ys : List Input) (stays : StaysOnAir me a xs b) where
    -- what some inputs bring, and then others
    then-brings : (First : List ℕ → List NodeEvent → Type 0) (Second All : List ℕ → List NodeEvent → Type 0)
        → ((all : List ℕ) (es fs : List NodeEvent) → First all es → Second (all ++ octets_in xs) fs → All all (es ++ fs))
        → BringsOver me a xs (λ all es. Heard b all xs × First all es) → BringsOver me b ys Second → BringsOver me a (xs ++ ys) All
    then-brings First Second All both h k all are heard =
        let first = h all are heard in
        let second = k (all ++ octets_in xs) (octets-append all (octets_in xs) are stays.are_octets) first.2.0 in (
          first.0 ++ second.0,
          brings-then (me a.it.station) all xs ys first.0 second.0 first.1 (subst (λ (m : CallSign). Brings m (all ++ octets_in xs) ys second.0) stays.same_me second.1),
          both all first.0 second.0 first.2.1 second.2,
        )

  -- the reader's part behind two lists of inputs
  heard-then : (c : AtDisk (OnAir S) D) (all : List ℕ) (xs ys : List Input) → Heard c (all ++ octets_in xs) ys → Heard c all (xs ++ ys)
  heard-then c all xs ys h =
      subst (λ (o : List ℕ). HasHeard c.it.reader o) (append_assoc all (octets_in xs) (octets_in ys) ∙ ap (λ (o : List ℕ). all ++ o) (sym (octets_in-append xs ys))) h

  pub on-air-lawful : SomeFramesLaw → IsLawful course (λ event. ⊤) → IsLawful (on_air me course) IsInput
  on-air-lawful some law = record {
    owes_none = λ a fit. (stays-none a fit.1 fit.2, λ all are heard. ([], refl, (heard-none a all heard, law.owes_none (inner a) fit.0)));
    goes_none = λ a fit. (stays-none a fit.1 fit.2, λ all are heard. ([], refl, (heard-none a all heard, law.goes_none (inner a) fit.0)));
    goes_on = λ a b c xs ys text more h k. (
      stays-then a b c xs ys h.0 k.0,
      then-brings a b xs ys h.0 (λ all es. course.goes (inner a) es text (inner b)) (λ all es. Heard c all ys × course.goes (inner b) es more (inner c))
          (λ all es. Heard c all (xs ++ ys) × course.goes (inner a) es (text ++ more) (inner c))
          (λ all es fs first second. (heard-then c all xs ys second.0, law.goes_on (inner a) (inner b) (inner c) es fs text more first second.1)) h.1 k.1,
    );
    halts_behind = λ a b c xs ys text more why unsaid h k. (
      subst (λ (o : List ℕ). IsOctets o) (sym (octets_in-append xs ys)) (octets-append (octets_in xs) (octets_in ys) h.0.are_octets k.0),
      then-brings a b xs ys h.0 (λ all es. course.goes (inner a) es text (inner b)) (λ all es. course.halts (inner b) es why unsaid more (inner c))
          (λ all es. course.halts (inner a) es why unsaid (text ++ more) (inner c))
          (λ all es fs first second. law.halts_behind (inner a) (inner b) (inner c) es fs text more why unsaid first second) h.1 k.1,
    );
    halts_before = λ a c xs ys text why unsaid inputs h. (
      subst (λ (o : List ℕ). IsOctets o) (sym (octets_in-append xs ys)) (octets-append (octets_in xs) (octets_in ys) h.0 (are-octets ys inputs)),
      λ all are heard.
          let first = h.1 all are heard in
          let rest = some-events some (me a.it.station) (all ++ octets_in xs) ys (octets-append all (octets_in xs) are h.0) inputs in (
            first.0 ++ rest.0,
            brings-then (me a.it.station) all xs ys first.0 rest.0 first.1 rest.1,
            law.halts_before (inner a) (inner c) first.0 rest.0 text why unsaid (all-true rest.0) first.2,
          ),
    );
  }
    where
      all-true : (es : List NodeEvent) → AllByRecursion (λ event. ⊤) es
      all-true [] = tt
      all-true (e ∷ es) = (tt, all-true es)

-- the loop over octets that are fed to the reader, none of which finished a frame for the station
pub record IsFeeding {S D : Type 0} (me : S → CallSign) (old : AtDisk (OnAir S) D) (inputs : List Input) (new : AtDisk (OnAir S) D) : Type 0 where
  pub same : inner new ≡ inner old
  pub own : new.it.reader.me ≡ me new.it.station
  pub brings : (all : List ℕ) → HasHeard old.it.reader all → HasHeard new.it.reader (all ++ octets_in inputs) × Brings (me old.it.station) all inputs []

pub feeding-none : {S D : Type 0} (me : S → CallSign) (a : AtDisk (OnAir S) D) → a.it.reader.me ≡ me a.it.station → IsFeeding me a [] a
feeding-none me a own = record {
  same = refl;
  own = own;
  brings = λ all heard. (subst (λ (o : List ℕ). HasHeard a.it.reader o) (sym (append-nil all)) heard, refl);
}

-- the octets among the front of a piece that is heard
pub octets-front : (moment : ℕ) (piece : List ℕ) (n : ℕ) → IsOctets piece → IsOctets (octets_in (octets_at moment (take n piece)))
octets-front moment piece n h = subst (λ (o : List ℕ). IsOctets o) (sym (octets_in-at moment (take n piece))) (All-take (λ o. o < 256) n piece h)

module _ {S D : Type 0} (me : S → CallSign) (a b : AtDisk (OnAir S) D) (xs : List Input) (h : IsFeeding me a xs b) where
  same_me : me a.it.station ≡ b.it.reader.me
  same_me = sym (h.own ∙ ap (λ (s : AtDisk S D). me s.it) h.same)

  module _ (reader : StationValue) (o moment : ℕ) (frames : List FrameValue) (reader_me : reader.me ≡ b.it.reader.me)
      (fed : (all : List ℕ) → HasHeard b.it.reader all → HasHeard reader (all ++ o ∷ []) × Finishes b.it.reader.me all (o ∷ []) frames) where
    fed-then : (all : List ℕ) → HasHeard a.it.reader all → HasHeard reader (all ++ octets_in (xs ++ octet o moment ∷ [])) × Brings (me a.it.station) all (xs ++ octet o moment ∷ []) (heard_at moment frames)
    fed-then all heard =
        let first = h.brings all heard in
        let then_is = fed (all ++ octets_in xs) first.0 in (
          subst (λ (os : List ℕ). HasHeard reader os) (append_assoc all (octets_in xs) (o ∷ []) ∙ ap (λ (os : List ℕ). all ++ os) (sym (octets_in-append xs (octet o moment ∷ [])))) then_is.0,
          brings-then (me a.it.station) all xs (octet o moment ∷ []) [] (heard_at moment frames) first.1
              (brings-octet (me a.it.station) (all ++ octets_in xs) o moment frames (subst (λ (m : CallSign). Finishes m (all ++ octets_in xs) (o ∷ []) frames) (sym same_me) then_is.1)),
        )

    -- the frame was heard
    pub fed-frame : (course : Course S D NodeEvent) (why : Option Halt) (station : S) (disk : D) (inputs : List Input) → inputs ≡ xs ++ octet o moment ∷ [] → IsOctets (octets_in inputs)
        → HasHeardSome a.it.reader → me station ≡ me b.it.station → course.owes (inner b) (heard_at moment frames) why [] (at station disk)
        → (on_air me course).owes a inputs why [] (at (record { reader = reader; station = station }) disk)
    fed-frame course why station disk inputs is are some same owes = (
      record { some = some; same_me = same ∙ ap (λ (s : AtDisk S D). me s.it) h.same; own = reader_me ∙ h.own ∙ sym same; are_octets = are },
      λ all octets heard.
          let then_is = fed-then all heard in (
            heard_at moment frames,
            subst (λ (ins : List Input). Brings (me a.it.station) all ins (heard_at moment frames)) (sym is) then_is.1,
            (
              subst (λ (ins : List Input). HasHeard reader (all ++ octets_in ins)) (sym is) then_is.0,
              subst (λ (s : AtDisk S D). course.owes s (heard_at moment frames) why [] (at station disk)) h.same owes,
            ),
          ),
    )

  -- one octet more, which finished no frame for the station
  pub feeding-more : (reader : StationValue) (o moment : ℕ) → reader.me ≡ b.it.reader.me
      → ((all : List ℕ) → HasHeard b.it.reader all → HasHeard reader (all ++ o ∷ []) × Finishes b.it.reader.me all (o ∷ []) [])
      → (inputs : List Input) → inputs ≡ xs ++ octet o moment ∷ [] → IsFeeding me a inputs (at (record { reader = reader; station = b.it.station }) b.disk)
  feeding-more reader o moment reader_me fed inputs is = record {
    same = h.same;
    own = reader_me ∙ h.own;
    brings = λ all heard.
        let then_is = fed-then reader o moment [] reader_me fed all heard in (
          subst (λ (ins : List Input). HasHeard reader (all ++ octets_in ins)) (sym is) then_is.0,
          subst (λ (ins : List Input). Brings (me a.it.station) all ins []) (sym is) then_is.1,
        );
  }

  -- all were fed, and the station took nothing
  pub fed-all : (course : Course S D NodeEvent) → IsLawful course (λ event. ⊤) → course.is_fit (inner a) → HasHeardSome a.it.reader → IsOctets (octets_in xs) → (on_air me course).owes a xs None [] b
  fed-all course law fit some are = (
    record { some = some; same_me = ap (λ (s : AtDisk S D). me s.it) h.same; own = h.own; are_octets = are },
    λ all octets heard.
        let first = h.brings all heard in
        ([], first.1, (first.0, subst (λ (s : AtDisk S D). course.owes (inner a) [] None [] s) (sym h.same) (law.owes_none (inner a) fit))),
  )

-- so many octets, and then so many of the rest
take-then : (n m : ℕ) (piece : List ℕ) → take (n + m) piece ≡ take n piece ++ take m (drop n piece)
take-then n m piece =
    sym (take-append-drop n (take (n + m) piece))
    ∙ ap (λ (xs : List ℕ). xs ++ drop n (take (n + m) piece)) (take-take n (n + m) piece (omega arith))
    ∙ ap (λ (xs : List ℕ). take n piece ++ xs) (drop-take n m piece)

-- octets of a piece behind those that were fed, none of which ended a frame of KISS text
pub feeding-run : {S D : Type 0} (me : S → CallSign) (a b : AtDisk (OnAir S) D) (moment : ℕ) (piece : List ℕ) (count run : ℕ) → IsFeeding me a (octets_at moment (take count piece)) b
    → (reader : StationValue) → reader.me ≡ b.it.reader.me
    → HearsRun b.it.reader (take run (take (length piece - count) (drop count piece))) reader
    → IsFeeding me a (octets_at moment (take (count + run) piece)) (at (record { reader = reader; station = b.it.station }) b.disk)
feeding-run me a b moment piece count run h reader reader_me hears =
    let xs = octets_at moment (take count piece) in
    let more = take run (drop count piece) in
    let rest : take (length piece - count) (drop count piece) ≡ drop count piece = take_all _ (drop count piece) (omega (arith, length-drop count piece)) in
    let is : octets_at moment (take (count + run) piece) ≡ xs ++ octets_at moment more =
    ap (octets_at moment) (take-then count run piece) ∙ octets_at-append moment (take count piece) more in
    let octets : octets_in (octets_at moment (take (count + run) piece)) ≡ octets_in xs ++ more =
    ap octets_in is ∙ octets_in-append xs (octets_at moment more) ∙ ap (λ (os : List ℕ). octets_in xs ++ os) (octets_in-at moment more) in
    record {
      same = h.same;
      own = reader_me ∙ h.own;
      brings = λ all heard.
          let first = h.brings all heard in
          let then_is = subst (λ (os : List ℕ). HearsRun b.it.reader (take run os) reader) rest hears (all ++ octets_in xs) first.0 in (
            subst (λ (os : List ℕ). HasHeard reader os) (append_assoc all (octets_in xs) more ∙ ap (λ (os : List ℕ). all ++ os) (sym octets)) then_is.0,
            subst (λ (ins : List Input). Brings (me a.it.station) all ins []) (sym is)
                (brings-then (me a.it.station) all xs (octets_at moment more) [] [] first.1 (brings-run (me a.it.station) (all ++ octets_in xs) moment more then_is.1)),
          );
    }

-- one octet more of a piece
pub octets-more : (moment : ℕ) (piece : List ℕ) (n o : ℕ) → take (n + 1) piece ≡ take n piece ++ o ∷ [] → octets_at moment (take (n + 1) piece) ≡ octets_at moment (take n piece) ++ octet o moment ∷ []
octets-more moment piece n o is = ap (octets_at moment) is ∙ octets_at-append moment (take n piece) (o ∷ [])

module _ {S D : Type 0} (me : S → CallSign) (course : Course S D NodeEvent) (a : AtDisk (OnAir S) D) (station : S) (disk : D) (same : me station ≡ me a.it.station) where
  abbrev given : AtDisk (OnAir S) D
  given = at (record { reader = a.it.reader; station = station }) disk

  stays-given : (start : AtDisk (OnAir S) D) (inputs : List Input) → StaysOnAir me start inputs a → StaysOnAir me start inputs given
  stays-given start inputs h = record { some = h.some; same_me = same ∙ h.same_me; own = h.own ∙ sym same; are_octets = h.are_octets }

  owes-tick : (moment : ℕ) (why : Option Halt) → a.it.reader.me ≡ me a.it.station → HasHeardSome a.it.reader → course.owes (inner a) (ticks moment ∷ []) why [] (at station disk)
      → (on_air me course).owes a (tick moment ∷ []) why [] given
  owes-tick moment why own some owes = (
    record { some = some; same_me = same; own = own ∙ sym same; are_octets = octets-nil },
    λ all are heard. (ticks moment ∷ [], ([], refl, refl), (subst (λ (o : List ℕ). HasHeard a.it.reader o) (sym (append-nil all)) heard, owes)),
  )

  -- the station took a tick, or halts at it
  pub ticked : (moment : ℕ) (result : Result ⊤ NodeStop) → a.it.reader.me ≡ me a.it.station → HasHeardSome a.it.reader → OwesBy course (inner a) (ticks moment ∷ []) result (at station disk)
      → OwesBy (on_air me course) a (tick moment ∷ []) result given
  ticked moment (Ok done) own some h = owes-tick moment None own some h
  ticked moment (Err stop) own some h = (h.0, h.1, owes-tick moment (Some h.0) own some h.2)

  pub gives-next : (text : List ℕ) → GivesNext course (inner a) text (at station disk) → GivesNext (on_air me course) a text given
  gives-next text h = record {
    goes_on = λ start inputs why said owes. (
      stays-given start inputs owes.0,
      λ all are heard.
          let o = owes.1 all are heard in
          (o.0, o.1, (o.2.0, h.goes_on (inner start) o.0 why said o.2.1)),
    );
    cut_off = λ start inputs why said front is owes. (
      owes.0.are_octets,
      λ all are heard.
          let o = owes.1 all are heard in
          (o.0, o.1, h.cut_off (inner start) o.0 why said front is o.2.1),
    );
  }

  pub gave-all : GaveAll course (inner a) (at station disk) → GaveAll (on_air me course) a given
  gave-all h start inputs None said owes =
      let stays = stays-given start inputs owes.0 in
      let some = stays.some in
      let here = owes.1 some.0 some.1 some.2 in (
        (
          stays,
          λ all are heard.
              let o = owes.1 all are heard in
              (o.0, o.1, (o.2.0, (h (inner start) o.0 None said o.2.1).0)),
        ),
        ((h (inner start) here.0 None said here.2.1).1, stays.own, (some.0 ++ octets_in inputs, octets-append some.0 (octets_in inputs) some.1 stays.are_octets, here.2.0)),
      )
  gave-all h start inputs (Some why) said owes = (
    owes.0.are_octets,
    λ all are heard.
        let o = owes.1 all are heard in
        (o.0, o.1, h (inner start) o.0 (Some why) said o.2.1),
  )
