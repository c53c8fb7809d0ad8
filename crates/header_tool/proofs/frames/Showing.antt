-- What is shown of the parts so far, and how showing goes on, ends, and stops at a fault.
use Rattle.std.proofs.Common.{◌≡◌, ℕ, suc, ◌+◌, ◌<◌, List, [], ◌∷◌, ◌++◌, length, take, drop, ◌-◌, slice_index, refl, sym, ap, ◌∙◌}
use Rattle.std.proofs.Common.{subst, arith, append_assoc, append-nil, drop-cons, length-drop, drop-drop, take-append-drop}
use Rattle.px_base.specs.Outside.{Gains, GainsPrefix}
use Rattle.px_base.proofs.Told.{Gains-none, Gains-trans, GainsPrefix-after}
use Rattle.header_tool.specs.Frames.Gathering.{Gathers, IsGathered}
use Rattle.header_tool.proofs.Names.{take_all, Option, Result, Ok, Err, IsErr, MatchResult, OnOk, OnErr, Part, kiss_parts, FramesText, LinesOf}
use Rattle.header_tool.proofs.frames.Lines.{LinesOf-append, rest_text}

-- what was gathered first and what was gathered then was gathered together
IsGathered-trans : (a b c : Option (List ℕ)) (waited waiting text line : List ℕ) → IsGathered a b waited text → IsGathered b c waiting (waited ++ line)
    → IsGathered a c waiting (text ++ line)
IsGathered-trans a b c waited waiting text line h k =
    record {
      put = h.put ++ k.put;
      whole =
          ap (λ (x : List ℕ). x ++ line) h.whole
          ∙ append_assoc h.put waited line
          ∙ ap (λ (x : List ℕ). h.put ++ x) k.whole
          ∙ sym (append_assoc h.put k.put waiting);
      gains = Gains-trans a b c h.put k.put h.gains k.gains;
    }

-- where the lines that wait are put too, all are shown
all_gained : (a b c : Option (List ℕ)) (waiting text : List ℕ) → IsGathered a b waiting text → Gains b c waiting → Gains a c text
all_gained a b c waiting text h k = subst (Gains a c) (sym h.whole) (Gains-trans a b c h.put waiting h.gains k)

-- where only a prefix of them is, a front of all text is shown
front_gained : (a b c : Option (List ℕ)) (waiting text more : List ℕ) → IsGathered a b waiting text → GainsPrefix b c waiting → GainsPrefix a c (text ++ more)
front_gained a b c waiting text more h k =
    let same : h.put ++ (waiting ++ more) ≡ text ++ more = sym (append_assoc h.put waiting more) ∙ ap (λ (x : List ℕ). x ++ more) (sym h.whole) in
    subst (GainsPrefix a c) same (GainsPrefix-after a b c h.put waiting more h.gains k)

-- nothing is put together only of nothing
both_empty : (parts others : List Part) → parts ++ others ≡ [] → (parts ≡ []) × (others ≡ [])
both_empty [] others h = (refl, h)
both_empty (part ∷ parts) others h = cc

-- The loop over recorded octets: the parts so far, the text of their lines, of which some wait, and what the reader still
-- knows of the octets before those that are left.
pub record IsShowing {O : Type 0} (shown : O → Option (List ℕ)) (faults : O → ℕ) (recorded : List ℕ) (old : O) (heard left waiting : List ℕ) (now : O) : Type 0 where
  pub ended : List Part
  pub text : List ℕ
  pub lines : LinesOf ended text
  pub parts : kiss_parts recorded ≡ ended ++ kiss_parts (heard ++ left)
  pub no_part : kiss_parts heard ≡ []
  pub gathered : IsGathered (shown old) (shown now) waiting text
  pub same_faults : faults now ≡ faults old
  pub untouched : ended ≡ [] → (now ≡ old) × (waiting ≡ [])

module _ {O : Type 0} (shown : O → Option (List ℕ)) (faults : O → ℕ) (recorded : List ℕ) (old : O) where
  -- before the first octet
  pub showing-start : (heard waiting : List ℕ) → heard ≡ [] → kiss_parts heard ≡ [] → waiting ≡ [] → IsShowing shown faults recorded old heard recorded waiting old
  showing-start heard waiting none no_part nothing =
      record {
        ended = [];
        text = [];
        lines = refl;
        parts = ap (λ (x : List ℕ). kiss_parts (x ++ recorded)) (sym none);
        no_part = no_part;
        gathered = record { put = []; whole = sym nothing; gains = Gains-none (shown old) };
        same_faults = refl;
        untouched = λ _. (refl, nothing);
      }

  -- octets that end no part, with what the reader knew before
  pub showing-passed : (heard waited : List ℕ) (at n : ℕ) (mid : O) → IsShowing shown faults recorded old heard (drop at recorded) waited mid
      → (heard_n : List ℕ) → heard_n ≡ heard ++ take n (take (length recorded - at) (drop at recorded)) → kiss_parts heard_n ≡ []
      → IsShowing shown faults recorded old heard_n (drop (at + n) recorded) waited mid
  showing-passed heard waited at n mid h heard_n is none =
      let left = drop at recorded in
      let whole : take (length recorded - at) left ≡ left = take_all _ left (omega (arith, length-drop at recorded)) in
      let split : heard ++ left ≡ heard_n ++ drop (at + n) recorded =
      ap (λ (x : List ℕ). heard ++ x) (sym (take-append-drop n left) ∙ ap (λ (x : List ℕ). take n left ++ x) (drop-drop n at recorded))
      ∙ sym (append_assoc heard (take n left) (drop (at + n) recorded))
      ∙ ap (λ (x : List ℕ). (heard ++ take n x) ++ drop (at + n) recorded) (sym whole) ∙ ap (λ (x : List ℕ). x ++ drop (at + n) recorded) (sym is) in
      record {
        ended = h.ended;
        text = h.text;
        lines = h.lines;
        parts = h.parts ∙ ap (λ (x : List ℕ). h.ended ++ kiss_parts x) split;
        no_part = none;
        gathered = h.gathered;
        same_faults = h.same_faults;
        untouched = h.untouched;
      }

  -- the parts after one more octet
  more_parts : (heard heard_n left : List ℕ) (octet : ℕ) (rest : List ℕ) (ended new : List Part) → kiss_parts recorded ≡ ended ++ kiss_parts (heard ++ left) → left ≡ octet ∷ rest
      → kiss_parts (heard ++ octet ∷ rest) ≡ new ++ kiss_parts (heard_n ++ rest) → kiss_parts recorded ≡ ended ++ (new ++ kiss_parts (heard_n ++ rest))
  more_parts heard heard_n left octet rest ended new before is fed =
      before ∙ ap (λ (x : List ℕ). ended ++ kiss_parts (heard ++ x)) is ∙ ap (λ (x : List Part). ended ++ x) fed

  -- one more octet, and the line of the part that it ended
  pub showing-more : (heard left waited : List ℕ) (mid : O) → IsShowing shown faults recorded old heard left waited mid
      → (octet : ℕ) (rest heard_n waiting : List ℕ) (new : List Part) (now : O) → left ≡ octet ∷ rest
      → kiss_parts (heard ++ octet ∷ rest) ≡ new ++ kiss_parts (heard_n ++ rest) → kiss_parts heard_n ≡ []
      → Gathers new (shown mid) (shown now) waited waiting → faults now ≡ faults mid → (new ≡ [] → (now ≡ mid) × (waiting ≡ waited))
      → IsShowing shown faults recorded old heard_n rest waiting now
  showing-more heard left waited mid h octet rest heard_n waiting new now is fed no_part line faults_same same =
      record {
        ended = h.ended ++ new;
        text = h.text ++ line.0;
        lines = LinesOf-append h.ended new h.text line.0 h.lines line.1;
        parts = more_parts heard heard_n left octet rest h.ended new h.parts is fed ∙ sym (append_assoc h.ended new (kiss_parts (heard_n ++ rest)));
        no_part = no_part;
        gathered = IsGathered-trans (shown old) (shown mid) (shown now) waited waiting h.text line.0 h.gathered line.2;
        same_faults = faults_same ∙ h.same_faults;
        untouched = λ e.
            let both = both_empty h.ended new e in
            let before = h.untouched both.0 in
            let stays = same both.1 in
            (stays.0 ∙ before.0, stays.1 ∙ before.1);
      }

  -- all octets were heard
  all_ended : (heard left waiting : List ℕ) (now : O) (h : IsShowing shown faults recorded old heard left waiting now) → left ≡ [] → h.ended ≡ kiss_parts recorded
  all_ended heard left waiting now h none =
      sym
      (h.parts
      ∙ ap (λ (x : List ℕ). h.ended ++ kiss_parts (heard ++ x)) none
      ∙ ap (λ (x : List ℕ). h.ended ++ kiss_parts x) (append-nil heard)
      ∙ ap (λ (x : List Part). h.ended ++ x) h.no_part
      ∙ append-nil h.ended)

  -- the lines that wait when all octets were heard are put, or a prefix of them after a fault
  pub showing-end : {T E : Type 0} (result : Result T E) (heard left waiting : List ℕ) (mid now : O) → IsShowing shown faults recorded old heard left waiting mid → left ≡ []
      → OnOk result (Gains (shown mid) (shown now) waiting) → OnErr result (GainsPrefix (shown mid) (shown now) waiting)
      → (text : List ℕ) × FramesText recorded text
      × MatchResult result (λ _. Gains (shown old) (shown now) text) (λ _. GainsPrefix (shown old) (shown now) text)
  showing-end result heard left waiting mid now h none ok err =
      let text = subst (λ (parts : List Part). LinesOf parts h.text) (all_ended heard left waiting mid h none) h.lines in
      (h.text, text, by_result result ok err)
    where
      by_result : {T E : Type 0} (result : Result T E) → OnOk result (Gains (shown mid) (shown now) waiting) → OnErr result (GainsPrefix (shown mid) (shown now) waiting)
          → MatchResult result (λ _. Gains (shown old) (shown now) h.text) (λ _. GainsPrefix (shown old) (shown now) h.text)
      by_result (Ok x) k none = all_gained (shown old) (shown mid) (shown now) waiting h.text h.gathered k
      by_result (Err e) none k =
          subst (GainsPrefix (shown old) (shown now)) (append-nil h.text)
          (front_gained (shown old) (shown mid) (shown now) waiting h.text [] h.gathered k)

  -- the lines that wait can't be shown
  pub showing-stops : (heard left waited : List ℕ) (mid : O) → IsShowing shown faults recorded old heard left waited mid
      → (now : O) → GainsPrefix (shown mid) (shown now) waited → ((text : List ℕ) × FramesText recorded text)
      → (text : List ℕ) × FramesText recorded text × GainsPrefix (shown old) (shown now) text
  showing-stops heard left waited mid h now prefix whole =
      let all : LinesOf (h.ended ++ kiss_parts (heard ++ left)) whole.0 = subst (λ (x : List Part). LinesOf x whole.0) h.parts whole.1 in
      let later = rest_text h.ended (kiss_parts (heard ++ left)) whole.0 all in (
        h.text ++ later.0,
        subst (λ (x : List Part). LinesOf x (h.text ++ later.0)) (sym h.parts) (LinesOf-append h.ended (kiss_parts (heard ++ left)) h.text later.0 h.lines later.1),
        front_gained (shown old) (shown mid) (shown now) waited h.text later.0 h.gathered prefix,
      )

  -- a fault at a part: where there is none, the output isn't reached
  pub untouched-stops : (heard left waited : List ℕ) (mid : O) → IsShowing shown faults recorded old heard left waited mid
      → (octet : ℕ) (rest heard_n : List ℕ) (new : List Part) (now : O) → left ≡ octet ∷ rest
      → kiss_parts (heard ++ octet ∷ rest) ≡ new ++ kiss_parts (heard_n ++ rest) → (new ≡ [] → now ≡ mid) → kiss_parts recorded ≡ [] → now ≡ old
  untouched-stops heard left waited mid h octet rest heard_n new now is fed same empty =
      let first = both_empty h.ended (new ++ kiss_parts (heard_n ++ rest)) (sym (more_parts heard heard_n left octet rest h.ended new h.parts is fed) ∙ empty) in
      let next = both_empty new (kiss_parts (heard_n ++ rest)) first.1 in
      same next.0 ∙ (h.untouched first.0).0

-- what holds of a fault holds where there is one
pub of_fault : {T E : Type 0} (result : Result T E) (P : T → Type 0) (Q : Type 0) → IsErr result → Q → MatchResult result P (λ _. Q)
of_fault (Ok x) P Q h q = cc
of_fault (Err e) P Q h q = q

-- the octets from this place on begin with the one there
pub left_is : (octets : List ℕ) (n : ℕ) → n < length octets → drop n octets ≡ slice_index octets n ∷ drop (n + 1) octets
left_is octets n h =
    let next : suc n ≡ n + 1 = omega arith in
    drop-cons octets n 0 h ∙ ap (λ (k : ℕ). slice_index octets n ∷ drop k octets) next
