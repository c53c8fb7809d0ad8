-- The lines that were read are those of the schedule, and the next one is the first that isn't.
use Rattle.std.proofs.Common.{◌≡◌, ℕ, ◌+◌, ◌<◌, ◌≤◌, ◌⊎◌, inl, inr, List, [], ◌∷◌, ◌++◌, Err, length, ap, sym, subst, ◌∙◌, refl, arith, length-append}
use Rattle.air_schedule.specs.declared.fault.ScheduleFault.TheVariants.{BadLine, OutOfMemory as no_memory}
use Rattle.air_schedule.proofs.Names.{eqb-false, eqb-true, FirstBadLine, Line, LineText, LinesThen, lines_of, parts_of, LineFault, NoLine, OutOfMemory}
use Rattle.air_schedule.proofs.ReadLemmas.{begins, nothing_begins, nothing_left, refused, unended, window_first, LinesThen-more}
use Rattle.air_schedule.proofs.schedule.Schedule.read.Goals as goal

pub returns-in_default-clause-bad : goal.returns-in_default-clause-bad
returns-in_default-clause-bad c = λ line bad.
    let one : 1 ≡ line = cc (bad) in
    subst (FirstBadLine c.args.text.now) one
    (unended c.args.text.now c.args.text.now [] (parts_of c.args.text.now) nothing_begins refl c.in_default.ensures.parts (λ _. refl))

pub returns-in_default-read_window-clause-bad : goal.returns-in_default-read_window-clause-bad
returns-in_default-read_window-clause-bad c = λ line bad.
    let one : 1 ≡ line = cc (bad) in
    subst (FirstBadLine c.args.text.now) one
    (refused c.args.text.now c.in-Some.first.now c.in-Some.rest.now [] (parts_of c.args.text.now) nothing_begins refl c.in-Some.ensures.parts
    (λ said more says begin.
    let window = window_first said more begin in
    c.in_default-read_window.ensures window.0 (subst (λ line. LineText line c.in-Some.first.now) window.1 says)))

pub returns-in_default-split_line-clause-bad : goal.returns-in_default-split_line-clause-bad
returns-in_default-split_line-clause-bad c = λ line bad.
    let at : length (lines_of c.loop-rest.schedule) + 1 ≡ line = sym c.loop-rest.invariant.1 ∙ cc (bad) in
    subst (FirstBadLine c.args.text.now) at
    (unended c.args.text.now c.loop-rest.rest.now (lines_of c.loop-rest.schedule) (parts_of c.loop-rest.rest.now)
    (begins c.loop-rest.schedule c.loop-rest.invariant.3) c.loop-rest.invariant.0 c.in_default-split_line.ensures.parts
    (λ e. absurd (eqb-false _ 0 (sym c.is_empty.ensures ∙ c.loop-rest-test.true) (ap length e))))

-- a line wasn't read for one of two causes
causes : (fault : LineFault) → (fault ≡ NoLine) ⊎ (fault ≡ OutOfMemory)
causes NoLine = inl refl
causes OutOfMemory = inr refl

pub returns-in-Err-clause-bad : goal.returns-in-Err-clause-bad
returns-in-Err-clause-bad c = λ line bad. elim (causes c.in-Err.fault) [
  | inl cause ↦
      let said : c.at.result ≡ BadLine c.loop-rest.line = c.at.ensures.no_line cause in
      let same : c.at.result ≡ BadLine line = cc (bad) in
      let number : c.loop-rest.line ≡ line = cc (said, same) in
      let at : length (lines_of c.loop-rest.schedule) + 1 ≡ line = sym c.loop-rest.invariant.1 ∙ number in
      subst (FirstBadLine c.args.text.now) at
      (refused c.args.text.now c.in-Some-split_line.next.now c.in-Some-split_line.later.now (lines_of c.loop-rest.schedule) (parts_of c.loop-rest.rest.now)
      (begins c.loop-rest.schedule c.loop-rest.invariant.3) c.loop-rest.invariant.0 c.in-Some-split_line.ensures.parts
      (c.in-Err.ensures.none (ap Err cause)))
  | inr cause ↦
      let said : c.at.result ≡ no_memory = c.at.ensures.memory cause in
      let same : c.at.result ≡ BadLine line = cc (bad) in
      absurd (apart line (sym said ∙ same))
]
  where
    apart : (line : ℕ) → no_memory ≡ BadLine line → ⊥
    apart line e = cc

pub loop-rest-preserved : goal.loop-rest-preserved
loop-rest-preserved c =
    let taken = c.in_default-add.ensures.taken in
    let lines : lines_of c.add.new.self ≡ lines_of c.loop-rest.schedule ++ taken.0 ∷ [] = taken.2 in
    let count : length (lines_of c.add.new.self) ≡ length (lines_of c.loop-rest.schedule) + 1
    = ap length lines ∙ length-append (lines_of c.loop-rest.schedule) (taken.0 ∷ []) in
    let shorter : length c.in-Some-split_line.later.now < length c.loop-rest.rest.now = c.in-Some-split_line.ensures.shorter in
    let bound : c.loop-rest.line + length c.loop-rest.rest.now ≤ length c.args.text.now + 1 = c.loop-rest.invariant.2 in
    let number : c.loop-rest.line ≡ length (lines_of c.loop-rest.schedule) + 1 = c.loop-rest.invariant.1 in (
      subst (λ (all : List Line). LinesThen all (parts_of c.in-Some-split_line.later.now) (parts_of c.args.text.now)) (sym lines)
          (LinesThen-more (lines_of c.loop-rest.schedule) taken.0 c.in-Some-split_line.next.now (parts_of c.in-Some-split_line.later.now)
          (parts_of c.loop-rest.rest.now) (parts_of c.args.text.now) c.loop-rest.invariant.0 c.in-Some-split_line.ensures.parts taken.1),
      ap (λ n. n + 1) (number ∙ sym count),
      omega arith,
      c.in_default-add.ensures.schedule,
    )

pub returns-clause-read : goal.returns-clause-read
returns-clause-read c =
    let empty : parts_of c.loop-rest.rest.now ≡ [] ∷ [] = ap parts_of (nothing_left c.loop-rest.rest.now
    (eqb-true _ 0 (sym c.is_empty.ensures ∙ c.loop-rest-test.false))) in
    record {
      is_schedule = c.loop-rest.invariant.3;
      lines = subst (λ parts. LinesThen (lines_of c.loop-rest.schedule) parts (parts_of c.args.text.now)) empty c.loop-rest.invariant.0;
    }
