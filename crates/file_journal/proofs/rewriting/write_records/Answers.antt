use Rattle.std.proofs.Common.{rules, List, ◌≡◌, ◌+◌, ◌≤◌, [], ◌∷◌, ◌++◌, length, take, drop, ℕ, Ok, refl, sym, ◌∙◌, ap, subst, arith, append_assoc, append-nil, length-append, take-take}
use Rattle.file_journal.proofs.Names.{take_at, DiskFault, Record, record_of, record_text, records_text, Covers, puts_once}
use Rattle.file_journal.proofs.CoverLemmas.{covers_failed, covers_next, covers_none, covers_ok}
use Rattle.file_journal.proofs.PositionLemmas.{records_text-append}
use Rattle.file_journal.proofs.rewriting.write_records.Goals as goal

-- a record's text stands behind its gate
text_of : (entry : Record) (len : ℕ) (text : List ℕ) → take (5 + len) text ≡ 1 ∷ record_text entry ++ 0 ∷ [] → length entry.content ≡ len
    → take (4 + len) text ≡ records_text (entry ∷ [])
text_of entry len text is size =
    sym (take-take (4 + len) (5 + len) text (omega arith)) ∙ ap (take (4 + len)) is
    ∙ take_at (1 ∷ record_text entry) (0 ∷ []) (4 + len) (omega (arith, size)) ∙ sym (append-nil (1 ∷ record_text entry))

-- one record more is done
done_more : (all done left next : List Record) (entry : Record) → all ≡ done ++ left → left ≡ entry ∷ next → all ≡ (done ++ entry ∷ []) ++ next
done_more all done left next entry is first = is ∙ ap (λ (l : List Record). done ++ l) first ∙ sym (append_assoc done (entry ∷ []) next)

pub loop-kind-init : goal.loop-kind-init
loop-kind-init g c = ([], refl, omega arith, covers_none g.D.Disk c.args.gate c.args.gate c.args.disk.now (g.met.D.Disk.lasts_same c.args.disk.now))

pub returns-clause-end : goal.returns-clause-end
returns-clause-end g c =
    let done = c.loop-kind.invariant in
    done.2 ∙ ap (λ (l : List Record). c.args.gate + length (records_text l)) (sym (done.1 ∙ ap (λ (l : List Record). done.0 ++ l) (c.in_default.ensures.none refl) ∙ append-nil done.0))

pub returns-clause-covers : goal.returns-clause-covers
returns-clause-covers g c =
    let done = c.loop-kind.invariant in
    let all : done.0 ≡ g.R.Records.left c.args.records.now = sym (done.1 ∙ ap (λ (l : List Record). done.0 ++ l) (c.in_default.ensures.none refl) ∙ append-nil done.0) in
    subst (λ (l : List Record). Covers {E = DiskFault} g.D.Disk (length l) c.args.gate (records_text l) c.args.disk.now c.loop-kind.disk (Ok c.loop-kind.place)) all
    (covers_ok g.D.Disk c.loop-kind.place c.loop-kind.place (length done.0) c.args.gate (records_text done.0) c.args.disk.now c.loop-kind.disk done.3)

pub loop-kind-smaller : goal.loop-kind-smaller
loop-kind-smaller g c =
    omega (arith, ap length c.in-Some.ensures.some)

-- the octets of one record more
text_more : (done : List Record) (entry : Record) (text : List ℕ) → text ≡ records_text (entry ∷ []) → records_text (done ++ entry ∷ []) ≡ records_text done ++ text
text_more done entry text is = records_text-append done (entry ∷ []) ∙ ap (λ (l : List ℕ). records_text done ++ l) (sym is)

-- the part of them that is done is no longer than all
done_within : (all done left : List Record) → all ≡ done ++ left → (length done ≤ length all) × (length (records_text done) ≤ length (records_text all))
done_within all done left is = (
  omega (arith, ap length is, length-append done left),
  omega (arith, ap (λ (l : List Record). length (records_text l)) is, ap length (records_text-append done left), length-append (records_text done) (records_text left)),
)

pub returns-in_err-write_at-clause-covers : goal.returns-in_err-write_at-clause-covers
returns-in_err-write_at-clause-covers g c =
    let D = g.D.Disk in
    let done = c.loop-kind.invariant in
    let len = c.content.inside.len in
    let entry = record_of c.in-Some.kind (take len (drop 4 c.content.inside.text)) in
    let first : g.R.Records.left c.loop-kind.records ≡ entry ∷ g.R.Records.left c.next.new.self =
    c.in-Some.ensures.some ∙ ap (λ (l : List ℕ). record_of c.in-Some.kind l ∷ g.R.Records.left c.next.new.self) (sym c.content.view_is) in
    let within = done_within _ (done.0 ++ entry ∷ []) _ (done_more _ done.0 _ (g.R.Records.left c.next.new.self) entry done.1 first) in
    covers_failed D c.write_at.result c.from_residual.result (length (done.0 ++ entry ∷ [])) (length (g.R.Records.left c.args.records.now)) c.args.gate (records_text (done.0 ++ entry ∷ []))
    (records_text (g.R.Records.left c.args.records.now)) c.args.disk.now c.write_at.new.self within.0 within.1 (search rules) (search rules)
    (covers_next D g.met.D.Disk.lasts_on c.loop-kind.place c.write_at.result (length done.0) c.args.gate (records_text done.0) (take (4 + len) c.close_text.new.text) c.args.disk.now c.loop-kind.disk c.write_at.new.self
    c.loop-kind.place (length (done.0 ++ entry ∷ [])) (records_text (done.0 ++ entry ∷ [])) done.2 (length-append done.0 (entry ∷ [])) (text_more done.0 entry _ (text_of entry len c.close_text.new.text c.close_text.ensures.text c.close_text.ensures.size))
    done.3 c.write_at.ensures.written c.write_at.ensures.torn c.write_at.ensures.moment c.write_at.ensures.past
    (puts_once D c.write_at.result c.loop-kind.disk c.write_at.new.self (g.met.D.Disk.lasts_same c.loop-kind.disk) (c.write_at.ensures.untold, c.write_at.ensures.told) c.write_at.ensures.read_faults
    c.write_at.ensures.write_faults c.write_at.ensures.moment.at_most c.write_at.ensures.past c.write_at.ensures.lasts))

pub loop-kind-preserved : goal.loop-kind-preserved
loop-kind-preserved g c =
    let D = g.D.Disk in
    let done = c.loop-kind.invariant in
    let len = c.content.inside.len in
    let entry = record_of c.in-Some.kind (take len (drop 4 c.content.inside.text)) in
    let text = text_of entry len c.close_text.new.text c.close_text.ensures.text c.close_text.ensures.size in
    let first : g.R.Records.left c.loop-kind.records ≡ entry ∷ g.R.Records.left c.next.new.self =
    c.in-Some.ensures.some ∙ ap (λ (l : List ℕ). record_of c.in-Some.kind l ∷ g.R.Records.left c.next.new.self) (sym c.content.view_is) in
    let written = c.in_ok-write_at.ensures in (
      done.0 ++ entry ∷ [],
      done_more _ done.0 _ (g.R.Records.left c.next.new.self) entry done.1 first,
      omega (arith, done.2, ap length (text_more done.0 entry _ text), length-append (records_text done.0) (take (4 + len) c.close_text.new.text)),
      covers_ok D c.in_ok-write_at.field-0 _ (length (done.0 ++ entry ∷ [])) c.args.gate (records_text (done.0 ++ entry ∷ [])) c.args.disk.now c.write_at.new.self
          (covers_next D g.met.D.Disk.lasts_on c.loop-kind.place (Ok c.in_ok-write_at.field-0) (length done.0) c.args.gate (records_text done.0) (take (4 + len) c.close_text.new.text) c.args.disk.now c.loop-kind.disk
          c.write_at.new.self c.loop-kind.place (length (done.0 ++ entry ∷ [])) (records_text (done.0 ++ entry ∷ [])) done.2 (length-append done.0 (entry ∷ [])) (text_more done.0 entry _ text)
          done.3 written.written written.torn written.moment written.past
          (puts_once D (Ok c.in_ok-write_at.field-0) c.loop-kind.disk c.write_at.new.self (g.met.D.Disk.lasts_same c.loop-kind.disk) (written.untold, written.told) written.read_faults
          written.write_faults written.moment.at_most written.past written.lasts)),
    )
