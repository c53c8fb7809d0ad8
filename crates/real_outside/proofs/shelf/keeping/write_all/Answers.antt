use Rattle.std.proofs.Common.{◌≡◌, ℕ, ◌+◌, ◌<◌, ◌≤◌, List, length, drop, Ok, Err, ap, subst, arith, length-drop}
use Rattle.real_outside.proofs.Names.{drop_all, take_rest, Asks, WritesFrom, WritesSome, asks_as, asks_then}
use Rattle.real_outside.proofs.Errors.{handed_on}
use Rattle.real_outside.proofs.WriteByWrite.{Leads, leads_end, leads_last, leads_more}
use Rattle.real_outside.proofs.shelf.keeping.write_all.Goals as goal

pub returns-in_err-written : goal.returns-in_err-written
returns-in_err-written g c =
    let calls_of = g.S.FileSystem.calls in
    let file = g.S.FileSystem.number c.args.file.now in
    let bytes = c.args.bytes.now in
    let done = c.loop-written.written in
    let error = c.in_err-written.field-0.0 in
    let result = c.from_residual.result in
    let is : result ≡ Err error = handed_on result error c.from_residual.ensures in
    let left : length bytes ≡ done + length (drop done bytes) = omega (arith, length-drop done bytes, c.loop-written-test.true) in
    let some : 0 < length (drop done bytes) = omega (arith, left, c.loop-written-test.true) in
    asks_then (Leads bytes file done) (WritesSome done (drop done bytes) (Err error) file) (WritesFrom 0 bytes result file)
    (calls_of c.args.files.now) (calls_of c.loop-written.files) (calls_of c.write_some.new.files)
    (λ first piece leads writes. rw is (leads_last bytes file done error first piece some writes leads))
    c.loop-written.invariant.reaches
    (subst (λ (l : List ℕ). Asks (calls_of c.loop-written.files) (calls_of c.write_some.new.files) (WritesSome done l (Err error) file)) (take_rest bytes done) c.in_err-written.ensures.writes)

pub loop-written-preserved : goal.loop-written-preserved
loop-written-preserved g c =
    let calls_of = g.S.FileSystem.calls in
    let file = g.S.FileSystem.number c.args.file.now in
    let bytes = c.args.bytes.now in
    let done = c.loop-written.written in
    let count = c.in_ok-written.field-0 in
    let left : length bytes ≡ done + length (drop done bytes) = omega (arith, length-drop done bytes, c.loop-written-test.true) in
    let some : 0 < length (drop done bytes) = omega (arith, left, c.loop-written-test.true) in
    record {
      within = omega (arith, c.in_ok-written.ensures.count, ap length (take_rest bytes done), length-drop done bytes, c.loop-written-test.true);
      reaches =
          asks_then (Leads bytes file done) (WritesSome done (drop done bytes) (Ok count) file) (Leads bytes file (done + count))
          (calls_of c.args.files.now) (calls_of c.loop-written.files) (calls_of c.write_some.new.files)
          (λ first piece leads writes. leads_more bytes file done count first piece some writes leads)
          c.loop-written.invariant.reaches
          (subst (λ (l : List ℕ). Asks (calls_of c.loop-written.files) (calls_of c.write_some.new.files) (WritesSome done l (Ok count) file)) (take_rest bytes done) c.in_ok-written.ensures.writes);
    }

pub returns : goal.returns
returns g c =
    let calls_of = g.S.FileSystem.calls in
    let file = g.S.FileSystem.number c.args.file.now in
    let bytes = c.args.bytes.now in
    let done = c.loop-written.written in
    let all : length bytes ≤ done = omega arith in
    asks_as (Leads bytes file done) (WritesFrom 0 bytes (Ok tt) file) (calls_of c.args.files.now) (calls_of c.loop-written.files)
    (λ calls leads. leads_end bytes file done calls (drop_all done bytes all) leads)
    c.loop-written.invariant.reaches
