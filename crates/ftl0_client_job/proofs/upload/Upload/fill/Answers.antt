use Rattle.std.proofs.Common.{◌≡◌, ◌+◌, ◌-◌, ◌<◌, ◌≤◌, ℕ, List, drop, length, min, take, true, sym, ap, ◌∙◌, subst, arith}
use Rattle.std.specs.Prelude.{◌==◌}
use Rattle.ftl0_client_job.specs.declared.phases.UploadPhase.TheVariants as phase
use Rattle.ftl0_client_job.proofs.Names.{false, nat_tests, data_part, packet_text, PutsDue, upload_due, IsWithin, Upload, in_phase}
use Rattle.ftl0_client_job.proofs.DueLemmas.{due-data, part-len}
use Rattle.ftl0_client_job.proofs.upload.Upload.fill.Goals as goal

pub invariant_of-self-else-is_empty : goal.invariant_of-self-else-is_empty
invariant_of-self-else-is_empty c =
    let file = c.self.inside.file in
    let within = subst (IsWithin (length file)) c.in-Sending.is c.self.invariant.1 in
    let least : 1 ≤ c.in-Sending.number = within.0 in
    let most : c.in-Sending.place ≤ length file = within.1 in
    let part : c.part_at-part.result.items ≡ take 254 (drop c.in-Sending.place file) =
    c.part_at-part.ensures ∙ ap (λ (u : Upload). take 254 (drop c.in-Sending.place u.file)) (sym c.self.view_is) in
    let len : c.len.result ≡ min 254 (length file - c.in-Sending.place) = c.len.ensures.value ∙ ap length part ∙ part-len file c.in-Sending.place in
    (c.self.invariant.0, (least, omega (arith, len, most)))

pub returns-else-is_empty : goal.returns-else-is_empty
returns-else-is_empty c =
    let inside = c.self.inside in
    let at : Upload = record { task = inside.task; known = inside.known; file = inside.file; phase = inside.phase } in
    let part = c.part_at-part.result.items in
    let is : part ≡ take 254 (drop c.in-Sending.place inside.file) =
    c.part_at-part.ensures ∙ ap (λ (u : Upload). take 254 (drop c.in-Sending.place u.file)) (sym c.self.view_is) in
    let test : (length part == 0) ≡ false = sym c.if-is_empty.ensures in
    let some : 0 < length part = grind (arith, nat_tests) in
    let text = c.write_packet-else-is_empty.ensures.text ∙ ap (λ (os : List ℕ). packet_text (data_part os)) c.deref.ensures.0 in
    let due = due-data at c.in-Sending.number c.in-Sending.place part c.args.out.now.items c.write_packet-else-is_empty.new.out.items c.in-Sending.is is some text in
    let P : Upload → Type 0 = λ u. PutsDue (upload_due u) true u (in_phase at (phase.Sending c.in-Sending.number (c.in-Sending.place + c.len.result))) c.args.out.now.items
    c.write_packet-else-is_empty.new.out.items in
    let Q : ℕ → Type 0 = λ n. PutsDue (upload_due at) true at (in_phase at (phase.Sending c.in-Sending.number (c.in-Sending.place + n))) c.args.out.now.items c.write_packet-else-is_empty.new.out.items in
    subst P c.self.view_is (subst Q (sym c.len.ensures.value) due)
