use Rattle.std.proofs.Common.{◌≡◌, ◌-◌, ℕ, List, drop, length, rules, take, ap, ◌∙◌}
use Rattle.ftl0_client_job.proofs.Names.{Upload}
use Rattle.ftl0_client_job.proofs.DueLemmas.{part-is}
use Rattle.ftl0_client_job.proofs.upload.Upload.part_at.Goals as goal

pub returns : goal.returns
returns c =
    let shown = c.as_slice.result.now in
    let first : List ℕ = take c.min.result (take (length shown - c.args.place) (drop c.args.place shown)) in
    let ext : c.try_extend_from_slice.new.self.items ≡ first = search rules in
    ext ∙ part-is c.args.self.now.file shown c.args.place c.min.result (c.as_slice.ensures ∙ ap (λ (u : Upload). u.file) c.self.view_is) c.min.ensures
