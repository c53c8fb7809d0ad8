-- The upload stops; or it comes to an outcome, which is that the file was acknowledged.
use Rattle.std.proofs.Common.{sym, ◌∙◌}
use Rattle.uploader.proofs.Names.{listing_in}
use Rattle.uploader.proofs.CarryLemmas.{acked-alone}
use Rattle.uploader.proofs.sending.upload.Goals as goal

pub unreachable-requires : goal.unreachable-requires
unreachable-requires g c =
    let h = c.carry_out-client.ensures.carried c.some_law.ensures.0 c.some_law.ensures.1 in
    let end = c.carry_out-client.result.0 in
    let acked = acked-alone end.notes.lists c.args.job.work (listing_in end.attempt) h.run.ended h.run.reached _ c.requires.upload h.became.promises (sym h.answer ∙ c.in-Ok.is) in
    c.in_default.not-Acked acked.0 acked.1
