use Rattle.std.proofs.Common.{◌∙◌, sym, subst}
use Rattle.air_rehearsal.proofs.Names.{List, AreFresh, cuts_by}
use Rattle.air_rehearsal.proofs.rehearsing.rehearse.Goals as goal

pub rehearse_over-requires : goal.rehearse_over-requires
rehearse_over-requires g c =
    subst
    (λ (bench : List _). AreFresh g.B.Disk
    (cuts_by g.B.CutDisk.restarts g.B.CutDisk.arming g.B.CutDisk.plain g.B.CutDisk.is_starved) bench)
    (sym c.as_mut_slice.ensures.value ∙ c.in-Some.ensures.cases.0) c.requires
