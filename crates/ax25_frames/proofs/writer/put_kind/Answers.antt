-- The kinds with information have their ranges.
use Rattle.std.proofs.Common.{inl, inr, refl, sym, ap, subst}
use Rattle.ax25_frames.specs.declared.control.Control.TheVariants as control
use Rattle.ax25_frames.proofs.Names.{CanWrite, FitsKind, kind_value}
use Rattle.ax25_frames.proofs.KindLemmas.{fits_information}
use Rattle.ax25_frames.proofs.writer.put_kind.Goals as goal

pub returns-in-I-clause-fits : goal.returns-in-I-clause-fits
returns-in-I-clause-fits c =
    elim c.in-I.is [
      | inl w ↦
          let can = subst CanWrite (ap kind_value w.2) c.requires.kind in
          subst FitsKind (sym (ap kind_value w.2))
          (fits_information (control.I w.0 w.1) c.in-I.pid c.in-I.info.now can.control refl c.put_information.ensures.range (can.most refl))
      | inr e ↦
          let can = subst CanWrite (ap kind_value e) c.requires.kind in
          subst FitsKind (sym (ap kind_value e))
          (fits_information control.Ui c.in-I.pid c.in-I.info.now can.control refl c.put_information.ensures.range (can.most refl))
    ]
