use Rattle.std.proofs.Common.{ℕ, ◌<◌, arith, refl, subst, sym}
use Rattle.ax25_frames.specs.declared.control.Control.TheVariants as control
use Rattle.ax25_frames.proofs.Names.{All-from_get_or, IsOctets, FitsControl}
use Rattle.ax25_frames.proofs.KindLemmas.{fits_information}
use Rattle.ax25_frames.proofs.reader.read_kind.Goals as goal

pub returns-in_ok-pid-in-I-clause-fits : goal.returns-in_ok-pid-in-I-clause-fits
returns-in_ok-pid-in-I-clause-fits c =
    let are : IsOctets c.args.rest.now = All-from_get_or (λ (octet : ℕ). octet < 256) c.args.rest.now 0 (λ i below. omega (arith, c.type_inv.rest i)) in
    fits_information (control.I c.in-I.ns c.in-I.nr) c.in_ok-pid-in-I.pid c.in_ok-pid-in-I.info.now (subst FitsControl c.in-I.is c.requires) refl
    (subst IsOctets (sym c.in_ok-pid-in-I.ensures.octets) are) c.in_ok-pid-in-I.ensures.most

pub returns-in_ok-pid-in-Ui-clause-fits : goal.returns-in_ok-pid-in-Ui-clause-fits
returns-in_ok-pid-in-Ui-clause-fits c =
    let are : IsOctets c.args.rest.now = All-from_get_or (λ (octet : ℕ). octet < 256) c.args.rest.now 0 (λ i below. omega (arith, c.type_inv.rest i)) in
    fits_information control.Ui c.in_ok-pid-in-Ui.pid c.in_ok-pid-in-Ui.info.now tt refl
    (subst IsOctets (sym c.in_ok-pid-in-Ui.ensures.octets) are) c.in_ok-pid-in-Ui.ensures.most
