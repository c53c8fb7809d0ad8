-- The first test that fails is the first rule that the file breaks.
use Rattle.std.proofs.Common.{true, false, refl, sym, ◌∙◌}
use Rattle.pfh_reader.proofs.Names.{eq-eqb, ne_eqb, fits_file, body_test, chosen-by, header_test}
use Rattle.pfh_reader.proofs.FaultLemmas.{mandatory_test, fits_test, header_sum_test, body_sum_test}
use Rattle.pfh_reader.proofs.claims.Claims.fault.Goals as goal

pub returns-then-not-all_stand : goal.returns-then-not-all_stand
returns-then-not-all_stand c items body are is of =
    sym (chosen-by items body false (fits_file items body) (header_test items) (body_test items body) (sym (mandatory_test items body c.args.self.now c.args.measures.now is of) ∙ sym c.all_stand.ensures ∙ c.if-not-all_stand.true) refl refl refl)

pub returns-then-not-fits : goal.returns-then-not-fits
returns-then-not-fits c items body are is of =
    sym (chosen-by items body true false (header_test items) (body_test items body) (sym (mandatory_test items body c.args.self.now c.args.measures.now is of) ∙ sym c.all_stand.ensures ∙ c.if-not-all_stand.false)
    (sym (fits_test items body c.args.self.now c.args.measures.now is of) ∙ sym c.fits.ensures ∙ c.if-not-fits.true) refl refl)

pub returns-then-self-sum_without_own : goal.returns-then-self-sum_without_own
returns-then-self-sum_without_own c items body are is of =
    let fits = sym (fits_test items body c.args.self.now c.args.measures.now is of) ∙ sym c.fits.ensures ∙ c.if-not-fits.false in
    sym (chosen-by items body true true false (body_test items body) (sym (mandatory_test items body c.args.self.now c.args.measures.now is of) ∙ sym c.all_stand.ensures ∙ c.if-not-all_stand.false) fits
    (sym (header_sum_test items body c.args.self.now c.args.measures.now is of are fits) ∙ ne_eqb _ _ (λ e. c.if-self-sum_without_own.true (e ∙ sym c.sum_without_own.ensures))) refl)

pub returns-then-self-measures : goal.returns-then-self-measures
returns-then-self-measures c items body are is of =
    let fits = sym (fits_test items body c.args.self.now c.args.measures.now is of) ∙ sym c.fits.ensures ∙ c.if-not-fits.false in
    sym (chosen-by items body true true true false (sym (mandatory_test items body c.args.self.now c.args.measures.now is of) ∙ sym c.all_stand.ensures ∙ c.if-not-all_stand.false) fits
    (sym (header_sum_test items body c.args.self.now c.args.measures.now is of are fits) ∙ eq-eqb _ _ (c.if-self-sum_without_own.false ∙ c.sum_without_own.ensures)) (sym (body_sum_test items body c.args.self.now c.args.measures.now is of fits) ∙ ne_eqb _ _ c.if-self-measures.true))

pub returns-else-self-measures : goal.returns-else-self-measures
returns-else-self-measures c items body are is of =
    let fits = sym (fits_test items body c.args.self.now c.args.measures.now is of) ∙ sym c.fits.ensures ∙ c.if-not-fits.false in
    sym (chosen-by items body true true true true (sym (mandatory_test items body c.args.self.now c.args.measures.now is of) ∙ sym c.all_stand.ensures ∙ c.if-not-all_stand.false) fits
    (sym (header_sum_test items body c.args.self.now c.args.measures.now is of are fits) ∙ eq-eqb _ _ (c.if-self-sum_without_own.false ∙ c.sum_without_own.ensures)) (sym (body_sum_test items body c.args.self.now c.args.measures.now is of fits) ∙ eq-eqb _ _ c.if-self-measures.false))
