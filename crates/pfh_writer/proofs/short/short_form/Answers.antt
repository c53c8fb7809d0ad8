-- The sum is put in its place.
use Rattle.std.proofs.Common.{List, ℕ, ◌++◌, take, drop, sym, ap, ◌∙◌, subst}
use Rattle.pfh_writer.proofs.Names.{sum16, HeaderText}
use Rattle.pfh_writer.proofs.ShortLemmas.{sum-put, with_sum}
use Rattle.pfh_writer.proofs.short.short_form.Goals as goal

pub returns : goal.returns
returns c =
    let items = c.args.header.now.items in
    let form = c.copy_from_slice.new.self in
    let is : HeaderText (with_sum items 0) form = subst (HeaderText (with_sum items 0)) (sym (c.copy_from_slice.ensures.after ∙ c.as_slice.ensures.value)) c.form_of.ensures.text in
    let put : List ℕ = take 63 form ++ ((c.copy_from_slice-2).new.self ++ drop 2 (drop 63 form)) in
    subst (λ (s : ℕ). HeaderText (with_sum items s) put) (c.sum16-sum.ensures ∙ ap sum16 is.text)
    (subst (λ (octets : List ℕ). HeaderText (with_sum items c.sum16-sum.result) (take 63 form ++ (octets ++ drop 2 (drop 63 form)))) (sym ((c.copy_from_slice-2).ensures.after ∙ c.octets16.ensures))
    (sum-put items c.requires form c.sum16-sum.result is))
