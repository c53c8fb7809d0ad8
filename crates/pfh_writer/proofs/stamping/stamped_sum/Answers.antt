use Rattle.std.proofs.Common.{◌≡◌, List, ◌++◌, length, sym, ap, ◌∙◌, arith}
use Rattle.pfh_writer.proofs.Names.{IsCall, ItemValue, ItemList, stamped_sum, stamp_of}
use Rattle.pfh_writer.proofs.FilledLemmas.{number_lens}
use Rattle.pfh_writer.proofs.SumLemmas.{renewed-stamped_sum, same_walk}
use Rattle.pfh_writer.proofs.WholeLemmas.{header_is, walk_of_header}
use Rattle.pfh_writer.proofs.stamping.stamped_sum.Goals as goal

pub items_of-requires : goal.items_of-requires
items_of-requires c =
    let len = ap length (header_is c.requires.0 c.requires.1 c.args.old.now c.requires.2) in
    omega arith

pub returns : goal.returns
returns c = λ items is.
    let call : IsCall c.args.by = c.new.ensures.call in
    let of_file = header_is c.requires.0 c.requires.1 c.args.old.now c.requires.2 in
    let walk : c.items_of.result.items ≡ c.requires.0 =
    ap (λ (w : ItemList). w.items) c.items_of.ensures ∙ walk_of_header c.requires.0 c.args.old.now c.requires.2.file_text.are_items of_file in
    let same : c.requires.0 ≡ items = sym (walk_of_header c.requires.0 c.args.old.now c.requires.2.file_text.are_items of_file) ∙ walk_of_header items c.args.old.now is.are_items is.text in
    renewed-stamped_sum (record { number = c.args.number; by = c.args.by; moment = c.args.moment }) call c.requires.0 c.args.sums.now.header_sum c.renewed_sum.result
    (number_lens c.requires.0 c.requires.1 (c.args.old.now ++ c.requires.1) c.requires.2) c.requires.3 c.renewed_sum.type_inv
    (same_walk (stamp_of c.new.result) (record { number = c.args.number; by = c.args.by; moment = c.args.moment }) c.items_of.result.items c.requires.0
    c.args.sums.now.header_sum c.renewed_sum.result c.new.ensures.items walk c.renewed_sum.ensures)
    ∙ ap (λ (l : List ItemValue). stamped_sum (record { number = c.args.number; by = c.args.by; moment = c.args.moment }) l) same
