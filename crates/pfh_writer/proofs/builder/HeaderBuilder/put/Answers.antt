use Rattle.std.proofs.Common.{rules, ◌≡◌, ◌≤◌, length, ℕ, [], ◌∷◌, ◌++◌, List, None, sym, ap, ◌∙◌, arith}
use Rattle.pfh_writer.proofs.Names.{ItemValue, item_text, items_from, AreOthers, BuilderValue, item, put_refusal}
use Rattle.pfh_writer.proofs.OthersLemmas.{IsOctets-of, put_item, put_optional, more_others, others_read, read_back}
use Rattle.pfh_writer.proofs.builder.HeaderBuilder.put.Goals as goal

more : (c : goal.In_ok-append) → AreOthers c.append.new.self ((items_from 0 c.self.inside.others).items ++ item c.args.id c.args.bytes.now ∷ [])
more c =
    let none : put_refusal c.args.self.now.others c.args.id c.args.bytes.now ≡ None = sym c.in_default.ensures.refusal in
    let most : length c.args.bytes.now ≤ 255 = c.in_default.ensures.short (search rules) in
    let octets = IsOctets-of c.args.bytes.now (λ i. omega (arith, c.type_inv.bytes i)) in
    let text : c.append.new.self ≡ c.self.inside.others ++ item_text (item c.args.id c.args.bytes.now) =
    c.in_ok-append.ensures.ok
    ∙ ap (λ (t : List ℕ). c.self.inside.others ++ t)
    (c.as_slice.ensures.value ∙ c.push_item.ensures.text ∙ ap (λ (t : List ℕ). t ++ item_text (item c.args.id c.args.bytes.now)) c.new-text.ensures) in
    more_others c.self.inside.others c.append.new.self (items_from 0 c.self.inside.others).items (item c.args.id c.args.bytes.now) c.self.invariant
    (put_item c.args.self.now.others c.args.id c.args.bytes.now none (omega (arith, c.ranges.id)) octets most)
    (put_optional c.args.self.now.others c.args.id c.args.bytes.now none) text

pub invariant_of-self-2 : goal.invariant_of-self-2
invariant_of-self-2 c = others_read c.append.new.self ((items_from 0 c.self.inside.others).items ++ item c.args.id c.args.bytes.now ∷ []) (more c)

pub returns-clause-ok : goal.returns-clause-ok
returns-clause-ok c =
    let inside = c.self.inside in
    ap
    (λ (l : List ItemValue). record { name = c.self.inside.name; ext = c.self.inside.ext; created = c.self.inside.created; modified = c.self.inside.modified; seu = c.self.inside.seu; file_type = c.self.inside.file_type; others = l })
    (read_back ((items_from 0 c.self.inside.others).items ++ item c.args.id c.args.bytes.now ∷ []) c.append.new.self (more c).are_items (more c).text)
    ∙ ap
    (λ (b : BuilderValue). record { name = b.name; ext = b.ext; created = b.created; modified = b.modified; seu = b.seu; file_type = b.file_type; others = b.others ++ item c.args.id c.args.bytes.now ∷ [] })
    c.self.view_is
