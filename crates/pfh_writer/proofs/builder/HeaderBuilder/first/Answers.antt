use Rattle.std.proofs.Common.{◌≡◌, ℕ, ◌++◌, sym, ap, ◌∙◌, subst, ◌==◌, false, refl}
use Rattle.pfh_writer.proofs.Names.{eq-eqb, false≢true, le16_octets, with_content, AreItems, header_start, items_text, BuilderValue, mandatory_saying}
use Rattle.pfh_writer.proofs.BuiltLemmas.{first_text}
use Rattle.pfh_writer.proofs.builder.HeaderBuilder.first.Goals as goal

pub returns-clause-text : goal.returns-clause-text
returns-clause-text c =
    first_text _ c.args.says.file_size c.args.says.body_sum c.args.says.body_offset c.args.header_sum _ _ _ _ _ _ _ _ _ _ _ _ _ c.new-text.ensures
    c.push_octets.ensures.text c.push_item32.ensures.text c.push_item.ensures.text c.push_item-2.ensures.text c.push_item32-2.ensures.text
    c.push_item32-3.ensures.text c.push_item32-4.ensures.text c.push_item-3.ensures.text c.push_item-4.ensures.text c.push_item16.ensures.text
    c.push_item16-2.ensures.text c.push_item16-3.ensures.text
    ∙ ap
    (λ (b : BuilderValue). header_start ++ items_text (with_content 0x0A (le16_octets c.args.header_sum) (mandatory_saying b c.args.says.file_size c.args.says.body_sum c.args.says.body_offset)))
    c.self.view_is

some : (id : ℕ) → (id == 0) ≡ false → id ≡ 0 → ⊥
some id t e = false≢true (sym t ∙ eq-eqb id 0 e)

pub returns-clause-items : goal.returns-clause-items
unfolding mandatory_saying
returns-clause-items c =
    subst
    (λ (b : BuilderValue). AreItems (with_content 0x0A (le16_octets c.args.header_sum) (mandatory_saying b c.args.says.file_size c.args.says.body_sum c.args.says.body_offset)))
    c.self.view_is (
      c.push_item32.ensures.item (some 0x01 refl),
      (
        c.push_item.ensures.item (some 0x02 refl),
        (
          c.push_item-2.ensures.item (some 0x03 refl),
          (
            c.push_item32-2.ensures.item (some 0x04 refl),
            (
              c.push_item32-3.ensures.item (some 0x05 refl),
              (
                c.push_item32-4.ensures.item (some 0x06 refl),
                (
                  c.push_item-3.ensures.item (some 0x07 refl),
                  (
                    c.push_item-4.ensures.item (some 0x08 refl),
                    (
                      c.push_item16.ensures.item (some 0x09 refl),
                      (c.push_item16-2.ensures.item (some 0x0A refl), (c.push_item16-3.ensures.item (some 0x0B refl), tt)),
                    ),
                  ),
                ),
              ),
            ),
          ),
        ),
      ),
    )
