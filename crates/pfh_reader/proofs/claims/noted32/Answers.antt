use Rattle.std.proofs.Common.{length, sym, subst}
use Rattle.pfh_reader.proofs.Names.{ne_eqb, item_value, Says32}
use Rattle.pfh_reader.proofs.ClaimsLemmas.{says32-other, says32-item, says32-long}
use Rattle.pfh_reader.proofs.claims.noted32.Goals as goal

pub returns-then-item-id : goal.returns-then-item-id
returns-then-item-id c items says =
    says32-other items (item_value c.args.item.now) c.args.id c.args.number (ne_eqb c.args.item.now.id c.args.id c.if-item-id.true) says

pub returns-then-item-eq4 : goal.returns-then-item-eq4
returns-then-item-eq4 c items says =
    subst (Says32 _ c.args.id) (sym c.le32.ensures) (says32-item items (item_value c.args.item.now) c.args.id c.if-item-id.false)

pub returns-else-item-eq4 : goal.returns-else-item-eq4
returns-else-item-eq4 c items says =
    says32-long items (item_value c.args.item.now) c.args.id c.args.number (ne_eqb (length c.args.item.now.bytes.now) 4 c.if-item-eq4.false) says
