use Rattle.std.proofs.Common.{length, sym, subst}
use Rattle.pfh_reader.proofs.Names.{ne_eqb, item_value, Says16}
use Rattle.pfh_reader.proofs.ClaimsLemmas.{says16-other, says16-item, says16-long}
use Rattle.pfh_reader.proofs.claims.noted16.Goals as goal

pub returns-then-item-id : goal.returns-then-item-id
returns-then-item-id c items says =
    says16-other items (item_value c.args.item.now) c.args.id c.args.number (ne_eqb c.args.item.now.id c.args.id c.if-item-id.true) says

pub returns-then-item-eq2 : goal.returns-then-item-eq2
returns-then-item-eq2 c items says =
    subst (Says16 _ c.args.id) (sym c.le16.ensures) (says16-item items (item_value c.args.item.now) c.args.id c.if-item-id.false)

pub returns-else-item-eq2 : goal.returns-else-item-eq2
returns-else-item-eq2 c items says =
    says16-long items (item_value c.args.item.now) c.args.id c.args.number (ne_eqb (length c.args.item.now.bytes.now) 2 c.if-item-eq2.false) says
