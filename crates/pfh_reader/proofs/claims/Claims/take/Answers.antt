-- What is kept of items and one more.
use Rattle.std.proofs.Common.{List, ap, ◌∙◌}
use Rattle.pfh_reader.proofs.Names.{mandatory_items, item_value, Standing, noted}
use Rattle.pfh_reader.proofs.ClaimsLemmas.{standings-more}
use Rattle.pfh_reader.proofs.claims.Claims.take.Goals as goal

pub returns : goal.returns
returns c items is = record {
  standing =
      c.note_standing.ensures
      ∙ ap (λ (s : List Standing). noted s mandatory_items (item_value c.args.item.now)) is.standing
      ∙ standings-more mandatory_items items (item_value c.args.item.now);
  file_size = c.noted32-self.ensures items is.file_size;
  body_sum = c.noted16-self.ensures items is.body_sum;
  header_sum = c.noted16-self-2.ensures items is.header_sum;
  body_offset = c.noted16-self-3.ensures items is.body_offset;
}
