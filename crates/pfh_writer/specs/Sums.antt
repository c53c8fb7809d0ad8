-- The sums of items' data, before and after a server fills them in.
use Rattle.std.specs.Prelude.{ℕ, List, sum, sum_by, length, unwrap_or}
use Rattle.pfh_items.specs.Layout.{ItemValue}
use Rattle.pfh_items.specs.Stamp.{StampValue}
use Rattle.pfh_writer.specs.Stamping.{server_data}

-- the item with the data that the server gives it
abbrev pub filled_item : StampValue → ItemValue → ItemValue
filled_item stamp item = record { id = item.id; content = unwrap_or (server_data stamp item.id (length item.content)) item.content }

-- the sum of all octets of the items' data
abbrev pub data_sum : List ItemValue → ℕ
data_sum items = sum_by (λ item. sum item.content) items
