-- How a stamper goes on by one octet.
use Rattle.std.specs.Prelude.{ℕ, ◌+◌, ◌*◌, ◌==◌, List, nat_lt, if◌then◌else◌, Option, Some, None, slice_index_or}
use Rattle.pfh_items.specs.Stamp.{StampValue}
use Rattle.pfh_writer.specs.declared.stamper.Stage.{Stage}
use Rattle.pfh_writer.specs.declared.stamper.Stage.TheVariants.{Start, Begun, ItemStart, IdCut, IdRead, InData, Body}
use Rattle.pfh_writer.specs.Stamping.{fixed_data}

-- where it stands after an item's id and its length
abbrev pub stage_after_len : ℕ → ℕ → Stage
stage_after_len id len = if len == 0 then (if id == 0 then Body else ItemStart) else InData id len 0

-- where it stands after one octet more
abbrev pub stage_after : Stage → ℕ → Stage
stage_after Start octet = Begun
stage_after Begun octet = ItemStart
stage_after ItemStart octet = IdCut octet
stage_after (IdCut low) octet = IdRead (low + 256 * octet)
stage_after (IdRead id) octet = stage_after_len id octet
stage_after (InData id len at) octet = if nat_lt (at + 1) len then InData id len (at + 1) else ItemStart
stage_after Body octet = Body

-- the octet at this place of the data, if there is data, or else this one
abbrev pub octet_in : Option (List ℕ) → ℕ → ℕ → ℕ
octet_in None at octet = octet
octet_in (Some content) at octet = slice_index_or content at octet

-- the octet that it gives in the place of this
abbrev pub octet_given : StampValue → ℕ → Stage → ℕ → ℕ
octet_given stamp sum Start octet = octet
octet_given stamp sum Begun octet = octet
octet_given stamp sum ItemStart octet = octet
octet_given stamp sum (IdCut low) octet = octet
octet_given stamp sum (IdRead id) octet = octet
octet_given stamp sum (InData id len at) octet = octet_in (fixed_data stamp sum id len) at octet
octet_given stamp sum Body octet = octet
