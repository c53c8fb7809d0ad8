use Rattle.std.proofs.Common.{◌≡◌, List, ℕ, sym, ◌∙◌, subst}
use Rattle.std.specs.Vec.{with_items}
use Rattle.file_store_blocks.proofs.Names.{on_ok_weaker, with_items_is, IsSealedHeader, sealed_octets}
use Rattle.file_store_blocks.proofs.header_reading.read_header.Goals as goal

pub returns-clause-header : goal.returns-clause-header
returns-clause-header g c =
    let new_is : (with_items c.resize.new.self c.read_into.new.room).items ≡ c.read_into.new.room =
    with_items_is c.resize.new.self c.read_into.new.room (c.read_into.auto.room ∙ c.as_mut_slice.ensures.len) in
    on_ok_weaker c.read_into.result (λ given told.
    subst (λ (l : List ℕ). IsSealedHeader (sealed_octets (g.D.Disk.content c.args.disk.now) c.args.table.now c.args.file.now) l)
    (sym new_is) (given told)) c.read_into.ensures.header
