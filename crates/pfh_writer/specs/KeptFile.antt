-- A file as a server keeps it, beside the file that came (PFH 1990).
use Rattle.std.specs.Prelude.{◌≡◌, ℕ, List, length, filter, map, not, None}
use Rattle.px_base.specs.CallSign.{IsCall}
use Rattle.px_base.specs.Octets.{IsOctets}
use Rattle.pfh_items.specs.Faults.{fault_code}
use Rattle.pfh_items.specs.Layout.{ItemValue, FileText}
use Rattle.pfh_items.specs.Stamp.{StampValue, is_server_item, stamped}

-- the items that the server doesn't fill in
abbrev pub client_items : List ItemValue → List ItemValue
client_items items = filter (λ item. not (is_server_item item)) items

-- the ids of the items
abbrev pub ids_of : List ItemValue → List ℕ
ids_of items = map (λ item. item.id) items

-- The file that is kept has no fault, the body of the one that came, items of the same ids in the same order, and those
-- that the server doesn't fill in with the same data.
pub record KeepsClient (came kept : List ℕ) : Type 0 where
  pub faultless : fault_code kept ≡ None
  pub items : List ItemValue
  pub kept_items : List ItemValue
  pub body : List ℕ
  pub came_text : FileText items body came
  pub kept_text : FileText kept_items body kept
  pub ids : ids_of kept_items ≡ ids_of items
  pub client : client_items kept_items ≡ client_items items

-- A file without fault has, once it is stamped, the same length; and, of octets, it keeps what is the client's.
abbrev pub KeptFileLaw : Type 0
KeptFileLaw =
    (stamp : StampValue) (file : List ℕ) → IsCall stamp.by → fault_code file ≡ None
    → (length (stamped stamp file) ≡ length file) × (IsOctets file → KeepsClient file (stamped stamp file))
