-- What a stamper stands for: the octets that it was fed, and those that it gave in their place.
use Rattle.std.specs.Prelude.{◌≡◌, ℕ, ◌<◌, ◌^◌, ◌==◌, List, [], ◌∷◌, ◌++◌, length, map, take, ◌&&◌, if◌then◌else◌, Option, Some, None, unwrap_or}
use Rattle.px_base.specs.CallSign.{IsCall}
use Rattle.px_base.specs.Numbers.{le16_octets, le32_octets}
use Rattle.px_base.specs.Octets.{IsOctets}
use Rattle.pfh_items.specs.Faults.{IsFaultless}
use Rattle.pfh_items.specs.Layout.{ItemValue, AreItems, items_text, end_item}
use Rattle.pfh_items.specs.Stamp.{StampValue, stamped}
use Rattle.pfh_writer.specs.declared.server.ServerItems.{ServerItems}
use Rattle.pfh_writer.specs.declared.stamper.Stage.{Stage}
use Rattle.pfh_writer.specs.declared.stamper.Stage.TheVariants.{Start, Begun, ItemStart, IdCut, IdRead, InData, Body}
use Rattle.pfh_writer.specs.Given.{stamped_sum}

-- what contracts see of a stamper: the stamp, the stamped header's sum, and how far it has come
pub record StamperValue : Type 0 where
  pub stamp : StampValue
  pub sum : ℕ
  pub stage : Stage

-- the stamp of the code's record
abbrev pub stamp_of : ServerItems → StampValue
stamp_of server = record { number = server.number; by = server.by; moment = server.moment }

-- the data that the server gives to an item of this id and of this length, where it gives any
abbrev pub server_data : StampValue → ℕ → ℕ → Option (List ℕ)
server_data stamp id len =
    if (id == 0x01) && (len == 4) then Some (le32_octets stamp.number)
    else if (id == 0x11) && (len == 6) then Some stamp.by.chars
    else if (id == 0x12) && (len == 4) then Some (le32_octets stamp.moment)
    else None

-- the same, with the sum of the stamped header for header_checksum
abbrev pub fixed_data : StampValue → ℕ → ℕ → ℕ → Option (List ℕ)
fixed_data stamp sum id len = if (id == 0x0A) && (len == 2) then Some (le16_octets sum) else server_data stamp id len

-- the data that is given in the place of this
abbrev pub given_data : StampValue → ℕ → ℕ → ℕ → List ℕ → List ℕ
given_data stamp sum id len content = unwrap_or (fixed_data stamp sum id len) content

-- the item that is given in the place of this
abbrev pub given_item : StampValue → ℕ → ItemValue → ItemValue
given_item stamp sum item = record { id = item.id; content = given_data stamp sum item.id (length item.content) item.content }

-- Two octets and the texts of items were fed, and then `cut`; the same two octets and the items in their place were
-- given, and then `given_cut`.
pub record PassesItems (stamp : StampValue) (sum : ℕ) (cut given_cut fed given : List ℕ) : Type 0 where
  pub start : List ℕ
  pub items : List ItemValue
  pub two : length start ≡ 2
  pub are_items : AreItems items
  pub fed_text : fed ≡ start ++ (items_text items ++ cut)
  pub given_text : given ≡ start ++ (items_text (map (given_item stamp sum) items) ++ given_cut)

-- this much stands of an item's data: fewer octets than its length
pub record IsCutData (id len at : ℕ) (content : List ℕ) : Type 0 where
  pub id_below : id < 2 ^ 16
  pub len_below : len < 256
  pub at_below : at < len
  pub octets : IsOctets content
  pub content_len : length content ≡ at

-- Where the octets end in each stage: before the first two; between them; after an item; after one octet of the next
-- item's id; after two; after its length and a part of its data; after the end item, in the body.
abbrev pub StandsAt : StampValue → ℕ → Stage → List ℕ → List ℕ → Type 0
StandsAt stamp sum Start fed given = (fed ≡ []) × (given ≡ [])
StandsAt stamp sum Begun fed given = (length fed ≡ 1) × (given ≡ fed)
StandsAt stamp sum ItemStart fed given = PassesItems stamp sum [] [] fed given
StandsAt stamp sum (IdCut low) fed given = (low < 256) × PassesItems stamp sum (low ∷ []) (low ∷ []) fed given
StandsAt stamp sum (IdRead id) fed given = (id < 2 ^ 16) × PassesItems stamp sum (le16_octets id) (le16_octets id) fed given
StandsAt stamp sum (InData id len at) fed given =
    (content : List ℕ) × IsCutData id len at content
    × PassesItems stamp sum (le16_octets id ++ len ∷ content)
    (le16_octets id ++ len ∷ take at (given_data stamp sum id len content)) fed given
StandsAt stamp sum Body fed given = (body : List ℕ) × PassesItems stamp sum (end_item ++ body) (end_item ++ body) fed given

-- These octets were given in the place of those that were fed. For each file that keeps all rules and begins with the
-- fed ones, and whose stamped header has the stamper's sum, they are as many octets of the stamped file; and where the
-- fed ones are such a file, they are the stamped file.
pub record HasStamped (stamper : StamperValue) (fed given : List ℕ) : Type 0 where
  pub call : IsCall stamper.stamp.by
  pub stands : StandsAt stamper.stamp stamper.sum stamper.stage fed given
  pub front : (items : List ItemValue) (body more : List ℕ) → IsFaultless items body (fed ++ more)
      → stamper.sum ≡ stamped_sum stamper.stamp items → given ≡ take (length fed) (stamped stamper.stamp (fed ++ more))
  pub whole : (items : List ItemValue) (body : List ℕ) → IsFaultless items body fed
      → stamper.sum ≡ stamped_sum stamper.stamp items → given ≡ stamped stamper.stamp fed
