-- The moment that a stamped upload says of itself, and that it may be stamped with that as well.
use Rattle.std.proofs.Common.{◌≡◌, ℕ, ◌/◌, ◌%◌, List, [], ◌∷◌, ◌++◌, map, Option, None, Some, refl, ap, ◌∙◌, arith}
use Rattle.std.specs.Prelude.{if◌then◌else◌}
use Rattle.air_world.proofs.GoodFile.{upload-text}
use Rattle.air_rehearsal.proofs.Names.{CallSign, IsCall, le32, le32_octets, fault_code, file_parts, FileText, HeaderValue, ItemValue, header_text, StampValue, is_number_item, is_upload_time_item, is_uploader_item, renewed, stamped, stamped_item, stamped_items, stamped_parts, AreItems-stamped_items, stamped-text, built_items, mandatory_saying, body_octets, file_header, upload_file, IsStampedFor, IsUpload, moment_in}

-- the moment that four octets say has these octets
said-again : (moment : ℕ) → le32_octets (le32 (le32_octets moment) 0) ≡ le32_octets moment
said-again moment =
    let said : ℕ = le32 (le32_octets moment) 0 in
    let is : said ≡ moment % 4294967296 = omega arith in
    let first : said % 256 ≡ moment % 256 = omega arith in
    let second : said / 256 % 256 ≡ moment / 256 % 256 = omega arith in
    let third : said / 65536 % 256 ≡ moment / 65536 % 256 = omega arith in
    let fourth : said / 16777216 % 256 ≡ moment / 16777216 % 256 = omega arith in
    cc

-- the items of an upload
abbrev pub upload_items : ℕ → ℕ → List ItemValue
upload_items upload count = built_items file_header (body_octets upload count)

-- Once they are stamped they say the moment of the stamp, as 32 bits tell it.
pub upload-moment : (stamp : StampValue) (upload count : ℕ)
    → moment_in (stamped_items stamp (upload_items upload count)) ≡ Some (le32 (le32_octets stamp.moment) 0)
unfolding mandatory_saying
upload-moment stamp upload count = refl

-- An upload that is stamped is the header of its items once they are stamped, and its body.
pub stamped-upload : (stamp : StampValue) (upload count : ℕ) (file octets : List ℕ) → IsCall stamp.by
    → file ≡ upload_file upload count → octets ≡ stamped stamp file
    → FileText (stamped_items stamp (upload_items upload count)) (body_octets upload count) octets
stamped-upload stamp upload count file octets call file_is octets_are =
    let text = upload-text upload count in
    record {
      are_items = AreItems-stamped_items stamp (upload_items upload count) call text.are_items;
      text =
          octets_are ∙ ap (stamped stamp) file_is
          ∙ stamped-text stamp (upload_items upload count) (body_octets upload count) (upload_file upload count) text;
    }

abbrev stamp-at : ℕ → CallSign → ℕ → StampValue
stamp-at number caller moment = record { number = number; by = caller; moment = moment }

module _ (number : ℕ) (caller : CallSign) (one other : ℕ) (same : le32_octets one ≡ le32_octets other) where
  item-alike : (item : ItemValue)
      → stamped_item (stamp-at number caller one) item ≡ stamped_item (stamp-at number caller other) item
  item-alike item =
      ap
      (λ (octets : List ℕ).
      if is_number_item item then record { id = item.id; content = le32_octets number }
      else if is_uploader_item item then record { id = item.id; content = caller.chars }
      else if is_upload_time_item item then record { id = item.id; content = octets }
      else item)
      same

  items-alike : (items : List ItemValue)
      → map (stamped_item (stamp-at number caller one)) items ≡ map (stamped_item (stamp-at number caller other)) items
  items-alike [] = refl
  items-alike (item ∷ items) =
      ap (λ (it : ItemValue). it ∷ map (stamped_item (stamp-at number caller one)) items) (item-alike item)
      ∙ ap (λ (them : List ItemValue). stamped_item (stamp-at number caller other) item ∷ them) (items-alike items)

  parts-alike : (file : List ℕ) (parts : Option HeaderValue)
      → stamped_parts (stamp-at number caller one) file parts ≡ stamped_parts (stamp-at number caller other) file parts
  parts-alike file None = refl
  parts-alike file (Some parts) =
      ap (λ (items : List ItemValue). header_text (renewed items) ++ parts.body) (items-alike parts.items)

  -- moments of the same octets stamp a file alike
  pub stamped-alike : (file : List ℕ)
      → stamped (stamp-at number caller one) file ≡ stamped (stamp-at number caller other) file
  unfolding stamped
  stamped-alike file = parts-alike file (file_parts file)

-- A file that is stamped with a moment is as well stamped with what its octets say of that.
pub stamped-again : (number : ℕ) (caller : CallSign) (moment : ℕ) (file : List ℕ)
    → stamped (record { number = number; by = caller; moment = le32 (le32_octets moment) 0 }) file
    ≡ stamped (record { number = number; by = caller; moment = moment }) file
stamped-again number caller moment file =
    stamped-alike number caller (le32 (le32_octets moment) 0) moment (said-again moment) file

-- So octets that are an upload, stamped, say that moment, whatever tells what they say.
pub upload-says :
    (file octets : List ℕ) (number : ℕ) (caller : CallSign) (said : Option ℕ) → IsCall caller → IsUpload file
    → (is : IsStampedFor file number caller octets)
    → ((items : List ItemValue) (body : List ℕ) → FileText items body octets → fault_code octets ≡ None
    → said ≡ moment_in items)
    → said ≡ Some (le32 (le32_octets is.moment) 0)
upload-says file octets number caller said call upload is tells =
    let stamp = stamp-at number caller is.moment in
    let text = stamped-upload stamp upload.upload upload.count file octets call upload.file_is is.octets_are in
    tells (stamped_items stamp (upload_items upload.upload upload.count)) (body_octets upload.upload upload.count) text
    is.faultless
    ∙ upload-moment stamp upload.upload upload.count
