-- The files of a schedule's uploads (PFH 1990). Uploads are counted over all clients, from 0, in the order in which
-- they were asked.
use Rattle.std.specs.Prelude.{◌≡◌, ℕ, ◌+◌, ◌*◌, ◌%◌, ◌≤◌, List, [], ◌∷◌, ◌++◌, length, map, replicate, decimal, None}
use Rattle.std.specs.List.{range_with_len}
use Rattle.px_base.specs.Octets.{IsOctets}
use Rattle.pfh_items.specs.Faults.{fault_code}
use Rattle.pfh_items.specs.Layout.{header_text}
use Rattle.pfh_writer.specs.Built.{BuilderValue, built_items, item}
use Rattle.file_store.specs.Limits.{longest_file}

-- the octets of the body of this upload, this number of them: (7 i + 13 upload) mod 256, each by its place i from 0 on
abbrev pub body_octets : ℕ → ℕ → List ℕ
body_octets upload count = map (λ i. (7 * i + 13 * upload) % 256) (range_with_len 0 count)

-- FILE and four blanks; BIN
abbrev pub file_name : List ℕ
file_name = 70 ∷ 73 ∷ 76 ∷ 69 ∷ 32 ∷ 32 ∷ 32 ∷ 32 ∷ []

abbrev pub file_ext : List ℕ
file_ext = 66 ∷ 73 ∷ 78 ∷ []

-- Its header: times, seu_flag and file_type are 0. It has the two items that the server fills in: ax25_uploader, of
-- blanks, and upload_time, 0.
abbrev pub file_header : BuilderValue
file_header =
    record {
      name = file_name;
      ext = file_ext;
      created = 0;
      modified = 0;
      seu = 0;
      file_type = 0;
      others = item 0x11 (replicate 6 32) ∷ item 0x12 (replicate 4 0) ∷ [];
    }

-- the file of an upload with a body of this number of octets
unfoldable pub upload_file : ℕ → ℕ → List ℕ
upload_file upload count =
    header_text (built_items file_header (body_octets upload count)) ++ body_octets upload count

-- the name under which the file of an upload is noted: its number, in decimal digits
abbrev pub upload_name : ℕ → List ℕ
upload_name upload = decimal upload

-- the file is octets, keeps all rules, and is no longer than a file may be
pub record IsGoodFile (file : List ℕ) : Type 0 where
  pub octets : IsOctets file
  pub faultless : fault_code file ≡ None
  pub short : length file ≤ longest_file
