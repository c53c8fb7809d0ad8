-- The file that the builder of an upload's header makes.
use Rattle.std.proofs.Common.{◌≡◌, ℕ, List, [], ◌∷◌, ◌++◌, replicate, ap, ◌∙◌}
use Rattle.air_rehearsal.proofs.Names.{FileText, header_text, BuilderValue, built_items, item, body_octets, file_ext, file_header, file_name, upload_file}

-- with these items put
put_last : ℕ → List ℕ → BuilderValue → BuilderValue
put_last id content builder = record builder { others = builder.others ++ item id content ∷ [] }

pub header-built :
    (first second third : BuilderValue)
    → first
    ≡ record {
      name = file_name;
      ext = file_ext;
      created = 0;
      modified = 0;
      seu = 0;
      file_type = 0;
      others = [];
    }
    → second ≡ record first { others = first.others ++ item 0x11 (replicate 6 32) ∷ [] }
    → third ≡ record second { others = second.others ++ item 0x12 (replicate 4 0) ∷ [] }
    → third ≡ file_header
unfolding put_last
header-built first second third first_is second_is third_is =
    third_is ∙ ap (put_last 0x12 (replicate 4 0)) second_is
    ∙ ap (λ builder. put_last 0x12 (replicate 4 0) (put_last 0x11 (replicate 6 32) builder)) first_is

pub upload-built :
    (upload count : ℕ) (builder : BuilderValue) (body file : List ℕ) → builder ≡ file_header
    → body ≡ body_octets upload count → FileText (built_items builder body) body file → file ≡ upload_file upload count
unfolding upload_file
upload-built upload count builder body file header_is body_is text =
    text.text
    ∙ ap (λ (it : BuilderValue). header_text (built_items it body) ++ body) header_is
    ∙ ap (λ (octets : List ℕ). header_text (built_items file_header octets) ++ octets) body_is
