-- What the check of a file keeps of its octets, and how it grows.
use Rattle.std.specs.Prelude.{◌≡◌, ℕ, ◌+◌, ◌%◌, List, ◌++◌, length}
use Rattle.px_base.specs.Numbers.{sum16}
use Rattle.pfh_items.specs.Layout.{ItemValue, header_text}
use Rattle.pfh_reader.specs.declared.measures.Measures.{Measures}

-- what is kept of the octets of a file with these items and this body
pub record IsMeasured (items : List ItemValue) (body : List ℕ) (measures : Measures) : Type 0 where
  pub file_len : measures.file_len ≡ length (header_text items ++ body)
  pub header_len : measures.header_len ≡ length (header_text items)
  pub header_sum : measures.header_sum ≡ sum16 (header_text items)
  pub body_sum : measures.body_sum ≡ sum16 body

-- with more octets of the header
abbrev pub with_header : Measures → List ℕ → Measures
with_header measures octets =
    record measures {
      file_len = measures.file_len + length octets;
      header_sum = (measures.header_sum + sum16 octets) % 65536;
    }

-- at the end of the header
abbrev pub at_end : Measures → Measures
at_end measures = record measures { header_len = measures.file_len }

-- with more octets of the body
abbrev pub with_body : Measures → List ℕ → Measures
with_body measures octets =
    record measures {
      file_len = measures.file_len + length octets;
      body_sum = (measures.body_sum + sum16 octets) % 65536;
    }
