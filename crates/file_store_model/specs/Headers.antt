-- The header that a file begins with, and what follows it (PFH 1990).
use Rattle.std.specs.Prelude.{◌≡◌, ℕ, ◌≤◌, List, [], ◌++◌, length, Option, None, Some, ⊤}
use Rattle.pfh_items.specs.Faults.{IsFaultless, fault_code, file_parts}
use Rattle.pfh_items.specs.Layout.{HeaderText, HeaderValue, ItemValue, header_text}
use Rattle.pfh_writer.specs.Short.{HasEachOnce}
use Rattle.file_store_model.specs.Store.{Holding, partial, complete}

-- these parts; no items and no body if there are none
abbrev pub parts_or_none : Option HeaderValue → HeaderValue
parts_or_none None = record { items = []; body = [] }
parts_or_none (Some parts) = parts

-- the items of the header that a file begins with; none if it begins with none
abbrev pub header_items : List ℕ → List ItemValue
header_items file = (parts_or_none (file_parts file)).items

-- the octets of that header
abbrev pub header_octets : List ℕ → List ℕ
header_octets file = header_text (header_items file)

-- what follows that header
abbrev pub body_octets : List ℕ → List ℕ
body_octets file = (parts_or_none (file_parts file)).body

-- The file keeps all rules, these octets are the header that it begins with, and its body follows them. The header's
-- length is in two octets.
pub record IsHeaderOf (file octets : List ℕ) : Type 0 where
  pub faultless : IsFaultless (header_items file) (body_octets file) file
  pub header : octets ≡ header_octets file
  pub front : file ≡ octets ++ body_octets file
  pub items : header_items octets ≡ header_items file
  pub short : length octets ≤ 65535

-- These octets are a header and nothing else, in which each mandatory item occurs once and has its length.
pub record IsWholeHeader (octets : List ℕ) : Type 0 where
  pub text : HeaderText (header_items octets) octets
  pub once : HasEachOnce (header_items octets)

-- a complete file keeps all rules
abbrev pub KeepsRules : Holding → Type 0
KeepsRules (partial held) = ⊤
KeepsRules (complete octets moment) = fault_code octets ≡ None
