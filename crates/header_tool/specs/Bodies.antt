-- The body of a file that keeps the rules of headers (PFH 1990): what stands behind its header.
use Rattle.std.specs.Prelude.{ℕ, List}
use Rattle.pfh_items.specs.Faults.{IsFaultless}
use Rattle.pfh_items.specs.Layout.{ItemValue}

-- the file is a header and this body, and keeps all rules
abbrev pub HasBody : List ℕ → List ℕ → Type 0
HasBody file body = (items : List ItemValue) × IsFaultless items body file
