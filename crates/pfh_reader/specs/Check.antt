-- What the check of a file answers.
use Rattle.std.specs.Prelude.{◌≡◌, ℕ, List, length, flat_map}
use Rattle.pfh_items.specs.declared.fault.FileFault.{FileFault}
use Rattle.pfh_items.specs.declared.sums.Sums.{Sums}
use Rattle.pfh_items.specs.Faults.{FirstFault, IsFaultless, code_of, header_sum}
use Rattle.pfh_items.specs.Layout.{ItemValue, header_text}
use Rattle.px_base.specs.Numbers.{sum16}

-- the file's first fault has this code
abbrev pub HasFault : List ℕ → ℕ → Type 0
HasFault file code = (fault : FileFault) × FirstFault fault file × (code ≡ code_of fault)

-- the sums of a file with these items and this body, and its header's length
pub record IsSums (items : List ItemValue) (body : List ℕ) (sums : Sums) : Type 0 where
  pub header_len : sums.header_len ≡ length (header_text items)
  pub body_sum : sums.body_sum ≡ sum16 body
  pub header_sum : sums.header_sum ≡ header_sum items

-- the file keeps all rules, and these are its sums
abbrev pub HasSums : List ℕ → Sums → Type 0
HasSums file sums = (items : List ItemValue) × (body : List ℕ) × IsFaultless items body file × IsSums items body sums

-- the pieces of a file, one after another
abbrev pub joined : List (List ℕ) → List ℕ
joined pieces = flat_map (λ piece. piece) pieces
