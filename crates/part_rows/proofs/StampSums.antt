-- The sums of a file that keeps all rules: those of its header, and of that once it is stamped.
use Rattle.std.proofs.Common.{◌≡◌, ◌≤◌, ℕ, List, ◌++◌, length, take, sym, ap, ◌∙◌, subst}
use Rattle.std.proofs.Math.Seq.{take-append_seam}
use Rattle.pfh_items.specs.declared.sums.Sums.{Sums}
use Rattle.pfh_items.specs.Faults.{IsFaultless}
use Rattle.pfh_items.specs.Layout.{HeaderText, ItemValue, header_text}
use Rattle.pfh_items.specs.Stamp.{StampValue}
use Rattle.pfh_items.proofs.Offered.{one_header}
use Rattle.pfh_reader.specs.Check.{HasSums}
use Rattle.pfh_writer.specs.Given.{IsFaultlessFile, IsHeaderOfSums, IsStampedSum, stamped_sum}

-- the header is the beginning of the file
front : (file : List ℕ) (sums : Sums) (has : HasSums file sums) → take sums.header_len file ≡ header_text has.0
front file sums has =
    ap (λ (n : ℕ). take n file) has.3.header_len
    ∙ ap (λ (t : List ℕ). take (length (header_text has.0)) t) has.2.file_text.text
    ∙ take-append_seam (header_text has.0) has.1

-- these are the sums of that header
pub header_of : (file : List ℕ) (sums : Sums) → HasSums file sums → IsHeaderOfSums (take sums.header_len file) sums
header_of file sums has = (
  has.0,
  has.1,
  subst (IsFaultless has.0 has.1) (has.2.file_text.text ∙ ap (λ (t : List ℕ). t ++ has.1) (sym (front file sums has))) has.2,
  has.3.header_sum,
)

-- the file keeps all rules
pub faultless : (file : List ℕ) (sums : Sums) → HasSums file sums → IsFaultlessFile file
faultless file sums has = (has.0, has.1, has.2)

-- what is the sum of that header once it is stamped is that of the file
pub sum_of : (file : List ℕ) (sums : Sums) (stamp : StampValue) (sum : ℕ) → HasSums file sums
    → ((items : List ItemValue) → HeaderText items (take sums.header_len file) → sum ≡ stamped_sum stamp items) → IsStampedSum stamp file sum
sum_of file sums stamp sum has each items body is =
    let same : items ≡ has.0 = (one_header file items has.0 body has.1 is.file_text has.2.file_text).0 in
    each items (record { are_items = is.file_text.are_items; text = front file sums has ∙ ap header_text (sym same) })
