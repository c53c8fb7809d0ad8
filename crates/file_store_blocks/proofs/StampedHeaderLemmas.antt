-- The header of a sealed file, by what is read of its blocks.
use Rattle.std.proofs.Common.{◌≡◌, List, None, length, take, ap, ◌∙◌, ℕ, arith, length-append}
use Rattle.pfh_writer.proofs.ClientLemmas.{kept_file}
use Rattle.file_store_blocks.proofs.Names.{take_at, IsSealedHeader, header_octets, faultless-code, header-of, items-text, whole-of, fault_code, FileText, HeaderText, ItemValue, header_text, StampValue, stamped, length-stamped, IsCall, IsOctets}

-- ---- what is before the body of a file without fault is its header

front_header :
    (items : List ItemValue) (body file octets : List ℕ) → FileText items body file → fault_code file ≡ None
    → octets ≡ header_text items → IsSealedHeader file octets
front_header items body file octets is none front =
    let text : HeaderText items octets = record { are_items = is.are_items; text = front } in
    let rules = faultless-code items body file none is in
    record {
      header = header-of items body file octets rules text;
      whole = whole-of items body file octets rules text;
    }

pub stamped_header :
    (stamp : StampValue) (octets room : List ℕ) (len : ℕ) → IsCall stamp.by → IsOctets octets → fault_code octets ≡ None
    → len ≡ length (header_octets octets) → room ≡ take len (stamped stamp octets) → IsSealedHeader (stamped stamp octets) room
stamped_header stamp octets room len call are none size is =
    let kept = (kept_file stamp octets call none).1 are in
    let sizes = length-stamped stamp octets call none in
    let came_size : length (header_octets octets) ≡ length (header_text kept.items) =
    ap (λ (l : List ItemValue). length (header_text l)) (items-text kept.items kept.body octets kept.came_text) in
    let front_size : length (header_text kept.kept_items) ≡ len =
    omega (
      arith,
      sizes,
      came_size,
      size,
      ap (λ (l : List ℕ). length l) kept.came_text.text,
      ap (λ (l : List ℕ). length l) kept.kept_text.text,
      length-append (header_text kept.items) kept.body,
      length-append (header_text kept.kept_items) kept.body,
    ) in
    front_header kept.kept_items kept.body (stamped stamp octets) room kept.kept_text kept.faultless
    (is
    ∙ ap (λ (l : List ℕ). take len l) kept.kept_text.text
    ∙ take_at (header_text kept.kept_items) kept.body len front_size)
