-- The text of one packet: where it ends, and what it says.
use Rattle.std.proofs.Common.{◌≡◌, ℕ, ◌+◌, ◌*◌, ◌/◌, ◌%◌, ◌<◌, ◌≤◌, List, [], ◌∷◌, ◌++◌, length, take, slice_index, Bool, true, false, cond, Ok, Err, refl, sym, ap, ◌∙◌, subst, arith}
use Rattle.ftl0_packets.specs.declared.packet.Malformed.{Malformed}
use Rattle.ftl0_packets.proofs.Names.{eqb-true, eq-eqb, cond-true, cond-false, false≢true, get_or_append_left, take_at, IsOctets, PacketValue, kind_of, information, Fits, has_length, text_of, packet_text, Item, PacketText, text_len, is_whole, packet_from, item_from, read_item}
use Rattle.ftl0_packets.proofs.OctetLemmas.{IsOctets-cons, IsOctets-drop, octet_at}
use Rattle.ftl0_packets.proofs.InformationLemmas.{packet_from-information, has_length-information, kind_of-below, length-information, IsOctets-information, packet_from-made}

-- what follows a header doesn't change where the packet ends
pub text_len-append : (text more : List ℕ) → 2 ≤ length text → text_len (text ++ more) ≡ text_len text
text_len-append text more h =
    let low : slice_index (text ++ more) 0 ≡ slice_index text 0 = get_or_append_left text more 0 0 (omega arith) in
    let high : slice_index (text ++ more) 1 ≡ slice_index text 1 = get_or_append_left text more 0 1 (omega arith) in
    ap (λ (n : ℕ). 2 + n + 256 * (slice_index (text ++ more) 1 / 32)) low
    ∙ ap (λ (n : ℕ). 2 + slice_index text 0 + 256 * (n / 32)) high

-- a whole text has the length that its header says
pub length-whole : (text : List ℕ) → is_whole text ≡ true → length text ≡ text_len text
length-whole text w = eqb-true _ _ w

-- a whole text ends where it ends, whatever follows
pub text_len-whole : (text more : List ℕ) → is_whole text ≡ true → text_len (text ++ more) ≡ length text
text_len-whole text more w =
    let len = length-whole text w in text_len-append text more (omega arith) ∙ sym len

-- a header and information
module _ (kind : ℕ) (info : List ℕ) (below : kind < 32) (short : length info < 2048) where
  pub whole-text_of : is_whole (text_of kind info) ≡ true
  whole-text_of = eq-eqb _ _ (omega arith)

  pub read_item-text_of : read_item (text_of kind info) ≡ item_from kind info
  unfolding read_item
  read_item-text_of =
      let same : (32 * (length info / 256) + kind) % 32 ≡ kind = omega arith in ap (λ (k : ℕ). item_from k info) same

  pub IsOctets-text_of : IsOctets info → IsOctets (text_of kind info)
  IsOctets-text_of h =
      let low : length info % 256 < 256 = omega arith in
      let high : 32 * (length info / 256) + kind < 256 = omega arith in
      IsOctets-cons (length info % 256) ((32 * (length info / 256) + kind) ∷ info) low (IsOctets-cons (32 * (length info / 256) + kind) info high h)

-- what a packet's text is, by its octets alone
pub record IsText (item : Item) (text : List ℕ) : Type 0 where
  pub whole : is_whole text ≡ true
  pub octets : IsOctets text
  pub says : read_item text ≡ item

packet_text-is : (packet : PacketValue) → Fits packet → IsText (Ok packet) (packet_text packet)
packet_text-is packet fits =
    let below = kind_of-below packet in
    let short = length-information packet fits in
    record {
      whole = whole-text_of (kind_of packet) (information packet) below short;
      octets = IsOctets-text_of (kind_of packet) (information packet) below short (IsOctets-information packet fits);
      says =
          read_item-text_of (kind_of packet) (information packet) below short
          ∙ cond-true _ _ _ (has_length-information packet fits)
          ∙ ap (λ (p : PacketValue). Ok p) (packet_from-information packet fits);
    }

-- the item of a malformed packet
abbrev malformed_item : ℕ → ℕ → Item
malformed_item kind len = Err (record { kind = kind; len = len })

malformed-is : (malformed : Malformed) (info : List ℕ) → malformed.kind < 32 → malformed.len < 2048 → length info ≡ malformed.len
    → IsOctets info → has_length malformed.kind malformed.len ≡ false
    → IsText (Err malformed) (text_of malformed.kind info)
malformed-is malformed info below short len octets test =
    let bound : length info < 2048 = omega arith in
    let here : has_length malformed.kind (length info) ≡ false = ap (has_length malformed.kind) len ∙ test in
    record {
      whole = whole-text_of malformed.kind info below bound;
      octets = IsOctets-text_of malformed.kind info below bound octets;
      says =
          read_item-text_of malformed.kind info below bound
          ∙ cond-false _ _ _ here
          ∙ ap (malformed_item malformed.kind) len;
    }

-- a text is whole, of octets, and says its packet
pub IsText-PacketText : (item : Item) (text : List ℕ) → PacketText item text → IsText item text
IsText-PacketText (Ok packet) text h =
    subst (λ (t : List ℕ). IsText (Ok packet) t) (sym h.1) (packet_text-is packet h.0)
IsText-PacketText (Err malformed) text h =
    subst (λ (t : List ℕ). IsText (Err malformed) t) (sym h.5) (malformed-is malformed h.0 h.1 h.2 h.3 h.4 h.6)

-- the two octets of a header are those of the type and length that they say
header-again : (low high : ℕ) (info : List ℕ) → low < 256 → high < 256 → length info ≡ low + 256 * (high / 32)
    → low ∷ high ∷ info ≡ text_of (high % 32) info
header-again low high info hl hh len =
    let first : length info % 256 ≡ low = omega arith in
    let second : 32 * (length info / 256) + high % 32 ≡ high = omega arith in
    ap (λ (n : ℕ). n ∷ high ∷ info) (sym first) ∙ ap (λ (n : ℕ). length info % 256 ∷ n ∷ info) (sym second)

item-text : (kind : ℕ) (info text : List ℕ) (test : Bool) → test ≡ has_length kind (length info)
    → kind < 32 → length info < 2048 → IsOctets info → text ≡ text_of kind info
    → PacketText (cond test (Ok (packet_from kind info)) (Err (record { kind = kind; len = length info }))) text
item-text kind info text true is below short octets same =
    let made = packet_from-made kind info (sym is) octets in (
      made.fits,
      same ∙ ap (λ (k : ℕ). text_of k info) (sym made.same_kind) ∙ ap (λ (i : List ℕ). text_of (kind_of (packet_from kind info)) i) (sym made.same_information),
    )
item-text kind info text false is below short octets same = (info, below, short, refl, octets, same, sym is)

-- whole octets are the text of what they say
pub PacketText-whole : (text : List ℕ) → is_whole text ≡ true → IsOctets text → PacketText (read_item text) text
unfolding read_item
PacketText-whole [] w octets = absurd (false≢true w)
PacketText-whole (low ∷ []) w octets =
    let len = length-whole (low ∷ []) w in absurd (omega arith)
PacketText-whole (low ∷ high ∷ info) w octets =
    let len = length-whole (low ∷ high ∷ info) w in
    let octet = octet_at (low ∷ high ∷ info) octets in
    let hl : low < 256 = octet 0 in
    let hh : high < 256 = octet 1 in
    let size : length info ≡ low + 256 * (high / 32) = omega arith in
    item-text (high % 32) info _ _ refl (omega arith) (omega arith) (IsOctets-drop 2 (low ∷ high ∷ info) octets) (header-again low high info hl hh size)

-- no text begins another, and a text says one packet
pub one_text : (a b : Item) (x y p q : List ℕ) → PacketText a x → PacketText b y → x ++ p ≡ y ++ q → (x ≡ y) × (a ≡ b)
one_text a b x y p q hx hy e =
    let tx = IsText-PacketText a x hx in
    let ty = IsText-PacketText b y hy in
    let len : length x ≡ length y = sym (text_len-whole x p tx.whole) ∙ ap text_len e ∙ text_len-whole y q ty.whole in
    let same : x ≡ y = sym (take_at x p (length x) refl) ∙ ap (take (length x)) e ∙ take_at y q (length x) (sym len) in
    (same, sym tx.says ∙ ap read_item same ∙ ty.says)
