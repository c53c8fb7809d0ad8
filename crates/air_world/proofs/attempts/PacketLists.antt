-- Packets, their texts and their octets, one list after another.
use Rattle.std.proofs.Common.{◌≡◌, ℕ, ◌+◌, ◌*◌, ◌/◌, ◌%◌, ◌<◌, List, [], ◌∷◌, ◌++◌, length, ◌∙◌, ap, subst, arith, lit<}
use Rattle.std.proofs.Common.{refl}
use Rattle.px_base.specs.Numbers.{le16_octets, le32_octets}
use Rattle.air_world.proofs.attempts.Names.{AllByRecursion, concat, IsFront, IsOctets, texts, Fits, PacketValue, data_part, dir_long_cmd, dir_short_cmd, dl_error_resp, download_cmd, information, kind_of, login_resp, packet_text, select_cmd, select_resp, ul_error_resp, ul_go_resp, ul_nak_resp, upload_cmd, packets_of, rest_of, IsOctets-append, IsOctets-cons, IsOctets-nil, octets_front, read-append, concat-append_one}

-- ---- no octets

pub no-packets : packets_of [] ≡ []
unfolding packets_of
no-packets = refl

pub no-rest : rest_of [] ≡ []
unfolding rest_of
no-rest = refl

-- ---- the octets of packets

low-octet : (n : ℕ) → n % 256 < 256
low-octet n = omega arith

octets-16 : (n : ℕ) → IsOctets (le16_octets n)
octets-16 n =
    IsOctets-cons (n % 256) (n / 256 % 256 ∷ []) (low-octet n)
    (IsOctets-cons (n / 256 % 256) [] (low-octet (n / 256)) IsOctets-nil)

octets-32 : (n : ℕ) (later : List ℕ) → IsOctets later → IsOctets (le32_octets n ++ later)
octets-32 n later h =
    let fourth = IsOctets-cons (n / 16777216 % 256) later (low-octet (n / 16777216)) h in
    let third = IsOctets-cons (n / 65536 % 256) (n / 16777216 % 256 ∷ later) (low-octet (n / 65536)) fourth in
    let second = IsOctets-cons (n / 256 % 256) (n / 65536 % 256 ∷ n / 16777216 % 256 ∷ later)
    (low-octet (n / 256)) third in
    IsOctets-cons (n % 256) (n / 256 % 256 ∷ n / 65536 % 256 ∷ n / 16777216 % 256 ∷ later) (low-octet n) second

one-octet : (n : ℕ) → n < 256 → IsOctets (n ∷ [])
one-octet n h = IsOctets-cons n [] h IsOctets-nil

-- what is true of a packet's information, if each of its fields has its range
record HasInformation (packet : PacketValue) : Type 0 where
  kind : kind_of packet < 32
  few : length (information packet) < 2048
  octets : IsOctets (information packet)

has-information : (packet : PacketValue) → Fits packet → HasInformation packet
has-information (data_part octets) h = record { kind = lit< tt; few = h.0; octets = h.1 }
has-information (login_resp moment flags) h =
    record { kind = lit< tt; few = lit< tt; octets = octets-32 moment (flags ∷ []) (one-octet flags h.1) }
has-information (upload_cmd number file_length) h =
    record {
      kind = lit< tt;
      few = lit< tt;
      octets = octets-32 number (le32_octets file_length)
          (octets-32 file_length [] IsOctets-nil);
    }
has-information (ul_go_resp number offset) h =
    record {
      kind = lit< tt;
      few = lit< tt;
      octets = octets-32 number (le32_octets offset)
          (octets-32 offset [] IsOctets-nil);
    }
has-information (ul_error_resp code) h = record { kind = lit< tt; few = lit< tt; octets = one-octet code h }
has-information (ul_nak_resp code) h = record { kind = lit< tt; few = lit< tt; octets = one-octet code h }
has-information (download_cmd number offset lock) h =
    record {
      kind = lit< tt;
      few = lit< tt;
      octets = octets-32 number (le32_octets offset ++ lock ∷ [])
          (octets-32 offset (lock ∷ []) (one-octet lock h.2));
    }
has-information (dl_error_resp code) h = record { kind = lit< tt; few = lit< tt; octets = one-octet code h }
has-information (dir_short_cmd number) h =
    record { kind = lit< tt; few = lit< tt; octets = octets-32 number [] IsOctets-nil }
has-information (dir_long_cmd number) h =
    record { kind = lit< tt; few = lit< tt; octets = octets-32 number [] IsOctets-nil }
has-information (select_cmd tokens) h = record { kind = lit< tt; few = h.0; octets = h.1 }
has-information (select_resp count) h = record { kind = lit< tt; few = lit< tt; octets = octets-16 count }
has-information packet h = record { kind = lit< tt; few = lit< tt; octets = IsOctets-nil }

pub octets-text : (packet : PacketValue) → Fits packet → IsOctets (packet_text packet)
octets-text packet fits =
    let has = has-information packet fits in
    let few = has.few in
    let kind = has.kind in
    let len = length (information packet) in
    IsOctets-cons (len % 256) ((32 * (len / 256) + kind_of packet) ∷ information packet) (omega arith)
    (IsOctets-cons (32 * (len / 256) + kind_of packet) (information packet) (omega arith) has.octets)

pub octets-texts : (packets : List PacketValue) → AllByRecursion Fits packets → IsOctets (texts packets)
octets-texts [] fits = IsOctets-nil
octets-texts (packet ∷ packets) fits =
    IsOctets-append (packet_text packet) (texts packets) (octets-text packet fits.0) (octets-texts packets fits.1)

-- the octets of a prefix of the texts of packets
pub octets-of_front : (packets : List PacketValue) (front : List ℕ) → AllByRecursion Fits packets
    → IsFront front (texts packets) → IsOctets front
octets-of_front packets front fits is =
    octets_front front is.0 (subst (λ (o : List ℕ). IsOctets o) is.1 (octets-texts packets fits))

-- ---- a further piece

-- What is read of pieces and a further one: the packets of all but the last, and then those of the rest with the last
-- one after it.
pub record ReadsOn (pieces : List (List ℕ)) (piece : List ℕ) : Type 0 where
  pub packets : packets_of (concat (pieces ++ piece ∷ [])) ≡ packets_of (concat pieces) ++ packets_of
      (rest_of (concat pieces) ++ piece)
  pub rest : rest_of (concat (pieces ++ piece ∷ [])) ≡ rest_of (rest_of (concat pieces) ++ piece)

pub reads-on : (pieces : List (List ℕ)) (piece : List ℕ) → IsOctets (concat (pieces ++ piece ∷ []))
    → ReadsOn pieces piece
reads-on pieces piece are =
    let same = concat-append_one pieces piece in
    let read = read-append (concat pieces) piece (subst (λ (o : List ℕ). IsOctets o) same are) in
    record { packets = ap packets_of same ∙ read.0; rest = ap rest_of same ∙ read.1 }
