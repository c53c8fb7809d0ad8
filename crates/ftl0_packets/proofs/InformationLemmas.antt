-- The information of a packet and its fields, in both directions.
use Rattle.std.proofs.Common.{◌≡◌, ℕ, zero, suc, ◌+◌, ◌*◌, ◌/◌, ◌%◌, ◌^◌, ◌<◌, ◌≤◌, ◌==◌, List, [], ◌∷◌, ◌++◌, length, slice_index, true, false, refl, sym, ap, ◌∙◌, arith, lit<}
use Rattle.px_base.specs.Numbers.{le16, le32, le16_octets, le32_octets}
use Rattle.ftl0_packets.proofs.Names.{eqb-true, ltb-true, lt-ltb, ne_eqb, false≢true, nil_from_length, IsOctets, PacketValue, data_part, data_end, login_resp, upload_cmd, ul_go_resp, ul_error_resp, ul_ack_resp, ul_nak_resp, download_cmd, dl_error_resp, dl_aborted_resp, dl_completed_resp, dl_ack_cmd, dl_nak_cmd, dir_short_cmd, dir_long_cmd, select_cmd, select_resp, kind_of, information, Fits, has_length, packet_from}
use Rattle.ftl0_packets.proofs.OctetLemmas.{IsOctets-cons, IsOctets-nil, octet_at}

-- the number of a number's four octets
le32-le32_octets : (n : ℕ) (later : List ℕ) → n < 2 ^ 32 → le32 (le32_octets n ++ later) 0 ≡ n
le32-le32_octets n later h = omega arith

-- the number of the second of two numbers' octets
le32-second : (m n : ℕ) (later : List ℕ) → n < 2 ^ 32 → le32 (le32_octets m ++ le32_octets n ++ later) 4 ≡ n
le32-second m n later h = omega arith

-- the number of a number's two octets
le16-le16_octets : (n : ℕ) → n < 2 ^ 16 → le16 (le16_octets n) 0 ≡ n
le16-le16_octets n h = omega arith

-- the packet of a packet's type and information is that packet
pub packet_from-information : (packet : PacketValue) → Fits packet → packet_from (kind_of packet) (information packet) ≡ packet
packet_from-information (data_part octets) h = refl
packet_from-information data_end h = refl
packet_from-information (login_resp moment flags) h = ap (λ (n : ℕ). login_resp n flags) (le32-le32_octets moment (flags ∷ []) h.0)
packet_from-information (upload_cmd number file_length) h =
    ap (λ (n : ℕ). upload_cmd n (le32 (le32_octets number ++ le32_octets file_length) 4)) (le32-le32_octets number (le32_octets file_length) h.0)
    ∙ ap (λ (n : ℕ). upload_cmd number n) (le32-second number file_length [] h.1)
packet_from-information (ul_go_resp number offset) h =
    ap (λ (n : ℕ). ul_go_resp n (le32 (le32_octets number ++ le32_octets offset) 4)) (le32-le32_octets number (le32_octets offset) h.0)
    ∙ ap (λ (n : ℕ). ul_go_resp number n) (le32-second number offset [] h.1)
packet_from-information (ul_error_resp code) h = refl
packet_from-information ul_ack_resp h = refl
packet_from-information (ul_nak_resp code) h = refl
packet_from-information (download_cmd number offset lock) h =
    ap (λ (n : ℕ). download_cmd n (le32 (le32_octets number ++ le32_octets offset ++ lock ∷ []) 4) lock) (le32-le32_octets number (le32_octets offset ++ lock ∷ []) h.0)
    ∙ ap (λ (n : ℕ). download_cmd number n lock) (le32-second number offset (lock ∷ []) h.1)
packet_from-information (dl_error_resp code) h = refl
packet_from-information dl_aborted_resp h = refl
packet_from-information dl_completed_resp h = refl
packet_from-information dl_ack_cmd h = refl
packet_from-information dl_nak_cmd h = refl
packet_from-information (dir_short_cmd number) h = ap dir_short_cmd (le32-le32_octets number [] h)
packet_from-information (dir_long_cmd number) h = ap dir_long_cmd (le32-le32_octets number [] h)
packet_from-information (select_cmd tokens) h = refl
packet_from-information (select_resp count) h = ap select_resp (le16-le16_octets count h)

-- a packet's information has a length that its type has
pub has_length-information : (packet : PacketValue) → Fits packet → has_length (kind_of packet) (length (information packet)) ≡ true
has_length-information (data_part octets) h = lt-ltb (length octets) 2048 h.0
has_length-information data_end h = refl
has_length-information (login_resp moment flags) h = refl
has_length-information (upload_cmd number file_length) h = refl
has_length-information (ul_go_resp number offset) h = refl
has_length-information (ul_error_resp code) h = refl
has_length-information ul_ack_resp h = refl
has_length-information (ul_nak_resp code) h = refl
has_length-information (download_cmd number offset lock) h = refl
has_length-information (dl_error_resp code) h = refl
has_length-information dl_aborted_resp h = refl
has_length-information dl_completed_resp h = refl
has_length-information dl_ack_cmd h = refl
has_length-information dl_nak_cmd h = refl
has_length-information (dir_short_cmd number) h = refl
has_length-information (dir_long_cmd number) h = refl
has_length-information (select_cmd tokens) h = lt-ltb (length tokens) 2048 h.0
has_length-information (select_resp count) h = refl

-- a type is below 32
pub kind_of-below : (packet : PacketValue) → kind_of packet < 32
kind_of-below (data_part octets) = lit< tt
kind_of-below data_end = lit< tt
kind_of-below (login_resp moment flags) = lit< tt
kind_of-below (upload_cmd number file_length) = lit< tt
kind_of-below (ul_go_resp number offset) = lit< tt
kind_of-below (ul_error_resp code) = lit< tt
kind_of-below ul_ack_resp = lit< tt
kind_of-below (ul_nak_resp code) = lit< tt
kind_of-below (download_cmd number offset lock) = lit< tt
kind_of-below (dl_error_resp code) = lit< tt
kind_of-below dl_aborted_resp = lit< tt
kind_of-below dl_completed_resp = lit< tt
kind_of-below dl_ack_cmd = lit< tt
kind_of-below dl_nak_cmd = lit< tt
kind_of-below (dir_short_cmd number) = lit< tt
kind_of-below (dir_long_cmd number) = lit< tt
kind_of-below (select_cmd tokens) = lit< tt
kind_of-below (select_resp count) = lit< tt

-- information has at most 2,047 octets
pub length-information : (packet : PacketValue) → Fits packet → length (information packet) < 2048
length-information (data_part octets) h = h.0
length-information data_end h = lit< tt
length-information (login_resp moment flags) h = lit< tt
length-information (upload_cmd number file_length) h = lit< tt
length-information (ul_go_resp number offset) h = lit< tt
length-information (ul_error_resp code) h = lit< tt
length-information ul_ack_resp h = lit< tt
length-information (ul_nak_resp code) h = lit< tt
length-information (download_cmd number offset lock) h = lit< tt
length-information (dl_error_resp code) h = lit< tt
length-information dl_aborted_resp h = lit< tt
length-information dl_completed_resp h = lit< tt
length-information dl_ack_cmd h = lit< tt
length-information dl_nak_cmd h = lit< tt
length-information (dir_short_cmd number) h = lit< tt
length-information (dir_long_cmd number) h = lit< tt
length-information (select_cmd tokens) h = h.0
length-information (select_resp count) h = lit< tt

low_octet : (n : ℕ) → n % 256 < 256
low_octet n = omega arith

-- the octets of a number, and octets after them
IsOctets-le32 : (n : ℕ) (later : List ℕ) → IsOctets later → IsOctets (le32_octets n ++ later)
IsOctets-le32 n later h =
    let fourth = IsOctets-cons (n / 16777216 % 256) later (low_octet (n / 16777216)) h in
    let third = IsOctets-cons (n / 65536 % 256) (n / 16777216 % 256 ∷ later) (low_octet (n / 65536)) fourth in
    let second = IsOctets-cons (n / 256 % 256) (n / 65536 % 256 ∷ n / 16777216 % 256 ∷ later) (low_octet (n / 256)) third in
    IsOctets-cons (n % 256) (n / 256 % 256 ∷ n / 65536 % 256 ∷ n / 16777216 % 256 ∷ later) (low_octet n) second

IsOctets-le16 : (n : ℕ) → IsOctets (le16_octets n)
IsOctets-le16 n = IsOctets-cons (n % 256) (n / 256 % 256 ∷ []) (low_octet n) (IsOctets-cons (n / 256 % 256) [] (low_octet (n / 256)) IsOctets-nil)

-- information is octets
pub IsOctets-information : (packet : PacketValue) → Fits packet → IsOctets (information packet)
IsOctets-information (data_part octets) h = h.1
IsOctets-information data_end h = IsOctets-nil
IsOctets-information (login_resp moment flags) h = IsOctets-le32 moment (flags ∷ []) (IsOctets-cons flags [] h.1 IsOctets-nil)
IsOctets-information (upload_cmd number file_length) h = IsOctets-le32 number (le32_octets file_length) (IsOctets-le32 file_length [] IsOctets-nil)
IsOctets-information (ul_go_resp number offset) h = IsOctets-le32 number (le32_octets offset) (IsOctets-le32 offset [] IsOctets-nil)
IsOctets-information (ul_error_resp code) h = IsOctets-cons code [] h IsOctets-nil
IsOctets-information ul_ack_resp h = IsOctets-nil
IsOctets-information (ul_nak_resp code) h = IsOctets-cons code [] h IsOctets-nil
IsOctets-information (download_cmd number offset lock) h = IsOctets-le32 number (le32_octets offset ++ lock ∷ []) (IsOctets-le32 offset (lock ∷ []) (IsOctets-cons lock [] h.2 IsOctets-nil))
IsOctets-information (dl_error_resp code) h = IsOctets-cons code [] h IsOctets-nil
IsOctets-information dl_aborted_resp h = IsOctets-nil
IsOctets-information dl_completed_resp h = IsOctets-nil
IsOctets-information dl_ack_cmd h = IsOctets-nil
IsOctets-information dl_nak_cmd h = IsOctets-nil
IsOctets-information (dir_short_cmd number) h = IsOctets-le32 number [] IsOctets-nil
IsOctets-information (dir_long_cmd number) h = IsOctets-le32 number [] IsOctets-nil
IsOctets-information (select_cmd tokens) h = h.1
IsOctets-information (select_resp count) h = IsOctets-le16 count

-- a number below 2 ^ 32 from four octets
le32-below : (octets : List ℕ) (at : ℕ) → IsOctets octets → le32 octets at < 2 ^ 32
le32-below octets at h = let octet = octet_at octets h in omega (arith, octet at, octet (at + 1), octet (at + 2), octet (at + 3))

four_octets : (a b c d : ℕ) → a < 256 → b < 256 → c < 256 → d < 256
    → le32_octets (a + 256 * b + 65536 * c + 16777216 * d) ≡ a ∷ b ∷ c ∷ d ∷ []
four_octets a b c d ha hb hc hd =
    let n : ℕ = a + 256 * b + 65536 * c + 16777216 * d in
    let first : n % 256 ≡ a = omega arith in
    let second : n / 256 % 256 ≡ b = omega arith in
    let third : n / 65536 % 256 ≡ c = omega arith in
    let fourth : n / 16777216 % 256 ≡ d = omega arith in
    rw (first, second, third, fourth) refl

-- the octets of the number in four octets are these
le32_octets-le32 : (octets : List ℕ) (at : ℕ) → IsOctets octets
    → le32_octets (le32 octets at) ≡ slice_index octets at ∷ slice_index octets (at + 1) ∷ slice_index octets (at + 2) ∷ slice_index octets (at + 3) ∷ []
le32_octets-le32 octets at h = let octet = octet_at octets h in four_octets _ _ _ _ (octet at) (octet (at + 1)) (octet (at + 2)) (octet (at + 3))

two_octets : (a b : ℕ) → a < 256 → b < 256 → le16_octets (a + 256 * b) ≡ a ∷ b ∷ []
two_octets a b ha hb =
    let n : ℕ = a + 256 * b in
    let first : n % 256 ≡ a = omega arith in
    let second : n / 256 % 256 ≡ b = omega arith in
    rw (first, second) refl

-- lists of a known length, place by place
one : (xs : List ℕ) → length xs ≡ 1 → xs ≡ slice_index xs 0 ∷ []
one (a ∷ []) same = refl
one xs same = absurd (omega arith)

two : (xs : List ℕ) → length xs ≡ 2 → xs ≡ slice_index xs 0 ∷ slice_index xs 1 ∷ []
two (a ∷ b ∷ []) same = refl
two xs same = absurd (omega arith)

four : (xs : List ℕ) → length xs ≡ 4 → xs ≡ slice_index xs 0 ∷ slice_index xs 1 ∷ slice_index xs 2 ∷ slice_index xs 3 ∷ []
four (a ∷ b ∷ c ∷ d ∷ []) same = refl
four xs same = absurd (omega arith)

five : (xs : List ℕ) → length xs ≡ 5 → xs ≡ slice_index xs 0 ∷ slice_index xs 1 ∷ slice_index xs 2 ∷ slice_index xs 3 ∷ slice_index xs 4 ∷ []
five (a ∷ b ∷ c ∷ d ∷ e ∷ []) same = refl
five xs same = absurd (omega arith)

eight : (xs : List ℕ) → length xs ≡ 8 → xs ≡ slice_index xs 0 ∷ slice_index xs 1 ∷ slice_index xs 2 ∷ slice_index xs 3 ∷ slice_index xs 4 ∷ slice_index xs 5 ∷ slice_index xs 6 ∷ slice_index xs 7 ∷ []
eight (a ∷ b ∷ c ∷ d ∷ e ∷ f ∷ g ∷ h ∷ []) same = refl
eight xs same = absurd (omega arith)

nine : (xs : List ℕ) → length xs ≡ 9 → xs ≡ slice_index xs 0 ∷ slice_index xs 1 ∷ slice_index xs 2 ∷ slice_index xs 3 ∷ slice_index xs 4 ∷ slice_index xs 5 ∷ slice_index xs 6 ∷ slice_index xs 7 ∷ slice_index xs 8 ∷ []
nine (a ∷ b ∷ c ∷ d ∷ e ∷ f ∷ g ∷ h ∷ i ∷ []) same = refl
nine xs same = absurd (omega arith)

-- The packet that is made of a type and information of one of its lengths has that type and information, in range.
pub record IsMadeOf (kind : ℕ) (info : List ℕ) (packet : PacketValue) : Type 0 where
  pub fits : Fits packet
  pub same_kind : kind_of packet ≡ kind
  pub same_information : information packet ≡ info

abbrev IsMade : ℕ → Type 0
IsMade kind = (info : List ℕ) → has_length kind (length info) ≡ true → IsOctets info → IsMadeOf kind info (packet_from kind info)

made_0 : IsMade 0
made_0 info len octets = record { fits = (ltb-true _ _ len, octets); same_kind = refl; same_information = refl }

made_1 : IsMade 1
made_1 info len octets = record { fits = tt; same_kind = refl; same_information = sym (nil_from_length info (eqb-true _ _ len)) }

made_2 : IsMade 2
made_2 info len octets = record { fits = (le32-below info 0 octets, octet_at info octets 4); same_kind = refl; same_information = ap (λ (x : List ℕ). x ++ slice_index info 4 ∷ []) (le32_octets-le32 info 0 octets) ∙ sym (five info (eqb-true _ _ len)) }

made_3 : IsMade 3
made_3 info len octets = record { fits = (le32-below info 0 octets, le32-below info 4 octets); same_kind = refl; same_information = ap (λ (x : List ℕ). x ++ le32_octets (le32 info 4)) (le32_octets-le32 info 0 octets) ∙ ap (λ (y : List ℕ). (slice_index info 0 ∷ slice_index info 1 ∷ slice_index info 2 ∷ slice_index info 3 ∷ []) ++ y) (le32_octets-le32 info 4 octets) ∙ sym (eight info (eqb-true _ _ len)) }

made_4 : IsMade 4
made_4 info len octets = record { fits = (le32-below info 0 octets, le32-below info 4 octets); same_kind = refl; same_information = ap (λ (x : List ℕ). x ++ le32_octets (le32 info 4)) (le32_octets-le32 info 0 octets) ∙ ap (λ (y : List ℕ). (slice_index info 0 ∷ slice_index info 1 ∷ slice_index info 2 ∷ slice_index info 3 ∷ []) ++ y) (le32_octets-le32 info 4 octets) ∙ sym (eight info (eqb-true _ _ len)) }

made_5 : IsMade 5
made_5 info len octets = record { fits = octet_at info octets 0; same_kind = refl; same_information = sym (one info (eqb-true _ _ len)) }

made_6 : IsMade 6
made_6 info len octets = record { fits = tt; same_kind = refl; same_information = sym (nil_from_length info (eqb-true _ _ len)) }

made_7 : IsMade 7
made_7 info len octets = record { fits = octet_at info octets 0; same_kind = refl; same_information = sym (one info (eqb-true _ _ len)) }

made_8 : IsMade 8
made_8 info len octets = record { fits = (le32-below info 0 octets, le32-below info 4 octets, octet_at info octets 8); same_kind = refl; same_information = ap (λ (x : List ℕ). x ++ le32_octets (le32 info 4) ++ slice_index info 8 ∷ []) (le32_octets-le32 info 0 octets) ∙ ap (λ (y : List ℕ). (slice_index info 0 ∷ slice_index info 1 ∷ slice_index info 2 ∷ slice_index info 3 ∷ []) ++ y ++ slice_index info 8 ∷ []) (le32_octets-le32 info 4 octets) ∙ sym (nine info (eqb-true _ _ len)) }

made_9 : IsMade 9
made_9 info len octets = record { fits = octet_at info octets 0; same_kind = refl; same_information = sym (one info (eqb-true _ _ len)) }

made_10 : IsMade 10
made_10 info len octets = record { fits = tt; same_kind = refl; same_information = sym (nil_from_length info (eqb-true _ _ len)) }

made_11 : IsMade 11
made_11 info len octets = record { fits = tt; same_kind = refl; same_information = sym (nil_from_length info (eqb-true _ _ len)) }

made_12 : IsMade 12
made_12 info len octets = record { fits = tt; same_kind = refl; same_information = sym (nil_from_length info (eqb-true _ _ len)) }

made_13 : IsMade 13
made_13 info len octets = record { fits = tt; same_kind = refl; same_information = sym (nil_from_length info (eqb-true _ _ len)) }

made_14 : IsMade 14
made_14 info len octets = record { fits = le32-below info 0 octets; same_kind = refl; same_information = le32_octets-le32 info 0 octets ∙ sym (four info (eqb-true _ _ len)) }

made_15 : IsMade 15
made_15 info len octets = record { fits = le32-below info 0 octets; same_kind = refl; same_information = le32_octets-le32 info 0 octets ∙ sym (four info (eqb-true _ _ len)) }

made_16 : IsMade 16
made_16 info len octets = record { fits = (ltb-true _ _ len, octets); same_kind = refl; same_information = refl }

made_17 : IsMade 17
made_17 info len octets = record { fits = omega (arith, octet_at info octets 0, octet_at info octets 1); same_kind = refl; same_information = two_octets _ _ (octet_at info octets 0) (octet_at info octets 1) ∙ sym (two info (eqb-true _ _ len)) }

no_length : (kind len : ℕ) → 18 ≤ kind → has_length kind len ≡ true → ⊥
no_length kind len above h =
    let e0 : (kind == 0) ≡ false = ne_eqb kind 0 (λ e. omega arith) in
    let e1 : (kind == 1) ≡ false = ne_eqb kind 1 (λ e. omega arith) in
    let e2 : (kind == 2) ≡ false = ne_eqb kind 2 (λ e. omega arith) in
    let e3 : (kind == 3) ≡ false = ne_eqb kind 3 (λ e. omega arith) in
    let e4 : (kind == 4) ≡ false = ne_eqb kind 4 (λ e. omega arith) in
    let e5 : (kind == 5) ≡ false = ne_eqb kind 5 (λ e. omega arith) in
    let e6 : (kind == 6) ≡ false = ne_eqb kind 6 (λ e. omega arith) in
    let e7 : (kind == 7) ≡ false = ne_eqb kind 7 (λ e. omega arith) in
    let e8 : (kind == 8) ≡ false = ne_eqb kind 8 (λ e. omega arith) in
    let e9 : (kind == 9) ≡ false = ne_eqb kind 9 (λ e. omega arith) in
    let e10 : (kind == 10) ≡ false = ne_eqb kind 10 (λ e. omega arith) in
    let e11 : (kind == 11) ≡ false = ne_eqb kind 11 (λ e. omega arith) in
    let e12 : (kind == 12) ≡ false = ne_eqb kind 12 (λ e. omega arith) in
    let e13 : (kind == 13) ≡ false = ne_eqb kind 13 (λ e. omega arith) in
    let e14 : (kind == 14) ≡ false = ne_eqb kind 14 (λ e. omega arith) in
    let e15 : (kind == 15) ≡ false = ne_eqb kind 15 (λ e. omega arith) in
    let e16 : (kind == 16) ≡ false = ne_eqb kind 16 (λ e. omega arith) in
    let e17 : (kind == 17) ≡ false = ne_eqb kind 17 (λ e. omega arith) in
    false≢true (rw (e0, e1, e2, e3, e4, e5, e6, e7, e8, e9, e10, e11, e12, e13, e14, e15, e16, e17) at h)

-- no type above 17 has a length
made_above : (n : ℕ) → IsMade (suc (suc (suc (suc (suc (suc (suc (suc (suc (suc (suc (suc (suc (suc (suc (suc (suc (suc n))))))))))))))))))
made_above n info len octets = absurd (no_length (suc (suc (suc (suc (suc (suc (suc (suc (suc (suc (suc (suc (suc (suc (suc (suc (suc (suc n)))))))))))))))))) (length info) (omega arith) len)

pub packet_from-made : (kind : ℕ) → IsMade kind
packet_from-made zero = made_0
packet_from-made (suc zero) = made_1
packet_from-made (suc (suc zero)) = made_2
packet_from-made (suc (suc (suc zero))) = made_3
packet_from-made (suc (suc (suc (suc zero)))) = made_4
packet_from-made (suc (suc (suc (suc (suc zero))))) = made_5
packet_from-made (suc (suc (suc (suc (suc (suc zero)))))) = made_6
packet_from-made (suc (suc (suc (suc (suc (suc (suc zero))))))) = made_7
packet_from-made (suc (suc (suc (suc (suc (suc (suc (suc zero)))))))) = made_8
packet_from-made (suc (suc (suc (suc (suc (suc (suc (suc (suc zero))))))))) = made_9
packet_from-made (suc (suc (suc (suc (suc (suc (suc (suc (suc (suc zero)))))))))) = made_10
packet_from-made (suc (suc (suc (suc (suc (suc (suc (suc (suc (suc (suc zero))))))))))) = made_11
packet_from-made (suc (suc (suc (suc (suc (suc (suc (suc (suc (suc (suc (suc zero)))))))))))) = made_12
packet_from-made (suc (suc (suc (suc (suc (suc (suc (suc (suc (suc (suc (suc (suc zero))))))))))))) = made_13
packet_from-made (suc (suc (suc (suc (suc (suc (suc (suc (suc (suc (suc (suc (suc (suc zero)))))))))))))) = made_14
packet_from-made (suc (suc (suc (suc (suc (suc (suc (suc (suc (suc (suc (suc (suc (suc (suc zero))))))))))))))) = made_15
packet_from-made (suc (suc (suc (suc (suc (suc (suc (suc (suc (suc (suc (suc (suc (suc (suc (suc zero)))))))))))))))) = made_16
packet_from-made (suc (suc (suc (suc (suc (suc (suc (suc (suc (suc (suc (suc (suc (suc (suc (suc (suc zero))))))))))))))))) = made_17
packet_from-made (suc (suc (suc (suc (suc (suc (suc (suc (suc (suc (suc (suc (suc (suc (suc (suc (suc (suc n)))))))))))))))))) = made_above n
