-- What was read of the address field, entry by entry.
use Rattle.std.proofs.Common.{◌≡◌, ℕ, suc, ◌+◌, ◌*◌, ◌/◌, ◌%◌, ◌≤◌, ◌<◌, ◌==◌, Bool, true, false, List, [], ◌∷◌, ◌++◌, length, map, take, drop, slice_index, leb, refl, sym, ap, ◌∙◌, subst, arith, append_assoc, length-append, length-take-le, take-append-drop, drop-cons, min, inl, inr}
use Rattle.ax25_frames.proofs.Names.{ne_eqb, eq-eqb, le-leb, lt-leb, cases_lt, common_steps, take_at, take_all, drop-drop, All-drop, CallSign, IsCall, Control, FrameFault, Short, BadControl, IsOctets, KindValue, bit, control_octet, fields_of, FitsControl, IsNoControl, FitsKind, kind_octets, FrameValue, FrameText, FaultAt, IsRestFault, Entry, AreEntries, character_octets, ssid_octet, entry_octets, address_field, unended, BeginsUnended, characters_begun, EntryAt, RepeatersAt, AddressesAt}
use Rattle.ax25_frames.proofs.CharacterLemmas.{begun_is, begun_whole}
use Rattle.ax25_frames.proofs.EntryLemmas.{length_entry, length_unended, length_field, unended_more, AreEntries_more, field_last}
use Rattle.ax25_frames.proofs.FaultLemmas.{drop_past, short_control, bad_control, rest_fault}
use Rattle.ax25_frames.proofs.FrameLemmas.{frame_of, text_of, same_frame}

pub unended_within : (octets : List ℕ) (n : ℕ) → BeginsUnended octets n → 7 * n ≤ length octets
unended_within octets n h =
    let len = length_unended h.0 h.2 in
    let size = h.3 in
    let all = length-append (unended h.0) h.1 in
    let long : length octets ≡ length (unended h.0 ++ h.1) = ap length h.4 in
    omega arith

-- bit 0 of a number
pub bit_mod : (o : ℕ) → bit (o % 2 == 1) ≡ o % 2
bit_mod o =
    elim (cases_lt (o % 2) 1) [
      | inl low ↦ let e : (o % 2 == 1) ≡ false = ne_eqb _ _ (λ e. omega arith) in ap bit e ∙ omega arith
      | inr high ↦ let e : (o % 2 == 1) ≡ true = eq-eqb _ _ (omega arith) in ap bit e ∙ omega arith
    ]

bit_seven : (o : ℕ) → o < 256 → bit (leb 128 o) ≡ o / 128
bit_seven o h =
    elim (cases_lt o 128) [
      | inl low ↦ let e : leb 128 o ≡ false = lt-leb _ _ low in ap bit e ∙ omega arith
      | inr high ↦ let e : leb 128 o ≡ true = le-leb _ _ high in ap bit e ∙ omega arith
    ]

-- seven octets at the front
seven : (x : List ℕ) → 7 ≤ length x → x ≡ (take 6 x ++ slice_index x 6 ∷ []) ++ drop 7 x
seven [] h = absurd (omega arith)
seven (a ∷ []) h = absurd (omega arith)
seven (a ∷ b ∷ []) h = absurd (omega arith)
seven (a ∷ b ∷ c ∷ []) h = absurd (omega arith)
seven (a ∷ b ∷ c ∷ d ∷ []) h = absurd (omega arith)
seven (a ∷ b ∷ c ∷ d ∷ e ∷ []) h = absurd (omega arith)
seven (a ∷ b ∷ c ∷ d ∷ e ∷ f ∷ []) h = absurd (omega arith)
seven (a ∷ b ∷ c ∷ d ∷ e ∷ f ∷ g ∷ x) h = refl

-- all six characters were begun
six_begun : (x : List ℕ) (begun : ℕ) → begun ≡ characters_begun x → min 6 (length x) ≤ begun → 7 ≤ length x → characters_begun x ≡ 6
six_begun x begun b l long =
    let there = begun_is x in
    let within = there.within in
    omega arith

-- the call that was read
pub call_read : (x chars : List ℕ) (begun : ℕ) → chars ≡ map (λ o. o / 2) (take 6 x) → begun ≡ characters_begun x → min 6 (length x) ≤ begun → 7 ≤ length x
    → IsCall (record { chars = chars; ssid = slice_index x 6 / 2 % 16 })
call_read x chars begun e b l long =
    subst (λ (cs : List ℕ). IsCall (record { chars = cs; ssid = slice_index x 6 / 2 % 16 })) (sym e)
    (begun_whole x (slice_index x 6 / 2 % 16) (omega arith) (six_begun x begun b l long) (omega arith)).is_call

-- the entry that was read
pub entry_read : (octets x chars : List ℕ) (n begun : ℕ) → x ≡ drop (7 * n) octets → chars ≡ map (λ o. o / 2) (take 6 x) → begun ≡ characters_begun x
    → min 6 (length x) ≤ begun → 7 ≤ length x → slice_index x 6 < 256
    → EntryAt octets n (record { chars = chars; ssid = slice_index x 6 / 2 % 16 }) (leb 128 (slice_index x 6)) (slice_index x 6 % 2 == 1)
entry_read octets x chars n begun is e b most l o =
    let whole = begun_whole x (slice_index x 6 / 2 % 16) (omega arith) (six_begun x begun b most l) (omega arith) in
    let entry : Entry = record { call = record { chars = map (λ o. o / 2) (take 6 x); ssid = slice_index x 6 / 2 % 16 }; reserved = slice_index x 6 / 32 % 4; c_or_h_bit = leb 128 (slice_index x 6) } in
    let low = bit_mod (slice_index x 6) in
    let high = bit_seven (slice_index x 6) o in
    let octet : ssid_octet (slice_index x 6 % 2 == 1) entry ≡ slice_index x 6 = omega arith in (
      entry,
      drop 7 x,
      record { call = whole.is_call; reserved = omega arith },
      ap (λ (cs : List ℕ). let call : CallSign = record { chars = cs; ssid = slice_index x 6 / 2 % 16 } in call) (sym e),
      refl,
      sym is
          ∙ seven x l
          ∙ ap (λ (c : List ℕ). (c ++ slice_index x 6 ∷ []) ++ drop 7 x) (sym whole.text)
          ∙ ap (λ (k : ℕ). (character_octets entry.call ++ k ∷ []) ++ drop 7 x) (sym octet),
    )

-- so many repeater entries so far, none with the end bit
pub record AreRepeaters (octets : List ℕ) (n : ℕ) : Type 0 where
  pub before : BeginsUnended octets (2 + n)
  pub repeaters : List Entry
  pub rest : List ℕ
  pub entries : AreEntries repeaters
  pub count : length repeaters ≡ n
  pub text : drop 14 octets ≡ unended repeaters ++ rest

-- the rest after these repeaters
rest_after : (octets : List ℕ) (n : ℕ) (h : AreRepeaters octets n) → drop (7 * (2 + n)) octets ≡ h.rest
rest_after octets n h =
    let len = length_unended h.repeaters h.entries in
    let count = h.count in
    let place : 7 * (2 + n) ≡ 14 + 7 * n = omega arith in
    ap (λ (k : ℕ). drop k octets) place
    ∙ sym (drop-drop (7 * n) 14 octets)
    ∙ ap (λ (x : List ℕ). drop (7 * n) x) h.text
    ∙ drop_past (unended h.repeaters) h.rest (7 * n) (omega arith)

pub repeaters_begin : (octets : List ℕ) → BeginsUnended octets 2 → AreRepeaters octets 0
repeaters_begin octets h = record { before = h; repeaters = []; rest = drop 14 octets; entries = tt; count = refl; text = refl }

pub repeaters_more : (octets : List ℕ) (n : ℕ) (call : CallSign) (c_or_h_bit : Bool) → AreRepeaters octets n → EntryAt octets (2 + n) call c_or_h_bit false
    → BeginsUnended octets (2 + n + 1) → AreRepeaters octets (n + 1)
repeaters_more octets n call c_or_h_bit h e more =
    let count = h.count in
    let len = length-append h.repeaters (e.0 ∷ []) in
    let place : 2 + n + 1 ≡ 2 + (n + 1) = omega arith in
    record {
      before = subst (BeginsUnended octets) place more;
      repeaters = h.repeaters ++ e.0 ∷ [];
      rest = e.1;
      entries = AreEntries_more h.repeaters e.0 h.entries e.2;
      count = omega arith;
      text =
          h.text
          ∙ ap (λ (x : List ℕ). unended h.repeaters ++ x) (sym (rest_after octets n h) ∙ e.5)
          ∙ sym (append_assoc (unended h.repeaters) (entry_octets false e.0) e.1)
          ∙ ap (λ (x : List ℕ). x ++ e.1) (sym (unended_more h.repeaters e.0));
    }

pub repeaters_end : (octets : List ℕ) (n : ℕ) (call : CallSign) (c_or_h_bit : Bool) → AreRepeaters octets n → EntryAt octets (2 + n) call c_or_h_bit true → RepeatersAt octets (n + 1)
repeaters_end octets n call c_or_h_bit h e =
    let count = h.count in
    let len = length-append h.repeaters (e.0 ∷ []) in (
      h.repeaters ++ e.0 ∷ [],
      e.1,
      AreEntries_more h.repeaters e.0 h.entries e.2,
      omega arith,
      h.text
          ∙ ap (λ (x : List ℕ). unended h.repeaters ++ x) (sym (rest_after octets n h) ∙ e.5)
          ∙ sym (append_assoc (unended h.repeaters) (entry_octets true e.0) e.1)
          ∙ ap (λ (x : List ℕ). x ++ e.1) (sym (field_last h.repeaters e.0)),
    )

-- destination and source, and what follows them
after_source : (octets : List ℕ) (dest src : CallSign) (command c_or_h_bit end : Bool) (d : EntryAt octets 0 dest command false) (s : EntryAt octets 1 src c_or_h_bit end)
    → (octets ≡ entry_octets false d.0 ++ (entry_octets end s.0 ++ s.1)) × (drop 14 octets ≡ s.1)
after_source octets dest src command c_or_h_bit end d s =
    let one = length_entry false d.0 d.2 in
    let two = length_entry end s.0 s.2 in
    let whole : octets ≡ entry_octets false d.0 ++ d.1 = d.5 in
    let rest : d.1 ≡ entry_octets end s.0 ++ s.1 =
    sym (ap (λ (x : List ℕ). drop 7 x) whole ∙ drop_past (entry_octets false d.0) d.1 7 (sym one)) ∙ s.5 in (
      whole ∙ ap (λ (x : List ℕ). entry_octets false d.0 ++ x) rest,
      sym (drop-drop 7 7 octets)
          ∙ ap (λ (x : List ℕ). drop 7 x) s.5
          ∙ drop_past (entry_octets end s.0) s.1 7 (sym two),
    )

pub addresses_two : (octets : List ℕ) (dest src : CallSign) (command c_or_h_bit : Bool) → EntryAt octets 0 dest command false → EntryAt octets 1 src c_or_h_bit true
    → AddressesAt octets dest src 0 command (14 + 7 * 0)
addresses_two octets dest src command c_or_h_bit d s =
    let a = after_source octets dest src command c_or_h_bit true d s in
    let field = length_field (d.0 ∷ s.0 ∷ []) (d.2, (s.2, tt)) in
    let whole : octets ≡ address_field (d.0 ∷ s.0 ∷ []) ++ s.1 = a.0 ∙ grouped (entry_octets false d.0) (entry_octets true s.0) s.1 in
    let long : length octets ≡ length (address_field (d.0 ∷ s.0 ∷ []) ++ s.1) = ap length whole in
    let all = length-append (address_field (d.0 ∷ s.0 ∷ [])) s.1 in (
      d.0,
      s.0,
      [],
      d.2,
      s.2,
      tt,
      d.3,
      d.4,
      s.3,
      refl,
      omega arith,
      ap (λ (x : List ℕ). take 14 x) whole ∙ take_at (address_field (d.0 ∷ s.0 ∷ [])) s.1 14 (omega arith),
      omega arith,
    )
  where
    grouped : (x y z : List ℕ) → x ++ (y ++ z) ≡ (x ++ (y ++ [])) ++ z
    grouped x y z = grind (arith, common_steps)

pub addresses_more : (octets : List ℕ) (dest src : CallSign) (command c_or_h_bit : Bool) (via : ℕ) → EntryAt octets 0 dest command false → EntryAt octets 1 src c_or_h_bit false
    → RepeatersAt octets via → 1 ≤ via → via ≤ 8 → AddressesAt octets dest src via command (14 + 7 * via)
addresses_more octets dest src command c_or_h_bit via d s ([], rest, h, count, text) some most = absurd (omega arith)
addresses_more octets dest src command c_or_h_bit via d s (r ∷ rs, rest, h, count, text) some most =
    let a = after_source octets dest src command c_or_h_bit false d s in
    let field = length_field (d.0 ∷ s.0 ∷ r ∷ rs) (d.2, (s.2, h)) in
    let whole : octets ≡ address_field (d.0 ∷ s.0 ∷ r ∷ rs) ++ rest =
    a.0
    ∙ ap (λ (x : List ℕ). entry_octets false d.0 ++ (entry_octets false s.0 ++ x)) (sym a.1 ∙ text)
    ∙ grouped (entry_octets false d.0) (entry_octets false s.0) (address_field (r ∷ rs)) rest in
    let long : length octets ≡ length (address_field (d.0 ∷ s.0 ∷ r ∷ rs) ++ rest) = ap length whole in
    let all = length-append (address_field (d.0 ∷ s.0 ∷ r ∷ rs)) rest in (
      d.0,
      s.0,
      r ∷ rs,
      d.2,
      s.2,
      h,
      d.3,
      d.4,
      s.3,
      count,
      most,
      ap (λ (x : List ℕ). take (14 + 7 * via) x) whole ∙ take_at (address_field (d.0 ∷ s.0 ∷ r ∷ rs)) rest (14 + 7 * via) (omega arith),
      omega arith,
    )
  where
    grouped : (x y f z : List ℕ) → x ++ (y ++ (f ++ z)) ≡ (x ++ (y ++ f)) ++ z
    grouped x y f z = grind (arith, common_steps)

-- octets that begin with an address field of so many octets
module _ (octets : List ℕ) (dest src : CallSign) (via : ℕ) (command : Bool) (len : ℕ) (a : AddressesAt octets dest src via command len) where
  abbrev the_field : List ℕ
  the_field = address_field (a.0 ∷ a.1 ∷ a.2)

  all_entries : AreEntries (a.0 ∷ a.1 ∷ a.2)
  all_entries = (a.3, (a.4, a.5))

  few : length a.2 ≤ 8
  few = let count = a.9 in let most = a.10 in omega arith

  length_the_field : length the_field ≡ len
  length_the_field = ap length (sym a.11) ∙ length-take-le len octets a.12

  -- the control octet and what follows
  split : len < length octets → octets ≡ the_field ++ slice_index octets len ∷ drop (len + 1) octets
  split l =
      let next : len + 1 ≡ suc len = omega arith in
      sym (take-append-drop len octets)
      ∙ ap (λ (x : List ℕ). x ++ drop len octets) a.11
      ∙ ap (λ (x : List ℕ). the_field ++ x) (drop-cons octets len 0 l)
      ∙ ap (λ (k : ℕ). the_field ++ slice_index octets len ∷ drop k octets) (sym next)

  pub short_at : length octets ≤ len → FaultAt (Short (length octets)) octets
  short_at l =
      let all : octets ≡ the_field = sym (take_all len octets l) ∙ a.11 in
      subst (λ (o : List ℕ). FaultAt (Short (length o)) o) (sym all) (short_control a.0 a.1 a.2 all_entries few)

  pub control_fault : (octet : ℕ) → octet ≡ slice_index octets len → len < length octets
      → IsNoControl octet → FaultAt (BadControl octet) octets
  control_fault octet is l none =
      let whole : octets ≡ the_field ++ octet ∷ drop (len + 1) octets = split l ∙ ap (λ (k : ℕ). the_field ++ k ∷ drop (len + 1) octets) (sym is) in
      subst (FaultAt (BadControl octet)) (sym whole) (bad_control a.0 a.1 a.2 all_entries few octet (drop (len + 1) octets) none)

  whole_of : (octet : ℕ) (c : Control) (p : Bool) (rest : List ℕ) → octet ≡ slice_index octets len → len < length octets → octet ≡ control_octet c p
      → rest ≡ drop (len + 1) octets → octets ≡ the_field ++ control_octet c p ∷ rest
  whole_of octet c p rest is l control r =
      split l
      ∙ ap (λ (k : ℕ). the_field ++ k ∷ drop (len + 1) octets) (sym is ∙ control)
      ∙ ap (λ (x : List ℕ). the_field ++ control_octet c p ∷ x) (sym r)

  pub rest_fault_at : (octet : ℕ) (c : Control) (p : Bool) (rest : List ℕ) (fault : FrameFault) → octet ≡ slice_index octets len → len < length octets
      → octet ≡ control_octet c p → rest ≡ drop (len + 1) octets → FitsControl c → IsOctets rest
      → IsRestFault (fields_of c) rest (length octets) fault → FaultAt fault octets
  rest_fault_at octet c p rest fault is l control r fits o f =
      let whole = whole_of octet c p rest is l control r in
      let there : IsRestFault (fields_of c) rest (length (the_field ++ control_octet c p ∷ rest)) fault =
      subst (λ (x : List ℕ). IsRestFault (fields_of c) rest (length x) fault) whole f in
      subst (FaultAt fault) (sym whole) (rest_fault a.0 a.1 a.2 all_entries few c p rest fault fits o there)

  pub frame_at : (octet : ℕ) (c : Control) (p : Bool) (rest : List ℕ) (kind : KindValue) → octet ≡ slice_index octets len → len < length octets
      → octet ≡ control_octet c p → rest ≡ drop (len + 1) octets → kind.control ≡ c → kind.pid ++ kind.information ≡ rest → FitsKind kind
      → FrameText (record { dest = dest; src = src; via = via; kind = kind; poll = p; command = command }) octets
  unfolding frame_of
  frame_at octet c p rest kind is l control r of_kind text fits =
      let whole : octets ≡ the_field ++ kind_octets kind p =
      whole_of octet c p rest is l control r
      ∙ ap (λ (d : Control). the_field ++ control_octet d p ∷ rest) (sym of_kind)
      ∙ ap (λ (x : List ℕ). the_field ++ control_octet kind.control p ∷ x) (sym text) in
      let same : frame_of a.0 a.1 a.2 kind p ≡ record { dest = dest; src = src; via = via; kind = kind; poll = p; command = command } =
      same_frame (frame_of a.0 a.1 a.2 kind p) (record { dest = dest; src = src; via = via; kind = kind; poll = p; command = command }) a.6 a.8 a.9 refl refl a.7 in
      subst (λ (f : FrameValue). FrameText f octets) same
      (subst (FrameText (frame_of a.0 a.1 a.2 kind p)) (sym whole) (text_of a.0 a.1 a.2 kind p all_entries few fits))

-- octets further on are octets
pub octets_after : (n : ℕ) (octets x : List ℕ) → x ≡ drop n octets → IsOctets octets → IsOctets x
octets_after n octets x is h = subst IsOctets (sym is) (All-drop (λ (octet : ℕ). octet < 256) n octets h)
