-- Octets are those of a frame, or have a fault.
use Rattle.std.proofs.Common.{◌≡◌, ◌⊎◌, ℕ, zero, suc, ◌+◌, ◌*◌, ◌≤◌, ◌<◌, Bool, true, false, List, [], length, drop, min, slice_index, refl, subst, arith, inl, inr, take-append-drop}
use Rattle.ax25_frames.proofs.Names.{cases_lt, CallSign, FrameFault, BadAddress, BadControl, Short, TooManyAddresses, IsOctets, fields_of, poll_bit, BeginsUnended, FrameText, FrameValue, FaultAt, IsFrameOrFault, AddressesAt, EntryAt, RepeatersAt, characters_begun}
use Rattle.ax25_frames.proofs.FaultLemmas.{bad_entry, ended_destination, more_unended, short_entry, too_many}
use Rattle.ax25_frames.proofs.ReadLemmas.{AreRepeaters, addresses_more, addresses_two, control_fault, entry_read, frame_at, octets_after, repeaters_begin, repeaters_end, repeaters_more, rest_fault_at, short_at}
use Rattle.ax25_frames.proofs.ControlCases.{control_or_none, rest_or_fault}
use Rattle.ax25_frames.proofs.KindLemmas.{kind_of}

-- the octets have a fault
abbrev HasFault : List ℕ → Type 0
HasFault octets = (fault : FrameFault) × FaultAt fault octets

module _ (octets : List ℕ) (o : IsOctets octets) where
  -- after so many entries stands another
  abbrev HasEntry : ℕ → Type 0
  HasEntry n = (call : CallSign) × (c_or_h_bit end : Bool) × EntryAt octets n call c_or_h_bit end

  entry_or_fault : (n : ℕ) → BeginsUnended octets n → n < 10 → HasEntry n ⊎ HasFault octets
  entry_or_fault n h few =
      let x : List ℕ = drop (7 * n) octets in
      elim (cases_lt (characters_begun x) (min 6 (length x))) [
        | inl ill ↦ inr (BadAddress (7 * n + characters_begun x), bad_entry octets x n (characters_begun x) refl refl h few ill)
        | inr begun ↦ elim (cases_lt (length x) 7) [
          | inl short ↦ inr (Short (length octets), short_entry octets x n (characters_begun x) refl refl h few begun short)
          | inr long ↦ inl (_, _, _, entry_read octets x _ n (characters_begun x) refl refl refl begun long (octets_after (7 * n) octets x refl o 6 0 (omega arith)))
        ]
      ]

  -- repeaters follow destination and source
  abbrev HasRepeaters : Type 0
  HasRepeaters = (via : ℕ) × RepeatersAt octets via × (1 ≤ via) × (via ≤ 8)

  repeaters_or_fault : (left n : ℕ) → n + left ≡ 8 → AreRepeaters octets n → HasRepeaters ⊎ HasFault octets
  repeaters_or_fault zero n e h =
      let ten : 2 + n ≡ 10 = omega arith in
      inr (TooManyAddresses, too_many octets (subst (BeginsUnended octets) ten h.before))
  repeaters_or_fault (suc left) n e h =
      elim (entry_or_fault (2 + n) h.before (omega arith)) [
        | inr fault ↦ inr fault
        | inl entry ↦ next entry.0 entry.1 entry.2 entry.3 (repeaters_or_fault left (n + 1) (omega arith))
      ]
    where
      next : (call : CallSign) (c_or_h_bit end : Bool) → EntryAt octets (2 + n) call c_or_h_bit end → (AreRepeaters octets (n + 1) → HasRepeaters ⊎ HasFault octets) → HasRepeaters ⊎ HasFault octets
      next call c_or_h_bit true entry go_on = inl (n + 1, repeaters_end octets n call c_or_h_bit h entry, omega arith, omega arith)
      next call c_or_h_bit false entry go_on = go_on (repeaters_more octets n call c_or_h_bit h entry (more_unended octets (2 + n) call c_or_h_bit h.before entry))

  -- a whole address field stands at the front
  abbrev HasAddresses : Type 0
  HasAddresses = (dest src : CallSign) × (via : ℕ) × (command : Bool) × AddressesAt octets dest src via command (14 + 7 * via)

  source_or_fault : (dest : CallSign) (command : Bool) → EntryAt octets 0 dest command false → BeginsUnended octets 1 → HasAddresses ⊎ HasFault octets
  source_or_fault dest command d one =
      elim (entry_or_fault 1 one (omega arith)) [
        | inr fault ↦ inr fault
        | inl entry ↦ next entry.0 entry.1 entry.2 entry.3
      ]
    where
      next : (src : CallSign) (c_or_h_bit end : Bool) → EntryAt octets 1 src c_or_h_bit end → HasAddresses ⊎ HasFault octets
      next src c_or_h_bit true s = inl (dest, src, 0, command, addresses_two octets dest src command c_or_h_bit d s)
      next src c_or_h_bit false s =
          elim (repeaters_or_fault 8 0 refl (repeaters_begin octets (more_unended octets 1 src c_or_h_bit one s))) [
            | inr fault ↦ inr fault
            | inl r ↦ inl (dest, src, r.0, command, addresses_more octets dest src command c_or_h_bit r.0 d s r.1 r.2 r.3)
          ]

  addresses_or_fault : HasAddresses ⊎ HasFault octets
  addresses_or_fault =
      elim (entry_or_fault 0 none (omega arith)) [
        | inr fault ↦ inr fault
        | inl entry ↦ next entry.0 entry.1 entry.2 entry.3
      ]
    where
      none : BeginsUnended octets 0
      none = ([], octets, tt, refl, refl)

      next : (dest : CallSign) (command end : Bool) → EntryAt octets 0 dest command end → HasAddresses ⊎ HasFault octets
      next dest command true d = inr (BadAddress 6, ended_destination octets dest command d)
      next dest command false d = source_or_fault dest command d (more_unended octets 0 dest command none d)

  -- some frame has the octets
  abbrev HasFrame : Type 0
  HasFrame = (frame : FrameValue) × FrameText frame octets

  after_addresses : (dest src : CallSign) (via : ℕ) (command : Bool) (len : ℕ) → AddressesAt octets dest src via command len → HasFrame ⊎ HasFault octets
  after_addresses dest src via command len a =
      elim (cases_lt len (length octets)) [
        | inr short ↦ inr (Short (length octets), short_at octets dest src via command len a short)
        | inl there ↦ elim (control_or_none (slice_index octets len) (o len 0 there)) [
          | inr none ↦ inr (BadControl (slice_index octets len), control_fault octets dest src via command len a (slice_index octets len) refl there none)
          | inl says ↦
              let octet : ℕ = slice_index octets len in
              let rest : List ℕ = drop (len + 1) octets in
              let are : IsOctets rest = octets_after (len + 1) octets rest refl o in
              elim (rest_or_fault says.0 rest (length octets) says.1.0 are) [
                | inr f ↦ inr (f.0, rest_fault_at octets dest src via command len a octet says.0 (poll_bit octet) rest f.0 refl there says.1.1 refl says.1.0 are f.1)
                | inl fits ↦
                    inl (
                      _,
                      frame_at octets dest src via command len a octet says.0 (poll_bit octet) rest (kind_of says.0 rest) refl there says.1.1 refl refl
                          (take-append-drop (fields_of says.0).pids rest) fits,
                    )
              ]
        ]
      ]

-- some frame has the octets, or they have a fault
pub frame_or_fault : IsFrameOrFault
frame_or_fault octets o =
    elim (addresses_or_fault octets o) [
      | inr fault ↦ inr fault
      | inl a ↦ after_addresses octets o a.0 a.1 a.2 a.3 (14 + 7 * a.2) a.4
    ]
