-- What a control octet and the octets after it say, or how they fail.
use Rattle.std.proofs.Common.{◌≡◌, ◌⊎◌, ℕ, ◌+◌, ◌-◌, ◌*◌, ◌/◌, ◌%◌, ◌<◌, ◌==◌, Bool, true, false, List, length, refl, arith, inl, inr}
use Rattle.std.specs.Prelude.{if◌then◌else◌}
use Rattle.ax25_frames.specs.declared.control.Control.TheVariants as control
use Rattle.ax25_frames.proofs.Names.{cases_Bool, cases_lt, eqb-false, eqb-true, IsOctets, Control, FrameFault, LongInfo, Short, FitsControl, FitsKind, IsNoControl, SaysControl, fields_of, kind_row, IsRestFault}
use Rattle.ax25_frames.proofs.KindLemmas.{control_from, kind_of, kind_of-fits, says_none}
use Rattle.ax25_frames.proofs.ReadLemmas.{bit_mod}

-- what holds of both holds of the one that is chosen
either : (P : Control → Type 0) (b : Bool) (x y : Control) → P x → P y → P (if b then x else y)
either P true x y h k = h
either P false x y h k = k

-- what an octet says has sequence numbers below 8
control_from-fits : (octet : ℕ) → octet < 256 → FitsControl (control_from octet)
unfolding control_from
control_from-fits octet h =
    let number : octet / 32 < 8 = omega arith in
    either FitsControl (octet % 2 == 0) (control.I (octet / 2 % 8) (octet / 32)) _ (omega arith, (number, tt))
    (either FitsControl (octet % 16 == 1) (control.Rr (octet / 32)) _ (number, tt)
    (either FitsControl (octet % 16 == 5) (control.Rnr (octet / 32)) _ (number, tt)
    (either FitsControl (octet % 16 == 9) (control.Rej (octet / 32)) _ (number, tt)
    (either FitsControl (octet == 0x2F) control.Sabm _ tt
    (either FitsControl (octet == 0x43) control.Disc _ tt
    (either FitsControl (octet == 0x0F) control.Dm _ tt
    (either FitsControl (octet == 0x63) control.Ua _ tt
    (either FitsControl (octet == 0x87) control.Frmr control.Ui tt tt))))))))

-- the octet says something, or is of no kind
pub control_or_none : (octet : ℕ) → octet < 256 → ((c : Control) × SaysControl octet c) ⊎ IsNoControl octet
control_or_none octet h =
    let base : ℕ = octet - 16 * (octet / 16 % 2) in
    let poll = bit_mod (octet / 16) in
    let is : octet ≡ base + 16 * (octet / 16 % 2) = omega arith in
    elim (cases_Bool ((kind_row (control_from base)).octet == base)) [
      | inl same ↦
          let row : (kind_row (control_from base)).octet ≡ base = eqb-true (kind_row (control_from base)).octet base same in
          inl (control_from base, (control_from-fits base (omega arith), omega arith))
      | inr other ↦ inr (says_none octet base is (omega arith) (eqb-false (kind_row (control_from base)).octet base other))
    ]

-- what follows the control octet fails, at the end of a frame of so many octets
abbrev pub IsNoRest : Control → List ℕ → ℕ → Type 0
IsNoRest c rest end = (fault : FrameFault) × IsRestFault (fields_of c) rest end fault

-- what follows the control octet is its PID and information, or fails
pub rest_or_fault : (c : Control) (rest : List ℕ) (end : ℕ) → FitsControl c → IsOctets rest → FitsKind (kind_of c rest) ⊎ IsNoRest c rest end
rest_or_fault c rest end h o =
    elim (cases_lt (length rest) ((fields_of c).pids + (fields_of c).least)) [
      | inl short ↦ inr (Short end, (refl, short))
      | inr some ↦ elim (cases_lt ((fields_of c).pids + (fields_of c).most) (length rest)) [
        | inl long ↦ inr (LongInfo (length rest - (fields_of c).pids), (long, omega arith))
        | inr fits ↦ inl (kind_of-fits c rest h o some fits)
      ]
    ]
