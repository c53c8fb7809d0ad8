-- The kinds of frames, their control octets, and what follows (AX.25 2.0, 2.2.4 and 2.3).
use Rattle.std.specs.Prelude.{ℕ, ◌+◌, ◌*◌, ◌/◌, ◌%◌, ◌<◌, ◌≤◌, ◌==◌, List, [], ◌∷◌, ◌++◌, length, Bool, if◌then◌else◌, ◌≡◌}
use Rattle.std.specs.List.{AllByRecursion}
use Rattle.px_base.specs.Octets.{IsOctets}
use Rattle.ax25_frames.specs.declared.control.Control.{Control}
use Rattle.ax25_frames.specs.declared.control.Control.TheVariants as control

-- 1 where the bit is set
abbrev pub bit : Bool → ℕ
bit b = if b then 1 else 0

-- what follows a control octet: how many PID octets (2.2.4), and the least and the most octets of information (2.2.5)
pub record Fields : Type 0 where
  pub pids : ℕ
  pub least : ℕ
  pub most : ℕ

-- nothing
abbrev pub no_fields : Fields
no_fields = record { pids = 0; least = 0; most = 0 }

-- in I and UI, a PID octet and at most 256 octets of information (2.4.7.3)
abbrev pub information_fields : Fields
information_fields = record { pids = 1; least = 0; most = 256 }

-- in FRMR, three octets of information (2.3.4.3.3)
abbrev pub reject_fields : Fields
reject_fields = record { pids = 0; least = 3; most = 3 }

-- what a kind of frame has: its control octet where the P/F bit is 0, the sequence numbers in it, N(S) before N(R), and
-- what follows it
pub record KindRow : Type 0 where
  pub octet : ℕ
  pub numbers : List ℕ
  pub fields : Fields

-- an S frame: bits 1 and 0 are 01, bits 3 and 2 say which, N(R) is in bits 5 to 7 (2.3.2)
abbrev pub supervisory_row : ℕ → ℕ → KindRow
supervisory_row octet nr = record { octet = octet + 32 * nr; numbers = nr ∷ []; fields = no_fields }

-- a U frame: bits 1 and 0 are 11, and all but bit 4 say which (2.3.2)
abbrev pub unnumbered_row : ℕ → Fields → KindRow
unnumbered_row octet fields = record { octet = octet; numbers = []; fields = fields }

-- The kinds of frames, by what a control octet says. In an I frame bit 0 is 0, N(S) in bits 1 to 3, N(R) in bits 5 to 7.
abbrev pub kind_row : Control → KindRow
kind_row (control.I ns nr) = record { octet = 2 * ns + 32 * nr; numbers = ns ∷ nr ∷ []; fields = information_fields }
kind_row (control.Rr nr) = supervisory_row 0x01 nr
kind_row (control.Rnr nr) = supervisory_row 0x05 nr
kind_row (control.Rej nr) = supervisory_row 0x09 nr
kind_row control.Sabm = unnumbered_row 0x2F no_fields
kind_row control.Disc = unnumbered_row 0x43 no_fields
kind_row control.Dm = unnumbered_row 0x0F no_fields
kind_row control.Ua = unnumbered_row 0x63 no_fields
kind_row control.Frmr = unnumbered_row 0x87 reject_fields
kind_row control.Ui = unnumbered_row 0x03 information_fields

-- the control octet, with the P/F bit in bit 4 (2.3.2)
abbrev pub control_octet : Control → Bool → ℕ
control_octet c poll = (kind_row c).octet + 16 * bit poll

-- the P/F bit of a control octet (2.3.3)
abbrev pub poll_bit : ℕ → Bool
poll_bit octet = octet / 16 % 2 == 1

-- sequence numbers are below 8 (2.3.2)
abbrev pub FitsControl : Control → Type 0
FitsControl c = AllByRecursion (λ number. number < 8) (kind_row c).numbers

-- what follows the control octet
abbrev pub fields_of : Control → Fields
fields_of c = (kind_row c).fields

-- the octet says this, beside its P/F bit
abbrev pub SaysControl : ℕ → Control → Type 0
SaysControl octet c = FitsControl c × (octet ≡ control_octet c (poll_bit octet))

-- the octet is of no kind of frame
abbrev pub IsNoControl : ℕ → Type 0
IsNoControl octet = (c : Control) (poll : Bool) → FitsControl c → octet ≡ control_octet c poll → ⊥

-- a kind of frame with its fields: what its control octet says, its PID octet where it has one, and its information
pub record KindValue : Type 0 where
  pub control : Control
  pub pid : List ℕ
  pub information : List ℕ

-- each field has its range, and as many octets as the kind has
pub record FitsKind (kind : KindValue) : Type 0 where
  pub control : FitsControl kind.control
  pub pid : IsOctets kind.pid
  pub octets : IsOctets kind.information
  pub count : length kind.pid ≡ (fields_of kind.control).pids
  pub least : (fields_of kind.control).least ≤ length kind.information
  pub most : length kind.information ≤ (fields_of kind.control).most

-- What can be written: sequence numbers below 8, and no more information after a PID octet than the kind has. The other
-- kinds have none, or three octets by their type.
pub record CanWrite (kind : KindValue) : Type 0 where
  pub control : FitsControl kind.control
  pub most : (fields_of kind.control).pids ≡ 1 → length kind.information ≤ (fields_of kind.control).most

-- what follows the address field: the control octet, the PID where the kind has one, and the information (2.2)
abbrev pub kind_octets : KindValue → Bool → List ℕ
kind_octets kind poll = control_octet kind.control poll ∷ (kind.pid ++ kind.information)
