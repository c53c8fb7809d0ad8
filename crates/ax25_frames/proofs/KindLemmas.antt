-- The octets of a kind say the kind.
use Rattle.std.proofs.Common.{◌≡◌, ◌≢◌, ℕ, ◌+◌, ◌-◌, ◌*◌, ◌/◌, ◌%◌, ◌≤◌, ◌<◌, ◌==◌, Bool, List, [], ◌∷◌, ◌++◌, length, take, drop, replicate, refl, sym, ap, ◌∙◌, arith, length-append, length-take-le, length-drop, take-append-drop}
use Rattle.std.specs.Prelude.{if◌then◌else◌}
use Rattle.ax25_frames.specs.declared.control.Control.TheVariants as control
use Rattle.ax25_frames.proofs.Names.{eq-eqb, ne_eqb, length-replicate, All-append, All-cons, All-drop, All-head, All-nil, All-replicate, All-tail, All-take, IsOctets, Control, KindValue, kind_row, fields_of, information_fields, bit, control_octet, FitsControl, IsNoControl, FitsKind, kind_octets}
use Rattle.ax25_frames.proofs.EntryLemmas.{bit-below, bit_one, cut}

-- bit 4 of a row's octet is 0
row_poll : (c : Control) → FitsControl c → (kind_row c).octet / 16 % 2 ≡ 0
row_poll (control.I ns nr) h = omega (arith, h.0)
row_poll (control.Rr nr) h = omega arith
row_poll (control.Rnr nr) h = omega arith
row_poll (control.Rej nr) h = omega arith
row_poll control.Sabm h = refl
row_poll control.Disc h = refl
row_poll control.Dm h = refl
row_poll control.Ua h = refl
row_poll control.Frmr h = refl
row_poll control.Ui h = refl

-- what a control octet says where its P/F bit is 0, if it says anything
unfoldable pub control_from : ℕ → Control
control_from octet =
    if octet % 2 == 0 then control.I (octet / 2 % 8) (octet / 32)
    else if octet % 16 == 1 then control.Rr (octet / 32)
    else if octet % 16 == 5 then control.Rnr (octet / 32)
    else if octet % 16 == 9 then control.Rej (octet / 32)
    else if octet == 0x2F then control.Sabm
    else if octet == 0x43 then control.Disc
    else if octet == 0x0F then control.Dm
    else if octet == 0x63 then control.Ua
    else if octet == 0x87 then control.Frmr
    else control.Ui

control_from-row : (c : Control) → FitsControl c → control_from (kind_row c).octet ≡ c
unfolding control_from
control_from-row (control.I ns nr) h =
    let even : (2 * ns + 32 * nr) % 2 ≡ 0 = omega arith in
    let sent : (2 * ns + 32 * nr) / 2 % 8 ≡ ns = omega (arith, h.0) in
    let received : (2 * ns + 32 * nr) / 32 ≡ nr = omega (arith, h.0) in
    rw (eq-eqb ((2 * ns + 32 * nr) % 2) 0 even) (cc)
control_from-row (control.Rr nr) h =
    let number : (0x01 + 32 * nr) / 32 ≡ nr = omega arith in
    rw (ne_eqb ((0x01 + 32 * nr) % 2) 0 (λ e. omega arith), eq-eqb ((0x01 + 32 * nr) % 16) 1 (omega arith)) (ap control.Rr number)
control_from-row (control.Rnr nr) h =
    let number : (0x05 + 32 * nr) / 32 ≡ nr = omega arith in
    rw (ne_eqb ((0x05 + 32 * nr) % 2) 0 (λ e. omega arith), ne_eqb ((0x05 + 32 * nr) % 16) 1 (λ e. omega arith), eq-eqb ((0x05 + 32 * nr) % 16) 5 (omega arith))
    (ap control.Rnr number)
control_from-row (control.Rej nr) h =
    let number : (0x09 + 32 * nr) / 32 ≡ nr = omega arith in
    rw (ne_eqb ((0x09 + 32 * nr) % 2) 0 (λ e. omega arith), ne_eqb ((0x09 + 32 * nr) % 16) 1 (λ e. omega arith), ne_eqb ((0x09 + 32 * nr) % 16) 5 (λ e. omega arith), eq-eqb ((0x09 + 32 * nr) % 16) 9 (omega arith))
    (ap control.Rej number)
control_from-row control.Sabm h = refl
control_from-row control.Disc h = refl
control_from-row control.Dm h = refl
control_from-row control.Ua h = refl
control_from-row control.Frmr h = refl
control_from-row control.Ui h = refl

-- two octets whose bit 4 is 0, each with a bit there
same_octet : (a b p q : ℕ) → a / 16 % 2 ≡ 0 → b / 16 % 2 ≡ 0 → p < 2 → q < 2 → a + 16 * p ≡ b + 16 * q → (a ≡ b) × (p ≡ q)
same_octet a b p q ha hb hp hq e = (omega arith, omega arith)

-- a control octet says one kind and one P/F bit
pub control_one : (c d : Control) (p q : Bool) → FitsControl c → FitsControl d → control_octet c p ≡ control_octet d q → (c ≡ d) × (p ≡ q)
control_one c d p q hc hd e =
    let same = same_octet (kind_row c).octet (kind_row d).octet (bit p) (bit q) (row_poll c hc) (row_poll d hd) (bit-below p) (bit-below q) e in
    (sym (control_from-row c hc) ∙ ap control_from same.0 ∙ control_from-row d hd, bit_one p q same.1)

-- an octet that isn't the one of what it might say is of no kind
pub says_none : (octet base : ℕ) → octet ≡ base + 16 * (octet / 16 % 2) → base / 16 % 2 ≡ 0 → (kind_row (control_from base)).octet ≢ base → IsNoControl octet
says_none octet base is poll other d q fits e =
    let small = bit-below q in
    let same = same_octet base (kind_row d).octet (octet / 16 % 2) (bit q) poll (row_poll d fits) (omega arith) small (sym is ∙ e) in
    other (ap (λ (n : ℕ). (kind_row (control_from n)).octet) same.0 ∙ ap (λ (c : Control). (kind_row c).octet) (control_from-row d fits) ∙ sym same.0)

same_kind : (k l : KindValue) → k.control ≡ l.control → k.pid ≡ l.pid → k.information ≡ l.information → k ≡ l
same_kind k l c p i =
    let made : Control → List ℕ → List ℕ → KindValue = λ control pid information. record { control = control; pid = pid; information = information } in
    ap (λ (x : Control). made x k.pid k.information) c
    ∙ ap (λ (x : List ℕ). made l.control x k.information) p
    ∙ ap (λ (x : List ℕ). made l.control l.pid x) i

-- what follows an address field says one kind
pub kind_one : (k l : KindValue) (p q : Bool) → FitsKind k → FitsKind l → kind_octets k p ≡ kind_octets l q → (k ≡ l) × (p ≡ q)
kind_one k l p q hk hl e =
    let octet : control_octet k.control p ≡ control_octet l.control q = cc in
    let rest : k.pid ++ k.information ≡ l.pid ++ l.information = cc in
    let one = control_one k.control l.control p q hk.control hl.control octet in
    let count : length k.pid ≡ length l.pid = hk.count ∙ ap (λ (c : Control). (fields_of c).pids) one.0 ∙ sym hl.count in
    let parts = cut k.pid l.pid k.information l.information count rest in
    (same_kind k l one.0 parts.0 parts.1, one.1)

-- how many octets follow the control octet
pub record IsSized (k : KindValue) : Type 0 where
  pub least : (fields_of k.control).pids + (fields_of k.control).least ≤ length (k.pid ++ k.information)
  pub most : length (k.pid ++ k.information) ≤ (fields_of k.control).pids + (fields_of k.control).most

pub sized : (k : KindValue) → FitsKind k → IsSized k
sized k h =
    let all = length-append k.pid k.information in
    let count = h.count in
    let least = h.least in
    let most = h.most in
    record { least = omega arith; most = omega arith }

pub least_within : (c : Control) → (fields_of c).least ≤ (fields_of c).most
least_within (control.I ns nr) = omega arith
least_within (control.Rr nr) = omega arith
least_within (control.Rnr nr) = omega arith
least_within (control.Rej nr) = omega arith
least_within control.Sabm = omega arith
least_within control.Disc = omega arith
least_within control.Dm = omega arith
least_within control.Ua = omega arith
least_within control.Frmr = omega arith
least_within control.Ui = omega arith

-- the kind that these octets say after a control octet
abbrev pub kind_of : Control → List ℕ → KindValue
kind_of c rest = record { control = c; pid = take (fields_of c).pids rest; information = drop (fields_of c).pids rest }

pub kind_of-fits : (c : Control) (rest : List ℕ) → FitsControl c → IsOctets rest
    → (fields_of c).pids + (fields_of c).least ≤ length rest → length rest ≤ (fields_of c).pids + (fields_of c).most → FitsKind (kind_of c rest)
kind_of-fits c rest h o least most =
    let count = length-take-le (fields_of c).pids rest (omega arith) in
    let left = length-drop (fields_of c).pids rest in
    record {
      control = h;
      pid = All-take (λ (octet : ℕ). octet < 256) (fields_of c).pids rest o;
      octets = All-drop (λ (octet : ℕ). octet < 256) (fields_of c).pids rest o;
      count = count;
      least = omega arith;
      most = omega arith;
    }

-- octets that can be completed to what follows the control octet
pub record IsCompleted (c : Control) (rest : List ℕ) : Type 0 where
  pub pid : List ℕ
  pub information : List ℕ
  pub more : List ℕ
  pub fits : FitsKind (record { control = c; pid = pid; information = information })
  pub text : pid ++ information ≡ rest ++ more

-- they can, with the zeros that are missing
pub completed : (c : Control) (rest : List ℕ) → FitsControl c → IsOctets rest → length rest ≤ (fields_of c).pids + (fields_of c).most → IsCompleted c rest
completed c rest h o most =
    let missing : ℕ = (fields_of c).pids + (fields_of c).least - length rest in
    let zeros : List ℕ = replicate missing 0 in
    let within = least_within c in
    let len = length-append rest zeros in
    let added : length zeros ≡ missing = length-replicate missing 0 in
    let are : IsOctets (rest ++ zeros) =
    All-append (λ (octet : ℕ). octet < 256) rest zeros o (All-replicate (λ (octet : ℕ). octet < 256) missing 0 (omega arith)) in
    record {
      pid = take (fields_of c).pids (rest ++ zeros);
      information = drop (fields_of c).pids (rest ++ zeros);
      more = zeros;
      fits = kind_of-fits c (rest ++ zeros) h are (omega arith) (omega arith);
      text = take-append-drop (fields_of c).pids (rest ++ zeros);
    }

-- a kind without PID and information fits
pub fits_bare : (c : Control) → FitsControl c → (fields_of c).pids ≡ 0 → (fields_of c).least ≡ 0 → FitsKind (record { control = c; pid = []; information = [] })
fits_bare c h pids least =
    record {
      control = h;
      pid = All-nil (λ (octet : ℕ). octet < 256);
      octets = All-nil (λ (octet : ℕ). octet < 256);
      count = sym pids;
      least = omega arith;
      most = omega arith;
    }

-- SABM fits
pub sabm_fits : FitsKind (record { control = control.Sabm; pid = []; information = [] })
sabm_fits = fits_bare control.Sabm tt refl refl

-- a kind with PID and information fits
pub fits_information : (c : Control) (pid : ℕ) (info : List ℕ) → FitsControl c → fields_of c ≡ information_fields → IsOctets (pid ∷ info) → length info ≤ 256
    → FitsKind (record { control = c; pid = pid ∷ []; information = info })
fits_information c pid info h f o most =
    let P : ℕ → Type 0 = λ octet. octet < 256 in
    record {
      control = h;
      pid = All-cons P pid [] (All-head P pid info o) (All-nil P);
      octets = All-tail P pid info o;
      count = sym (ap (λ x. x.pids) f);
      least = let least : (fields_of c).least ≡ 0 = ap (λ x. x.least) f in omega arith;
      most = let fields : (fields_of c).most ≡ 256 = ap (λ x. x.most) f in omega arith;
    }
