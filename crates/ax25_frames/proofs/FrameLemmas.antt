-- Frames from their parts, and which octets can be completed to a frame's.
use Rattle.std.proofs.Common.{◌≡◌, ℕ, ◌+◌, ◌≤◌, Bool, true, false, not, List, [], ◌∷◌, ◌++◌, length, take, drop, refl, sym, ap, ◌∙◌, subst, arith, append_assoc, append-nil, length-append, take-append-drop}
use Rattle.ax25_frames.specs.declared.control.Control.TheVariants as control
use Rattle.ax25_frames.proofs.Names.{common_steps, CallSign, Short, BadAddress, TooManyAddresses, BadControl, LongInfo, KindValue, control_octet, FitsKind, kind_octets, bare_value, Entry, IsEntry, AreEntries, character_octets, ssid_octet, entry_octets, address_field, unended, FrameValue, FrameText, BeginsFrame, IsOneFrame, IsCanonical, IsNoFrame}
use Rattle.ax25_frames.proofs.EntryLemmas.{field_one, field_last, AreEntries_more}
use Rattle.ax25_frames.proofs.KindLemmas.{kind_one, sabm_fits}

-- the parts of a frame's octets
pub record HasParts (frame : FrameValue) (octets : List ℕ) : Type 0 where
  pub dest : Entry
  pub src : Entry
  pub repeaters : List Entry
  pub entries : AreEntries (dest ∷ src ∷ repeaters)
  pub most : length repeaters ≤ 8
  pub fits : FitsKind frame.kind
  pub text : octets ≡ address_field (dest ∷ src ∷ repeaters) ++ kind_octets frame.kind frame.poll
  pub is_dest : frame.dest ≡ dest.call
  pub is_src : frame.src ≡ src.call
  pub is_via : frame.via ≡ length repeaters
  pub is_command : frame.command ≡ dest.c_or_h_bit

pub parts : (frame : FrameValue) (octets : List ℕ) → FrameText frame octets → HasParts frame octets
parts frame octets h =
    let via = h.fits_free.via in
    let most = h.fits.via in
    record {
      dest = record { call = frame.dest; reserved = h.free.dest_reserved; c_or_h_bit = frame.command };
      src = record { call = frame.src; reserved = h.free.src_reserved; c_or_h_bit = h.free.src_c_bit };
      repeaters = h.free.repeaters;
      entries = (record { call = h.fits.dest; reserved = h.fits_free.dest_reserved }, (record { call = h.fits.src; reserved = h.fits_free.src_reserved }, h.fits_free.repeaters));
      most = omega arith;
      fits = h.fits.kind;
      text = h.text;
      is_dest = refl;
      is_src = refl;
      is_via = sym via;
      is_command = refl;
    }

-- the frame of entries and a kind
unfoldable pub frame_of : Entry → Entry → List Entry → KindValue → Bool → FrameValue
frame_of dest src repeaters kind poll =
    record { dest = dest.call; src = src.call; via = length repeaters; kind = kind; poll = poll; command = dest.c_or_h_bit }

pub text_of : (dest src : Entry) (repeaters : List Entry) (kind : KindValue) (poll : Bool) → AreEntries (dest ∷ src ∷ repeaters) → length repeaters ≤ 8
    → FitsKind kind → FrameText (frame_of dest src repeaters kind poll) (address_field (dest ∷ src ∷ repeaters) ++ kind_octets kind poll)
unfolding frame_of
text_of dest src repeaters kind poll h most fits =
    record {
      fits = record { dest = h.0.call; src = h.1.0.call; via = most; kind = fits };
      free = record { dest_reserved = dest.reserved; src_reserved = src.reserved; src_c_bit = src.c_or_h_bit; repeaters = repeaters };
      fits_free = record { dest_reserved = h.0.reserved; src_reserved = h.1.0.reserved; repeaters = h.1.1; via = refl };
      text = refl;
    }

-- the same text, cut before the information
pub front_text : (dest src : Entry) (repeaters : List Entry) (kind : KindValue) (poll : Bool) → AreEntries (dest ∷ src ∷ repeaters) → length repeaters ≤ 8
    → FitsKind kind
    → FrameText (frame_of dest src repeaters kind poll)
    ((address_field (dest ∷ src ∷ repeaters) ++ control_octet kind.control poll ∷ kind.pid) ++ (frame_of dest src repeaters kind poll).kind.information)
unfolding frame_of
front_text dest src repeaters kind poll h most fits =
    subst (FrameText (frame_of dest src repeaters kind poll))
    (sym (append_assoc (address_field (dest ∷ src ∷ repeaters)) (control_octet kind.control poll ∷ kind.pid) kind.information))
    (text_of dest src repeaters kind poll h most fits)

pub same_frame : (a b : FrameValue) → a.dest ≡ b.dest → a.src ≡ b.src → a.via ≡ b.via → a.kind ≡ b.kind → a.poll ≡ b.poll → a.command ≡ b.command → a ≡ b
same_frame a b hd hs hv hk hp hc =
    let made : CallSign → CallSign → ℕ → KindValue → Bool → Bool → FrameValue =
    λ dest src via kind poll command. record { dest = dest; src = src; via = via; kind = kind; poll = poll; command = command } in
    ap (λ (x : CallSign). made x a.src a.via a.kind a.poll a.command) hd
    ∙ ap (λ (x : CallSign). made b.dest x a.via a.kind a.poll a.command) hs
    ∙ ap (λ (x : ℕ). made b.dest b.src x a.kind a.poll a.command) hv
    ∙ ap (λ (x : KindValue). made b.dest b.src b.via x a.poll a.command) hk
    ∙ ap (λ (x : Bool). made b.dest b.src b.via b.kind x a.command) hp
    ∙ ap (λ (x : Bool). made b.dest b.src b.via b.kind b.poll x) hc

-- the entries of equal lists
head_entry : (d e : Entry) (ds es : List Entry) → d ∷ ds ≡ e ∷ es → (d ≡ e) × (ds ≡ es)
head_entry d e ds es h = (cc, cc)

pub one_frame : IsOneFrame
one_frame one other octets h k =
    let a = parts one octets h in
    let b = parts other octets k in
    let cut = field_one a.dest (a.src ∷ a.repeaters) b.dest (b.src ∷ b.repeaters) (kind_octets one.kind one.poll) (kind_octets other.kind other.poll) a.entries b.entries (sym a.text ∙ b.text) in
    let first = head_entry a.dest b.dest (a.src ∷ a.repeaters) (b.src ∷ b.repeaters) cut.0 in
    let second = head_entry a.src b.src a.repeaters b.repeaters first.1 in
    let kind = kind_one one.kind other.kind one.poll other.poll a.fits b.fits cut.1 in
    same_frame one other
    (a.is_dest ∙ ap (λ (e : Entry). e.call) first.0 ∙ sym b.is_dest)
    (a.is_src ∙ ap (λ (e : Entry). e.call) second.0 ∙ sym b.is_src)
    (a.is_via ∙ ap (λ (es : List Entry). length es) second.1 ∙ sym b.is_via)
    kind.0 kind.1
    (a.is_command ∙ ap (λ (e : Entry). e.c_or_h_bit) first.0 ∙ sym b.is_command)

pub canonical_text : IsCanonical
canonical_text frame h via =
    record {
      fits = h;
      free = record { dest_reserved = 3; src_reserved = 3; src_c_bit = not frame.command; repeaters = [] };
      fits_free = record { dest_reserved = omega arith; src_reserved = omega arith; repeaters = tt; via = sym via };
      text = refl;
    }

-- a frame's octets begin a frame, and so does each front of them
pub begins_front : (front rest : List ℕ) → BeginsFrame (front ++ rest) → BeginsFrame front
begins_front front rest h = (h.0, rest ++ h.1, subst (FrameText h.0) (append_assoc front rest h.1) h.2)

pub begins_whole : (frame : FrameValue) (octets : List ℕ) → FrameText frame octets → BeginsFrame octets
begins_whole frame octets h = (frame, [], subst (FrameText frame) (sym (append-nil octets)) h)

pub begins_take : (frame : FrameValue) (octets : List ℕ) (n : ℕ) → FrameText frame octets → BeginsFrame (take n octets)
begins_take frame octets n h = (frame, drop n octets, subst (FrameText frame) (sym (take-append-drop n octets)) h)

-- no frame has octets that have a fault
pub no_frame : IsNoFrame
no_frame (Short at) octets frame h k = h.2 frame k
no_frame (BadAddress at) octets frame h k = h.0.ends (begins_take frame octets (at + 1) k)
no_frame TooManyAddresses octets frame h k = h.1 (begins_take frame octets 70 k)
no_frame (BadControl octet) octets frame h k = h.1.ends (begins_take frame octets (h.0 + 1) k)
no_frame (LongInfo len) octets frame h k = h.6 (begins_whole frame octets k)

-- a kind that any frame may have
abbrev sabm : KindValue
sabm = bare_value control.Sabm

-- an entry in two parts, between octets
regroup : (u chars front rest z : List ℕ) (o : ℕ) → chars ≡ front ++ rest → u ++ ((chars ++ o ∷ []) ++ z) ≡ (u ++ front) ++ (rest ++ o ∷ z)
regroup u chars front rest z o h = rw h (grind (arith, common_steps))

-- entries and the front of the characters of one more can be completed
pub begun_entries : (es : List Entry) (e : Entry) (front rest : List ℕ) → AreEntries es → IsEntry e → length es ≤ 9
    → character_octets e.call ≡ front ++ rest → BeginsFrame (unended es ++ front)
begun_entries [] e front rest h he l t =
    let tail : List ℕ = kind_octets sabm false in
    let whole : address_field (e ∷ e ∷ []) ++ tail ≡ front ++ (rest ++ ssid_octet false e ∷ ((entry_octets true e ++ []) ++ tail)) =
    append_assoc (entry_octets false e) (entry_octets true e ++ []) tail
    ∙ regroup [] (character_octets e.call) front rest ((entry_octets true e ++ []) ++ tail) (ssid_octet false e) t in (
      frame_of e e [] sabm false,
      rest ++ ssid_octet false e ∷ ((entry_octets true e ++ []) ++ tail),
      subst (FrameText (frame_of e e [] sabm false)) whole (text_of e e [] sabm false (he, (he, tt)) (omega arith) sabm_fits),
    )
begun_entries (d ∷ []) e front rest h he l t =
    let tail : List ℕ = kind_octets sabm false in
    let whole : address_field (d ∷ e ∷ []) ++ tail ≡ (unended (d ∷ []) ++ front) ++ (rest ++ ssid_octet true e ∷ tail) =
    ap (λ (x : List ℕ). x ++ tail) (field_last (d ∷ []) e)
    ∙ append_assoc (unended (d ∷ [])) (entry_octets true e) tail
    ∙ regroup (unended (d ∷ [])) (character_octets e.call) front rest tail (ssid_octet true e) t in (
      frame_of d e [] sabm false,
      rest ++ ssid_octet true e ∷ tail,
      subst (FrameText (frame_of d e [] sabm false)) whole (text_of d e [] sabm false (h.0, (he, tt)) (omega arith) sabm_fits),
    )
begun_entries (d ∷ c ∷ es) e front rest h he l t =
    let tail : List ℕ = kind_octets sabm false in
    let whole : address_field (d ∷ c ∷ (es ++ e ∷ [])) ++ tail ≡ (unended (d ∷ c ∷ es) ++ front) ++ (rest ++ ssid_octet true e ∷ tail) =
    ap (λ (x : List ℕ). x ++ tail) (field_last (d ∷ c ∷ es) e)
    ∙ append_assoc (unended (d ∷ c ∷ es)) (entry_octets true e) tail
    ∙ regroup (unended (d ∷ c ∷ es)) (character_octets e.call) front rest tail (ssid_octet true e) t in
    let len = length-append es (e ∷ []) in (
      frame_of d c (es ++ e ∷ []) sabm false,
      rest ++ ssid_octet true e ∷ tail,
      subst (FrameText (frame_of d c (es ++ e ∷ []) sabm false)) whole
          (text_of d c (es ++ e ∷ []) sabm false (h.0, (h.1.0, AreEntries_more es e h.1.1 he)) (omega arith) sabm_fits),
    )
