-- The first fault of octets, part by part: the address entries, the control octet, and what follows it.
use Rattle.std.proofs.Common.{◌≡◌, ℕ, suc, ◌+◌, ◌*◌, ◌≤◌, ◌<◌, Bool, true, false, List, [], ◌∷◌, ◌++◌, length, take, drop, min, slice_index, refl, sym, ap, ◌∙◌, subst, arith, append_assoc, append-nil, length-append, length-drop, length-take-le, take-append-drop}
use Rattle.ax25_frames.specs.declared.control.Control.TheVariants as control
use Rattle.ax25_frames.proofs.Names.{common_steps, take_all, take_at, All-take, CallSign, IsCall, Control, FrameFault, Short, BadAddress, TooManyAddresses, BadControl, LongInfo, IsOctets, KindValue, control_octet, fields_of, FitsControl, IsNoControl, FitsKind, kind_octets, bare_value, Entry, AreEntries, character_octets, ssid_octet, entry_octets, is_none, address_field, unended, BeginsUnended, FrameValue, FrameText, BeginsFrame, FailsAt, FaultAt, IsRestFault, characters_begun, EntryAt}
use Rattle.ax25_frames.proofs.CharacterLemmas.{begun_is}
use Rattle.ax25_frames.proofs.EntryLemmas.{cut, entry_cut, field_one, IsPeeled, peel, length_characters, length_entry, length_field, length_unended, unended_more, AreEntries_more}
use Rattle.ax25_frames.proofs.FrameLemmas.{parts, frame_of, text_of, front_text, begun_entries}
use Rattle.ax25_frames.proofs.KindLemmas.{control_one, sized, completed, least_within, sabm_fits}

-- the front of two lists, and what is left
take_past : (a b : List ℕ) (n g : ℕ) → n ≡ length a → take (n + g) (a ++ b) ≡ a ++ take g b
take_past [] b n g h =
    let e : n + g ≡ g = omega arith in
    ap (λ (k : ℕ). take k b) e
take_past (x ∷ a) b n g h =
    let e : n + g ≡ suc (length a + g) = omega arith in
    ap (λ (k : ℕ). take k (x ∷ a ++ b)) e ∙ ap (λ (y : List ℕ). x ∷ y) (take_past a b (length a) g refl)

pub drop_past : (a b : List ℕ) (n : ℕ) → n ≡ length a → drop n (a ++ b) ≡ b
drop_past a b n h = grind (arith, common_steps)

-- entries without the end bit, and what is left of a frame after them
unended_left : (es : List Entry) (x : List ℕ) (frame : FrameValue) (rest : List ℕ) → AreEntries es → FrameText frame ((unended es ++ x) ++ rest)
    → (all : ℕ) × (y : List ℕ) × (2 ≤ all) × (all ≤ 10) × IsPeeled (length es) (x ++ rest) y all
unended_left es x frame rest h t =
    let p = parts frame ((unended es ++ x) ++ rest) t in
    let most = p.most in (
      1 + length (p.src ∷ p.repeaters),
      kind_octets frame.kind frame.poll,
      omega arith,
      omega arith,
      peel es p.dest (p.src ∷ p.repeaters) (x ++ rest) (kind_octets frame.kind frame.poll) h p.entries (sym (append_assoc (unended es) x rest) ∙ p.text),
    )

-- the characters at the front of what is left
record HasLead (x : List ℕ) : Type 0 where
  call : CallSign
  is_call : IsCall call
  later : List ℕ
  text : character_octets call ++ later ≡ x

lead_of : (chars fields x y : List ℕ) (o : ℕ) → x ≡ ((chars ++ o ∷ []) ++ fields) ++ y → chars ++ (o ∷ (fields ++ y)) ≡ x
lead_of chars fields x y o e = grind (arith, common_steps) ∙ sym e

lead : (count : ℕ) (x y : List ℕ) (all : ℕ) → IsPeeled count x y all → HasLead x
lead count x y all h =
    record {
      call = h.next.call;
      is_call = h.entries.0.call;
      later = ssid_octet (is_none h.later) h.next ∷ (address_field h.later ++ y);
      text = lead_of (character_octets h.next.call) (address_field h.later) x y (ssid_octet (is_none h.later) h.next) h.text;
    }

-- an entry fails by a character
bad_character : (es : List Entry) (x : List ℕ) → AreEntries es → length es < 10 → characters_begun x < 6 → characters_begun x < length x
    → FailsAt (unended es ++ x) (7 * length es + characters_begun x)
bad_character es x h n six l =
    let b = begun_is x in
    let len = length_unended es h in
    let all = length-append (unended es) x in
    let front : take (7 * length es + characters_begun x) (unended es ++ x) ≡ unended es ++ take (characters_begun x) x =
    take_past (unended es) x (7 * length es) (characters_begun x) (sym len) in
    let assoc : 7 * length es + characters_begun x + 1 ≡ 7 * length es + suc (characters_begun x) = omega arith in
    let more : take (7 * length es + characters_begun x + 1) (unended es ++ x) ≡ unended es ++ take (suc (characters_begun x)) x =
    ap (λ (n : ℕ). take n (unended es ++ x)) assoc ∙ take_past (unended es) x (7 * length es) (suc (characters_begun x)) (sym len) in
    record {
      inside = omega arith;
      begins =
          subst BeginsFrame (sym front)
          (begun_entries es (record { call = b.call; reserved = 0; c_or_h_bit = false }) (take (characters_begun x) x) b.rest h (record { call = b.is_call; reserved = omega arith }) (omega arith) b.text);
      ends = λ begins.
          let t : FrameText begins.0 ((unended es ++ take (suc (characters_begun x)) x) ++ begins.1) =
          subst (λ (o : List ℕ). FrameText begins.0 (o ++ begins.1)) more begins.2 in
          let left = unended_left es (take (suc (characters_begun x)) x) begins.0 begins.1 h t in
          let entry = lead (length es) (take (suc (characters_begun x)) x ++ begins.1) left.1 left.0 left.4 in
          b.ends six l entry.call entry.later begins.1 entry.is_call entry.text;
    }

-- what is left after entries without the end bit
unended_rest : (octets : List ℕ) (n : ℕ) (h : BeginsUnended octets n) → drop (7 * n) octets ≡ h.1
unended_rest octets n h =
    let len = length_unended h.0 h.2 in
    let size = h.3 in
    ap (λ (o : List ℕ). drop (7 * n) o) h.4 ∙ drop_past (unended h.0) h.1 (7 * n) (omega arith)

-- the entry that begins with these octets fails by the octet after so many
pub bad_entry : (octets x : List ℕ) (n begun : ℕ) → x ≡ drop (7 * n) octets → begun ≡ characters_begun x → BeginsUnended octets n → n < 10
    → begun < min 6 (length x) → FaultAt (BadAddress (7 * n + begun)) octets
bad_entry octets x n begun is b h few l =
    let size = h.3 in
    let left : x ≡ h.1 = is ∙ unended_rest octets n h in
    let same : characters_begun x ≡ characters_begun h.1 = ap characters_begun left in
    let long : length x ≡ length h.1 = ap length left in
    let fails = bad_character h.0 h.1 h.2 (omega arith) (omega arith) (omega arith) in
    let place : 7 * length h.0 + characters_begun h.1 ≡ 7 * n + begun = omega arith in (
      subst (λ (o : List ℕ). FailsAt o (7 * n + begun)) (sym h.4) (subst (FailsAt (unended h.0 ++ h.1)) place fails),
      (n, h, few, omega arith, omega arith),
      omega arith,
    )

-- an entry that ends too early
pub short_entry : (octets x : List ℕ) (n begun : ℕ) → x ≡ drop (7 * n) octets → begun ≡ characters_begun x → BeginsUnended octets n → n < 10
    → min 6 (length x) ≤ begun → length x < 7 → FaultAt (Short (length octets)) octets
short_entry octets x n begun is b h few l short =
    let len = length_unended h.0 h.2 in
    let size = h.3 in
    let left : x ≡ h.1 = is ∙ unended_rest octets n h in
    let there = begun_is x in
    let within = there.within in
    let inside = there.inside in
    let front : take (characters_begun x) x ≡ h.1 = take_all _ x (omega arith) ∙ left in
    let long : length x ≡ length h.1 = ap length left in (
      refl,
      subst BeginsFrame (sym h.4)
          (begun_entries h.0 (record { call = there.call; reserved = 0; c_or_h_bit = false }) h.1 there.rest h.2 (record { call = there.is_call; reserved = omega arith }) (omega arith)
          (there.text ∙ ap (λ (front : List ℕ). front ++ there.rest) front)),
      λ frame t.
          let whole : FrameText frame ((unended h.0 ++ h.1) ++ []) = subst (FrameText frame) (h.4 ∙ sym (append-nil (unended h.0 ++ h.1))) t in
          let p = unended_left h.0 h.1 frame [] h.2 whole in
          let next = p.4 in
          let field = length_field (next.next ∷ next.later) next.entries in
          let text : length (h.1 ++ []) ≡ length (address_field (next.next ∷ next.later) ++ p.1) = ap length next.text in
          let one = length-append h.1 [] in
          let two = length-append (address_field (next.next ∷ next.later)) p.1 in
          omega arith,
    )

-- the end bit in the destination
pub ended_destination : (octets : List ℕ) (call : CallSign) (c_or_h_bit : Bool) → EntryAt octets 0 call c_or_h_bit true → FaultAt (BadAddress 6) octets
ended_destination octets call c_or_h_bit h =
    let e = h.0 in
    let len = length_characters e.call h.2.call in
    let size = length_entry true e h.2 in
    let all = length-append (entry_octets true e) h.1 in
    let whole : octets ≡ entry_octets true e ++ h.1 = h.5 in
    let long : length octets ≡ length (entry_octets true e ++ h.1) = ap length whole in
    let seven : take 7 octets ≡ entry_octets true e = ap (λ (o : List ℕ). take 7 o) whole ∙ take_at (entry_octets true e) h.1 7 size in
    let six : take 6 octets ≡ character_octets e.call =
    ap (λ (o : List ℕ). take 6 o) (whole ∙ append_assoc (character_octets e.call) (ssid_octet true e ∷ []) h.1)
    ∙ take_at (character_octets e.call) (ssid_octet true e ∷ h.1) 6 len in (
      record {
        inside = omega arith;
        begins = subst BeginsFrame (sym six) (begun_entries [] e (character_octets e.call) [] tt h.2 (omega arith) (sym (append-nil (character_octets e.call))));
        ends = λ begins.
            let t : FrameText begins.0 (entry_octets true e ++ begins.1) = subst (λ (o : List ℕ). FrameText begins.0 (o ++ begins.1)) seven begins.2 in
            let p = parts begins.0 (entry_octets true e ++ begins.1) t in
            let one = entry_cut true false e p.dest [] (address_field (p.src ∷ p.repeaters)) begins.1 (kind_octets begins.0.kind begins.0.poll) h.2 p.entries.0
            (ap (λ (o : List ℕ). o ++ begins.1) (append-nil (entry_octets true e)) ∙ p.text) in
            cc (one.0);
      },
      (0, ([], octets, tt, refl, refl), omega arith, omega arith, omega arith),
      omega arith,
    )

-- ten entries without the end bit
pub too_many : (octets : List ℕ) → BeginsUnended octets 10 → FaultAt TooManyAddresses octets
too_many octets h = (
  h,
  λ begins.
      let size = h.3 in
      let len = length_unended h.0 h.2 in
      let front : take 70 octets ≡ unended h.0 = ap (λ (o : List ℕ). take 70 o) h.4 ∙ take_at (unended h.0) h.1 70 (omega arith) in
      let t : FrameText begins.0 ((unended h.0 ++ []) ++ begins.1) =
      subst (λ (o : List ℕ). FrameText begins.0 (o ++ begins.1)) (front ∙ sym (append-nil (unended h.0))) begins.2 in
      let p = unended_left h.0 [] begins.0 begins.1 h.2 t in
      let count = p.4.size in
      let most = p.3 in
      omega arith,
)

-- one more entry without the end bit
pub more_unended : (octets : List ℕ) (n : ℕ) (call : CallSign) (c_or_h_bit : Bool) → BeginsUnended octets n → EntryAt octets n call c_or_h_bit false → BeginsUnended octets (n + 1)
more_unended octets n call c_or_h_bit h e =
    let size = h.3 in
    let rest : h.1 ≡ entry_octets false e.0 ++ e.1 = sym (unended_rest octets n h) ∙ e.5 in
    let count = length-append h.0 (e.0 ∷ []) in (
      h.0 ++ e.0 ∷ [],
      e.1,
      AreEntries_more h.0 e.0 h.2 e.2,
      omega arith,
      h.4
          ∙ ap (λ (x : List ℕ). unended h.0 ++ x) rest
          ∙ sym (append_assoc (unended h.0) (entry_octets false e.0) e.1)
          ∙ ap (λ (x : List ℕ). x ++ e.1) (sym (unended_more h.0 e.0)),
    )

-- octets that are a whole address field can be completed
whole_begins : (dest src : Entry) (repeaters : List Entry) → AreEntries (dest ∷ src ∷ repeaters) → length repeaters ≤ 8 → BeginsFrame (address_field (dest ∷ src ∷ repeaters))
whole_begins dest src repeaters h most = (
  frame_of dest src repeaters (bare_value control.Sabm) false,
  kind_octets (bare_value control.Sabm) false,
  text_of dest src repeaters (bare_value control.Sabm) false h most sabm_fits,
)

-- what follows the address field of a frame
after_addresses : (dest src : Entry) (repeaters : List Entry) (x : List ℕ) (frame : FrameValue) (rest : List ℕ) → AreEntries (dest ∷ src ∷ repeaters)
    → FrameText frame ((address_field (dest ∷ src ∷ repeaters) ++ x) ++ rest) → FitsKind frame.kind × (x ++ rest ≡ kind_octets frame.kind frame.poll)
after_addresses dest src repeaters x frame rest h t =
    let p = parts frame ((address_field (dest ∷ src ∷ repeaters) ++ x) ++ rest) t in
    let cut = field_one dest (src ∷ repeaters) p.dest (p.src ∷ p.repeaters) (x ++ rest) (kind_octets frame.kind frame.poll) h p.entries
    (sym (append_assoc (address_field (dest ∷ src ∷ repeaters)) x rest) ∙ p.text) in
    (p.fits, cut.1)

octet_at : (front rest : List ℕ) (octet : ℕ) → slice_index (front ++ octet ∷ rest) (length front) ≡ octet
octet_at [] rest octet = refl
octet_at (x ∷ front) rest octet = octet_at front rest octet

-- what follows the control octet of a frame
after_control : (c : Control) (p : Bool) (kind : KindValue) (q : Bool) (x : List ℕ) → FitsControl c → FitsKind kind → control_octet c p ∷ x ≡ kind_octets kind q
    → ((fields_of c).pids + (fields_of c).least ≤ length x) × (length x ≤ (fields_of c).pids + (fields_of c).most)
after_control c p kind q x h fits e =
    let octet : control_octet c p ≡ control_octet kind.control q = cc in
    let rest : x ≡ kind.pid ++ kind.information = cc in
    let one = control_one c kind.control p q h fits.control octet in
    let size = sized kind fits in
    let P : Control → Type 0 = λ d. ((fields_of d).pids + (fields_of d).least ≤ length x) × (length x ≤ (fields_of d).pids + (fields_of d).most) in
    subst P (sym one.0) (rw rest (size.least, size.most))

module _ (dest src : Entry) (repeaters : List Entry) (h : AreEntries (dest ∷ src ∷ repeaters)) (most : length repeaters ≤ 8) where
  abbrev pub field : List ℕ
  field = address_field (dest ∷ src ∷ repeaters)

  -- no control octet
  pub short_control : FaultAt (Short (length field)) field
  short_control = (
    refl,
    whole_begins dest src repeaters h most,
    λ frame t.
        let a = after_addresses dest src repeaters [] frame [] h (subst (FrameText frame) (sym (append-nil (field ++ []) ∙ append-nil field)) t) in
        cc (a.1),
  )

  -- a control octet of no kind
  pub bad_control : (octet : ℕ) (rest : List ℕ) → IsNoControl octet
      → FaultAt (BadControl octet) (field ++ octet ∷ rest)
  bad_control octet rest none =
      let len = length-append field (octet ∷ rest) in
      let front : take (length field) (field ++ octet ∷ rest) ≡ field = take_at field (octet ∷ rest) (length field) refl in
      let more : take (length field + 1) (field ++ octet ∷ rest) ≡ field ++ octet ∷ [] = take_past field (octet ∷ rest) (length field) 1 refl in (
        length field,
        record {
          inside = omega arith;
          begins = subst BeginsFrame (sym front) (whole_begins dest src repeaters h most);
          ends = λ begins.
              let t : FrameText begins.0 ((field ++ octet ∷ []) ++ begins.1) = subst (λ (o : List ℕ). FrameText begins.0 (o ++ begins.1)) more begins.2 in
              let a = after_addresses dest src repeaters (octet ∷ []) begins.0 begins.1 h t in
              let is : octet ≡ control_octet begins.0.kind.control begins.0.poll = cc (a.1) in
              none begins.0.kind.control begins.0.poll a.0.control is;
        },
        (dest ∷ src ∷ repeaters, h, omega arith, omega arith, front),
        octet_at field rest octet,
      )

  -- what follows the control octet ends too early
  short_rest : (c : Control) (p : Bool) (rest : List ℕ) → FitsControl c → IsOctets rest → length rest < (fields_of c).pids + (fields_of c).least
      → FaultAt (Short (length (field ++ control_octet c p ∷ rest))) (field ++ control_octet c p ∷ rest)
  short_rest c p rest fits octets short =
      let within = least_within c in
      let done = completed c rest fits octets (omega arith) in
      let kind : KindValue = record { control = c; pid = done.pid; information = done.information } in
      let whole : field ++ kind_octets kind p ≡ (field ++ control_octet c p ∷ rest) ++ done.more =
      ap (λ (x : List ℕ). field ++ control_octet c p ∷ x) done.text ∙ sym (append_assoc field (control_octet c p ∷ rest) done.more) in (
        refl,
        (
          frame_of dest src repeaters kind p,
          done.more,
          subst (FrameText (frame_of dest src repeaters kind p)) whole (text_of dest src repeaters kind p h most done.fits),
        ),
        λ frame t.
            let all : FrameText frame ((field ++ control_octet c p ∷ rest) ++ []) = subst (FrameText frame) (sym (append-nil (field ++ control_octet c p ∷ rest))) t in
            let a = after_addresses dest src repeaters (control_octet c p ∷ rest) frame [] h all in
            let size = after_control c p frame.kind frame.poll (rest ++ []) fits a.0 a.1 in
            let len = length-append rest [] in
            let enough = size.0 in
            omega arith,
      )

  -- the information is too long
  long_rest : (c : Control) (p : Bool) (rest : List ℕ) (len : ℕ) → FitsControl c → IsOctets rest → (fields_of c).pids + (fields_of c).most < length rest
      → len + (fields_of c).pids ≡ length rest → FaultAt (LongInfo len) (field ++ control_octet c p ∷ rest)
  long_rest c p rest len fits octets long size =
      let pid : List ℕ = take (fields_of c).pids rest in
      let info : List ℕ = drop (fields_of c).pids rest in
      let taken = length-take-le (fields_of c).pids rest (omega arith) in
      let done = completed c pid fits (All-take (λ (octet : ℕ). octet < 256) (fields_of c).pids rest octets) (omega arith) in
      let same = cut done.pid pid done.information done.more (done.fits.count ∙ sym taken) done.text in
      let left = length-drop (fields_of c).pids rest in
      let kind : KindValue = record { control = c; pid = done.pid; information = done.information } in
      let front : List ℕ = field ++ control_octet c p ∷ done.pid in
      let whole : field ++ control_octet c p ∷ rest ≡ front ++ info =
      ap (λ (x : List ℕ). field ++ control_octet c p ∷ x) (sym (take-append-drop (fields_of c).pids rest) ∙ ap (λ (x : List ℕ). x ++ info) (sym same.0))
      ∙ sym (append_assoc field (control_octet c p ∷ done.pid) info) in (
        frame_of dest src repeaters kind p,
        front,
        info,
        front_text dest src repeaters kind p h most done.fits,
        whole,
        omega arith,
        λ begins.
            let a = after_addresses dest src repeaters (control_octet c p ∷ rest) begins.0 begins.1 h begins.2 in
            let sized_rest = after_control c p begins.0.kind begins.0.poll (rest ++ begins.1) fits a.0 a.1 in
            let all = length-append rest begins.1 in
            let few = sized_rest.1 in
            omega arith,
      )

  pub rest_fault : (c : Control) (p : Bool) (rest : List ℕ) (fault : FrameFault) → FitsControl c → IsOctets rest
      → IsRestFault (fields_of c) rest (length (field ++ control_octet c p ∷ rest)) fault
      → FaultAt fault (field ++ control_octet c p ∷ rest)
  rest_fault c p rest (Short at) fits octets f =
      subst (λ (n : ℕ). FaultAt (Short n) (field ++ control_octet c p ∷ rest)) (sym f.0) (short_rest c p rest fits octets f.1)
  rest_fault c p rest (BadAddress at) fits octets f = absurd f
  rest_fault c p rest TooManyAddresses fits octets f = absurd f
  rest_fault c p rest (BadControl octet) fits octets f = absurd f
  rest_fault c p rest (LongInfo len) fits octets f = long_rest c p rest len fits octets f.0 f.1
