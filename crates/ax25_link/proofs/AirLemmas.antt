-- The whole numbers of a station's transmissions, when a frame is sent and when one is delivered.
use Rattle.std.proofs.Common.{◌≡◌, ℕ, ◌+◌, ◌%◌, ◌<◌, ◌≤◌, ◌⊎◌, List, [], ◌∷◌, ◌++◌, length, take, Some, false, refl, sym, ◌∙◌, ap, arith, inl, inr}
use Rattle.std.specs.Prelude.{◌==◌, if◌then◌else◌}
use Rattle.ax25_link.proofs.Names.{slice_get, IsTrue, cond-true, cond-false, eq-eqb, ne_eqb, cases_lt, cases_eq, Control, I, FrameValue, Window, is_call, Transmission, fresh, IsAt, control_of, is_information, is_numbered, delivering, send_number, ack_number, IsInformationAt, IsNumberedAt, PiecesFit, ShownFit, IsOpened}
use Rattle.ax25_link.proofs.Places.{at-append, later_count-append, NoneLater-append, was_at, later_count-deliver, NoneLater-deliver, NoneLater-overtaken, delivered_same, unchanged_at}

-- an I frame has an N(R)
pub information_numbered : (control : Control) → IsTrue (is_information control) → IsTrue (is_numbered control)
information_numbered (I ns nr) h = refl
information_numbered control h = absurd (let x : ⊥ = cc in x)

-- the sender has accepted more, and no more than it has replies to send
pub ShownFit-grows : (w : Window) (taken more owed owed_more acked : ℕ) (list : List Transmission) (shown : ℕ → ℕ) → taken ≤ more
    → more + owed ≤ taken + owed_more → ShownFit w taken owed acked list shown → ShownFit w more owed_more acked list shown
ShownFit-grows w taken more owed owed_more acked list shown rises most h =
    record {
      shows = h.shows;
      reached = λ place t here. (let least = h.reached place t here in omega arith);
      recent = λ place t here. (let most_before = h.recent place t here in omega arith);
      earlier = h.earlier;
      acknowledged = h.acknowledged;
    }

-- the I or S frame at a place before a delivery
was_information : (list : List Transmission) (place : ℕ) (t : Transmission) (p : ℕ) (u : Transmission) → IsAt list place t
    → IsInformationAt (delivering list place t) p u → (v : Transmission) × IsInformationAt list p v × (u.frame ≡ v.frame)
was_information list place t p u at (here, kind) =
    let was = was_at list place t p u at here in
    (was.before, (was.at, ap (λ (f : FrameValue). is_information f.kind.control) (sym was.frame) ∙ kind), was.frame)

was_numbered : (list : List Transmission) (place : ℕ) (t : Transmission) (p : ℕ) (u : Transmission) → IsAt list place t
    → IsNumberedAt (delivering list place t) p u → (v : Transmission) × IsNumberedAt list p v × (u.frame ≡ v.frame)
was_numbered list place t p u at (here, kind) =
    let was = was_at list place t p u at here in
    (was.before, (was.at, ap (λ (f : FrameValue). is_numbered f.kind.control) (sym was.frame) ∙ kind), was.frame)

-- The I frame at a place is delivered, and its piece is accepted, or nothing is.
pub PiecesFit-deliver : (w : Window) (pieces : List (List ℕ)) (taken more : ℕ) (list : List Transmission) (piece : ℕ → ℕ) (place : ℕ) (t : Transmission)
    → 1 ≤ w.size → IsAt list place t → (more ≡ taken) ⊎ (IsTrue (is_information (control_of t)) × (more ≤ piece place + 1))
    → PiecesFit w pieces taken list piece → PiecesFit w pieces more (delivering list place t) piece
PiecesFit-deliver w pieces taken more list piece place t some at cause h =
    record {
      shows = λ p u here. (let v = was_information list place t p u at here in
          ap (λ (f : FrameValue). send_number f.kind.control) v.2 ∙ h.shows p v.0 v.1);
      carries = λ p u here. (let v = was_information list place t p u at here in
          h.carries p v.0 v.1 ∙ ap (λ (f : FrameValue). Some f.kind.information) (sym v.2));
      sent = λ p u here. (let v = was_information list place t p u at here in h.sent p v.0 v.1);
      recent = λ p u here. (let v = was_information list place t p u at here in
          let least = h.recent p v.0 v.1 in let same = later_count-deliver list place t p in omega (arith, least, same));
      earlier = λ b p s u before sent here. (let v = was_information list place t p u at here in
          let r = was_information list place t b s at sent in h.earlier b p r.0 v.0 before r.1 v.1);
      accepted = λ p u here none. (let v = was_information list place t p u at here in
          elim cause [
            | inl same ↦ let most = h.accepted p v.0 v.1 (NoneLater-deliver list place t p at none) in omega (arith, same, most)
            | inr c ↦
                elim (cases_lt p place) [
                  | inl before ↦ absurd (NoneLater-overtaken list place t p at (information_numbered (control_of t) c.0) none before)
                  | inr after ↦
                      elim (cases_eq p place) [
                        | inl same ↦ let e : piece p ≡ piece place = ap piece same in omega (arith, c.1, e)
                        | inr other ↦
                            let less : place < p = omega arith in
                            let most = h.earlier place p t v.0 less (at, c.0) v.1 in omega (arith, c.1, most)
                      ]
                ]
          ]);
    }

-- The I or S frame at a place is delivered, and its N(R) is applied, or nothing is.
pub ShownFit-deliver : (w : Window) (taken owed acked more : ℕ) (list : List Transmission) (shown : ℕ → ℕ) (place : ℕ) (t : Transmission)
    → IsAt list place t → (more ≡ acked) ⊎ (IsTrue (is_numbered (control_of t)) × (more ≤ shown place))
    → ShownFit w taken owed acked list shown → ShownFit w taken owed more (delivering list place t) shown
ShownFit-deliver w taken owed acked more list shown place t at cause h =
    record {
      shows = λ p u here. (let v = was_numbered list place t p u at here in
          ap (λ (f : FrameValue). ack_number f.kind.control) v.2 ∙ h.shows p v.0 v.1);
      reached = λ p u here. (let v = was_numbered list place t p u at here in h.reached p v.0 v.1);
      recent = λ p u here. (let v = was_numbered list place t p u at here in
          let least = h.recent p v.0 v.1 in let same = later_count-deliver list place t p in omega (arith, least, same));
      earlier = λ b p s u before sent here. (let v = was_numbered list place t p u at here in
          let r = was_numbered list place t b s at sent in h.earlier b p r.0 v.0 before r.1 v.1);
      acknowledged = λ p u here none. (let v = was_numbered list place t p u at here in
          elim cause [
            | inl same ↦ let most = h.acknowledged p v.0 v.1 (NoneLater-deliver list place t p at none) in omega (arith, same, most)
            | inr c ↦
                elim (cases_lt p place) [
                  | inl before ↦ absurd (NoneLater-overtaken list place t p at c.0 none before)
                  | inr after ↦
                      elim (cases_eq p place) [
                        | inl same ↦ let e : shown p ≡ shown place = ap shown same in omega (arith, c.1, e)
                        | inr other ↦
                            let less : place < p = omega arith in
                            let most = h.earlier place p t v.0 less (at, c.0) v.1 in omega (arith, c.1, most)
                      ]
                ]
          ]);
    }

pub IsOpened-deliver : (list : List Transmission) (place : ℕ) (t : Transmission) → IsAt list place t → IsOpened list → IsOpened (delivering list place t)
IsOpened-deliver list place t at h p u here call =
    elim (cases_eq p place) [
      | inl same ↦ delivered_same list place t p u at same here
      | inr other ↦ h p u (unchanged_at list place t p u other here) call
    ]

-- numbers by places, with another at one place
unfoldable pub updated : (ℕ → ℕ) → ℕ → ℕ → ℕ → ℕ
updated number at n place = if place == at then n else number place

pub updated_here : (number : ℕ → ℕ) (at n place : ℕ) → place ≡ at → updated number at n place ≡ n
unfolding updated
updated_here number at n place e = cond-true (place == at) n (number place) (eq-eqb place at e)

pub updated_before : (number : ℕ → ℕ) (at n place : ℕ) → place < at → updated number at n place ≡ number place
unfolding updated
updated_before number at n place below = cond-false (place == at) n (number place) (ne_eqb place at (λ e. (let x : ⊥ = omega arith in x)))

-- an I frame that is sent: it shows its piece's number, and carries the piece; no more than k pieces were sent or
-- accepted from this one on
pub record NewPiece (w : Window) (pieces : List (List ℕ)) (taken : ℕ) (frame : FrameValue) (n : ℕ) : Type 0 where
  pub shows : send_number frame.kind.control ≡ n % w.modulus
  pub carries : slice_get pieces n ≡ Some frame.kind.information
  pub sent : n < length pieces
  pub recent : length pieces ≤ n + w.size
  pub accepted : taken ≤ n + w.size

-- pieces with at most one more
pub record MorePieces (pieces more : List (List ℕ)) : Type 0 where
  pub keeps : (place : ℕ) (x : List ℕ) → slice_get pieces place ≡ Some x → slice_get more place ≡ Some x
  pub least : length pieces ≤ length more
  pub most : length more ≤ length pieces + 1
  pub front : (n : ℕ) → n ≤ length pieces → take n more ≡ take n pieces

-- A frame is sent.
pub PiecesFit-send : (w : Window) (pieces more : List (List ℕ)) (taken : ℕ) (list : List Transmission) (piece : ℕ → ℕ) (f : FrameValue) (n : ℕ)
    → MorePieces pieces more → (IsTrue (is_information f.kind.control) → NewPiece w more taken f n)
    → PiecesFit w pieces taken list piece → PiecesFit w more taken (list ++ fresh f ∷ []) (updated piece (length list) n)
PiecesFit-send w pieces more taken list piece f n grown made h =
    let number = updated piece (length list) n in
    let frame_kind = λ (u : Transmission) (e : u ≡ fresh f) (kind : IsTrue (is_information (control_of u))).
    ap (λ (x : Transmission). is_information (control_of x)) (sym e) ∙ kind in
    record {
      shows = λ p u here. elim (at-append list f p u here.0) [
        | inl old ↦ h.shows p u (old.1, here.1) ∙ ap (λ x. x % w.modulus) (sym (updated_before piece (length list) n p old.0))
        | inr new ↦
            let made_here = made (frame_kind u new.1 here.1) in
            ap (λ (x : Transmission). send_number (control_of x)) new.1 ∙ made_here.shows ∙ ap (λ x. x % w.modulus) (sym (updated_here piece (length list) n p new.0))
      ];
      carries = λ p u here. elim (at-append list f p u here.0) [
        | inl old ↦ ap (λ x. slice_get more x) (updated_before piece (length list) n p old.0) ∙ grown.keeps (piece p) u.frame.kind.information (h.carries p u (old.1, here.1))
        | inr new ↦
            let made_here = made (frame_kind u new.1 here.1) in
            ap (λ x. slice_get more x) (updated_here piece (length list) n p new.0) ∙ made_here.carries ∙ ap (λ (x : Transmission). Some x.frame.kind.information) (sym new.1)
      ];
      sent = λ p u here. elim (at-append list f p u here.0) [
        | inl old ↦
            let e = updated_before piece (length list) n p old.0 in
            let low = h.sent p u (old.1, here.1) in
            let least = grown.least in omega (arith, e, low)
        | inr new ↦
            let made_here = (made (frame_kind u new.1 here.1)).sent in
            let e = updated_here piece (length list) n p new.0 in omega (arith, e, made_here)
      ];
      recent = λ p u here. elim (at-append list f p u here.0) [
        | inl old ↦
            let e = updated_before piece (length list) n p old.0 in
            let low = h.recent p u (old.1, here.1) in
            let later = later_count-append list f p old.0 in
            let most = grown.most in omega (arith, e, low, later)
        | inr new ↦
            let made_here = (made (frame_kind u new.1 here.1)).recent in
            let e = updated_here piece (length list) n p new.0 in omega (arith, e, made_here)
      ];
      earlier = λ b p s u before sent here. elim (at-append list f p u here.0) [
        | inl old ↦
            elim (at-append list f b s sent.0) [
              | inl first ↦
                  let e = updated_before piece (length list) n p old.0 in
                  let d = updated_before piece (length list) n b first.0 in
                  let low = h.earlier b p s u before (first.1, sent.1) (old.1, here.1) in omega (arith, e, d, low)
              | inr first ↦ absurd (let x : ⊥ = omega (arith, first.0, old.0) in x)
            ]
        | inr new ↦
            elim (at-append list f b s sent.0) [
              | inl first ↦
                  let e = updated_here piece (length list) n p new.0 in
                  let d = updated_before piece (length list) n b first.0 in
                  let low = h.sent b s (first.1, sent.1) in
                  let least = grown.least in
                  let made_here = (made (frame_kind u new.1 here.1)).recent in omega (arith, e, d, low, made_here)
              | inr first ↦ absurd (let x : ⊥ = omega (arith, first.0, new.0) in x)
            ]
      ];
      accepted = λ p u here none. elim (at-append list f p u here.0) [
        | inl old ↦
            let e = updated_before piece (length list) n p old.0 in
            let low = h.accepted p u (old.1, here.1) (NoneLater-append list f p none) in omega (arith, e, low)
        | inr new ↦
            let made_here = (made (frame_kind u new.1 here.1)).accepted in
            let e = updated_here piece (length list) n p new.0 in omega (arith, e, made_here)
      ];
    }

-- The same of the numbers that I and S frames show: the new one shows what its sender has accepted.
pub ShownFit-send : (w : Window) (taken owed less acked : ℕ) (list : List Transmission) (shown : ℕ → ℕ) (f : FrameValue)
    → (IsTrue (is_numbered f.kind.control) → ack_number f.kind.control ≡ taken % w.modulus) → owed ≤ less + 1 → acked ≤ taken
    → ShownFit w taken owed acked list shown → ShownFit w taken less acked (list ++ fresh f ∷ []) (updated shown (length list) taken)
ShownFit-send w taken owed less acked list shown f made few known h =
    let frame_kind = λ (u : Transmission) (e : u ≡ fresh f) (kind : IsTrue (is_numbered (control_of u))).
    ap (λ (x : Transmission). is_numbered (control_of x)) (sym e) ∙ kind in
    record {
      shows = λ p u here. elim (at-append list f p u here.0) [
        | inl old ↦ h.shows p u (old.1, here.1) ∙ ap (λ x. x % w.modulus) (sym (updated_before shown (length list) taken p old.0))
        | inr new ↦
            ap (λ (x : Transmission). ack_number (control_of x)) new.1 ∙ made (frame_kind u new.1 here.1)
            ∙ ap (λ x. x % w.modulus) (sym (updated_here shown (length list) taken p new.0))
      ];
      reached = λ p u here. elim (at-append list f p u here.0) [
        | inl old ↦
            let e = updated_before shown (length list) taken p old.0 in
            let low = h.reached p u (old.1, here.1) in omega (arith, e, low)
        | inr new ↦ let e = updated_here shown (length list) taken p new.0 in omega (arith, e)
      ];
      recent = λ p u here. elim (at-append list f p u here.0) [
        | inl old ↦
            let e = updated_before shown (length list) taken p old.0 in
            let low = h.recent p u (old.1, here.1) in
            let later = later_count-append list f p old.0 in omega (arith, e, low, later)
        | inr new ↦ let e = updated_here shown (length list) taken p new.0 in omega (arith, e)
      ];
      earlier = λ b p s u before sent here. elim (at-append list f p u here.0) [
        | inl old ↦
            elim (at-append list f b s sent.0) [
              | inl first ↦
                  let e = updated_before shown (length list) taken p old.0 in
                  let d = updated_before shown (length list) taken b first.0 in
                  let low = h.earlier b p s u before (first.1, sent.1) (old.1, here.1) in omega (arith, e, d, low)
              | inr first ↦ absurd (let x : ⊥ = omega (arith, first.0, old.0) in x)
            ]
        | inr new ↦
            elim (at-append list f b s sent.0) [
              | inl first ↦
                  let e = updated_here shown (length list) taken p new.0 in
                  let d = updated_before shown (length list) taken b first.0 in
                  let low = h.reached b s (first.1, sent.1) in omega (arith, e, d, low)
              | inr first ↦ absurd (let x : ⊥ = omega (arith, first.0, new.0) in x)
            ]
      ];
      acknowledged = λ p u here none. elim (at-append list f p u here.0) [
        | inl old ↦
            let e = updated_before shown (length list) taken p old.0 in
            let low = h.acknowledged p u (old.1, here.1) (NoneLater-append list f p none) in omega (arith, e, low)
        | inr new ↦ let e = updated_here shown (length list) taken p new.0 in omega (arith, e)
      ];
    }

pub IsOpened-send : (list : List Transmission) (f : FrameValue) → is_call f.kind.control ≡ false → IsOpened list → IsOpened (list ++ fresh f ∷ [])
IsOpened-send list f none h p u here call =
    elim (at-append list f p u here) [
      | inl old ↦ h p u old.1 call
      | inr new ↦
          let e : is_call (control_of u) ≡ is_call f.kind.control = ap (λ (x : Transmission). is_call (control_of x)) new.1 in
          absurd (let x : ⊥ = cc in x)
    ]
