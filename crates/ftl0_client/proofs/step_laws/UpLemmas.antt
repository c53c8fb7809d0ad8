-- Information is next in the stream only at an end that is up, and stays so.
use Rattle.std.proofs.Common.{◌≡◌, ℕ, ◌==◌, true, false, refl, ◌∙◌}
use Rattle.std.specs.Prelude.{if◌then◌else◌}
use Rattle.ax25_frames.specs.declared.control.Control.{Control}
use Rattle.ax25_frames.specs.declared.control.Control.TheVariants.{I, Rr, Rnr, Rej, Sabm, Ua}
use Rattle.ax25_link.specs.Acknowledging.{Meaning, good, stale, bad, applying, is_bad, is_good, meaning_of}
use Rattle.ax25_link.proofs.Offered.{acknowledging-keeps}
use Rattle.ftl0_client.proofs.step_laws.Names.{cond_both, FrameValue, Bytes, LinkState, Calling, Up, Ending, Down, LinkEnd, receive_number, Outcome, after_frame, calling_row, ending_row, heard_of, information_row, numbered_row, row_of_state, sending_again, supervisory_row, up_row, with_busy, Window}

-- up, if information that is next was reported
abbrev BytesUp : Outcome → Type 0
BytesUp o = o.heard ≡ Bytes → o.after.state ≡ Up

applying-state : (end : LinkEnd) (meaning : Meaning) → (applying end meaning).state ≡ end.state
applying-state end (good x) = (acknowledging-keeps end x).state
applying-state end stale = (acknowledging-keeps end end.acked).state
applying-state end bad = refl

module _ (w : Window) (end : LinkEnd) (frame : FrameValue) where
  numbered-bytes : (nr : ℕ) (next : LinkEnd → Outcome) → BytesUp (next (applying end (meaning_of w end nr))) → BytesUp (numbered_row w end frame nr next)
  numbered-bytes nr next h = cond_both (is_bad (meaning_of w end nr)) _ _ BytesUp (λ b bytes. absurd (cc bytes)) (λ b. h)

  information-bytes : (ns nr : ℕ) → end.state ≡ Up → BytesUp (information_row w (applying end (meaning_of w end nr)) frame ns)
  information-bytes ns nr up =
      cond_both (ns == receive_number w (applying end (meaning_of w end nr))) _ _ BytesUp (λ b bytes. applying-state end (meaning_of w end nr) ∙ up) (λ b bytes. absurd (cc bytes))

  supervisory-bytes : (e : LinkEnd) → BytesUp (supervisory_row e frame)
  supervisory-bytes e bytes = absurd (cc bytes)

  up-bytes : (control : Control) → end.state ≡ Up → BytesUp (up_row w end frame control)
  up-bytes (I ns nr) up = numbered-bytes nr (λ e. information_row w e frame ns) (information-bytes ns nr up)
  up-bytes (Rr nr) up = numbered-bytes nr (λ e. supervisory_row (with_busy false e) frame) (supervisory-bytes (with_busy false (applying end (meaning_of w end nr))))
  up-bytes (Rnr nr) up = numbered-bytes nr (λ e. supervisory_row (with_busy true e) frame) (supervisory-bytes (with_busy true (applying end (meaning_of w end nr))))
  up-bytes (Rej nr) up =
      numbered-bytes nr (λ e. supervisory_row (with_busy false (if is_good (meaning_of w end nr) then sending_again e else e)) frame) (λ bytes. absurd (cc bytes))
  up-bytes Sabm up = cond_both end.called _ _ BytesUp (λ b bytes. absurd (cc bytes)) (λ b bytes. absurd (cc bytes))
  up-bytes control up = λ bytes. absurd (cc bytes)

  calling-bytes : (control : Control) → (calling_row end frame control).heard ≡ Bytes → ⊥
  calling-bytes Ua bytes = cc
  calling-bytes control bytes = cc

  ending-bytes : (control : Control) → (ending_row end frame control).heard ≡ Bytes → ⊥
  ending-bytes Ua bytes = cc
  ending-bytes control bytes = cc

  state-bytes : (state : LinkState) → end.state ≡ state → BytesUp (row_of_state state w end frame)
  state-bytes Calling is = λ bytes. absurd (calling-bytes frame.kind.control bytes)
  state-bytes Up is = up-bytes frame.kind.control is
  state-bytes Ending is = λ bytes. absurd (ending-bytes frame.kind.control bytes)
  state-bytes Down is = λ bytes. absurd (cc bytes)

  pub bytes-up : heard_of w end frame ≡ Bytes → (after_frame w end frame).state ≡ Up
  bytes-up = state-bytes end.state refl
