-- What the layer above a link's end sees of it: what was pushed, what came, and the state.
use Rattle.std.proofs.Common.{◌≡◌, ℕ, ◌==◌, List, [], ◌∷◌, ◌++◌, Bool, true, false, Option, None, Some, refl, sym, ap}
use Rattle.std.proofs.Common.{subst, ◌∙◌}
use Rattle.std.specs.Prelude.{if◌then◌else◌, ◌&&◌}
use Rattle.ax25_link.specs.declared.state.Why.TheVariants as why
use Rattle.air_world.proofs.attempts.Names.{nat_lt, ⊤, cond_both, same_Some, Control, I, Rr, Rnr, Rej, Sabm, Disc, Dm, Ua, Frmr, Ui, FrameValue, Meaning, applying, bad, good, is_bad, is_good, meaning_of, stale, with_timer_anew, Doing, DoesAll, abandon, after_doing, hang_up, push, Heard, Nothing, Opened, Reopened, Bytes, Closed, LinkState, Up, Why, Farewell, LinkEnd, Reply, outstanding, ready, receive_number, Outcome, accepting, information_row, is_call, numbered_row, out_of_sequence, outcome, passed_over, refusing, replying, row, row_of_state, sending_again, supervisory_row, up_row, with_busy, Drains, IsQuiet, Sending, has_new, last_sending, later_sending, next_sending, sending_after, sends_again, sends_farewell, sends_new, sends_reply, with_piece, Window, acknowledging-keeps}

-- what was pushed and what came stay, and so does the state
pub record KeepsStreams (old new : LinkEnd) : Type 0 where
  pub pushed : new.pushed ≡ old.pushed
  pub taken : new.taken ≡ old.taken
  pub state : new.state ≡ old.state

pub keeps-same : (end : LinkEnd) → KeepsStreams end end
keeps-same end = record { pushed = refl; taken = refl; state = refl }

pub keeps-then : (one two three : LinkEnd) → KeepsStreams one two → KeepsStreams two three → KeepsStreams one three
keeps-then one two three first second =
    record {
      pushed = second.pushed ∙ first.pushed;
      taken = second.taken ∙ first.taken;
      state = second.state
          ∙ first.state;
    }

-- ---- what is sent

module _ (w : Window) (end : LinkEnd) where
  new-keeps : KeepsStreams end (sends_new w end).after
  new-keeps =
      cond_both (outstanding end == 0) (with_timer_anew (with_piece end)) (with_piece end) (KeepsStreams end)
      (λ b. record { pushed = refl; taken = refl; state = refl })
      (λ b. record { pushed = refl; taken = refl; state = refl })

  module _ (sending : Sending) where
    last-keeps : (found : Option Farewell) → last_sending end found ≡ Some sending → KeepsStreams end sending.after
    last-keeps None is = absurd cc
    last-keeps (Some found) is =
        subst (λ (s : Sending). KeepsStreams end s.after) (same_Some (sends_farewell end found) sending is)
        (record { pushed = refl; taken = refl; state = refl })

    later-keeps : later_sending w end ≡ Some sending → KeepsStreams end sending.after
    later-keeps =
        cond_both (nat_lt 0 end.again) _ _ (λ (o : Option Sending). o ≡ Some sending → KeepsStreams end sending.after)
        (λ some is. subst (λ (s : Sending). KeepsStreams end s.after) (same_Some (sends_again w end) sending is)
        (record { pushed = refl; taken = refl; state = refl }))
        (λ none. cond_both (has_new w end) _ _
        (λ (o : Option Sending). o ≡ Some sending → KeepsStreams end sending.after)
        (λ has is. subst (λ (s : Sending). KeepsStreams end s.after) (same_Some (sends_new w end) sending is) new-keeps)
        (λ no is. last-keeps end.farewell is))

    first-keeps : (found : Option Reply) → sending_after w end found ≡ Some sending → KeepsStreams end sending.after
    first-keeps None is = later-keeps is
    first-keeps (Some found) is =
        subst (λ (s : Sending). KeepsStreams end s.after) (same_Some (sends_reply w end found) sending is)
        (record { pushed = refl; taken = refl; state = refl })

  pub sending-keeps : (sending : Sending) → next_sending w end ≡ Some sending → KeepsStreams end sending.after
  sending-keeps sending is = first-keeps sending end.reply is

pub drains-keep : (w : Window) (end last : LinkEnd) (frames : List FrameValue) → Drains w end frames last
    → KeepsStreams end last
drains-keep w end last [] drains = subst (KeepsStreams end) (sym drains.1) (keeps-same end)
drains-keep w end last (frame ∷ frames) drains =
    keeps-then end drains.0.after last (sending-keeps w end drains.0 drains.1)
    (drains-keep w drains.0.after last frames drains.3)

-- then nothing is to be sent
pub drains-quiet : (w : Window) (end last : LinkEnd) (frames : List FrameValue) → Drains w end frames last
    → IsQuiet w last
drains-quiet w end last [] drains = subst (IsQuiet w) (sym drains.1) drains.0
drains-quiet w end last (frame ∷ frames) drains = drains-quiet w drains.0.after last frames drains.3

-- ---- what the layer above does

doing-taken : (end : LinkEnd) (doing : Doing) → (after_doing end doing).taken ≡ end.taken
doing-taken end (push octets) = refl
doing-taken end hang_up = refl
doing-taken end abandon = refl

pub does-taken : (end last : LinkEnd) (doings : List Doing) → DoesAll end doings last → last.taken ≡ end.taken
does-taken end last [] does = ap (λ (e : LinkEnd). e.taken) does
does-taken end last (doing ∷ doings) does = does-taken (after_doing end doing) last doings does.1
    ∙ doing-taken end doing

-- ---- what a frame brings

-- the pieces that came, once a frame with this information did, by what the link reports
abbrev pub taken_as : Heard → List (List ℕ) → List ℕ → List (List ℕ)
taken_as Nothing taken information = taken
taken_as Opened taken information = taken
taken_as Reopened taken information = taken
taken_as Bytes taken information = taken ++ information ∷ []
taken_as (Closed why) taken information = taken

-- no further SABM is reported
abbrev pub IsNoReopening : Heard → Type 0
IsNoReopening Nothing = ⊤
IsNoReopening Opened = ⊤
IsNoReopening Reopened = ⊥
IsNoReopening Bytes = ⊤
IsNoReopening (Closed why) = ⊤

-- What a frame brings: nothing is pushed, and the piece that is reported comes.
pub record Brings (frame : FrameValue) (end : LinkEnd) (o : Outcome) : Type 0 where
  pub pushed : o.after.pushed ≡ end.pushed
  pub taken : o.after.taken ≡ taken_as o.heard end.taken frame.kind.information
  pub goes_on : IsNoReopening o.heard

module _ (frame : FrameValue) where
  abbrev RowBrings : LinkEnd → Outcome → Type 0
  RowBrings end o = Brings frame end o

  brings-nothing : (end after : LinkEnd) → after.pushed ≡ end.pushed → after.taken ≡ end.taken
      → RowBrings end (passed_over after)
  brings-nothing end after pushed taken = record { pushed = pushed; taken = taken; goes_on = tt }

  brings-closed : (end after : LinkEnd) (why : Why) → after.pushed ≡ end.pushed → after.taken ≡ end.taken
      → RowBrings end (outcome after (Closed why))
  brings-closed end after why pushed taken = record { pushed = pushed; taken = taken; goes_on = tt }

  either-brings : (end : LinkEnd) (b : Bool) (some other : Outcome) → RowBrings end some → RowBrings end other
      → RowBrings end (if b then some else other)
  either-brings end true some other first second = first
  either-brings end false some other first second = second

  applying-brings : (end : LinkEnd) (meaning : Meaning)
      → ((applying end meaning).pushed ≡ end.pushed) × ((applying end meaning).taken ≡ end.taken)
  applying-brings end (good x) = let k = acknowledging-keeps end x in (k.pushed, k.taken)
  applying-brings end stale = let k = acknowledging-keeps end end.acked in (k.pushed, k.taken)
  applying-brings end bad = (refl, refl)

  supervisory-brings : (end after : LinkEnd) → after.pushed ≡ end.pushed → after.taken ≡ end.taken
      → RowBrings end (supervisory_row after frame)
  supervisory-brings end after pushed taken =
      cond_both (frame.command && frame.poll) (replying after (ready true)) after
      (λ (e : LinkEnd). RowBrings end (passed_over e))
      (λ b. brings-nothing end (replying after (ready true)) pushed taken) (λ b. brings-nothing end after pushed taken)

  numbered-brings : (w : Window) (end : LinkEnd) (nr : ℕ) (row : LinkEnd → Outcome)
      → ((e : LinkEnd) → RowBrings e (row e)) → RowBrings end (numbered_row w end frame nr row)
  numbered-brings w end nr row each =
      let e : LinkEnd = applying end (meaning_of w end nr) in
      let same = applying-brings end (meaning_of w end nr) in
      let here = each e in
      either-brings end (is_bad (meaning_of w end nr)) (refusing w end frame) (row e)
      (brings-closed end (refusing w end frame).after why.BadNr refl refl)
      (record {
        pushed = here.pushed ∙ same.0;
        taken = here.taken ∙ ap (λ (taken : List (List ℕ)). taken_as (row e).heard taken frame.kind.information) same.1;
        goes_on = here.goes_on;
      })

  up-brings : (w : Window) (end : LinkEnd) (control : Control) → is_call control ≡ false
      → RowBrings end (up_row w end frame control)
  up-brings w end (I ns nr) other =
      numbered-brings w end nr (λ e. information_row w e frame ns)
      (λ e. either-brings e (ns == receive_number w e) (accepting e frame) (out_of_sequence e frame)
      (record { pushed = refl; taken = refl; goes_on = tt })
      (brings-nothing e (out_of_sequence e frame).after refl refl))
  up-brings w end (Rr nr) other =
      numbered-brings w end nr (λ e. supervisory_row (with_busy false e) frame)
      (λ e. supervisory-brings e (with_busy false e) refl refl)
  up-brings w end (Rnr nr) other =
      numbered-brings w end nr (λ e. supervisory_row (with_busy true e) frame)
      (λ e. supervisory-brings e (with_busy true e) refl refl)
  up-brings w end (Rej nr) other =
      let again : Bool = is_good (meaning_of w end nr) in
      numbered-brings w end nr (λ e. supervisory_row (with_busy false (if again then sending_again e else e)) frame)
      (λ e. cond_both again (sending_again e) e
      (λ (x : LinkEnd). RowBrings e (supervisory_row (with_busy false x) frame))
      (λ b. supervisory-brings e (with_busy false (sending_again e)) refl refl)
      (λ b. supervisory-brings e (with_busy false e) refl refl))
  up-brings w end Sabm other = absurd cc
  up-brings w end Disc other = brings-closed end (up_row w end frame Disc).after why.Disc refl refl
  up-brings w end Dm other = brings-closed end (up_row w end frame Dm).after why.Dm refl refl
  up-brings w end Frmr other = brings-closed end (up_row w end frame Frmr).after why.Frmr refl refl
  up-brings w end Ua other = brings-nothing end end refl refl
  up-brings w end Ui other = brings-nothing end end refl refl

  -- a frame that doesn't call, at an end that is up
  pub frame-brings : (w : Window) (end : LinkEnd) → end.state ≡ Up → is_call frame.kind.control ≡ false
      → Brings frame end (row w end frame)
  frame-brings w end up other =
      subst (λ (state : LinkState). RowBrings end (row_of_state state w end frame)) (sym up)
      (up-brings w end frame.kind.control other)
