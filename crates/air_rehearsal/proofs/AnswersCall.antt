-- A SABM that a session answers is answered by UA: it is the first frame that the end of its link sends.
use Rattle.std.proofs.Common.{◌≡◌, ℕ, List, [], ◌∷◌, Bool, true, false, Option, None, Some, refl, sym, ap, subst, ◌∙◌}
use Rattle.std.specs.Prelude.{◌||◌, if◌then◌else◌}
use Rattle.ax25_link.specs.declared.state.Heard.TheVariants.{Reopened}
use Rattle.ax25_link.specs.Rows.{Outcome}
use Rattle.packet_link.proofs.Queuing.{filling-keeps}
use Rattle.file_store.specs.Command.{after_all}
use Rattle.ftl0_session.specs.Lists.Lists.{CallerList, has_left}
use Rattle.ftl0_session.specs.Table.{command, due_at}
use Rattle.ftl0_server.specs.Connection.Taking.{Progress, after_due, queued, queuing, resting}
use Rattle.ftl0_server.specs.Slots.{place_of}
use Rattle.air_rehearsal.proofs.Names.{same_Some, FrameValue, Control, I, Rr, Rnr, Rej, Sabm, Disc, Dm, Ua, Frmr, Ui, LinkState, Up, LinkEnd, accept, answering_end, free_octets, is_call, outcome, passed_over, row, row_of_state, up_row, Drains, Sending, sending_after, sends_reply, Window, hears, Store, Connected, caller_of, greeted, Happened, hearing, parts_as, progressed, rest_as, Server, ServerStep, Stepped, Slot, all_freed, first_empty, left_by, SlotDrains, StepLaw, IsSeatedIn, place-of-is, is_ua}
use Rattle.air_rehearsal.proofs.SentLanes.{has_ua}

-- ---- the end that answers

-- a UA is to be sent first
abbrev pub IsAnswering : Bool → LinkEnd → Type 0
IsAnswering poll end = end.reply ≡ Some (accept poll)

drains-ua : (w : Window) (poll : Bool) (end last : LinkEnd) (frames : List FrameValue) → IsAnswering poll end
    → Drains w end frames last → has_ua frames ≡ true
drains-ua w poll end last [] is drains =
    absurd
    (let some : sending_after w end (Some (accept poll)) ≡ None = ap (sending_after w end) (sym is) ∙ drains.0 in
    cc)
drains-ua w poll end last (frame ∷ frames) is drains =
    let same = same_Some (sends_reply w end (accept poll)) drains.0 (ap (sending_after w end) (sym is) ∙ drains.1) in
    let first : frame ≡ (sends_reply w end (accept poll)).frame =
    drains.2 ∙ ap (λ (s : Sending). s.frame) (sym same) in
    ap (λ (f : FrameValue). is_ua f.kind.control || has_ua frames) first

-- so it is with a place
slot-ua : (w : Window) (poll over : Bool) (c : Connected) (frames : List FrameValue) (now : Slot)
    → IsAnswering poll c.end → SlotDrains w (left_by over c) frames now → has_ua frames ≡ true
slot-ua w poll true c frames now is drains = drains-ua w poll c.end drains.0 frames is drains.1
slot-ua w poll false c frames now is drains = drains-ua w poll c.end drains.0 frames is drains.1

-- ---- an end that answered hears a further SABM

call-is : (control : Control) → is_call control ≡ true → control ≡ Sabm
call-is Sabm is = refl
call-is (I ns nr) is = absurd cc
call-is (Rr nr) is = absurd cc
call-is (Rnr nr) is = absurd cc
call-is (Rej nr) is = absurd cc
call-is Disc is = absurd cc
call-is Dm is = absurd cc
call-is Ua is = absurd cc
call-is Frmr is = absurd cc
call-is Ui is = absurd cc

-- it begins anew
reopens : (w : Window) (end : LinkEnd) (frame : FrameValue) → end.state ≡ Up → end.called ≡ false
    → is_call frame.kind.control ≡ true
    → row w end frame ≡ outcome (answering_end end.me end.peer frame.poll) Reopened
reopens w end frame up answers calls =
    ap (λ (state : LinkState). row_of_state state w end frame) up
    ∙ ap (up_row w end frame) (call-is frame.kind.control calls)
    ∙ ap (λ (b : Bool). if b then passed_over end else outcome (answering_end end.me end.peer frame.poll) Reopened)
    answers

module _ (moment : ℕ) (store : Store) (lists : List CallerList) (c : Connected) (frame : FrameValue) where
  -- what is made of it, by what the link does
  abbrev made_by : Outcome → Happened
  made_by o =
      progressed (rest_as o.heard c frame.kind.information)
      (queued store [] (parts_as o.heard moment store lists c o.after frame.kind.information []))

  -- LOGIN_RESP is queued, and UA is to be sent
  abbrev begun : Progress
  begun =
      resting (greeted (answering_end c.end.me c.end.peer frame.poll) moment (has_left lists (caller_of c))) command
      lists 0

  queued-answers : IsAnswering frame.poll (queuing (free_octets begun.end) (after_all store begun.done) [] begun).end
  queued-answers =
      filling-keeps (λ at. at.end) (λ (at : Progress). due_at (after_all store begun.done) at.state [] at.part)
      after_due (λ (at : Progress). IsAnswering frame.poll at.end) (λ at packet is here. here) (free_octets begun.end)
      begun refl

  hears-answers : (w : Window) → c.end.state ≡ Up → c.end.called ≡ false → is_call frame.kind.control ≡ true
      → IsAnswering frame.poll (hearing w moment store lists c frame []).after.end
  hears-answers w up answers calls =
      subst (λ (o : Outcome). IsAnswering frame.poll (made_by o).after.end)
      (sym (reopens w c.end frame up answers calls))
      queued-answers

-- ---- the server

module _ (steps : StepLaw) (old : Server) (frame : FrameValue) (moment : ℕ) (gives : Stepped)
    (step : ServerStep old (hears frame moment) [] gives) (calls : is_call frame.kind.control ≡ true) where
  -- the connection at this place is of an end that answered, and is up
  pub record IsAnswered (place : ℕ) (c : Connected) : Type 0 where
    pub up : c.end.state ≡ Up
    pub answers : c.end.called ≡ false

  -- A SABM is answered by UA, unless no place is free, which stay as they are.
  pub answers-ua : ((place : ℕ) (c : Connected) → IsSeatedIn old place c → IsAnswered place c)
      → (place_of frame.src old.slots ≡ None → gives.new.slots ≡ all_freed old.slots → ⊥)
      → has_ua gives.frames ≡ true
  answers-ua each taken = by (place_of frame.src old.slots) refl
    where
      free-by : place_of frame.src old.slots ≡ None → (o : Option ℕ) → first_empty old.slots ≡ o
          → has_ua gives.frames ≡ true
      free-by none None first =
          absurd (taken none ((steps.hears old frame moment [] gives step).passed none (λ calls. first)).1)
      free-by none (Some place) first =
          let changes = (steps.hears old frame moment [] gives step).opened place none calls first in
          drains-ua old.window frame.poll _ changes.drains.0 gives.frames refl changes.drains.1

      by : (o : Option ℕ) → place_of frame.src old.slots ≡ o → has_ua gives.frames ≡ true
      by None none = free-by none (first_empty old.slots) refl
      by (Some place) is =
          let seat = place-of-is frame.src old.slots place is in
          let changes = (steps.hears old frame moment [] gives step).heard place seat.0 is seat.1 in
          let it = each place seat.0 seat.1 in
          let happened : Happened = hearing old.window moment old.store old.lists seat.0 frame [] in
          slot-ua old.window frame.poll happened.over happened.after gives.frames changes.now
          (hears-answers moment old.store old.lists seat.0 frame old.window it.up it.answers calls) changes.drains
