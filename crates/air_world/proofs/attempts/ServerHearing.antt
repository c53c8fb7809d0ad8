-- What a frame makes of a server's connection that is up: its caller stays, and if the session goes on its link is up.
use Rattle.std.proofs.Common.{◌≡◌, ℕ, List, [], Bool, true, false, refl, sym, ap, subst, ◌∙◌}
use Rattle.std.specs.Prelude.{if◌then◌else◌}
use Rattle.ax25_link.specs.LinkStep as step
use Rattle.ax25_link.specs.Rows.{called_again}
use Rattle.file_store.specs.Command.{after_all}
use Rattle.ftl0_server.specs.Connection.Hearing.{with_end}
use Rattle.ftl0_server.specs.Connection.Taking.{Progress, after_due, goes_on, queued, queuing, resting}
use Rattle.air_world.proofs.attempts.Names.{cond_both, Control, I, Rr, Rnr, Rej, Sabm, Disc, Dm, Ua, Frmr, Ui, FrameValue, LinkState, Up, Reopened, LinkEnd, answering_end, free_octets, Outcome, after_frame, heard_of, is_call, outcome, passed_over, row, row_of_state, up_row, Drains, Stations, IsWindow, Window, stations_law, filling-keeps, filling-none, Store, CallerList, has_left, command, due_at, Connected, beginning, caller_of, greeted, Happened, hearing, parts_as, parts_of_frame, progressed, rest_as, HearingLaw, Slot, connected, left_by, SlotDrains, taken-told, up-behind}

-- ---- a SABM

call-is : (control : Control) → is_call control ≡ true → control ≡ Sabm
call-is Sabm is = refl
call-is (I ns nr) is = absurd cc
call-is (Rr nr) is = absurd cc
call-is (Rnr nr) is = absurd cc
call-is (Rej nr) is = absurd cc
call-is Disc is = absurd cc
call-is Dm is = absurd cc
call-is Ua is = absurd cc
call-is Frmr is = absurd cc
call-is Ui is = absurd cc

call-row : (w : Window) (end : LinkEnd) (frame : FrameValue) → end.state ≡ Up → is_call frame.kind.control ≡ true
    → row w end frame ≡ called_again end frame
call-row w end frame up calls =
    ap (λ (state : LinkState). row_of_state state w end frame) up
    ∙ ap (up_row w end frame) (call-is frame.kind.control calls)

module _ (moment : ℕ) (store : Store) (lists : List CallerList) (c : Connected) (frame : FrameValue) where
  -- what is made of it, by what the link does
  abbrev made_by : Outcome → Happened
  made_by o =
      progressed (rest_as o.heard c frame.kind.information)
      (queued store [] (parts_as o.heard moment store lists c o.after frame.kind.information []))

  -- an end that answered begins again, and LOGIN_RESP is queued
  abbrev pub reopened : Happened
  reopened =
      record {
        after = beginning (answering_end c.end.me c.end.peer frame.poll) moment (has_left lists (caller_of c));
        lists = lists;
        over = false;
        missed = 0;
        done = [];
        cut = [];
        halt = goes_on;
      }

  pub hears-call : (w : Window) → c.end.state ≡ Up → c.end.called ≡ false → is_call frame.kind.control ≡ true
      → hearing w moment store lists c frame [] ≡ reopened
  hears-call w up answers calls =
      let begun : Progress =
      resting (greeted (answering_end c.end.me c.end.peer frame.poll) moment (has_left lists (caller_of c))) command
      lists 0 in
      ap made_by (call-row w c.end frame up calls ∙ ap
      (λ (b : Bool). if b then passed_over c.end else outcome (answering_end c.end.me c.end.peer frame.poll) Reopened)
      answers)
      ∙ ap (progressed []) (filling-none (λ at. at.end) (λ (at : Progress). due_at store at.state [] at.part) after_due
      (free_octets begun.end) begun refl)

-- a SABM brings no command, and leaves the lists
abbrev pub DoesNothing : List CallerList → Happened → Type 0
DoesNothing lists happened = (happened.done ≡ []) × (happened.lists ≡ lists)

module _ (moment : ℕ) (store : Store) (lists : List CallerList) (c : Connected) (frame : FrameValue) where
  queuing-nothing : (left : List ℕ) (progress : Progress) → progress.done ≡ [] → progress.lists ≡ lists
      → DoesNothing lists (progressed left
      (queuing (free_octets progress.end) (after_all store progress.done) [] progress))
  queuing-nothing left progress done same =
      filling-keeps (λ at. at.end) (λ (at : Progress). due_at (after_all store progress.done) at.state [] at.part)
      after_due
      (λ (at : Progress). (at.done ≡ []) × (at.lists ≡ lists)) (λ at packet is here. here) (free_octets progress.end)
      progress (done, same)

  pub call-nothing : (w : Window) → c.end.state ≡ Up → is_call frame.kind.control ≡ true
      → DoesNothing lists (hearing w moment store lists c frame [])
  call-nothing w up calls =
      subst (λ (o : Outcome). DoesNothing lists (made_by moment store lists c frame o))
      (sym (call-row w c.end frame up calls))
      (cond_both c.end.called (passed_over c.end) _
      (λ (o : Outcome). DoesNothing lists (made_by moment store lists c frame o))
      (λ b. queuing-nothing c.rest (resting c.end c.state lists 0) refl refl)
      (λ b. queuing-nothing [] (resting
      (greeted (answering_end c.end.me c.end.peer frame.poll) moment (has_left lists (caller_of c))) command lists 0)
      refl refl))

-- ---- any frame

-- if it isn't over, what is due leaves the link up
queued-up : (store : Store) (progress : Progress) → (progress.over ≡ false → progress.end.state ≡ Up) → (over : Bool)
    → progress.over ≡ over
    → (if over then progress else queuing (free_octets progress.end) (after_all store progress.done) [] progress).over
    ≡ false
    → (if over then progress else queuing (free_octets progress.end) (after_all store progress.done) []
    progress).end.state
    ≡ Up
queued-up store progress up true is goes = absurd cc
queued-up store progress up false is goes =
    filling-keeps (λ at. at.end) (λ (at : Progress). due_at (after_all store progress.done) at.state [] at.part)
    after_due
    (λ (at : Progress). at.end.state ≡ Up) (λ at packet is here. here) (free_octets progress.end) progress (up is)

heard-up : (w : Window) (moment : ℕ) (store : Store) (lists : List CallerList) (c : Connected) (frame : FrameValue)
    → c.end.state ≡ Up → is_call frame.kind.control ≡ false → (hearing w moment store lists c frame []).over ≡ false
    → (hearing w moment store lists c frame []).after.end.state ≡ Up
heard-up w moment store lists c frame up other =
    let progress : Progress = parts_of_frame w moment store lists c frame [] in
    let taken =
    taken-told moment store lists c (after_frame w c.end frame) frame.kind.information (heard_of w c.end frame)
    (up-behind w c.end frame up other) in
    queued-up store progress taken.up progress.over refl

-- What a frame leaves of a connection.
pub record StaysUp (c : Connected) (happened : Happened) : Type 0 where
  pub up : happened.over ≡ false → happened.after.end.state ≡ Up
  pub peer : happened.after.end.peer ≡ c.end.peer

module _ (moment : ℕ) (store : Store) (lists : List CallerList) (c : Connected) (frame : FrameValue) where
  -- what is due leaves the state and the peer
  queuing-stays : (left : List ℕ) (progress : Progress) → progress.end.state ≡ Up → progress.end.peer ≡ c.end.peer
      → StaysUp c (progressed left (queuing (free_octets progress.end) (after_all store progress.done) [] progress))
  queuing-stays left progress up peer =
      let on =
      filling-keeps (λ at. at.end) (λ (at : Progress). due_at (after_all store progress.done) at.state [] at.part)
      after_due
      (λ (at : Progress). (at.end.state ≡ Up) × (at.end.peer ≡ c.end.peer)) (λ at packet is here. here)
      (free_octets progress.end) progress (up, peer) in
      record { up = λ over. on.0; peer = on.1 }

  call-stays : (w : Window) → c.end.state ≡ Up → is_call frame.kind.control ≡ true
      → StaysUp c (hearing w moment store lists c frame [])
  call-stays w up calls =
      subst (λ (o : Outcome). StaysUp c (made_by moment store lists c frame o)) (sym (call-row w c.end frame up calls))
      (cond_both c.end.called (passed_over c.end) _ (λ (o : Outcome). StaysUp c (made_by moment store lists c frame o))
      (λ b. queuing-stays c.rest (resting c.end c.state lists 0) up refl)
      (λ b. queuing-stays [] (resting
      (greeted (answering_end c.end.me c.end.peer frame.poll) moment (has_left lists (caller_of c))) command lists 0)
      refl refl))

  other-stays : HearingLaw → (w : Window) → c.end.state ≡ Up → is_call frame.kind.control ≡ false
      → StaysUp c (hearing w moment store lists c frame [])
  other-stays hears w up other =
      let heard = (hears w moment store lists c frame up other).0 in
      record {
        up = heard-up w moment store lists c frame up other;
        peer =
            ap (λ (s : Stations). s.peer)
            (stations_law.does (after_frame w c.end frame) (hearing w moment store lists c frame []).after.end
            heard.doings heard.does
            ∙ stations_law.coming w c.end (step.frame frame));
      }

  pub frame-stays : HearingLaw → (w : Window) → c.end.state ≡ Up → StaysUp c (hearing w moment store lists c frame [])
  frame-stays hears w up = by (is_call frame.kind.control) refl
    where
      by : (b : Bool) → is_call frame.kind.control ≡ b → StaysUp c (hearing w moment store lists c frame [])
      by true is = call-stays w up is
      by false is = other-stays hears w up is

-- ---- what is sent then

-- The place of a connection sends all, and has this end of its link then.
pub record SlotEnds (w : Window) (over : Bool) (c : Connected) (frames : List FrameValue) (now : Slot) : Type 0 where
  pub last : LinkEnd
  pub drains : Drains w c.end frames last
  pub now_is : now ≡ left_by over (with_end c last)

pub slot-ends : (w : Window) (over : Bool) (c : Connected) (frames : List FrameValue) (now : Slot)
    → SlotDrains w (left_by over c) frames now
    → SlotEnds w over c frames now
slot-ends w true c frames now drains = record { last = drains.0; drains = drains.1; now_is = drains.2 }
slot-ends w false c frames now drains = record { last = drains.0; drains = drains.1; now_is = drains.2 }

-- it has a connection if the session isn't over
pub left-connected : (over : Bool) (c now : Connected) → left_by over c ≡ connected now → (over ≡ false) × (c ≡ now)
left-connected true c now is = absurd cc
left-connected false c now is = (refl, cc)

-- the peer stays while frames are sent
pub drains-peer : (w : Window) (end last : LinkEnd) (frames : List FrameValue) → IsWindow w → Drains w end frames last
    → last.peer ≡ end.peer
drains-peer w end last frames window drains =
    ap (λ (s : Stations). s.peer) (stations_law.drains w end last frames window drains).stations
