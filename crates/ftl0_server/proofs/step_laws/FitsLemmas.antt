-- Each event of a server has one step: a server has nothing left to send after one list of frames, and the ends of its
-- links stay such as frames and ticks bring about.
use Rattle.std.proofs.Common.{◌≡◌, ℕ, zero, suc, List, [], ◌∷◌, set, map, Bool, Option, None, Some, rules, refl, sym, ◌∙◌, ap, subst, arith}
use Rattle.ftl0_server.proofs.step_laws.Names.{common_steps, slice_get, option_map, none-some, same_Some, CallSign, FrameValue, after_push, IsEnd, LinkEnd, Sending, next_sending, Window, Heard, after_frame-IsEnd, after_push-IsEnd, after_tick-IsEnd, answering_end-IsEnd, Item, packet_text, CallerList, after_all, Store, NodeEvent, Failure, texts, Row, State, row_at, session_over, Connected, parts_as, ticking, with_end, QueuedLaw, Progress, queued, queuing, taking, SlotFits, SlotsFit, IsSilent, Refused, Server, ServerHappened, ServerSends, hearing_at, hearing_by, hearing_stranger, sends_by, settled, Empties, happening, stepped, Slot, all_freed, connected, free, leaving, left_by, places_next, slot_next, slot_sends, slot_ticking, by_stray, emptied, empties-silent, first_none, queuing-holds, server_left, silent-settled, AreQueued, OneStepLaw, SomeStepLaw}
use Rattle.ftl0_server.proofs.step_laws.QueuedLemmas.{all-stay, freed-queued, heard-queued, left-queued, places-sent, queued-set, ticked-queued}

-- ---- one list of frames

one_way : (server : Server) (frames others : List FrameValue) (last another : Server) → Empties server frames last
    → Empties server others another → (frames ≡ others) × (last ≡ another)
one_way server [] [] last another h g = (refl, h.1 ∙ sym g.1)
one_way server [] (f ∷ others) last another h g = absurd (let a = h.0 in let b = g.1 in let x : ⊥ = cc in x)
one_way server (f ∷ frames) [] last another h g = absurd (let a = h.1 in let b = g.0 in let x : ⊥ = cc in x)
one_way server (f ∷ frames) (e ∷ others) last another h g =
    let same : g.0 ≡ h.0 = same_Some g.0 h.0 (sym g.1 ∙ h.1) in
    let first : f ≡ e = h.2 ∙ ap (λ (s : ServerSends). s.frame) (sym same) ∙ sym g.2 in
    let rest = one_way h.0.after frames others last another h.3 (subst (λ (s : ServerSends). Empties s.after others another) same g.3) in
    ((let both : f ∷ frames ≡ e ∷ others = ap (λ (x : FrameValue). x ∷ frames) first ∙ ap (λ (l : List FrameValue). e ∷ l) rest.0 in both), rest.1)

pub one_step : OneStepLaw
one_step old event failures one other step that = grind (arith, common_steps, one_way)

-- ---- ends

module _ (w : Window) where
  -- after packets
  taking-fits : (caller : CallSign) (moment : ℕ) (store : Store) (lists : List CallerList) (state : State) (end : LinkEnd) (items : List Item)
      (failures : List Failure) (part : ℕ) → IsEnd w end → IsEnd w (taking caller moment (session_over store lists state) end items failures part).end
  taking-fits caller moment store lists state end [] failures part is = is
  taking-fits caller moment store lists state end (item ∷ items) failures part is =
      let row : Row = row_at caller moment store lists state item failures part in
      let pushed = after_push-IsEnd w end (texts row.replies) is in
      let later = taking-fits caller moment (after_all store row.commands) row.lists row.state (after_push end (texts row.replies)) items failures (suc part) pushed in
      grind (arith, common_steps)

  -- after what is due was queued
  queuing-fits : (store : Store) (failures : List Failure) (count : ℕ) (progress : Progress) → IsEnd w progress.end
      → IsEnd w (queuing count store failures progress).end
  queuing-fits store failures =
      queuing-holds store failures (λ (now : Progress). IsEnd w now.end) (λ now due is fit. after_push-IsEnd w now.end (packet_text due.packet) fit)

  queued-fits : (store : Store) (failures : List Failure) (progress : Progress) → IsEnd w progress.end → IsEnd w (queued store failures progress).end
  queued-fits store failures progress is = grind (arith, common_steps, queuing-fits)

  -- after a frame
  heard-fits : (heard : Heard) (moment : ℕ) (store : Store) (lists : List CallerList) (c : Connected) (end : LinkEnd) (octets : List ℕ)
      (failures : List Failure) → IsEnd w end → IsEnd w (parts_as heard moment store lists c end octets failures).end
  heard-fits heard moment store lists c end octets failures is =
      grind (arith, common_steps, after_push-IsEnd, taking-fits)

  -- ---- places

  left-fits : (over : Bool) (c : Connected) → IsEnd w c.end → SlotFits w (left_by over c)
  left-fits over c is = grind (arith, common_steps)

  ticked-fits : (slots : List Slot) → SlotsFit w slots → SlotsFit w (map slot_ticking slots)
  ticked-fits [] all = tt
  ticked-fits (free ∷ slots) all = (tt, ticked-fits slots all.1)
  ticked-fits (connected c ∷ slots) all = (left-fits (ticking c).over (ticking c).after (after_tick-IsEnd w c.end all.0), ticked-fits slots all.1)
  ticked-fits (leaving c ∷ slots) all = (all.0, ticked-fits slots all.1)

  freed-fits : (slots : List Slot) → SlotsFit w slots → SlotsFit w (all_freed slots)
  freed-fits [] all = tt
  freed-fits (free ∷ slots) all = (tt, freed-fits slots all.1)
  freed-fits (connected c ∷ slots) all = (all.0, freed-fits slots all.1)
  freed-fits (leaving c ∷ slots) all = (tt, freed-fits slots all.1)

  fits-at : (slots : List Slot) (place : ℕ) (slot : Slot) → SlotsFit w slots → slice_get slots place ≡ Some slot → SlotFits w slot
  fits-at [] place slot all at = absurd (none-some slot at)
  fits-at (s ∷ slots) zero slot all at = subst (λ (x : Slot). SlotFits w x) (same_Some s slot at) all.0
  fits-at (s ∷ slots) (suc place) slot all at = fits-at slots place slot all.1 at

  fits-set : (slots : List Slot) (place : ℕ) (slot : Slot) → SlotsFit w slots → SlotFits w slot → SlotsFit w (set slots place slot)
  fits-set [] place slot all one = tt
  fits-set (s ∷ slots) zero slot all one = (one, all.1)
  fits-set (s ∷ slots) (suc place) slot all one = (all.0, fits-set slots place slot all.1 one)

  -- nothing is to be sent at any place
  quiet-at : (slots : List Slot) (place : ℕ) (slot : Slot) → places_next w slots ≡ None → slice_get slots place ≡ Some slot → slot_next w slot ≡ None
  quiet-at [] place slot quiet at = absurd (none-some slot at)
  quiet-at (s ∷ slots) zero slot quiet at = grind (arith, common_steps)
  quiet-at (s ∷ slots) (suc place) slot quiet at = quiet-at slots place slot (first_none s slots (slot_next w s) (places_next w slots) quiet).1 at

  quiet-sending : (c : Connected) (o : Option Sending) → option_map (slot_sends (λ end. connected (with_end c end))) o ≡ None → o ≡ None
  quiet-sending c o quiet = grind (arith, common_steps)

-- ---- an event

abbrev IsFit : Server → Type 0
IsFit server = SlotsFit server.window server.slots

stranger-fits : (server : Server) (frame : FrameValue) (moment : ℕ) → IsFit server → IsFit (hearing_stranger server frame moment)
stranger-fits server frame moment all = grind (arith, common_steps, after_push-IsEnd, answering_end-IsEnd, fits-set)

at-fits : (server : Server) (frame : FrameValue) (moment : ℕ) (failures : List Failure) (place : ℕ) (slot : Option Slot) → slice_get server.slots place ≡ slot
    → places_next server.window server.slots ≡ None → IsFit server → IsFit (hearing_at server frame moment failures place slot).after
at-fits server frame moment failures place (Some (connected c)) at quiet all =
    let w = server.window in
    let fit = fits-at w server.slots place (connected c) all at in
    let still = quiet-sending w c (next_sending w c.end) (quiet-at w server.slots place (connected c) quiet at) in
    let after = after_frame-IsEnd w c.end frame fit still in search (rules, arith, queued-fits, heard-fits, fits-set, left-fits)
at-fits server frame moment failures place slot at quiet all = all

by-fits : (server : Server) (frame : FrameValue) (moment : ℕ) (failures : List Failure) (place : Option ℕ) → places_next server.window server.slots ≡ None
    → IsFit server → IsFit (hearing_by server frame moment failures place).after
by-fits server frame moment failures None quiet all = stranger-fits server frame moment all
by-fits server frame moment failures (Some place) quiet all = at-fits server frame moment failures place (slice_get server.slots place) refl quiet all

happening-fits : (server : Server) (event : NodeEvent) (failures : List Failure) → IsSilent server → IsFit server → IsFit (happening server event failures).after
happening-fits server event failures silent all = grind (arith, common_steps, by-fits, ticked-fits)

-- ---- frames

empties-fits : (server : Server) (frames : List FrameValue) (last : Server) → Empties server frames last → IsFit server → IsFit last
empties-fits server [] last h all = subst (λ (s : Server). IsFit s) (sym h.1) all
empties-fits server (frame ∷ frames) last h all =
    empties-fits h.0.after frames last h.3 (by_stray server server.stray refl all h.0 h.1).0

-- ---- what is due was queued

abbrev IsAllQueued : Server → Type 0
IsAllQueued server = AreQueued server.store server.slots

stranger-queued : (server : Server) (frame : FrameValue) (moment : ℕ) → IsAllQueued server → IsAllQueued (hearing_stranger server frame moment)
stranger-queued server frame moment all = grind (arith, common_steps, queued-set)

at-queued : QueuedLaw → (server : Server) (frame : FrameValue) (moment : ℕ) (failures : List Failure) (place : ℕ) (slot : Option Slot) → IsAllQueued server
    → IsAllQueued (hearing_at server frame moment failures place slot).after
at-queued law server frame moment failures place (Some (connected c)) all =
    search (rules, arith, queued-set, all-stay, left-queued, heard-queued)
at-queued law server frame moment failures place slot all = all

by-queued : QueuedLaw → (server : Server) (frame : FrameValue) (moment : ℕ) (failures : List Failure) (place : Option ℕ) → IsAllQueued server
    → IsAllQueued (hearing_by server frame moment failures place).after
by-queued law server frame moment failures None all = stranger-queued server frame moment all
by-queued law server frame moment failures (Some place) all = at-queued law server frame moment failures place (slice_get server.slots place) all

happening-queued : QueuedLaw → (server : Server) (event : NodeEvent) (failures : List Failure) → IsAllQueued server
    → IsAllQueued (happening server event failures).after
happening-queued law server event failures all = grind (arith, common_steps, by-queued, ticked-queued)

sent-queued : (server : Server) (o : Option Refused) → IsFit server → IsAllQueued server → (sends : ServerSends) → sends_by server o ≡ Some sends
    → IsAllQueued sends.after
sent-queued server o fit all sends gives = grind (arith, common_steps, none-some, places-sent, same_Some)

empties-queued : (server : Server) (frames : List FrameValue) (last : Server) → Empties server frames last → IsFit server → IsAllQueued server
    → IsAllQueued last
empties-queued server [] last h fit all = subst (λ (s : Server). IsAllQueued s) (sym h.1) all
empties-queued server (frame ∷ frames) last h fit all =
    empties-queued h.0.after frames last h.3 (by_stray server server.stray refl fit h.0 h.1).0 (sent-queued server server.stray fit all h.0 h.1)

pub some_step : QueuedLaw → SomeStepLaw
some_step law old event failures may =
    let happened : ServerHappened = happening old event failures in
    let fit : IsFit happened.after = happening-fits old event failures may.silent may.fits in
    let due : IsAllQueued happened.after = happening-queued law old event failures may.queued in
    let all = emptied (server_left happened.after) happened.after fit (omega arith) in
    record {
      gives = stepped happened.done happened.cut happened.missed happened.halt all.0 (settled all.1);
      step =
          record {
            silent = may.silent;
            done_is = refl;
            cut_is = refl;
            missed_is = refl;
            halt_is = refl;
            last = all.1;
            sent = all.2;
            new_is = refl;
          };
      may_step =
          record {
            silent = silent-settled all.1 (empties-silent happened.after all.0 all.1 all.2);
            fits = freed-fits all.1.window all.1.slots (empties-fits happened.after all.0 all.1 all.2 fit);
            queued = freed-queued all.1.store all.1.slots (empties-queued happened.after all.0 all.1 all.2 fit due);
          };
    }
