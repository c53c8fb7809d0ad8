-- Between the events of a server all that is due was queued, as far as there was room.
use Rattle.std.proofs.Common.{◌≡◌, ℕ, zero, suc, ◌-◌, List, [], ◌∷◌, ◌++◌, length, set, drop, map, Bool, true, false, Option, None, Some, refl, ap, subst, take-append-drop, arith}
use Rattle.std.specs.Prelude.{if◌then◌else◌}
use Rattle.ftl0_server.proofs.step_laws.Names.{common_steps, option_map, drop-append-le, none-some, same_Some, Farewell, IsEnd, LinkEnd, Reply, free_octets, held, most_held, Sending, after_new, last_sending, later_sending, most_information, next_piece, next_sending, sending_after, sends_again, sends_new, sends_reply, Window, after_new-HasPiece, concat-append_one, after_all, Store, Failure, State, due_at, Connected, ticking, with_end, IsQueued, QueuedLaw, Progress, queued, SlotFits, SlotsFit, PlacesSend, Slot, SlotSends, all_freed, connected, first_of, free, leaving, left_by, places_next, slot_next, slot_sends, slot_ticking, AreQueued, SlotIsQueued}

-- ---- the state says whether anything is due

due-none : (store now : Store) (state : State) (failures others : List Failure) (part other : ℕ) → due_at store state failures part ≡ None
    → due_at now state others other ≡ None
due-none store now state failures others part other none = grind (arith, common_steps)

-- ---- sending frees no octets

freed-none : (end other : LinkEnd) → held other ≡ held end → free_octets other ≡ free_octets end
freed-none end other same = ap (λ (octets : List ℕ). most_held - length octets) same

-- a piece that is sent is held still
piece-held : (w : Window) (end : LinkEnd) → IsEnd w end → held (after_new end) ≡ held end
piece-held w end fits =
    let piece = after_new-HasPiece end in
    let out : drop end.acked (end.sent ++ next_piece end ∷ []) ≡ drop end.acked end.sent ++ next_piece end ∷ [] =
    drop-append-le end.acked end.sent (next_piece end ∷ []) fits.acked in
    let joined = concat-append_one (drop end.acked end.sent) (next_piece end) in
    let back = take-append-drop most_information end.queued in grind (arith, common_steps)

module _ (w : Window) (end : LinkEnd) (fits : IsEnd w end) where
  -- what is sent leaves the end with as many free octets
  abbrev LeavesFree : Option Sending → Type 0
  LeavesFree o = (sending : Sending) → o ≡ Some sending → free_octets sending.after ≡ free_octets end

  leaves : (one : Sending) → free_octets one.after ≡ free_octets end → LeavesFree (Some one)
  leaves one same sending is = subst (λ (s : Sending). free_octets s.after ≡ free_octets end) (same_Some one sending is) same

  last-leaves : (farewell : Option Farewell) → LeavesFree (last_sending end farewell)
  last-leaves None sending is = absurd (none-some sending is)
  last-leaves (Some farewell) sending is = leaves _ refl sending is

  later-leaves : (again new : Bool) (farewell : Option Farewell)
      → LeavesFree (if again then Some (sends_again w end) else if new then Some (sends_new w end) else last_sending end farewell)
  later-leaves true new farewell sending is = leaves (sends_again w end) refl sending is
  later-leaves false true farewell sending is = leaves (sends_new w end) (freed-none end (after_new end) (piece-held w end fits)) sending is
  later-leaves false false farewell sending is = last-leaves farewell sending is

  after-leaves : (reply : Option Reply) → LeavesFree (later_sending w end) → LeavesFree (sending_after w end reply)
  after-leaves None later sending is = later sending is
  after-leaves (Some reply) later sending is = leaves (sends_reply w end reply) refl sending is

  pub sending-leaves : LeavesFree (next_sending w end)
  sending-leaves = after-leaves end.reply (later-leaves _ _ end.farewell)

-- ---- a tick frees no octets

ticking-queued : (store : Store) (c : Connected) → IsQueued store c.state c.end → (ticking c).over ≡ false
    → IsQueued store (ticking c).after.state (ticking c).after.end
ticking-queued store c queued_there stays = grind (arith, common_steps)

-- ---- places

-- what is left of a connection whose session goes on
pub left-queued : (store : Store) (over : Bool) (c : Connected) → (over ≡ false → IsQueued store c.state c.end) → SlotIsQueued store (left_by over c)
left-queued store over c is = grind (arith, common_steps)

slot-stays : (store now : Store) (slot : Slot) → SlotIsQueued store slot → SlotIsQueued now slot
slot-stays store now slot is = grind (arith, common_steps)

-- over whatever store
pub all-stay : (store now : Store) (slots : List Slot) → AreQueued store slots → AreQueued now slots
all-stay store now [] all = tt
all-stay store now (slot ∷ slots) all = (slot-stays store now slot all.0, all-stay store now slots all.1)

module _ (store : Store) where
  pub queued-set : (slots : List Slot) (place : ℕ) (slot : Slot) → AreQueued store slots → SlotIsQueued store slot → AreQueued store (set slots place slot)
  queued-set [] place slot all one = tt
  queued-set (s ∷ slots) zero slot all one = (one, all.1)
  queued-set (s ∷ slots) (suc place) slot all one = (all.0, queued-set slots place slot all.1 one)

  -- a tick came at each
  pub ticked-queued : (slots : List Slot) → AreQueued store slots → AreQueued store (map slot_ticking slots)
  ticked-queued [] all = tt
  ticked-queued (free ∷ slots) all = (tt, ticked-queued slots all.1)
  ticked-queued (connected c ∷ slots) all =
      (left-queued store (ticking c).over (ticking c).after (ticking-queued store c all.0), ticked-queued slots all.1)
  ticked-queued (leaving c ∷ slots) all = (tt, ticked-queued slots all.1)

  -- those whose sessions are over are free
  pub freed-queued : (slots : List Slot) → AreQueued store slots → AreQueued store (all_freed slots)
  freed-queued [] all = tt
  freed-queued (free ∷ slots) all = (tt, freed-queued slots all.1)
  freed-queued (connected c ∷ slots) all = (all.0, freed-queued slots all.1)
  freed-queued (leaving c ∷ slots) all = (tt, freed-queued slots all.1)

  -- ---- frames are sent

  connected-sends : (w : Window) (c : Connected) (o : Option Sending) → next_sending w c.end ≡ o → IsEnd w c.end → IsQueued store c.state c.end
      → (x : SlotSends) → option_map (slot_sends (λ end. connected (with_end c end))) o ≡ Some x → SlotIsQueued store x.after
  connected-sends w c o is fits there x sends = grind (arith, common_steps, none-some, sending-leaves, same_Some)

  leaving-sends : (c : Connected) (o : Option Sending) (x : SlotSends) → option_map (slot_sends (λ end. leaving (with_end c end))) o ≡ Some x
      → SlotIsQueued store x.after
  leaving-sends c o x sends = grind (arith, common_steps)

  slot-sent : (w : Window) (slot : Slot) → SlotFits w slot → SlotIsQueued store slot → (x : SlotSends) → slot_next w slot ≡ Some x → SlotIsQueued store x.after
  slot-sent w free fits is x sends = absurd (none-some x sends)
  slot-sent w (connected c) fits is x sends = connected-sends w c (next_sending w c.end) refl fits is x sends
  slot-sent w (leaving c) fits is x sends = leaving-sends c (next_sending w c.end) x sends

  first-sent : (slot : Slot) (slots : List Slot) (o : Option SlotSends) (later : Option PlacesSend)
      → ((x : SlotSends) → o ≡ Some x → SlotIsQueued store x.after) → ((y : PlacesSend) → later ≡ Some y → AreQueued store y.after)
      → AreQueued store (slot ∷ slots) → (z : PlacesSend) → first_of slot slots o later ≡ Some z → AreQueued store z.after
  first-sent slot slots o later first others all z sends = grind (arith, common_steps)

  pub places-sent : (w : Window) (slots : List Slot) → SlotsFit w slots → AreQueued store slots → (z : PlacesSend) → places_next w slots ≡ Some z
      → AreQueued store z.after
  places-sent w [] fits all z sends = absurd (none-some z sends)
  places-sent w (slot ∷ slots) fits all z sends =
      first-sent slot slots (slot_next w slot) (places_next w slots) (slot-sent w slot fits.0 all.0) (places-sent w slots fits.1 all.1) all z sends

-- ---- a frame is heard

pub heard-queued : QueuedLaw → (store : Store) (failures : List Failure) (progress : Progress) → (queued store failures progress).over ≡ false
    → IsQueued (after_all store (queued store failures progress).done) (queued store failures progress).state (queued store failures progress).end
heard-queued law store failures progress stays = grind (arith, common_steps)
