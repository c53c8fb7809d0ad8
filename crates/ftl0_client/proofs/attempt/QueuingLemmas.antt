-- The loop that queues what is due.
use Rattle.std.proofs.Common.{◌≡◌, ⊎_elim, ℕ, ◌<◌, ◌≤◌, refl, ap, sym, ◌∙◌, subst}
use Rattle.ftl0_client.proofs.Names.{None, false, free_octets, Kept, room_of, Window, stations-same, stations-then, enough_free, next_due, Attempted, AttemptState, Becomes, IsAttempt, KeepsFit, KeepsUp, QueuesNext, QueuesPacket, after_due, queuing}
use Rattle.ftl0_client.proofs.attempt.SettlingLemmas.{queuing-few, queuing-next, queuing-none}

-- what is queued of an attempt
abbrev pub Queues : AttemptState → AttemptState → Type 0
Queues old new = Becomes old new (λ w a. queuing (free_octets a.end) a)

-- how many octets are free on the link of an attempt
room-of : (w : Window) (old : AttemptState) (a : Attempted) → IsAttempt w old a → room_of old.link.queue ≡ free_octets a.end
room-of w old a is = ap (λ (k : Kept). room_of k.queue) is.link.kept

-- a packet, and then the others
pub queues-then : (old mid new : AttemptState) → QueuesPacket old mid → KeepsUp old mid → Queues mid new → Queues old new
queues-then old mid new packet kept queues w a is =
    let due : next_due a.job ≡ _ = ap next_due (sym is.job) ∙ packet.is_due in
    let enough : enough_free ≤ free_octets a.end = subst (λ (n : ℕ). enough_free ≤ n) (room-of w old a is) packet.enough in
    subst (λ (made : Attempted). IsAttempt w new made) (queuing-next a packet.due due enough)
    (queues w (after_due packet.due a) (record { link = packet.queued w a.end is.link; rest = kept.keeps.octets ∙ is.rest; job = packet.job; down = kept.keeps.down ∙ is.down }))

-- no packet
pub queues-none : (old new : AttemptState) → QueuesNext old new false → Queues old new
queues-none old new none w a is =
    let at : IsAttempt w new a = subst (λ (s : AttemptState). IsAttempt w s a) (sym none.0) is in
    let free : ℕ = free_octets a.end in
    subst (λ (made : Attempted). IsAttempt w new made)
    (sym
    (⊎_elim (λ (nothing : next_due old.job ≡ None). queuing-none free a (ap next_due (sym is.job) ∙ nothing))
    (λ (few : room_of old.link.queue < enough_free). queuing-few free a (subst (λ (n : ℕ). n < enough_free) (room-of w old a is) few)) none.1)) at

-- ---- what is left as it was

pub keeps-same : (a : AttemptState) → KeepsFit a a
keeps-same a = record { notes_are = λ lists goes. goes; octets = refl; down = refl; stations = stations-same a.link }

pub keeps-then : (a b c : AttemptState) → KeepsFit a b → KeepsFit b c → KeepsFit a c
keeps-then a b c first second = record {
  notes_are = λ lists goes. second.notes_are lists (first.notes_are lists goes);
  octets = second.octets ∙ first.octets;
  down = second.down ∙ first.down;
  stations = stations-then a.link b.link c.link first.stations second.stations;
}
