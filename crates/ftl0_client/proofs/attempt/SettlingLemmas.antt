-- How what is due is queued at the end of an event, one packet after another.
use Rattle.std.proofs.Common.{◌≡◌, inl, inr, ℕ, ◌<◌, ◌≤◌, Bool, true, false, ◌&&◌, List, refl, subst, sym, arith}
use Rattle.std.specs.Prelude.{if◌then◌else◌}
use Rattle.ftl0_client.proofs.Names.{Option, None, Some, cond_both, after_hang_up, LinkState, LinkEnd, free_octets, is_up, packet_text, enough_free, filling-ends, filling-few, filling-keeps, filling-next, filling-none, packet-some, push-fewer, Ending, Work, DuePacket, PutsDue, due_by, next_due, JobState, Attempted, IsQueued, QueuedLaw, after_due, is_all_free, is_later, parting_later, queuing, settled}

-- the packet that was put
pub due-put : (due : Option (DuePacket JobState)) (job job_n : JobState) (out out_n : List ℕ) → PutsDue due true job job_n out out_n
    → (next : DuePacket JobState) × (due ≡ Some next) × (job_n ≡ next.state) × (out_n ≡ packet_text next.packet)
due-put None job job_n out out_n puts = absurd (cc puts.0)
due-put (Some next) job job_n out out_n puts = (next, refl, puts.1, puts.2)

-- fewer octets are free after a packet
due-fewer : (a : Attempted) (due : DuePacket JobState) → enough_free ≤ free_octets a.end → free_octets (after_due due a).end < free_octets a.end
due-fewer a due enough = push-fewer a.end (packet_text due.packet) (packet-some due.packet) (omega arith)

-- what an attempt's end is, and what is due of it
abbrev end_of : Attempted → LinkEnd
end_of a = a.end

abbrev due_of : Attempted → Option (DuePacket JobState)
due_of a = next_due a.job

-- what is true of an attempt, and of each with the packet queued that is due, is true once all is queued
pub queuing-keeps : (Holds : Attempted → Type 0) → ((a : Attempted) (due : DuePacket JobState) → next_due a.job ≡ Some due → Holds a → Holds (after_due due a)) → (count : ℕ) (a : Attempted)
    → Holds a → Holds (queuing count a)
queuing-keeps = filling-keeps end_of due_of after_due

-- and at the end of the event, if it is true of each that is hung up too
pub settled-keeps : (Holds : Attempted → Type 0) → ((a : Attempted) (due : DuePacket JobState) → next_due a.job ≡ Some due → Holds a → Holds (after_due due a))
    → ((a : Attempted) → Holds a → Holds (record a { end = after_hang_up a.end })) → (a : Attempted) → Holds a → Holds (settled a)
settled-keeps Holds each parts a here =
    let q : Attempted = queuing (free_octets a.end) a in
    let queued : Holds q = queuing-keeps Holds each (free_octets a.end) a here in
    cond_both (is_up a.end.state) (parting_later q) a Holds (λ up. cond_both (is_later q.job.ending && is_all_free q.end) _ q Holds (λ both. parts q queued) (λ not_both. queued)) (λ down. here)

-- a packet, and then the others
pub queuing-next : (a : Attempted) (due : DuePacket JobState) → next_due a.job ≡ Some due → enough_free ≤ free_octets a.end
    → queuing (free_octets (after_due due a).end) (after_due due a) ≡ queuing (free_octets a.end) a
queuing-next = filling-next end_of due_of after_due due-fewer

-- none, if nothing is due
pub queuing-none : (count : ℕ) (a : Attempted) → next_due a.job ≡ None → queuing count a ≡ a
queuing-none = filling-none end_of due_of after_due

-- nor if fewer octets are free
pub queuing-few : (count : ℕ) (a : Attempted) → free_octets a.end < enough_free → queuing count a ≡ a
queuing-few = filling-few end_of due_of after_due

-- what is true at the end
queuing-ends : (count : ℕ) (a : Attempted) → free_octets a.end ≤ count → IsQueued (queuing count a)
queuing-ends = filling-ends end_of due_of after_due due-fewer IsQueued (λ a none. inl none) (λ a few. inr few)

-- nothing is due after the outcome
pub none-ended : (doing : Work) (ending : Option Ending) → is_later ending ≡ true → due_by ending doing ≡ None
none-ended doing None later = absurd (cc later)
none-ended doing (Some ending) later = refl

first-of : (a b : Bool) → (a && b) ≡ true → a ≡ true
first-of true b both = refl
first-of false b both = absurd (cc both)

pub queued-law : QueuedLaw
queued-law a up =
    let q : Attempted = queuing (free_octets a.end) a in
    let later : IsQueued (parting_later q) =
    cond_both (is_later q.job.ending && is_all_free q.end) _ _ IsQueued (λ both. inl (none-ended q.job.work q.job.ending (first-of (is_later q.job.ending) (is_all_free q.end) both)))
    (λ not_both. queuing-ends (free_octets a.end) a (omega arith)) in
    subst (λ (s : LinkState). IsQueued (if is_up s then parting_later q else a)) (sym up) later
