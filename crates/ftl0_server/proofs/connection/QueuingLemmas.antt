-- How what is due is queued, one packet after another.
use Rattle.std.proofs.Common.{◌≡◌, inl, inr, ℕ, ◌<◌, ◌≤◌, Bool, false, List, refl, ap, arith}
use Rattle.std.specs.Prelude.{if◌then◌else◌}
use Rattle.packet_link.proofs.Queuing.{filling-alike, filling-ends, filling-few, filling-keeps, filling-next, filling-none, packet-some, push-fewer}
use Rattle.ftl0_server.proofs.Names.{common_steps, Option, None, Some, LinkEnd, free_octets, packet_text, after_all, Store, Failure, read_fails, DuePacket, due_at, next_due, none-whatever, IsQueued, QueuedLaw, Progress, after_due, enough_free, queued, queuing}

-- fewer octets are free after a packet
due-fewer : (progress : Progress) (due : DuePacket) → enough_free ≤ free_octets progress.end → free_octets (after_due due progress).end < free_octets progress.end
due-fewer progress due enough = push-fewer progress.end (packet_text due.packet) (packet-some due.packet) (omega arith)

abbrev end_of : Progress → LinkEnd
end_of progress = progress.end

-- all except the end, the state, the part and what failed reads are reported
pub record KeepsRest (before now : Progress) : Type 0 where
  pub over : now.over ≡ before.over
  pub lists : now.lists ≡ before.lists
  pub done : now.done ≡ before.done
  pub cut : now.cut ≡ before.cut
  pub halt : now.halt ≡ before.halt

-- nothing more is due, or fewer octets are free
abbrev IsAtEnd : Store → Progress → Type 0
IsAtEnd store progress = IsQueued store progress.state progress.end

keeps-same : (progress : Progress) → KeepsRest progress progress
keeps-same progress = record { over = refl; lists = refl; done = refl; cut = refl; halt = refl }

module _ (store : Store) (failures : List Failure) where
  -- what is due of it
  abbrev due_of : Progress → Option DuePacket
  due_of progress = due_at store progress.state failures progress.part

  -- none, if nothing is due
  pub queuing-none : (count : ℕ) (progress : Progress) → due_at store progress.state failures progress.part ≡ None → queuing count store failures progress ≡ progress
  queuing-none = filling-none end_of due_of after_due

  -- nor if fewer octets are free
  pub queuing-fewer : (count : ℕ) (progress : Progress) → free_octets progress.end < enough_free → queuing count store failures progress ≡ progress
  queuing-fewer = filling-few end_of due_of after_due

  -- a packet that is due, and then the others
  pub queuing-next : (progress : Progress) (due : DuePacket) → due_at store progress.state failures progress.part ≡ Some due → enough_free ≤ free_octets progress.end
      → queuing (free_octets (after_due due progress).end) store failures (after_due due progress) ≡ queuing (free_octets progress.end) store failures progress
  queuing-next = filling-next end_of due_of after_due due-fewer

  -- failures that are alike from here on
  pub queuing-alike : (count : ℕ) (others : List Failure) (progress : Progress) → ((part : ℕ) → progress.part ≤ part → read_fails failures part ≡ read_fails others part)
      → queuing count store failures progress ≡ queuing count store others progress
  queuing-alike count others progress alike =
      filling-alike end_of due_of after_due (λ at. due_at store at.state others at.part) (λ (at : Progress). progress.part ≤ at.part)
      (λ at later. ap (λ (fails : Bool). next_due store at.state fails) (alike at.part later)) (λ at due later. omega (arith, later)) count progress (omega arith)

  -- what is true of each that is reached
  pub queuing-holds : (Holds : Progress → Type 0)
      → ((progress : Progress) (due : DuePacket) → due_at store progress.state failures progress.part ≡ Some due → Holds progress → Holds (after_due due progress)) → (count : ℕ) (progress : Progress)
      → Holds progress → Holds (queuing count store failures progress)
  queuing-holds = filling-keeps end_of due_of after_due

  -- what is left as it was
  pub queuing-keeps : (count : ℕ) (progress : Progress) → KeepsRest progress (queuing count store failures progress)
  queuing-keeps count progress =
      queuing-holds (λ now. KeepsRest progress now) (λ now due is h. record { over = h.over; lists = h.lists; done = h.done; cut = h.cut; halt = h.halt }) count progress (keeps-same progress)

  queuing-ends : (count : ℕ) (progress : Progress) → free_octets progress.end ≤ count → IsAtEnd store (queuing count store failures progress)
  queuing-ends =
      filling-ends end_of due_of after_due due-fewer (IsAtEnd store)
      (λ progress none. inl (λ others part. none-whatever store progress.state (read_fails failures progress.part) (read_fails others part) none)) (λ progress few. inr few)

module _ (store : Store) where
  -- if the session goes on
  pub queued-on : (failures : List Failure) (progress : Progress) → progress.over ≡ false
      → queued store failures progress ≡ queuing (free_octets progress.end) (after_all store progress.done) failures progress
  queued-on failures progress going = grind (arith, common_steps)

-- what is left as it was, whether the session goes on or not
module _ (store : Store) (failures : List Failure) (progress : Progress) where
  keeps-whether : (over : Bool) (now : Progress) → KeepsRest progress now → KeepsRest progress (if over then progress else now)
  keeps-whether over now h = grind (arith, common_steps)

  pub queued-keeps : KeepsRest progress (queued store failures progress)
  queued-keeps = grind (arith, common_steps, keeps-whether, queuing-keeps)

pub queued-law : QueuedLaw
queued-law store failures progress going = grind (arith, common_steps, queued-on, queuing-ends)
