-- What an event begins that stops at a packet is a prefix of what it has if nothing stops it.
use Rattle.std.proofs.Common.{List, ap, sym, ◌∙◌, append_assoc}
use Rattle.ftl0_client.proofs.attempt.TakingLemmas.{noted-front}
use Rattle.ftl0_client.specs.StepLaws.Stops.{FrontOfEventLaw}
use Rattle.ftl0_client.proofs.step_laws.Names.{Item, NotesCommand, after_all, job_row, Attempted, after_hearing, Happened, taking}

pub front-of-event : FrontOfEventLaw
front-of-event w lists a frame before item behind packets none =
    let heard : Attempted = after_hearing w a frame in
    let taken : Happened = taking lists heard before in
    let own : List NotesCommand = (job_row (after_all lists taken.noted) taken.after.job item).commands in
    let front = noted-front lists heard before item behind none in (
      front.0,
      ap (λ (items : List Item). (taking lists heard items).noted) packets ∙ front.1
          ∙ sym (append_assoc taken.noted own front.0),
    )
