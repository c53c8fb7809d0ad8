-- The newest attempt of a client, once a frame of the server reaches its end of the link.
use Rattle.std.proofs.Common.{◌≡◌, ℕ, List, true, Option, None, Some, refl}
use Rattle.ftl0_client.specs.Attempt.Hearing.{hearing}
use Rattle.ftl0_client.specs.Entries.{HearingLaw}
use Rattle.air_world.proofs.attempts.Names.{AllByRecursion, CallSign, FrameValue, IsLawful, Transmission, delivering, LinkEnd, HasNoCall, frame, heard_of_coming, tick, row, prefix_law, after_all, Lists, Attempted, OutcomeLaw, JobEntry, entries_heard, Attempt, IsAnsweredBy, IsAttempt, IsRefusal, IsUnanswered, client_station, server_station, ClientSide, ServerSide}
use Rattle.air_world.proofs.attempts.ClientAttempt.{Stands, attempt-moves, linked-stands, moved, waiting-stands, waits-of}
use Rattle.air_world.proofs.attempts.ClientHappens.{frame-happens}
use Rattle.air_world.proofs.attempts.ClientJob.{SaysInRange, gone_on, job-goes-on}
use Rattle.air_world.proofs.attempts.ClientLink.{StepOf, step-keeps}
use Rattle.air_world.proofs.attempts.ClientUnanswered.{dm-waits}
use Rattle.air_world.proofs.attempts.ListLemmas.{all-at}
use Rattle.air_world.proofs.attempts.Transmissions.{all-delivered, from-delivered}

module _ (law : HearingLaw) (outcome : OutcomeLaw) (me server : CallSign) (lists : Lists) (a : Attempt)
    (is : IsAttempt me server a) (says : SaysInRange lists a.client) where
  module _ (place : ℕ) (t : Transmission) (lawful : IsLawful a.window a.by_server place t) where
    -- what the frame makes of the attempt
    abbrev before : Attempted
    before = a.client.attempted

    abbrev now : Attempted
    now = (hearing a.window lists before t.frame).after

    abbrev entries : List JobEntry
    entries = entries_heard a.window lists before t.frame

    abbrev list : List Transmission
    list = delivering a.by_server place t

    abbrev side : LinkEnd → ClientSide
    side last = gone_on entries now last a.client

    called : before.end.called ≡ true
    called = is.stations.client.called_is

    refused-still : IsUnanswered a → AllByRecursion IsRefusal list
    refused-still unanswered =
        all-delivered IsRefusal (λ u refusal. record { refuses = refusal.refuses; responds = refusal.responds })
        a.by_server place t lawful.sent unanswered.refused

    module _ (last : LinkEnd) (frames : List FrameValue)
        (step : StepOf a.window before.end (frame t.frame) now.end frames last) where
      none-calls : HasNoCall frames
      none-calls =
          prefix_law.no_call.step a.window before.end last (frame t.frame)
          (heard_of_coming a.window before.end (frame t.frame)) step.doings frames step.link
          (λ (no : frame t.frame ≡ tick). absurd (cc no))

      stands : (o : Option ServerSide) → a.server ≡ o → IsAnsweredBy a o → Stands a (moved (side last) frames list a)
      stands None same unanswered =
          let refusal = all-at IsRefusal a.by_server place t unanswered.refused lawful.sent in
          waiting-stands a (side last) frames list entries same unanswered refl
          (dm-waits a.window lists before t.frame now.end last frames refusal.refuses refusal.responds
          (waits-of a unanswered) step) (refused-still unanswered)
      stands (Some session) same answered =
          linked-stands a (moved (side last) frames list a) session same answered refl
          (prefix_law.heard a.window (client_station a) (server_station a session) place t
          (heard_of_coming a.window before.end (frame t.frame)) step.doings frames last is.window
          answered.linked answered.quiet lawful step.link)

      pub frame-moves : IsAttempt me server (moved (side last) frames list a)
      frame-moves =
          let keeps = step-keeps a.window before.end
          (frame t.frame) now.end frames last is.window called is.calling step in
          let happens = frame-happens law outcome a.window lists before t.frame called is.job.told_down in
          let both = stands a.server refl is.answered in
          attempt-moves me server a (side last) frames list is
          (record {
            sends = keeps.sends;
            quiet = keeps.quiet;
            calling = keeps.calling;
            job =
                job-goes-on lists (after_all lists (hearing a.window lists before t.frame).noted) a.client
                (row a.window before.end t.frame) t.frame.kind.information entries now last is.job says
                happens keeps.keeps both.octets;
            from_server = from-delivered a.window server me a.by_server place t lawful.sent is.stations.from_server;
            none = none-calls;
            answered = both.answered;
          })
