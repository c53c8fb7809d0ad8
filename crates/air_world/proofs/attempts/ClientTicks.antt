-- The newest attempt of a client, once a tick came: it goes on, or a further SABM was sent, with which one begins.
use Rattle.std.proofs.Common.{◌≡◌, ◌⊎◌, ℕ, List, [], ◌∷◌, ◌++◌, map, true, false, Option, None, Some, refl, inl, inr}
use Rattle.std.proofs.Common.{sym, ap, ◌∙◌, subst}
use Rattle.air_world.proofs.attempts.Names.{concat, CallSign, IsOctets, FrameValue, texts, packets_of, IsOctets-nil, fresh, LinkState, Calling, LinkEnd, HasNoCall, IsUnused, heard_of_coming, tick, prefix_law, Lists, Attempted, ticking, with_end, OutcomeLaw, JobEntry, TickingLaw, entries_ticked, items_in, lost, passed, queued, said_in, took, Attempt, IsAnsweredBy, IsAttempt, IsOneCall, client_station, server_station, ClientSide, IsJob, ServerSide, has_call}
use Rattle.air_world.proofs.attempts.ClientAttempt.{Stands, attempt-moves, linked-stands, moved, waiting-stands, waits-of}
use Rattle.air_world.proofs.attempts.ClientHappens.{tick-happens}
use Rattle.air_world.proofs.attempts.ClientIdle.{SendsCall}
use Rattle.air_world.proofs.attempts.ClientJob.{SaysInRange, gone_on, job-goes-on}
use Rattle.air_world.proofs.attempts.ClientLink.{StepKeeps, StepOf, step-keeps}
use Rattle.air_world.proofs.attempts.ClientRows.{tick_outcome}
use Rattle.air_world.proofs.attempts.ClientUnanswered.{StaysWaiting, tick-stays, ticks-nothing}
use Rattle.air_world.proofs.attempts.Sent.{has-none, none-calls, stays-of}
use Rattle.air_world.proofs.attempts.PacketLists.{no-packets}

-- a SABM alone is one
no-call-one : (frames : List FrameValue) (last : LinkEnd) → SendsCall frames last → has_call frames ≡ false → ⊥
no-call-one frames last sends none =
    let both = none-calls frames none in
    let one : HasNoCall (sends.frame ∷ []) = subst HasNoCall sends.frames_are both in
    let no : true ≡ false = sym sends.calls ∙ one.0 in
    cc no

-- ---- a job that has done nothing yet

no-texts : (entries : List JobEntry) → items_in entries ≡ [] → texts (said_in entries) ≡ [] → entries ≡ []
no-texts [] items said = refl
no-texts (took item row ∷ entries) items said = absurd (cc items)
no-texts (lost item row ∷ entries) items said = absurd (cc items)
no-texts (passed item ∷ entries) items said = absurd (cc items)
no-texts (queued due ∷ entries) items said = absurd (cc said)

-- after an end that was never used there are no entries
pub unused-entries : (side : ClientSide) → IsJob side → IsUnused side.attempted.end → side.entries ≡ []
unused-entries side job unused =
    no-texts side.entries (sym job.packets ∙ ap (λ (pieces : List (List ℕ)). packets_of (concat pieces)) unused.taken
    ∙ no-packets) (sym job.said ∙ unused.pushed)

module _ (law : TickingLaw) (outcome : OutcomeLaw) (me server : CallSign) (lists : Lists) (a : Attempt)
    (is : IsAttempt me server a) (says : SaysInRange lists a.client) where
  -- what the tick makes of the attempt
  abbrev before : Attempted
  before = a.client.attempted

  abbrev now : Attempted
  now = ticking before

  abbrev entries : List JobEntry
  entries = entries_ticked before

  abbrev side : LinkEnd → ClientSide
  side last = gone_on entries now last a.client

  called : before.end.called ≡ true
  called = is.stations.client.called_is

  module _ (last : LinkEnd) (frames : List FrameValue)
      (step : StepOf a.window before.end tick now.end frames last) where
    keeps : StepKeeps a.window before.end now.end frames last
    keeps = step-keeps a.window before.end tick now.end frames last is.window called is.calling step

    job-ticked : IsOctets (concat last.taken) → IsJob (side last)
    job-ticked =
        job-goes-on lists lists a.client (tick_outcome before.end) [] entries now last is.job says
        (tick-happens law outcome a.window lists before is.job.told_down) keeps.keeps

    -- ---- no SABM was sent

    module _ (none : has_call frames ≡ false) where
      waiting : StaysWaiting frames last entries ⊎ SendsCall frames last → StaysWaiting frames last entries
      waiting (inl stays) = stays
      waiting (inr sends) = absurd (no-call-one frames last sends none)

      stands : (o : Option ServerSide) → a.server ≡ o → IsAnsweredBy a o
          → Stands a (moved (side last) frames a.by_server a)
      stands None same unanswered =
          waiting-stands a (side last) frames a.by_server entries same unanswered refl
          (waiting (tick-stays a.window before now.end last frames (waits-of a unanswered) step)) unanswered.refused
      stands (Some session) same answered =
          linked-stands a (moved (side last) frames a.by_server a) session same answered refl
          (prefix_law.ticked a.window (client_station a) (server_station a session)
          (heard_of_coming a.window before.end tick) step.doings frames last is.window
          answered.linked step.link (none-calls frames none))

      pub tick-moves : IsAttempt me server (moved (side last) frames a.by_server a)
      tick-moves =
          let both = stands a.server refl is.answered in
          attempt-moves me server a (side last) frames a.by_server is
          (record {
            sends = keeps.sends;
            quiet = keeps.quiet;
            calling = keeps.calling;
            job = job-ticked both.octets;
            from_server = is.stations.from_server;
            none = none-calls frames none;
            answered = both.answered;
          })

    -- ---- a further SABM was sent

    module _ (calls : has_call frames ≡ true) where
      never-calls : (before.end.state ≡ Calling → ⊥) → ⊥
      never-calls never =
          let others = prefix_law.no_call.step a.window before.end last tick
          (heard_of_coming a.window before.end tick) step.doings frames step.link (λ same. never) in
          let no : true ≡ false = sym calls ∙ has-none frames others in
          cc no

      -- only an end that calls sends one
      called-still : (state : LinkState) → before.end.state ≡ state → before.end.state ≡ Calling
      called-still Calling same = same
      called-still state same =
          absurd (never-calls (λ calling. (let no : state ≡ Calling = sym same ∙ calling in cc no)))

      calling : before.end.state ≡ Calling
      calling = called-still before.end.state refl

      unused : IsUnused before.end
      unused = is.calling calling

      sending : StaysWaiting frames last entries ⊎ SendsCall frames last → SendsCall frames last
      sending (inl stays) = absurd (let no : true ≡ false = sym calls ∙ ap has_call stays.silent in cc no)
      sending (inr sends) = sends

      sends : SendsCall frames last
      sends =
          sending (tick-stays a.window before now.end last frames
          (record { state = inl calling; unused = unused }) step)

      unused-last : IsUnused last
      unused-last = keeps.calling sends.state

      -- the attempt that begins with it
      abbrev anew : Attempt
      anew = record {
        window = a.window;
        client = record { attempted = with_end now last; asked = a.client.asked; entries = [] };
        server = None;
        by_client = map fresh frames;
        by_server = [];
      }

      none-did : a.client.entries ++ entries ≡ []
      none-did =
          ap (λ (es : List JobEntry). es ++ entries) (unused-entries a.client is.job unused)
          ∙ ticks-nothing a.window before (record { state = inl calling; unused = unused }) is.quiet

      job-anew : IsJob anew.client
      job-anew =
          let octets : IsOctets (concat last.taken) =
          subst (λ (pieces : List (List ℕ)). IsOctets (concat pieces)) (sym unused-last.taken) IsOctets-nil in
          subst (λ (es : List JobEntry). IsJob (record {
            attempted = with_end now last;
            asked = a.client.asked;
            entries = es;
          })) none-did (job-ticked octets)

      one-call : IsOneCall (map fresh frames)
      one-call = subst (λ (fs : List FrameValue). IsOneCall (map fresh fs)) (sym sends.frames_are) (sends.calls, tt)

      pub tick-begins : IsAttempt me server anew
      tick-begins =
          let stays = stays-of a.window true me server [] frames before.end last is.window is.stations.client tt
          keeps.sends in
          record {
            window = is.window;
            stations = record { client = stays.end; serves = tt; from_client = stays.sent; from_server = tt };
            call = one-call;
            calling = λ calls. unused-last;
            quiet = keeps.quiet;
            job = job-anew;
            answered = record {
              unused = unused-last;
              state = inl sends.state;
              alone = (fresh sends.frame, ap (λ (fs : List FrameValue). map fresh fs) sends.frames_are);
              refused = tt;
              unserved = refl;
            };
          }
