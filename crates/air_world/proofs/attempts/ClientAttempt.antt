-- The newest attempt of a client, once its end of the link heard a frame or a tick came.
use Rattle.std.proofs.Common.{◌≡◌, ℕ, List, [], ◌++◌, true, None, Some, sym, ap, ◌∙◌, subst}
use Rattle.air_world.proofs.attempts.Names.{AllByRecursion, concat, CallSign, IsFront, IsOctets, FrameValue, IsOctets-nil, Transmission, sending_all, Calling, HasNoCall, IsUnused, AreLinked, IsQuiet, SendsOwn, Window, prefix_law, JobEntry, AreFromTo, Attempt, IsAnswered, IsAnsweredBy, IsAttempt, IsRefusal, IsUnanswered, client_station, server_station, ClientSide, IsJob, ServerSide, said_by_server}
use Rattle.air_world.proofs.attempts.ClientUnanswered.{StaysWaiting, Waits}
use Rattle.air_world.proofs.attempts.PacketLists.{octets-of_front}
use Rattle.air_world.proofs.attempts.Sent.{stays-of}
use Rattle.air_world.proofs.attempts.Transmissions.{one-call-sent}

-- the attempt with its client's side become this, and what it sent; and with what the server sent, some of it delivered
abbrev pub moved : ClientSide → List FrameValue → List Transmission → Attempt → Attempt
moved side frames list a =
    record {
      window = a.window;
      client = side;
      server = a.server;
      by_client = sending_all a.by_client frames;
      by_server = list;
    }

-- What a step of the end of the newest attempt made of its client's side.
pub record SideMoves (me server : CallSign) (a : Attempt) (side : ClientSide) (frames : List FrameValue)
    (list : List Transmission) : Type 0 where
  pub sends : SendsOwn a.window a.client.attempted.end frames side.attempted.end
  pub quiet : IsQuiet a.window side.attempted.end
  pub calling : side.attempted.end.state ≡ Calling → IsUnused side.attempted.end
  pub job : IsJob side
  pub from_server : AreFromTo a.window server me list
  pub none : HasNoCall frames
  pub answered : IsAnsweredBy (moved side frames list a) a.server

pub attempt-moves : (me server : CallSign) (a : Attempt) (side : ClientSide) (frames : List FrameValue)
    (list : List Transmission) → IsAttempt me server a
    → SideMoves me server a side frames list → IsAttempt me server (moved side frames list a)
attempt-moves me server a side frames list is moves =
    let stays = stays-of a.window true me server a.by_client frames a.client.attempted.end side.attempted.end is.window
    is.stations.client is.stations.from_client moves.sends in
    record {
      window = is.window;
      stations =
          record {
            client = stays.end;
            serves = is.stations.serves;
            from_client = stays.sent;
            from_server = moves.from_server;
          };
      call = one-call-sent a.by_client frames is.call moves.none;
      calling = moves.calling;
      quiet = moves.quiet;
      job = moves.job;
      answered = moves.answered;
    }

-- ---- what was accepted, and whether a session answered

-- The pieces that came are octets; and a session answered the attempt, or none did.
pub record Stands (a : Attempt) (now : Attempt) : Type 0 where
  pub octets : IsOctets (concat now.client.attempted.end.taken)
  pub answered : IsAnsweredBy now a.server

-- linked to a session's end, what came is octets
pub linked-stands : (a now : Attempt) (side : ServerSide) → a.server ≡ Some side → IsAnswered a side
    → now.window ≡ a.window → AreLinked now.window (client_station now) (server_station now side) → Stands a now
linked-stands a now side same answered window linked =
    let turned = prefix_law.turned now.window (client_station now) (server_station now side) linked in
    let front = prefix_law.front now.window (server_station now side) (client_station now) turned in
    record {
      octets =
          octets-of_front (said_by_server side) (concat now.client.attempted.end.taken) answered.session.fits
          (subst (λ (text : List ℕ). IsFront (concat now.client.attempted.end.taken) text) answered.session.said front);
      answered =
          subst (IsAnsweredBy now) (sym same)
          (record {
            linked = linked;
            quiet = subst (λ (w : Window). IsQuiet w side.connected.end) (sym window)
                answered.quiet;
            session = answered.session;
          });
    }

-- without a session it waits still
pub waiting-stands : (a : Attempt) (side : ClientSide) (frames : List FrameValue) (list : List Transmission)
    (entries : List JobEntry) → a.server ≡ None → IsUnanswered a
    → side.entries ≡ a.client.entries ++ entries → StaysWaiting frames side.attempted.end entries
    → AllByRecursion IsRefusal list → Stands a (moved side frames list a)
waiting-stands a side frames list entries same unanswered more stays refused = record {
  octets = subst (λ (pieces : List (List ℕ)). IsOctets (concat pieces)) (sym stays.waits.unused.taken) IsOctets-nil;
  answered =
      subst (IsAnsweredBy (moved side frames list a)) (sym same)
      (record {
        unused = stays.waits.unused;
        state = stays.waits.state;
        alone = (
          unanswered.alone.0,
          ap (λ (fs : List FrameValue). sending_all a.by_client fs) stays.silent
              ∙ ap (λ (l : List Transmission). l ++ []) unanswered.alone.1,
        );
        refused = refused;
        unserved =
            more ∙ ap (λ (es : List JobEntry). a.client.entries ++ es) stays.nothing
            ∙ ap (λ (es : List JobEntry). es ++ []) unanswered.unserved;
      });
}

pub waits-of : (a : Attempt) → IsUnanswered a → Waits a.client.attempted.end
waits-of a unanswered = record { state = unanswered.state; unused = unanswered.unused }
