-- An attempt that begins with what is asked; and one whose client has no link any more, and answers a frame by DM at
-- most.
use Rattle.std.proofs.Common.{◌≡◌, ℕ, List, [], ◌∷◌, ◌++◌, map, Bool, true, false, Option, None, Some, refl, inl, sym}
use Rattle.std.proofs.Common.{ap, ◌∙◌, subst, arith}
use Rattle.std.specs.Prelude.{if◌then◌else◌, ◌&&◌, ◌||◌}
use Rattle.air_world.proofs.attempts.Names.{CallSign, Control, FrameValue, IsLawful, Transmission, delivering, fresh, sending_all, LinkEnd, call, calling_end, frame_of_reply, AreAnswers, HasNoCall, IsUnused, is_answered, refusal_frame, is_call, IsWindow, Window, prefix_law, IsNew, JobState, calling, with_end, AreFromTo, Attempt, IsAnsweredBy, IsAttempt, IsFromTo, IsRefusal, client_station, server_station, IsJob, ServerSide}
use Rattle.air_world.proofs.attempts.ListLemmas.{all-at, each-append}
use Rattle.air_world.proofs.attempts.Transmissions.{all-delivered, from-delivered, one-call-sent}
use Rattle.air_world.proofs.attempts.PacketLists.{no-packets, no-rest}

-- ---- what is asked

module _ (w : Window) (window : IsWindow w) (me server : CallSign) (job : JobState) (new : IsNew job) where
  -- the end that called, and has sent its SABM
  abbrev called_end : LinkEnd
  called_end = record (calling_end me server) { reply = None }

  abbrev sabm : FrameValue
  sabm = frame_of_reply w (calling_end me server) call

  abbrev asked : Attempt
  asked = record {
    window = w;
    client = record { attempted = with_end (calling me server job) called_end; asked = job.work; entries = [] };
    server = None;
    by_client = fresh sabm ∷ [];
    by_server = [];
  }

  unused : IsUnused called_end
  unused =
      record {
        pushed = refl;
        queued = refl;
        sent = refl;
        acked = refl;
        taken = refl;
        again = refl;
        reply = λ is. cc is;
      }

  asked-job : IsJob asked.client
  asked-job = record {
    begun = new.1;
    reached = ap (λ (o : Option _). record { work = job.work; ending = o }) new.0;
    packets = no-packets;
    rest = sym no-rest;
    said = refl;
    fits = tt;
    told_down = λ why is. absurd (cc is);
    closed = λ why is. absurd (cc is);
    working = λ none. inl refl;
  }

  pub asked-attempt : IsAttempt me server asked
  asked-attempt = record {
    window = window;
    stations = record {
      client = record { called_is = refl; me_is = refl; peer_is = refl };
      serves = tt;
      from_client = (
        record {
          src_is = refl;
          dest_is = refl;
          via = refl;
          sends = (let more = window.fewer in omega arith);
          acks = (let more = window.fewer in omega arith);
        },
        tt,
      );
      from_server = tt;
    };
    call = (refl, tt);
    calling = λ calls. unused;
    quiet = refl;
    job = asked-job;
    answered = record { unused = unused; state = inl refl; alone = (fresh sabm, refl); refused = tt; unserved = refl };
  }

-- ---- a client without a link

module _ (me server : CallSign) (a : Attempt) (is : IsAttempt me server a) (place : ℕ) (t : Transmission)
    (lawful : IsLawful a.window a.by_server place t) where
  abbrev list : List Transmission
  list = delivering a.by_server place t

  -- what is sent to a station with which there is no link
  abbrev answers : List FrameValue
  answers = if is_answered t.frame then refusal_frame me (record { to = t.frame.src; poll = t.frame.poll }) ∷ [] else []

  -- the attempt with that sent
  abbrev answered : List FrameValue → Attempt
  answered frames =
      record {
        window = a.window;
        client = a.client;
        server = a.server;
        by_client = sending_all a.by_client frames;
        by_server = list;
      }

  from-server : IsFromTo a.window server me t.frame
  from-server =
      all-at (λ u. IsFromTo a.window server me u.frame) a.by_server place t is.stations.from_server lawful.sent

  -- what may be sent so
  record Answers (frames : List FrameValue) : Type 0 where
    no_call : HasNoCall frames
    are : AreAnswers frames
    own : AreFromTo a.window me server (map fresh frames)

  answers-are : Answers answers
  answers-are = by (is_answered t.frame)
    where
      by : (b : Bool)
          → Answers (if b then refusal_frame me (record { to = t.frame.src; poll = t.frame.poll }) ∷ [] else [])
      by true =
          let more = is.window.fewer in
          record {
            no_call = (refl, tt);
            are = (refl, refl, tt);
            own = (
              record {
                src_is = refl;
                dest_is = from-server.src_is;
                via = refl;
                sends = omega arith;
                acks = omega arith;
              },
              tt,
            );
          }
      by false = record { no_call = tt; are = tt; own = tt }

  -- a DM isn't answered
  dm-silent : IsRefusal t → answers ≡ []
  dm-silent refusal =
      let not_answered : is_answered t.frame ≡ false =
      ap (λ (c : Control). is_call c || (t.frame.command && t.frame.poll)) refusal.refuses
      ∙ ap (λ (b : Bool). b && t.frame.poll) refusal.responds in
      ap (λ (b : Bool). if b then refusal_frame me (record { to = t.frame.src; poll = t.frame.poll }) ∷ [] else [])
      not_answered

  stands : (o : Option ServerSide) → a.server ≡ o → IsAnsweredBy a o → IsAnsweredBy (answered answers) a.server
  stands None same unanswered =
      let refusal = all-at IsRefusal a.by_server place t unanswered.refused lawful.sent in
      subst (IsAnsweredBy (answered answers)) (sym same)
      (record {
        unused = unanswered.unused;
        state = unanswered.state;
        alone = (
          unanswered.alone.0,
          ap (λ (fs : List FrameValue). sending_all a.by_client fs) (dm-silent refusal)
              ∙ ap (λ (l : List Transmission). l ++ []) unanswered.alone.1,
        );
        refused =
            all-delivered IsRefusal (λ u refusal. record { refuses = refusal.refuses; responds = refusal.responds })
            a.by_server place t lawful.sent unanswered.refused;
        unserved = unanswered.unserved;
      })
  stands (Some session) same was =
      let marked = prefix_law.delivered a.window (client_station a)
      (server_station a session) place t is.window was.linked lawful.sent in
      subst (IsAnsweredBy (answered answers)) (sym same)
      (record {
        linked =
            prefix_law.answered a.window (client_station a)
            (record { end = session.connected.end; transmissions = list }) answers marked answers-are.are;
        quiet = was.quiet;
        session = was.session;
      })

  pub passed-attempt : IsAttempt me server (answered answers)
  passed-attempt = record {
    window = is.window;
    stations = record {
      client = is.stations.client;
      serves = is.stations.serves;
      from_client =
          each-append (λ u. IsFromTo a.window me server u.frame) a.by_client
          (map fresh answers) is.stations.from_client answers-are.own;
      from_server = from-delivered a.window server me a.by_server place t lawful.sent is.stations.from_server;
    };
    call = one-call-sent a.by_client answers is.call answers-are.no_call;
    calling = is.calling;
    quiet = is.quiet;
    job = is.job;
    answered = stands a.server refl is.answered;
  }
