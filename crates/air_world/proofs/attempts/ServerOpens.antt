-- A SABM of a client is answered: the current attempt has a session.
use Rattle.std.proofs.Common.{◌≡◌, ℕ, ◌<◌, ◌≤◌, ◌^◌, List, [], ◌∷◌, length, Bool, true, false, Option, None, Some, refl}
use Rattle.std.proofs.Common.{sym, ap, subst, ◌∙◌, append-nil, arith}
use Rattle.air_world.proofs.attempts.Names.{AllByRecursion, concat, take_all, CallSign, Control, I, Rr, Rnr, Rej, Sabm, Disc, Dm, Ua, Frmr, Ui, FrameValue, packet_text, packets_of, rest_of, IsLawful, Transmission, control_of, delivering, is_numbered, sending_all, push, LinkEnd, answering_end, free_octets, IsOpening, AreLinked, Station, is_call, Drains, SendsOwn, Stations, Window, prefix_law, stations_law, command, flags, greeting, greeted, Attempt, IsAnsweredBy, IsAttempt, IsRefusal, IsUnanswered, IsSession, ServerSide}
use Rattle.air_world.proofs.attempts.Current.{at-alone}
use Rattle.air_world.proofs.attempts.Left.{delivered-alone}
use Rattle.air_world.proofs.attempts.LinkKeeps.{drains-keep, drains-quiet}
use Rattle.air_world.proofs.attempts.ListLemmas.{all-at}
use Rattle.air_world.proofs.attempts.ServerLink.{gone}
use Rattle.air_world.proofs.attempts.Transmissions.{from-delivered, from-sent, one-call-delivered}
use Rattle.air_world.proofs.attempts.PacketLists.{no-packets, no-rest}

-- ---- before

-- a SABM of an attempt that a session answered was delivered
pub not-answered : (me server : CallSign) (a : Attempt) (place : ℕ) (t : Transmission) → IsAttempt me server a
    → IsLawful a.window a.by_client place t
    → is_call (control_of t) ≡ true → IsUnanswered a × (a.server ≡ None)
not-answered me server a place t is lawful calls = by a.server refl is.answered
  where
    by : (o : Option ServerSide) → a.server ≡ o → IsAnsweredBy a o → IsUnanswered a × (a.server ≡ None)
    by None has un = (un, has)
    by (Some side) has answered =
        absurd
        (let delivered = answered.linked.one_opened place t lawful.sent calls in
        let fresh = lawful.call calls in
        let no : true ≡ false = sym delivered ∙ fresh in
        cc)

call-unnumbered : (control : Control) → is_call control ≡ true → is_numbered control ≡ false
call-unnumbered Sabm is = refl
call-unnumbered (I ns nr) is = absurd cc
call-unnumbered (Rr nr) is = absurd cc
call-unnumbered (Rnr nr) is = absurd cc
call-unnumbered (Rej nr) is = absurd cc
call-unnumbered Disc is = absurd cc
call-unnumbered Dm is = absurd cc
call-unnumbered Ua is = absurd cc
call-unnumbered Frmr is = absurd cc
call-unnumbered Ui is = absurd cc

-- DM alone opens
refusals-open : (list : List Transmission) → AllByRecursion IsRefusal list → IsOpening list
refusals-open list all = record {
  none = λ place t at. ap is_numbered (all-at IsRefusal list place t all at).refuses;
  opened = λ place t at calls.
      absurd
      (let is = (all-at IsRefusal list place t all at).refuses in
      let no : false ≡ true = sym (ap is_call is) ∙ calls in
      cc);
}

-- so does the SABM that was delivered
alone-opens : (t : Transmission) → is_call (control_of t) ≡ true → IsOpening (record t { delivered = true } ∷ [])
alone-opens t calls =
    let x : Transmission = record t { delivered = true } in
    record {
      none = λ place u at.
          let same : u ≡ x = at-alone (x ∷ []) x u place refl at in
          ap (λ (y : Transmission). is_numbered (control_of y)) same ∙ call-unnumbered (control_of t) calls;
      opened = λ place u at is. ap (λ (y : Transmission). y.delivered) (at-alone (x ∷ []) x u place refl at);
    }

-- ---- the session

-- LOGIN_RESP is queued whole
greeted-pushed : (me peer : CallSign) (poll : Bool) (moment : ℕ) (left : Bool)
    → (greeted (answering_end me peer poll) moment left).pushed ≡ packet_text (greeting moment left)
greeted-pushed me peer poll moment left =
    take_all (free_octets (answering_end me peer poll)) (packet_text (greeting moment left))
    (let few : length (packet_text (greeting moment left)) ≤ 4096 = omega arith in few)

few-flags : (left : Bool) → flags left < 256
few-flags true = omega arith
few-flags false = omega arith

-- a session that begins with this end of its link
abbrev pub begins : LinkEnd → ℕ → Bool → ServerSide
begins last moment left =
    record {
      connected = record { end = last; rest = []; state = command };
      greeting = greeting moment left;
      entries = [];
      is_up = true;
    }

session-begins : (w : Window) (me peer : CallSign) (poll left : Bool) (moment : ℕ) (frames : List FrameValue)
    (last : LinkEnd) → moment < 2 ^ 32
    → Drains w (greeted (answering_end me peer poll) moment left) frames last → IsSession (begins last moment left)
session-begins w me peer poll left moment frames last low drains =
    let keeps = drains-keep w (greeted (answering_end me peer poll) moment left) last frames drains in
    record {
      reached = refl;
      unread = [];
      packets = ap (λ (t : List (List ℕ)). packets_of (concat t)) keeps.taken ∙ no-packets;
      all = λ all. refl;
      none_lost = λ up. tt;
      rest = sym (ap (λ (t : List (List ℕ)). rest_of (concat t)) keeps.taken ∙ no-rest);
      said = keeps.pushed ∙ greeted-pushed me peer poll moment left
          ∙ sym (append-nil (packet_text (greeting moment left)));
      greets = (moment, left, refl);
      fits = ((low, few-flags left), tt);
    }

-- ---- the attempt

module _ (me server : CallSign) (a : Attempt) (is : IsAttempt me server a) (un : IsUnanswered a) (place : ℕ)
    (t : Transmission) (lawful : IsLawful a.window a.by_client place t)
    (calls : is_call (control_of t) ≡ true) where
  module _ (w : Window) (same : a.window ≡ w) (poll left : Bool) (moment : ℕ) (low : moment < 2 ^ 32)
      (frames : List FrameValue) (last : LinkEnd)
      (drained : Drains w (greeted (answering_end server me poll) moment left) frames last) where
    abbrev end : LinkEnd
    end = greeted (answering_end server me poll) moment left

    drains : Drains a.window end frames last
    drains = subst (λ (v : Window). Drains v end frames last) (sym same) drained

    opening : AreLinked a.window (record
        { end = a.client.attempted.end; transmissions = delivering a.by_client place t })
        (record { end = answering_end server me poll; transmissions = a.by_server })
    opening =
        prefix_law.opening a.window (record
        { end = a.client.attempted.end; transmissions = delivering a.by_client place t }) server me poll a.by_server
        is.window un.unused
        (subst IsOpening (sym (delivered-alone a.by_client un.alone.0 t place un.alone.1 lawful.sent))
        (alone-opens t calls))
        (refusals-open a.by_server un.refused)

    linked : AreLinked a.window (record
        { end = a.client.attempted.end; transmissions = delivering a.by_client place t })
        (record { end = last; transmissions = sending_all a.by_server frames })
    linked =
        let one : Station = record { end = answering_end server me poll; transmissions = a.by_server } in
        let other : Station = record { end = a.client.attempted.end; transmissions = delivering a.by_client place t } in
        let turned = prefix_law.turned a.window other one opening in
        let none =
        prefix_law.no_call.sent a.window (answering_end server me poll) end last
        (push (packet_text (greeting moment left)) ∷ []) frames
        (λ calls. absurd cc) (refl, refl) drains in
        prefix_law.turned a.window (record { end = last; transmissions = sending_all a.by_server frames }) other
        (prefix_law.sent a.window one other (push (packet_text (greeting moment left)) ∷ []) frames end last is.window
        turned (refl, refl) drains none)

    sends : SendsOwn a.window end frames last
    sends = stations_law.drains a.window end last frames is.window drains

    pub opens : IsAttempt me server (gone a (begins last moment left) (delivering a.by_client place t) frames)
    opens = record {
      window = is.window;
      stations = record {
        client = is.stations.client;
        serves = record {
          called_is = ap (λ (s : Stations). s.called) sends.stations;
          me_is = ap (λ (s : Stations). s.me) sends.stations;
          peer_is = ap (λ (s : Stations). s.peer) sends.stations;
        };
        from_client = from-delivered a.window me server a.by_client place t lawful.sent is.stations.from_client;
        from_server =
            from-sent a.window (record { called = false; me = server; peer = me }) a.by_server frames is.window
            is.stations.from_server sends.own;
      };
      call = one-call-delivered a.by_client place t lawful.sent is.call;
      calling = is.calling;
      quiet = is.quiet;
      job = is.job;
      answered = record {
        linked = linked;
        quiet = drains-quiet a.window end last frames drains;
        session = session-begins a.window server me poll left moment frames last low drains;
      };
    }
