-- The frame at this place is read, is for this client, and is heard.
use Rattle.std.proofs.Common.{refl, sym, subst, List, ℕ, true, Ok, Err}
use Rattle.ftl0_client.specs.Calls.{Hears}
use Rattle.air_rehearsal.proofs.Names.{⊤, FrameValue, Halt, TouchesDisk, IsAt, Transmission, delivering, EachImage, NotesState, StandsFor, ClientPart, DeliversToClient, IsLane, IsSeat, Seat, Lane, Party}
use Rattle.air_rehearsal.proofs.HeardLemmas.{delivered_at, heard_begins, heard_touches, is_for, lane_was, lanes_now}
use Rattle.air_rehearsal.proofs.party.Party.hear.Goals as goal

-- the lane, once the transmission is marked
marked : (self : Party) (seat : Seat) (at_seat : IsSeat self seat) (place : ℕ) (whole : ClientPart)
    (delivers : DeliversToClient seat.party place whole) (new : Lane)
    → ((list : List Transmission) (t : Transmission) → IsLane self.attempt.from_server list
    → IsAt list place t → IsLane new (delivering list place t))
    → IsLane new (delivering delivers.sent.attempt.by_server place delivers.t)
marked self seat at_seat place whole delivers new delivered =
    delivered delivers.sent.attempt.by_server delivers.t (lane_was self seat at_seat place whole delivers)
    delivers.sent.is_at

pub returns-in_default-clause-touches : goal.returns-in_default-clause-touches
returns-in_default-clause-touches g c = λ seat whole at_seat delivers.
    let lane = marked c.args.self.now seat at_seat c.args.place whole delivers c.deliver.new.self c.deliver.ensures in
    absurd (c.in_default.ensures (delivering delivers.sent.attempt.by_server c.args.place delivers.t)
    (record delivers.t { delivered = true }) lane
    (delivered_at delivers.sent.attempt.by_server c.args.place delivers.t delivers.sent.is_at))

pub returns-in_default-clause-begins : goal.returns-in_default-clause-begins
returns-in_default-clause-begins g c = λ seat whole at_seat delivers.
    let lane = marked c.args.self.now seat at_seat c.args.place whole delivers c.deliver.new.self c.deliver.ensures in
    absurd (c.in_default.ensures (delivering delivers.sent.attempt.by_server c.args.place delivers.t)
    (record delivers.t { delivered = true }) lane
    (delivered_at delivers.sent.attempt.by_server c.args.place delivers.t delivers.sent.is_at))

pub returns-in-Err-clause-touches : goal.returns-in-Err-clause-touches
returns-in-Err-clause-touches g c = λ seat whole at_seat delivers.
    let lane = marked c.args.self.now seat at_seat c.args.place whole delivers c.deliver.new.self c.deliver.ensures in
    let text = c.in-Some.ensures (delivering delivers.sent.attempt.by_server c.args.place delivers.t)
    (record delivers.t { delivered = true }) lane
    (delivered_at delivers.sent.attempt.by_server c.args.place delivers.t delivers.sent.is_at) in
    let read = c.in-Some-frame_for.ensures.only delivers.t.frame text
    (is_for c.args.self.now seat at_seat c.args.place whole delivers c.requires.theirs.me) in
    let hears =
    subst
    (λ (f : FrameValue). Hears g.D.Disk seat.party.client f c.args.self.now.client c.hear.new.self c.args.disk.now
    c.hear.new.disk (Err c.in-Err.halt)) read
    (c.in-Err.ensures.hears seat.party.client at_seat.plays.client) in
    record {
      lanes =
          lanes_now c.args.self.now seat at_seat c.args.place whole delivers
          (record c.args.self.now {
            client = c.hear.new.self;
            attempt = record c.args.self.now.attempt { from_server = c.deliver.new.self };
          }) refl lane;
      touches =
          subst
          (λ (h : Halt). TouchesDisk g.D.Disk {T = ⊤} whole c.args.disk.now c.hear.new.disk (Err h))
          (sym c.stopped_by.ensures)
          (heard_touches c.args.self.now seat at_seat c.args.place whole delivers g.D.Disk c.hear.new.self
          c.args.disk.now c.hear.new.disk (Err c.in-Err.halt) hears c.in-Err.ensures.puts
          g.met.D.Disk.lasts_on tt);
    }

pub returns-in-Ok-clause-touches : goal.returns-in-Ok-clause-touches
returns-in-Ok-clause-touches g c = λ seat whole at_seat delivers.
    let lane = marked c.args.self.now seat at_seat c.args.place whole delivers c.deliver.new.self c.deliver.ensures in
    let text = c.in-Some.ensures (delivering delivers.sent.attempt.by_server c.args.place delivers.t)
    (record delivers.t { delivered = true }) lane
    (delivered_at delivers.sent.attempt.by_server c.args.place delivers.t delivers.sent.is_at) in
    let read = c.in-Some-frame_for.ensures.only delivers.t.frame text
    (is_for c.args.self.now seat at_seat c.args.place whole delivers c.requires.theirs.me) in
    let hears =
    subst
    (λ (f : FrameValue). Hears g.D.Disk seat.party.client f c.args.self.now.client c.hear.new.self c.args.disk.now
    c.hear.new.disk (Ok c.in-Ok.field-0)) read
    (c.in-Ok.ensures.hears seat.party.client at_seat.plays.client) in
    let stands =
    subst (λ (n : NotesState). EachImage g.D.Disk c.hear.new.disk (λ image. StandsFor image n.lists)) c.notes.ensures
    c.images_law.ensures in
    record {
      lanes =
          lanes_now c.args.self.now seat at_seat c.args.place whole delivers
          (record c.args.self.now {
            client = c.hear.new.self;
            attempt = record c.args.self.now.attempt { from_server = c.deliver.new.self };
          }) refl lane;
      touches =
          heard_touches c.args.self.now seat at_seat c.args.place whole delivers g.D.Disk c.hear.new.self
          c.args.disk.now c.hear.new.disk (Ok c.in-Ok.field-0) hears
          c.in-Ok.ensures.puts g.met.D.Disk.lasts_on stands;
    }

pub returns-in-Ok-clause-begins : goal.returns-in-Ok-clause-begins
returns-in-Ok-clause-begins g c = λ seat whole at_seat delivers.
    let lane = marked c.args.self.now seat at_seat c.args.place whole delivers c.deliver.new.self c.deliver.ensures in
    let text = c.in-Some.ensures (delivering delivers.sent.attempt.by_server c.args.place delivers.t)
    (record delivers.t { delivered = true }) lane
    (delivered_at delivers.sent.attempt.by_server c.args.place delivers.t delivers.sent.is_at) in
    let read = c.in-Some-frame_for.ensures.only delivers.t.frame text
    (is_for c.args.self.now seat at_seat c.args.place whole delivers c.requires.theirs.me) in
    let hears =
    subst
    (λ (f : FrameValue). Hears g.D.Disk seat.party.client f c.args.self.now.client c.hear.new.self c.args.disk.now
    c.hear.new.disk (Ok c.in-Ok.field-0)) read
    (c.in-Ok.ensures.hears seat.party.client at_seat.plays.client) in
    let now : Party =
    record c.args.self.now {
      client = c.hear.new.self;
      attempt = record c.args.self.now.attempt { from_server = c.deliver.new.self };
    } in
    heard_begins c.args.self.now seat at_seat c.args.place whole delivers g.D.Disk c.hear.new.self c.args.disk.now
    c.hear.new.disk (Ok c.in-Ok.field-0) hears c.in-Ok.ensures.puts now
    refl refl refl (lanes_now c.args.self.now seat at_seat c.args.place whole delivers now refl lane)

pub returns-in-None-clause-touches : goal.returns-in-None-clause-touches
returns-in-None-clause-touches g c = λ seat whole at_seat delivers.
    let lane = marked c.args.self.now seat at_seat c.args.place whole delivers c.deliver.new.self c.deliver.ensures in
    let text = c.in-Some.ensures (delivering delivers.sent.attempt.by_server c.args.place delivers.t)
    (record delivers.t { delivered = true }) lane
    (delivered_at delivers.sent.attempt.by_server c.args.place delivers.t delivers.sent.is_at) in
    absurd (c.in-None.ensures.only delivers.t.frame text
    (is_for c.args.self.now seat at_seat c.args.place whole delivers c.requires.theirs.me))

pub returns-in-None-clause-begins : goal.returns-in-None-clause-begins
returns-in-None-clause-begins g c = λ seat whole at_seat delivers.
    let lane = marked c.args.self.now seat at_seat c.args.place whole delivers c.deliver.new.self c.deliver.ensures in
    let text = c.in-Some.ensures (delivering delivers.sent.attempt.by_server c.args.place delivers.t)
    (record delivers.t { delivered = true }) lane
    (delivered_at delivers.sent.attempt.by_server c.args.place delivers.t delivers.sent.is_at) in
    absurd (c.in-None.ensures.only delivers.t.frame text
    (is_for c.args.self.now seat at_seat c.args.place whole delivers c.requires.theirs.me))
