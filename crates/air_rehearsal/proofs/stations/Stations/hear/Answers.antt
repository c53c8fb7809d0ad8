-- The frame that is heard is the one that the world delivers; where no frame is heard the world delivers none.
use Rattle.std.proofs.Common.{◌≡◌, ◌<◌, List, length, Ok, refl, subst, ◌∙◌, rules, arith}
use Rattle.std.specs.Vec.{with_item}
use Rattle.ax25_frames.specs.Values.{value_of}
use Rattle.air_rehearsal.proofs.Names.{get_or-set_same, FrameText, IsAt, Transmission, IsLane, serving, Party}
use Rattle.air_rehearsal.proofs.ReadyLemmas.{read_at}
use Rattle.air_rehearsal.proofs.ServingKeeps.{keep-refl, keep-set}
use Rattle.air_rehearsal.proofs.ServingTaken.{client-there, comes, is-for, taken-so, text-of}
use Rattle.air_rehearsal.proofs.stations.Stations.hear.Goals as goal

pub returns-then-c-len-clause-keeps : goal.returns-then-c-len-clause-keeps
returns-then-c-len-clause-keeps g c = record {
  me = refl;
  k = refl;
  parties = keep-refl c.args.self.now.parties.items;
  uploads = refl;
  moment = refl;
  report = refl;
}

pub returns-then-c-len-clause-takes : goal.returns-then-c-len-clause-takes
returns-then-c-len-clause-takes g c = λ world sound plays known moment allowed.
    let within = client-there world c.args.c c.args.place allowed c.args.self.now.parties.items plays.stations.parties
    in
    let no : ⊥ = omega (arith, within, c.if-c-len.true, c.len.ensures) in
    absurd no

pub returns-in_default-clause-keeps : goal.returns-in_default-clause-keeps
returns-in_default-clause-keeps g c =
    let all = c.args.self.now.parties.items in
    let self = c.index_mut.result.now in
    let within : c.args.c < length all = search (rules, arith) in
    record {
      me = refl;
      k = refl;
      parties =
          keep-set all c.args.c self
          (record self { attempt = record self.attempt { from_client = c.deliver.new.self } })
          (read_at all c.args.c self within c.index_mut.ensures.value) (record { same = refl });
      uploads = refl;
      moment = refl;
      report = refl;
    }

pub returns-in_default-clause-takes : goal.returns-in_default-clause-takes
returns-in_default-clause-takes g c = λ world sound plays known moment allowed.
    let all = c.args.self.now.parties.items in
    let self = c.index_mut.result.now in
    let marked = record self { attempt = record self.attempt { from_client = c.deliver.new.self } } in
    let within : c.args.c < length all = search (rules, arith) in
    let at = read_at all c.args.c self within c.index_mut.ensures.value in
    let it = comes world c.args.c c.args.place allowed all plays.stations.parties self at in
    let read : c.index.result.now ≡ marked =
    c.index.ensures ∙ get_or-set_same all c.args.c marked c.index.result.now within in
    let texts = subst
    (λ (p : Party).
    (list : List Transmission) (t : Transmission) → IsLane p.attempt.from_client list → IsAt list c.args.place t → ⊥)
    read c.in_default.ensures in
    absurd (text-of world c.args.c c.args.place self it c.deliver.new.self (λ _. ⊥) c.deliver.ensures texts)

pub returns-in-Some-frame_for-clause-keeps : goal.returns-in-Some-frame_for-clause-keeps
returns-in-Some-frame_for-clause-keeps g c =
    let all = c.args.self.now.parties.items in
    let self = c.index_mut.result.now in
    let within : c.args.c < length all = search (rules, arith) in
    record {
      me = refl;
      k = refl;
      parties =
          keep-set all c.args.c self
          (record self { attempt = record self.attempt { from_client = c.deliver.new.self } })
          (read_at all c.args.c self within c.index_mut.ensures.value) (record { same = refl });
      uploads = refl;
      moment = refl;
      report = refl;
    }

pub returns-in-Some-frame_for-clause-takes : goal.returns-in-Some-frame_for-clause-takes
returns-in-Some-frame_for-clause-takes g c = λ world sound plays known moment allowed.
    let all = c.args.self.now.parties.items in
    let self = c.index_mut.result.now in
    let marked = record self { attempt = record self.attempt { from_client = c.deliver.new.self } } in
    let within : c.args.c < length all = search (rules, arith) in
    let at = read_at all c.args.c self within c.index_mut.ensures.value in
    let it = comes world c.args.c c.args.place allowed all plays.stations.parties self at in
    let read : c.index.result.now ≡ marked =
    c.index.ensures ∙ get_or-set_same all c.args.c marked c.index.result.now within in
    let texts = subst
    (λ (p : Party).
    (list : List Transmission) (t : Transmission) → IsLane p.attempt.from_client list → IsAt list c.args.place t
    → FrameText t.frame c.in-Some.octets.now) read c.in-Some.ensures in
    let text = text-of world c.args.c c.args.place self it c.deliver.new.self
    (λ frame. FrameText frame c.in-Some.octets.now) c.deliver.ensures texts in
    let lane = c.deliver.ensures it.a.by_client it.t it.lane it.is_at in
    let before = serving c.args.self.now c.args.server.now c.args.disk.now in
    let stations = record c.args.self.now { parties = with_item c.args.self.now.parties c.args.c marked } in
    let after = serving stations c.hear.new.self c.hear.new.disk in
    let for = is-for g.D.Disk world sound c.args.c c.args.place before after c.hear.result plays moment self at it
    c.deliver.new.self lane in
    taken-so g.D.Disk world sound c.args.c c.args.place before after c.hear.result plays moment self at it
    c.deliver.new.self lane known (value_of c.in-Some-frame_for.frame)
    (c.in-Some-frame_for.ensures.only it.t.frame text for) c.hear.ensures refl refl refl refl refl

pub returns-in-None-clause-keeps : goal.returns-in-None-clause-keeps
returns-in-None-clause-keeps g c =
    let all = c.args.self.now.parties.items in
    let self = c.index_mut.result.now in
    let within : c.args.c < length all = search (rules, arith) in
    record {
      me = refl;
      k = refl;
      parties =
          keep-set all c.args.c self
          (record self { attempt = record self.attempt { from_client = c.deliver.new.self } })
          (read_at all c.args.c self within c.index_mut.ensures.value) (record { same = refl });
      uploads = refl;
      moment = refl;
      report = refl;
    }

pub returns-in-None-clause-takes : goal.returns-in-None-clause-takes
returns-in-None-clause-takes g c = λ world sound plays known moment allowed.
    let all = c.args.self.now.parties.items in
    let self = c.index_mut.result.now in
    let marked = record self { attempt = record self.attempt { from_client = c.deliver.new.self } } in
    let within : c.args.c < length all = search (rules, arith) in
    let at = read_at all c.args.c self within c.index_mut.ensures.value in
    let it = comes world c.args.c c.args.place allowed all plays.stations.parties self at in
    let read : c.index.result.now ≡ marked =
    c.index.ensures ∙ get_or-set_same all c.args.c marked c.index.result.now within in
    let texts = subst
    (λ (p : Party).
    (list : List Transmission) (t : Transmission) → IsLane p.attempt.from_client list → IsAt list c.args.place t
    → FrameText t.frame c.in-Some.octets.now) read c.in-Some.ensures in
    let text = text-of world c.args.c c.args.place self it c.deliver.new.self
    (λ frame. FrameText frame c.in-Some.octets.now) c.deliver.ensures texts in
    let lane = c.deliver.ensures it.a.by_client it.t it.lane it.is_at in
    let before = serving c.args.self.now c.args.server.now c.args.disk.now in
    let for = is-for g.D.Disk world sound c.args.c c.args.place before before (Ok tt) plays moment self at it
    c.deliver.new.self lane in
    absurd (c.in-None.ensures.only it.t.frame text for)
