-- The store of a sound world follows from one world to the next, and so does what is there while an event is under way.
use Rattle.std.proofs.Common.{◌≡◌, ℕ, zero, suc, List, [], ◌∷◌, Bool, true, false, length, take, refl, sym, ap, subst, ◌∙◌}
use Rattle.file_store_model.proofs.Offered.{AreAllowed-first, follows_law, none_dropped}
use Rattle.file_store.specs.Command.{after_all}
use Rattle.air_world.proofs.Names.{Transmission, NodeEvent, hears as frame_comes, ticks as tick_comes, Follows, AreAllowed, Command, DropsNothing, KeepsFile, after, begin, drop_entry, grow, seal, after_first, Store, after_first-all, Party, NoneGone, such-first, ClientDoes, ClientEvent, ServerDoes, ServerEvent, WorldStep, server_commands, ClientPart, ServerTakes, IsPossible, Event, ask_download, ask_list, ask_resume, ask_upload, break_client, cut_client, cut_server, tick_client, tick_server, to_client, to_server, Sound, ServerLaws, ServerGoes, World, next_moment}
use Rattle.air_world.proofs.CutWorld.{own-left, take-none}
use Rattle.air_world.proofs.Marked.{IsComing, is-coming}
use Rattle.air_world.proofs.Seats.{between}
use Rattle.air_world.proofs.Served.{stands}
use Rattle.air_world.proofs.ServerEvents.{soon-moment}

-- ---- the blocks

command-blocks : (store : Store) (command : Command) → (after store command).blocks ≡ store.blocks
command-blocks store (begin number caller file_length moment) = refl
command-blocks store (grow number octets) = refl
command-blocks store (seal number moment) = refl
command-blocks store (drop_entry number) = refl

commands-blocks : (store : Store) (commands : List Command) → (after_all store commands).blocks ≡ store.blocks
commands-blocks store [] = refl
commands-blocks store (command ∷ commands) =
    commands-blocks (after store command) commands ∙ command-blocks store command

pub follows-blocks : (before now : Store) → Follows before now → now.blocks ≡ before.blocks
follows-blocks before now follows =
    ap (λ (store : Store). store.blocks) follows.does.1 ∙ commands-blocks before follows.commands

-- ---- what is there while an event is under way

follows-same : (before now : Store) → now ≡ before → Follows before now
follows-same before now same = record { commands = []; calls = tt; does = (tt, same) }

-- What an event of the server's does to the store: what is there after the first of its commands follows, for any
-- number of them. Each command is allowed in its turn, and none gives a file up.
pub record DoesSo (world : World) (coming : NodeEvent) : Type 0 where
  pub follows : (count : ℕ) → Follows world.server.store (after_first count world.server.store (server_commands world coming))
  pub allowed : AreAllowed world.server.store (server_commands world coming)
  pub drops : DropsNothing (server_commands world coming)

-- What the next world's store has of the one before.
pub record Stays (before now : Store) : Type 0 where
  pub follows : Follows before now
  pub none_gone : NoneGone before → NoneGone now

stays-same : (before now : Store) → now ≡ before → Stays before now
stays-same before now same =
    record { follows = follows-same before now same; none_gone = λ none. subst NoneGone (sym same) none }

module _ (laws : ServerLaws) (world : World) (sound : Sound world) where
  frame : (c place : ℕ) (party : Party) (t : Transmission) → IsComing world c party place t
      → DoesSo world (frame_comes t.frame (next_moment world))
  frame c place party t comes =
      let own = own-left laws.hearing laws.some_step laws.left world sound c party place t comes (next_moment world)
      (soon-moment world) in
      record {
        follows = λ count.
            (follows_law.others party.client.me world.server.store
            (after_first count world.server.store (server_commands world (frame_comes t.frame (next_moment world))))
            sound.store.is_store (stands world sound c party comes.is).call (own.during count).follows).0;
        allowed = own.allowed;
        drops = own.drops;
      }

  tick : (moment : ℕ) → DoesSo world (tick_comes moment)
  tick moment = record {
    follows = λ count.
        follows-same world.server.store (after_first count world.server.store [])
        (ap (λ (commands : List Command). after_all world.server.store commands) (take-none count));
    allowed = tt;
    drops = tt;
  }

  pub does-so : (event : Event) (coming : NodeEvent) (delivered : World) → IsPossible world event
      → ServerTakes world event coming delivered → DoesSo world coming
  does-so (to_server zero place) coming delivered possible takes = absurd takes
  does-so (to_server (suc c) zero) coming delivered possible takes = absurd takes
  does-so (to_server (suc c) (suc place)) coming delivered possible takes =
      subst (DoesSo world) (sym takes.coming_is)
      (frame c place takes.party takes.t
      (is-coming world c place takes.party takes.t takes.is_party takes.sent possible))
  does-so tick_server coming delivered possible takes =
      subst (DoesSo world) (sym takes.0) (tick (next_moment world))
  does-so (ask_upload c body) coming delivered possible takes = absurd takes
  does-so (ask_resume c) coming delivered possible takes = absurd takes
  does-so (ask_list c tokens) coming delivered possible takes = absurd takes
  does-so (ask_download c number) coming delivered possible takes = absurd takes
  does-so (to_client c place) coming delivered possible takes = absurd takes
  does-so (tick_client c) coming delivered possible takes = absurd takes
  does-so (break_client c) coming delivered possible takes = absurd takes
  does-so (cut_server call choice) coming delivered possible takes = absurd takes
  does-so (cut_client c call choice) coming delivered possible takes = absurd takes

  -- ---- the next world

  -- a step leaves the store after all its commands
  store-after : (coming : NodeEvent) (delivered new : World) (goes : ServerGoes world coming delivered new)
      → goes.gives.new.store ≡ after_all world.server.store goes.gives.done
  store-after (frame_comes frame moment) delivered new goes =
      (laws.hearing.hears.server world.server frame moment goes.gives (between world sound) goes.step).store_is
  store-after (tick_comes moment) delivered new goes =
      (laws.ticks.server world.server moment goes.gives (between world sound) goes.step).0.store_is

  -- so is the one after this number of the event's commands
  server-does : (cut : Bool) (coming : NodeEvent) (delivered new : World) → ServerDoes cut world coming delivered new
      → (count : ℕ)
      × (new.server.store ≡ after_first count world.server.store (server_commands world coming))
  server-does false coming delivered new goes = (
    length (server_commands world coming),
    ap (λ (it : World). it.server.store) goes.new_is
        ∙ store-after coming delivered new goes
        ∙ ap (λ (commands : List Command). after_all world.server.store commands) goes.step.done_is
        ∙ sym (after_first-all (server_commands world coming) world.server.store),
  )
  server-does true coming delivered new cut = (cut.count, ap (λ (it : World). it.server.store) cut.new_is)

  server-next : (event : Event) (new : World) → IsPossible world event → ServerEvent world event new
      → Stays world.server.store new.server.store
  server-next event new possible happens =
      let count = server-does world.is_cut happens.coming happens.delivered new happens.does in
      let commands : List Command = server_commands world happens.coming in
      let so = does-so event happens.coming happens.delivered possible happens.takes in
      subst (Stays world.server.store) (sym count.1)
      (record {
        follows = so.follows count.0;
        none_gone =
            none_dropped (take count.0 commands) world.server.store
            (AreAllowed-first count.0 commands world.server.store so.allowed)
            (such-first KeepsFile count.0 commands so.drops);
      })

  -- a client's event leaves the store alone
  client-does : (cut : Bool) (c : ℕ) (part : ClientPart) (new : World) → ClientDoes cut world c part new
      → new.server.store ≡ world.server.store
  client-does false c part new goes = ap (λ (it : World). it.server.store) goes.new_is
  client-does true c part new cut = ap (λ (it : World). it.server.store) cut.new_is

  client-next : (event : Event) (new : World) → ClientEvent world event new
      → Stays world.server.store new.server.store
  client-next event new happens =
      stays-same world.server.store new.server.store
      (client-does happens.part.party.is_cut happens.c happens.part new happens.does)

  pub stays-next : (event : Event) (new : World) → WorldStep world event new
      → Stays world.server.store new.server.store
  stays-next (ask_upload number count) new step = client-next (ask_upload number count) new step.happens
  stays-next (ask_resume number) new step = client-next (ask_resume number) new step.happens
  stays-next (ask_list number tokens) new step = client-next (ask_list number tokens) new step.happens
  stays-next (ask_download number file) new step = client-next (ask_download number file) new step.happens
  stays-next (to_server number place) new step =
      server-next (to_server number place) new step.allowed.possible step.happens
  stays-next (to_client number place) new step = client-next (to_client number place) new step.happens
  stays-next tick_server new step = server-next tick_server new step.allowed.possible step.happens
  stays-next (tick_client number) new step = client-next (tick_client number) new step.happens
  stays-next (break_client number) new step =
      stays-same world.server.store new.server.store (ap (λ (it : World). it.server.store) step.happens.3)
  stays-next (cut_server call choice) new step =
      stays-same world.server.store new.server.store (ap (λ (it : World). it.server.store) step.happens)
  stays-next (cut_client number call choice) new step =
      stays-same world.server.store new.server.store (ap (λ (it : World). it.server.store) step.happens.3)
