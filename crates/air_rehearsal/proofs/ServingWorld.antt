-- The next world behind an event of the server, whether it is cut or not.
use Rattle.std.proofs.Common.{◌≡◌, ℕ, Bool, true, false, List, [], ◌∷◌, length}
use Rattle.std.proofs.Common.{Option, None, Some, refl, sym, ap, subst, ◌∙◌}
use Rattle.std.specs.Prelude.{◌&&◌, if◌then◌else◌}
use Rattle.file_store_model.specs.Command.{after}
use Rattle.ftl0_server.specs.Server.{Refused}
use Rattle.ftl0_server.specs.Server.{sends_by}
use Rattle.ftl0_server.specs.Slots.{place_of}
use Rattle.air_world.specs.Attempts.Party.{Party}
use Rattle.air_rehearsal.proofs.Names.{map, slice_get, option_map, length-map, same_Some, FrameValue, is_call, Ghosts, Command, after_all, begin, drop_entry, grow, seal, Leaves, told_weaker, weaker, MakesFirst, Store, Failure, is_same_call, Server, ServerSends, called_by, hearing_at, hearing_by, hearing_stranger, sends_of_places, server_next, settled, Empties, happening, stepped, PlacesSend, Slot, connected, first_empty, free, leaving, places_next, NodeEvent, hears, ticks, Attempt, all_over, over, sessions_over, ServerDid, after_hearing, server_commands, ServerTakes, Event, Sound, ServerGoes, parties_after, party_heard, party_ticked, World, counted, next_moment, HasLanes, Lanes, lanes_by, lanes_of, StandsDuring, the_server, PlayParties, PlaysParty, Party as StoredParty}
use Rattle.air_rehearsal.proofs.ServingParties.{at-mapped, plays-both, plays-each, plays-length}

-- ---- what stays of a server

command-blocks : (store : Store) (command : Command) → (after store command).blocks ≡ store.blocks
command-blocks store (begin number caller file_length moment) = refl
command-blocks store (grow number octets) = refl
command-blocks store (seal number moment) = refl
command-blocks store (drop_entry number) = refl

pub commands-blocks : (commands : List Command) (store : Store) → (after_all store commands).blocks ≡ store.blocks
commands-blocks [] store = refl
commands-blocks (command ∷ commands) store =
    commands-blocks commands (after store command) ∙ command-blocks store command

-- the window and the store
abbrev Keeps : Server → Server → Type 0
Keeps old new = (new.window ≡ old.window) × (new.store ≡ old.store)

next-keeps : (server : Server) (sends : ServerSends) → server_next server ≡ Some sends → Keeps server sends.after
next-keeps server sends next = by server.stray next
  where
    by-places : (places : Option PlacesSend) → sends_of_places server places ≡ Some sends → Keeps server sends.after
    by-places None next = absurd cc
    by-places (Some some) next =
        let is = same_Some _ _ next in
        subst (λ (s : ServerSends). Keeps server s.after) is (refl, refl)

    by : (stray : Option Refused) → sends_by server stray ≡ Some sends → Keeps server sends.after
    by None next = by-places (places_next server.window server.slots) next
    by (Some refused) next =
        let is = same_Some _ _ next in
        subst (λ (s : ServerSends). Keeps server s.after) is (refl, refl)

pub empties-keeps : (server : Server) (frames : List FrameValue) (last : Server) → Empties server frames last
    → Keeps server last
empties-keeps server [] last sent = (ap (λ (s : Server). s.window) sent.1, ap (λ (s : Server). s.store) sent.1)
empties-keeps server (frame ∷ frames) last sent =
    let first = next-keeps server sent.0 sent.1 in
    let later = empties-keeps sent.0.after frames last sent.3 in
    (later.0 ∙ first.0, later.1 ∙ first.1)

stranger-window : (server : Server) (frame : FrameValue) (moment : ℕ)
    → (hearing_stranger server frame moment).window ≡ server.window
stranger-window server frame moment = by (is_call frame.kind.control) (frame.command && frame.poll)
  where
    calls : (place : Option ℕ) → (called_by server frame.src frame.poll moment place).window ≡ server.window
    calls None = refl
    calls (Some place) = refl

    asks : (b : Bool)
        → (if b
        then record server { stray = Some (record { to = frame.src; poll = true }) }
        else server).window ≡ server.window
    asks true = refl
    asks false = refl

    by : (call : Bool) (asked : Bool)
        → (if call
        then called_by server frame.src frame.poll moment (first_empty server.slots)
        else (if asked
        then record server { stray = Some (record { to = frame.src; poll = true }) }
        else server)).window ≡ server.window
    by true asked = calls (first_empty server.slots)
    by false asked = asks asked

pub happening-window : (server : Server) (event : NodeEvent) (failures : List Failure)
    → (happening server event failures).after.window ≡ server.window
happening-window server (ticks moment) failures = refl
happening-window server (hears frame moment) failures = by (place_of frame.src server.slots)
  where
    at : (place : ℕ) (slot : Option Slot)
        → (hearing_at server frame moment failures place slot).after.window ≡ server.window
    at place None = refl
    at place (Some free) = refl
    at place (Some (leaving c)) = refl
    at place (Some (connected c)) = refl

    by : (place : Option ℕ) → (hearing_by server frame moment failures place).after.window ≡ server.window
    by None = stranger-window server frame moment
    by (Some place) = at place (slice_get server.slots place)

-- ---- the clients behind an event

-- only the attempts changed
pub record SameButAttempts (old new : Party) : Type 0 where
  pub client : new.client ≡ old.client
  pub uploads : new.uploads ≡ old.uploads
  pub is_cut : new.is_cut ≡ old.is_cut

heard-same : (did : ServerDid) (frame : FrameValue) (party : Party) → SameButAttempts party (party_heard did frame party)
heard-same did frame party = by (is_same_call party.client.me frame.src)
  where
    by : (b : Bool)
        → SameButAttempts party
        (if b then record party { attempts = after_hearing did frame party.attempts } else party)
    by true = record { client = refl; uploads = refl; is_cut = refl }
    by false = record { client = refl; uploads = refl; is_cut = refl }

-- a client behind the event is one from before it
pub after-at : (did : ServerDid) (coming : NodeEvent) (parties : List Party) (i : ℕ) (now : Party)
    → slice_get (parties_after did coming parties) i ≡ Some now
    → (party : Party) × (slice_get parties i ≡ Some party) × SameButAttempts party now
after-at did (hears frame moment) parties i now at =
    let it = at-mapped (party_heard did frame) parties i now at in
    (it.0, it.1, subst (λ (p : Party). SameButAttempts it.0 p) (sym it.2) (heard-same did frame it.0))
after-at did (ticks moment) parties i now at =
    let it = at-mapped (party_ticked did) parties i now at in (
      it.0,
      it.1,
      subst (λ (p : Party). SameButAttempts it.0 p) (sym it.2)
          (record { client = refl; uploads = refl; is_cut = refl }),
    )

pub after-length : (did : ServerDid) (coming : NodeEvent) (parties : List Party)
    → length (parties_after did coming parties) ≡ length parties
after-length did (hears frame moment) parties = length-map parties (party_heard did frame)
after-length did (ticks moment) parties = length-map parties (party_ticked did)

over-lanes : (attempts : List Attempt) → lanes_of (all_over attempts) ≡ lanes_of attempts
over-lanes [] = refl
over-lanes (a ∷ older) =
    by a.server
    ∙ ap (lanes_by (Some a))
    (length-map (a ∷ older) (λ (b : Attempt). record b { server = option_map over b.server }))
  where
    by : (side : _)
        → lanes_by (Some (record a { server = option_map over side })) (length (all_over (a ∷ older)))
        ≡ lanes_by (Some (record a { server = side })) (length (all_over (a ∷ older)))
    by None = refl
    by (Some side) = refl

pub plays-over : (all : List StoredParty) (parties : List Party) → PlayParties all parties
    → PlayParties all (map sessions_over parties)
plays-over all parties plays =
    plays-each all (map sessions_over parties) (plays-length all parties plays ∙ sym (length-map parties sessions_over))
    (λ c self party at there.
    let it = at-mapped sessions_over parties c party there in
    let was = plays-both all parties c self it.0 plays at it.1 in
    subst (λ (p : Party). PlaysParty self p) (sym it.2)
    (record {
      me_is = was.me_is;
      client = was.client;
      lanes = subst (λ (l : Lanes). HasLanes self.attempt l) (sym (over-lanes it.0.attempts)) was.lanes;
      uploads_are = was.uploads_are;
      cut_is = was.cut_is;
    }))

-- ---- an event that isn't cut

module _ (world : World) (event : Event) (sound : Sound world) (coming : NodeEvent) (delivered : World)
    (takes : ServerTakes world event coming delivered) (frames : List FrameValue) (last : Server)
    (sent : Empties (happening world.server coming []).after frames last) where
  abbrev pub did : ServerDid
  did = record { old = world.server; last = last; moment = next_moment world; frames = frames }

  abbrev pub next : World
  next =
      counted
      (record delivered { server = settled last; parties = parties_after did coming delivered.parties })

  abbrev pub goes : ServerGoes world coming delivered next
  goes =
      let happened = happening world.server coming [] in
      record {
        gives = stepped happened.done happened.cut happened.missed happened.halt frames (settled last);
        step = record {
          silent = sound.may_step.silent;
          done_is = refl;
          cut_is = refl;
          missed_is = refl;
          halt_is = refl;
          last = last;
          sent = sent;
          new_is = refl;
        };
        did = did;
        did_is = refl;
        new_is = refl;
      }

-- Since the event began a crash leaves what the first of its commands make.
pub carried :
    {B : Type 0} (g : Ghosts B) (world : World) (event : Event) (coming : NodeEvent) (delivered : World)
    (disk disk_now : B) → ServerTakes world event coming delivered
    → Leaves g disk disk_now (λ _. MakesFirst world.server.store (server_commands world coming))
    → Leaves g disk disk_now (λ _. StandsDuring the_server world event)
carried g world event coming delivered disk disk_now takes leaves =
    told_weaker (g.content disk) _ _
    (λ before is left. weaker g.moment g.images_since disk disk_now
    (MakesFirst world.server.store (server_commands world coming)) (StandsDuring the_server world event)
    (λ image made. record { coming = coming; delivered = delivered; takes = takes; stands = made }) left) leaves
