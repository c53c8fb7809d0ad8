-- What a client's event makes of the transmissions of its current attempt: the frames that it sends begin an attempt,
-- or are behind those that were sent.
use Rattle.std.proofs.Common.{◌≡◌, ℕ, zero, suc, List, [], ◌∷◌, Bool, true, false, Option, None, Some, refl, sym, ap}
use Rattle.std.proofs.Common.{subst, ◌∙◌}
use Rattle.std.specs.Prelude.{if◌then◌else◌}
use Rattle.ftl0_client.specs.Client.{ClientEvent, hears, ticks}
use Rattle.ftl0_client.specs.Entries as job
use Rattle.air_world.specs.Attempts.Party.{Party}
use Rattle.air_rehearsal.proofs.Names.{slice_get, ⊤, AllByRecursion, slice_get_within, CallSign, Transmission, sending_all, slice_get-set_same, Attempted, asks, Attempt, IsAttempt, IsOneCall, Placed, IsLinkOf, client_sends, to_client_delivered, with_newest, ClientDid, after_event, called_again, did_by, has_call, job_gone_on, ClientDoes, ClientEvent as ClientIn, Happens, ClientPart, ClientTakes, DeliversToClient, IsPartOf, IsResuming, IsAllowed, SoundLaw, Event, ask_download, ask_list, ask_resume, ask_upload, break_client, cut_client, cut_server, tick_client, tick_server, to_client, to_server, IsParty, Sound, ClientGoes, party_after, with_asked, PartyAt, World, ClientLanesLaw, lanes_of, sending_each, PartyGoes}
use Rattle.air_rehearsal.proofs.ClientSends.{GoesBy, goes-by}
use Rattle.air_rehearsal.proofs.SentLanes.{begun_by, lanes-count, no-call-behind, sending-begins, sending-each}

-- ---- by the event

-- the newest one of these attempts, if there is one, begins with its only SABM
abbrev pub IsOnce : List Attempt → Type 0
IsOnce [] = ⊤
IsOnce (a ∷ older) = IsOneCall a.by_client

-- a frame that comes is of one of these attempts
abbrev pub HasOne : ClientEvent → List Attempt → Type 0
HasOne (asks job) attempts = ⊤
HasOne (hears frame) [] = ⊥
HasOne (hears frame) (a ∷ older) = ⊤
HasOne ticks attempts = ⊤

module _ (did : ClientDid) where
  -- these are the lanes of the newest of these attempts once the client sent its frames
  abbrev GoOn : List Attempt → List Attempt → Type 0
  GoOn before now = lanes_of now ≡ sending_each did.frames (lanes_of before)

  -- the frames are behind those that were sent
  sends-on : (a : Attempt) (older : List Attempt) → IsOneCall a.by_client
      → IsOneCall (sending_all a.by_client did.frames)
      → lanes_of (client_sends did.frames a ∷ older) ≡ sending_each did.frames (lanes_of (a ∷ older))
  sends-on a older before now =
      sym (sending-each did.frames (lanes_of (a ∷ older)) (no-call-behind a.by_client did.frames before now))

  -- a tick of a client that has a link
  ticked : (again : Bool) (was now : Attempted) (attempts : List Attempt) → IsOnce attempts
      → IsOnce (if again then called_again did now attempts
      else with_newest (job_gone_on did now (job.entries_ticked was)) attempts)
      → IsLinkOf (slice_get (if again then called_again did now attempts
      else with_newest (job_gone_on did now (job.entries_ticked was)) attempts) 0) (Some now)
      → GoOn attempts (if again then called_again did now attempts
      else with_newest (job_gone_on did now (job.entries_ticked was)) attempts)
  ticked true was now [] before after link = absurd link
  ticked true was now (a ∷ older) before after link = sym (sending-begins did.frames (lanes_of (a ∷ older)) after)
  ticked false was now [] before after link = absurd link
  ticked false was now (a ∷ older) before after link = sends-on a older before after

  goes-on : (coming : ClientEvent) (was now : Option Attempted) (attempts : List Attempt) → HasOne coming attempts
      → GoesBy coming was now did.frames → IsOnce attempts → IsOnce (did_by coming was now did attempts)
      → IsLinkOf (slice_get (did_by coming was now did attempts) 0) now
      → GoOn attempts (did_by coming was now did attempts)
  goes-on (asks work) was None attempts has goes before after link = absurd goes
  goes-on (asks work) was (Some now) attempts has goes before after link =
      ap (λ (n : ℕ). record (begun_by did.frames (lanes_of attempts)) { attempts = suc n })
      (sym (lanes-count attempts))
      ∙ sym (sending-begins did.frames (lanes_of attempts) after)
  goes-on (hears frame) was now [] has goes before after link = absurd has
  goes-on (hears frame) None now (a ∷ older) has goes before after link = sends-on a older before after
  goes-on (hears frame) (Some was) None (a ∷ older) has goes before after link = sends-on a older before after
  goes-on (hears frame) (Some was) (Some now) (a ∷ older) has goes before after link = sends-on a older before after
  goes-on ticks None now attempts has goes before after link =
      ap (λ frames. sending_each frames (lanes_of attempts)) (sym goes)
  goes-on ticks (Some was) None attempts has goes before after link = absurd goes
  goes-on ticks (Some was) (Some now) attempts has goes before after link =
      ticked (has_call did.frames) was now attempts before after link

-- ---- the client that takes part

-- The client whose part this is, and of the part's attempts the newest one.
pub record IsPartOne (world : World) (c : ℕ) (part : ClientPart) : Type 0 where
  pub party : Party
  pub is_party : PartyAt world c party
  pub once : IsOnce part.party.attempts
  pub has : HasOne part.coming part.party.attempts

each-once : (me server : CallSign) (attempts : List Attempt) → AllByRecursion (IsAttempt me server) attempts
    → IsOnce attempts
each-once me server [] all = tt
each-once me server (a ∷ older) all = all.0.call

-- marking a delivery leaves what the client sent
marked-once : (place : ℕ) (t : Transmission) (attempts : List Attempt) → IsOnce attempts
    → IsOnce (with_newest (to_client_delivered place t) attempts)
marked-once place t [] once = tt
marked-once place t (a ∷ older) once = once

marked-one : (change : Attempt → Attempt) (attempts : List Attempt) (a : Attempt) → slice_get attempts 0 ≡ Some a
    → (coming : ClientEvent) → HasOne coming (with_newest change attempts)
marked-one change [] a is coming = absurd cc
marked-one change (b ∷ older) a is (asks job) = tt
marked-one change (b ∷ older) a is (hears frame) = tt
marked-one change (b ∷ older) a is ticks = tt

part-of : (world : World) (number c : ℕ) (P : Party → Type 0) → IsPartOf world number c P
    → (party : Party) × PartyAt world c party × P party
part-of world zero c P is = absurd is
part-of world (suc place) c P is = is.1

module _ (world : World) (sound : Sound world) (c : ℕ) (part : ClientPart) where
  once-in : (party : Party) → PartyAt world c party → IsOnce party.attempts
  once-in party is = each-once party.client.me party.client.server party.attempts (sound.parties c party is).attempts

  -- an asking, and a tick
  quiet-part : (party : Party) → PartyAt world c party → (those : ClientPart) → part ≡ those → those.party ≡ party
      → ((attempts : List Attempt) → HasOne those.coming attempts) → IsPartOne world c part
  quiet-part party is those part_is same has = record {
    party = party;
    is_party = is;
    once =
        subst (λ (p : Party). IsOnce p.attempts) (sym same ∙ ap (λ (p : ClientPart). p.party) (sym part_is))
        (once-in party is);
    has =
        subst (λ (coming : ClientEvent). HasOne coming part.party.attempts)
        (ap (λ (p : ClientPart). p.coming) (sym part_is)) (has part.party.attempts);
  }

  heard-part : (party : Party) → PartyAt world c party → (number : ℕ)
      → Placed number (λ at. DeliversToClient party at part) → IsPartOne world c part
  heard-part party is zero delivers = absurd delivers
  heard-part party is (suc place) delivers = record {
    party = party;
    is_party = is;
    once =
        subst (λ (p : ClientPart). IsOnce p.party.attempts) (sym delivers.part_is)
        (marked-once place delivers.t party.attempts (once-in party is));
    has =
        subst (λ (p : ClientPart). HasOne p.coming p.party.attempts) (sym delivers.part_is)
        (marked-one (to_client_delivered place delivers.t) party.attempts delivers.sent.attempt delivers.sent.current
        (hears delivers.t.frame));
  }

  part-one : (event : Event) → ClientTakes world event c part → IsPartOne world c part
  part-one (ask_upload number count) takes =
      let it = part-of world number c _ takes in
      quiet-part it.0 it.1 _ it.2 refl (λ attempts. tt)
  part-one (ask_resume number) takes =
      let it = part-of world number c (λ party. IsResuming world party part) takes in
      quiet-part it.0 it.1 _ it.2.part_is refl (λ attempts. tt)
  part-one (ask_list number tokens) takes =
      let it = part-of world number c _ takes in
      quiet-part it.0 it.1 _ it.2 refl (λ attempts. tt)
  part-one (ask_download number file) takes =
      let it = part-of world number c _ takes in
      quiet-part it.0 it.1 _ it.2 refl (λ attempts. tt)
  part-one (to_server number place) takes = absurd takes
  part-one (to_client number place) takes =
      let it = part-of world number c (λ party. Placed place (λ at. DeliversToClient party at part)) takes in
      heard-part it.0 it.1 place it.2
  part-one tick_server takes = absurd takes
  part-one (tick_client number) takes =
      let it = part-of world number c _ takes in
      quiet-part it.0 it.1 _ it.2 refl (λ attempts. tt)
  part-one (break_client number) takes = absurd takes
  part-one (cut_server call choice) takes = absurd takes
  part-one (cut_client number call choice) takes = absurd takes

-- ---- the next world

-- what a client takes part in is an event of its own
happens-in : (world later : World) (event : Event) (c : ℕ) (part : ClientPart) → ClientTakes world event c part
    → ClientIn world event later → Happens world event later
happens-in world later (ask_upload number count) c part takes it = it
happens-in world later (ask_resume number) c part takes it = it
happens-in world later (ask_list number tokens) c part takes it = it
happens-in world later (ask_download number file) c part takes it = it
happens-in world later (to_server number place) c part takes it = absurd takes
happens-in world later (to_client number place) c part takes it = it
happens-in world later tick_server c part takes it = absurd takes
happens-in world later (tick_client number) c part takes it = it
happens-in world later (break_client number) c part takes it = absurd takes
happens-in world later (cut_server call choice) c part takes it = absurd takes
happens-in world later (cut_client number call choice) c part takes it = absurd takes

module _ (laws : SoundLaw) (world : World) (event : Event) (c : ℕ) (part : ClientPart) (next : Party)
    (sound : Sound world) (allowed : IsAllowed world event) (takes : ClientTakes world event c part)
    (uncut : part.party.is_cut ≡ false) (goes : PartyGoes part next) where
  abbrev later : World
  later = with_asked world c part next

  client-goes : ClientGoes world c part later
  client-goes = record {
    noted = goes.noted;
    did = goes.did;
    old_is = goes.old_is;
    step = goes.step;
    new_is = ap (with_asked world c part) goes.next_is;
  }

  sound-later : Sound later
  sound-later =
      laws.kept world later event sound
      (record {
        allowed = allowed;
        happens =
            happens-in world later event c part takes
            (record {
              c = c;
              part = part;
              takes = takes;
              does = subst (λ (cut : Bool). ClientDoes cut world c part later) (sym uncut) client-goes;
            });
      })

  abbrev before : IsPartOne world c part
  before = part-one world sound c part event takes

  now-at : PartyAt later c next
  now-at =
      slice_get-set_same world.parties c next (slice_get_within world.parties c before.party before.is_party)

  now-is : IsParty later c (party_after part goes.did)
  now-is = subst (IsParty later c) goes.next_is (sound-later.parties c next now-at)

  lanes-are : lanes_of next.attempts ≡ sending_each goes.did.frames (lanes_of part.party.attempts)
  lanes-are =
      ap (λ (p : Party). lanes_of p.attempts) goes.next_is
      ∙ goes-on goes.did part.coming goes.did.old.attempt goes.did.now.attempt part.party.attempts before.has
      (goes-by goes.did.old goes.did.now goes.noted goes.did.frames part.coming goes.step) before.once
      (each-once goes.did.now.me goes.did.now.server (after_event part.coming goes.did part.party.attempts)
      now-is.attempts)
      now-is.link

pub client_lanes : SoundLaw → ClientLanesLaw
client_lanes laws world event c part next sound allowed takes uncut goes =
    lanes-are laws world event c part next sound allowed takes uncut goes
