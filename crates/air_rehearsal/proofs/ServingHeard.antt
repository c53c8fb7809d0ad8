-- What a frame that the server hears, and what a tick, make of the clients that stations play.
use Rattle.std.proofs.Common.{◌≡◌, ◌≢◌, ◌⊎◌, ℕ, suc, ◌<◌, List, [], ◌∷◌, length, Some, false, refl, sym, ap, subst}
use Rattle.std.proofs.Common.{◌%◌, ◌^◌, ◌∙◌, inl, inr, arith}
use Rattle.air_world.specs.Attempts.Party.{Party}
use Rattle.air_rehearsal.specs.declared.attempt.Attempt.{Attempt as StoredAttempt}
use Rattle.air_rehearsal.proofs.Names.{filter, is_some, slice_get, slice_set, length-set, same_Some, slice_get_within, CallSign, FrameValue, IsAt, Transmission, delivering, is_same_call, Server, Empties, happening, Client, ClientState, IsClient, IsFor, NodeEvent, ticks, Attempt, IsAttempt, IsFromTo, newest, to_server_delivered, with_newest, ServerDid, all-at, DeliversToServer, with_current, IsAllowed, tick_server, to_server, Sound, ServerGoes, PartyAt, World, next_moment, HearingLanesLaw, TickingLanesLaw, HasLanes, IsLane, Lanes, lanes_by, lanes_of, replying_each, timing_each, AreTimed, PlayParties, PlaysParty, Lane, Party as StoredParty}
use Rattle.air_rehearsal.proofs.PairLemmas.{set_at}
use Rattle.air_rehearsal.proofs.ServingParties.{at-place, plays-both, plays-each, plays-length}
use Rattle.air_rehearsal.proofs.ServingWorld.{SameButAttempts, after-at, after-length, did, goes, next}

-- a client is made into another one in both
pub plays-changed :
    (all : List StoredParty) (parties : List Party) (c : ℕ) (self : StoredParty) (party : Party)
    → PlayParties all parties → PlaysParty self party → PlayParties (slice_set all c self) (slice_set parties c party)
plays-changed all parties c self party plays is =
    plays-each (slice_set all c self) (slice_set parties c party)
    (length-set all c self ∙ plays-length all parties plays ∙ sym (length-set parties c party))
    (λ i s p at there. by i s p (set_at all c i self s at) (set_at parties c i party p there))
  where
    by : (i : ℕ) (s : StoredParty) (p : Party)
        → ((i ≡ c) × (s ≡ self)) ⊎ ((i ≢ c) × (slice_get all i ≡ Some s))
        → ((i ≡ c) × (p ≡ party)) ⊎ ((i ≢ c) × (slice_get parties i ≡ Some p)) → PlaysParty s p
    by i s p (inl own) (inl same) =
        subst (λ (q : Party). PlaysParty s q) (sym same.1)
        (subst (λ (r : StoredParty). PlaysParty r party) (sym own.1) is)
    by i s p (inl own) (inr other) = absurd (other.0 own.0)
    by i s p (inr other) (inl same) = absurd (other.0 same.0)
    by i s p (inr one) (inr other) = plays-both all parties i s p plays one.1 other.1

-- ---- the frame that is heard

newest-made : (change : Attempt → Attempt) (attempts : List Attempt) (a : Attempt) → slice_get attempts 0 ≡ Some a
    → slice_get (with_newest change attempts) 0 ≡ Some (change a)
newest-made change [] a is = absurd cc
newest-made change (b ∷ older) a is = ap (λ (x : Attempt). Some (change x)) (same_Some b a is)

length-made : (change : Attempt → Attempt) (attempts : List Attempt)
    → length (with_newest change attempts) ≡ length attempts
length-made change [] = refl
length-made change (b ∷ older) = refl

module _ (world : World) (sound : Sound world) (c place : ℕ) (party : Party) (is_party : PartyAt world c party)
    (a : Attempt) (current : newest party ≡ Some a) (t : Transmission) (is_at : IsAt a.by_client place t) where
  -- a client's frame is for the server
  pub for-server : IsFor world.server.me t.frame
  for-server =
      let it = sound.parties c party is_party in
      let attempt = all-at (IsAttempt party.client.me party.client.server) party.attempts 0 a it.attempts current in
      let from = all-at (λ (s : Transmission). IsFromTo a.window party.client.me party.client.server s.frame)
      a.by_client place t attempt.stations.from_client is_at in
      let server = all-at (λ (p : Party). p.client.server ≡ world.server.me) world.parties c party
      sound.stations.servers is_party in
      record { dest = from.dest_is ∙ server; via = from.via }

  -- the client with the delivery marked
  pub plays-delivered :
      (self : StoredParty) (lane : Lane) → PlaysParty self party → IsLane lane (delivering a.by_client place t)
      → PlaysParty (record self { attempt = record self.attempt { from_client = lane } })
      (with_current (to_server_delivered place t) party)
  plays-delivered self lane plays is_lane =
      let lanes = subst (λ o. HasLanes self.attempt (lanes_by o (length party.attempts))) current plays.lanes in
      let made : newest (with_current (to_server_delivered place t) party) ≡ Some (to_server_delivered place t a) =
      newest-made (to_server_delivered place t) party.attempts a current in
      let many = length-made (to_server_delivered place t) party.attempts in
      record {
        me_is = plays.me_is;
        client = plays.client;
        lanes =
            subst
            (λ o.
            HasLanes (record self.attempt { from_client = lane })
            (lanes_by o (length (with_newest (to_server_delivered place t) party.attempts)))) (sym made)
            (record {
              by_client = is_lane;
              by_server = lanes.by_server;
              answered_is = lanes.answered_is;
              number_is = lanes.number_is ∙ ap (λ (n : ℕ). n % 2 ^ 64) (sym many);
            });
        uploads_are = plays.uploads_are;
        cut_is = plays.cut_is;
      }

-- ---- what the server sent

module _ (laws : HearingLanesLaw) (world : World) (sound : Sound world) (c place : ℕ)
    (allowed : IsAllowed world (to_server (suc c) (suc place))) (not_cut : world.is_cut ≡ false) (coming : NodeEvent)
    (delivered : World) (takes : DeliversToServer world c place coming delivered) (frames : List FrameValue)
    (last : Server) (sent : Empties (happening world.server coming []).after frames last) where
  abbrev then : World
  then = next world (to_server (suc c) (suc place)) sound coming delivered takes frames last sent

  abbrev went : ServerGoes world coming delivered then
  went = goes world (to_server (suc c) (suc place)) sound coming delivered takes frames last sent

  pub plays-heard :
      (all now : List StoredParty) (self : StoredParty) (attempt : StoredAttempt) → PlayParties all delivered.parties
      → slice_get all c ≡ Some self
      → ((lanes : Lanes) → HasLanes self.attempt lanes → HasLanes attempt (replying_each frames lanes))
      → now ≡ slice_set all c (record self { attempt = attempt }) → PlayParties now then.parties
  plays-heard all now self attempt plays self_at lanes now_is =
      subst (λ (l : List StoredParty). PlayParties l then.parties) (sym now_is)
      (plays-each (slice_set all c (record self { attempt = attempt })) then.parties
      (length-set all c (record self { attempt = attempt }) ∙ plays-length all delivered.parties plays
      ∙ sym (after-length went.did coming delivered.parties))
      (λ i s p at there.
      let was = after-at went.did coming delivered.parties i p there in
      by i s p there was.0 was.1 was.2 (set_at all c i (record self { attempt = attempt }) s at)))
    where
      by : (i : ℕ) (s : StoredParty) (p : Party) → slice_get then.parties i ≡ Some p
          → (was : Party) → slice_get delivered.parties i ≡ Some was → SameButAttempts was p
          → ((i ≡ c) × (s ≡ record self { attempt = attempt })) ⊎ ((i ≢ c) × (slice_get all i ≡ Some s))
          → PlaysParty s p
      by i s p there was was_at same (inl own) =
          let mine = subst (λ (j : ℕ). slice_get delivered.parties j ≡ Some was) own.0 was_at in
          let now_at = subst (λ (j : ℕ). slice_get then.parties j ≡ Some p) own.0 there in
          let plays_it = plays-both all delivered.parties c self was plays self_at mine in
          let lanes_are : lanes_of p.attempts ≡ replying_each frames (lanes_of was.attempts) =
          laws.own world c place coming delivered then was p sound allowed not_cut takes went mine now_at in
          subst (λ (r : StoredParty). PlaysParty r p) (sym own.1)
          (record {
            me_is = plays_it.me_is ∙ ap (λ (x : Client). x.me) (sym same.client);
            client = subst (λ (x : Client). IsClient self.client x) (sym same.client) plays_it.client;
            lanes =
                subst (λ (l : Lanes). HasLanes attempt l) (sym lanes_are)
                (lanes (lanes_of was.attempts) plays_it.lanes);
            uploads_are = plays_it.uploads_are ∙ sym same.uploads;
            cut_is = plays_it.cut_is ∙ sym same.is_cut;
          })
      by i s p there was was_at same (inr other) =
          let is : p ≡ was =
          laws.others world c place i coming delivered then was p sound allowed not_cut takes went other.0 was_at there
          in
          subst (λ (q : Party). PlaysParty s q) (sym is)
          (plays-both all delivered.parties i s was plays other.1 was_at)

-- ---- what it sent by its timer

module _ (laws : TickingLanesLaw) (world : World) (sound : Sound world) (not_cut : world.is_cut ≡ false)
    (frames : List FrameValue) (last : Server)
    (sent : Empties (happening world.server (ticks (next_moment world)) []).after frames last) where
  abbrev ticked : World
  ticked = next world tick_server sound (ticks (next_moment world)) world (refl, refl) frames last sent

  abbrev own-did : ServerDid
  own-did = did world tick_server sound (ticks (next_moment world)) world (refl, refl) frames last sent

  pub plays-ticked :
      (all now : List StoredParty) → PlayParties all world.parties → AreTimed frames all now
      → PlayParties now ticked.parties
  plays-ticked all now plays timed =
      plays-each now ticked.parties
      (timed.as_many ∙ plays-length all world.parties plays
      ∙ sym (after-length own-did (ticks (next_moment world)) world.parties))
      (λ i s p at there.
      let was = after-at own-did (ticks (next_moment world)) world.parties i p there in
      let within : i < length all = omega (arith, slice_get_within now i s at, timed.as_many) in
      let self = at-place all i within in
      by i self.0 s was.0 p self.1 at was.1 there was.2)
    where
      by : (i : ℕ) (self s : StoredParty) (was p : Party) → slice_get all i ≡ Some self → slice_get now i ≡ Some s
          → slice_get world.parties i ≡ Some was → slice_get ticked.parties i ≡ Some p → SameButAttempts was p
          → PlaysParty s p
      by i self s was p self_at at was_at there same =
          let plays_it = plays-both all world.parties i self was plays self_at was_at in
          let is = timed.each i self s self_at at in
          let lanes_are = laws world ticked i was p sound not_cut
          (goes world tick_server sound (ticks (next_moment world)) world (refl, refl) frames last sent) was_at there in
          let own = is.lanes (lanes_of was.attempts) plays_it.lanes in
          let mine = subst
          (λ (me : CallSign).
          HasLanes s.attempt
          (timing_each (filter (λ frame. is_same_call frame.dest me) frames) (lanes_of was.attempts))) plays_it.me_is own
          in
          record {
            me_is =
                ap (λ (r : StoredParty). r.me) is.same ∙ plays_it.me_is ∙ ap (λ (x : Client). x.me) (sym same.client);
            client =
                subst (λ (x : Client). IsClient s.client x) (sym same.client)
                (subst (λ (x : ClientState). IsClient x was.client) (sym (ap (λ (r : StoredParty). r.client) is.same))
                plays_it.client);
            lanes = subst (λ (l : Lanes). HasLanes s.attempt l) (sym lanes_are) mine;
            uploads_are =
                ap (λ (r : StoredParty). r.uploads.items) is.same ∙ plays_it.uploads_are ∙ sym same.uploads;
            cut_is = ap (λ (r : StoredParty). is_some r.cut) is.same ∙ plays_it.cut_is ∙ sym same.is_cut;
          }
