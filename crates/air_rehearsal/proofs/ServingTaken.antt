-- The frame that comes to the server is the one that the world delivers.
use Rattle.std.proofs.Common.{◌≡◌, ℕ, zero, suc, ◌<◌, List, [], ◌∷◌, length, Some, Result, refl, sym, ap, subst, ◌∙◌, true}
use Rattle.air_world.specs.Attempts.Party.{Party}
use Rattle.air_rehearsal.proofs.Names.{is_some, slice_get, slice_set, Option, ⊤, slice_get_within, FrameValue, IsAt, Transmission, delivering, window_of, Ghosts, DiskFault, IsKnown, Hears, HearsEvent, server_hearing, IsFor, hears, Attempt, newest, to_server_delivered, with_current, IsAllowed, to_server, Sound, PartyAt, World, next_moment, with_party, HasLanes, IsLane, lanes_by, IsTaken, Serving, PlayParties, PlaysWorld, asked_from, Cut, Lane, Party as StoredParty}
use Rattle.air_rehearsal.proofs.ServingHeard.{for-server, plays-changed, plays-delivered}
use Rattle.air_rehearsal.proofs.ServingParties.{plays-both, plays-length}

at-itself : {X : Type 0} (xs : List X) (i : ℕ) (old x : X) → slice_get xs i ≡ Some old
    → slice_get (slice_set xs i x) i ≡ Some x
at-itself [] i old x at = absurd cc
at-itself (y ∷ ys) zero old x at = refl
at-itself (y ∷ ys) (suc i) old x at = at-itself ys i old x at

-- The transmission that is delivered, of the client that is played there.
pub record Comes (world : World) (c place : ℕ) (self : StoredParty) : Type 0 where
  pub party : Party
  pub is_party : PartyAt world c party
  pub a : Attempt
  pub current : newest party ≡ Some a
  pub t : Transmission
  pub is_at : IsAt a.by_client place t
  pub lane : IsLane self.attempt.from_client a.by_client

module _ (world : World) (c place : ℕ) (allowed : IsAllowed world (to_server (suc c) (suc place)))
    (all : List StoredParty) (plays : PlayParties all world.parties) where
  -- the client is there
  pub client-there : c < length all
  client-there =
      let within = slice_get_within world.parties c allowed.possible.0 allowed.possible.1 in
      subst (λ (n : ℕ). c < n) (sym (plays-length all world.parties plays)) within

  pub comes : (self : StoredParty) → slice_get all c ≡ Some self → Comes world c place self
  comes self self_at =
      let may = allowed.possible.2 in
      let both = plays-both all world.parties c self allowed.possible.0 plays self_at allowed.possible.1 in
      record {
        party = allowed.possible.0;
        is_party = allowed.possible.1;
        a = may.0;
        current = may.2;
        t = may.1;
        is_at = may.3.sent;
        lane =
            (subst
            (λ (o : Option Attempt). HasLanes self.attempt (lanes_by o (length allowed.possible.0.attempts))) may.2
            both.lanes).by_client;
      }

-- once it is delivered, the octets of the frame at its place are its own
pub text-of :
    (world : World) (c place : ℕ) (self : StoredParty) (it : Comes world c place self) (lane : Lane) (P : FrameValue → Type 0)
    → ((list : List Transmission) (t : Transmission) → IsLane self.attempt.from_client list → IsAt list place t
    → IsLane lane (delivering list place t))
    → ((list : List Transmission) (t : Transmission) → IsLane lane list → IsAt list place t → P t.frame) → P it.t.frame
text-of world c place self it lane P delivers texts =
    texts (delivering it.a.by_client place it.t) (record it.t { delivered = true })
    (delivers it.a.by_client it.t it.lane it.is_at)
    (at-itself it.a.by_client place it.t (record it.t { delivered = true }) it.is_at)

module _ {B : Type 0} (g : Ghosts B) (world : World) (sound : Sound world) (c place : ℕ) (old new : Serving B)
    (answer : Result ⊤ DiskFault) (plays : PlaysWorld g old.stations old.server old.disk world)
    (moment : old.stations.moment ≡ next_moment world) (self : StoredParty)
    (self_at : slice_get old.stations.parties.items c ≡ Some self) (it : Comes world c place self) (lane : Lane)
    (is_lane : IsLane lane (delivering it.a.by_client place it.t)) where
  -- the frame is for the station
  pub is-for : IsFor old.stations.me it.t.frame
  is-for =
      let own = for-server world sound c place it.party it.is_party it.a it.current it.t it.is_at in
      record { dest = own.dest ∙ sym plays.stations.me_is; via = own.via }

  pub taken-so :
      IsKnown g old.disk → (frame : FrameValue) → frame ≡ it.t.frame
      → HearsEvent g (hears frame old.stations.moment) old.server new.server old.disk new.disk answer
      → new.stations.parties.items
      ≡ slice_set old.stations.parties.items c (record self { attempt = record self.attempt { from_client = lane } })
      → new.stations.me ≡ old.stations.me → new.stations.k ≡ old.stations.k
      → new.stations.uploads ≡ old.stations.uploads → new.stations.cut ≡ old.stations.cut
      → IsTaken g world (to_server (suc c) (suc place)) old new answer
  taken-so known frame frame_is event parties me k uploads cut =
      let change = to_server_delivered place it.t in
      let both = plays-both old.stations.parties.items world.parties c self it.party plays.stations.parties self_at
      it.is_party in
      let heard = event.hears known world.server plays.server in
      record {
        coming = hears it.t.frame (next_moment world);
        delivered = with_party world c (with_current change it.party);
        takes = record {
          party = it.party;
          is_party = it.is_party;
          t = it.t;
          sent = record { attempt = it.a; current = it.current; is_at = it.is_at };
          coming_is = refl;
          delivered_is = refl;
        };
        hears =
            subst
            (λ (m : ℕ).
            Hears g (server_hearing world.server it.t.frame m) old.server new.server old.disk new.disk answer) moment
            (subst
            (λ (f : FrameValue).
            Hears g (server_hearing world.server f old.stations.moment) old.server new.server old.disk new.disk answer)
            frame_is heard);
        plays = record {
          me_is = me ∙ plays.stations.me_is;
          window_is = plays.stations.window_is ∙ ap (λ (n : ℕ). window_of n) (sym k);
          cut_is = ap (λ (o : Option Cut). is_some o) cut ∙ plays.stations.cut_is;
          files_are = plays.stations.files_are ∙ ap (λ v. asked_from 0 v.items) (sym uploads);
          parties =
              subst (λ (l : List StoredParty). PlayParties l (slice_set world.parties c (with_current change it.party)))
              (sym parties)
              (plays-changed old.stations.parties.items world.parties c
              (record self { attempt = record self.attempt { from_client = lane } }) (with_current change it.party)
              plays.stations.parties
              (plays-delivered world sound c place it.party it.is_party it.a it.current it.t it.is_at self lane both
              is_lane));
        };
      }
