-- What is told of the client of a number is that of the world's.
use Rattle.std.specs.Prelude.{◌≡◌, ◌↔◌, ◌%◌, ◌^◌, ◌≤◌, ◌&&◌, ◌||◌}
use Rattle.std.proofs.Common.{sym, ap, subst, arith, ◌∙◌}
use Rattle.ax25_link.specs.Kept.{is_pending, is_there}
use Rattle.ax25_link.specs.Timer.{is_down}
use Rattle.air_world.specs.Attempts.Party.{Party}
use Rattle.air_rehearsal.proofs.Names.{ℕ, zero, suc, List, length, slice_get, Bool, true, false, not, IsTrue, Option, None, Some, refl, option_and_then, option_map_or, none-some, slice_get_within, Ghosts, Transmission, Window, LinkState, Calling, Down, Ending, Up, AttemptState, Attempted, IsAttemptOf, attempt_closed, attempt_pending, client_closed, Attempt, newest, World, IsClosed, IsClosedBy, IsDown, attempts_of, party_of, sent_of, IsLane, lanes_by, lanes_of, numbered, AreReady, IsReadyParty, PlaysParty, PlaysStations, Party as StoredParty, Stations}
use Rattle.air_rehearsal.proofs.AllowedLemmas.{numbered-some}
use Rattle.air_rehearsal.proofs.CourseLemmas.{there}
use Rattle.air_rehearsal.proofs.PartiesLemmas.{party-of, stored-of}
use Rattle.air_rehearsal.proofs.SentLanes.{lanes-count}

-- ---- a link that is down

closed-by : (stray pending down : Bool) → (stray || pending) ≡ false → (not stray && (down && not pending)) ≡ down
closed-by true pending down quiet = cc
closed-by false true down quiet = cc
closed-by false false true quiet = refl
closed-by false false false quiet = refl

down-is : (state : LinkState) (is : Bool) → is ≡ is_down state → IsTrue is ↔ (state ≡ Down)
down-is Down is same = (λ yes_is. refl, λ down. same)
down-is Calling is same = (λ yes_is. cc, λ down. cc)
down-is Up is same = (λ yes_is. cc, λ down. cc)
down-is Ending is same = (λ yes_is. cc, λ down. cc)

-- where nothing is to be sent the attempt is closed where its link is down
attempt-closed :
    (w : Window) (stray : Bool) (attempt : Option AttemptState) (a : Option Attempted) → IsAttemptOf w attempt a
    → (stray || attempt_pending attempt) ≡ false → IsTrue (not stray && attempt_closed attempt) ↔ IsDown a
attempt-closed w true None None is quiet = cc
attempt-closed w false None None is quiet = (λ yes_is. tt, λ down. refl)
attempt-closed w stray None (Some a) is quiet = absurd is
attempt-closed w stray (Some attempt) None is quiet = absurd is
attempt-closed w stray (Some attempt) (Some a) is quiet =
    down-is a.end.state (not stray && (is_down attempt.link.state && not (is_pending attempt.link)))
    (closed-by stray (is_pending attempt.link) (is_down attempt.link.state) quiet
    ∙ ap (λ link. is_down link.state) is.link.kept)

closed-is :
    {D : Type 0} (g : Ghosts D) (stored : StoredParty) (party : Party) (disk : D) → IsReadyParty g stored disk
    → PlaysParty stored party → IsTrue (client_closed stored.client) ↔ IsDown party.client.attempt
closed-is g stored party disk ready plays =
    attempt-closed party.client.window (is_there stored.client.stray) stored.client.attempt party.client.attempt
    plays.client.attempt ready.quiet

-- ---- the client of the number

module _ (self : Stations) (world : World) (plays : PlaysStations self world) (number : ℕ) where
  -- the world's client of the number
  pub record Here (stored : StoredParty) : Type 0 where
    pub c : ℕ
    pub there : slice_get self.parties.items c ≡ Some stored
    pub party : Party
    pub is_party : party_of world number ≡ Some party
    pub is_played : PlaysParty stored party

  pub party-here : (stored : StoredParty) → Some stored ≡ numbered number self.parties.items → Here stored
  party-here stored is =
      let at = numbered-some self.parties.items number stored is in
      let found = party-of self world plays at.0 stored at.2 in
      record {
        c = at.0;
        there = at.2;
        party = found.0;
        is_party = ap (λ n. numbered n world.parties) at.1 ∙ found.1;
        is_played = found.2;
      }

  -- none where the stations have none
  pub none-here : None ≡ numbered number self.parties.items → party_of world number ≡ None
  none-here = by number
    where
      at : (c : ℕ) (o : Option Party) → slice_get world.parties c ≡ o → None ≡ slice_get self.parties.items c
          → slice_get world.parties c ≡ None
      at c None is none = is
      at c (Some party) is none =
          let found = stored-of self world plays c party is in absurd (none-some found.0 (none ∙ found.1))

      by : (n : ℕ) → None ≡ numbered n self.parties.items → party_of world n ≡ None
      by zero none = refl
      by (suc c) none = at c (slice_get world.parties c) refl none

  module _ (stored : StoredParty) (is : Some stored ≡ numbered number self.parties.items) where
    pub attempts-here : stored.attempt.number ≡ attempts_of world number
    attempts-here =
        let it = party-here stored is in
        it.is_played.lanes.number_is ∙ ap (λ (n : ℕ). n % 2 ^ 64) (lanes-count it.party.attempts)
        ∙ ap (λ (o : Option Party). option_map_or (λ (party : Party). length party.attempts % 2 ^ 64) o 0)
        (sym it.is_party)

    pub to-server-here : (count : ℕ) → ((list : List Transmission) → IsLane stored.attempt.from_client list
        → count ≡ length list) → count ≡ sent_of (λ a. a.by_client) world number
    to-server-here count counts =
        let it = party-here stored is in
        counts (lanes_of it.party.attempts).by_client it.is_played.lanes.by_client
        ∙ by (newest it.party) (length it.party.attempts)
        ∙ ap
        (λ (o : Option Party). option_map_or (λ (a : Attempt). length a.by_client) (option_and_then newest o) 0)
        (sym it.is_party)
      where
        by : (o : Option Attempt) (n : ℕ)
            → length (lanes_by o n).by_client ≡ option_map_or (λ (a : Attempt). length a.by_client) o 0
        by None n = refl
        by (Some a) n = refl

    pub to-client-here : (count : ℕ) → ((list : List Transmission) → IsLane stored.attempt.from_server list
        → count ≡ length list) → count ≡ sent_of (λ a. a.by_server) world number
    to-client-here count counts =
        let it = party-here stored is in
        counts (lanes_of it.party.attempts).by_server it.is_played.lanes.by_server
        ∙ by (newest it.party) (length it.party.attempts)
        ∙ ap
        (λ (o : Option Party). option_map_or (λ (a : Attempt). length a.by_server) (option_and_then newest o) 0)
        (sym it.is_party)
      where
        by : (o : Option Attempt) (n : ℕ)
            → length (lanes_by o n).by_server ≡ option_map_or (λ (a : Attempt). length a.by_server) o 0
        by None n = refl
        by (Some a) n = refl

    pub closed-here :
        {D : Type 0} (g : Ghosts D) (disks : List D) → AreReady g self.parties.items disks
        → length self.parties.items ≤ length disks
        → IsTrue (client_closed stored.client) ↔ IsClosed world number
    closed-here g disks ready enough =
        let it = party-here stored is in
        let within = slice_get_within self.parties.items it.c stored it.there in
        let disk = there disks it.c (omega (arith, within, enough)) in
        let closed = closed-is g stored it.party disk.0 (ready it.c stored disk.0 it.there disk.1) it.is_played in (
          λ yes_is. subst IsClosedBy (sym it.is_party) (closed.0 yes_is),
          λ is_closed. closed.1 (subst IsClosedBy it.is_party is_closed),
        )
