-- What is so of the client of a number, in the world that the stations play.
use Rattle.std.proofs.Common.{◌≡◌, ℕ, zero, suc, List, [], Bool, true, false, Option, None, Some}
use Rattle.std.proofs.Common.{length, refl, sym, ap, subst, ◌∙◌}
use Rattle.std.specs.Prelude.{◌↔◌}
use Rattle.std.specs.List.{slice_get}
use Rattle.air_world.specs.Attempts.Party.{Party}
use Rattle.air_rehearsal.proofs.Names.{IsTrue, is_some, both_ways, none-some, same_Some, IsLawful, Transmission, Window, window_of, Lists, all-at, Attempt, Placed, newest, HasParty, MayCome, last_unfinished, Sound, PartyAt, World, MayDeliver, Lanes, lanes_by, lanes_of, numbered, IsLastGoing, IsSeat, PlaysStations, Party as StoredParty, Stations}
use Rattle.air_rehearsal.proofs.PartiesLemmas.{seat-of, stored-of}

-- ---- transmissions by their numbers

none-placed : (w : Window) (number : ℕ) → Placed number (MayDeliver w []) → ⊥
none-placed w zero placed = placed
none-placed w (suc place) placed = cc placed.1.sent

placed-some :
    (w : Window) (list : List Transmission) (number : ℕ) → Placed number (MayDeliver w list)
    → (t : Transmission) × Placed number (λ place. IsLawful w list place t)
placed-some w list zero placed = absurd placed
placed-some w list (suc place) placed = placed

some-placed :
    (w : Window) (list : List Transmission) (number : ℕ) (t : Transmission)
    → Placed number (λ place. IsLawful w list place t) → Placed number (MayDeliver w list)
some-placed w list zero t placed = placed
some-placed w list (suc place) t placed = (t, placed)

-- ---- what has a number

pub numbered-some :
    {X : Type 0} (items : List X) (number : ℕ) (x : X) → Some x ≡ numbered number items
    → (place : ℕ) × (number ≡ suc place) × (slice_get items place ≡ Some x)
numbered-some items zero x is = absurd (none-some x (sym is))
numbered-some items (suc place) x is = (place, refl, sym is)

-- ---- what may be asked of a client

-- where one of two is so, the other decides
pub both-if :
    (P Q : Type 0) (first second : Bool) → IsTrue first ↔ P → IsTrue second ↔ Q → first ≡ true → IsTrue second ↔ (P × Q)
both-if P Q first second one other is = (λ yes_is. (one.0 is, other.0 yes_is), λ both. other.1 both.1)

-- and where it isn't so, both aren't
pub both-unless :
    (P Q : Type 0) (first : Bool) → IsTrue first ↔ P → first ≡ false → IsTrue first ↔ (P × Q)
both-unless P Q first one isnt =
    (λ yes_is. absurd (both_ways first isnt yes_is), λ both. one.1 both.0)

-- there is a last unfinished task where one is told
pub going-some :
    (lists : Lists) (going : Option (ℕ × ℕ)) → IsLastGoing lists going → (is : Bool) → is ≡ is_some going
    → IsTrue is ↔ ((task : ℕ) × (last_unfinished lists ≡ Some task))
going-some lists None last is is_some_it = (λ yes_is. cc, λ task. absurd (none-some task.0 (sym last ∙ task.1)))
going-some lists (Some going) last is is_some_it = (λ yes_is. (going.0, last.0), λ task. is_some_it)

-- ---- the client of a number

module _ (self : Stations) (world : World) (sound : Sound world) (plays : PlaysStations self world) where
  -- where the stations have no client of the number the world has none
  pub no-party :
      (P : Party → Type 0) (number : ℕ) → None ≡ numbered number self.parties.items → HasParty world number P → ⊥
  no-party P zero none has = has
  no-party P (suc c) none has =
      let found = stored-of self world plays c has.0 has.1 in none-some found.0 (none ∙ found.1)

  -- so a test that fails there is right
  pub none-there :
      (P : Party → Type 0) (number : ℕ) → None ≡ numbered number self.parties.items
      → IsTrue false ↔ HasParty world number P
  none-there P number none = (λ is. cc, λ has. absurd (no-party P number none has))

  -- the client of the number is there, at its seat
  pub record Has (number : ℕ) (stored : StoredParty) : Type 0 where
    pub c : ℕ
    pub number_is : number ≡ suc c
    pub party : Party
    pub there : PartyAt world c party
    pub seat : IsSeat stored (record { world = world; c = c; party = party })

  pub has-party :
      (number : ℕ) (stored : StoredParty) → Some stored ≡ numbered number self.parties.items → Has number stored
  has-party number stored is =
      let at = numbered-some self.parties.items number stored is in
      let found = seat-of self world plays sound at.0 stored at.2 in
      record { c = at.0; number_is = at.1; party = found.0; there = found.1; seat = found.2 }

  -- a test that is right of it is right of the client of the number
  pub of-party :
      (P : Party → Type 0) (number : ℕ) (stored : StoredParty) (is : Bool) (it : Has number stored)
      → IsTrue is ↔ P it.party → IsTrue is ↔ HasParty world number P
  of-party P number stored is it right = (
    λ yes_is. subst (λ n. HasParty world n P) (sym it.number_is) (it.party, it.there, right.0 yes_is),
    λ has.
        let found = subst (λ n. HasParty world n P) it.number_is has in
        right.1 (subst P (let same : found.0 ≡ it.party = cc (found.1, it.there) in same) found.2),
  )

  -- a transmission may be delivered where it may of the lane of the client's current attempt
  module _ (sent : Attempt → List Transmission) (lane : Lanes → List Transmission)
      (is_sent : (a : Attempt) (count : ℕ) → lane (lanes_by (Some a) count) ≡ sent a)
      (is_empty : (count : ℕ) → lane (lanes_by None count) ≡ []) (number : ℕ) where
    pub may-come :
        (stored : StoredParty) (client : ℕ) (is : Bool) (it : Has client stored)
        → ((list : List Transmission) → list ≡ lane (lanes_of it.party.attempts)
        → IsTrue is ↔ Placed number (MayDeliver (window_of self.k) list))
        → IsTrue is ↔ MayCome sent number it.party
    may-come stored client is it right = by (newest it.party) refl
      where
        window-is : (a : Attempt) → newest it.party ≡ Some a → window_of self.k ≡ a.window
        window-is a current =
            sym
            (all-at (λ (one : Attempt). one.window ≡ it.party.client.window) it.party.attempts 0 a
            (sound.parties it.c it.party it.there).windows current
            ∙ all-at (λ (one : Party). one.client.window ≡ world.server.window) world.parties it.c it.party
            sound.stations.windows it.there
            ∙ plays.window_is)

        by : (current : Option Attempt) → newest it.party ≡ current → IsTrue is ↔ MayCome sent number it.party
        by None current =
            let many = length it.party.attempts in
            let here = right [] (sym (is_empty many) ∙ ap (λ o. lane (lanes_by o many)) (sym current)) in (
              λ yes_is. absurd (none-placed (window_of self.k) number (here.0 yes_is)),
              λ may. absurd (none-some may.0 (sym current ∙ may.2)),
            )
        by (Some a) current =
            let many = length it.party.attempts in
            let here = right (sent a) (sym (is_sent a many) ∙ ap (λ o. lane (lanes_by o many)) (sym current)) in (
              λ yes_is.
                  let placed =
                  placed-some a.window (sent a) number
                  (subst (λ w. Placed number (MayDeliver w (sent a))) (window-is a current) (here.0 yes_is)) in
                  (a, placed.0, current, placed.1),
              λ may.
                  let same : may.0 ≡ a = same_Some may.0 a (sym may.2 ∙ current) in
                  here.1
                  (subst (λ w. Placed number (MayDeliver w (sent a))) (sym (window-is a current))
                  (some-placed a.window (sent a) number may.1
                  (subst (λ (b : Attempt). Placed number (λ place. IsLawful b.window (sent b) place may.1)) same may.3))),
            )
