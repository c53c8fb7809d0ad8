-- A number is that of one task alone, and was given for it alone.
use Rattle.std.proofs.Common.{◌≡◌, ℕ, List, length, ap, sym, ◌∙◌, subst, arith, Some}
use Rattle.air_world.proofs.files.Names.{IfSome, slice_get, AllByRecursion, same_Some, Store, Attempt, Asked, IsFileOf, Party, AsksUpload, Grants, ServerSide, all-by, one-placed, some-from, HasFacts, HasNumber, IsGranted, GrantedAt, GrantsOnce}
use Rattle.air_world.proofs.files.ApartLemmas.{GrantFact}
use Rattle.air_world.proofs.files.LiftLemmas.{each-side, side-at}
use Rattle.air_world.proofs.files.MovedLemmas.{OwnGrants, same-task}

-- ---- places of a list

-- ---- the task of a number

module _ (store : Store) (files : List Asked) (party : Party) (facts : HasFacts store files party)
    (once : GrantsOnce party) where
  granted-place : (task number : ℕ) (file : List ℕ) → HasNumber party task number → IsFileOf files party task file
      → (place : ℕ) × (a : Attempt) × (slice_get party.attempts place ≡ Some a) × IsGranted task number a
  granted-place task number file has is =
      one-placed (IsGranted task number) party.attempts (facts.tasks.numbered task number file has is).granted

  granted-at : (number place : ℕ) (a : Attempt) (side : ServerSide) (file_length : ℕ)
      → slice_get party.attempts place ≡ Some a
      → a.server ≡ Some side → Grants side number file_length → GrantedAt party place number
  granted-at number place a side file_length there is grants =
      record { attempt = a; is_attempt = there; side = side; is_side = is; file_length = file_length; grants = grants }

  -- two attempts at which one number was given are one
  same-attempt : (number place that : ℕ) (a b : Attempt) → slice_get party.attempts place ≡ Some a
      → slice_get party.attempts that ≡ Some b
      → GrantedAt party place number → GrantedAt party that number → a ≡ b
  same-attempt number place that a b one two granted again =
      let same : place ≡ that = once place that number granted again in
      same_Some a b (sym one ∙ (ap (slice_get party.attempts) same ∙ two))

  -- no two tasks have one number
  pub one-task : (task other number : ℕ) (file that : List ℕ) → HasNumber party task number
      → IsFileOf files party task file
      → HasNumber party other number → IsFileOf files party other that → task ≡ other
  one-task task other number file that has is has_that is_that =
      let one = granted-place task number file has is in
      let two = granted-place other number that has_that is_that in
      let at_one = granted-at number one.0 one.1 one.3.1 (length one.3.0) one.2 one.3.3 one.3.4 in
      let at_two = granted-at number two.0 two.1 two.3.1 (length two.3.0) two.2 two.3.3 two.3.4 in
      let same = same-attempt number one.0 two.0 one.1 two.1 one.2 two.2 at_one at_two in
      same-task two.1 task other one.3.0 two.3.0
      (subst (λ (a : Attempt). AsksUpload a task 0 one.3.0) same one.3.2) two.3.2

  -- and so no two files
  pub one-file : (task other number : ℕ) (file that : List ℕ) → HasNumber party task number
      → IsFileOf files party task file
      → HasNumber party other number → IsFileOf files party other that → file ≡ that
  one-file task other number file that has is has_that is_that =
      let same : task ≡ other = one-task task other number file that has is has_that is_that in
      let both : Some file ≡ Some that = sym (subst (λ (t : ℕ). IsFileOf files party t file) same is) ∙ is_that in
      same_Some file that both

  -- the number of a task was given for it alone
  pub own-number : (task number : ℕ) (file : List ℕ) → HasNumber party task number → IsFileOf files party task file
      → AllByRecursion (λ a. IfSome a.server (OwnGrants party number a)) party.attempts
  own-number task number file has is =
      all-by (λ a. IfSome a.server (OwnGrants party number a)) party.attempts
      (λ place a there. some-from a.server
      (λ side is_side file_length other that grants asks.
      let one = granted-place task number file has is in
      let at_one = granted-at number one.0 one.1 one.3.1 (length one.3.0) one.2 one.3.3 one.3.4 in
      let at_two = granted-at number place a side file_length there is_side grants in
      let same = same-attempt number one.0 place one.1 a one.2 there at_one at_two in
      let same_one = same-task a task other one.3.0 that
      (subst (λ (b : Attempt). AsksUpload b task 0 one.3.0) same one.3.2) asks in
      subst (λ (t : ℕ). HasNumber party t number) same_one has))

  -- ---- the next number is none's yet

  pub next-none : (task : ℕ) (file : List ℕ) → HasNumber party task store.next → IsFileOf files party task file → ⊥
  next-none task file has is =
      let below = (facts.tasks.numbered task store.next file has is).below in omega (arith, below)

  pub own-next : AllByRecursion (λ a. IfSome a.server (OwnGrants party store.next a)) party.attempts
  own-next =
      each-side party
      (λ a side has is file_length task file grants asks.
      let kept = side-at (GrantFact store party) party a side facts.sessions.granted has is store.next file_length
      grants in
      absurd (let x : ⊥ = omega (arith, kept.below) in x))
