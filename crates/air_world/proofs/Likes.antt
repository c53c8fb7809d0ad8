-- Attempts that are such as others were, except for the ends of their links and what was sent.
use Rattle.std.proofs.Common.{◌≡◌, ℕ, zero, suc, List, [], ◌∷◌, Option, None, Some, refl, sym, ap, subst, ◌∙◌}
use Rattle.ftl0_server.specs.Entries as session
use Rattle.air_world.proofs.Names.{slice_get, AllByRecursion, option_map_or, option_or, same_Some, CallSign, State, SessionEntry, Client, Attempt, Party, newest_side, with_answered, with_newest, Grants, ClientSide, ServerSide, SessionReaches, IsSameParty, LookLike, LooksLike, LooksLikeSession, LooksServed, alike-itself, served-itself}
use Rattle.air_world.proofs.ClientsStay.{ClientsStay, stay-newest}

pub newest-like : (change : Attempt → Attempt) (attempts : List Attempt) → ((a : Attempt) → LooksLike a (change a))
    → LookLike attempts (with_newest change attempts)
newest-like change [] each = tt
newest-like change (a ∷ older) each = (each a, alike-itself older)

-- if no session answered, nothing is changed
answered-none : (change : Attempt → ServerSide → Attempt) (attempts : List Attempt) → newest_side attempts ≡ None
    → with_answered change attempts ≡ attempts
answered-none change [] is = refl
answered-none change (a ∷ older) is = by a.server is (λ is. answered-none change older is)
  where
    by : (o : Option ServerSide) → option_or o (newest_side older) ≡ None
        → (newest_side older ≡ None → with_answered change older ≡ older)
        → option_map_or (λ side. change a side ∷ older) o (a ∷ with_answered change older) ≡ a ∷ older
    by None is later = ap (λ (those : List Attempt). a ∷ those) (later is)
    by (Some side) is later = absurd cc

-- the newest one that a session answered is changed
module _ (change : Attempt → ServerSide → Attempt) (P Q : Attempt → Type 0) where
  answered-one : (attempts : List Attempt) (side : ServerSide) → newest_side attempts ≡ Some side
      → AllByRecursion P attempts → AllByRecursion Q (with_answered change attempts)
      → ((a : Attempt) → P a → a.server ≡ Some side → Q (change a side) → LooksLike a (change a side))
      → LookLike attempts (with_answered change attempts)
  answered-one [] side is olds all each = absurd cc
  answered-one (a ∷ older) side is olds all each =
      by a.server refl is all (λ is all. answered-one older side is olds.1 all each)
    where
      by : (o : Option ServerSide) → a.server ≡ o → option_or o (newest_side older) ≡ Some side
          → AllByRecursion Q (option_map_or (λ side. change a side ∷ older) o (a ∷ with_answered change older))
          → (newest_side older ≡ Some side → AllByRecursion Q (with_answered change older)
          → LookLike older (with_answered change older))
          → LookLike (a ∷ older) (option_map_or (λ side. change a side ∷ older) o (a ∷ with_answered change older))
      by None same is all later =
          (record { asked = refl; entries = refl; job = refl; served = served-itself a.server }, later is all.1)
      by (Some that) same is all later =
          let that_is = same_Some that side is in
          let changed = subst (λ (s : ServerSide). Q (change a s)) that_is all.0 in (
            subst (λ (s : ServerSide). LooksLike a (change a s)) (sym that_is)
                (each a olds.0 (same ∙ ap Some that_is) changed),
            alike-itself older,
          )

  pub answered-like : (attempts : List Attempt) → AllByRecursion P attempts
      → AllByRecursion Q (with_answered change attempts)
      → ((a : Attempt) (side : ServerSide) → newest_side attempts ≡ Some side → P a → a.server ≡ Some side
      → Q (change a side) → LooksLike a (change a side))
      → LookLike attempts (with_answered change attempts)
  answered-like attempts olds all each = by (newest_side attempts) refl
    where
      by : (o : Option ServerSide) → newest_side attempts ≡ o → LookLike attempts (with_answered change attempts)
      by None is =
          subst (λ (those : List Attempt). LookLike attempts those) (sym (answered-none change attempts is))
          (alike-itself attempts)
      by (Some side) is =
          answered-one attempts side is olds all (λ a own is_side changed. each a side is own is_side changed)

-- ---- what follows

-- what a session gave a number to, one such as it did
pub grants-like : (old new : ServerSide) (number file_length : ℕ) → LooksLikeSession old new
    → Grants new number file_length → Grants old number file_length
grants-like old new number file_length like grants =
    subst (λ (entries : List SessionEntry). Grants (record old { entries = entries }) number file_length) like.entries
    grants

-- the session at a place
pub like-at : (olds news : List Attempt) (at : ℕ) (b : Attempt) (side : ServerSide) → LookLike olds news
    → slice_get news at ≡ Some b → b.server ≡ Some side
    → (a : Attempt) × (before : ServerSide) × (slice_get olds at ≡ Some a) × (a.server ≡ Some before) × LooksLikeSession
    before side
like-at [] [] at b side like is is_side = absurd cc
like-at [] (n ∷ news) at b side like is is_side = absurd like
like-at (a ∷ olds) [] at b side like is is_side = absurd like
like-at (a ∷ olds) (n ∷ news) zero b side like is is_side = by a.server refl n.server refl like.0.served
  where
    n-is : n.server ≡ Some side
    n-is = ap (λ (it : Attempt). it.server) (same_Some n b is) ∙ is_side

    by : (o : Option ServerSide) → a.server ≡ o → (p : Option ServerSide) → n.server ≡ p → LooksServed o p
        → (it : Attempt) × (before : ServerSide) × (slice_get
        (a ∷ olds) 0 ≡ Some it) × (it.server ≡ Some before) × LooksLikeSession before side
    by None one None two served = absurd (let none : None ≡ Some side = sym two ∙ n-is in cc)
    by None one (Some that) two served = absurd served
    by (Some before) one None two served = absurd served
    by (Some before) one (Some that) two served = (
      a,
      before,
      refl,
      one,
      subst (λ (s : ServerSide). LooksLikeSession before s)
          (same_Some that side (sym two ∙ n-is)) served,
    )
like-at (a ∷ olds) (n ∷ news) (suc at) b side like is is_side = like-at olds news at b side like.1 is is_side

-- a client whose link was that of its current attempt, or none, and whose side of that is as it was
pub same-party : (old new : Party) → new.client ≡ old.client → new.uploads ≡ old.uploads
    → LookLike old.attempts new.attempts → ClientsStay old.attempts new.attempts → IsSameParty old new
same-party old new client uploads like stays = record {
  me = ap (λ (it : Client). it.me) client;
  server = ap (λ (it : Client). it.server) client;
  lists = ap (λ (it : Client). it.lists) client;
  uploads = uploads;
  attempts = like;
  link = λ a b is now link.
      let same = stay-newest (λ (side : ClientSide). side.attempted ≡ a.client.attempted) old.attempts new.attempts
      stays
      (λ it there. ap (λ (one : Attempt). one.client.attempted) (same_Some it a (sym there ∙ is))) b now in
      ap (λ (it : Client). it.attempt) (sym client) ∙ link ∙ ap Some same;
}

-- ---- states

-- a list of entries leads to one state
pub reaches-one : (caller : CallSign) (state one other : State) (entries : List SessionEntry)
    → SessionReaches caller state entries one → SessionReaches caller state entries other → one ≡ other
reaches-one caller state one other [] first second = first ∙ sym second
reaches-one caller state one other (session.took item row ∷ entries) first second =
    reaches-one caller row.state one other entries first.1 second.1
reaches-one caller state one other (session.lost item row ∷ entries) first second = first.2 ∙ sym second.2
reaches-one caller state one other (session.queued due ∷ entries) first second =
    reaches-one caller due.state one other entries first.1 second.1
