-- What a client's facts become if its newest session goes on, over the store after its commands.
use Rattle.std.proofs.Common.{◌≡◌, inl, inr, ℕ, List, [], ◌∷◌, length, refl, sym, ◌∙◌, subst, arith, false, Option}
use Rattle.std.proofs.Common.{None, Some}
use Rattle.air_world.proofs.files.Names.{IfSome, slice_get, AllByRecursion, same_Some, Store, Attempt, OneIs, AreOver, Asked, IsFileOf, Party, Grants, ServerSide, HasFacts, HasNumber, IsFetching, IsGranted, IsNumbered, coming_by, got, with_attempt}
use Rattle.air_world.proofs.files.ApartLemmas.{HasClientFacts, HasSideFacts, apart, together}
use Rattle.air_world.proofs.files.LikeLemmas.{like-client, like-side, number-like}
use Rattle.air_world.proofs.files.MovedLemmas.{GrantsBegun, MovesTo, fetching-as, side-moved}
use Rattle.air_world.proofs.files.StableLemmas.{keeps-fetching, keeps-first_any, keeps-task_kept}

-- The newest session of the client, and as it is once it went on. Older ones are over.
module _ (files : List Asked) (party : Party) (before now : Store) (moves : MovesTo files party before now)
    (a : Attempt) (older : List Attempt) (side gone : ServerSide) (attempts_are : party.attempts ≡ a ∷ older)
    (is_side : a.server ≡ Some side) (are_over : AreOver older) where
  abbrev gone_attempt : Attempt
  gone_attempt = record a { server = Some gone }

  abbrev done : Party
  done = with_attempt party gone_attempt older

  clients-on : (attempts : List Attempt) → AllByRecursion (HasClientFacts party) attempts
      → AllByRecursion (HasClientFacts done) attempts
  clients-on [] facts = tt
  clients-on (x ∷ xs) facts = (like-client party done x x facts.0, clients-on xs facts.1)

  sides-on : (attempts : List Attempt) → AreOver attempts
      → AllByRecursion (λ x. IfSome x.server (GrantsBegun now party x)) attempts
      → AllByRecursion (λ x. IfSome x.server (HasSideFacts before party x)) attempts
      → AllByRecursion (λ x. IfSome x.server (HasSideFacts now done x)) attempts
  sides-on [] all_over own facts = tt
  sides-on (x ∷ xs) all_over own facts = (by x.server all_over.0 own.0 facts.0, sides-on xs all_over.1 own.1 facts.1)
    where
      by : (o : Option ServerSide) → IfSome o (λ it. it.is_up ≡ false) → IfSome o (GrantsBegun now party x)
          → IfSome o (HasSideFacts before party x)
          → IfSome o (HasSideFacts now done x)
      by None down mine its = tt
      by (Some it) down mine its =
          like-side now party done x x it it (λ up. up)
          (side-moved files party before now moves x it (λ up. absurd (cc)) mine its)

  granted-on : (task number : ℕ) → ((file_length : ℕ) → Grants side number file_length → Grants gone number file_length)
      → OneIs (IsGranted task number) party.attempts → OneIs (IsGranted task number) (gone_attempt ∷ older)
  granted-on task number more one = by (subst (OneIs (IsGranted task number)) attempts_are one)
    where
      by : OneIs (IsGranted task number) (a ∷ older) → OneIs (IsGranted task number) (gone_attempt ∷ older)
      by (inl here) =
          let same : here.1 ≡ side = same_Some here.1 side (sym here.3 ∙ is_side) in
          inl (
            here.0,
            gone,
            here.2,
            refl,
            more (length here.0)
                (subst (λ (s : ServerSide). Grants s number (length here.0)) same here.4),
          )
      by (inr there) = inr there

  numbered-on : (task number : ℕ) (file : List ℕ)
      → ((file_length : ℕ) → Grants side number file_length → Grants gone number file_length)
      → HasNumber party task number → IsFileOf files party task file → IsNumbered before party task number file
      → IsNumbered now done task number file
  numbered-on task number file more has is was = record {
    below = omega (arith, was.below, moves.keeps.next);
    stands = moves.file task number file has is;
    granted = granted-on task number more was.granted;
  }

  -- all facts, by those of the session that went on
  pub facts-gone_on : HasFacts before files party → HasSideFacts now done gone_attempt gone
      → coming_by a a.server ≡ coming_by gone_attempt (Some gone)
      → ((number file_length : ℕ) → Grants side number file_length → Grants gone number file_length)
      → HasFacts now files done
  facts-gone_on facts its coming more =
      let each = apart before files party facts in
      let clients = subst (AllByRecursion (HasClientFacts party)) attempts_are each.attempts in
      let sides = subst (AllByRecursion (λ x. IfSome x.server (HasSideFacts before party x))) attempts_are each.sides in
      let own = subst (AllByRecursion (λ x. IfSome x.server (GrantsBegun now party x))) attempts_are moves.begun in
      let fetching : IsFetching before party a =
      subst (λ (xs : List Attempt). IfSome (slice_get xs 0) (IsFetching before party)) attempts_are each.fetching in
      together now files done
      (record {
        numbered = λ task number file has is.
            let mine : HasNumber party task number = number-like party done task number has in
            numbered-on task number file (more number) mine is (each.numbered task number file mine is);
        acknowledged = λ task number holds.
            keeps-task_kept files before now party task number moves.keeps.complete
            (each.acknowledged task number holds);
        attempts = (like-client party done a gone_attempt clients.0, clients-on older clients.1);
        sides = (its, sides-on older are_over own.1 sides.1);
        got_front =
            λ number. keeps-first_any before now number (got party number) moves.keeps.complete (each.got_front number);
        fetching =
            fetching-as now party a (gone_attempt ∷ older) (Some gone) coming
            (keeps-fetching before now party a moves.keeps.complete fetching);
      })
