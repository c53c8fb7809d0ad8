-- Notes of a client that are right: those that it has, with a fresh task, and those by which the facts hold.
use Rattle.std.proofs.Common.{ℕ, [], ◌∷◌, length}
use Rattle.air_world.proofs.Names.{sha256, HasNoFault, HasNoFront, fresh_task, after_all, Lists, got_of, Asked, Party, all-at, HasFacts, HasFetched, started_with, tasked-acked, Sound, PartyAt, World}
use Rattle.air_world.proofs.DuringNotes.{AreRight}
use Rattle.air_world.proofs.PartsLemmas.{has-headline}
use Rattle.air_world.proofs.WholeLemmas.{whole-got}

module _ (fault : HasNoFault) (front : HasNoFront) (world : World) (sound : Sound world) (c : ℕ) (party : Party)
    (is : PartyAt world c party) where
  -- its own
  pub right-own : AreRight world party party.client.lists
  right-own =
      let headline = has-headline world fault front sound in
      record {
        acknowledged = λ task number holds. headline.acknowledged c task number party is holds;
        fetched = λ place number a at reached. headline.fetched_before c place number party a is at reached;
      }

  -- with a fresh task
  pub right-tasked : (it : Asked)
      → AreRight world party
      (after_all party.client.lists
      (fresh_task party.client.lists party.client.server party.client.me it.name (length it.file) (sha256 it.file)
      ∷ []))
  right-tasked it =
      record {
        acknowledged = λ task number holds.
            right-own.acknowledged task number (tasked-acked party 0 it task number holds);
        fetched = right-own.fetched;
      }

  -- those by which the facts hold
  pub right-facts : (lists : Lists) → HasFacts world.server.store world.files (started_with party lists)
      → AreRight world party lists
  right-facts lists facts =
      record {
        acknowledged = facts.tasks.acknowledged;
        fetched = λ place number a at reached.
            whole-got world.server.store number (got_of lists party.client.server number) fault front sound.store
            (facts.files_got.got_front number)
            (all-at (HasFetched (started_with party lists)) party.attempts place a facts.files_got.fetched at
            number reached);
      }
