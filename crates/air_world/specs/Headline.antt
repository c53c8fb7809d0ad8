-- What is promised of uploads and downloads, whatever the air and the power do.
use Rattle.std.specs.Prelude.{◌≡◌, ℕ, slice_get, Some}
use Rattle.file_store_model.specs.Follows.{KeepsEntries}
use Rattle.file_store.specs.Store.{Store}
use Rattle.ftl0_session.specs.Downloads.Table.{file_of}
use Rattle.client_notes.specs.Notes.{got_of}
use Rattle.ftl0_client.specs.Attempt.Attempted.{outcome_of}
use Rattle.ftl0_client.specs.Outcome.TheVariants as outcome
use Rattle.ftl0_client.specs.Outcomes.{outcome_by}
use Rattle.air_world.specs.Attempts.Attempt.{Attempt}
use Rattle.air_world.specs.Offered.{Offered}
use Rattle.air_world.specs.Files.Facts.{IsOfferKept}
use Rattle.air_world.specs.Files.Kept.{HoldsAck, HoldsTo, IsTaskKept, WhereStands}
use Rattle.air_world.specs.Attempts.Party.{Party}
use Rattle.air_world.specs.World.{PartyAt, World}

-- the file of this number is complete, and the octets that the client has got of it are all of them
abbrev pub HasWhole : Store → Party → ℕ → Type 0
HasWhole store party number = file_of store number ≡ Some (got_of party.client.lists party.client.server number)

-- In this store, that of the world or a later one: each file whose client holds an acknowledgement is kept; no offset
-- that was offered exceeds what is held, if there is an entry of the number; and each finished download, the last one
-- of a client and each one before, has the file's octets.
pub record HeadlineIn (world : World) (store : Store) : Type 0 where
  pub acknowledged :
      (c task number : ℕ) (party : Party) → PartyAt world c party → HoldsAck party task number
      → IsTaskKept world.files store party task number
  pub offered : (number offset : ℕ) → Offered world number offset → WhereStands store number (HoldsTo offset)
  pub fetched :
      (c number : ℕ) (party : Party) → PartyAt world c party
      → outcome_by party.client.attempt ≡ Some (outcome.Fetched number) → HasWhole store party number
  pub fetched_before :
      (c place number : ℕ) (party : Party) (a : Attempt) → PartyAt world c party
      → slice_get party.attempts place ≡ Some a
      → outcome_of a.client.attempted ≡ Some (outcome.Fetched number) → HasWhole store party number

-- What is promised is true still in a store that keeps the entries of one in which it is true, if the numbers of all
-- offers are below the next one.
abbrev pub HeadlineStays : Type 0
HeadlineStays =
    (world : World) (before now : Store) → KeepsEntries before now
    → ((number offset : ℕ) → Offered world number offset → IsOfferKept before number offset)
    → HeadlineIn world before → HeadlineIn world now
