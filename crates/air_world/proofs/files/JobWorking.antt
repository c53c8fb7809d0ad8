-- What is true when a job goes on by one entry, and what is to be shown then.
use Rattle.std.proofs.Common.{◌≡◌, ℕ, List, [], ◌∷◌, ◌++◌, map, Option, None, Some}
use Rattle.ftl0_server.specs.Entries as session
use Rattle.client_notes.specs.Several as notes
use Rattle.ftl0_client_job.specs.declared.ending.Outcome.TheVariants as outcome
use Rattle.ftl0_client.specs.Entries as job
use Rattle.air_world.proofs.files.Names.{Item, PacketValue, Why, Store, after_all, Lists, Ending, IsNotBegun, JobStands, new_job, Attempted, outcome_by, JobEntry, Attempt, Has, OneIs, Asked, Party, IsTaken, JobReaches, ServerSide, said_by_client, said_by_server, one-left, HasFacts, Stands, TookFront, job_gone, with_job, IsSoundStore}
use Rattle.air_world.proofs.files.JobNotes.{NotesKept}
use Rattle.air_world.proofs.files.JobStep.{JobKept, of_attempts}
use Rattle.air_world.proofs.files.JobTook.{front-has, has-ok, last-item, map-ok, took-item, whole}
use Rattle.air_world.proofs.files.JobUploadCame.{NeverFetched}

-- a client whose current attempt is this one, over this store, before its job goes on
pub record Working (store : Store) (files : List Asked) (c : ℕ) (base : Party) (a : Attempt)
    (older : List Attempt) : Type 0 where
  pub stands : Stands files c (of_attempts base a older)
  pub link : base.client.attempt ≡ Some a.client.attempted
  pub begun : IsNotBegun a.client.asked
  pub reached : JobReaches (new_job a.client.asked) a.client.entries a.client.attempted.job
  pub job : JobStands a.client.asked base.client.lists a.client.attempted.job
  pub sound : IsSoundStore store
  pub facts : HasFacts store files (of_attempts base a older)

-- What an entry keeps: the notes are those after its commands; each prefix of these keeps the notes; and the attempt
-- that it leads to is such as the facts want it.
pub record OneKept (store : Store) (files : List Asked) (base : Party) (a : Attempt) (older : List Attempt)
    (entry : JobEntry) (lists : Lists) (now : Attempted)
    : Type 0 where
  pub lists_are : lists ≡ after_all base.client.lists (job.commands_in (entry ∷ []))
  pub fronts : (count : ℕ)
      → NotesKept store files (of_attempts base a older)
      (notes.after_first count base.client.lists (job.commands_in (entry ∷ [])))
  pub kept :
      JobKept store (of_attempts base a older)
      (with_job (of_attempts base a older) lists now (job_gone (entry ∷ []) now a) older) a
      (job_gone (entry ∷ []) now a)

-- ---- what came, and what was taken

module _ (a : Attempt) (entry : JobEntry) (side : ServerSide) (front : TookFront a (entry ∷ []) side) where
  -- an item that the entry took is a packet that the session said
  pub heard-last : (item : Item) → Has (job.items_of entry) item
      → (packet : PacketValue) × (whole packet ≡ item) × Has (said_by_server side) packet
  heard-last item has =
      map-ok (said_by_server side) item
      (front-has (job.items_in (a.client.entries ++ entry ∷ [])) (map whole (said_by_server side)) item front.client
      (last-item a.client.entries entry item has))

  -- a packet that was taken is one that the session said
  pub heard-all : (packet : PacketValue) → OneIs (IsTaken (whole packet)) (a.client.entries ++ entry ∷ [])
      → Has (said_by_server side) packet
  heard-all packet took =
      has-ok (said_by_server side) packet
      (front-has (job.items_in (a.client.entries ++ entry ∷ [])) (map whole (said_by_server side))
      (whole packet) front.client
      (took-item (a.client.entries ++ entry ∷ []) (whole packet) took))

  pub heard-before : (packet : PacketValue) → OneIs (IsTaken (whole packet)) a.client.entries
      → Has (said_by_server side) packet
  heard-before packet took = heard-all packet (one-left (IsTaken (whole packet)) a.client.entries (entry ∷ []) took)

  -- a packet that the session took is one that the client said
  pub told-before : (packet : PacketValue) → Has (session.items_in side.entries) (whole packet)
      → Has (said_by_client a.client) packet
  told-before packet has =
      has-ok (said_by_client a.client) packet
      (front-has (session.items_in side.entries) (map whole (said_by_client a.client))
      (whole packet) front.server has)

-- ---- outcomes

-- what never fetches never ends with a fetched file
pub never-fetched : (o : Option Ending) (down : Option Why) (number : ℕ) → NeverFetched o
    → outcome_by o down ≡ Some (outcome.Fetched number) → ⊥
never-fetched None None number never is = cc
never-fetched None (Some why) number never is = cc
never-fetched (Some ending) down number never is = never number cc
