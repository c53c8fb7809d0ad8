-- The tasks of a client and the works of its attempts.
use Rattle.std.specs.Prelude.{◌≡◌, ℕ, List, length, slice_get, Option, None, Some, ⊤}
use Rattle.client_notes.specs.Notes.{Task, task_of}
use Rattle.ftl0_client_job.specs.declared.work.Work.{Work}
use Rattle.ftl0_client_job.specs.declared.work.Work.TheVariants as work
use Rattle.ftl0_client.specs.Attempt.Laws.{AttemptStands}
use Rattle.sha2.specs.Sha256.{sha256}
use Rattle.air_world.specs.Attempts.Attempt.{Attempt}
use Rattle.air_world.specs.Attempts.Party.{Asked, IsFileOf, Party}
use Rattle.air_world.specs.Attempts.Party.{upload_of}
use Rattle.air_schedule.specs.Schedule.{AreTokens, IsFileNumber}

-- A task: it is one of this client's uploads, of that one's name, and of its file's length and digest.
pub record IsTaskFor (files : List Asked) (c : ℕ) (party : Party) (task : ℕ) (entry : Task) : Type 0 where
  pub upload : ℕ
  pub is_upload : upload_of party task ≡ Some upload
  pub asked : Asked
  pub is_asked : slice_get files upload ≡ Some asked
  pub whose : asked.client ≡ c
  pub server_is : entry.server ≡ party.client.server
  pub caller_is : entry.caller ≡ party.client.me
  pub name_is : entry.name ≡ asked.name
  pub length_is : entry.length ≡ length asked.file
  pub digest_is : entry.digest ≡ sha256 asked.file

-- each task is so, and each upload of a task is one
pub record AreTasks (files : List Asked) (c : ℕ) (party : Party) : Type 0 where
  pub each :
      (task : ℕ) (entry : Task) → task_of party.client.lists task ≡ Some entry → IsTaskFor files c party task entry
  pub as_many : length party.uploads ≡ length party.client.lists.tasks

-- the work of an attempt is such as may be asked: an upload's file is its task's
abbrev pub IsWork : List Asked → Party → Work → Type 0
IsWork files party (work.Upload at) = IsFileOf files party at.task at.file
IsWork files party (work.Directory at) = AreTokens at.tokens
IsWork files party (work.Download at) = (at.server ≡ party.client.server) × IsFileNumber at.number

-- the notes go with the job of the client's link
abbrev pub StandsBy : Party → Option Attempt → Type 0
StandsBy party None = ⊤
StandsBy party (Some a) =
    party.client.attempt ≡ Some a.client.attempted
    → AttemptStands a.client.asked party.client.lists a.client.attempted
