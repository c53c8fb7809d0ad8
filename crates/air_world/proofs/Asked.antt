-- What is known of a client of which something is asked.
use Rattle.std.proofs.Common.{◌≡◌, ℕ, ◌≤◌, List, ◌++◌, [], refl, sym, subst, append-nil}
use Rattle.ftl0_client_job.specs.declared.work.Work.TheVariants as work
use Rattle.air_world.proofs.Names.{AllByRecursion, Work, IsNotBegun, NotesGoWith, new_job, new_upload, Attempt, Asked, Party, HasFacts, HasNumber, AreTasks, IsWork, IsGoodFile, PartyAt, World, IsParty, Sound}

-- What is known of a client that begins an attempt, if these files were asked, and of its base, which has its task
-- already, if it is a file's for the first time: the stations and the attempts are the same, and the base has its
-- facts, its tasks and the works of its attempts still.
pub record IsBase (old : World) (c : ℕ) (party base : Party) (asked : List Asked) : Type 0 where
  pub me : base.client.me ≡ party.client.me
  pub server : base.client.server ≡ party.client.server
  pub window : base.client.window ≡ party.client.window
  pub attempts : base.attempts ≡ party.attempts
  pub facts : HasFacts old.server.store (old.files ++ asked) base
  pub tasks : AreTasks (old.files ++ asked) c base
  pub works : AllByRecursion (λ (a : Attempt). IsWork (old.files ++ asked) base a.client.asked) party.attempts
  pub good : AllByRecursion (λ (it : Asked). IsGoodFile it.file) asked

-- a client of a sound world is its own base, if no file is asked
pub same-base : (old : World) (c : ℕ) (party : Party) → Sound old → PartyAt old c party → IsBase old c party party []
same-base old c party sound is =
    let it : IsParty old c party = sound.parties c party is in
    let same = sym (append-nil old.files) in
    record {
      me = refl;
      server = refl;
      window = refl;
      attempts = refl;
      facts = subst (λ files. HasFacts old.server.store files party) same it.facts;
      tasks = subst (λ files. AreTasks files c party) same it.tasks;
      works =
          subst (λ files. AllByRecursion (λ (a : Attempt). IsWork files party a.client.asked) party.attempts) same
          it.works;
      good = tt;
    }

-- This work may be asked of the client, if these files were asked: the notes go with it, and so do the uploads.
pub record MayBeAsked (old : World) (c : ℕ) (party base : Party) (asked : List Asked) (wanted : Work) : Type 0 where
  pub base_is : IsBase old c party base asked
  pub link : base.client.attempt ≡ party.client.attempt
  pub stray : base.client.stray ≡ party.client.stray
  pub begun : IsNotBegun wanted
  pub go_with : NotesGoWith base.client.lists (new_job wanted)
  pub goes_on : (task known : ℕ) (file : List ℕ) → wanted ≡ work.Upload (new_upload task known file) → 1 ≤ known
      → HasNumber base task known
  pub work : IsWork (old.files ++ asked) base wanted
