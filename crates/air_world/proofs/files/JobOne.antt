-- What is to be shown of one entry of a job, if a client is at work.
use Rattle.std.proofs.Common.{◌≡◌, ℕ, List, [], ◌∷◌, sym, subst}
use Rattle.air_world.proofs.files.Names.{Store, Lists, Work, Attempted, GoesBy, JobEntry, Attempt, Asked, Party, ServerSide, HasFacts, IsUploadOf, IsWorking, JobKeeps, Stands, TookFront}
use Rattle.air_world.proofs.files.JobOfUpload.{upload-kept}
use Rattle.air_world.proofs.files.JobStep.{of_attempts}
use Rattle.air_world.proofs.files.JobWorking.{OneKept, Working}

-- one entry of a job at a work of this kind keeps the facts
abbrev pub OneLaw : (Work → Type 0) → Type 0
OneLaw IsKind =
    (store : Store) (files : List Asked) (c : ℕ) (base : Party) (a : Attempt) (older : List Attempt)
    → Working store files c base a older → IsKind a.client.asked
    → (entry : JobEntry) (lists : Lists) (now : Attempted)
    → GoesBy base.client.lists a.client.attempted.job (entry ∷ []) lists now.job → (side : ServerSide)
    → TookFront a (entry ∷ []) side → OneKept store files base a older entry lists now

-- a client whose attempts are these
pub working : (store : Store) (files : List Asked) (c : ℕ) (party : Party) (works : IsWorking store files c party)
    → Working store files c party works.attempt works.older
working store files c party works = record {
  stands = subst (λ (l : List Attempt). Stands files c (record party { attempts = l })) works.attempts_are works.stands;
  link = works.link;
  begun = works.begun;
  reached = works.reached;
  job = (works.job works.link).job;
  sound = works.sound;
  facts =
      subst (λ (l : List Attempt). HasFacts store files (record party { attempts = l })) works.attempts_are works.facts;
}

-- what is kept with these attempts is kept
pub keeps-same : (store : Store) (files : List Asked) (party done : Party) (a : Attempt) (older : List Attempt)
    (entries : List JobEntry) → party.attempts ≡ a ∷ older
    → JobKeeps store files (of_attempts party a older) done entries → JobKeeps store files party done entries
keeps-same store files party done a older entries are keeps =
    subst (λ (l : List Attempt). JobKeeps store files (record party { attempts = l }) done entries) (sym are) keeps

-- ---- an upload

pub upload-one : OneLaw IsUploadOf
upload-one store files c base a older w kind entry lists now goes side front =
    upload-kept store files c base a older w kind.0 kind.1 lists now side entry goes front
