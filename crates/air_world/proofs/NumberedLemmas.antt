-- Whose a number is: it was given once, to the task of the attempt whose session gave it.
use Rattle.std.proofs.Common.{◌≡◌, ℕ, List, length, ap, sym, ◌∙◌, subst, Some}
use Rattle.client_notes.specs.declared.progress.Progress.TheVariants as progress
use Rattle.client_notes.specs.declared.answers.Noted.{Noted}
use Rattle.client_notes.specs.declared.answers.Noted.TheVariants as noted
use Rattle.ftl0_client_job.specs.declared.work.Work.TheVariants as work
use Rattle.air_world.proofs.Names.{slice_get, same_Some, noted_by, Progress, Work, Attempt, IsFileOf, Party, AsksUpload, Grants, ServerSide, one-placed, HasNumber, IsGranted, IsNumbered, IsTaskFor, acked-task, later-number, task-file, AreAcknowledged, AreNumbered, AreGrantedOnce, IsParty, Sound, PartyAt, World}

-- a session of this attempt of the client, which is one to send this task's file for the first time, gave the number
pub record IsTaskGrant (party : Party) (task number : ℕ) : Type 0 where
  pub at : ℕ
  pub attempt : Attempt
  pub is_attempt : slice_get party.attempts at ≡ Some attempt
  pub file : List ℕ
  pub asks : AsksUpload attempt task 0 file
  pub side : ServerSide
  pub is_side : attempt.server ≡ Some side
  pub file_length : ℕ
  pub grants : Grants side number file_length

-- the file of a task that has a number
pub task-of : (world : World) (c : ℕ) (party : Party) (task number : ℕ) → IsParty world c party
    → HasNumber party task number
    → (file : List ℕ) × IsFileOf world.files party task file × IsNumbered world.server.store party task number file
task-of world c party task number is has =
    let its : IsTaskFor world.files c party task has.entry = is.tasks.each task has.entry has.is_entry in
    let file = task-file world.files c party task has.entry its in
    (its.asked.file, file, is.facts.tasks.numbered task number its.asked.file has file)

pub task-grant : (world : World) (c : ℕ) (party : Party) (task number : ℕ) → IsParty world c party
    → HasNumber party task number
    → IsTaskGrant party task number
task-grant world c party task number is has =
    let one = one-placed (IsGranted task number) party.attempts
    (task-of world c party task number is has).2.granted in
    record {
      at = one.0;
      attempt = one.1;
      is_attempt = one.2;
      file = one.3.0;
      asks = one.3.2;
      side = one.3.1;
      is_side = one.3.3;
      file_length = length one.3.0;
      grants = one.3.4;
    }

-- the task of a work
abbrev task_in : Work → ℕ
task_in (work.Upload at) = at.task
task_in (work.Directory at) = 0
task_in (work.Download at) = 0

pub one-task : (a : Attempt) (task other known that : ℕ) (file those : List ℕ) → AsksUpload a task known file
    → AsksUpload a other that those → task ≡ other
one-task a task other known that file those one two = ap task_in (sym one ∙ two)

-- two tasks to whose attempts one number was given are one
pub same-grant : (world : World) (c other task that number : ℕ) (party others : Party) → AreGrantedOnce world
    → PartyAt world c party
    → PartyAt world other others → IsTaskGrant party task number → IsTaskGrant others that number
    → (c ≡ other) × (task ≡ that)
same-grant world c other task that number party others once there those one two =
    let same = once c one.at other two.at number
    (record {
      party = party;
      is_party = there;
      side = one.side;
      is_side = record { attempt = one.attempt; is_attempt = one.is_attempt; is_side = one.is_side };
      file_length = one.file_length;
      grants = one.grants;
    })
    (record {
      party = others;
      is_party = those;
      side = two.side;
      is_side = record { attempt = two.attempt; is_attempt = two.is_attempt; is_side = two.is_side };
      file_length = two.file_length;
      grants = two.grants;
    }) in
    let parties : party ≡ others = same_Some party others
    (sym there ∙ ap (λ n. slice_get world.parties n) same.0 ∙ those) in
    let attempts : one.attempt ≡ two.attempt =
    same_Some one.attempt two.attempt
    (sym one.is_attempt ∙ ap (λ (it : Party). slice_get it.attempts one.at) parties ∙ ap
    (λ n. slice_get others.attempts n) same.1 ∙ two.is_attempt) in (
      same.0,
      one-task two.attempt task that 0 0 one.file two.file
          (subst (λ it. AsksUpload it task 0 one.file) attempts one.asks) two.asks,
    )

pub are-numbered : (world : World) → Sound world → AreNumbered world
are-numbered world sound = record {
  distinct = λ c task other that number party others there those has its.
      same-grant world c other task that number party others sound.granted there those
      (task-grant world c party task number (sound.parties c party there) has)
      (task-grant world other others that number (sound.parties other others those) its);
  below = λ c party there task number has. (task-of world c party task number
      (sound.parties c party there) has).2.below;
  stands = λ c party there task number has.
      let its = task-of world c party task number (sound.parties c party there) has in (its.0, its.1, its.2.stands);
}

-- ---- what is acknowledged

abbrev number_in : Noted → ℕ
number_in (noted.Going task number) = number
number_in (noted.Acked task number) = number
number_in (noted.Refused task code) = 0

acked-number : (task number other : ℕ) (p : Progress) → noted_by task other p ≡ noted.Acked task number → other ≡ number
acked-number task number other progress.Going is = absurd (let x : ⊥ = cc in x)
acked-number task number other progress.Acked is = ap number_in is
acked-number task number other (progress.Refused code) is = absurd (let x : ⊥ = cc in x)

pub are-acknowledged : (world : World) → Sound world → AreAcknowledged world
are-acknowledged world sound = record {
  numbered = λ c party there task number holds.
      let acked = acked-task party.client.lists task number holds in
      let kept = (sound.parties c party there).facts.tasks.acknowledged task number holds in
      record {
        entry = acked.0;
        is_entry = acked.1;
        number_is = acked-number task number acked.0.number acked.0.progress acked.2;
        some =
            later-number number 1 world.server.store.next world.server.store.entries kept.2.entry
            sound.store.is_store.entries kept.2.is_entry;
      };
  kept = λ c party there. (sound.parties c party there).facts.tasks.acknowledged;
}
