-- What is true of a client whose job went on by an entry is true of it as it was before, with the newer notes.
use Rattle.std.proofs.Common.{◌≡◌, ℕ, ◌+◌, List, [], ◌∷◌, ◌++◌, length, drop, Option, None, Some, refl, sym, ◌∙◌, ap}
use Rattle.std.proofs.Common.{subst, suc, zero}
use Rattle.ftl0_server.specs.Entries as session
use Rattle.ftl0_client_job.specs.declared.ending.Outcome.TheVariants as outcome
use Rattle.ftl0_client.specs.Entries as job
use Rattle.air_world.proofs.files.Names.{PacketValue, data_end, data_part, download_cmd, ul_go_resp, Why, Store, Lists, Ending, JobState, Attempted, outcome_by, outcome_of, GoesBy, JobEntry, lost, passed, queued, took, Attempt, Has, Asked, Party, IsTaken, octets_come, due-none, one-left, HasFacts, HasNumber, job_gone, started_with, GoesOnWith}
use Rattle.air_world.proofs.files.JobChange.{change}
use Rattle.air_world.proofs.files.JobStep.{of_attempts}
use Rattle.air_world.proofs.files.JobTook.{whole}
use Rattle.air_world.proofs.files.JobUploadCame.{said-one}

-- ---- fewer packets

goes-fewer : (file : List ℕ) (packets more : List PacketValue) (place : ℕ) → GoesOnWith file place (packets ++ more)
    → GoesOnWith file place packets
goes-fewer file [] more place goes = tt
goes-fewer file (data_part octets ∷ packets) more place goes =
    (goes.0, goes-fewer file packets more (place + length octets) goes.1)
goes-fewer file (data_end ∷ packets) more place goes = (goes.0, none packets goes.1)
  where
    none : (ps : List PacketValue) → ps ++ more ≡ [] → ps ≡ []
    none [] is = refl
    none (p ∷ ps) is = absurd (cc is)
goes-fewer file (packet ∷ packets) more place goes = absurd goes

fewer-behind : (file : List ℕ) (n place : ℕ) (packets more : List PacketValue)
    → GoesOnWith file place (drop n (packets ++ more)) → GoesOnWith file place (drop n packets)
fewer-behind file zero place packets more goes = goes-fewer file packets more place goes
fewer-behind file (suc n) place [] more goes = tt
fewer-behind file (suc n) place (packet ∷ packets) more goes = fewer-behind file n place packets more goes

-- ---- a file that was fetched stays so

pub fetched-none : (down : Option Why) (number : ℕ) → outcome_by None down ≡ Some (outcome.Fetched number) → ⊥
fetched-none None number is = cc
fetched-none (Some why) number is = let no : outcome.LinkDown why ≡ outcome.Fetched number = cc in cc no

unended : (o : Option Ending) (down : Option Why) (number : ℕ) → o ≡ None
    → outcome_by o down ≡ Some (outcome.Fetched number) → ⊥
unended o down number none is =
    fetched-none down number (ap (λ (e : Option Ending). outcome_by e down) (sym none) ∙ is)

-- what an entry leads to has the outcome that there was
pub fetched-stays : (entry : JobEntry) (lists lists_now : Lists) (before now : JobState) (down : Option Why)
    (number : ℕ)
    → GoesBy lists before (entry ∷ []) lists_now now → outcome_by before.ending down ≡ Some (outcome.Fetched number)
    → outcome_by now.ending down ≡ Some (outcome.Fetched number)
fetched-stays (took item row) lists lists_now before now down number goes is =
    absurd (unended before.ending down number goes.0 is)
fetched-stays (lost item row) lists lists_now before now down number goes is =
    absurd (unended before.ending down number goes.0 is)
fetched-stays (passed item) lists lists_now before now down number goes is =
    ap (λ (j : JobState). outcome_by j.ending down) goes.1.1 ∙ is
fetched-stays (queued due) lists lists_now before now down number goes is =
    absurd (unended before.ending down number (due-none before.ending before.work due goes.0) is)

-- ---- the client as it was

pub earlier : (store : Store) (files : List Asked) (base : Party) (a : Attempt) (older : List Attempt)
    (entry : JobEntry) (now : Attempted) (lists : Lists)
    → ((number : ℕ) → outcome_of a.client.attempted ≡ Some (outcome.Fetched number)
    → outcome_of now ≡ Some (outcome.Fetched number))
    → HasFacts store files (of_attempts base a older)
    → HasFacts store files (started_with (of_attempts base (job_gone (entry ∷ []) now a) older) lists)
    → HasFacts store files (started_with (of_attempts base a older) lists)
earlier store files base a older entry now lists stays before facts =
    change store files base lists lists None None None None
    (job_gone (entry ∷ []) now a) a.client.attempted a.client.entries older facts
    (record {
      numbers = λ task number has. to task number has;
      numbered = λ task number file has is. facts.tasks.numbered task number file (from task number has) is;
      acknowledged = facts.tasks.acknowledged;
      noted =
          λ task number file asks took. to task number
          (facts.tasks.noted.0 task number file asks
          (one-left (IsTaken (whole (ul_go_resp number 0))) a.client.entries (entry ∷ []) took));
      receives = λ side number rest is up state r.
          let n : ℕ = length (session.items_in side.entries) in
          let place : ℕ = r.offset + octets_come side in
          fewer-behind r.file n place (job.said_in a.client.entries) (job.packets_said entry)
          (subst (λ (l : List PacketValue). GoesOnWith r.file place (drop n l))
          (said-one a.client.entries entry) r.goes_on);
      says = before.sessions.says.0;
      got_front = facts.files_got.got_front;
      fetching = λ is. absurd (cc is);
      fetched = (
        (λ number is. facts.files_got.fetched.0 number (stays number is)),
        facts.files_got.fetched.1,
      );
      asked_within = (
        (λ number offset has.
            facts.files_got.asked_within.0 number offset
            (subst (λ (l : List PacketValue). Has l (download_cmd number offset 0))
            (sym (said-one a.client.entries entry))
            (one-left (λ (p : PacketValue). p ≡ download_cmd number offset 0) (job.said_in a.client.entries)
            (job.packets_said entry) has))),
        facts.files_got.asked_within.1,
      );
    })
  where
    to : (task number : ℕ)
        → HasNumber (started_with (of_attempts base (job_gone (entry ∷ []) now a) older) lists) task number
        → HasNumber (started_with (of_attempts base a older) lists) task number
    to task number n = record { entry = n.entry; is_entry = n.is_entry; number_is = n.number_is; some = n.some }

    from : (task number : ℕ) → HasNumber (started_with (of_attempts base a older) lists) task number
        → HasNumber (started_with (of_attempts base (job_gone (entry ∷ []) now a) older) lists) task number
    from task number n = record { entry = n.entry; is_entry = n.is_entry; number_is = n.number_is; some = n.some }

-- whether a file was fetched doesn't depend on the link
pub fetched-any : (o : Option Ending) (down other : Option Why) (number : ℕ)
    → outcome_by o down ≡ Some (outcome.Fetched number) → outcome_by o other ≡ Some (outcome.Fetched number)
fetched-any None down other number is = absurd (fetched-none down number is)
fetched-any (Some ending) down other number is = is
