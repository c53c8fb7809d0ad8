-- The facts of a client once its job went on by some entries, and when it starts again from its notes.
use Rattle.std.proofs.Common.{◌≡◌, ℕ, ◌+◌, List, ◌∷◌, ◌++◌, length, true, None, Some, refl, sym, ◌∙◌, ap, subst}
use Rattle.std.proofs.Common.{le_trans, take_all, le_refl}
use Rattle.client_notes.specs.Several as notes
use Rattle.ftl0_client.specs.Entries as job
use Rattle.air_world.proofs.files.Names.{Store, receiving, NotesCommand, after_all, Lists, Attempted, JobEntry, Attempt, Asked, Party, octets_come, said_behind_server, ServerSide, each-weaker, Says, AskedWithin, HasFacts, HasFetched, HasNumber, IsFetching, NotesGrant, Receives, JobKeeps, job_gone, started_with, with_job, GoesOnWith}
use Rattle.air_world.proofs.files.JobChange.{change}
use Rattle.air_world.proofs.files.JobNotes.{NotesKept, NumberIn}

-- the client with these attempts
abbrev pub of_attempts : Party → Attempt → List Attempt → Party
of_attempts base a older = record base { attempts = a ∷ older }

-- What is to be shown of the current attempt, once its job went on.
pub record JobKept (store : Store) (old new : Party) (a b : Attempt) : Type 0 where
  pub noted : NotesGrant new b
  pub receives :
      (side : ServerSide) (number : ℕ) (rest : List ℕ) → a.server ≡ Some side → side.is_up ≡ true
      → side.connected.state ≡ receiving number rest
      → (r : Receives store old a side number rest)
      → GoesOnWith r.file (r.offset + octets_come side) (said_behind_server side b.client)
  pub says : Says a.client.asked b.client
  pub fetching : IsFetching store new b
  pub fetched : HasFetched new b
  pub asked_within : AskedWithin new b

module _ (store : Store) (files : List Asked) (base : Party) (a : Attempt) (older : List Attempt) where
  abbrev party : Party
  party = of_attempts base a older

  module _ (facts : HasFacts store files party) (lists : Lists) (kept : NotesKept store files party lists) where
    from-has : (task number : ℕ) (p : Party) → p.client.lists ≡ lists → HasNumber p task number
        → NumberIn lists task number
    from-has task number p same has =
        subst (λ (l : Lists). NumberIn l task number) same
        (record { entry = has.entry; is_entry = has.is_entry; number_is = has.number_is; some = has.some })

    kept-number : (task number : ℕ) → HasNumber party task number → NumberIn lists task number
    kept-number task number has =
        kept.numbers task number (record {
          entry = has.entry;
          is_entry = has.is_entry;
          number_is = has.number_is;
          some = has.some;
        })

    -- the client starts again from the notes
    pub left : HasFacts store files (started_with party lists)
    left =
        change store files base base.client.lists lists base.client.attempt None base.client.stray None a
        a.client.attempted a.client.entries older facts
        (record {
          numbers = λ task number has. to (kept-number task number has);
          numbered =
              λ task number file has is. kept.numbered task number file
              (from-has task number (started_with party lists) refl has) is;
          acknowledged = kept.acknowledged;
          noted =
              λ task number file asks took. to
              (kept-number task number (facts.tasks.noted.0 task number file asks took));
          receives = λ side number rest is up state r. r.goes_on;
          says = facts.sessions.says.0;
          got_front = kept.front;
          fetching = λ is. absurd (cc is);
          fetched =
              each-weaker (a ∷ older) (λ x h number is. kept.fetched number (h number is)) facts.files_got.fetched;
          asked_within =
              each-weaker (a ∷ older) (λ x h number offset has. le_trans (h number offset has) (kept.longer number))
              facts.files_got.asked_within;
        })
      where
        to : {task number : ℕ} → NumberIn lists task number → HasNumber (started_with party lists) task number
        to n = record { entry = n.entry; is_entry = n.is_entry; number_is = n.number_is; some = n.some }

    -- its job went on
    pub worked : (now : Attempted) (entries : List JobEntry)
        → JobKept store party (with_job party lists now (job_gone entries now a) older) a (job_gone entries now a)
        → HasFacts store files (with_job party lists now (job_gone entries now a) older)
    worked now entries k =
        change store files base base.client.lists lists base.client.attempt
        (Some now) base.client.stray base.client.stray a now (a.client.entries ++ entries) older facts
        (record {
          numbers = λ task number has. to (kept-number task number has);
          numbered = λ task number file has is. kept.numbered task number file (from-has task number new refl has) is;
          acknowledged = kept.acknowledged;
          noted = k.noted;
          receives = k.receives;
          says = k.says;
          got_front = kept.front;
          fetching = k.fetching;
          fetched = (
            k.fetched,
            each-weaker older (λ x h number is. kept.fetched number (h number is))
                facts.files_got.fetched.1,
          );
          asked_within = (
            k.asked_within,
            each-weaker older
                (λ x h number offset has. le_trans (h number offset has) (kept.longer number))
                facts.files_got.asked_within.1,
          );
        })
      where
        new : Party
        new = with_job party lists now (job_gone entries now a) older

        to : {task number : ℕ} → NumberIn lists task number
            → HasNumber (with_job party lists now (job_gone entries now a) older) task number
        to n = record { entry = n.entry; is_entry = n.is_entry; number_is = n.number_is; some = n.some }

  -- Entries keep the facts if each prefix of their commands keeps the notes, and what they lead to is so.
  pub keeps-by : HasFacts store files party → (entries : List JobEntry) (lists : Lists) (now : Attempted)
      → ((count : ℕ) → NotesKept store files party
      (notes.after_first count party.client.lists (job.commands_in entries)))
      → lists ≡ after_all party.client.lists (job.commands_in entries)
      → JobKept store party (with_job party lists now (job_gone entries now a) older) a (job_gone entries now a)
      → JobKeeps store files party (with_job party lists now (job_gone entries now a) older) entries
  keeps-by facts entries lists now fronts is kept = record {
    facts =
        worked facts lists (subst (NotesKept store files party) (all ∙ sym is) (fronts (length commands))) now entries
        kept;
    during = λ count. left facts (notes.after_first count party.client.lists commands) (fronts count);
  }
    where
      commands : List NotesCommand
      commands = job.commands_in entries

      all : notes.after_first (length commands) party.client.lists commands ≡ after_all party.client.lists commands
      all = ap (after_all party.client.lists) (take_all (length commands) commands (le_refl (length commands)))
