-- The facts of a client with other notes, in which its tasks have the numbers that they had, and the same was got.
use Rattle.std.proofs.Common.{◌≡◌, ℕ, ◌≤◌, List, ◌++◌, length, ap, sym, ◌∙◌, subst, Option, None, Some}
use Rattle.ftl0_client_job.specs.declared.phases.DownloadPhase.TheVariants as fetch
use Rattle.ftl0_client_job.specs.declared.work.Work.TheVariants as work
use Rattle.air_world.proofs.files.Names.{fault_code, Store, Ending, DownloadPhase, Work, Download, IsCheckedIn, Attempt, Party, ServerSide, AreFirstIfAny, Fetches, FetchesBy, FetchesIn, HasNumber, IsBegun, IsGrantKept, Receives, coming_by, got, WhereStands}
use Rattle.air_world.proofs.files.ApartLemmas.{HasClientFacts, HasSideFacts}
use Rattle.air_world.proofs.files.ReceivesAs.{receives-as}

-- the notes of the client keep what was noted before
pub record KeepsNoted (party now : Party) : Type 0 where
  pub me : now.client.me ≡ party.client.me
  pub numbers : (task number : ℕ) → HasNumber party task number → HasNumber now task number
  pub got_is : (number : ℕ) → got now number ≡ got party number

grant-noted : (store : Store) (party now : Party) (a : Attempt) (number file_length : ℕ) → KeepsNoted party now
    → IsGrantKept store party a number file_length → IsGrantKept store now a number file_length
grant-noted store party now a number file_length keeps kept = record {
  some = kept.some;
  below = kept.below;
  task = kept.task;
  file = kept.file;
  asks = kept.asks;
  length_is = kept.length_is;
  begun = λ none. subst (λ caller. WhereStands store number (IsBegun caller file_length)) (sym keeps.me)
      (kept.begun (λ has. none (keeps.numbers kept.task number has)));
}

receives-noted : (store : Store) (party now : Party) (a : Attempt) (side : ServerSide) (number : ℕ) (rest : List ℕ)
    → KeepsNoted party now
    → Receives store party a side number rest → Receives store now a side number rest
receives-noted store party now a side number rest keeps r = receives-as r r.asks r.is_entry (r.caller_is ∙ sym keeps.me) r.offers r.came r.within r.goes_on

pub side-noted : (store : Store) (party now : Party) (a : Attempt) (side : ServerSide) → KeepsNoted party now
    → HasSideFacts store party a side
    → HasSideFacts store now a side
side-noted store party now a side keeps facts = record {
  granted = λ number file_length grants. grant-noted store party now a number file_length keeps
      (facts.granted number file_length grants);
  complete = facts.complete;
  offered = facts.offered;
  receives = λ number rest up is. receives-noted store party now a side number rest keeps
      (facts.receives number rest up is);
  due = facts.due;
  serves = facts.serves;
}

pub client-noted : (party now : Party) (a : Attempt) → KeepsNoted party now → HasClientFacts party a
    → HasClientFacts now a
client-noted party now a keeps facts = record {
  noted = λ task number file asks took. keeps.numbers task number (facts.noted task number file asks took);
  goes_on = λ task known file asks some. keeps.numbers task known (facts.goes_on task known file asks some);
  says = facts.says;
  fetched = λ number is. ap fault_code (keeps.got_is number) ∙ facts.fetched number is;
  asked_within = λ number offset asked.
      subst (λ (octets : List ℕ). offset ≤ length octets) (sym (keeps.got_is number))
      (facts.asked_within number offset asked);
}

fetches-noted : (store : Store) (party now : Party) (a : Attempt) (at : Download) → KeepsNoted party now
    → Fetches store party a at
    → Fetches store now a at
fetches-noted store party now a at keeps f = record {
  first = subst (λ (octets : List ℕ). AreFirstIfAny store at.number (octets ++ (at.rest ++ coming_by a a.server)))
      (sym (keeps.got_is at.number)) f.first;
  offset = f.offset;
  asked = f.asked;
  counted = ap (λ (octets : List ℕ). length (octets ++ at.rest)) (keeps.got_is at.number) ∙ f.counted;
}

fetches_in-noted : (phase : DownloadPhase) (store : Store) (party now : Party) (a : Attempt) (at : Download)
    → KeepsNoted party now
    → FetchesIn phase store party a at → FetchesIn phase store now a at
fetches_in-noted fetch.Login store party now a at keeps f = f
fetches_in-noted fetch.Fetching store party now a at keeps f = fetches-noted store party now a at keeps f
fetches_in-noted fetch.Done store party now a at keeps f = (f.0, ap fault_code (keeps.got_is at.number) ∙ f.1)

pub fetches_by-noted : (ending : Option Ending) (doing : Work) (store : Store) (party now : Party) (a : Attempt)
    → KeepsNoted party now
    → FetchesBy ending doing store party a → FetchesBy ending doing store now a
fetches_by-noted None (work.Download at) store party now a keeps f =
    fetches_in-noted at.phase store party now a at keeps f
fetches_by-noted (Some ending) (work.Download at) store party now a keeps f =
    subst (IsCheckedIn at.phase) (sym (keeps.got_is at.number)) f
fetches_by-noted None (work.Upload at) store party now a keeps f = tt
fetches_by-noted (Some ending) (work.Upload at) store party now a keeps f = tt
fetches_by-noted None (work.Directory at) store party now a keeps f = tt
fetches_by-noted (Some ending) (work.Directory at) store party now a keeps f = tt
