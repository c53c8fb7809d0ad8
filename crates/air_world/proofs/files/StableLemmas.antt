-- What a store that follows another keeps of a client's facts.
use Rattle.std.proofs.Common.{◌≡◌, ℕ, List, refl, ap, sym, ◌∙◌, subst, arith, Option, None, Some}
use Rattle.std.specs.Prelude.{option_and_then}
use Rattle.file_store.specs.EntriesKept.{KeepsComplete}
use Rattle.ftl0_client_job.specs.declared.phases.DownloadPhase.TheVariants as fetch
use Rattle.ftl0_client_job.specs.declared.work.Work.TheVariants as work
use Rattle.air_world.specs.Files.DownloadDialogue.{unasked}
use Rattle.air_world.specs.Files.Facts.{AreFirstOf}
use Rattle.air_world.proofs.files.Names.{IfSome, IsTrue, CallSign, IsOctets, KeepsEntries, IsCompleteIn, is_complete, Entry, Holding, Store, complete, entry_of, partial, DueStaysLaw, complete_octets, file_of, download_part, Ending, DownloadPhase, Work, Download, Attempt, Asked, Party, newest, ServerSide, IsDueNow, Serves, AreSent, AreSentFrom, Sending, ended, refused, sends, waits, AreFirstIfAny, Fetches, FetchesBy, FetchesIn, HasGotFacts, IsFetching, IsOfferKept, HoldsTo, IsKept, IsTaskKept}

-- ---- by the complete entries alone

-- an entry that has all octets of a file is complete
whole-complete : (h : Holding) (file : List ℕ) → complete_octets h ≡ Some file → IsTrue (is_complete h)
whole-complete (partial held) file whole = absurd (cc)
whole-complete (complete octets moment) file whole = refl

-- the complete entry that a file is of
pub complete-entry : (o : Option Entry) (file : List ℕ)
    → option_and_then (λ (e : Entry). complete_octets e.holding) o ≡ Some file
    → (entry : Entry) × (o ≡ Some entry) × IsTrue (is_complete entry.holding) ×
    (complete_octets entry.holding ≡ Some file)
complete-entry None file there = absurd (cc)
complete-entry (Some entry) file there = (entry, refl, whole-complete entry.holding file there, there)

pub keeps-complete : (before now : Store) (number : ℕ) → KeepsComplete before now → IsCompleteIn before number
    → IsCompleteIn now number
keeps-complete before now number keeps is = (is.0, keeps number is.0 is.1 is.2, is.2)

pub keeps-file : (before now : Store) (number : ℕ) (file : List ℕ) → KeepsComplete before now
    → file_of before number ≡ Some file
    → file_of now number ≡ Some file
keeps-file before now number file keeps there =
    let found = complete-entry (entry_of before number) file there in
    ap (option_and_then (λ (e : Entry). complete_octets e.holding)) (keeps number found.0 found.1 found.2) ∙ found.3

pub keeps-kept : (before now : Store) (number : ℕ) (file : List ℕ) (caller : CallSign) → KeepsComplete before now
    → IsKept before number file caller → IsKept now number file caller
keeps-kept before now number file caller keeps kept = record {
  entry = kept.entry;
  is_entry = keeps number kept.entry kept.is_entry
      (subst (λ (h : Holding). IsTrue (is_complete h)) (sym kept.whole) refl);
  caller_is = kept.caller_is;
  moment = kept.moment;
  whole = kept.whole;
  keeps = kept.keeps;
}

pub keeps-task_kept : (files : List Asked) (before now : Store) (party : Party) (task number : ℕ)
    → KeepsComplete before now
    → IsTaskKept files before party task number → IsTaskKept files now party task number
keeps-task_kept files before now party task number keeps kept =
    (kept.0, kept.1, keeps-kept before now number kept.0 party.client.me keeps kept.2)

pub keeps-first : (before now : Store) (number : ℕ) (octets : List ℕ) → KeepsComplete before now
    → AreFirstOf before number octets
    → AreFirstOf now number octets
keeps-first before now number octets keeps first =
    (first.0, keeps-file before now number first.0 keeps first.1, first.2)

pub keeps-first_any : (before now : Store) (number : ℕ) (octets : List ℕ) → KeepsComplete before now
    → AreFirstIfAny before number octets
    → AreFirstIfAny now number octets
keeps-first_any before now number octets keeps first some = keeps-first before now number octets keeps (first some)

-- ---- what was got

pub keeps-fetches : (before now : Store) (party : Party) (a : Attempt) (at : Download) → KeepsComplete before now
    → Fetches before party a at
    → Fetches now party a at
keeps-fetches before now party a at keeps fetches = record {
  first = λ some. keeps-first before now at.number _ keeps (fetches.first some);
  offset = fetches.offset;
  asked = fetches.asked;
  counted = fetches.counted;
}

keeps-fetches_in : (phase : DownloadPhase) (before now : Store) (party : Party) (a : Attempt) (at : Download)
    → KeepsComplete before now
    → FetchesIn phase before party a at → FetchesIn phase now party a at
keeps-fetches_in fetch.Login before now party a at keeps fetches = fetches
keeps-fetches_in fetch.Fetching before now party a at keeps fetches = keeps-fetches before now party a at keeps fetches
keeps-fetches_in fetch.Done before now party a at keeps fetches = fetches

pub keeps-fetches_by : (ending : Option Ending) (doing : Work) (before now : Store) (party : Party) (a : Attempt)
    → KeepsComplete before now
    → FetchesBy ending doing before party a → FetchesBy ending doing now party a
keeps-fetches_by None (work.Download at) before now party a keeps fetches =
    keeps-fetches_in at.phase before now party a at keeps fetches
keeps-fetches_by (Some ending) (work.Download at) before now party a keeps fetches = fetches
keeps-fetches_by None (work.Upload at) before now party a keeps fetches = tt
keeps-fetches_by (Some ending) (work.Upload at) before now party a keeps fetches = tt
keeps-fetches_by None (work.Directory at) before now party a keeps fetches = tt
keeps-fetches_by (Some ending) (work.Directory at) before now party a keeps fetches = tt

pub keeps-fetching : (before now : Store) (party : Party) (a : Attempt) → KeepsComplete before now
    → IsFetching before party a
    → IsFetching now party a
keeps-fetching before now party a keeps fetching link =
    keeps-fetches_by a.client.attempted.job.ending a.client.attempted.job.work before now party a keeps (fetching link)

pub keeps-fetching_some : (before now : Store) (party : Party) (o : Option Attempt) → KeepsComplete before now
    → IfSome o (IsFetching before party)
    → IfSome o (IsFetching now party)
keeps-fetching_some before now party None keeps fetching = tt
keeps-fetching_some before now party (Some a) keeps fetching = keeps-fetching before now party a keeps fetching

pub keeps-got : (before now : Store) (party : Party) → KeepsComplete before now → HasGotFacts before party
    → HasGotFacts now party
keeps-got before now party keeps facts = record {
  got_front = λ number some. keeps-first before now number _ keeps (facts.got_front number some);
  fetching = keeps-fetching_some before now party (newest party) keeps facts.fetching;
  fetched = facts.fetched;
  asked_within = facts.asked_within;
}

-- ---- what sessions did

keeps-sent_from : (before now : Store) (number offset : ℕ) (file : List ℕ) (parts : List (List ℕ))
    → KeepsComplete before now
    → AreSentFrom before number offset file parts → AreSentFrom now number offset file parts
keeps-sent_from before now number offset file parts keeps sent =
    record { is_file = keeps-file before now number file keeps sent.is_file; within = sent.within; sent = sent.sent }

pub keeps-sent : (before now : Store) (number : ℕ) (file : List ℕ) (stage : Sending) → KeepsComplete before now
    → AreSent before number file stage
    → AreSent now number file stage
keeps-sent before now number file unasked keeps sent = tt
keeps-sent before now number file (refused offset code) keeps sent = sent
keeps-sent before now number file (sends offset parts) keeps sent =
    keeps-sent_from before now number offset file parts keeps sent
keeps-sent before now number file (waits offset parts) keeps sent =
    (keeps-sent_from before now number offset file parts keeps sent.0, sent.1)
keeps-sent before now number file (ended offset parts word last) keeps sent =
    ((keeps-sent_from before now number offset file parts keeps sent.0.0, sent.0.1), sent.1, sent.2)

pub keeps-serves : (before now : Store) (asked : Work) (side : ServerSide) → KeepsComplete before now
    → Serves before asked side
    → Serves now asked side
keeps-serves before now (work.Upload at) side keeps serves = serves
keeps-serves before now (work.Directory at) side keeps serves = serves
keeps-serves before now (work.Download at) side keeps serves = record {
  stage = serves.stage;
  file = serves.file;
  items = serves.items;
  said = serves.said;
  state = serves.state;
  sent = keeps-sent before now at.number serves.file serves.stage keeps serves.sent;
}

-- by the law of what is due, `stays_law` of `ftl0_session`
pub keeps-due : (before now : Store) (side : ServerSide) → DueStaysLaw → KeepsComplete before now → IsDueNow before side
    → IsDueNow now side
keeps-due before now side law keeps due =
    let stays = law before now (download_part side.connected.state) keeps due.lies in
    record { lies = stays.0; octets = subst IsOctets (sym stays.1) due.octets }

-- ---- by all entries

-- an offered number is below the next one still, and its entry, if it is there, holds no fewer octets
pub keeps-offer : (before now : Store) (number offset : ℕ) → KeepsEntries before now → IsOfferKept before number offset
    → IsOfferKept now number offset
keeps-offer before now number offset keeps offer =
    (omega (arith, offer.0, keeps.next), by (entry_of before number) refl)
  where
    by : (o : Option Entry) → entry_of before number ≡ o → (entry : Entry) → entry_of now number ≡ Some entry
        → HoldsTo offset entry
    by None gone entry there = let still = keeps.gone number offer.0 gone in absurd (let x : ⊥ = cc in x)
    by (Some old) found entry there = omega (
      arith,
      (keeps.stands number old entry found there).longer,
      offer.1 old found,
    )
