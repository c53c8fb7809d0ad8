-- What the facts look at of a client, an attempt and a session, put into others instead of theirs: these have the
-- facts. Ends of links, transmissions and what else is theirs don't matter, and a session may be over.
use Rattle.std.proofs.Common.{◌≡◌, ℕ, List, length, ap, sym, ◌∙◌, true}
use Rattle.ftl0_client_job.specs.declared.work.Work.TheVariants as work
use Rattle.air_world.specs.Files.DownloadDialogue as download
use Rattle.air_world.specs.Files.UploadDialogue.{Sending, asked, ended}
use Rattle.air_world.specs.Files.UploadDialogue.{refused, sends as sending, silent}
use Rattle.air_world.proofs.files.Names.{Store, Work, Attempt, Party, ClientSide, ServerSide, Says, Serves, Fetching, IsFetchingFile, AnsweredFirst, IsSendingFile, Receiving, receives, unasked, HasNumber, IsGrantKept, Receives, IsSameParty, LooksLike, LooksLikeSession}
use Rattle.air_world.proofs.files.ApartLemmas.{HasClientFacts, HasSideFacts}
use Rattle.air_world.proofs.files.JobEarlier.{fetched-any}
use Rattle.air_world.proofs.files.ReceivesAs.{receives-as}

-- ---- a client, an attempt and a session with what the facts look at of others

abbrev pub like_side : ServerSide → ServerSide → ServerSide
like_side side now =
    record now {
      greeting = side.greeting;
      entries = side.entries;
      connected = record now.connected { state = side.connected.state };
    }

abbrev pub like_client : ClientSide → ClientSide → ClientSide
like_client side now =
    record {
      attempted = record now.attempted { job = side.attempted.job };
      asked = side.asked;
      entries = side.entries;
    }

abbrev pub like_attempt : Attempt → Attempt → Attempt
like_attempt a now = record now { client = like_client a.client now.client }

abbrev pub like : Party → Party → Party
like party now =
    record now {
      client =
          record now.client {
            me = party.client.me;
            server = party.client.server;
            lists = party.client.lists;
          };
      uploads = party.uploads;
    }

pub side-same : (side now : ServerSide) → LooksLikeSession side now → like_side side now ≡ now
side-same side now same =
    ap (λ it. record now {
      greeting = it;
      entries = side.entries;
      connected =
          record now.connected { state = side.connected.state };
    })
    (sym same.greeting)
    ∙ ap (λ it. record now { entries = it; connected = record now.connected { state = side.connected.state } })
    (sym same.entries)
    ∙ ap (λ it. record now { connected = record now.connected { state = it } }) (sym same.state)

pub attempt-same : (a now : Attempt) → LooksLike a now → like_attempt a now ≡ now
attempt-same a now same =
    ap (λ it. record now { client = record (like_attempt a now).client { asked = it } }) (sym same.asked)
    ∙ ap (λ it. record now { client = record (like_attempt a now).client { asked = now.client.asked; entries = it } })
    (sym same.entries)
    ∙ ap (λ it. record now { client = record now.client { attempted = record now.client.attempted { job = it } } })
    (sym same.job)

pub party-same : (party now : Party) → IsSameParty party now → like party now ≡ now
party-same party now same =
    ap (λ it. record now { client = record (like party now).client { me = it }; uploads = party.uploads }) (sym same.me)
    ∙ ap (λ it. record now {
      client = record (like party now).client { me = now.client.me; server = it };
      uploads =
          party.uploads;
    })
    (sym same.server)
    ∙ ap (λ it. record now { client = record now.client { lists = it }; uploads = party.uploads }) (sym same.lists)
    ∙ ap (λ it. record now { uploads = it }) (sym same.uploads)

-- ---- facts of one session

like-number : (party now : Party) (task number : ℕ) → HasNumber party task number
    → HasNumber (like party now) task number
like-number party now task number has =
    record { entry = has.entry; is_entry = has.is_entry; number_is = has.number_is; some = has.some }

pub number-like : (party now : Party) (task number : ℕ) → HasNumber (like party now) task number
    → HasNumber party task number
number-like party now task number has =
    record { entry = has.entry; is_entry = has.is_entry; number_is = has.number_is; some = has.some }

like-grant : (store : Store) (party now : Party) (a b : Attempt) (number file_length : ℕ)
    → IsGrantKept store party a number file_length
    → IsGrantKept store (like party now) (like_attempt a b) number file_length
like-grant store party now a b number file_length kept = record {
  some = kept.some;
  below = kept.below;
  task = kept.task;
  file = kept.file;
  asks = kept.asks;
  length_is = kept.length_is;
  begun = λ none. kept.begun (λ has. none (like-number party now kept.task number has));
}

like-receives : (store : Store) (party now : Party) (a b : Attempt) (side other : ServerSide) (number : ℕ)
    (rest : List ℕ)
    → Receives store party a side number rest
    → Receives store (like party now) (like_attempt a b) (like_side side other) number rest
like-receives store party now a b side other number rest r = receives-as r r.asks r.is_entry r.caller_is r.offers r.came r.within r.goes_on

like-serves : (store : Store) (asked : Work) (side other : ServerSide) → Serves store asked side
    → Serves store asked (like_side side other)
like-serves store (work.Upload at) side other s =
    record {
      stage = s.stage;
      items = s.items;
      said = s.said;
      state = s.state;
      offered = s.offered;
      first = first s.stage s.first;
    }
  where
    first : (stage : Receiving) → AnsweredFirst at.known (length at.file) side stage
        → AnsweredFirst at.known (length at.file) (like_side side other) stage
    first unasked it = tt
    first (refused code) it = it
    first (receives number offset parts) it = it
    first (ended number offset parts word) it = it
like-serves store (work.Directory at) side other s = record { said = s.said; state = s.state }
like-serves store (work.Download at) side other s =
    record { stage = s.stage; file = s.file; items = s.items; said = s.said; state = s.state; sent = s.sent }

pub like-side : (store : Store) (party now : Party) (a b : Attempt) (side other : ServerSide)
    → (other.is_up ≡ true → side.is_up ≡ true)
    → HasSideFacts store party a side → HasSideFacts store (like party now) (like_attempt a b) (like_side side other)
like-side store party now a b side other up facts = record {
  granted = λ number file_length grants. like-grant store party now a b number file_length
      (facts.granted number file_length grants);
  complete = facts.complete;
  offered = facts.offered;
  receives = λ number rest is state. like-receives store party now a b side other number rest
      (facts.receives number rest (up is) state);
  due = λ is. record { lies = (facts.due (up is)).lies; octets = (facts.due (up is)).octets };
  serves = like-serves store a.client.asked side other facts.serves;
}

like-says : (asked : Work) (side now : ClientSide) → Says asked side → Says asked (like_client side now)
like-says (work.Upload at) side now s = record {
  stage = s.stage;
  said = s.said;
  sends_file =
      sends s.stage s.sends_file;
}
  where
    sends : (stage : Sending) → IsSendingFile at.file side stage → IsSendingFile at.file (like_client side now) stage
    sends silent it = tt
    sends asked it = tt
    sends (sending number offset packets) it = it
like-says (work.Directory at) side now s = s
like-says (work.Download at) side now s = record { stage = s.stage; said = s.said; fetches = fetches s.stage s.fetches }
  where
    fetches : (stage : Fetching) → IsFetchingFile side stage → IsFetchingFile (like_client side now) stage
    fetches download.silent it = tt
    fetches (download.asked offset) it = tt
    fetches (download.told offset word) it = it

pub like-client : (party now : Party) (a b : Attempt) → HasClientFacts party a
    → HasClientFacts (like party now) (like_attempt a b)
like-client party now a b facts = record {
  noted = λ task number file asks took. like-number party now task number (facts.noted task number file asks took);
  goes_on = λ task known file asks some. like-number party now task known (facts.goes_on task known file asks some);
  says = like-says a.client.asked a.client b.client facts.says;
  fetched = λ number is.
      facts.fetched number
      (fetched-any a.client.attempted.job.ending b.client.attempted.down a.client.attempted.down number is);
  asked_within = facts.asked_within;
}
