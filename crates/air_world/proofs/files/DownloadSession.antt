-- One entry of a session of a download keeps its client's facts.
use Rattle.std.proofs.Common.{◌≡◌, ◌≢◌, inl, inr, ℕ, ◌+◌, ◌≤◌, List, [], ◌∷◌, length, map, refl, ap, sym, ◌∙◌, subst}
use Rattle.std.proofs.Common.{Bool, true, Option, Some, arith, length-append, append-nil}
use Rattle.ftl0_server.specs.Entries as session
use Rattle.ftl0_client_job.specs.declared.work.Work.TheVariants as work
use Rattle.air_world.specs.Files.DownloadDialogue.{unasked}
use Rattle.air_world.proofs.files.Names.{IfSome, AllByRecursion, Fits, PacketValue, data_end, data_part, download_cmd, Store, DownloadsLaw, AreComplete, file_of, Session, State, receiving, SessionEntry, Work, Download, Attempt, Has, Asked, EachAttempt, Party, ServerSide, said_by_client, each-append, Says, Serves, AreSent, IsLast, IsSendingState, Sending, ServesDownload, ended, refused, sending_said, sends, waits, AskedWithin, got, IsDownloadOf, IsOne, IsServed, SessionGoes, SessionKeeps, SessionLawOf, session_gone, with_attempt, IsWork}
use Rattle.air_world.proofs.files.DownloadComing.{front-if-any}
use Rattle.air_world.proofs.files.DownloadEntry.{keeps-entry}
use Rattle.air_world.proofs.files.DownloadServed.{IsDownloading, KeepsDownload}
use Rattle.air_world.proofs.files.FetchesOn.{fetching-on}
use Rattle.air_world.proofs.files.GoneLemmas.{facts-over}
use Rattle.air_world.proofs.files.QuietKeeps.{StaysQuiet, gone_side, keeps-quiet}
use Rattle.air_world.proofs.files.QuietLemmas.{IsNoUpload, IsQuiet}

-- ---- what a session of a download says and is

none-data : (parts : List (List ℕ)) → AllByRecursion IsNoUpload (map data_part parts)
none-data [] = tt
none-data (part ∷ parts) = (tt, none-data parts)

none-last : (last : PacketValue) → IsLast last → IsNoUpload last
none-last last (inl is) = subst IsNoUpload (sym is) tt
none-last last (inr is) = subst IsNoUpload (sym is) tt

none-said : (store : Store) (number : ℕ) (file : List ℕ) (stage : Sending) → AreSent store number file stage
    → AllByRecursion IsNoUpload (sending_said stage)
none-said store number file unasked sent = tt
none-said store number file (refused offset code) sent = (tt, tt)
none-said store number file (sends offset parts) sent = none-data parts
none-said store number file (waits offset parts) sent =
    each-append IsNoUpload (map data_part parts) (data_end ∷ []) (none-data parts) (tt, tt)
none-said store number file (ended offset parts word last) sent =
    each-append IsNoUpload (map data_part parts) (data_end ∷ last ∷ []) (none-data parts)
    (tt, (none-last last sent.2, tt))

other-state : (number : ℕ) (file : List ℕ) (stage : Sending) (state : State) (n : ℕ) (rest : List ℕ)
    → IsSendingState number file stage state → state ≢ receiving n rest
other-state number file unasked state n rest is same = absurd (cc)
other-state number file (refused offset code) state n rest is same = absurd (cc)
other-state number file (sends offset parts) state n rest is same = absurd (cc)
other-state number file (waits offset parts) state n rest is same = absurd (cc)
other-state number file (ended offset parts word last) state n rest is same = absurd (cc)

-- ---- what is known of it

module _ (files : List Asked) (c : ℕ) (party : Party) (before : Session) (served : IsServed files c party before)
    (at : Download)
    (asked : served.attempt.client.asked ≡ work.Download at) where
  -- what is true of each attempt is true of the current one
  here : (P : Attempt → Type 0) → EachAttempt party P → P served.attempt
  here P all = (subst (λ (l : List Attempt). AllByRecursion P l) served.attempts_are all).0

  serves : ServesDownload before.store at.number served.side
  serves =
      subst (λ (w : Work). Serves before.store w served.side) asked
      (subst (λ (o : Option ServerSide). IfSome o (Serves before.store served.attempt.client.asked)) served.is_side
      (here (λ a. IfSome a.server (Serves before.store a.client.asked)) served.facts.sessions.serves))

  says : Says (work.Download at) served.attempt.client
  says =
      subst (λ (w : Work). Says w served.attempt.client) asked
      (here (λ a. Says a.client.asked a.client) served.facts.sessions.says)

  works : IsWork files party (work.Download at)
  works = subst (IsWork files party) asked (here (λ a. IsWork files party a.client.asked) served.stands.works)

  within : (offset : ℕ) (file : List ℕ) → Has (said_by_client served.attempt.client) (download_cmd at.number offset 0)
      → file_of before.store at.number ≡ Some file → offset ≤ length file
  within offset file has is_file =
      let few = here (AskedWithin party) served.facts.files_got.asked_within at.number offset has in
      let front = front-if-any before.store at.number file (got party at.number) is_file
      (served.facts.files_got.got_front at.number) in
      let all : length file ≡ length (got party at.number) + length front.0 =
      ap length front.1 ∙ length-append (got party at.number) front.0 in
      omega (arith, few, all)

  downloading : IsDownloading before.store served.attempt served.side at.number
  downloading = record {
    some = λ none. absurd (omega (arith, works.1.0, none));
    serves = serves;
    says = says;
    greets = served.greets;
    heard = served.heard;
    none_lost = served.none_lost;
    sound = served.store;
    within = within;
  }

  module _ (entry : SessionEntry) (now : Session) (up : Bool)
      (keeps : KeepsDownload before now party served.attempt served.side
      (gone_side served.side (entry ∷ []) now.state up) at.number entry)
      (none_lost : up ≡ true → AllByRecursion session.IsNotLost (entry ∷ [])) where
    abbrev new_side : ServerSide
    new_side = gone_side served.side (entry ∷ []) now.state up

    quiet : IsQuiet before.store served.attempt.client.asked served.side new_side
    quiet = record {
      greeting = refl;
      none =
          subst (AllByRecursion IsNoUpload) (sym keeps.serves.said)
          (none-said before.store at.number keeps.serves.file keeps.serves.stage keeps.serves.sent);
      serves = subst (λ (w : Work). Serves before.store w new_side) (sym asked) keeps.serves;
      due = keeps.due;
      receives = λ n rest is_up.
          other-state at.number keeps.serves.file keeps.serves.stage now.state n rest
          (keeps.serves.state (each-append session.IsNotLost served.side.entries (entry ∷ []) served.none_lost
          (none_lost is_up)));
    }

    stays-quiet : StaysQuiet before.store party served.attempt served.side new_side served.older (entry ∷ []) now
    stays-quiet = record {
      stays = keeps.stays;
      commands = append-nil (session.commands_of entry) ∙ keeps.commands;
      fits = subst (AllByRecursion Fits) (sym (append-nil (session.packets_said entry))) keeps.fits;
      lists = subst (AreComplete before.store) (sym keeps.lists) served.lists;
      quiet = quiet;
      fetching =
          fetching-on before.store party served.attempt served.older served.side new_side served.is_side keeps.comes
          served.attempts_are
          served.facts.files_got.fetching;
    }

  pub one-keeps : (law : DownloadsLaw) (moment : ℕ) (entry : SessionEntry) (now : Session) (up : Bool)
      → SessionGoes party moment before now (entry ∷ []) up served.attempt served.side
      → SessionKeeps files party
      (with_attempt party (session_gone (entry ∷ []) now.state up served.attempt served.side) served.older) before
      now (entry ∷ []) served.side
  one-keeps law moment entry now up goes =
      let keeps = keeps-entry law party.client.me moment before party served.attempt served.side at.number downloading
      served.state_is up entry now goes.goes goes.none_lost goes.front in
      keeps-quiet facts-over files c party before now (entry ∷ []) up served
      (λ other is. absurd (let no : work.Download at ≡ work.Upload other = sym asked ∙ is in cc))
      (stays-quiet entry now up keeps goes.none_lost)

pub session-of-download : DownloadsLaw → SessionLawOf IsDownloadOf IsOne
session-of-download law files c party moment before now entries up served (at, asked) (entry, is) goes =
    subst
    (λ (l : List SessionEntry).
    SessionGoes party moment before now l up served.attempt served.side
    → SessionKeeps files party
    (with_attempt party (session_gone l now.state up served.attempt served.side) served.older) before now l
    served.side)
    (sym is) (one-keeps files c party before served at asked law moment entry now up) goes
