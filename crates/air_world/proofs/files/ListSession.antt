-- One entry of a session that selects and lists keeps its client's facts.
use Rattle.std.proofs.Common.{◌≡◌, ◌≢◌, ◌⊎◌, inl, inr, ℕ, List, [], ◌∷◌, ◌++◌, refl, ap, sym, ◌∙◌, subst, Bool, true}
use Rattle.std.proofs.Common.{false, Option, append-nil}
use Rattle.file_store.specs.Command.{after_all}
use Rattle.ftl0_session.specs.Table.{Row}
use Rattle.ftl0_server.specs.Entries as session
use Rattle.ftl0_server.specs.Entries.{GoesBy, row_of}
use Rattle.ftl0_client_job.specs.declared.work.Work.TheVariants as work
use Rattle.air_world.proofs.files.Names.{IfSome, AllByRecursion, Fits, Item, PacketValue, data_end, data_part, dl_error_resp, select_resp, DownloadsLaw, AreComplete, Due, Session, State, command, listing, receiving, session_row, SessionEntry, Work, Directory, Attempt, ServerTookFront, Asked, EachAttempt, Party, ServerSide, said_by_client, each-append, each-weaker, flat_map-one, IsDueNow, IsListSaid, IsOfListing, Says, Serves, ServesList, IsDirectoryOf, IsOne, IsServed, SessionGoes, SessionKeeps, SessionLawOf, session_gone, with_attempt}
use Rattle.air_world.proofs.files.FetchesOn.{ComesOn, fetching-on}
use Rattle.air_world.proofs.files.GoneLemmas.{facts-over}
use Rattle.air_world.proofs.files.ListRows.{IsListReply, IsListRow, IsListed, list-row}
use Rattle.air_world.proofs.files.ListServed.{due-listed, front-last, list-packet, none-asked}
use Rattle.air_world.proofs.files.QuietKeeps.{StaysQuiet, gone_side, keeps-quiet}
use Rattle.air_world.proofs.files.QuietLemmas.{IsNoUpload, IsQuiet}

-- a packet of a list isn't one of uploading
list-other : (packet : PacketValue) → IsOfListing packet → IsNoUpload packet
list-other (data_part octets) is = tt
list-other data_end is = tt
list-other (dl_error_resp code) is = tt
list-other (select_resp count) is = tt
list-other packet is = absurd is

other-state : (state : State) (number : ℕ) (rest : List ℕ)
    → (state ≡ command) ⊎ ((dues : List Due) × (state ≡ listing dues)) → state ≢ receiving number rest
other-state state number rest (inl is) same = absurd (let no : command ≡ receiving number rest = sym is ∙ same in cc)
other-state state number rest (inr (dues, is)) same =
    absurd (let no : listing dues ≡ receiving number rest = sym is ∙ same in cc)

module _ (files : List Asked) (c : ℕ) (party : Party) (before : Session) (served : IsServed files c party before)
    (at : Directory)
    (asked : served.attempt.client.asked ≡ work.Directory at) where
  -- what is true of each attempt is true of the current one
  here : (P : Attempt → Type 0) → EachAttempt party P → P served.attempt
  here P all = (subst (λ (l : List Attempt). AllByRecursion P l) served.attempts_are all).0

  serves : ServesList served.side
  serves =
      subst (λ (w : Work). Serves before.store w served.side) asked
      (subst (λ (o : Option ServerSide). IfSome o (Serves before.store served.attempt.client.asked)) served.is_side
      (here (λ a. IfSome a.server (Serves before.store a.client.asked)) served.facts.sessions.serves))

  says : IsListSaid at.tokens (said_by_client served.attempt.client)
  says =
      subst (λ (w : Work). Says w served.attempt.client) asked
      (here (λ a. Says a.client.asked a.client) served.facts.sessions.says)

  due : IsDueNow before.store served.side
  due =
      subst (λ (o : Option ServerSide). IfSome o (λ side. side.is_up ≡ true → IsDueNow before.store side))
      served.is_side
      (here (λ a. IfSome a.server (λ side. side.is_up ≡ true → IsDueNow before.store side)) served.facts.sessions.due)
      served.is_up

  listed : IsListed before.store before.state
  listed =
      subst (IsListed before.store) (sym served.state_is)
      (record { is = serves.state; lies = due.lies; octets = due.octets })

  -- What an entry leaves of it.
  record KeepsList (now : Session) (entry : SessionEntry) : Type 0 where
    stays : now.store ≡ before.store
    commands : session.commands_of entry ≡ []
    replies : AllByRecursion IsListReply (session.packets_said entry)
    lists : AreComplete before.store now.lists
    listed_now : IsListed before.store now.state

  module _ (entry : SessionEntry) (now : Session) (up : Bool) (keeps : KeepsList now entry) where
    abbrev new_side : ServerSide
    new_side = gone_side served.side (entry ∷ []) now.state up

    said : AllByRecursion IsOfListing (session.said_in new_side.entries)
    said =
        subst (AllByRecursion IsOfListing) (sym (flat_map-one session.packets_said served.side.entries entry))
        (each-append IsOfListing (session.said_in served.side.entries) (session.packets_said entry) serves.said
        (each-weaker {P = IsListReply} (session.packets_said entry) (λ packet is. is.0) keeps.replies))

    serves-now : ServesList new_side
    serves-now = record { said = said; state = keeps.listed_now.is }

    quiet : IsQuiet before.store served.attempt.client.asked served.side new_side
    quiet = record {
      greeting = refl;
      none = each-weaker (session.said_in new_side.entries) list-other said;
      serves = subst (λ (w : Work). Serves before.store w new_side) (sym asked) serves-now;
      due = λ is_up. record { lies = keeps.listed_now.lies; octets = keeps.listed_now.octets };
      receives = λ number rest is_up. other-state now.state number rest keeps.listed_now.is;
    }

    -- its client fetches nothing
    comes : ComesOn before.store party served.attempt served.side new_side
    comes fetched fetches first =
        absurd (none-asked at.tokens (said_by_client served.attempt.client) fetched.number fetches.offset says
        fetches.asked)

    stays-quiet : StaysQuiet before.store party served.attempt served.side new_side served.older (entry ∷ []) now
    stays-quiet = record {
      stays = keeps.stays;
      commands = append-nil (session.commands_of entry) ∙ keeps.commands;
      fits =
          subst (AllByRecursion Fits) (sym (append-nil (session.packets_said entry)))
          (each-weaker {P = IsListReply} (session.packets_said entry) (λ packet is. is.1) keeps.replies);
      lists = keeps.lists;
      quiet = quiet;
      fetching =
          fetching-on before.store party served.attempt served.older served.side new_side served.is_side comes
          served.attempts_are
          served.facts.files_got.fetching;
    }

  -- ---- the entries

  module _ (law : DownloadsLaw) (moment : ℕ) where
    -- the row of a packet that its client said
    row-here : (entry : SessionEntry) (item : Item) (row : Row) → row ≡ row_of party.client.me moment before item
        → session.items_of entry ≡ item ∷ []
        → ServerTookFront served.attempt (record served.side { entries = served.side.entries ++ entry ∷ [] })
        → IsListRow before.store row
    row-here entry item row is taken front =
        let items : session.items_in (served.side.entries ++ entry ∷ []) ≡ session.items_in
        served.side.entries ++ item ∷ [] =
        flat_map-one session.items_of served.side.entries entry
        ∙ ap (λ (l : List Item). session.items_in served.side.entries ++ l) taken in
        let last = front-last (session.items_in served.side.entries) item (said_by_client served.attempt.client)
        (front.0, front.1 ∙ ap (λ (l : List Item). l ++ front.0) items) in
        let packet = list-packet at.tokens (said_by_client served.attempt.client) last.0 says last.2 in
        subst (IsListRow before.store)
        (sym (is ∙ ap (λ (i : Item). session_row party.client.me moment before.store before.lists before.state i false)
        last.1))
        (list-row law party.client.me moment before.store before.lists served.store served.lists at.tokens before.state
        last.0 listed packet)

    keeps-entry : (entry : SessionEntry) (now : Session) → GoesBy party.client.me moment before (entry ∷ []) now
        → ServerTookFront served.attempt (record served.side { entries = served.side.entries ++ entry ∷ [] })
        → KeepsList now entry
    keeps-entry (session.took item row) now goes front =
        let it = row-here (session.took item row) item row goes.0 refl front in
        subst (λ (n : Session). KeepsList n (session.took item row)) (sym goes.1)
        (record {
          stays = ap (after_all before.store) it.commands;
          commands = it.commands;
          replies = it.replies;
          lists = it.lists;
          listed_now = it.listed;
        })
    keeps-entry (session.lost item row) now goes front =
        let it = row-here (session.lost item row) item row goes.0 refl front in
        subst (λ (n : Session). KeepsList n (session.lost item row)) (sym goes.2)
        (record {
          stays = ap (after_all before.store) it.commands;
          commands = it.commands;
          replies = tt;
          lists = it.lists;
          listed_now = it.listed;
        })
    keeps-entry (session.queued due) now goes front =
        let it = due-listed before.store before.state due listed goes.0 in
        subst (λ (n : Session). KeepsList n (session.queued due)) (sym goes.1)
        (record { stays = refl; commands = refl; replies = (it.0, tt); lists = served.lists; listed_now = it.1 })

    pub one-keeps : (entry : SessionEntry) (now : Session) (up : Bool)
        → SessionGoes party moment before now (entry ∷ []) up served.attempt served.side
        → SessionKeeps files party
        (with_attempt party (session_gone (entry ∷ []) now.state up served.attempt served.side) served.older) before
        now (entry ∷ []) served.side
    one-keeps entry now up goes =
        keeps-quiet facts-over files c party before now (entry ∷ []) up served
        (λ other is. absurd (let no : work.Directory at ≡ work.Upload other = sym asked ∙ is in cc))
        (stays-quiet entry now up (keeps-entry entry now goes.goes goes.front))

pub session-of-list : DownloadsLaw → SessionLawOf IsDirectoryOf IsOne
session-of-list law files c party moment before now entries up served (at, asked) (entry, is) goes =
    subst
    (λ (l : List SessionEntry).
    SessionGoes party moment before now l up served.attempt served.side
    → SessionKeeps files party
    (with_attempt party (session_gone l now.state up served.attempt served.side) served.older) before now l
    served.side)
    (sym is) (one-keeps files c party before served at asked law moment entry now up) goes
