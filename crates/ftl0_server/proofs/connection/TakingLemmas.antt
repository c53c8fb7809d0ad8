-- How taking packets goes on, and how it stops.
use Rattle.std.proofs.Common.{rules, ◌≡◌, ℕ, suc, ◌+◌, ◌≤◌, Bool, true, false, not, ◌&&◌, List, [], ◌∷◌, ◌++◌, length, refl, ap, sym, ◌∙◌, append-nil, arith}
use Rattle.std.specs.Prelude.{if◌then◌else◌}
use Rattle.ftl0_server.proofs.Names.{common_steps, zero-add, CallSign, after_push, LinkEnd, Item, texts, Command, after_all, Store, after_all-append, Failure, read_fails, write_fails, Row, row_at, Session, session_over, TakingLaw, Halt, LookAtNone, Progress, after_row, failing_at, fails, fits, giving_up, goes_on, taking, taking_row}
use Rattle.ftl0_server.proofs.connection.FailureLemmas.{AreAlike}

-- whether nothing stopped the taking
abbrev pub is_going : Halt → Bool
is_going goes_on = true
is_going fails = false

-- whether more packets are taken then
abbrev pub going : Progress → Bool
going progress = not progress.over && is_going progress.halt

-- these commands were done before, and this many reads failed
abbrev pub behind : ℕ → List Command → Progress → Progress
behind missed done progress = record progress { missed = missed + progress.missed; done = done ++ progress.done }

-- nothing came before
behind-none : (progress : Progress) → progress ≡ behind 0 [] progress
behind-none progress = ap (λ (missed : ℕ). record progress { missed = missed }) (sym (zero-add progress.missed))

-- what a packet's row makes, by whether a write fails and whether its replies fit, if this comes after it
abbrev pub by_tests : Session → LinkEnd → ℕ → Row → Bool → Bool → Progress → Progress
by_tests session end part row failed enough later =
    if failed then failing_at end session.state session.lists row part
    else if enough then after_row row later
    else giving_up end row part

-- the session after a row
abbrev pub behind_row : Session → Row → Session
behind_row session row = session_over (after_all session.store row.commands) row.lists row.state

module _ (caller : CallSign) (moment : ℕ) where
  -- the row of a packet that is the event's part of this number
  abbrev pub row_in : Session → Item → List Failure → ℕ → Row
  row_in session item failures part = row_at caller moment session.store session.lists session.state item failures part

  -- ---- failures that are alike

  pub taking-alike : (session : Session) (end : LinkEnd) (items : List Item) (some others : List Failure) (part : ℕ)
      → AreAlike part (part + length items) some others
      → taking caller moment session end items some part ≡ taking caller moment session end items others part
  taking-alike session end [] some others part alike = refl
  taking-alike session end (item ∷ items) some others part alike =
      let here = alike part (omega arith) (omega arith) in
      let row : Row = row_in session item others part in
      rw (here.0, here.1)
      (ap (λ (later : Progress). taking_row end session.state session.lists part (write_fails others part) later row)
      (taking-alike (behind_row session row) (after_push end (texts row.replies)) items some others (suc part) (λ n low high. alike n (omega arith) (omega arith))))

-- ---- packets at which the taking stops

module _ (caller : CallSign) (moment : ℕ) where
  -- whatever comes after packets at which the taking stops isn't taken
  pub taking-ended : (session : Session) (end : LinkEnd) (items others : List Item) (failures : List Failure) (part : ℕ)
      → going (taking caller moment session end items failures part) ≡ false
      → taking caller moment session end (items ++ others) failures part ≡ taking caller moment session end items failures part
  taking-ended session end [] others failures part stops = absurd cc
  taking-ended session end (item ∷ items) others failures part stops =
      let row : Row = row_in caller moment session item failures part in
      let each = taking-ended (behind_row session row) (after_push end (texts row.replies)) items others failures (suc part) in
      grind (arith, common_steps)

-- if the disk failed, the session is over
abbrev pub IsOverAtFault : Progress → Type 0
IsOverAtFault progress = progress.halt ≡ fails → progress.over ≡ true

-- a write or a sync fails at a part from this one on
abbrev pub FailsFrom : ℕ → List Failure → Type 0
FailsFrom part failures = (n : ℕ) × (part ≤ n) × (write_fails failures n ≡ true)

module _ (session : Session) (end : LinkEnd) (part : ℕ) (failures : List Failure) (row : Row) (later : Progress) (each : later.halt ≡ fails → FailsFrom (suc part) failures) where
  fails-by : (failed enough : Bool) → write_fails failures part ≡ failed → (by_tests session end part row failed enough later).halt ≡ fails → FailsFrom part failures
  fails-by failed enough is halts = grind (arith, common_steps)

module _ (caller : CallSign) (moment : ℕ) where
  pub taking-failed : (session : Session) (end : LinkEnd) (items : List Item) (failures : List Failure) (part : ℕ)
      → IsOverAtFault (taking caller moment session end items failures part)
  taking-failed session end [] failures part halts = absurd cc
  taking-failed session end (item ∷ items) failures part halts =
      let row : Row = row_in caller moment session item failures part in
      let each = taking-failed (behind_row session row) (after_push end (texts row.replies)) items failures (suc part) in
      grind (arith, common_steps)

  pub taking-fails : (session : Session) (end : LinkEnd) (items : List Item) (failures : List Failure) (part : ℕ)
      → (taking caller moment session end items failures part).halt ≡ fails → FailsFrom part failures
  taking-fails session end [] failures part halts = absurd cc
  taking-fails session end (item ∷ items) failures part halts =
      let row : Row = row_in caller moment session item failures part in
      fails-by session end part failures row _ (taking-fails (behind_row session row) (after_push end (texts row.replies)) items failures (suc part))
      (write_fails failures part) (fits end (texts row.replies)) refl halts

-- ---- packets after which it goes on

-- where it goes on after others, and what packets make there
abbrev pub on_from : Store → Progress → Session
on_from store from = session_over (after_all store from.done) from.lists from.state

abbrev pub goes_from : CallSign → ℕ → List Failure → Store → Progress → List Item → Progress
goes_from caller moment failures store from others =
    behind from.missed from.done (taking caller moment (on_from store from) from.end others failures from.part)

module _ (caller : CallSign) (moment : ℕ) where
  -- what comes after packets after which it goes on is taken from there
  pub taking-on : (session : Session) (end : LinkEnd) (items others : List Item) (failures : List Failure) (part : ℕ)
      → going (taking caller moment session end items failures part) ≡ true
      → taking caller moment session end (items ++ others) failures part
      ≡ goes_from caller moment failures session.store (taking caller moment session end items failures part) others
  taking-on session end [] others failures part goes = behind-none (taking caller moment session end others failures part)
  taking-on session end (item ∷ items) others failures part goes =
      let row : Row = row_in caller moment session item failures part in
      let each = taking-on (behind_row session row) (after_push end (texts row.replies)) items others failures (suc part) in
      grind (arith, common_steps, after_all-append)

  -- each of the packets is a part
  pub taking-part : (session : Session) (end : LinkEnd) (items : List Item) (failures : List Failure) (part : ℕ)
      → going (taking caller moment session end items failures part) ≡ true → (taking caller moment session end items failures part).part ≡ part + length items
  taking-part session end [] failures part goes = omega arith
  taking-part session end (item ∷ items) failures part goes =
      let row : Row = row_in caller moment session item failures part in
      let each = taking-part (behind_row session row) (after_push end (texts row.replies)) items failures (suc part) in
      grind (arith, common_steps)

-- ---- packets for which no octet of a file is looked at

module _ (caller : CallSign) (moment : ℕ) where
  -- the first of them
  pub looks-first : (session : Session) (items others : List Item) → LookAtNone caller moment session (items ++ others) → LookAtNone caller moment session items
  looks-first session [] others looks = tt
  looks-first session (item ∷ items) others looks = (looks.0, looks.1, looks.2, looks-first (behind_row session looks.0) items others looks.3)

  -- those after the first, after which it goes on
  pub looks-on : (session : Session) (end : LinkEnd) (items others : List Item) (failures : List Failure) (part : ℕ) → LookAtNone caller moment session (items ++ others)
      → going (taking caller moment session end items failures part) ≡ true
      → LookAtNone caller moment (on_from session.store (taking caller moment session end items failures part)) others
  looks-on session end [] others failures part looks goes = looks
  looks-on session end (item ∷ items) others failures part looks goes =
      let row : Row = row_in caller moment session item failures part in
      let next : Session = behind_row session row in
      let later : Progress = taking caller moment next (after_push end (texts row.replies)) items failures (suc part) in
      let there : LookAtNone caller moment next (items ++ others) = rw (looks.1 (read_fails failures part)) looks.3 in
      let on : going later ≡ true = grind (arith, common_steps) in
      let same : on_from session.store (taking caller moment session end (item ∷ items) failures part) ≡ on_from next.store later = grind (arith, common_steps, after_all-append) in
      rw same (looks-on next (after_push end (texts row.replies)) items others failures (suc part) there on)

  -- whatever reads fail
  pub looks-same : (session : Session) (end : LinkEnd) (items : List Item) (failures : List Failure) (part : ℕ) → LookAtNone caller moment session items → ((n : ℕ) → write_fails failures n ≡ false)
      → taking caller moment session end items failures part ≡ taking caller moment session end items [] part
  looks-same session end [] failures part looks none = refl
  looks-same session end (item ∷ items) failures part looks none =
      let row : Row = looks.0 in
      rw (looks.1 (read_fails failures part), looks.1 (read_fails [] part), none part)
      (ap (λ (later : Progress). taking_row end session.state session.lists part false later row)
      (looks-same (behind_row session row) (after_push end (texts row.replies)) items failures (suc part) looks.3 none))

-- ---- what is done is a prefix of what is done when no write fails

-- these commands are the first of those
abbrev pub IsFront : List Command → List Command → Type 0
IsFront front all = (more : List Command) × (all ≡ front ++ more)

pub front-same : (commands : List Command) → IsFront commands commands
front-same commands = ([], sym (append-nil commands))

-- done, and if the disk failed, those in one of which it did
abbrev pub begun : Progress → List Command
begun progress = progress.done ++ progress.cut

-- what is begun is a prefix of what another one does
abbrev pub Begins : Progress → Progress → Type 0
Begins some all = IsFront (begun some) all.done

module _ (session : Session) (end : LinkEnd) (part : ℕ) (row : Row) (some all : Progress) (each : Begins some all) where
  begins-by : (failed enough : Bool) → Begins (by_tests session end part row failed enough some) (by_tests session end part row false enough all)
  begins-by true true = (all.done, refl)
  begins-by true false = front-same row.commands
  begins-by false true = grind (arith, common_steps)
  begins-by false false = ([], sym (append-nil row.commands) ∙ sym (append-nil (row.commands ++ [])))

-- the same reads fail at each part, and of the second no write
abbrev pub AreUnwritten : List Failure → List Failure → Type 0
AreUnwritten some all = (part : ℕ) → (read_fails some part ≡ read_fails all part) × (write_fails all part ≡ false)

module _ (caller : CallSign) (moment : ℕ) where
  pub taking-begins : (session : Session) (end : LinkEnd) (items : List Item) (some all : List Failure) (part : ℕ) → AreUnwritten some all
      → Begins (taking caller moment session end items some part) (taking caller moment session end items all part)
  taking-begins session end [] some all part are = ([], refl)
  taking-begins session end (item ∷ items) some all part are =
      let row : Row = row_in caller moment session item all part in
      rw ((are part).0, (are part).1)
      (begins-by session end part row _ _ (taking-begins (behind_row session row) (after_push end (texts row.replies)) items some all (suc part) are)
      (write_fails some part) (fits end (texts row.replies)))

-- ---- the row of one packet among others

module _ (session : Session) (end : LinkEnd) (part : ℕ) (row : Row) (later : Progress) where
  row-by : (failed enough : Bool) → failed ≡ false → IsFront row.commands (by_tests session end part row failed enough later).done
  row-by true enough none = absurd cc
  row-by false true none = (later.done, refl)
  row-by false false none = front-same row.commands

pub taking-law : TakingLaw
taking-law caller moment session end items item more failures goes not_over none = search (rules, taking-on, taking-part, row-by)
