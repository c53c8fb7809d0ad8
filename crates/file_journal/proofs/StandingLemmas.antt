-- What octets stand for where commands are records: the state after the commands that their records are.
use Rattle.std.proofs.Common.{◌≡◌, ℕ, ◌<◌, Bool, true, false, List, [], ◌∷◌, length, map, Option, None, Some, refl, sym, ◌∙◌, ap, subst, arith}
use Rattle.std.specs.Prelude.{if◌then◌else◌}
use Rattle.file_journal.specs.Journal as journal
use Rattle.file_journal.proofs.Names.{common_steps, IsTrue, AllByRecursion, option_and_then, All-drop, le32, IsOctets, AreAllowed, after_all, Form, StandsFor, Standing, journal_of, half_end, half_gate, half_in, up_to, ComesTo, Takes, IsRecord, Reading, Record, StandsFrom, reading_from, whole, number_or, stands_for, stands_of, state, Layout}
use Rattle.file_journal.proofs.LayoutLemmas.{up_to_octets}
use Rattle.file_journal.proofs.ReadingLemmas.{reading_none, stands_from_read}
use Rattle.file_journal.proofs.WalkLemmas.{one_walk}

-- ---- a record as a command

module _ {S C : Type 0} (is_allowed : S → C → Bool) (after : S → C → S) (before : S) where
  -- the state after a command, where the state before it allows that
  abbrev next : C → Option S
  next command = if is_allowed before command then Some (after before command) else None

  tested : (now : S) (command : C) (b : Bool) → is_allowed before command ≡ b
      → (if b then Some (after before command) else None) ≡ Some now
      → IsTrue (is_allowed before command) × (now ≡ after before command)
  tested now command true test is = (test, cc (sym is))
  tested now command false test is = absurd (cc is)

  -- a step is a command whose condition holds
  pub stepped : (now : S) (read : Option C) → option_and_then next read ≡ Some now
      → (command : C) × (read ≡ Some command) × IsTrue (is_allowed before command) × (now ≡ after before command)
  stepped now None is = absurd (cc is)
  stepped now (Some command) is =
      let both = tested now command (is_allowed before command) refl is in (command, refl, both.0, both.1)

  -- and a command whose condition holds is a step
  pub steps : (command : C) (read : Option C) → read ≡ Some command → IsTrue (is_allowed before command)
      → option_and_then next read ≡ Some (after before command)
  steps command read is allowed = grind (arith, common_steps)

-- How the commands of a form are written as records: which of them can be, the record of one, and the command that a
-- record is. A step is a command that the state before it allows.
pub record Written {S C : Type 0} (form : Form S C) : Type 1 where
  pub fresh : ℕ → S
  pub step : S → Record → Option S
  pub standing :
      (blocks : ℕ) (octets : List ℕ)
      → form.standing blocks octets ≡ stands_for fresh step form.magic form.layout blocks octets
  pub IsWritable : C → Type 0
  pub record_of : C → Record
  pub command_of : Record → Option C
  pub reads : (command : C) → IsWritable command → command_of (record_of command) ≡ Some command
  pub writes :
      (entry : Record) (command : C) → IsRecord entry → command_of entry ≡ Some command
      → IsWritable command × (entry ≡ record_of command)
  pub steps :
      (before : S) (command : C) (entry : Record) → command_of entry ≡ Some command → form.allowed before command
      → step before entry ≡ Some (form.after before command)
  pub stepped :
      (before now : S) (entry : Record) → step before entry ≡ Some now
      → (command : C) × (command_of entry ≡ Some command) × form.allowed before command
      × (now ≡ form.after before command)

-- The octets are a journal, with a block number or none yet, and its records are these commands, each of which the
-- state before it allows, from the fresh one on; and this is the state after them.
pub record IsAfter {S C : Type 0} (form : Form S C) (written : Written form) (octets : List ℕ) (now : S)
    (commands : List C) : Type 0 where
  pub number : Option ℕ
  pub records : journal_of form.magic form.layout octets ≡ journal.store number (whole (map written.record_of commands))
  pub writable : AllByRecursion written.IsWritable commands
  pub allowed : AreAllowed form.allowed form.after (written.fresh (number_or (form.number now) number)) commands
  pub after : now ≡ after_all form.after (written.fresh (number_or (form.number now) number)) commands

-- ---- what is read of a journal is records

read_records : (place : ℕ) (rest : List ℕ) (entries : List Record) → IsOctets rest
    → reading_from place rest ≡ whole entries → AllByRecursion IsRecord entries
read_records place [] entries are is = absurd (cc (sym (reading_none place) ∙ is))
read_records place (octet ∷ octets) entries are is =
    (subst (λ (r : Reading). StandsFrom place (octet ∷ octets) r) is
    (stands_from_read (length (octet ∷ octets)) place (octet ∷ octets) (omega arith) are (omega arith))).1

-- by the tests of a journal
tested_records :
    (a b c d : Bool) (found : List ℕ) (n : ℕ) (reading : Reading) (number : Option ℕ) (entries : List Record)
    → ((read : List Record) → reading ≡ whole read → AllByRecursion IsRecord read)
    → (if a then journal.store None (whole [])
    else if b then journal.no_store found
    else if c then journal.bad_number
    else if d then journal.store (Some n) (whole [])
    else journal.store_of n reading)
    ≡ journal.store number (whole entries)
    → AllByRecursion IsRecord entries
tested_records true b c d found n reading number entries reads is =
    let none : [] ≡ entries = cc is in subst (λ (es : List Record). AllByRecursion IsRecord es) none tt
tested_records false true c d found n reading number entries reads is = absurd (cc is)
tested_records false false true d found n reading number entries reads is = absurd (cc is)
tested_records false false false true found n reading number entries reads is =
    let none : [] ≡ entries = cc is in subst (λ (es : List Record). AllByRecursion IsRecord es) none tt
tested_records false false false false found n reading number entries reads is = reads entries (cc is)

pub journal_records : (magic : List ℕ) (layout : Layout) (octets : List ℕ) (number : Option ℕ) (entries : List Record)
    → IsOctets octets → journal_of magic layout octets ≡ journal.store number (whole entries)
    → AllByRecursion IsRecord entries
unfolding journal_of
journal_records magic layout octets number entries are is =
    tested_records _ _ _ _ _ _ _ number entries
    (λ read same.
    let n = le32 octets 8 in
    let chosen = half_in layout octets in
    read_records _ _ read
    (All-drop (λ octet. octet < 256) (half_gate layout n chosen) (up_to (half_end layout n chosen) octets) (up_to_octets (half_end layout n chosen) octets are))
    same)
    is

-- ---- what octets stand for

module _ {S C : Type 0} (form : Form S C) (written : Written form) where
  -- the record of a command that the state before it allows is a step
  pub written_step : (before : S) (command : C) (entry : Record) → entry ≡ written.record_of command
      → written.IsWritable command → form.allowed before command
      → written.step before entry ≡ Some (form.after before command)
  written_step before command entry same writable allowed = grind (arith, common_steps)

  -- records that take a state to another are commands that do
  record AreTaken (before now : S) (entries : List Record) : Type 0 where
    commands : List C
    records_are : entries ≡ map written.record_of commands
    writable : AllByRecursion written.IsWritable commands
    allowed : AreAllowed form.allowed form.after before commands
    after_is : now ≡ after_all form.after before commands

  taken : (entries : List Record) (before now : S) → AllByRecursion IsRecord entries
      → Takes written.step before entries now → AreTaken before now entries
  taken [] before now are takes =
      record { commands = []; records_are = refl; writable = tt; allowed = tt; after_is = takes }
  taken (entry ∷ entries) before now are takes =
      let step = written.stepped before takes.0 entry takes.1 in
      let writes = written.writes entry step.0 are.0 step.1 in
      let rest = taken entries takes.0 now are.1 takes.2 in
      record {
        commands = step.0 ∷ rest.commands;
        records_are =
            ap (λ (e : Record). e ∷ entries) writes.1
            ∙ ap (λ (es : List Record). written.record_of step.0 ∷ es) rest.records_are;
        writable = (writes.0, rest.writable);
        allowed = (step.2, subst (λ (s : S). AreAllowed form.allowed form.after s rest.commands) step.3 rest.allowed);
        after_is = rest.after_is ∙ ap (λ (s : S). after_all form.after s rest.commands) step.3;
      }

  -- and the other way round
  takes_commands : (commands : List C) (before : S) → AllByRecursion written.IsWritable commands
      → AreAllowed form.allowed form.after before commands
      → Takes written.step before (map written.record_of commands) (after_all form.after before commands)
  takes_commands [] before writable allowed = refl
  takes_commands (command ∷ commands) before writable allowed = (
    form.after before command,
    written_step before command (written.record_of command) refl writable.0 allowed.0,
    takes_commands commands (form.after before command) writable.1 allowed.1,
  )

  -- octets whose records are these commands stand for the state after them
  pub after_stands : (octets : List ℕ) (now : S) (commands : List C) → IsAfter form written octets now commands
      → StandsFor form now octets
  after_stands octets now commands is =
      let place = λ (n : Option ℕ). half_gate form.layout (number_or (form.number now) n) (half_in form.layout octets) in
      let start : S = written.fresh (number_or (form.number now) is.number) in
      let entries = map written.record_of commands in
      written.standing (form.number now) octets
      ∙ ap (stands_of written.fresh written.step form.layout (half_in form.layout octets) (form.number now)) is.records
      ∙ sym ((one_walk written.step start (place is.number) (whole entries) (state now)).0 (
        entries,
        refl,
        subst (λ (s : S). Takes written.step start entries s) (sym is.after)
            (takes_commands commands start is.writable is.allowed),
      ))

  -- and what octets stand for is the state after the commands that their records are
  pub stands_after : (octets : List ℕ) (now : S) → IsOctets octets → StandsFor form now octets
      → (commands : List C) × IsAfter form written octets now commands
  stands_after octets now are stands =
      by (journal_of form.magic form.layout octets) refl (sym (written.standing (form.number now) octets) ∙ stands)
    where
      by : (standing : Standing) → journal_of form.magic form.layout octets ≡ standing
          → stands_of written.fresh written.step form.layout (half_in form.layout octets) (form.number now) standing ≡ state now
          → (commands : List C) × IsAfter form written octets now commands
      by (journal.no_store found) is made = absurd (cc made)
      by journal.bad_number is made = absurd (cc made)
      by (journal.store number reading) is made =
          let place = λ (n : Option ℕ). half_gate form.layout (number_or (form.number now) n) (half_in form.layout octets) in
          let start : S = written.fresh (number_or (form.number now) number) in
          let comes : ComesTo written.step start (place number) reading (state now) =
          (one_walk written.step start (place number) reading (state now)).1 (sym made) in
          let read : journal_of form.magic form.layout octets ≡ journal.store number (whole comes.0) =
          is ∙ ap (journal.store number) comes.1 in
          let all = taken comes.0 start now (journal_records form.magic form.layout octets number comes.0 are read) comes.2 in (
            all.commands,
            record {
              number = number;
              records = read ∙ ap (λ (es : List Record). journal.store number (whole es)) all.records_are;
              writable = all.writable;
              allowed = all.allowed;
              after = all.after_is;
            },
          )
