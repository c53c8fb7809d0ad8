-- A kind of state that a journal of commands keeps, and what octets stand for as one.
use Rattle.std.specs.Prelude.{◌≡◌, ℕ, List, refl}
use Rattle.file_journal.specs.Layout.{Blocks}
use Rattle.file_journal.specs.Walk.{Stands, state}
use Rattle.file_journal.specs.declared.layout.Layout.{Layout}

-- What a journal of this magic and layout keeps: its states S; the block number with which octets that have none yet
-- are read as a state, and what octets stand for, read with a block number; which commands C a state allows, and the
-- state after one; how many calls of the disk, each a write or a sync, a command takes; and how many octets its record
-- has, with its gate.
pub record Form (S C : Type 0) : Type 1 where
  pub magic : List ℕ
  pub layout : Layout
  pub number : S → ℕ
  pub standing : ℕ → List ℕ → Stands S
  pub allowed : S → C → Type 0
  pub after : S → C → S
  pub calls : C → ℕ
  pub octets : C → ℕ

-- one record takes four calls of the disk
abbrev pub record_calls : ℕ
record_calls = 4

-- What octets stand for as a state of this form. Octets that have no block number yet stand for the fresh state of this
-- one.
abbrev pub standing_of : {S C : Type 0} → Form S C → ℕ → List ℕ → Stands S
standing_of form blocks octets = form.standing blocks octets

-- the octets stand for this state
abbrev pub StandsFor : {S C : Type 0} → Form S C → S → List ℕ → Type 0
StandsFor form now octets = standing_of form (form.number now) octets ≡ state now

-- Whatever block number octets were read with as a state, they stand for that state.
abbrev pub TellsItsNumber : {S C : Type 0} → Form S C → Type 0
TellsItsNumber {S} form =
    (blocks : ℕ) (octets : List ℕ) (now : S) → standing_of form blocks octets ≡ state now → StandsFor form now octets

-- What one form says of its states and commands the other says of these, and of each ledger that holds one with what
-- the blocks of the disk hold: it is the same form, whatever its states and commands are called.
pub record IsFormOf {L S C T D : Type 0} (one : Form S C) (held_by : Blocks → L → S) (other : Form T D)
    (held : Blocks → L → T) : Type 0 where
  pub state_of : S → T
  pub command_of : C → D
  pub magic : one.magic ≡ other.magic
  pub layout : one.layout ≡ other.layout
  pub number : (now : S) → one.number now ≡ other.number (state_of now)
  pub standing :
      (blocks : ℕ) (octets : List ℕ) (now : S) → one.standing blocks octets ≡ state now
      → other.standing blocks octets ≡ state (state_of now)
  pub allowed : (now : S) (command : C) → one.allowed now command → other.allowed (state_of now) (command_of command)
  pub after :
      (now : S) (command : C) → state_of (one.after now command) ≡ other.after (state_of now) (command_of command)
  pub calls : (command : C) → one.calls command ≡ other.calls (command_of command)
  pub octets : (command : C) → one.octets command ≡ other.octets (command_of command)
  pub holds : (blocks : Blocks) (ledger : L) → state_of (held_by blocks ledger) ≡ held blocks ledger

-- each form is that of itself
abbrev pub same_form :
    {L S C : Type 0} → (form : Form S C) (held : Blocks → L → S) → IsFormOf form held form held
same_form form held =
    record {
      state_of = λ now. now;
      command_of = λ command. command;
      magic = refl;
      layout = refl;
      number = λ now. refl;
      standing = λ blocks octets now is. is;
      allowed = λ now command is. is;
      after = λ now command. refl;
      calls = λ command. refl;
      octets = λ command. refl;
      holds = λ blocks ledger. refl;
    }
