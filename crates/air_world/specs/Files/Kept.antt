-- When a file is kept as its client's (FTL0 1990, uploading; PFH 1990).
use Rattle.std.specs.Prelude.{◌≡◌, ◌⊎◌, ℕ, ◌≤◌, List, length, None, Some}
use Rattle.px_base.specs.CallSign.{CallSign}
use Rattle.px_base.specs.Octets.{IsFront}
use Rattle.pfh_items.specs.Stamp.{stamped}
use Rattle.pfh_writer.specs.KeptFile.{KeepsClient}
use Rattle.file_store.specs.Store.{Entry, Store, complete, entry_of, octets_of, partial}
use Rattle.client_notes.specs.Answers.{noted_at}
use Rattle.client_notes.specs.declared.answers.Noted.TheVariants as noted
use Rattle.air_world.specs.Attempts.Party.{Asked, IsFileOf, Party}

-- The client holds an acknowledgement: its notes have it that the task's file was acknowledged with this number.
abbrev pub HoldsAck : Party → ℕ → ℕ → Type 0
HoldsAck party task number = noted_at party.client.lists task ≡ Some (noted.Acked task number)

-- The entry of this number is the caller's, and complete with the file, stamped with its number, its caller and its own
-- moment. So it has the client's body, and the client's items except those that the server fills in.
pub record IsKept (store : Store) (number : ℕ) (file : List ℕ) (caller : CallSign) : Type 0 where
  pub entry : Entry
  pub is_entry : entry_of store number ≡ Some entry
  pub caller_is : entry.caller ≡ caller
  pub moment : ℕ
  pub whole :
      entry.holding ≡ complete (stamped (record { number = number; by = caller; moment = moment }) file) moment
  pub keeps : KeepsClient file (octets_of entry.holding)

-- the task's file is kept under this number
abbrev pub IsTaskKept : List Asked → Store → Party → ℕ → ℕ → Type 0
IsTaskKept files store party task number =
    (file : List ℕ) × IsFileOf files party task file × IsKept store number file party.client.me

-- The entry of this number is the caller's, is to have the file's length, and holds the file's first octets.
pub record IsUnderWay (store : Store) (number : ℕ) (file : List ℕ) (caller : CallSign) : Type 0 where
  pub entry : Entry
  pub is_entry : entry_of store number ≡ Some entry
  pub caller_is : entry.caller ≡ caller
  pub length_is : entry.length ≡ length file
  pub held : List ℕ
  pub holds : entry.holding ≡ partial held
  pub front : IsFront held file

-- there is no entry of this number, or it is on the way to the file, or is the file
abbrev pub IsFileAt : Store → ℕ → List ℕ → CallSign → Type 0
IsFileAt store number file caller =
    (entry_of store number ≡ None) ⊎ (IsUnderWay store number file caller ⊎ IsKept store number file caller)

-- the entry of this number, if it is there, is on the way to the task's file, or is it
abbrev pub IsTaskAt : List Asked → Store → Party → ℕ → ℕ → Type 0
IsTaskAt files store party task number =
    (file : List ℕ) × IsFileOf files party task file × IsFileAt store number file party.client.me

-- if there is an entry of this number it is so
abbrev pub WhereStands : Store → ℕ → (Entry → Type 0) → Type 0
WhereStands store number P = (entry : Entry) → entry_of store number ≡ Some entry → P entry

-- the entry holds as many octets as this offset, at least
abbrev pub HoldsTo : ℕ → Entry → Type 0
HoldsTo offset entry = offset ≤ length (octets_of entry.holding)
