-- An upload that is under way: what its holder knows of the entry.
use Rattle.std.specs.Prelude.{◌≡◌, ◌⊎◌, ℕ, ◌+◌, ◌*◌, ◌/◌, ◌<◌, ◌≤◌, List, [], ◌∷◌, ◌++◌, length, Some, Option, None}
use Rattle.px_base.specs.CallSign.{CallSign}
use Rattle.file_store_model.specs.Faults.{fault_code}
use Rattle.file_store_model.specs.Stamp.{StampValue, stamped}
use Rattle.file_store_model.specs.Limits.{longest_file}
use Rattle.file_store_model.specs.Command.{Command, seal, drop_entry, last_grow, whole_grows}
use Rattle.file_store_blocks.specs.PlacedFiles.{octets_or_none}
use Rattle.file_store_model.specs.Store.{partial, entry_of, octets_at, Entry, Holding, Store}
use Rattle.file_store.specs.State.{StoreState, rest_in, store_in}

pub record Upload : Type 0 where
  pub number : ℕ
  pub caller : CallSign
  pub length : ℕ
  pub held : ℕ

-- an upload by its parts
abbrev pub upload_from : ℕ → CallSign → ℕ → ℕ → Upload
upload_from number caller file_length held =
    record { number = number; caller = caller; length = file_length; held = held }

-- no more octets are held than the file has
pub record IsUpload (up : Upload) : Type 0 where
  pub held : up.held ≤ up.length
  pub file : up.length ≤ longest_file

-- an upload's entry, begun in this moment, that has come so far
abbrev pub entry_for : Upload → ℕ → Holding → Entry
entry_for up begun holding =
    record { number = up.number; caller = up.caller; length = up.length; begun = begun; holding = holding }

-- The store's entry is the upload's, under way, and holds as many octets as the upload says. The upload is out, fewer
-- than 512 octets that came wait to be held, and no more came than the file has.
pub record Holds (self : StoreState) (up : Upload) : Type 0 where
  pub begun : ℕ
  pub held : List ℕ
  pub entry : entry_of (store_in self) up.number ≡ Some (entry_for up begun (partial held))
  pub count : length held ≡ up.held
  pub rest : List ℕ
  pub out : rest_in self up.number ≡ Some rest
  pub few : length rest < 512
  pub came : up.held + length rest ≤ up.length

-- the store's entry is the upload's, under way, and holds as many octets as the upload says
abbrev pub HasEntry : StoreState → Upload → Type 0
HasEntry self up =
    (begun : ℕ) × (held : List ℕ)
    × (entry_of (store_in self) up.number ≡ Some (entry_for up begun (partial held))) × (length held ≡ up.held)

-- the upload of a file that was just begun
abbrev pub new_upload : ℕ → CallSign → ℕ → Upload
new_upload number caller file_length = upload_from number caller file_length 0

-- the octets that came and aren't held yet
abbrev pub waiting : StoreState → Upload → List ℕ
waiting self up = octets_or_none (rest_in self up.number)

-- how many octets came of the file
abbrev pub came : StoreState → Upload → ℕ
came self up = up.held + length (waiting self up)

-- fewer than 512 octets wait of the upload, and no more came than the file has
abbrev pub WaitFew : StoreState → Upload → Type 0
WaitFew self up = (length (waiting self up) < 512) × (came self up ≤ up.length)

-- the octets that came of the file of this number: those held of it in this store, then those that wait
abbrev pub come_of : Store → StoreState → ℕ → List ℕ
come_of store self number = octets_at (entry_of store number) ++ octets_or_none (rest_in self number)

-- the octets that came of the upload's file, of which this store holds the first
abbrev pub octets_come : Store → StoreState → Upload → List ℕ
octets_come store self up = come_of store self up.number

-- the octets that wait of this number and these
abbrev pub waiting_with : StoreState → ℕ → List ℕ → List ℕ
waiting_with self number bytes = octets_or_none (rest_in self number) ++ bytes

-- the same of the upload's
abbrev pub with_bytes : StoreState → Upload → List ℕ → List ℕ
with_bytes self up bytes = waiting_with self up.number bytes

-- the commands by which these octets are appended: a Grow for each whole 512 of those that wait then
abbrev pub appending : StoreState → Upload → List ℕ → List Command
appending self up bytes = whole_grows up.number (with_bytes self up bytes)

-- the upload afterwards
abbrev pub appended : StoreState → Upload → List ℕ → Upload
appended self up bytes = record up { held = up.held + 512 * (length (with_bytes self up bytes) / 512) }

-- what the upload's file is stamped with: its number, its caller and this moment
abbrev pub upload_stamp : Upload → ℕ → StampValue
upload_stamp up moment = record { number = up.number; by = up.caller; moment = moment }

-- the upload's file as it is kept: the octets that came of it, stamped
abbrev pub kept_file : Store → StoreState → Upload → ℕ → List ℕ
kept_file store self up moment = stamped (upload_stamp up moment) (octets_come store self up)

-- the command that ends the file of this number, of which all octets came: Seal, or Drop if it has a fault
abbrev pub ending : ℕ → ℕ → Option ℕ → Command
ending number moment None = seal number moment
ending number moment (Some code) = drop_entry number

-- the commands that end the file of this number: those that wait become held, and it is sealed, or dropped if it has a
-- fault
abbrev pub sealing_of : Store → StoreState → ℕ → ℕ → List Command
sealing_of store self number moment =
    last_grow number (octets_or_none (rest_in self number))
    ++ ending number moment (fault_code (come_of store self number)) ∷ []

-- the same of the upload's file
abbrev pub sealing : Store → StoreState → Upload → ℕ → List Command
sealing store self up moment = sealing_of store self up.number moment

-- the upload once those that wait are held too, if all of its file's octets came
abbrev pub held_whole : Upload → Upload
held_whole up = record up { held = up.length }

-- an upload of the entry of this number isn't out if this caller could go on with it
abbrev pub MayResume : StoreState → ℕ → CallSign → Type 0
MayResume self number caller =
    (entry : Entry) (held : List ℕ) → entry_of (store_in self) number ≡ Some entry → entry.holding ≡ partial held
    → entry.caller ≡ caller → rest_in self number ≡ None

-- the upload of this entry, with all octets that it holds
abbrev pub upload_of : Entry → Upload
upload_of entry = upload_from entry.number entry.caller entry.length (length (octets_at (Some entry)))

-- The entry of this number is under way, an upload of it is out, and the octets that wait fit it.
pub record FitsWaiting (self : StoreState) (number : ℕ) : Type 0 where
  pub entry : Entry
  pub is_entry : entry_of (store_in self) number ≡ Some entry
  pub held : List ℕ
  pub partial_is : entry.holding ≡ partial held
  pub rest : List ℕ
  pub out : rest_in self number ≡ Some rest
  pub fits : length held + length rest ≤ entry.length

-- The same, if fewer than 512 octets wait, and those that come fit the entry too.
pub record FitsBytes (self : StoreState) (number : ℕ) (bytes : List ℕ) : Type 0 where
  pub waits : FitsWaiting self number
  pub few : length waits.rest < 512
  pub fits : length waits.held + length (waits.rest ++ bytes) ≤ waits.entry.length

-- This many octets wait of a file that fits them; they fill a block, or are all that it lacks.
pub record FillsBlock (self : StoreState) (number count : ℕ) : Type 0 where
  pub waits : FitsWaiting self number
  pub some : 1 ≤ count
  pub most : count ≤ 512
  pub all : length waits.rest ≡ count
  pub fills : (count ≡ 512) ⊎ (length waits.held + count ≡ waits.entry.length)

-- All octets of the file came: fewer than 512 wait, and with those held they are as many as the file has.
pub record IsWholeWaiting (self : StoreState) (number : ℕ) : Type 0 where
  pub waits : FitsWaiting self number
  pub few : length waits.rest < 512
  pub all : length waits.held + length waits.rest ≡ waits.entry.length
