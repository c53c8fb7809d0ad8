-- The placed files as the code has them: with each one, what came of an upload of it that is out and isn't held yet.
use Rattle.std.specs.Prelude.{◌≡◌, ◌≢◌, ℕ, ◌≤◌, ◌<◌, ◌==◌, List, [], ◌∷◌, ◌++◌, length, map, find}
use Rattle.std.specs.Prelude.{slice_get, Option, None, Some, Bool, IsSome, IsTrue, nat_lt, if◌then◌else◌}
use Rattle.std.specs.Option.{option_and_then, option_map}
use Rattle.file_store_blocks.specs.IsPlaced.{IsPlaced}
use Rattle.file_store_blocks.specs.Placed.{Placed, PlacedStore, Seal, Uses, is_sealed, placed_from, placed_of, runs_of}
use Rattle.file_store_blocks.specs.PlacedCommand.{is_free}
use Rattle.file_store_blocks.specs.ReadStore.{ReadStore}
use Rattle.file_store_blocks.specs.declared.stored_file.SealMark.{SealMark}
use Rattle.file_store_blocks.specs.BlockTable.Table.{Run}
use Rattle.file_store_model.specs.declared.info.Info.{Info}

-- an entry, and if an upload of it is out, the octets that came and aren't held yet
pub record PlacedFile : Type 0 where
  pub entry : Placed
  pub rest : Option (List ℕ)

-- all of them, in rising number, with the number that the next one gets and how many blocks of 512 octets there are
pub record PlacedFiles : Type 0 where
  pub files : List PlacedFile
  pub next : ℕ
  pub blocks : ℕ

-- the same; and by the records that were read, the least number that a further file may have, and whether none was read
-- yet
pub record EntriesState : Type 0 where
  pub files : PlacedFiles
  pub least : ℕ
  pub first : Bool

-- these files, by their parts
abbrev pub files_from : List PlacedFile → ℕ → ℕ → PlacedFiles
files_from files next blocks = record { files = files; next = next; blocks = blocks }

-- the entries of these files
abbrev pub entries_of : List PlacedFile → List Placed
entries_of files = map (λ f. f.entry) files

-- the store that they are
abbrev pub store_of : PlacedFiles → PlacedStore
store_of files = placed_from (entries_of files.files) files.next files.blocks

-- the store that is read
abbrev pub read_of : EntriesState → ReadStore
read_of entries = record { store = store_of entries.files; least = entries.least; first = entries.first }

-- what the reading of further records asks for is as it was
pub record KeepsReading (before now : EntriesState) : Type 0 where
  pub least : now.least ≡ before.least
  pub first : now.first ≡ before.first

-- the file of this number
abbrev pub file_of : List PlacedFile → ℕ → Option PlacedFile
file_of files number = find (λ f. f.entry.number == number) files

-- the octets that came of the entry of this number and aren't held yet, if an upload of it is out
abbrev pub rest_of : PlacedFiles → ℕ → Option (List ℕ)
rest_of files number = option_and_then (λ f. f.rest) (file_of files.files number)

-- an upload of this number is out
abbrev pub IsOut : PlacedFiles → ℕ → Type 0
IsOut files number = IsSome (rest_of files number)

-- no upload is out
abbrev pub NothingOut : PlacedFiles → Type 0
NothingOut files = (number : ℕ) → rest_of files number ≡ None

-- of each other number the same upload is out, with the same octets
abbrev pub KeepsRests : PlacedFiles → PlacedFiles → ℕ → Type 0
KeepsRests before now number = (other : ℕ) → other ≢ number → rest_of now other ≡ rest_of before other

-- The store is this one, the upload of this number is so, and each other one as it was.
pub record Becomes (before now : PlacedFiles) (store : PlacedStore) (number : ℕ) (rest : Option (List ℕ)) : Type 0 where
  pub store_is : store_of now ≡ store
  pub here : rest_of now number ≡ rest
  pub others : KeepsRests before now number

-- The store is as it was, and so is each upload that is out except the one of this number, which is so now.
abbrev pub ChangesRest : PlacedFiles → PlacedFiles → ℕ → Option (List ℕ) → Type 0
ChangesRest before now number rest = Becomes before now (store_of before) number rest

-- the octets that wait, or none
abbrev pub octets_or_none : Option (List ℕ) → List ℕ
octets_or_none None = []
octets_or_none (Some octets) = octets

-- this many octets wait of the upload of this number that is out, and no more
abbrev pub Waits : PlacedFiles → ℕ → ℕ → Type 0
Waits files number count = (rest : List ℕ) × (rest_of files number ≡ Some rest) × (length rest ≡ count)

-- the octets of this number that wait once these came too
abbrev pub rest_with : PlacedFiles → ℕ → List ℕ → Option (List ℕ)
rest_with files number octets = option_map (λ rest. rest ++ octets) (rest_of files number)

-- this is the place of the file of this number
pub record IsPlace (files : List PlacedFile) (number place : ℕ) : Type 0 where
  pub file : PlacedFile
  pub there : slice_get files place ≡ Some file
  pub same : file.entry.number ≡ number

-- the file with these octets after those that wait, if an upload is out
abbrev pub brought : PlacedFile → List ℕ → PlacedFile
brought file octets = record file { rest = option_map (λ rest. rest ++ octets) file.rest }

-- whether the file lacks octets still
abbrev pub lacks_octets : Placed → Bool
lacks_octets file = nat_lt file.held file.length

-- no file has this block, and some file has each one below it
pub record IsLowest (store : PlacedStore) (block : ℕ) : Type 0 where
  pub free : IsTrue (is_free store block)
  pub lower : (other : ℕ) → other < block → Uses store other

-- the file of this number is sealed
abbrev pub IsSealedIn : PlacedStore → ℕ → Type 0
IsSealedIn store number = (file : Placed) × (placed_of store number ≡ Some file) × IsTrue (is_sealed file)

-- the least number above this one of a sealed file, or that there is none
abbrev pub IsNextSealed : PlacedStore → ℕ → Option ℕ → Type 0
IsNextSealed store above None = (number : ℕ) → above < number → IsSealedIn store number → ⊥
IsNextSealed store above (Some next) =
    (above < next) × IsSealedIn store next
    × ((number : ℕ) → above < number → IsSealedIn store number → next ≤ number)

-- whether the file is sealed
abbrev pub is_sealed_file : PlacedFile → Bool
is_sealed_file file = is_sealed file.entry

-- what a store reports about a file
abbrev pub placed_info : Placed → Info
placed_info file =
    record {
      number = file.number;
      caller = file.caller;
      length = file.length;
      held = file.held;
      complete = is_sealed file;
      begun = file.begun;
    }

-- ---- how the code has them: each file without its blocks, which the run at its place has

-- the octets that wait, if an upload is out
abbrev pub rest_when : Bool → List ℕ → Option (List ℕ)
rest_when out octets = if out then Some octets else None

-- the seal that the code has
abbrev pub seal_value : SealMark → Seal
seal_value mark = record { moment = mark.moment; sum = mark.sum; header = mark.header_len }

-- the same, if there is one
abbrev pub seal_of : Option SealMark → Option Seal
seal_of mark = option_map seal_value mark

-- the file with the blocks of this run
abbrev pub with_run : Run → PlacedFile → PlacedFile
with_run run file = record file { entry = record file.entry { blocks = run.blocks } }

-- each file with the blocks of the run at its place
abbrev pub in_runs : List Run → List PlacedFile → List PlacedFile
in_runs [] files = []
in_runs (run ∷ runs) [] = []
in_runs (run ∷ runs) (file ∷ files) = with_run run file ∷ in_runs runs files

-- The rules of a store of placed files hold; each file has the run at its place, which may have as many blocks as the
-- file takes; and there are 1 to 65,536 blocks.
pub record AreKept (runs : List Run) (files : List PlacedFile) (next blocks : ℕ) : Type 0 where
  pub rules : IsPlaced (store_of (files_from (in_runs runs files) next blocks))
  pub runs_are : runs_of (entries_of (in_runs runs files)) ≡ runs
  pub count : length runs ≡ length files
  pub some : 1 ≤ blocks
  pub most : blocks ≤ 65536
