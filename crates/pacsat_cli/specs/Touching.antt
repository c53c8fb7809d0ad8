-- What each command may touch of what a run is lent, and what a run leaves alone by that.
use Rattle.std.specs.Prelude.{◌≡◌, ◌⊎◌, ℕ, List, Bool, true, false, Option, None, Some}
use Rattle.px_base.specs.Shelves.{Holding}
use Rattle.disk_model.specs.declared.disk.Disk.{Ghosts}
use Rattle.turn_loop.specs.Lent.{Lent, Seen}
use Rattle.command_words.specs.declared.client.ClientRequest.{ClientRequest}
use Rattle.command_words.specs.declared.client.ClientRequest.TheVariants as client
use Rattle.command_words.specs.declared.disk.DiskWord.{DiskWord}
use Rattle.command_words.specs.declared.disk.DiskWord.TheVariants.{Fresh, Named}
use Rattle.command_words.specs.declared.request.Request.{Request}
use Rattle.command_words.specs.declared.request.Request.TheVariants.{Client, File, Making, Rehearse, Serve, Session}
use Rattle.command_words.specs.Asked.{AsksFor}
use Rattle.command_words.specs.Laws.{AsksServe, AsksSession}
use Rattle.command_words.specs.Words.{AsksList, AsksMake, AsksRehearse, IsUsage}
use Rattle.pacsat_cli.specs.Run.{Stays}
use Rattle.pacsat_cli.specs.Sessions.{AsksDisk, AsksMoment}
use Rattle.pacsat_cli.specs.Tasks.{AsksFile, AsksKept}

-- What a command may touch: the disk, the air, the clock, the shelf, what the shelf holds, and the disks of the bench.
-- A shelf that is only read is touched, and holds what it held.
pub record Reach : Type 0 where
  pub disk : Bool
  pub air : Bool
  pub clock : Bool
  pub shelf : Bool
  pub holding : Bool
  pub bench : Bool

-- nothing
abbrev pub nothing : Reach
nothing =
    record { disk = false; air = false; clock = false; shelf = false; holding = false; bench = false }

-- disk, air and clock
abbrev pub a_node : Reach
a_node = record nothing { disk = true; air = true; clock = true }

-- whether the word names a disk
abbrev pub is_named : DiskWord → Bool
is_named Named = true
is_named Fresh = false

-- whether no moment is given, so that the clock is asked
abbrev pub is_clocked : Option ℕ → Bool
is_clocked None = true
is_clocked (Some moment) = false

-- The table: what each command of a client may touch,
abbrev pub client_reach : ClientRequest → Reach
client_reach (client.Send asked) = record a_node { shelf = true }
client_reach (client.Fetch asked) = record a_node { shelf = true; holding = true }
client_reach (client.List asked) = a_node

-- and each command.
abbrev pub reach_of : Request → Reach
reach_of (Session asked) = record a_node { disk = is_named asked.disk; clock = is_clocked asked.moment }
reach_of (Serve asked) = a_node
reach_of (Client asked) = client_reach asked
reach_of (File command name) = record nothing { shelf = true }
reach_of (Making asked) = record nothing { shelf = true; holding = true }
reach_of (Rehearse asked) = record nothing { shelf = true; bench = true }

-- What a run is lent at one moment, but for the output: a disk, an air and a clock, a shelf, and the disks of a bench.
pub record Lendings (D A C S B : Type 0) : Type 0 where
  pub lent : Lent D A C
  pub shelf : S
  pub bench : List B

abbrev pub lendings : {D A C S B : Type 0} → Lent D A C → S → List B → Lendings D A C S B
lendings lent shelf bench = record { lent = lent; shelf = shelf; bench = bench }

module _ {D A C S B : Type 0} (held : S → Option Holding) (old new : Lendings D A C S B) where
  -- What this doesn't have was left as it was.
  pub record LeavesBut (reach : Reach) : Type 0 where
    pub disk : reach.disk ≡ false → new.lent.disk ≡ old.lent.disk
    pub air : reach.air ≡ false → new.lent.air ≡ old.lent.air
    pub clock : reach.clock ≡ false → new.lent.clock ≡ old.lent.clock
    pub shelf : reach.shelf ≡ false → new.shelf ≡ old.shelf
    pub holding : reach.holding ≡ false → Stays held old.shelf new.shelf
    pub bench : reach.bench ≡ false → new.bench ≡ old.bench

  module _ (words : List (List ℕ)) where
    -- Nothing was touched; or these words ask for a command, and nothing was but what its row of the table has.
    abbrev pub Touches : Type 0
    Touches = (new ≡ old) ⊎ ((asked : Request) × AsksFor words asked × LeavesBut (reach_of asked))

    -- What that comes to, command by command. Words that aren't in the command set touch nothing.
    pub record LeavesAlone : Type 0 where
      pub untouched : IsUsage words → new ≡ old
      pub session_alone : AsksSession words → new.shelf ≡ old.shelf
      pub serve_alone : AsksServe words → new.shelf ≡ old.shelf
      pub list_alone : AsksList words → new.shelf ≡ old.shelf
      pub clock_unasked : AsksMoment words → new.lent.clock ≡ old.lent.clock
      pub files_alone : AsksFile words → (new.lent.air ≡ old.lent.air) × (new.lent.clock ≡ old.lent.clock)
      pub made_alone : AsksMake words → (new.lent.air ≡ old.lent.air) × (new.lent.clock ≡ old.lent.clock)
      pub rehearsal_alone : AsksRehearse words → (new.lent.air ≡ old.lent.air) × (new.lent.clock ≡ old.lent.clock)
      pub disk_alone : (AsksDisk words → ⊥) → new.lent.disk ≡ old.lent.disk
      pub held_stays : (AsksKept words → ⊥) → Stays held old.shelf new.shelf
      pub bench_alone : (AsksRehearse words → ⊥) → new.bench ≡ old.bench

-- The relation says all of that, of what these tell.
abbrev pub TouchesLaw : {D A C S B : Type 0} → Seen D A C → (S → Option Holding) → Ghosts B → Type 0
TouchesLaw {D} {A} {C} {S} {B} seen held bench =
    (words : List (List ℕ)) (old new : Lendings D A C S B) → Touches held old new words
    → LeavesAlone held old new words
