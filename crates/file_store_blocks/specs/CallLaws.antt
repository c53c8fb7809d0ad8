-- A record that is a command names a call, if the command names a caller.
use Rattle.std.proofs.Common.{◌≡◌, ℕ, ◌==◌, List, length, take, drop, None, Some, sym, subst, inl, inr}
use Rattle.std.specs.Prelude.{if◌then◌else◌}
use Rattle.std.proofs.lemmas.Bool.Decides.{eqb_tells}
use Rattle.file_store_blocks.specs.PlacedCommand.{PlacedCommand, begin, drop_entry, grow, seal, seen_command}
use Rattle.file_store_blocks.specs.PlacedRecords.{begin_by, begin_in, placed_in, recorded_in}
use Rattle.file_store_blocks.specs.ReadLaws.{NamesCall}
use Rattle.file_store_blocks.specs.ReadStore.{Recorded, change, next_is}
use Rattle.file_store_model.specs.Command.{HasCall}
use Rattle.file_journal.specs.Layout.{Blocks}
use Rattle.file_journal.specs.Records.{Record}
use Rattle.file_journal.proofs.Offered.{if_some, map_some}
use Rattle.px_base.specs.CallOctets.{call_in}
use Rattle.px_base.specs.CallSign.{CallSign}
use Rattle.px_base.specs.Numbers.{le16, le32}
use Rattle.px_base.proofs.Spelled.{law}

-- what a command is seen as names the caller that it names
abbrev Names : Blocks → PlacedCommand → Type 0
Names held command = HasCall (seen_command held command)

begin_call :
    (held : Blocks) (content : List ℕ) (command : PlacedCommand) → begin_in content ≡ Some command
    → Names held command
begin_call held content command is =
    let call = call_in (take 7 (drop 4 content)) in
    let make : CallSign → PlacedCommand =
    λ caller. begin (le32 content 0) caller (le32 content 11) (le32 content 15) in
    let some = if_some (length content == 19) (begin_by content call) command is in
    let by = map_some make call command some.1 in
    subst (Names held) (sym by.2) ((law (take 7 (drop 4 content)) by.0).0 by.1).0

-- one that names none
made_call :
    (held : Blocks) (content : List ℕ) (len : ℕ) (made command : PlacedCommand) → Names held made
    → (if length content == len then Some made else None) ≡ Some command → Names held command
made_call held content len made command names is =
    let some = if_some (length content == len) (Some made) command is in
    let same : made ≡ command = let e = some.1 in cc in
    subst (Names held) same names

pub read_call :
    (held : Blocks) (entry : Record) (command : PlacedCommand) → placed_in entry ≡ Some command
    → HasCall (seen_command held command)
unfolding placed_in
read_call held entry command is =
    let content = entry.content in
    elim (eqb_tells entry.kind 1) [
      | inl w ↦ begin_call held content command (rw w.0 at is)
      | inr w ↦
          let second = rw w.0 at is in
          elim (eqb_tells entry.kind 2) [
            | inl v ↦
                let made = grow (le32 content 0) (le32 content 4) (le16 content 8) in
                made_call held content 10 made command tt (rw v.0 at second)
            | inr v ↦
                let third = rw v.0 at second in
                elim (eqb_tells entry.kind 3) [
                  | inl u ↦
                      let made = seal (le32 content 0) (le32 content 4) (le16 content 8) in
                      made_call held content 10 made command tt (rw u.0 at third)
                  | inr u ↦
                      let fourth = rw u.0 at third in
                      elim (eqb_tells entry.kind 4) [
                        | inl t ↦ made_call held content 4 (drop_entry (le32 content 0)) command tt (rw t.0 at fourth)
                        | inr t ↦ let none = rw t.0 at fourth in absurd (cc)
                      ]
                ]
          ]
    ]

-- and what a record says names one
pub recorded_call :
    (held : Blocks) (entry : Record) (recorded : Recorded) → recorded_in entry ≡ Some recorded
    → NamesCall held recorded
unfolding recorded_in
recorded_call held entry recorded is =
    elim (eqb_tells entry.kind 5) [
      | inl w ↦
          let number = next_is (le32 entry.content 0) in
          let some = if_some (length entry.content == 4) (Some number) recorded (rw w.0 at is) in
          let same : number ≡ recorded = let e = some.1 in cc in
          subst (NamesCall held) same tt
      | inr w ↦
          let made = map_some change (placed_in entry) recorded (rw w.0 at is) in
          subst (NamesCall held) (sym made.2) (read_call held entry made.0 made.1)
    ]
