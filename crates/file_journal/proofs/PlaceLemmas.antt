-- Which records made a state that stands on a disk, and where the journal goes on behind them.
use Rattle.std.proofs.Common.{◌≡◌, ℕ, ◌+◌, ◌≤◌, false, List, length, Option, Some, IfSome, sym, ◌∙◌, ap, subst, arith}
use Rattle.file_journal.proofs.Names.{AllByRecursion, Ghosts, images_now, Form, store_of, octets_of, HasRoomFor, StandsAt, Blocks, block_in, half_end, half_gate, half_size, Takes, Position, gate_of, store_in, IsRecord, Reading, Record, records_text, whole, with_records, IsSeenBy, StandsAs, Steps, number_or, Layout, at_told, Growing, InBlocks, Halves}
use Rattle.file_journal.proofs.HoldLemmas.{store_comes}
use Rattle.file_journal.proofs.PositionLemmas.{among_records}
use Rattle.file_journal.proofs.ReadingLemmas.{all_whole}
use Rattle.file_journal.proofs.StandingLemmas.{journal_records}
use Rattle.file_journal.proofs.WalkLemmas.{made_there}

-- With what the blocks of these octets hold, these records make a state of which this is kept, and the journal goes on
-- behind them in its half.
pub record AreMade {S K : Type 0} (steps : Steps S K) (position : Position) (now : K) (octets : List ℕ) : Type 0 where
  pub records : List Record
  pub made : S
  pub are_records : AllByRecursion IsRecord records
  pub takes : Takes (steps.step (block_in octets)) (steps.fresh position.blocks) records made
  pub kept : steps.kept made ≡ now
  pub place : position.place ≡ gate_of position + length (records_text records)

-- so where a state stands whose journal hasn't failed
pub are_made : {D S K V C : Type 0} (g : Ghosts D) (steps : Steps S K) (seen : Blocks → K → V) (form : Form V C) → IsSeenBy steps seen form → (position : Position) (now : K) (disk : D) (octets : List ℕ)
    → StandsAt g form steps position now disk → position.failed ≡ false → g.content disk ≡ Some octets → AreMade steps position now octets
are_made g steps seen form law position now disk octets at healthy told =
    let held = block_in octets in
    let keeps = at.holds.keeps in
    let stands = store_comes g steps seen form law position octets now (at_told (StandsAs steps position now) octets told (keeps.content healthy)) in
    let among = at_told _ octets told (among_records position (g.content disk) (images_now g disk) healthy keeps.stands_on) in
    let was = made_there steps seen form law held position.layout position.half position.blocks (store_in position octets) stands.0 stands.1 in
    let ends : store_in position octets ≡ store_of position.blocks (whole among.0) =
    among.1.records ∙ ap (λ (r : Reading). store_of position.blocks (with_records among.0 r)) (among.1.ended (keeps.ended healthy)) ∙ ap (store_of position.blocks) (all_whole among.0) in
    record {
      records = was.1;
      made = stands.0;
      are_records = journal_records position.magic position.layout octets was.0 was.1 among.1.are_octets was.2;
      takes = subst (λ (n : Option ℕ). Takes (steps.step held) (steps.fresh (number_or position.blocks n)) was.1 stands.0) (let number : was.0 ≡ Some position.blocks = cc (sym was.2 ∙ ends) in number) was.3;
      kept = stands.2;
      place = among.1.place ∙ ap (λ (rs : List Record). gate_of position + length (records_text rs)) (sym (let same : was.1 ≡ among.0 = cc (sym was.2 ∙ ends) in same));
    }

-- There is room for the records of commands where they end, with one gate more, so far behind the first gate of a half.
pub room_within : {S C : Type 0} (form : Form S C) (position : Position) (commands : List C) (most : ℕ) → position.layout ≡ form.layout → position.place + octets_of form commands ≤ gate_of position + most
    → most + 1 ≤ half_size position.blocks → HasRoomFor form position commands
room_within form position commands most same ends fits =
    by form.layout (subst (λ (l : Layout). position.place + octets_of form commands ≤ half_gate l position.blocks position.half + most) same ends)
  where
    by : (l : Layout) → position.place + octets_of form commands ≤ half_gate l position.blocks position.half + most
        → IfSome (half_end l position.blocks position.half) (λ end. position.place + 1 + octets_of form commands ≤ end)
    by Growing ends_so = tt
    by InBlocks ends_so = tt
    by Halves ends_so = omega (arith, ends_so, fits)
