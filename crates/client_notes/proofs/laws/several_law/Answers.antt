use Rattle.client_notes.proofs.Names.{IsTrue}
use Rattle.client_notes.proofs.SeveralLemmas.{Several-one, Several-then}
use Rattle.client_notes.proofs.laws.several_law.Goals as goal

pub returns : goal.returns
returns g c = record {
  joined = λ failed old between new disk disk_then disk_now these those first second.
      Several-then g.D.Disk g.met.D.Disk.lasts_on ⊥ (IsTrue failed) old between new disk disk_then disk_now these those (λ never. never) first second;
  one = λ failed old new disk disk_now command does. Several-one g.D.Disk (IsTrue failed) old new disk disk_now command does;
}
