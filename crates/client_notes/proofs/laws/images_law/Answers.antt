use Rattle.client_notes.proofs.PutLemmas.{images-here}
use Rattle.client_notes.proofs.laws.images_law.Goals as goal

pub returns : goal.returns
returns g c =
    images-here g.D.Disk c.args.notes.now.journal c.args.disk.now c.args.notes.now.lists c.requires.healthy c.requires.stands_on
