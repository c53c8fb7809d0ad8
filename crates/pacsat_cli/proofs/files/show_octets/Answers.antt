-- Each command's text of the octets, as it was shown.
use Rattle.std.proofs.Common.{refl}
use Rattle.command_words.specs.declared.command.FileCommand.TheVariants as command
use Rattle.pacsat_cli.proofs.FilesShown.{front-shown, put-shown}
use Rattle.pacsat_cli.proofs.files.show_octets.Goals as goal

pub returns-in-Err-clause-shown : goal.returns-in-Err-clause-shown
returns-in-Err-clause-shown g c =
    let shown = c.in-Err.ensures.shown in
    rw c.in-Frames.is
    (front-shown g.O.Out.shown g.O.Out.faults command.Frames c.args.octets.now c.requires c.args.out.now c.show_frames.new.out shown.0 shown.1 shown.2 c.in-Err.ensures.cause.rose)

pub returns-in-Show-clause-shown : goal.returns-in-Show-clause-shown
returns-in-Show-clause-shown g c =
    rw c.in-Show.is
    (put-shown g.O.Out.shown g.O.Out.faults command.Show c.args.octets.now c.requires c.args.out.now c.put_shown.new.out c.show.result c.put_shown.result c.put_shown.ensures c.show.ensures.text c.show.ensures.code refl refl)

pub returns-in-Check-clause-shown : goal.returns-in-Check-clause-shown
returns-in-Check-clause-shown g c =
    rw c.in-Check.is
    (put-shown g.O.Out.shown g.O.Out.faults command.Check c.args.octets.now c.requires c.args.out.now c.put_shown-in-Check.new.out c.check_line.result c.put_shown-in-Check.result c.put_shown-in-Check.ensures c.check_line.ensures.text c.check_line.ensures.code refl refl)
