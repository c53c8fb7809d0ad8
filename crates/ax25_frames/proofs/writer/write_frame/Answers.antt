-- The canonical text is a text of the frame.
use Rattle.std.proofs.Common.{◌≡◌, arith, sym, subst}
use Rattle.ax25_frames.proofs.Names.{common_steps, FrameText, FrameValue, IsFrame, canonical, value_of}
use Rattle.ax25_frames.proofs.FrameLemmas.{canonical_text}
use Rattle.ax25_frames.proofs.writer.write_frame.Goals as goal

pub returns-clause-text : goal.returns-clause-text
returns-clause-text c =
    let frame : FrameValue = value_of c.args.frame.now in
    let fits : IsFrame frame = record { dest = c.put_entry.ensures.call; src = c.put_entry-2.ensures.call; via = omega arith; kind = c.put_kind.ensures.fits } in
    let written : c.put_kind.new.out.items ≡ canonical frame = grind (arith, common_steps) in
    subst (FrameText frame) (sym written) (canonical_text frame fits c.requires.via)
