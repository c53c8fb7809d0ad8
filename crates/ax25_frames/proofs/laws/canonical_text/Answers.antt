use Rattle.ax25_frames.proofs.FrameLemmas.{canonical_text}
use Rattle.ax25_frames.proofs.laws.canonical_text.Goals as goal

pub returns : goal.returns
returns c = canonical_text
