use Rattle.header_tool.proofs.Names.{kiss_parts}
use Rattle.header_tool.proofs.frames.EachText.{each_text}
use Rattle.header_tool.proofs.frames.Lines.{text_one}
use Rattle.header_tool.proofs.frames.laws.one_text.Goals as goal

pub returns-clause-at_most : goal.returns-clause-at_most
returns-clause-at_most c = λ recorded. text_one c.one_frame.ensures c.one_fault.ensures c.no_frame_at_a_fault.ensures (kiss_parts recorded)

pub returns-clause-some : goal.returns-clause-some
returns-clause-some c = each_text c.frame_or_fault.ensures c.frames_have_octets.ensures
