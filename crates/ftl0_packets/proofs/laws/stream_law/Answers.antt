use Rattle.ftl0_packets.proofs.StreamLemmas.{one_stream, stream_of}
use Rattle.ftl0_packets.proofs.laws.stream_law.Goals as goal

pub returns-clause-read : goal.returns-clause-read
returns-clause-read c = stream_of

pub returns-clause-only : goal.returns-clause-only
returns-clause-only c = one_stream
