-- How many places have a session.
use Rattle.std.proofs.Common.{rules}
use Rattle.std.proofs.iter.runs.Made.{chains}
use Rattle.ftl0_server.proofs.places.count_sessions.Goals as goal

pub returns : goal.returns
returns c = search (rules, chains)
