use Rattle.std.proofs.Common.{ℕ, ap}
use Rattle.air_rehearsal.proofs.Names.{Looked}
use Rattle.air_rehearsal.proofs.generator.Looked.none.Goals as goal

pub returns : goal.returns
returns c world plays =
    let made : ℕ → Looked = λ n. record { attempt = n; to_server = 0; to_client = 0 } in
    ap made (c.attempts_of.ensures world plays)
