use Rattle.client_notes.proofs.GotLemmas.{forgot-none, got-append}
use Rattle.client_notes.proofs.laws.got_law.Goals as goal

pub returns : goal.returns
returns c = record { more = got-append; none = forgot-none }
