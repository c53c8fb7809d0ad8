-- What is so of each session of a client.
use Rattle.std.proofs.Common.{◌≡◌, Some}
use Rattle.air_world.proofs.files.Names.{IfSome, Attempt, Has, EachSide, Party, ServerSide, each-at, each-from, some-at, some-from}

pub side-at : (P : Attempt → ServerSide → Type 0) (party : Party) (a : Attempt) (side : ServerSide) → EachSide party P
    → Has party.attempts a → a.server ≡ Some side → P a side
side-at P party a side each has is = some-at (P a) a.server side
    (each-at (λ it. IfSome it.server (P it)) party.attempts a each has) is

pub each-side : {P : Attempt → ServerSide → Type 0} (party : Party)
    → ((a : Attempt) (side : ServerSide) → Has party.attempts a → a.server ≡ Some side → P a side) → EachSide party P
each-side party holds = each-from party.attempts (λ a has. some-from a.server (λ side is. holds a side has is))
