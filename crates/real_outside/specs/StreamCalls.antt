-- What an air and an output over streams ask of them, and what they make of the answers.
use Rattle.std.specs.Prelude.{◌≡◌, ◌⊎◌, ℕ, zero, suc, ◌+◌, ◌<◌, ◌≤◌, List, [], ◌∷◌, length, take, drop, Bool, true, false, if◌then◌else◌, Option, None, Some, Result, Ok, Err, is_ok}
use Rattle.std.specs.declared.io.ErrorKind.{ErrorKind}
use Rattle.std.specs.declared.io.ErrorKind.TheVariants as reason
use Rattle.px_base.specs.declared.air.Turn.{Turn}
use Rattle.px_base.specs.declared.air.Turn.TheVariants as turn
use Rattle.real_outside.specs.declared.stream.StreamCall.{StreamCall}
use Rattle.real_outside.specs.declared.stream.StreamCall.TheVariants as call
use Rattle.real_outside.specs.declared.system_error.SystemError.{SystemError}

-- the octets of the room that a read gave
abbrev pub octets_read : Result ℕ SystemError → List ℕ → Result (List ℕ) SystemError
octets_read (Ok count) room = Ok (take count room)
octets_read (Err refused) room = Err refused

-- the turn that a read which gave this brings: none is quiet
abbrev pub turn_read : Result (List ℕ) SystemError → Turn
turn_read (Ok []) = turn.End
turn_read (Ok (octet ∷ octets)) = turn.Bytes (octet ∷ octets)
turn_read (Err refused) = turn.Fail

-- one read into 512 octets of room, of whose answer the turn is
abbrev pub HearsOnce : Turn → List StreamCall → Type 0
HearsOnce next calls =
    (answer : Result (List ℕ) SystemError) × (next ≡ turn_read answer) × (calls ≡ call.Read 512 answer ∷ [])

-- a signal came before the call did anything
abbrev pub is_interrupted : ErrorKind → Bool
is_interrupted reason.Interrupted = true
is_interrupted _ = false

-- how many octets a write took after which the others follow: none if a signal came first
abbrev pub octets_taken : Result ℕ SystemError → Option ℕ
octets_taken (Ok zero) = None
octets_taken (Ok (suc count)) = Some (suc count)
octets_taken (Err refused) = if is_interrupted refused.kind then Some 0 else None

-- These octets are left after this number of writes, and written by these calls: each write is of all that are left;
-- once none is, the stream is flushed, and that it answers so is the answer. A write that takes none or fails, except
-- for a signal, is the last call, and they aren't written; nor are they after 2^64 - 1 writes.
abbrev pub Writes : ℕ → List ℕ → Bool → List StreamCall → Type 0
Writes made left done [] = (made ≡ 18446744073709551615) × (done ≡ false)
Writes made left done (call.Read count answer ∷ calls) = ⊥
Writes made left done (call.Write octets answer ∷ calls) =
    (0 < length left)
    × (octets ≡ left)
    × (((octets_taken answer ≡ None) × (calls ≡ []) × (done ≡ false))
    ⊎ ((count : ℕ) × (octets_taken answer ≡ Some count) × Writes (made + 1) (drop count left) done calls))
Writes made left done (call.Flush answer ∷ calls) = (left ≡ []) × (calls ≡ []) × (done ≡ is_ok answer)

-- These octets are written by these calls, and the stream is flushed after them.
abbrev pub WritesAll : List ℕ → Bool → List StreamCall → Type 0
WritesAll = Writes 0

-- one write of these octets, and how many it took after which the others follow
abbrev pub WritesSome : List ℕ → Option ℕ → List StreamCall → Type 0
WritesSome octets taken calls =
    (answer : Result ℕ SystemError) × (calls ≡ call.Write octets answer ∷ []) × (taken ≡ octets_taken answer)
