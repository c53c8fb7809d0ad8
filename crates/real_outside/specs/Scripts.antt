-- What a stream or a connection in memory answers by its script.
use Rattle.std.specs.Prelude.{◌≡◌, ℕ, drop, min, List, [], ◌∷◌, take, Result, Ok, Err}
use Rattle.px_base.specs.CallRecords.{CallRecordState}
use Rattle.real_outside.specs.declared.script.MemoryAnswer.{MemoryAnswer}
use Rattle.real_outside.specs.declared.script.MemoryAnswer.TheVariants as answer
use Rattle.real_outside.specs.declared.system_error.SystemError.{SystemError}

-- a form in memory: the answers to come, and the calls so far
pub record Scripted (C : Type 0) : Type 0 where
  pub coming : List MemoryAnswer
  pub made : CallRecordState C

-- the next answer, which after the last one is that the call is done
abbrev pub next_answer : List MemoryAnswer → MemoryAnswer
next_answer [] = answer.Done
next_answer (next ∷ answers) = next

-- what a call answers that is done or fails
abbrev pub done_answer : MemoryAnswer → Result Unit SystemError
done_answer (answer.Fails error) = Err error
done_answer (answer.Gives octets) = Ok tt
done_answer (answer.Takes count) = Ok tt
done_answer answer.Done = Ok tt

-- what a read into this much room gives
abbrev pub read_answer : ℕ → MemoryAnswer → Result (List ℕ) SystemError
read_answer room (answer.Fails error) = Err error
read_answer room (answer.Gives octets) = Ok (take room octets)
read_answer room (answer.Takes count) = Ok []
read_answer room answer.Done = Ok []

-- how many octets a write takes that is given this number of them
abbrev pub write_answer : ℕ → MemoryAnswer → Result ℕ SystemError
write_answer all (answer.Fails error) = Err error
write_answer all (answer.Gives octets) = Ok all
write_answer all (answer.Takes count) = Ok (min count all)
write_answer all answer.Done = Ok all

-- A call follows the script: this is what it gives for the next answer, which is taken from those to come.
pub record Follows {T : Type 0} (coming coming_now : List MemoryAnswer) (answer_of : MemoryAnswer → T) (given : T)
    : Type 0 where
  pub answer : given ≡ answer_of (next_answer coming)
  pub taken : coming_now ≡ drop 1 coming
