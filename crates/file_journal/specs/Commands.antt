-- What commands make of a state, one after another, and what images stand for while they are done.
use Rattle.std.specs.Prelude.{ℕ, ◌+◌, ◌-◌, ◌≤◌, List, [], ◌∷◌, length, take, nat_le, if◌then◌else◌, ⊤}
use Rattle.disk_model.specs.Moments.{LeavesSince}
use Rattle.disk_model.specs.declared.disk.Disk.{Ghosts}
use Rattle.file_journal.specs.Form.{Form, StandsFor}

-- the state after these commands, by the one after each
abbrev pub after_all : {S C : Type 0} → (S → C → S) → S → List C → S
after_all after start [] = start
after_all after start (command ∷ commands) = after_all after (after start command) commands

-- each command is allowed when its turn comes
abbrev pub AreAllowed : {S C : Type 0} → (S → C → Type 0) → (S → C → S) → S → List C → Type 0
AreAllowed allowed after start [] = ⊤
AreAllowed allowed after start (command ∷ commands) =
    allowed start command × AreAllowed allowed after (after start command) commands

-- the state after the first so many of these commands
abbrev pub after_first : {S C : Type 0} → Form S C → ℕ → S → List C → S
after_first form count start commands = after_all form.after start (take count commands)

-- how many calls of the disk these commands take
abbrev pub calls_of : {S C : Type 0} → Form S C → List C → ℕ
calls_of form [] = 0
calls_of form (command ∷ commands) = form.calls command + calls_of form commands

-- how many octets the records of these commands have, with their gates
abbrev pub octets_of : {S C : Type 0} → Form S C → List C → ℕ
octets_of form [] = 0
octets_of form (command ∷ commands) = form.octets command + octets_of form commands

-- at which moment the first so many of these commands are done, where the first of them begins at this one
abbrev pub done_at : {S C : Type 0} → Form S C → ℕ → List C → ℕ → ℕ
done_at form start commands count = start + calls_of form (take count commands)

-- how many of these commands so many calls of the disk carry out, one behind another
abbrev pub done_within : {S C : Type 0} → Form S C → List C → ℕ → ℕ
done_within form [] calls = 0
done_within form (command ∷ commands) calls =
    if nat_le (form.calls command) calls then 1 + done_within form commands (calls - form.calls command) else 0

-- The image stands for the state after the first of these commands, for some number of them from one number to another.
abbrev pub MakesBetween : {S C : Type 0} → Form S C → ℕ → ℕ → S → List C → List ℕ → Type 0
MakesBetween form low high start commands image =
    (count : ℕ) × (low ≤ count) × (count ≤ high) × StandsFor form (after_first form count start commands) image

-- the same for any number of them
abbrev pub MakesFirst : {S C : Type 0} → Form S C → S → List C → List ℕ → Type 0
MakesFirst form start commands image = MakesBetween form 0 (length commands) start commands image

-- Since the first so many commands are done, where they are one at least, no crash leaves fewer of them: since the
-- moment that `time` has of that number.
abbrev pub StayDone : {D S C : Type 0} → Ghosts D → Form S C → (ℕ → ℕ) → ℕ → S → List C → D → Type 0
StayDone g form time done start commands disk =
    (count : ℕ) → 1 ≤ count → count ≤ done
    → LeavesSince (time count) (g.images_since disk) (MakesBetween form count (length commands) start commands)
