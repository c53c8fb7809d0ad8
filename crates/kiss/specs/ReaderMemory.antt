-- What the memory of a reader of KISS text stands for.
use Rattle.std.specs.Prelude.{◌≡◌, ◌≢◌, ◌↔◌, ℕ, List, [], ◌∷◌, ◌++◌, Option, Some, None, IsSome, drop, length, ◌<◌}
use Rattle.kiss.specs.declared.reader.KissFed.{KissFed}
use Rattle.kiss.specs.declared.reader.KissFed.TheVariants as fed
use Rattle.kiss.specs.declared.reader.State.{State}
use Rattle.kiss.specs.declared.reader.State.TheVariants as state
use Rattle.kiss.specs.declared.whole.Part.{Part}
use Rattle.kiss.specs.declared.whole.Part.TheVariants as part
use Rattle.kiss.specs.KissText.{fend, fesc, escape, part_of_text, kiss_parts}
use Rattle.kiss.specs.Hearing.{Hearing, parts_ended}

-- the octets that came, or some that are as good: a part that will be dropped is as good as one that begins with an ill escape
abbrev pub heard_in : State → List ℕ → List ℕ
heard_in state.Waiting text = []
heard_in state.Within text = fend ∷ escape text
heard_in state.Escaped text = fend ∷ (escape text ++ fesc ∷ [])
heard_in state.Spoilt text = fend ∷ fesc ∷ fesc ∷ []
heard_in state.Framed text = fend ∷ []

-- the frame in a reader's memory, without its type octet
abbrev pub frame_in : State → List ℕ → Option (List ℕ)
frame_in state.Waiting text = None
frame_in state.Within text = None
frame_in state.Escaped text = None
frame_in state.Spoilt text = None
frame_in state.Framed text = Some (drop 1 text)

-- what a reader knows, by its memory
abbrev pub hearing : State → List ℕ → Hearing
hearing s text = record { heard = heard_in s text; frame = frame_in s text }

-- the parts that an answer says were ended, by the reader's memory
abbrev pub parts_ended_in : KissFed → List ℕ → List Part
parts_ended_in fed.More text = []
parts_ended_in fed.Frame text = part.Frame (drop 1 text) ∷ []
parts_ended_in fed.Dropped text = part.Dropped ∷ []
parts_ended_in fed.Passed text = part.Passed ∷ []

-- the part that unescaped octets are, where there are octets
abbrev pub parts_of_text : List ℕ → List Part
parts_of_text [] = []
parts_of_text (kind ∷ octets) = part_of_text (kind ∷ octets) ∷ []

-- a frame is kept with its type octet
abbrev pub HasTypeOctet : State → List ℕ → Type 0
HasTypeOctet state.Waiting text = Unit {0}
HasTypeOctet state.Within text = Unit {0}
HasTypeOctet state.Escaped text = Unit {0}
HasTypeOctet state.Spoilt text = Unit {0}
HasTypeOctet state.Framed text = 0 < length text

-- within a part the octet stands for itself
abbrev pub IsPlain : ℕ → Type 0
IsPlain octet = (octet ≢ fend) × (octet ≢ fesc)

-- one octet takes a reader's memory to this state and text, and ends what the answer says
pub record IsStep (before : State) (text : List ℕ) (octet : ℕ) (now : State) (text_now : List ℕ) (answer : KissFed) : Type 0 where
  pub parts : (later : List ℕ) → kiss_parts (heard_in before text ++ octet ∷ later)
      ≡ parts_ended answer (hearing now text_now) ++ kiss_parts (heard_in now text_now ++ later)
  pub frame : (answer ≡ fed.Frame) ↔ IsSome (frame_in now text_now)
  pub inside : octet ≢ fend → answer ≡ fed.More
  pub type_octet : HasTypeOctet now text_now
