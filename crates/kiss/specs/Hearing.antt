-- What a reader of KISS text has heard, and what it says was ended.
use Rattle.std.specs.Prelude.{ℕ, List, [], ◌∷◌, Option, map}
use Rattle.std.specs.Option.{option_to_list}
use Rattle.kiss.specs.declared.reader.KissFed.{KissFed}
use Rattle.kiss.specs.declared.reader.KissFed.TheVariants as fed
use Rattle.kiss.specs.declared.whole.Part.{Part}
use Rattle.kiss.specs.declared.whole.Part.TheVariants as part

-- What a reader knows.
-- heard: octets that stand for all that came. Whatever comes next, their parts together with it are those that are still to come.
-- frame: the octets of the frame that the last octet ended, where it ended one.
pub record Hearing : Type 0 where
  pub heard : List ℕ
  pub frame : Option (List ℕ)

-- the parts that an answer says were ended, at most one
abbrev pub parts_ended : KissFed → Hearing → List Part
parts_ended fed.More hearing = []
parts_ended fed.Frame hearing = map part.Frame (option_to_list hearing.frame)
parts_ended fed.Dropped hearing = part.Dropped ∷ []
parts_ended fed.Passed hearing = part.Passed ∷ []

-- the frames that an answer says were ended, at most one
abbrev pub frames_ended : KissFed → Hearing → List (List ℕ)
frames_ended fed.More hearing = []
frames_ended fed.Frame hearing = option_to_list hearing.frame
frames_ended fed.Dropped hearing = []
frames_ended fed.Passed hearing = []
