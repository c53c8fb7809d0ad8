-- All recorded octets have a text.
use Rattle.std.proofs.Common.{List, [], ◌∷◌, ◌++◌, ℕ, refl, inl, inr}
use Rattle.std.specs.List.{AllByRecursion}
use Rattle.kiss.specs.Laws.{FramesHaveOctets, HasOctets}
use Rattle.header_tool.specs.Frames.Laws.{HasText}
use Rattle.header_tool.proofs.Names.{codes, recursion_from_All, Part, Frame, Dropped, Passed, kiss_parts, IsFrameOrFault, fault_line, frame_line, LineOf, LinesOf, line_feed}

module _ (frame_or_fault : IsFrameOrFault) (frames_have_octets : FramesHaveOctets) where
  -- each part has a line
  line_of : (part : Part) → HasOctets part → (line : List ℕ) × LineOf part line
  line_of (Frame octets) h =
      elim (frame_or_fault octets h) [
        | inl read ↦ (frame_line read.0, inl (read.0, read.1, refl))
        | inr read ↦ (fault_line read.0, inr (read.0, read.1, refl))
      ]
  line_of Dropped h = (codes "dropped", refl)
  line_of Passed h = (codes "passed", refl)

  -- parts have a text
  text_of : (parts : List Part) → AllByRecursion HasOctets parts → (text : List ℕ) × LinesOf parts text
  text_of [] h = ([], refl)
  text_of (part ∷ parts) h =
      let line = line_of part h.0 in
      let rest = text_of parts h.1 in
      (line.0 ++ line_feed ∷ rest.0, (line.0, rest.0, line.1, rest.1, refl))

  pub each_text : HasText
  each_text recorded h = text_of (kiss_parts recorded) (recursion_from_All HasOctets (kiss_parts recorded) (frames_have_octets recorded h))
