-- Octets that a frame for the station has are read as that frame.
use Rattle.std.proofs.Common.{◌≡◌, sym, ap, ◌∙◌, true, false}
use Rattle.air_rehearsal.proofs.Names.{FrameValue}
use Rattle.air_rehearsal.proofs.HeardLemmas.{same_call}
use Rattle.air_rehearsal.proofs.party.frame_for.Goals.{in_default-via-in-Ok+then-eq+else-read_frame-eq0, in_default-via-in-Ok+else-eq, in_default-via-in_default}
use Rattle.air_rehearsal.proofs.party.frame_for.Goals as goal

pub returns-in-Ok-clause-only : goal.returns-in-Ok-clause-only
returns-in-Ok-clause-only c frame text is_for = c.in-Ok.ensures.only frame text

pub returns-in_default-clause-only : goal.returns-in_default-clause-only
returns-in_default-clause-only c frame text is_for = elim c.in_default.branch [
  | in_default-via-in-Ok+then-eq+else-read_frame-eq0 w ↦
      let same = w.in-Ok.ensures.only frame text in
      let via = ap (λ (f : FrameValue). f.via) same ∙ is_for.via in
      w.if-read_frame-eq0.false via
  | in_default-via-in-Ok+else-eq w ↦
      let same = w.in-Ok.ensures.only frame text in
      let dest = ap (λ (f : FrameValue). f.dest) same ∙ is_for.dest in
      let eq = sym w.if-eq.false ∙ w.eq.ensures ∙ same_call w.in-Ok.frame.dest c.args.me dest in
      let no : false ≡ true = eq in
      let x : ⊥ = cc in x
  | in_default-via-in_default w ↦ w.in_default.ensures.only frame text
]
