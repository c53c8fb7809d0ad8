-- A frame that isn't the station's own is passed over, and no other frame has its octets.
use Rattle.std.proofs.Common.{refl, subst, sym}
use Rattle.turn_loop.proofs.Names.{iff_false, FrameValue, IsFor}
use Rattle.turn_loop.proofs.station_reader.frame_for.Goals as goal

pub returns-in_default-clause-found : goal.returns-in_default-clause-found
returns-in_default-clause-found c = λ frame text own. c.in_default.ensures.only frame text

pub returns-then-not-is_for-clause-found : goal.returns-then-not-is_for-clause-found
returns-then-not-is_for-clause-found c =
    λ frame text own. iff_false c.if-not-is_for.ensures refl (subst (λ (v : FrameValue). IsFor c.args.me v) (sym (c.in-Ok.ensures.only frame text)) own)
