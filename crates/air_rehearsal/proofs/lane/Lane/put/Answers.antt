-- One frame more was sent, with these octets and this sort.
use Rattle.std.proofs.Common.{[], ◌∷◌, ◌++◌, false, refl, subst, sym}
use Rattle.air_rehearsal.proofs.Names.{FrameText, fresh, AreSentAs, Sent}
use Rattle.air_rehearsal.proofs.LaneLemmas.{sent-more}
use Rattle.air_rehearsal.proofs.lane.Lane.put.Goals as goal

pub returns : goal.returns
returns c list frame same text is =
    let sent : Sent = record { octets = c.in_ok-octets.octets; sort = c.args.sort; is_delivered = false } in
    subst (λ all. AreSentAs all (list ++ fresh frame ∷ [])) (sym c.in_ok-push.ensures.items)
    (sent-more c.args.self.now.sent.items list same sent (fresh frame)
    (record {
      text = subst (FrameText frame) (sym c.in_ok-octets.ensures.items) text;
      sort_is = is;
      delivered_is = refl;
    }))
