-- What is sent is replied in the client's attempt.
use Rattle.std.proofs.Common.{◌≡◌, refl, sym, ap, subst, ◌∙◌}
use Rattle.air_rehearsal.proofs.Names.{slice_set, same_Some, SendsReplies, Party}
use Rattle.air_rehearsal.proofs.PairLemmas.{get-some}
use Rattle.air_rehearsal.proofs.ServingKeeps.{keep-refl, keep-set}
use Rattle.air_rehearsal.proofs.ServingSent.{on-ok-more}
use Rattle.air_rehearsal.proofs.stations.Stations.reply.Goals as goal

pub returns-in-Some-clause-keeps : goal.returns-in-Some-clause-keeps
returns-in-Some-clause-keeps g c =
    let all = c.args.self.now.parties.items in
    let self = c.in-Some.party.now in
    record {
      me = refl;
      k = refl;
      parties =
          keep-set all c.args.c self (record self { attempt = c.reply_all.new.attempt })
          (get-some all all c.args.c self refl c.in-Some.ensures.item.3) (record { same = refl });
      uploads = refl;
      moment = refl;
      report = refl;
    }

pub returns-in-Some-clause-replies : goal.returns-in-Some-clause-replies
returns-in-Some-clause-replies g c =
    let all = c.args.self.now.parties.items in
    let self = c.in-Some.party.now in
    let now = c.reply_all.new.attempt in
    on-ok-more c.reply_all.result
    (λ replies store it party is at.
    let same : self ≡ party =
    same_Some self party (sym (get-some all all c.args.c self refl c.in-Some.ensures.item.3) ∙ at) in
    record {
      attempt_now = now;
      replies =
          subst (λ (p : Party). SendsReplies store it c.reply_all.new.server p.attempt now) same (replies store it is);
      parties_are = ap (λ (p : Party). slice_set all c.args.c (record p { attempt = now })) same;
    }) c.reply_all.ensures.replies

pub returns-in-None-clause-keeps : goal.returns-in-None-clause-keeps
returns-in-None-clause-keeps g c = record {
  me = refl;
  k = refl;
  parties = keep-refl c.args.self.now.parties.items;
  uploads = refl;
  moment = refl;
  report = refl;
}
