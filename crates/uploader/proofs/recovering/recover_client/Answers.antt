-- The notes are recovered, or that is refused.
use Rattle.std.proofs.Common.{refl, sym, subst}
use Rattle.uploader.proofs.Names.{answers-err, recovers-as, ClientState, IsClient, client_from, RecoversClient}
use Rattle.uploader.proofs.recovering.recover_client.Goals as goal

pub returns-in-Ok-clause-recovers : goal.returns-in-Ok-clause-recovers
returns-in-Ok-clause-recovers g c =
    let terms = c.args.terms.now in
    let notes = c.in-Ok.notes in
    subst (λ (made : ClientState). RecoversClient g.D.Disk terms c.args.disk.now c.recover.new.disk made) (sym c.start.ensures.state)
    (record {
      recovers = recovers-as g.D.Disk c.args.disk.now c.recover.new.disk notes notes c.in-Ok.ensures.recovered c.in-Ok.ensures.answers;
      state = refl;
      is = subst (λ (made : ClientState). IsClient made (client_from terms notes.lists)) c.start.ensures.state c.start.ensures.client;
    })

pub returns-in-Err-clause-stops : goal.returns-in-Err-clause-stops
returns-in-Err-clause-stops g c =
    (c.in-Err.fault, c.from.ensures, answers-err g.D.Disk c.args.disk.now c.recover.new.disk c.in-Err.fault _ refl c.in-Err.ensures.answers)
