-- The client starts from the notes that its disk stands for: of a disk without octets from none.
use Rattle.std.proofs.Common.{refl, subst}
use Rattle.air_rehearsal.proofs.Names.{window_of, Lists, new_client, IsClient}
use Rattle.air_rehearsal.proofs.RestartLemmas.{first_notes, starts_again}
use Rattle.air_rehearsal.proofs.party.Party.open.Goals as goal

pub returns-in-Ok-clause-opens : goal.returns-in-Ok-clause-opens
returns-in-Ok-clause-opens g c = record {
  plays = λ empty. record {
    me_is = refl;
    client =
        subst
        (λ (l : Lists). IsClient c.start.result (new_client c.args.me c.args.server (window_of c.args.k) l))
        (first_notes g.D.Disk c.args.disk.now c.recover.new.disk c.in-Ok.notes c.in-Ok.ensures.recovered empty)
        c.start.ensures.client;
    lanes = c.new-in-Ok.ensures;
    uploads_are = c.new.ensures.items;
    cut_is = refl;
  };
  again =
      starts_again g.D.Disk c.args.disk.now c.recover.new.disk c.in-Ok.notes c.in-Ok.notes c.in-Ok.ensures.recovered
      c.in-Ok.ensures.answers;
}
