-- The server's call is the one that is read, and nothing was asked yet.
use Rattle.std.proofs.Common.{◌≡◌, length, refl, subst}
use Rattle.air_rehearsal.proofs.Names.{CallSign, Cuts, cuts_by, pacsat, OpensFirst}
use Rattle.air_rehearsal.proofs.OpeningLemmas.{is_pacsat}
use Rattle.air_rehearsal.proofs.stations.Stations.open.Goals as goal

pub returns-clause-opens : goal.returns-clause-opens
returns-clause-opens g c =
    let cuts : Cuts _ = cuts_by g.B.CutDisk.restarts g.B.CutDisk.arming g.B.CutDisk.plain g.B.CutDisk.is_starved in
    let is : c.in-Ok.me ≡ pacsat = is_pacsat c.one_call.ensures c.in-Ok.me c.in-Ok.ensures.call in
    record {
      me_is = is;
      k_is = refl;
      no_cut = refl;
      no_moment = c.new-2.ensures;
      none_asked = c.new.ensures.items;
      none_counted = c.new-3.ensures;
      clients =
          subst
          (λ (me : CallSign).
          OpensFirst g.B.Disk cuts me c.args.k (length c.args.calls.now) c.args.calls.now c.args.disks.now
          c.open_parties.new.disks c.in_ok-parties.parties.items)
          is c.in_ok-parties.ensures.opens;
    }
