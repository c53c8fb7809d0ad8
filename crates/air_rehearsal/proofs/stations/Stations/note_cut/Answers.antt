use Rattle.std.proofs.Common.{refl, sym, ◌∙◌, arith}
use Rattle.air_rehearsal.proofs.Names.{cuts_by, clients_of}
use Rattle.air_rehearsal.proofs.PlayApart.{notes_cut}
use Rattle.air_rehearsal.proofs.PlayParts.{number_at}
use Rattle.air_rehearsal.proofs.ReadyLemmas.{read_at, ready_still}
use Rattle.air_rehearsal.proofs.stations.Stations.note_cut.Goals as goal

pub returns-clause-clients : goal.returns-clause-clients
returns-clause-clients g c =
    ready_still g.B.Disk c.args.self.now.parties.items c.args._disks.now c.requires c.in-Some.c c.index_mut.result.now _
    (read_at c.args.self.now.parties.items c.in-Some.c c.index_mut.result.now (omega (arith, c.len.ensures, c.if-c-len.false))
    c.index_mut.ensures.value)
    (λ disk ready.
    record {
      theirs = record {
        window = ready.theirs.window;
        me = ready.theirs.me;
        server = ready.theirs.server;
        k = ready.theirs.k;
        may = ready.theirs.may;
      };
      quiet = ready.quiet;
    })

pub returns-clause-goes : goal.returns-clause-goes
returns-clause-goes g c =
    notes_cut g.B.Disk (cuts_by g.B.CutDisk.restarts g.B.CutDisk.arming g.B.CutDisk.plain g.B.CutDisk.is_starved)
    c.sound_law.ensures g.met.B.Disk.content_is_image g.met.B.Disk.counts_now
    (clients_of c.args.self.now c.args._disks.now) _ c.args.client c.in-Some.c c.args.cut c.index_mut.result.now
    (number_at c.args.client c.in-Some.c (sym c.place_of.ensures ∙ c.in-Some.is))
    (read_at c.args.self.now.parties.items c.in-Some.c c.index_mut.result.now (omega (arith, c.len.ensures, c.if-c-len.false))
    c.index_mut.ensures.value)
    refl refl refl refl
