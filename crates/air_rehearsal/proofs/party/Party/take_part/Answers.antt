-- By whether a cut waits.
use Rattle.std.proofs.Common.{sym, ◌∙◌, subst}
use Rattle.air_rehearsal.proofs.Names.{Cuts, cuts_by, ActsPart, BeCut, Party}
use Rattle.air_rehearsal.proofs.ActLemmas.{takes_cut, takes_so}
use Rattle.air_rehearsal.proofs.party.Party.take_part.Goals.{in-None+in_ok-act-in-None, in-Some+in_ok-be_cut-in-Some}
use Rattle.air_rehearsal.proofs.party.Party.take_part.Goals as goal

pub returns-clause-takes : goal.returns-clause-takes
returns-clause-takes g c = λ seat event whole at_seat allowed takes is_part steady.
    let cuts : Cuts g.row.B.Denot =
    cuts_by g.B.CutDisk.restarts g.B.CutDisk.arming g.B.CutDisk.plain g.B.CutDisk.is_starved in
    let memory = sym c.starved.ensures ∙ c.if-starved.false in
    elim c.match-self.branch [
      | in-Some+in_ok-be_cut-in-Some w ↦
          let be = w.in_ok-be_cut-in-Some.ensures.cut seat whole at_seat is_part steady in
          let be_self =
          subst (λ (p : Party). BeCut g.B.Disk cuts w.in-Some.cut.call whole p c.args.disk.now w.be_cut.new.disk)
          (sym w.self-is) be in
          let be_now =
          subst
          (λ (d : g.row.B.Denot). BeCut g.B.Disk cuts w.in-Some.cut.call whole c.match-self.self c.args.disk.now d)
          (sym w.disk-is) be_self in
          takes_cut g.B.Disk cuts g.met.B.CutDisk.lasts_so whole c.args.self.now c.match-self.self c.args.disk.now
          c.match-self.disk memory w.in-Some.cut w.in-Some.is be_now
      | in-None+in_ok-act-in-None w ↦
          let acts =
          w.in_ok-act-in-None.ensures.acts seat event whole at_seat allowed takes is_part w.in-None.is in
          let acts_self =
          subst (λ (p : Party). ActsPart g.B.Disk whole c.args.self.now p c.args.disk.now w.act.new.disk)
          (sym w.self-is) acts in
          let acts_now =
          subst
          (λ (d : g.row.B.Denot). ActsPart g.B.Disk whole c.args.self.now c.match-self.self c.args.disk.now d)
          (sym w.disk-is) acts_self in
          takes_so g.B.Disk cuts g.met.B.CutDisk.lasts_so whole c.args.self.now c.match-self.self c.args.disk.now
          c.match-self.disk memory w.in-None.is steady acts_now
    ]
