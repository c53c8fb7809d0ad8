-- A packet that is taken is answered by its replies, and one that stops the server by code 3, or not at all.
use Rattle.std.proofs.Common.{arith, refl, sym}
use Rattle.ftl0_server.proofs.Names.{common_steps, working_on, none_left}
use Rattle.ftl0_server.proofs.connection.AnswerLemmas.{said-done, said-fault}
use Rattle.ftl0_server.proofs.connection.connection.answer.Goals as goal

pub returns-in-Ok-clause-takes : goal.returns-in-Ok-clause-takes
returns-in-Ok-clause-takes g c seen w end first stands =
    rw (sym c.packet.ensures)
    (said-done g.D.Disk g.met.D.Disk.lasts_on w end c.args.moment c.args.session.now (none_left c.reply.new.link.link c.take.new.self) (working_on c.args.store.now c.args.lists.now c.args.disk.now) (working_on c.take.new.store c.take.new.lists c.take.new.disk) _ first c.requires.may.may.ready (rw (sym c.packet.ensures) at seen)
    (g.met.D.Disk.lasts_same c.args.disk.now) (record { healthy = c.in-Ok.ensures.healthy (λ is. cc is); stands_on = c.in-Ok.ensures.stands_on }) _ _ _ c.as_slice.ensures.value (c.reply.ensures.over w end stands) (c.reply.ensures.queued w end stands) c.in-Ok.ensures.takes)

pub returns-in-Ok-clause-fit : goal.returns-in-Ok-clause-fit
returns-in-Ok-clause-fit g c =
    record {
      puts = c.in-Ok.ensures.takes.puts;
      kept = c.in-Ok.ensures.kept;
      others = c.in-Ok.ensures.others;
      healthy = c.in-Ok.ensures.healthy;
      fit = record { stands_on = c.in-Ok.ensures.stands_on; held = c.in-Ok.ensures.held; only = c.in-Ok.ensures.only; due = c.in-Ok.ensures.due; complete = c.in-Ok.ensures.complete };
      up = c.reply.ensures.up;
      down = λ ends fine. c.reply.ensures.down ends;
      caller = c.in-Ok.ensures.caller;
      stations = c.reply.ensures.keeps.stations;
    }

pub returns-in-Err-clause-takes : goal.returns-in-Err-clause-takes
returns-in-Err-clause-takes g c seen w end first stands =
    rw (sym c.packet.ensures)
    (said-fault g.D.Disk g.met.D.Disk.lasts_on w end c.args.moment c.args.session.now (none_left c.reply-in-Err.new.link.link c.take.new.self) (working_on c.args.store.now c.args.lists.now c.args.disk.now) (working_on c.take.new.store c.take.new.lists c.take.new.disk) _ first c.requires.may.may.ready (rw (sym c.packet.ensures) at seen)
    (g.met.D.Disk.lasts_same c.args.disk.now) c.in-Err.fault _ _ c.as_slice-in-Err.ensures.value (c.reply-in-Err.ensures.queued w end stands) c.in-Err.ensures.takes)

pub returns-in-Err-clause-fit : goal.returns-in-Err-clause-fit
returns-in-Err-clause-fit g c =
    record {
      puts = c.in-Err.ensures.takes.puts;
      kept = c.in-Err.ensures.kept;
      others = c.in-Err.ensures.others;
      healthy = λ fine. absurd (fine refl);
      fit = grind (arith, common_steps);
      up = λ stays. absurd cc;
      down = λ ends fine. (let failed = c.in-Err.ensures.failed refl in absurd cc);
      caller = c.in-Err.ensures.caller;
      stations = c.reply-in-Err.ensures.keeps.stations;
    }
