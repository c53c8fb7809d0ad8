-- A connection that is answered has greeted its caller, and nothing waits.
use Rattle.std.proofs.Common.{ap, ◌∙◌, arith}
use Rattle.ftl0_server.proofs.Names.{common_steps, answering_end, window_of, under_way, state_in}
use Rattle.ftl0_server.proofs.connection.connection.Connection.answer.Goals as goal

pub returns : goal.returns
returns c =
    let link = c.args.link.link in
    record {
      stands = λ store. record {
        link = c.greet-session.ensures.queued (window_of link.k) (answering_end link.me c.args.caller c.args.poll) c.accept.ensures.end;
        rest = ap under_way c.greet-session.ensures.keeps.reader ∙ c.accept.ensures.octets;
        state = ap (state_in store) c.greet-session.ensures.session;
      };
      stations = grind (arith, common_steps);
      session = c.greet-session.ensures.session;
      up = c.greet-session.ensures.up;
    }
