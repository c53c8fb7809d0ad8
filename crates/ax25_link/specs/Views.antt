-- A link's fields as contracts see them.
use Rattle.std.specs.Option.{option_map}
use Rattle.ax25_link.specs.declared.link.Link.TheInside.{Inside}
use Rattle.ax25_link.specs.Kept.{Kept}
use Rattle.ax25_link.specs.Replies.{reply_value, farewell_value}

abbrev pub kept_in : Inside → Kept
kept_in a =
    record {
      called = a.called;
      me = a.me;
      peer = a.peer;
      k = a.k;
      state = a.state;
      acked = a.acked;
      taken = a.taken;
      queue = a.queue;
      busy = a.peer_busy;
      rejecting = a.rejecting;
      count = a.timer.ticks;
      tries = a.timer.tries;
      reply = option_map reply_value a.reply;
      again = a.again;
      farewell = option_map farewell_value a.farewell;
    }
