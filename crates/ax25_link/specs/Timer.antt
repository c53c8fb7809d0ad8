-- The timer of an end (AX.25 2.0, 2.4.7.1, 2.4.7.2). It counts ticks, and tries: how often in a row it ran out.
use Rattle.std.specs.Prelude.{ℕ, ◌+◌, ◌==◌, Bool, true, false, ◌&&◌, nat_le, if◌then◌else◌, Option, None, Some}
use Rattle.ax25_link.specs.declared.state.LinkState.{LinkState}
use Rattle.ax25_link.specs.declared.state.LinkState.TheVariants.{Calling, Up, Ending, Down}
use Rattle.ax25_link.specs.declared.state.Why.{Why}
use Rattle.ax25_link.specs.declared.state.Why.TheVariants as why
use Rattle.ax25_link.specs.Ends.{LinkEnd, Reply, call, disconnect, enquire, oldest, outstanding}
use Rattle.ax25_link.specs.Rows.{entering, replying}

-- how many ticks a frame waits for its answer: T1 (2.4.7.1.1)
abbrev pub t1 : ℕ
t1 = 10

-- how many ticks an end without outstanding frames waits before it asks: T3 (2.4.7.1.3)
abbrev pub t3 : ℕ
t3 = 60

-- how many times in a row the timer may run out before the link is given up: N2 (2.4.7.2)
abbrev pub most_tries : ℕ
most_tries = 10

abbrev pub is_up : LinkState → Bool
is_up Up = true
is_up Calling = false
is_up Ending = false
is_up Down = false

abbrev pub is_down : LinkState → Bool
is_down Down = true
is_down Calling = false
is_down Up = false
is_down Ending = false

-- how many ticks make the timer run out: T3 while up with nothing outstanding and no tries, else T1
abbrev pub limit : LinkEnd → ℕ
limit end = if is_up end.state && (outstanding end == 0) && (end.tries == 0) then t3 else t1

-- whether the next tick makes the timer run out
abbrev pub runs_out : LinkEnd → Bool
runs_out end = nat_le (limit end) (end.count + 1)

-- whether it may run out no more
abbrev pub is_spent : LinkEnd → Bool
is_spent end = nat_le most_tries end.tries

-- what is sent while up: the oldest outstanding I frame, or RR if none is outstanding (2.4.4.9)
abbrev pub asking : LinkEnd → Reply
asking end = if outstanding end == 0 then enquire else oldest

-- what is sent when the timer runs out, with P = 1; in state Down it never does
abbrev pub timer_reply : LinkState → LinkEnd → Reply
timer_reply Calling end = call
timer_reply Up end = asking end
timer_reply Ending end = disconnect
timer_reply Down end = disconnect

-- after the timer ran out: one more try
abbrev pub trying : LinkEnd → LinkEnd
trying end = replying (record end { count = 0; tries = end.tries + 1 }) (timer_reply end.state end)

-- while the timer counts
abbrev pub after_count : LinkEnd → LinkEnd
after_count end =
    if runs_out end then (if is_spent end then entering end Down else trying end) else record end { count = end.count + 1 }

-- the end after a tick; in state Down nothing is counted
abbrev pub after_tick : LinkEnd → LinkEnd
after_tick end = if is_down end.state then end else after_count end

-- what is reported of a tick: that there is no answer, if the timer runs out after all tries are used up
abbrev pub told_of_tick : LinkEnd → Option Why
told_of_tick end =
    if is_down end.state then None else if runs_out end && is_spent end then Some why.NoAnswer else None
