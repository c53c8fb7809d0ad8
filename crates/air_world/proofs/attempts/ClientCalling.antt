-- An end that calls: nothing was pushed at it, and it stays so while it calls.
use Rattle.std.proofs.Common.{◌≡◌, ◌+◌, List, [], ◌∷◌, Bool, true, false, Option, None, Some, sym, ap, ◌∙◌, subst}
use Rattle.std.specs.Prelude.{if◌then◌else◌, ◌&&◌}
use Rattle.air_world.proofs.attempts.Names.{not, nat_lt, same_Some, Control, Ua, Disc, Dm, FrameValue, Doing, DoesAll, abandon, after_doing, hang_up, push, Heard, Nothing, Opened, Reopened, Bytes, Closed, LinkState, Calling, Up, Down, Farewell, LinkEnd, Reply, call, oldest, outstanding, refuse, IsUnused, after_frame, calling_row, entering, replying, row_of_state, Drains, Sending, has_new, is_empty, last_sending, later_sending, sending_after, sends_again, sends_farewell, sends_new, sends_reply, after_tick, is_down, is_spent, is_up, runs_out, timer_reply, trying, Window}
use Rattle.air_world.proofs.attempts.ClientRows.{StateAs}

-- if an end calls, it called before
pub called-before : (told : Heard) (before now : LinkState) → StateAs told before now → now ≡ Calling → before ≡ Calling
called-before Nothing before now is calls = sym is ∙ calls
called-before Opened before now is calls = absurd (let no : Up ≡ Calling = sym is ∙ calls in cc no)
called-before Reopened before now is calls = sym is ∙ calls
called-before Bytes before now is calls = sym is ∙ calls
called-before (Closed why) before now is calls = absurd (let no : Down ≡ Calling = sym is ∙ calls in cc no)

-- with this to be sent first, which is no I frame
unused-replying : (end : LinkEnd) (reply : Reply) → (Some reply ≡ Some oldest → ⊥) → IsUnused end
    → IsUnused (replying end reply)
unused-replying end reply other unused = record {
  pushed = unused.pushed;
  queued = unused.queued;
  sent = unused.sent;
  acked = unused.acked;
  taken = unused.taken;
  again = unused.again;
  reply = other;
}

-- ---- a frame

row-unused : (end : LinkEnd) (f : FrameValue) (control : Control) → end.state ≡ Calling → IsUnused end
    → (calling_row end f control).after.state ≡ Calling → IsUnused (calling_row end f control).after
row-unused end f Ua is unused calls = absurd (cc calls)
row-unused end f Dm is unused calls = absurd (cc calls)
row-unused end f Disc is unused calls = unused-replying end (refuse f.poll) (λ no. cc no) unused
row-unused end f control is unused calls = unused

pub frame-unused : (w : Window) (end : LinkEnd) (f : FrameValue) → end.state ≡ Calling → IsUnused end
    → (after_frame w end f).state ≡ Calling → IsUnused (after_frame w end f)
frame-unused w end f is unused =
    subst (λ (s : LinkState). (row_of_state s w end f).after.state ≡ Calling → IsUnused (row_of_state s w end f).after)
    (sym is) (row-unused end f f.kind.control is unused)

-- ---- a tick

pub tick-unused : (end : LinkEnd) → end.state ≡ Calling → IsUnused end → (after_tick end).state ≡ Calling
    → IsUnused (after_tick end)
tick-unused end is unused = by (is_down end.state) (runs_out end) (is_spent end)
  where
    tried : IsUnused (trying end)
    tried =
        let same : trying end ≡ replying (record end { count = 0; tries = end.tries + 1 }) call =
        ap (λ (s : LinkState). replying (record end { count = 0; tries = end.tries + 1 }) (timer_reply s end)) is in
        subst IsUnused (sym same) (unused-replying (record end { count = 0; tries = end.tries + 1 }) call (λ no. cc no)
        (record {
          pushed = unused.pushed;
          queued = unused.queued;
          sent = unused.sent;
          acked = unused.acked;
          taken = unused.taken;
          again = unused.again;
          reply = unused.reply;
        }))

    counted : IsUnused (record end { count = end.count + 1 })
    counted = record {
      pushed = unused.pushed;
      queued = unused.queued;
      sent = unused.sent;
      acked = unused.acked;
      taken = unused.taken;
      again = unused.again;
      reply = unused.reply;
    }

    by : (down runs spent : Bool)
        → (if down then end else (if runs then (if spent then entering end Down else trying
        end) else record end { count = end.count + 1 })).state ≡ Calling
        → IsUnused (if down then end else (if runs then (if spent then entering end Down else trying
        end) else record end { count = end.count + 1 }))
    by true runs spent calls = unused
    by false true true calls = absurd (cc calls)
    by false true false calls = tried
    by false false spent calls = counted

-- ---- what the layer above does, and what is sent

doing-calls-not : (end : LinkEnd) (doing : Doing) → end.state ≡ Up → (after_doing end doing).state ≡ Calling → ⊥
doing-calls-not end (push octets) up calls = let no : Up ≡ Calling = sym up ∙ calls in cc no
doing-calls-not end hang_up up calls = cc calls
doing-calls-not end abandon up calls = cc calls

-- the layer above does nothing to an end that calls then
pub does-calling : (end last : LinkEnd) (doings : List Doing) → DoesAll end doings last → last.state ≡ Calling
    → last ≡ end
does-calling end last [] does calls = does
does-calling end last (doing ∷ doings) does calls =
    let same = does-calling (after_doing end doing) last doings does.1 calls in
    absurd (doing-calls-not end doing does.0 (ap (λ (e : LinkEnd). e.state) (sym same) ∙ calls))

-- an end that calls, and was never used
pub record CallsUnused (end : LinkEnd) : Type 0 where
  pub calls : end.state ≡ Calling
  pub unused : IsUnused end

module _ (w : Window) (end : LinkEnd) (is : CallsUnused end) (s : Sending) where
  farewell-sent : (o : Option Farewell) → last_sending end o ≡ Some s → CallsUnused s.after
  farewell-sent None same = absurd (cc same)
  farewell-sent (Some farewell) same =
      subst (λ (x : Sending). CallsUnused x.after) (same_Some (sends_farewell end farewell) s same)
      (record {
        calls = is.calls;
        unused = record {
          pushed = is.unused.pushed;
          queued = is.unused.queued;
          sent = is.unused.sent;
          acked = is.unused.acked;
          taken = is.unused.taken;
          again = is.unused.again;
          reply = is.unused.reply;
        };
      })

  later-sent : later_sending w end ≡ Some s → CallsUnused s.after
  later-sent same = farewell-sent end.farewell (sym none-later ∙ same)
    where
      none-again : nat_lt 0 end.again ≡ false
      none-again = ap (nat_lt 0) is.unused.again

      none-new : has_new w end ≡ false
      none-new =
          ap (λ (state : LinkState). is_up state && nat_lt (outstanding end) w.size && not end.busy && not
          (is_empty end.queued)) is.calls

      none-later : later_sending w end ≡ last_sending end end.farewell
      none-later =
          ap (λ (b : Bool). if b then Some (sends_again w end) else (if has_new w end then Some
          (sends_new w end) else last_sending end end.farewell)) none-again
          ∙ ap (λ (b : Bool). if b then Some (sends_new w end) else last_sending end end.farewell) none-new

  first-sent : (o : Option Reply) → sending_after w end o ≡ Some s → CallsUnused s.after
  first-sent None same = later-sent same
  first-sent (Some reply) same =
      subst (λ (x : Sending). CallsUnused x.after) (same_Some (sends_reply w end reply) s same)
      (record {
        calls = is.calls;
        unused = record {
          pushed = is.unused.pushed;
          queued = is.unused.queued;
          sent = is.unused.sent;
          acked = is.unused.acked;
          taken = is.unused.taken;
          again = is.unused.again;
          reply = λ no. cc no;
        };
      })

pub drains-unused : (w : Window) (end last : LinkEnd) (frames : List FrameValue) → Drains w end frames last
    → CallsUnused end → CallsUnused last
drains-unused w end last [] drains is = subst CallsUnused (sym drains.1) is
drains-unused w end last (f ∷ frames) drains is =
    drains-unused w drains.0.after last frames drains.3 (first-sent w end is drains.0 end.reply drains.1)
