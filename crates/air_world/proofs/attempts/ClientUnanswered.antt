-- An attempt that no session answered: only DM reaches its end, which calls until it is down.
use Rattle.std.proofs.Common.{◌≡◌, ◌⊎◌, ℕ, ◌+◌, List, [], ◌∷◌, ◌++◌, Bool, true, false, None, Some, refl, inl, inr, sym}
use Rattle.std.proofs.Common.{ap, ◌∙◌, subst}
use Rattle.std.specs.Prelude.{if◌then◌else◌, ◌&&◌, ◌||◌}
use Rattle.ax25_link.specs.declared.state.Why.TheVariants as why
use Rattle.air_world.proofs.attempts.Names.{Control, Dm, FrameValue, Doing, DoesAll, Heard, Nothing, Opened, Reopened, Bytes, Closed, LinkState, Calling, Down, LinkEnd, free_octets, oldest, refuse, IsUnused, frame, heard_of_tick, tick, Outcome, calling_row, closing, entering, is_call, passed_over, replying, row, row_of_state, unless_oldest, Drains, IsQuiet, after_tick, is_down, is_spent, is_up, runs_out, told_of_tick, trying, Window, Lists, Attempted, after_told, packets_told, with_end, taking, JobEntry, entries_behind, entries_due, entries_heard, entries_taken, entries_ticked}
use Rattle.air_world.proofs.attempts.ClientCalling.{tick-unused}
use Rattle.air_world.proofs.attempts.ClientIdle.{Idle, SendsCall, drains-nothing, idle-down, idle-quiet, quiet-idle, tick-down}
use Rattle.air_world.proofs.attempts.ClientIdle.{tick-sends}
use Rattle.air_world.proofs.attempts.ClientLink.{StepOf}

-- the end calls, or is down
abbrev pub CallsOrDown : LinkState → Type 0
CallsOrDown state = (state ≡ Calling) ⊎ (state ≡ Down)

not-up : (state : LinkState) → CallsOrDown state → is_up state ≡ false
not-up state (inl calls) = ap is_up calls
not-up state (inr down) = ap is_up down

-- an end that was never used, calls or is down, and has nothing to send
pub record Waits (end : LinkEnd) : Type 0 where
  pub state : CallsOrDown end.state
  pub unused : IsUnused end

unused-down : (end : LinkEnd) → end.reply ≡ None → IsUnused end → IsUnused (entering end Down)
unused-down end none unused = record {
  pushed = unused.pushed;
  queued = unused.queued;
  sent = unused.sent;
  acked = unused.acked;
  taken = unused.taken;
  again = refl;
  reply = λ is. (let no : None ≡ Some oldest = sym (ap unless_oldest none) ∙ is in cc no);
}

-- the layer above does nothing to an end that isn't up
does-nothing : (end last : LinkEnd) (doings : List Doing) → is_up end.state ≡ false → DoesAll end doings last
    → last ≡ end
does-nothing end last [] not_up does = does
does-nothing end last (doing ∷ doings) not_up does =
    absurd (let no : true ≡ false = sym (ap is_up does.0) ∙ not_up in cc no)

-- ---- a DM

-- the entries that follow from what was reported
abbrev entries_by : Lists → Attempted → List ℕ → Outcome → List JobEntry
entries_by lists a information o =
    entries_taken lists (after_told o.heard (with_end a o.after) information) (packets_told o.heard a information)
    ++ entries_behind (taking lists (after_told o.heard (with_end a o.after) information)
    (packets_told o.heard a information)).after

-- what a frame makes of an end, after which it is down, and the job does nothing
record Refuses (w : Window) (end : LinkEnd) (f : FrameValue) : Type 0 where
  o : Outcome
  row_is : row w end f ≡ o
  idle : Idle o.after
  down : o.after.state ≡ Down
  unused : IsUnused o.after
  silent : (lists : Lists) (a : Attempted) → entries_by lists a f.kind.information o ≡ []

dm-refuses : (w : Window) (end : LinkEnd) (f : FrameValue) → f.kind.control ≡ Dm → f.command ≡ false → Waits end
    → Idle end → Refuses w end f
dm-refuses w end f dm responds waits idle = by waits.state
  where
    by : CallsOrDown end.state → Refuses w end f
    by (inl calls) = record {
      o = closing end why.Dm;
      row_is = ap (λ (s : LinkState). row_of_state s w end f) calls ∙ ap (λ (c : Control). calling_row end f c) dm;
      idle = idle-down end idle;
      down = refl;
      unused = unused-down end idle.reply waits.unused;
      silent = λ lists a. refl;
    }
    by (inr down) = record {
      o = passed_over end;
      row_is =
          ap (λ (s : LinkState). row_of_state s w end f) down
          ∙ ap (λ (c : Control). passed_over (if is_call c || (f.command && f.poll) then replying end
          (refuse f.poll) else end)) dm
          ∙ ap (λ (b : Bool). passed_over (if b && f.poll then replying end (refuse f.poll) else end)) responds;
      idle = idle;
      down = down;
      unused = waits.unused;
      silent =
          λ lists a. ap (λ (s : LinkState). if is_up s then entries_due (free_octets end) (with_end a end) else [])
          down;
    }

-- After a DM such an end waits still, and nothing is sent, or done by the job.
pub record StaysWaiting (frames : List FrameValue) (last : LinkEnd) (entries : List JobEntry) : Type 0 where
  pub silent : frames ≡ []
  pub waits : Waits last
  pub nothing : entries ≡ []

pub dm-waits : (w : Window) (lists : Lists) (a : Attempted) (f : FrameValue) (made last : LinkEnd)
    (frames : List FrameValue) → f.kind.control ≡ Dm → f.command ≡ false → Waits a.end
    → StepOf w a.end (frame f) made frames last → StaysWaiting frames last (entries_heard w lists a f)
dm-waits w lists a f made last frames dm responds waits step =
    let end : LinkEnd = a.end in
    let idle = quiet-idle w end (not-up end.state waits.state) waits.unused.again step.link.quiet in
    let refuses = dm-refuses w end f dm responds waits idle in
    let after : LinkEnd = refuses.o.after in
    let is : (row w end f).after ≡ after = ap (λ (o : Outcome). o.after) refuses.row_is in
    let does : DoesAll after step.doings step.link.end =
    subst (λ (e : LinkEnd). DoesAll e step.doings step.link.end) is step.link.does in
    let same : step.link.end ≡ after = does-nothing after step.link.end step.doings (ap is_up refuses.down) does in
    let none = drains-nothing w after last frames (idle-quiet w after refuses.idle)
    (subst (λ (e : LinkEnd). Drains w e frames last) same step.link.drains) in
    record {
      silent = none.0;
      waits = subst Waits (sym none.1) (record { state = inr refuses.down; unused = refuses.unused });
      nothing = ap (λ (o : Outcome). entries_by lists a f.kind.information o) refuses.row_is ∙ refuses.silent lists a;
    }

-- ---- a tick

tick-state : (end : LinkEnd) → end.state ≡ Calling
    → ((after_tick end).state ≡ Calling) ⊎ (after_tick end ≡ entering end Down)
tick-state end calls = by (is_down end.state) (runs_out end) (is_spent end)
  where
    by : (down runs spent : Bool)
        → ((if down then end else (if runs then (if spent then entering end Down else trying
        end) else record end { count = end.count + 1 })).state ≡ Calling)
        ⊎ ((if down then end else (if runs then (if spent then entering end Down else trying
        end) else record end { count = end.count + 1 })) ≡ entering end Down)
    by true runs spent = inl calls
    by false true true = inr refl
    by false true false = inl calls
    by false false spent = inl calls

tick-waits : (end : LinkEnd) → Idle end → Waits end → Waits (after_tick end)
tick-waits end idle waits = by waits.state
  where
    called : end.state ≡ Calling → ((after_tick end).state ≡ Calling) ⊎ (after_tick end ≡ entering end Down)
        → Waits (after_tick end)
    called calls (inl still) = record { state = inl still; unused = tick-unused end calls waits.unused still }
    called calls (inr same) =
        subst Waits (sym same) (record { state = inr refl; unused = unused-down end idle.reply waits.unused })

    by : CallsOrDown end.state → Waits (after_tick end)
    by (inl calls) = called calls (tick-state end calls)
    by (inr down) = subst Waits (sym (tick-down end down)) waits

told-end : (told : Heard) (a : Attempted) (octets : List ℕ) → (after_told told a octets).end ≡ a.end
told-end Nothing a octets = refl
told-end Opened a octets = refl
told-end Reopened a octets = refl
told-end Bytes a octets = refl
told-end (Closed why) a octets = refl

behind-nothing : (a : Attempted) → is_up a.end.state ≡ false → entries_behind a ≡ []
behind-nothing a not_up = ap (λ (b : Bool). if b then entries_due (free_octets a.end) a else []) not_up

ticked-nothing : (a : Attempted) → Waits (after_tick a.end) → entries_ticked a ≡ []
ticked-nothing a waits =
    let told : Heard = heard_of_tick (told_of_tick a.end) in
    behind-nothing (after_told told (with_end a (after_tick a.end)) [])
    (ap (λ (e : LinkEnd). is_up e.state) (told-end told (with_end a (after_tick a.end)) [])
    ∙ not-up (after_tick a.end).state waits.state)

-- the job does nothing at a tick
pub ticks-nothing : (w : Window) (a : Attempted) → Waits a.end → IsQuiet w a.end → entries_ticked a ≡ []
ticks-nothing w a waits quiet =
    ticked-nothing a (tick-waits a.end (quiet-idle w a.end (not-up a.end.state waits.state) waits.unused.again quiet)
    waits)

-- After a tick it waits still, and nothing was sent, or it sent a SABM, and calls.
pub tick-stays : (w : Window) (a : Attempted) (made last : LinkEnd) (frames : List FrameValue) → Waits a.end
    → StepOf w a.end tick made frames last
    → StaysWaiting frames last (entries_ticked a) ⊎ SendsCall frames last
tick-stays w a made last frames waits step = by waits.state
  where
    idle : Idle a.end
    idle = quiet-idle w a.end (not-up a.end.state waits.state) waits.unused.again step.link.quiet

    ticked : Waits (after_tick a.end)
    ticked = tick-waits a.end idle waits

    same : step.link.end ≡ after_tick a.end
    same =
        does-nothing (after_tick a.end) step.link.end step.doings
        (not-up (after_tick a.end).state ticked.state) step.link.does

    drains : Drains w (after_tick a.end) frames last
    drains = subst (λ (e : LinkEnd). Drains w e frames last) same step.link.drains

    still : frames ≡ [] → StaysWaiting frames last (entries_ticked a)
    still none = record {
      silent = none;
      waits =
          subst Waits (sym (subst (λ (fs : List FrameValue). Drains w (after_tick a.end) fs last) none drains).1)
          ticked;
      nothing = ticked-nothing a ticked;
    }

    sent : (frames ≡ []) ⊎ SendsCall frames last → StaysWaiting frames last (entries_ticked a) ⊎ SendsCall frames last
    sent (inl none) = inl (still none)
    sent (inr calls) = inr calls

    by : CallsOrDown a.end.state → StaysWaiting frames last (entries_ticked a) ⊎ SendsCall frames last
    by (inl calls) = sent (tick-sends w a.end calls idle last frames drains)
    by (inr down) =
        inl
        (still
        (drains-nothing w a.end last frames (idle-quiet w a.end idle)
        (subst (λ (e : LinkEnd). Drains w e frames last) (tick-down a.end down) drains)).0)
