-- What is true of a client over events.
use Rattle.std.proofs.Common.{◌≡◌, ◌≢◌, ℕ, true, false, ◌==◌, List, [], ◌∷◌, ◌++◌, refl, sym, ◌∙◌, ap, ap₂, subst}
use Rattle.std.specs.List.{AllByRecursion}
use Rattle.ax25_link.specs.declared.state.LinkState.TheVariants as link
use Rattle.ftl0_client_job.specs.declared.ending.Outcome.{Outcome}
use Rattle.ftl0_client_job.specs.declared.ending.Outcome.TheVariants as reached
use Rattle.ftl0_client.specs.Attempt.Attempted as attempted
use Rattle.ftl0_client.specs.Attempt.Laws as of_attempts
use Rattle.ftl0_client.specs.Going.{AsksNothing, GoesLaw, GoesOver, Promises, SettledLaw, Stands, StaysLaw, is_over_at}
use Rattle.ftl0_client.specs.Outcomes.{outcome_by}
use Rattle.ftl0_client.proofs.Names.{Option, None, Some, nat_lt, cond_both, same_Some, FrameValue, LinkState, Down, Why, with_timer_anew, Farewell, LinkEnd, Reply, outstanding, is_answered, refusal_frame, Sending, has_new, last_sending, later_sending, next_sending, sending_after, sends_again, sends_farewell, sends_new, sends_reply, with_piece, is_down, Window, NotesCommand, after_all, Lists, is_same_call, after_all-append, Ending, Work, EndPromises, WorkPromises, listing_of, Attempted, calling, outcome_of, ticking, with_end, AttemptStands, CallingLaw, QuietLaw, StandsLaw, Client, ClientEvent, ClientSends, Refused, asking, asks, hearing_by, hearing_stranger, hears, refusing, sends_by, sends_of_attempt, sends_of_link, ticking_by, ticks, with_attempt, ClientStep, Empties, happening, IsToldDownOf, KeepsOutcome}
use Rattle.ftl0_client.proofs.OutcomeLemmas.{outcome-stays, stranger-attempt}

-- ---- what is true of the attempt, and of the client

module _ (lists : Lists) (asked : Work) (listing : List ℕ) where
  of-job : (r : Outcome) → WorkPromises lists asked listing r → Promises lists asked listing (Some r)
  of-job (reached.Acked number) keeps = keeps
  of-job (reached.Refused code) keeps = keeps
  of-job (reached.BadFile code) keeps = keeps
  of-job (reached.Fetched number) keeps = keeps
  of-job reached.Listed keeps = keeps
  of-job (reached.LinkDown why) keeps = tt
  of-job (reached.Strange kind) keeps = keeps

  promised : (o : Option Ending) (down : Option Why) → EndPromises lists asked listing o → Promises lists asked listing (attempted.outcome_by o down)
  promised None None keeps = tt
  promised None (Some why) keeps = tt
  promised (Some ending) down keeps = of-job ending.outcome keeps

module _ (asked : Work) where
  of-attempt : (client : Client) (a : Attempted) → client.attempt ≡ Some a → AttemptStands asked client.lists a → Stands asked client
  of-attempt client a is stands =
      record {
        a = a;
        is_attempt = is;
        same = stands.job.same;
        go_with = stands.job.go_with;
        filled = stands.job.filled;
        told_down = stands.told_down;
        down_told = stands.down_told;
        ended = stands.job.promises;
        promises = subst (λ (o : Option Attempted). Promises client.lists asked (listing_of a.job.work) (outcome_by o)) (sym is)
            (promised client.lists asked (listing_of a.job.work) a.job.ending a.down stands.job.promises);
      }

  to-attempt : (client : Client) (stands : Stands asked client) → AttemptStands asked client.lists stands.a
  to-attempt client stands =
      record {
        job = record { same = stands.same; go_with = stands.go_with; filled = stands.filled; promises = stands.ended };
        told_down = stands.told_down;
        down_told = stands.down_told;
      }

  -- a client with this attempt and these notes
  same-stands : (client now : Client) → now.attempt ≡ client.attempt → now.lists ≡ client.lists → Stands asked client → Stands asked now
  same-stands client now same lists stands =
      of-attempt now stands.a (same ∙ stands.is_attempt) (subst (λ (l : Lists). AttemptStands asked l stands.a) (sym lists) (to-attempt client stands))

-- ---- frames that are sent

module _ (w : Window) (end : LinkEnd) where
  -- sending leaves the state
  abbrev Leaves : Option Sending → Type 0
  Leaves o = (s : Sending) → o ≡ Some s → s.after.state ≡ end.state

  some-leaves : (x : Sending) → x.after.state ≡ end.state → Leaves (Some x)
  some-leaves x same s is = subst (λ (y : Sending). y.after.state ≡ end.state) (same_Some x s is) same

  last-leaves : (o : Option Farewell) → Leaves (last_sending end o)
  last-leaves None = λ s is. absurd (cc is)
  last-leaves (Some farewell) = some-leaves (sends_farewell end farewell) refl

  later-leaves : Leaves (later_sending w end)
  later-leaves =
      let new : (sends_new w end).after.state ≡ end.state =
      cond_both (outstanding end == 0) (with_timer_anew (with_piece end)) (with_piece end) (λ (e : LinkEnd). e.state ≡ end.state) (λ b. refl) (λ b. refl) in
      cond_both (nat_lt 0 end.again) _ _ Leaves (λ b. some-leaves (sends_again w end) refl)
      (λ b. cond_both (has_new w end) _ _ Leaves (λ n. some-leaves (sends_new w end) new) (λ n. last-leaves end.farewell))

  reply-leaves : (o : Option Reply) → Leaves (sending_after w end o)
  reply-leaves None = later-leaves
  reply-leaves (Some reply) = some-leaves (sends_reply w end reply) refl

-- what sending leaves of a client
pub record Kept (client now : Client) : Type 0 where
  pub lists : now.lists ≡ client.lists
  pub outcome : outcome_by now.attempt ≡ outcome_by client.attempt
  pub idle : client.attempt ≡ None → now.attempt ≡ None
  pub told : IsToldDownOf client.attempt → IsToldDownOf now.attempt
  pub stands : (asked : Work) → Stands asked client → Stands asked now

-- the end with which the frame was sent
sent-stands : (asked : Work) (lists : Lists) (a : Attempted) (end : LinkEnd) → end.state ≡ a.end.state → AttemptStands asked lists a → AttemptStands asked lists (with_end a end)
sent-stands asked lists a end same stands =
    record { job = stands.job; told_down = λ why is. same ∙ stands.told_down why is; down_told = λ down. stands.down_told (sym same ∙ down) }

module _ (client : Client) where
  -- what stays of a client that sends this
  abbrev KeptBy : Option ClientSends → Type 0
  KeptBy o = (sends : ClientSends) → o ≡ Some sends → Kept client sends.after

  link-kept : (a : Attempted) (o : Option Sending) → client.attempt ≡ Some a → next_sending client.window a.end ≡ o → KeptBy (sends_of_link client a o)
  link-kept a None was next sends is = absurd (cc is)
  link-kept a (Some sending) was next sends is =
      let now : Client = with_attempt client (with_end a sending.after) in
      let state : sending.after.state ≡ a.end.state = reply-leaves client.window a.end a.end.reply sending next in
      let kept : Kept client now = record {
        lists = refl;
        outcome = ap outcome_by (sym was);
        idle = λ none. let no : Some a ≡ None = sym was ∙ none in absurd (cc no);
        told = λ down why is. state ∙ subst IsToldDownOf was down why is;
        stands = λ asked stands.
            let mine : stands.a ≡ a = same_Some stands.a a (sym stands.is_attempt ∙ was) in
            of-attempt asked now (with_end a sending.after) refl
            (sent-stands asked client.lists a sending.after state (subst (AttemptStands asked client.lists) mine (to-attempt asked client stands)));
      } in
      let same : record { frame = sending.frame; after = now } ≡ sends = same_Some _ _ is in
      subst (λ (s : ClientSends). Kept client s.after) same kept

  attempt-kept : (o : Option Attempted) → client.attempt ≡ o → KeptBy (sends_of_attempt client o)
  attempt-kept None was = λ sends is. absurd (cc is)
  attempt-kept (Some a) was = link-kept a (next_sending client.window a.end) was refl

  stray-kept : (o : Option Refused) → KeptBy (sends_by client o)
  stray-kept None = attempt-kept client.attempt refl
  stray-kept (Some refused) = λ sends is.
      let now : Client = record client { stray = None } in
      let kept : Kept client now = record { lists = refl; outcome = refl; idle = λ none. none; told = λ down. down; stands = λ asked stands. same-stands asked client now refl refl stands } in
      let same : record { frame = refusal_frame client.me refused; after = now } ≡ sends = same_Some _ _ is in
      subst (λ (s : ClientSends). Kept client s.after) same kept

empties-kept : (client : Client) (frames : List FrameValue) (last : Client) → Empties client frames last → Kept client last
empties-kept client [] last h =
    subst (λ (c : Client). Kept client c) (sym h.1) (record { lists = refl; outcome = refl; idle = λ none. none; told = λ down. down; stands = λ asked stands. stands })
empties-kept client (frame ∷ frames) last h =
    let first : Kept client h.0.after = stray-kept client client.stray h.0 h.1 in
    let rest : Kept h.0.after last = empties-kept h.0.after frames last h.3 in
    record {
      lists = rest.lists ∙ first.lists;
      outcome = rest.outcome ∙ first.outcome;
      idle = λ none. rest.idle (first.idle none);
      told = λ down. rest.told (first.told down);
      stands = λ asked stands. rest.stands asked (first.stands asked stands);
    }

-- ---- an event

stranger-lists : (client : Client) (frame : FrameValue) → (hearing_stranger client frame).lists ≡ client.lists
stranger-lists client frame = cond_both (is_answered frame) (refusing client frame.src frame.poll) client (λ (c : Client). c.lists ≡ client.lists) (λ b. refl) (λ b. refl)

-- the notes are those after its commands
hearing-lists : (client : Client) (frame : FrameValue) (o : Option Attempted) → (hearing_by client frame o).after.lists ≡ after_all client.lists (hearing_by client frame o).noted
hearing-lists client frame None = stranger-lists client frame
hearing-lists client frame (Some a) = refl

ticking-lists : (client : Client) (o : Option Attempted) → (ticking_by client o).lists ≡ client.lists
ticking-lists client None = refl
ticking-lists client (Some a) = refl

event-lists : (client : Client) (event : ClientEvent) → (happening client event).after.lists ≡ after_all client.lists (happening client event).noted
event-lists client (asks job) = refl
event-lists client (hears frame) =
    cond_both (is_same_call frame.src client.server) client.attempt None (λ (o : Option Attempted). (hearing_by client frame o).after.lists ≡ after_all client.lists (hearing_by client frame o).noted)
    (λ same. hearing-lists client frame client.attempt) (λ other. hearing-lists client frame None)
event-lists client ticks = ticking-lists client client.attempt

-- a frame, in case a tick has none
some_frame : Client → FrameValue
some_frame client = refusal_frame client.me (record { to = client.server; poll = false })

module _ (law : StandsLaw) (asked : Work) (client : Client) (stands : Stands asked client) where
  abbrev a : Attempted
  a = stands.a

  heard-stands : (frame : FrameValue) → Stands asked (hearing_by client frame (Some a)).after
  heard-stands frame =
      let now : Client = (hearing_by client frame (Some a)).after in
      of-attempt asked now _ refl (law asked client.window client.lists a frame (to-attempt asked client stands)).0

  hearing-stands : (frame : FrameValue) → Stands asked (happening client (hears frame)).after
  hearing-stands frame =
      cond_both (is_same_call frame.src client.server) client.attempt None (λ (o : Option Attempted). Stands asked (hearing_by client frame o).after)
      (λ same. subst (λ (o : Option Attempted). Stands asked (hearing_by client frame o).after) (sym stands.is_attempt) (heard-stands frame))
      (λ other. same-stands asked client (hearing_stranger client frame) (stranger-attempt client frame) (stranger-lists client frame) stands)

  ticked-stands : Stands asked (happening client ticks).after
  ticked-stands =
      let ticked : Stands asked (with_attempt client (ticking a)) =
      of-attempt asked (with_attempt client (ticking a)) (ticking a) refl (law asked client.window client.lists a (some_frame client) (to-attempt asked client stands)).1 in
      subst (λ (o : Option Attempted). Stands asked (ticking_by client o)) (sym stands.is_attempt) ticked

  pub event-stands : (event : ClientEvent) → AsksNothing event → Stands asked (happening client event).after
  event-stands (asks job) nothing = absurd nothing
  event-stands (hears frame) nothing = hearing-stands frame
  event-stands ticks nothing = ticked-stands

-- ---- steps

step-lists : (client : Client) (event : ClientEvent) (noted : List NotesCommand) (sent : List FrameValue) (next : Client) → ClientStep client event noted sent next → next.lists ≡ after_all client.lists noted
step-lists client event noted sent next step =
    (empties-kept (happening client event).after sent next step.sent).lists ∙ event-lists client event ∙ ap (after_all client.lists) (sym step.noted_is)

-- What events lead to, from a client of which this is true.
pub record Went (asked : Work) (client : Client) (commands : List NotesCommand) (now : Client) : Type 0 where
  pub lists : now.lists ≡ after_all client.lists commands
  pub stands : Stands asked now

module _ (law : StandsLaw) (asked : Work) where
  pub goes : (client : Client) (events : List ClientEvent) (frames : List FrameValue) (commands : List NotesCommand) (now : Client) → Stands asked client → AllByRecursion AsksNothing events
      → GoesOver client events frames commands now → Went asked client commands now
  goes client [] frames commands now stands nothing h =
      record {
        lists = ap (λ (c : Client). c.lists) h.2 ∙ ap (after_all client.lists) (sym h.1);
        stands = subst (Stands asked) (sym h.2) stands;
      }
  goes client (event ∷ events) frames commands now stands nothing h =
      let noted : List NotesCommand = h.0 in
      let next : Client = h.2 in
      let others : List NotesCommand = h.3 in
      let step : ClientStep client event noted h.1 next = h.5 in
      let after : Stands asked next = (empties-kept (happening client event).after h.1 next step.sent).stands asked (event-stands law asked client stands event nothing.0) in
      let rest : Went asked next others now = goes next events h.4 others now after nothing.1 h.8 in
      record {
        lists = rest.lists ∙ ap (λ (l : Lists). after_all l others) (step-lists client event noted h.1 next step) ∙ sym (after_all-append noted others client.lists) ∙ ap (after_all client.lists) (sym h.7);
        stands = rest.stands;
      }

-- ---- it is over only if something became of what was asked

down-state : (state : LinkState) → is_down state ≡ true → state ≡ Down
down-state link.Down is = refl
down-state link.Calling is = absurd (cc is)
down-state link.Up is = absurd (cc is)
down-state link.Ending is = absurd (cc is)

over-done : (asked : Work) (client : Client) → Stands asked client → is_over_at client.attempt ≡ true → outcome_by client.attempt ≢ None
over-done asked client stands over =
    let a : Attempted = stands.a in
    let down : a.end.state ≡ Down = down-state a.end.state (ap is_over_at (sym stands.is_attempt) ∙ over) in
    subst (λ (o : Option Attempted). outcome_by o ≢ None) (sym stands.is_attempt) (stands.down_told down)

pub goes-law : StandsLaw → CallingLaw → GoesLaw
goes-law law call base job events frames commands now new go_with nothing h =
    let begun : Client = asking base job in
    let first : Stands job.work begun = of-attempt job.work begun (calling base.me base.server job) refl (call base.me base.server base.lists job new go_with) in
    let noted : List NotesCommand = h.0 in
    let next : Client = h.2 in
    let others : List NotesCommand = h.3 in
    let step : ClientStep base (asks job) noted h.1 next = h.5 in
    let kept : Kept begun next = empties-kept begun h.1 next step.sent in
    let went : Went job.work next others now = goes law job.work next events h.4 others now (kept.stands job.work first) nothing h.8 in
    let all : commands ≡ others = h.7 ∙ ap (λ (cs : List NotesCommand). cs ++ others) step.noted_is in
    record {
      lists = went.lists ∙ ap (λ (l : Lists). after_all l others) kept.lists ∙ ap (after_all base.lists) (sym all);
      stands = went.stands;
      over = over-done job.work now went.stands;
    }

-- ---- once something became of it

module _ (law : QuietLaw) (stays : of_attempts.OutcomeLaw) (asked : Work) (client : Client) (stands : Stands asked client) (done : outcome_by client.attempt ≢ None) where
  -- what it has is reported
  told : IsToldDownOf client.attempt
  told = subst IsToldDownOf (sym stands.is_attempt) stands.told_down

  of-mine : outcome_of stands.a ≢ None
  of-mine = subst (λ (o : Option Attempted). outcome_by o ≢ None) stands.is_attempt done

  quiet-hearing : (frame : FrameValue) → (happening client (hears frame)).noted ≡ []
  quiet-hearing frame =
      cond_both (is_same_call frame.src client.server) client.attempt None (λ (o : Option Attempted). (hearing_by client frame o).noted ≡ [])
      (λ same. subst (λ (o : Option Attempted). (hearing_by client frame o).noted ≡ []) (sym stands.is_attempt)
      (law client.window client.lists stands.a frame stands.told_down of-mine)) (λ other. refl)

  quiet-event : (event : ClientEvent) → AsksNothing event → (happening client event).noted ≡ []
  quiet-event (asks job) nothing = absurd nothing
  quiet-event (hears frame) nothing = quiet-hearing frame
  quiet-event ticks nothing = refl

  same-event : (event : ClientEvent) → AsksNothing event → outcome_by (happening client event).after.attempt ≡ outcome_by client.attempt
  same-event (asks job) nothing = absurd nothing
  same-event (hears frame) nothing = (outcome-stays stays client frame told).0.stays done
  same-event ticks nothing = (outcome-stays stays client (some_frame client) told).1.stays done

pub settled-law : StandsLaw → QuietLaw → of_attempts.OutcomeLaw → SettledLaw
settled-law law quiet stays asked old [] frames commands now stands done nothing h = (h.1, ap (λ (c : Client). outcome_by c.attempt) h.2)
settled-law law quiet stays asked old (event ∷ events) frames commands now stands done nothing h =
    let noted : List NotesCommand = h.0 in
    let next : Client = h.2 in
    let others : List NotesCommand = h.3 in
    let step : ClientStep old event noted h.1 next = h.5 in
    let kept : Kept (happening old event).after next = empties-kept (happening old event).after h.1 next step.sent in
    let same : outcome_by next.attempt ≡ outcome_by old.attempt = kept.outcome ∙ same-event quiet stays asked old stands done event nothing.0 in
    let none : noted ≡ [] = step.noted_is ∙ quiet-event quiet stays asked old stands done event nothing.0 in
    let rest =
    settled-law law quiet stays asked next events h.4 others now (kept.stands asked (event-stands law asked old stands event nothing.0)) (λ working. done (sym same ∙ working)) nothing.1 h.8 in
    (h.7 ∙ ap₂ (λ (one other : List NotesCommand). one ++ other) none rest.0, rest.1 ∙ same)

-- ---- and it stays, whatever was asked

module _ (law : of_attempts.OutcomeLaw) where
  event-keeps : (client : Client) (event : ClientEvent) → AsksNothing event → IsToldDownOf client.attempt → KeepsOutcome client (happening client event).after
  event-keeps client (asks job) nothing down = absurd nothing
  event-keeps client (hears frame) nothing down = (outcome-stays law client frame down).0
  event-keeps client ticks nothing down = (outcome-stays law client (some_frame client) down).1

  goes-keep : (client : Client) (events : List ClientEvent) (frames : List FrameValue) (commands : List NotesCommand) (now : Client) → IsToldDownOf client.attempt → AllByRecursion AsksNothing events
      → GoesOver client events frames commands now → KeepsOutcome client now
  goes-keep client [] frames commands now down nothing h = subst (KeepsOutcome client) (sym h.2) (record { down = down; stays = λ done. refl; idle = λ none. none })
  goes-keep client (event ∷ events) frames commands now down nothing h =
      let one : KeepsOutcome client (happening client event).after = event-keeps client event nothing.0 down in
      let sent : Kept (happening client event).after h.2 = empties-kept (happening client event).after h.1 h.2 h.5.sent in
      let rest : KeepsOutcome h.2 now = goes-keep h.2 events h.4 h.3 now (sent.told one.down) nothing.1 h.8 in
      record {
        down = rest.down;
        stays = λ done.
            let same : outcome_by h.2.attempt ≡ outcome_by client.attempt = sent.outcome ∙ one.stays done in
            rest.stays (λ working. done (sym same ∙ working)) ∙ same;
        idle = λ none. rest.idle (sent.idle (one.idle none));
      }

  pub stays-law : StaysLaw
  stays-law base job events others frames more commands further mid now nothing none h k =
      let sent : Kept (asking base job) h.2 = empties-kept (asking base job) h.1 h.2 h.5.sent in
      let asked : IsToldDownOf h.2.attempt = sent.told (λ why is. absurd (cc is)) in
      let reached : KeepsOutcome h.2 mid = goes-keep h.2 events h.4 h.3 mid asked nothing h.8 in
      (goes-keep mid others more further now reached.down none k).stays
