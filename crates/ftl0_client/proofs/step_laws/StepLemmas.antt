-- A client's step follows from its attempt.
use Rattle.std.proofs.Common.{◌≡◌, Bool, true, false, List, [], ◌∷◌, Option, None, Some, refl, sym, ◌∙◌, ap, subst}
use Rattle.std.specs.Prelude.{if◌then◌else◌}
use Rattle.ax25_link.specs.Refusals.{is_answered, refusal_frame}
use Rattle.ax25_link.specs.Sending.{Drains, IsQuiet, Sending, next_sending, sends_reply}
use Rattle.px_base.specs.CallSign.{CallSign}
use Rattle.ftl0_client.specs.Client.{Client, ClientHappened, ClientSends, IsSilent, Refused, attempt_for, heard_by, hearing_by, refusing, sends_by, sends_of_attempt, sends_of_link, ticking_by, with_attempt}
use Rattle.ftl0_client.specs.ClientStep.{Empties}
use Rattle.ftl0_client.specs.StepLaws.Steps.{StepLaw}
use Rattle.ftl0_client.proofs.step_laws.Names.{same_Some, FrameValue, LinkEnd, call, calling_end, frame_of_reply, Window, after_all, Attempted, calling, hearing, ticking, with_end, Happened, quietly, is_same_call}
use Rattle.ftl0_client.proofs.step_laws.EntryLemmas.{hearing-law, ticking-law}

-- ---- what the end of an attempt sends

-- the client with this attempt and no DM to send
abbrev linked : Client → Attempted → Client
linked client a = record client { attempt = Some a; stray = None }

-- what an end sends, as a client
abbrev sends_as : Client → Attempted → Sending → ClientSends
sends_as client a s = record { frame = s.frame; after = with_attempt client (with_end a s.after) }

link-none : (client : Client) (a : Attempted) (o : Option Sending) → sends_of_link client a o ≡ None → o ≡ None
link-none client a None h = refl
link-none client a (Some s) h = absurd (cc h)

link-some : (client : Client) (a : Attempted) (o : Option Sending) (sends : ClientSends) → sends_of_link client a o ≡ Some sends → (s : Sending) × (o ≡ Some s) × (sends ≡ sends_as client a s)
link-some client a None sends h = absurd (cc h)
link-some client a (Some s) sends h = (s, refl, sym (same_Some (sends_as client a s) sends h))

drained : (client : Client) (a : Attempted) (frames : List FrameValue) (last : Client) → Empties (linked client a) frames last
    → (end : LinkEnd) × Drains client.window a.end frames end × (last ≡ linked client (with_end a end))
drained client a [] last h = (a.end, (link-none (linked client a) a (next_sending client.window a.end) h.0, refl), h.1)
drained client a (f ∷ frames) last h =
    let found = link-some (linked client a) a (next_sending client.window a.end) h.0 h.1 in
    let rest = drained client (with_end a found.0.after) frames last (subst (λ (s : ClientSends). Empties s.after frames last) found.2 h.3) in
    (rest.0, (found.0, found.1, h.2 ∙ ap (λ (s : ClientSends). s.frame) found.2, rest.1), rest.2)

-- ---- a client that has nothing to send

no-stray : (client : Client) (o : Option Refused) → sends_by client o ≡ None → o ≡ None
no-stray client None h = refl
no-stray client (Some r) h = absurd (cc h)

module _ (old : Client) (silent : IsSilent old) where
  none : old.stray ≡ None
  none = no-stray old old.stray silent

  quiet : (a : Attempted) → old.attempt ≡ Some a → IsQuiet old.window a.end
  quiet a is =
      let unsaid : sends_of_attempt old old.attempt ≡ None = ap (sends_by old) (sym none) ∙ silent in
      link-none old a (next_sending old.window a.end) (ap (sends_of_attempt old) (sym is) ∙ unsaid)

  sends-nothing : (frames : List FrameValue) (new : Client) → Empties old frames new → (frames ≡ []) × (new ≡ old)
  sends-nothing [] new h = (refl, h.1)
  sends-nothing (f ∷ frames) new h = absurd (let x : None ≡ Some h.0 = sym silent ∙ h.1 in cc x)

  drains-all : (h : Happened) (frames : List FrameValue) (new : Client) → Empties (heard_by old h).after frames new
      → (last : LinkEnd) × Drains old.window h.after.end frames last × (new ≡ (heard_by old (record h { after = with_end h.after last })).after)
  drains-all h frames new sent =
      let with_stray : Option Refused → Attempted → Client = λ stray a. record old { lists = after_all old.lists h.noted; attempt = Some a; stray = stray } in
      let all = drained (record old { lists = after_all old.lists h.noted }) h.after frames new (subst (λ (o : Option Refused). Empties (with_stray o h.after) frames new) none sent) in
      (all.0, all.1, all.2 ∙ ap (λ (o : Option Refused). with_stray o (with_end h.after all.0)) (sym none))

  answers : (b : Bool) (to : CallSign) (poll : Bool) (frames : List FrameValue) (new : Client) → Empties (if b then refusing old to poll else old) frames new
      → (frames ≡ (if b then refusal_frame old.me (record { to = to; poll = poll }) ∷ [] else [])) × (new ≡ old)
  answers false to poll frames new h = sends-nothing frames new h
  answers true to poll [] new h = absurd (let x = h.0 in cc x)
  answers true to poll (f ∷ frames) new h =
      let first : ClientSends = record { frame = refusal_frame old.me (record { to = to; poll = poll }); after = record old { stray = None } } in
      let same : first ≡ h.0 = same_Some first h.0 h.1 in
      let rest : Empties (record old { stray = None }) frames new = subst (λ (s : ClientSends). Empties s.after frames new) (sym same) h.3 in
      let others = sends-nothing frames new (subst (λ (o : Option Refused). Empties (record old { stray = o }) frames new) (sym none) rest) in
      let only : f ≡ first.frame = h.2 ∙ ap (λ (s : ClientSends). s.frame) (sym same) in
      (ap (λ (x : FrameValue). x ∷ frames) only ∙ ap (λ (l : List FrameValue). first.frame ∷ l) others.0, others.1)

-- ---- a call

abbrev first_call : Window → LinkEnd → Sending
first_call w end = sends_reply w end call

calls : (w : Window) (me peer : CallSign) (frames : List FrameValue) (last : LinkEnd) → Drains w (calling_end me peer) frames last
    → (frames ≡ frame_of_reply w (calling_end me peer) call ∷ []) × (last ≡ record (calling_end me peer) { reply = None })
calls w me peer [] last d = absurd (let x = d.0 in cc x)
calls w me peer (f ∷ frames) last d =
    let end : LinkEnd = calling_end me peer in
    let same : first_call w end ≡ d.0 = same_Some (first_call w end) d.0 d.1 in
    by frames (d.2 ∙ ap (λ (s : Sending). s.frame) (sym same)) (subst (λ (s : Sending). Drains w s.after frames last) (sym same) d.3)
  where
    by : (more : List FrameValue) → f ≡ frame_of_reply w (calling_end me peer) call → Drains w (record (calling_end me peer) { reply = None }) more last
        → (f ∷ more ≡ frame_of_reply w (calling_end me peer) call ∷ []) × (last ≡ record (calling_end me peer) { reply = None })
    by [] is d = (ap (λ (x : FrameValue). x ∷ []) is, d.1)
    by (g ∷ more) is d = absurd (let x = d.1 in cc x)

-- ---- steps

pub step-law : StepLaw
step-law = record {
  asked = λ old new job noted frames step.
      let all = drains-all old step.silent (quietly (calling old.me old.server job)) frames new step.sent in
      let one = calls old.window old.me old.server frames all.0 all.1 in
      record { noted_is = step.noted_is; frames_are = one.0; new_is = all.2 ∙ ap (λ (end : LinkEnd). with_attempt old (with_end (calling old.me old.server job) end)) one.1 };
  heard = λ old new frame a noted frames step is.
      let h : Happened = hearing old.window old.lists a frame in
      let same : hearing_by old frame (attempt_for old frame) ≡ heard_by old h = ap (hearing_by old frame) is in
      let all = drains-all old step.silent h frames new (subst (λ (e : ClientHappened). Empties e.after frames new) same step.sent) in
      let did = (hearing-law old.window old.lists a frame).0 in
      record {
        noted_is = step.noted_is ∙ ap (λ (e : ClientHappened). e.noted) same;
        doings = did.doings;
        last = all.0;
        link = record { quiet = quiet old step.silent a (attempt-of old frame a is); told = refl; end = h.after.end; does = did.does; drains = all.1 };
        ends = refl;
        new_is = all.2;
      };
  passed = λ old new frame noted frames step is.
      let same = ap (hearing_by old frame) is in
      let all = answers old step.silent (is_answered frame) frame.src frame.poll frames new (subst (λ (e : ClientHappened). Empties e.after frames new) same step.sent) in
      record { noted_is = step.noted_is ∙ ap (λ (e : ClientHappened). e.noted) same; frames_are = all.0; new_is = all.1 };
  ticked = λ old new a noted frames step is.
      let same : ticking_by old old.attempt ≡ with_attempt old (ticking a) = ap (ticking_by old) is in
      let all = drains-all old step.silent (quietly (ticking a)) frames new (subst (λ (c : Client). Empties c frames new) same step.sent) in
      let did = (ticking-law old.lists a).0 in
      record {
        noted_is = step.noted_is;
        doings = did.doings;
        last = all.0;
        link = record { quiet = quiet old step.silent a is; told = refl; end = (ticking a).end; does = did.does; drains = all.1 };
        ends = refl;
        new_is = all.2;
      };
  idle = λ old new noted frames step is.
      let all = sends-nothing old step.silent frames new (subst (λ (c : Client). Empties c frames new) (ap (ticking_by old) is) step.sent) in
      record { noted_is = step.noted_is; frames_are = all.0; new_is = all.1 };
}
  where
    attempt-of : (old : Client) (frame : FrameValue) (a : Attempted) → attempt_for old frame ≡ Some a → old.attempt ≡ Some a
    attempt-of old frame a is = by (is_same_call frame.src old.server) is
      where
        by : (b : Bool) → (if b then old.attempt else None) ≡ Some a → old.attempt ≡ Some a
        by true is = is
        by false is = absurd (cc is)
