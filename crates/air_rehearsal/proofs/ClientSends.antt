-- What a client's step keeps, whatever it sends: it has a link behind an asking and where it had one, and without one
-- a tick sends nothing.
use Rattle.std.proofs.Common.{◌≡◌, List, [], ◌∷◌, Option, None, Some, refl, sym, ap, subst, ◌∙◌}
use Rattle.ax25_link.specs.Refusals.{refusal_frame}
use Rattle.ftl0_client.specs.Attempt.Hearing.{ticking, with_end}
use Rattle.ftl0_client.specs.Client.{ClientEvent}
use Rattle.ftl0_client.specs.Client.{hears, ticks}
use Rattle.ftl0_client.specs.ClientStep.{Empties}
use Rattle.air_rehearsal.proofs.Names.{⊤, same_Some, FrameValue, Sending, next_sending, NotesCommand, Attempted, calling, Client, ClientSends, IsSilent, Refused, asking, asks, sends_by, sends_of_attempt, sends_of_link, ticking_by, with_attempt, ClientStep}

-- it has a link
abbrev pub HasLink : Client → Type 0
HasLink client = (a : Attempted) × (client.attempt ≡ Some a)

-- ---- what is sent keeps the link

link-sends : (client : Client) (a : Attempted) (o : Option Sending) (sends : ClientSends)
    → sends_of_link client a o ≡ Some sends → HasLink sends.after
link-sends client a None sends is = absurd cc
link-sends client a (Some sending) sends is =
    let after : Client = with_attempt client (with_end a sending.after) in
    let same = same_Some (record { frame = sending.frame; after = after }) sends is in
    (with_end a sending.after, ap (λ (s : ClientSends). s.after.attempt) (sym same))

next-sends : (client : Client) (a : Attempted) (stray : Option Refused) (sends : ClientSends)
    → client.attempt ≡ Some a → sends_by client stray ≡ Some sends → HasLink sends.after
next-sends client a None sends has is =
    link-sends client a (next_sending client.window a.end) sends (ap (sends_of_attempt client) (sym has) ∙ is)
next-sends client a (Some refused) sends has is =
    let after : Client = record client { stray = None } in
    let same = same_Some (record { frame = refusal_frame client.me refused; after = after }) sends is in
    (a, ap (λ (s : ClientSends). s.after.attempt) (sym same) ∙ has)

pub empties-link : (frames : List FrameValue) (client last : Client) (a : Attempted) → client.attempt ≡ Some a
    → Empties client frames last → HasLink last
empties-link [] client last a has sent = (a, ap (λ (c : Client). c.attempt) sent.1 ∙ has)
empties-link (frame ∷ frames) client last a has sent =
    let more = next-sends client a client.stray sent.0 has sent.1 in
    empties-link frames sent.0.after last more.0 more.1 sent.3

-- one that has nothing to send sends nothing
pub silent-none : (frames : List FrameValue) (client last : Client) → IsSilent client → Empties client frames last
    → frames ≡ []
silent-none [] client last silent sent = refl
silent-none (frame ∷ frames) client last silent sent =
    absurd (let no : None ≡ Some sent.0 = sym silent ∙ sent.1 in cc)

-- ---- by the event

-- So the step goes: behind an asking there is a link, and so there is behind a tick where there was one; where there
-- was none a tick sends nothing.
abbrev pub GoesBy : ClientEvent → Option Attempted → Option Attempted → List FrameValue → Type 0
GoesBy (asks job) before None frames = ⊥
GoesBy (asks job) before (Some now) frames = ⊤
GoesBy (hears frame) before now frames = ⊤
GoesBy ticks None now frames = frames ≡ []
GoesBy ticks (Some a) None frames = ⊥
GoesBy ticks (Some a) (Some now) frames = ⊤

module _ (old new : Client) (noted : List NotesCommand) (frames : List FrameValue) where
  goes-ticks : (before : Option Attempted) → old.attempt ≡ before → ClientStep old ticks noted frames new
      → GoesBy ticks before new.attempt frames
  goes-ticks None has step =
      silent-none frames old new step.silent
      (subst (λ (o : Option Attempted). Empties (ticking_by old o) frames new) has step.sent)
  goes-ticks (Some a) has step =
      let sent : Empties (ticking_by old (Some a)) frames new =
      subst (λ (o : Option Attempted). Empties (ticking_by old o) frames new) has step.sent in
      let link = empties-link frames (with_attempt old (ticking a)) new (ticking a) refl sent in
      subst (λ (o : Option Attempted). GoesBy ticks (Some a) o frames) (sym link.1) tt

  pub goes-by : (event : ClientEvent) → ClientStep old event noted frames new
      → GoesBy event old.attempt new.attempt frames
  goes-by (asks job) step =
      let link =
      empties-link frames (asking old job) new (calling old.me old.server job) refl step.sent in
      subst (λ (o : Option Attempted). GoesBy (asks job) old.attempt o frames) (sym link.1) tt
  goes-by (hears frame) step = tt
  goes-by ticks step = goes-ticks old.attempt refl step
