-- Each client has nothing more to send after some list of frames, and there is only one such list; so each event has
-- one step.
use Rattle.std.proofs.Common.{◌≡◌, ◌⊎◌, ℕ, zero, suc, ◌<◌, ◌≤◌, List, [], ◌∷◌, Option, None, Some, refl, sym, ◌∙◌, ap}
use Rattle.std.proofs.Common.{subst, inl, inr, arith}
use Rattle.ftl0_client.proofs.Names.{same_Some, FrameValue, IsEnd, refusal_frame, Sending, next_sending, Window, left_to_send, next_sending-Sends, Attempted, AttemptState, with_end, Client, ClientHappened, ClientSends, Refused, sends_of_link, ClientState, IsAttemptOf, IsClient, LinkFits, Empties, happening, EndFits, MayStep, OneStepLaw, SomeStepLaw}
use Rattle.ftl0_client.proofs.FitsLemmas.{happening-fits}

-- ---- one list of frames

one_way : (client : Client) (frames others : List FrameValue) (last another : Client) → Empties client frames last → Empties client others another → (frames ≡ others) × (last ≡ another)
one_way client [] [] last another h g = (refl, h.1 ∙ sym g.1)
one_way client [] (f ∷ others) last another h g = absurd (let a = h.0 in let b = g.1 in let x : ⊥ = cc in x)
one_way client (f ∷ frames) [] last another h g = absurd (let a = h.1 in let b = g.0 in let x : ⊥ = cc in x)
one_way client (f ∷ frames) (e ∷ others) last another h g =
    let same : g.0 ≡ h.0 = same_Some g.0 h.0 (sym g.1 ∙ h.1) in
    let first : f ≡ e = h.2 ∙ ap (λ (s : ClientSends). s.frame) (sym same) ∙ sym g.2 in
    let rest = one_way h.0.after frames others last another h.3 (subst (λ (s : ClientSends). Empties s.after others another) same g.3) in
    ((let both : f ∷ frames ≡ e ∷ others = ap (λ (x : FrameValue). x ∷ frames) first ∙ ap (λ (l : List FrameValue). e ∷ l) rest.0 in both), rest.1)

pub one_step : OneStepLaw
one_step old event noted those_noted frames those new that step other =
    let same = one_way (happening old event).after frames those new that step.sent other.sent in
    record { commands = step.noted_is ∙ sym other.noted_is; sent = same.0; client = same.1 }

-- ---- some list of frames

-- the client sends some frames, and then it may step again
abbrev Emptied : Client → Type 0
Emptied client = (frames : List FrameValue) × (last : Client) × Empties client frames last × MayStep last

-- the client with this attempt and no DM to send
abbrev linked : Client → Attempted → Client
linked client a = record client { attempt = Some a; stray = None }

option_cases : (o : Option Sending) → (o ≡ None) ⊎ ((x : Sending) × (o ≡ Some x))
option_cases None = inl refl
option_cases (Some x) = inr (x, refl)

module _ (client : Client) where
  link-done : (a : Attempted) → IsEnd client.window a.end → next_sending client.window a.end ≡ None → Emptied (linked client a)
  link-done a fit none =
      let silent = ap (λ (o : Option Sending). sends_of_link (linked client a) a o) none in
      ([], linked client a, (silent, refl), record { silent = silent; fits = fit })

  link-emptied : (fuel : ℕ) (a : Attempted) → IsEnd client.window a.end → left_to_send a.end ≤ fuel → Emptied (linked client a)
  link-emptied zero a fit few =
      elim (option_cases (next_sending client.window a.end)) [
        | inl none ↦ link-done a fit none
        | inr some ↦
            let less : left_to_send some.0.after < left_to_send a.end = (next_sending-Sends client.window a.end some.0 fit some.1).less in
            absurd (let x : ⊥ = omega (arith, less, few) in x)
      ]
  link-emptied (suc fuel) a fit few =
      elim (option_cases (next_sending client.window a.end)) [
        | inl none ↦ link-done a fit none
        | inr some ↦
            let sends = next_sending-Sends client.window a.end some.0 fit some.1 in
            let less : left_to_send some.0.after < left_to_send a.end = sends.less in
            let next : Attempted = with_end a some.0.after in
            let rest = link-emptied fuel next sends.fits (omega (arith, less, few)) in
            let gives : ClientSends = record { frame = some.0.frame; after = linked client next } in
            (some.0.frame ∷ rest.0, rest.1, (gives, ap (λ (o : Option Sending). sends_of_link (linked client a) a o) some.1, refl, rest.2), rest.3)
      ]

  -- whatever it has to send
  abbrev with_both : Option Refused → Option Attempted → Client
  with_both stray attempt = record client { attempt = attempt; stray = stray }

  attempt-emptied : (attempt : Option Attempted) → EndFits client.window attempt → Emptied (with_both None attempt)
  attempt-emptied None fit = ([], with_both None None, (refl, refl), record { silent = refl; fits = tt })
  attempt-emptied (Some a) fit = link-emptied (left_to_send a.end) a fit (omega arith)

  both-emptied : (stray : Option Refused) (attempt : Option Attempted) → EndFits client.window attempt → Emptied (with_both stray attempt)
  both-emptied None attempt fit = attempt-emptied attempt fit
  both-emptied (Some refused) attempt fit =
      let rest = attempt-emptied attempt fit in
      let gives : ClientSends = record { frame = refusal_frame client.me refused; after = with_both None attempt } in
      (gives.frame ∷ rest.0, rest.1, (gives, refl, refl, rest.2), rest.3)

pub emptied : (client : Client) → EndFits client.window client.attempt → Emptied client
emptied client fit = both-emptied client client.stray client.attempt fit

pub some_step : SomeStepLaw
some_step old event may =
    let happened : ClientHappened = happening old event in
    let all = emptied happened.after (happening-fits old event may.silent may.fits) in
    record {
      noted = happened.noted;
      frames = all.0;
      new = all.1;
      step = record { silent = may.silent; noted_is = refl; sent = all.2 };
      may_step = all.3;
    }

-- ---- of the code's client

end-fits : (w : Window) (attempt : Option AttemptState) (a : Option Attempted) → LinkFits attempt → IsAttemptOf w attempt a → EndFits w a
end-fits w None None fit is = tt
end-fits w None (Some a) fit is = absurd is
end-fits w (Some attempt) None fit is = absurd is
end-fits w (Some attempt) (Some a) fit is = fit w a.end is.link

pub empties : (self : ClientState) (client : Client) → LinkFits self.attempt → IsClient self client → (frames : List FrameValue) × (last : Client) × Empties client frames last
empties self client fit is =
    let all = emptied client (end-fits client.window self.attempt client.attempt fit is.attempt) in
    (all.0, all.1, all.2)
