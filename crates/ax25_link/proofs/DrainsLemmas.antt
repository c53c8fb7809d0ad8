-- Each end has nothing left to send after one list of frames.
use Rattle.std.proofs.Common.{◌≡◌, ℕ, ◌≤◌, ◌⊎◌, List, [], ◌∷◌, Option, Some, None, refl, sym, ◌∙◌, ap, subst, arith, inl, inr, zero, suc}
use Rattle.ax25_link.proofs.Names.{same_Some, FrameValue, Window, LinkEnd, IsEnd, Sending, next_sending, Drains, DrainsLaw}
use Rattle.ax25_link.proofs.SendLemmas.{left_to_send, next_sending-Sends}

-- all frames that an end sends, and the end then
abbrev Drained : Window → LinkEnd → Type 0
Drained w end = (frames : List FrameValue) × (last : LinkEnd) × Drains w end frames last

option_cases : (o : Option Sending) → (o ≡ None) ⊎ ((x : Sending) × (o ≡ Some x))
option_cases None = inl refl
option_cases (Some x) = inr (x, refl)

drained : (fuel : ℕ) (w : Window) (end : LinkEnd) → IsEnd w end → left_to_send end ≤ fuel → Drained w end
drained zero w end fits few =
    elim (option_cases (next_sending w end)) [
      | inl none ↦ ([], end, (none, refl))
      | inr some ↦
          let less = (next_sending-Sends w end some.0 fits some.1).less in
          absurd (let x : ⊥ = omega (arith, less) in x)
    ]
drained (suc fuel) w end fits few =
    elim (option_cases (next_sending w end)) [
      | inl none ↦ ([], end, (none, refl))
      | inr some ↦
          let s = next_sending-Sends w end some.0 fits some.1 in
          let less = s.less in
          let rest = drained fuel w some.0.after s.fits (omega (arith, less)) in
          (some.0.frame ∷ rest.0, rest.1, (some.0, some.1, refl, rest.2))
    ]

one_way : (w : Window) (end : LinkEnd) (frames others : List FrameValue) (last another : LinkEnd) → Drains w end frames last
    → Drains w end others another → (frames ≡ others) × (last ≡ another)
one_way w end [] [] last another h g = (refl, h.1 ∙ sym g.1)
one_way w end [] (f ∷ others) last another h g = absurd (let a = h.0 in let b = g.1 in let x : ⊥ = cc in x)
one_way w end (f ∷ frames) [] last another h g = absurd (let a = h.1 in let b = g.0 in let x : ⊥ = cc in x)
one_way w end (f ∷ frames) (e ∷ others) last another h g =
    let same : g.0 ≡ h.0 = same_Some g.0 h.0 (sym g.1 ∙ h.1) in
    let first : f ≡ e = h.2 ∙ ap (λ (s : Sending). s.frame) (sym same) ∙ sym g.2 in
    let rest = one_way w h.0.after frames others last another h.3
    (subst (λ (s : Sending). Drains w s.after others another) same g.3) in
    ((let both : f ∷ frames ≡ e ∷ others = ap (λ (x : FrameValue). x ∷ frames) first ∙ ap (λ (l : List FrameValue). e ∷ l) rest.0 in both), rest.1)

pub drains : DrainsLaw
drains w end window fits = (
  drained (left_to_send end) w end fits (omega arith),
  λ frames others last another h g. one_way w end frames others last another h g,
)
