-- What each step of an end keeps.
use Rattle.std.proofs.Common.{◌≡◌, ℕ, ◌-◌, ◌≤◌, ◌⊎◌, Option, Some, None, refl, sym, ap, arith, inl, inr}
use Rattle.std.specs.Prelude.{◌==◌, ◌||◌}
use Rattle.ax25_link.proofs.Names.{nat_le, nat_lt, ⊤, nat_tests, cond_both, leb-true, Window, LinkEnd, Reply, IsEnd, high, oldest, Meaning, good, stale, bad, meaning_at, meaning_of, distance, acknowledging, applying, unless_oldest, IsQuiet, sending_after, later_sending}

-- what an end that has nothing to send has
pub record Quiet (end : LinkEnd) : Type 0 where
  pub reply : end.reply ≡ None
  pub again : end.again ≡ 0

no_reply : (w : Window) (end : LinkEnd) (reply : Option Reply) → sending_after w end reply ≡ None → (reply ≡ None) × (later_sending w end ≡ None)
no_reply w end None h = (refl, h)
no_reply w end (Some reply) h = absurd (let bad : ⊥ = cc in bad)

none_again : (w : Window) (end : LinkEnd) → later_sending w end ≡ None → end.again ≡ 0
none_again w end h = grind (arith, nat_tests)

pub quiet : (w : Window) (end : LinkEnd) → IsQuiet w end → Quiet end
quiet w end h =
    let parts = no_reply w end end.reply h in
    record { reply = parts.0; again = none_again w end parts.1 }

-- all that an acknowledgement leaves
pub record Keeps (end after : LinkEnd) : Type 0 where
  pub state : after.state ≡ end.state
  pub pushed : after.pushed ≡ end.pushed
  pub queued : after.queued ≡ end.queued
  pub sent : after.sent ≡ end.sent
  pub taken : after.taken ≡ end.taken
  pub reply : after.reply ≡ end.reply
  pub again : after.again ≡ end.again
  pub busy : after.busy ≡ end.busy
  pub farewell : after.farewell ≡ end.farewell

pub acknowledging-keeps : (end : LinkEnd) (x : ℕ) → Keeps end (acknowledging end x)
acknowledging-keeps end x =
    cond_both (nat_lt end.acked x || (x == high end)) _ _ (λ (after : LinkEnd). Keeps end after)
    (λ e. record { state = refl; pushed = refl; queued = refl; sent = refl; taken = refl; reply = refl; again = refl; busy = refl; farewell = refl })
    (λ e. record { state = refl; pushed = refl; queued = refl; sent = refl; taken = refl; reply = refl; again = refl; busy = refl; farewell = refl })

pub acknowledging-acked : (end : LinkEnd) (x : ℕ) → end.acked ≤ x → (acknowledging end x).acked ≡ x
acknowledging-acked end x least = grind (arith, nat_tests)

-- what is acknowledged after an N(R) was applied
pub record Applied (end after : LinkEnd) : Type 0 where
  pub keeps : Keeps end after
  pub least : end.acked ≤ after.acked
  pub most : after.acked ≤ high end

-- a good N(R) lies from what is acknowledged to what was sent
pub record InRange (end : LinkEnd) (x : ℕ) : Type 0 where
  pub least : end.acked ≤ x
  pub most : x ≤ high end

abbrev pub Fits : LinkEnd → Meaning → Type 0
Fits end (good x) = InRange end x
Fits end stale = ⊤
Fits end bad = ⊤

pub meaning-Fits : (w : Window) (end : LinkEnd) (far : ℕ) → end.acked ≤ high end → Fits end (meaning_at w end far)
meaning-Fits w end far order =
    cond_both (nat_le far (high end - end.acked)) _ _ (Fits end)
    (λ e. let near : far ≤ high end - end.acked = leb-true far (high end - end.acked) e in record { least = omega arith; most = omega arith })
    (λ e. cond_both (nat_lt w.size far) _ _ (Fits end) (λ f. tt) (λ f. tt))

pub acknowledging-Applied : (end : LinkEnd) (x : ℕ) → end.acked ≤ x → x ≤ high end → Applied end (acknowledging end x)
acknowledging-Applied end x least most =
    let e = acknowledging-acked end x least in
    record { keeps = acknowledging-keeps end x; least = omega (arith, e); most = omega (arith, e) }

pub applying-Applied : (end : LinkEnd) (meaning : Meaning) → Fits end meaning → end.acked ≤ high end → Applied end (applying end meaning)
applying-Applied end (good x) fits order = acknowledging-Applied end x fits.least fits.most
applying-Applied end stale fits order = acknowledging-Applied end end.acked (omega arith) order
applying-Applied end bad fits order =
    record {
      keeps = record { state = refl; pushed = refl; queued = refl; sent = refl; taken = refl; reply = refl; again = refl; busy = refl; farewell = refl };
      least = omega arith;
      most = order;
    }

pub meaning-Applied : (w : Window) (end : LinkEnd) (nr : ℕ) → IsEnd w end → Applied end (applying end (meaning_of w end nr))
meaning-Applied w end nr h =
    applying-Applied end (meaning_of w end nr) (meaning-Fits w end (distance w end.acked nr) h.acked) h.acked

-- what is acknowledged then is what was before, or what a good N(R) says
pub applying-acked : (end : LinkEnd) (meaning : Meaning) → Fits end meaning
    → ((applying end meaning).acked ≡ end.acked) ⊎ (meaning ≡ good (applying end meaning).acked)
applying-acked end (good x) fits = inr (ap good (sym (acknowledging-acked end x fits.least)))
applying-acked end stale fits = inl (acknowledging-acked end end.acked (omega arith))
applying-acked end bad fits = inl refl

-- a reply stays only if it is no I frame
pub unless_oldest-no : (reply : Option Reply) → unless_oldest reply ≡ Some oldest → ⊥
unless_oldest-no (Some oldest) h = let no : ⊥ = cc in no
unless_oldest-no reply h = let no : ⊥ = cc in no
