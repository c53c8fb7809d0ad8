-- Ending places one after another.
use Rattle.std.proofs.Common.{◌≡◌, ◌≢◌, ℕ, zero, suc, ◌<◌, List, [], ◌∷◌, length, get_or, drop, refl, sym, subst, arith}
use Rattle.ftl0_server.proofs.Names.{StoreState, IsHeld, caller_of, ConnectionState, HasEnded, MayAllEnd, MayEnd, Place, Moving, Talking, Empty, AreDistinct, IsAt}
use Rattle.ftl0_server.proofs.SettledLemmas.{held-kept}

-- the place at this index may be ended
pub end-here : (store : StoreState) (places : List Place) (i : ℕ) (place : Place) → i < length places → MayAllEnd store (drop i places)
    → place ≡ get_or places i place → MayEnd store place
end-here store [] i place lt may is = absurd (omega (arith, lt))
end-here store (p ∷ ps) zero place lt may is = subst (λ (x : Place). MayEnd store x) (sym is) may.0
end-here store (p ∷ ps) (suc i) place lt may is = end-here store ps i place (omega (arith, lt)) may is

-- and then the places after it
pub end-later : (store now : StoreState) (places : List Place) (i : ℕ) (place : Place) → i < length places → MayAllEnd store (drop i places)
    → place ≡ get_or places i place → HasEnded store now place → MayAllEnd now (drop (suc i) places)
end-later store now [] i place lt may is ended = absurd (omega (arith, lt))
end-later store now (p ∷ ps) zero place lt may is ended = may.1 now (subst (λ (x : Place). HasEnded store now x) is ended)
end-later store now (p ∷ ps) (suc i) place lt may is ended = end-later store now ps i place (omega (arith, lt)) may is ended

-- each connection is held, and no caller has two
abbrev pub AreHeld : StoreState → List Place → Type 0
AreHeld store places = ((i : ℕ) (c : ConnectionState) → IsAt places i c → IsHeld store c.session.uploads) × AreDistinct places

suc_zero : (i : ℕ) → suc i ≡ 0 → ⊥
suc_zero i same = cc

-- the same of the places after the first
held-behind : (store : StoreState) (p : Place) (ps : List Place) → AreHeld store (p ∷ ps) → AreHeld store ps
held-behind store p ps are = (
  λ i c at. are.0 (suc i) c at,
  λ one other first second a b same. let found : suc one ≡ suc other = are.1 (suc one) (suc other) first second a b same in let x : one ≡ other = cc in x,
)

-- and once the first is ended
held-ended : (store now : StoreState) (p : Place) (ps : List Place) → AreHeld store (p ∷ ps) → HasEnded store now p → AreHeld now ps
held-ended store now Moving ps are ended = subst (λ (s : StoreState). AreHeld s ps) (sym ended) (held-behind store Moving ps are)
held-ended store now (Talking d) ps are ended =
    let behind = held-behind store (Talking d) ps are in (
      λ i c at.
          let other : caller_of c.session ≢ caller_of d.session = λ same. suc_zero i (are.1 (suc i) 0 c d at refl same) in
          held-kept store now (caller_of d.session) ended.others (caller_of c.session) other c.session.uploads.phase (behind.0 i c at),
      behind.1,
    )
held-ended store now (Empty link) ps are ended = subst (λ (s : StoreState). AreHeld s ps) (sym ended) (held-behind store (Empty link) ps are)

may-first : (store : StoreState) (p : Place) (ps : List Place) → AreHeld store (p ∷ ps) → MayEnd store p
may-first store Moving ps are = tt
may-first store (Talking c) ps are = are.0 0 c refl
may-first store (Empty link) ps are = tt

pub may-all : (store : StoreState) (places : List Place) → AreHeld store places → MayAllEnd store places
may-all store [] are = tt
may-all store (p ∷ ps) are = (may-first store p ps are, λ now ended. may-all now ps (held-ended store now p ps are ended))
