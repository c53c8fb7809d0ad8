-- What the calls that send octets add up to.
use Rattle.std.proofs.Common.{◌≡◌, inl, inr, ⊎_elim, ℕ, ◌+◌, ◌<◌, List, [], ◌∷◌, ◌++◌, length, take, drop, Bool, true}
use Rattle.std.proofs.Common.{false, Ok, Err, refl, sym, ◌∙◌, ap, subst, arith, append_assoc}
use Rattle.px_base.specs.Octets.{IsFront}
use Rattle.real_outside.specs.Tcp.Connections.{WritesOnce}
use Rattle.real_outside.specs.Tcp.SendingLaws.{all_taken}
use Rattle.real_outside.specs.declared.tcp.connection.ConnectionCall.TheVariants as call
use Rattle.real_outside.proofs.Names.{cases_lt, false≢true, drop-drop, drop_all, take-append-drop, AirDown, Sends, ConnectionCall}

-- what is sent was taken, in order
pub whole_send : (octets : List ℕ) (calls : List ConnectionCall) → Sends octets true calls → all_taken calls ≡ octets
whole_send octets [] run = absurd run
whole_send octets (call.Connect answer ∷ later) run = absurd run
whole_send octets (call.NoDelay answer ∷ later) run = absurd run
whole_send octets (call.ReadLimit milliseconds answer ∷ later) run = absurd run
whole_send octets (call.Read count answer ∷ later) run = absurd run
whole_send octets (call.Write bytes (Err failed) ∷ later) run = absurd (false≢true (sym run.3))
whole_send octets (call.Write bytes (Ok count) ∷ later) run =
    ⊎_elim (λ stop. absurd (false≢true (sym stop.2)))
    (λ goes.
    ap (λ (b : List ℕ). take count b ++ all_taken later) run.1
    ∙ ap (λ (l : List ℕ). take count octets ++ l) (whole_send (drop count octets) later goes.1)
    ∙ take-append-drop count octets)
    run.2
whole_send octets (call.Flush answer ∷ later) run = ap all_taken run.1 ∙ sym run.0

-- no octet was taken by no call
none_taken : (octets : List ℕ) (later : List ConnectionCall) → later ≡ [] → IsFront (all_taken later) octets
none_taken octets later none = (octets, sym (ap (λ (l : List ConnectionCall). all_taken l ++ octets) none))

-- of what isn't sent a prefix was taken
pub cut_send : (octets : List ℕ) (done : Bool) (calls : List ConnectionCall) → Sends octets done calls → IsFront (all_taken calls) octets
cut_send octets done [] run = absurd run
cut_send octets done (call.Connect answer ∷ later) run = absurd run
cut_send octets done (call.NoDelay answer ∷ later) run = absurd run
cut_send octets done (call.ReadLimit milliseconds answer ∷ later) run = absurd run
cut_send octets done (call.Read count answer ∷ later) run = absurd run
cut_send octets done (call.Write bytes (Err failed) ∷ later) run = none_taken octets later run.2
cut_send octets done (call.Write bytes (Ok count) ∷ later) run =
    ⊎_elim
    (λ stop. (
      octets,
      sym
          (ap (λ (n : ℕ). (take n bytes ++ all_taken later) ++ octets) stop.0
          ∙ ap (λ (l : List ConnectionCall). all_taken l ++ octets) stop.1),
    ))
    (λ goes.
    let rest = cut_send (drop count octets) done later goes.1 in (
      rest.0,
      sym (take-append-drop count octets)
          ∙ ap (λ (l : List ℕ). take count octets ++ l) rest.1
          ∙ sym (append_assoc (take count octets) (all_taken later) rest.0)
          ∙ sym (ap (λ (b : List ℕ). (take count b ++ all_taken later) ++ rest.0) run.1),
    ))
    run.2
cut_send octets done (call.Flush answer ∷ later) run = none_taken octets later run.1

-- whatever sends the octets from this place on sends all of them after these calls
abbrev pub Leads : List ℕ → ℕ → List ConnectionCall → Type 0
Leads octets written calls =
    (done : Bool) (later : List ConnectionCall) → Sends (drop written octets) done later → Sends octets done (calls ++ later)

pub leads_none : (octets : List ℕ) → Leads octets 0 []
leads_none octets = λ done later run. run

-- a write that took some of those left
write_more : (left : List ℕ) (count : ℕ) (done : Bool) (calls later : List ConnectionCall) → 0 < length left → WritesOnce left (Ok count) calls → Sends (drop count left) done later → Sends left done (calls ++ later)
write_more left count done calls later some (Ok taken, is, answers) run =
    ⊎_elim
    (λ took.
    let same : count ≡ taken = cc (answers.1 took) in
    subst (λ (l : List ConnectionCall). Sends left done (l ++ later)) (sym is)
    (some, refl, inr (took, subst (λ (n : ℕ). Sends (drop n left) done later) same run)))
    (λ none. absurd (false≢true (answers.0 (omega (arith, none)))))
    (cases_lt 0 taken)
write_more left count done calls later some (Err failed, is, answers) run = absurd (false≢true answers)

-- one that failed, or took none
pub write_none : (left : List ℕ) (down : AirDown) (calls : List ConnectionCall) → 0 < length left → WritesOnce left (Err down) calls → Sends left false calls
write_none left down calls some (Ok taken, is, answers) =
    ⊎_elim
    (λ took. absurd (cc (answers.1 took)))
    (λ none. subst (λ (l : List ConnectionCall). Sends left false l) (sym is) (some, refl, inl (omega (arith, none), refl, refl)))
    (cases_lt 0 taken)
write_none left down calls some (Err failed, is, answers) =
    subst (λ (l : List ConnectionCall). Sends left false l) (sym is) (some, refl, refl, refl)

-- a write that took some of those left leads further
pub leads_more : (octets : List ℕ) (written count : ℕ) (first later : List ConnectionCall) → 0 < length (drop written octets) → Leads octets written first → WritesOnce (drop written octets) (Ok count) later → Leads octets (written + count) (first ++ later)
leads_more octets written count first later some leads writes = λ done rest run.
    subst (λ (l : List ConnectionCall). Sends octets done l) (sym (append_assoc first later rest))
    (leads done (later ++ rest)
    (write_more (drop written octets) count done later rest some writes
    (subst (λ (l : List ℕ). Sends l done rest) (sym (drop-drop count written octets)) run)))

-- nothing is left
pub leads_end : (octets : List ℕ) (written : ℕ) (done : Bool) (first later : List ConnectionCall) → written ≡ length octets → Leads octets written first → Sends [] done later → Sends octets done (first ++ later)
leads_end octets written done first later whole leads run =
    leads done later (subst (λ (l : List ℕ). Sends l done later) (sym (drop_all written octets (omega (arith, whole)))) run)
