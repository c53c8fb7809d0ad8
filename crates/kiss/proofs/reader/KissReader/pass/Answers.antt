-- What is passed within a part is of that part, and so is each front of it.
use Rattle.std.proofs.Common.{rules, ◌≡◌, ◌≤◌, ◌∷◌, [], ◌++◌, ℕ, List, take, sym, ap, ◌∙◌, subst, OnOk, All, arith, append-nil}
use Rattle.kiss.specs.declared.reader.State.TheVariants as state
use Rattle.kiss.proofs.Names.{take-take, All-take, State, escape, fend, kiss_parts, IsPlain, heard_in}
use Rattle.kiss.proofs.Escapes.{escape-run}
use Rattle.kiss.proofs.Steps.{heard_in-no_part, no_frame}
use Rattle.kiss.proofs.reader.KissReader.pass.Goals as goal

-- a front of no octet
no_part-none : (heard octets : List ℕ) (s : State) (text : List ℕ) (n : ℕ) → heard_in s text ≡ heard → n ≤ 0 → kiss_parts (heard ++ take n octets) ≡ []
no_part-none heard octets s text n is none =
    let zero : n ≡ 0 = omega arith in
    subst (λ (m : ℕ). kiss_parts (heard ++ take m octets) ≡ []) (sym zero) (ap kiss_parts (append-nil heard ∙ sym is) ∙ heard_in-no_part s text)

pub returns-then-ne-clause-no_part : goal.returns-then-ne-clause-no_part
returns-then-ne-clause-no_part c n none =
    no_part-none c.args.self.now.heard c.args.octets.now c.self.inside.state c.self.inside.text.items n (ap (λ v. v.heard) c.self.view_is) none

pub returns-then-ne-clause-no_frame : goal.returns-then-ne-clause-no_frame
returns-then-ne-clause-no_frame c n none = no_frame _ (returns-then-ne-clause-no_part c n none)

-- each front of what is taken stands for itself
front : (c : goal.After-unwrap) (n : ℕ) → n ≤ c.min-count.result → All IsPlain (take n c.args.octets.now)
front c n fewer =
    subst (All IsPlain) (take-take n c.plain_front.result c.args.octets.now (omega (arith, c.min-count.ensures)))
    (All-take IsPlain n _ c.plain_front.ensures.plain)

heard : (c : goal.After-unwrap) (n : ℕ) → n ≤ c.min-count.result
    → c.args.self.now.heard ++ take n c.args.octets.now ≡ fend ∷ escape (c.self.inside.text.items ++ take n c.args.octets.now)
heard c n fewer =
    let is : c.self.inside.state ≡ state.Within = search rules in
    let known : fend ∷ escape c.self.inside.text.items ≡ c.args.self.now.heard =
    ap (λ (s : State). heard_in s c.self.inside.text.items) (sym is) ∙ ap (λ v. v.heard) c.self.view_is in
    ap (λ (h : List ℕ). h ++ take n c.args.octets.now) (sym known)
    ∙ ap (λ (xs : List ℕ). fend ∷ xs) (sym (escape-run c.self.inside.text.items (take n c.args.octets.now) (front c n fewer)))

pub returns-clause-heard : goal.returns-clause-heard
returns-clause-heard c =
    let is : c.self.inside.state ≡ state.Within = search rules in
    let run = take c.min-count.result c.args.octets.now in
    let put = subst (λ r. OnOk r (c.try_extend_from_slice.new.self.items ≡ c.self.inside.text.items ++ run)) c.unwrap.ensures c.try_extend_from_slice.ensures.ok in
    ap (λ (s : State). heard_in s c.try_extend_from_slice.new.self.items) is
    ∙ ap (λ (text : List ℕ). fend ∷ escape text) put ∙ sym (heard c c.min-count.result (omega arith))

pub returns-clause-no_part : goal.returns-clause-no_part
returns-clause-no_part c n fewer =
    ap kiss_parts (heard c n fewer) ∙ heard_in-no_part state.Within (c.self.inside.text.items ++ take n c.args.octets.now)

pub returns-clause-no_frame : goal.returns-clause-no_frame
returns-clause-no_frame c n fewer = no_frame _ (returns-clause-no_part c n fewer)
