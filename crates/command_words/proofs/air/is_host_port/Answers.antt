-- The word is cut at its first colon.
use Rattle.std.proofs.Common.{◌≡◌, ◌==◌, ◌∙◌, ℕ, List, length, true, false, true≢false, sym, subst}
use Rattle.command_words.proofs.Names.{NumberText}
use Rattle.command_words.proofs.HostPorts.{cut_at_colon, has_colon, host_port, number_none, number_some}
use Rattle.command_words.proofs.air.is_host_port.Goals as goal

pub returns-in_default-clause-none : goal.returns-in_default-clause-none
returns-in_default-clause-none c = λ e is. has_colon c.args.word.now c.in_default.ensures.cases is

pub returns-clause-some : goal.returns-clause-some
returns-clause-some c = λ e.
    let (number, in_range) = number_some c.read_number.result (NumberText 1 65535 c.in-Some.port.now) c.read_number.ensures.some (sym c.is_some.ensures ∙ e) in
    let full : (length c.in-Some.host.now == 0) ≡ false = sym c.is_empty.ensures ∙ c.if-is_empty.false in
    host_port c.args.word.now c.in-Some.host c.in-Some.port number c.in-Some.ensures.cases (λ empty. let bad : true ≡ false = rw empty at full in true≢false bad) in_range

pub returns-clause-none : goal.returns-clause-none
returns-clause-none c = λ e is.
    let parts = cut_at_colon c.args.word.now c.in-Some.host c.in-Some.port is c.in-Some.ensures.cases in
    let none = number_none c.read_number.result ((number : ℕ) → NumberText 1 65535 c.in-Some.port.now number → ⊥) c.read_number.ensures.none (sym c.is_some.ensures ∙ e) in
    none is.number (subst (λ (text : List ℕ). NumberText 1 65535 text is.number) (sym parts.1) is.in_range)
