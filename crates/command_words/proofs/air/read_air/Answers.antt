-- A word names one thing.
use Rattle.std.proofs.Common.{◌∙◌, codes, sym, true≢false}
use Rattle.command_words.proofs.Names.{HostPort, Nothing, Standard}
use Rattle.command_words.proofs.Uses.{text_eq, text_same}
use Rattle.command_words.proofs.Meanings.{names_none, one_air}
use Rattle.command_words.proofs.air.read_air.Goals as goal

pub returns-then-eq-clause-only : goal.returns-then-eq-clause-only
returns-then-eq-clause-only c = λ other is.
    one_air c.args.air.now Nothing other (text_same c.args.air.now (codes "none") (sym c.eq.ensures ∙ c.if-eq.true)) is

pub returns-then-eq-2-clause-only : goal.returns-then-eq-2-clause-only
returns-then-eq-2-clause-only c = λ other is.
    one_air c.args.air.now Standard other (text_same c.args.air.now (codes "-") (sym c.eq-2.ensures ∙ c.if-eq-2.true)) is

pub returns-then-is_host_port-clause-only : goal.returns-then-is_host_port-clause-only
returns-then-is_host_port-clause-only c = λ other is.
    one_air c.args.air.now HostPort other (c.is_host_port.ensures.some c.if-is_host_port.true) is

pub returns-clause-none : goal.returns-clause-none
returns-clause-none c = names_none c.args.air.now
    (λ same. true≢false (sym (text_eq c.args.air.now (codes "none") same) ∙ sym c.eq.ensures ∙ c.if-eq.false))
    (λ same. true≢false (sym (text_eq c.args.air.now (codes "-") same) ∙ sym c.eq-2.ensures ∙ c.if-eq-2.false))
    (c.is_host_port.ensures.none c.if-is_host_port.false)
