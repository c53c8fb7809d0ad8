-- The values found are those of the options.
use Rattle.std.proofs.Common.{[], codes, lit<, refl}
use Rattle.command_words.proofs.Names.{err_from_is_err_and, app_of, rehearse_options}
use Rattle.command_words.proofs.LineLemmas.{drawn_line, handed_on, value_got}
use Rattle.command_words.proofs.line.read_drawn.Goals as goal

pub returns-in_err-matches-clause-refused : goal.returns-in_err-matches-clause-refused
returns-in_err-matches-clause-refused c =
    let p = err_from_is_err_and c.from_residual-in_err-matches.result c.from_residual-in_err-matches.ensures.1 in
    rw (p.1, p.2) (λ usage line. c.in_err-matches.ensures.refused (handed_on usage) [] rehearse_options
    (drawn_line (app_of c.in_ok-drawn_command.field-0) c.in_ok-drawn_command.ensures) line)

pub returns-clause-texts : goal.returns-clause-texts
returns-clause-texts c =
    let found = c.in_ok-matches.ensures.found [] rehearse_options
    (drawn_line (app_of c.in_ok-drawn_command.field-0) c.in_ok-drawn_command.ensures) in
    record {
      line = found.line;
      seed_given = value_got _ _ c.get_str.result (found.values_found (codes "seed") (0, lit< tt, refl)) c.get_str.ensures;
      count_given = value_got _ _ c.get_str-2.result (found.values_found (codes "count") (1, lit< tt, refl)) c.get_str-2.ensures;
    }
