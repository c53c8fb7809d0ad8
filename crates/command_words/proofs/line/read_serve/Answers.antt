-- The place that was read is ME, and the values found are those of the options.
use Rattle.std.proofs.Common.{◌∷◌, [], codes, lit<, refl, sym}
use Rattle.command_words.proofs.Names.{err_from_is_err_and, app_of, serve_options}
use Rattle.command_words.proofs.LineLemmas.{handed_on, serve_line, value_got}
use Rattle.command_words.proofs.Readings.{all_found, none_missing}
use Rattle.command_words.proofs.line.read_serve.Goals as goal

pub returns-in_err-matches-clause-refused : goal.returns-in_err-matches-clause-refused
returns-in_err-matches-clause-refused c =
    let p = err_from_is_err_and c.from_residual-in_err-matches.result c.from_residual-in_err-matches.ensures.1 in
    rw (p.1, p.2) (λ usage line. c.in_err-matches.ensures.refused (handed_on usage) (codes "me" ∷ []) serve_options
    (serve_line (app_of c.in_ok-serve_command.field-0) c.in_ok-serve_command.ensures) line)

pub returns-in_default-clause-refused : goal.returns-in_default-clause-refused
returns-in_default-clause-refused c = λ usage line.
    let found = c.in_ok-matches.ensures.found (codes "me" ∷ []) serve_options
    (serve_line (app_of c.in_ok-serve_command.field-0) c.in_ok-serve_command.ensures) in
    absurd (none_missing _ _ found.places_found (0, lit< tt, sym c.in_default.ensures))

pub returns-clause-texts : goal.returns-clause-texts
returns-clause-texts c =
    let found = c.in_ok-matches.ensures.found (codes "me" ∷ []) serve_options
    (serve_line (app_of c.in_ok-serve_command.field-0) c.in_ok-serve_command.ensures) in
    record {
      line = found.line;
      place = all_found _ _ (c.in-Some.me.now ∷ []) found.places_found (c.in-Some.ensures, tt);
      k_given = value_got _ _ c.get_str-2.result (found.values_found (codes "k") (0, lit< tt, refl)) c.get_str-2.ensures;
      blocks_given = value_got _ _ c.get_str-3.result (found.values_found (codes "blocks") (1, lit< tt, refl)) c.get_str-3.ensures;
      polls_given = value_got _ _ c.get_str-4.result (found.values_found (codes "polls") (2, lit< tt, refl)) c.get_str-4.ensures;
    }
