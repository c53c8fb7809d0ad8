-- The place that was read is the NAME.
use Rattle.std.proofs.Common.{[], ◌∷◌, codes, lit<, sym}
use Rattle.command_words.proofs.Names.{err_from_is_err_and, app_of}
use Rattle.command_words.proofs.LineLemmas.{handed_on, name_line}
use Rattle.command_words.proofs.Readings.{all_found, none_missing}
use Rattle.command_words.proofs.line.read_name.Goals as goal

pub returns-in_err-matches-clause-refused : goal.returns-in_err-matches-clause-refused
returns-in_err-matches-clause-refused c =
    let p = err_from_is_err_and c.from_residual-in_err-matches.result c.from_residual-in_err-matches.ensures.1 in
    rw (p.1, p.2) (λ usage line. c.in_err-matches.ensures.refused (handed_on usage) (codes "name" ∷ []) []
    (name_line c.args.command.now (app_of c.in_ok-line_command.field-0) c.in_ok-line_command.ensures) line)

pub returns-in-Some-clause-name : goal.returns-in-Some-clause-name
returns-in-Some-clause-name c =
    let found = c.in_ok-matches.ensures.found (codes "name" ∷ []) []
    (name_line c.args.command.now (app_of c.in_ok-line_command.field-0) c.in_ok-line_command.ensures) in
    record { line = found.line; place = all_found _ _ (c.in-Some.name.now ∷ []) found.places_found (c.in-Some.ensures, tt) }

pub returns-clause-refused : goal.returns-clause-refused
returns-clause-refused c = λ usage line.
    let found = c.in_ok-matches.ensures.found (codes "name" ∷ []) []
    (name_line c.args.command.now (app_of c.in_ok-line_command.field-0) c.in_ok-line_command.ensures) in
    absurd (none_missing _ _ found.places_found (0, lit< tt, sym c.in-None.ensures))
