-- The places that were read are NAME and OUT.
use Rattle.std.proofs.Common.{◌∷◌, [], codes, lit<, sym}
use Rattle.command_words.proofs.Names.{err_from_is_err_and, app_of}
use Rattle.command_words.proofs.LineLemmas.{body_line, handed_on}
use Rattle.command_words.proofs.Readings.{all_found, none_missing}
use Rattle.command_words.proofs.line.read_body.Goals as goal

pub returns-in_err-matches-clause-refused : goal.returns-in_err-matches-clause-refused
returns-in_err-matches-clause-refused c =
    let p = err_from_is_err_and c.from_residual-in_err-matches.result c.from_residual-in_err-matches.ensures.1 in
    rw (p.1, p.2) (λ usage line. c.in_err-matches.ensures.refused (handed_on usage) (codes "name" ∷ codes "out" ∷ []) []
    (body_line (app_of c.in_ok-body_command.field-0) c.in_ok-body_command.ensures) line)

pub returns-in_default-clause-refused : goal.returns-in_default-clause-refused
returns-in_default-clause-refused c = λ usage line.
    let found = c.in_ok-matches.ensures.found (codes "name" ∷ codes "out" ∷ []) []
    (body_line (app_of c.in_ok-body_command.field-0) c.in_ok-body_command.ensures) in
    absurd (none_missing _ _ found.places_found (0, lit< tt, sym c.in_default.ensures))

pub returns-in_default-get_str-clause-refused : goal.returns-in_default-get_str-clause-refused
returns-in_default-get_str-clause-refused c = λ usage line.
    let found = c.in_ok-matches.ensures.found (codes "name" ∷ codes "out" ∷ []) []
    (body_line (app_of c.in_ok-body_command.field-0) c.in_ok-body_command.ensures) in
    absurd (none_missing _ _ found.places_found (1, lit< tt, sym c.in_default-get_str.ensures))

pub returns-clause-texts : goal.returns-clause-texts
returns-clause-texts c =
    let found = c.in_ok-matches.ensures.found (codes "name" ∷ codes "out" ∷ []) []
    (body_line (app_of c.in_ok-body_command.field-0) c.in_ok-body_command.ensures) in
    record {
      line = found.line;
      places = all_found _ _ (c.in-Some.name.now ∷ c.in-Some-get_str.kept.now ∷ []) found.places_found
          (c.in-Some.ensures, (c.in-Some-get_str.ensures, tt));
    }
