-- The places that were read are BODY and NAME, and the values found are those of the options.
use Rattle.std.proofs.Common.{◌∷◌, [], codes, lit<, refl, sym}
use Rattle.command_words.proofs.Names.{err_from_is_err_and, app_of, make_options}
use Rattle.command_words.proofs.LineLemmas.{handed_on, make_line, value_got}
use Rattle.command_words.proofs.Readings.{all_found, none_missing}
use Rattle.command_words.proofs.line.read_make.Goals as goal

pub returns-in_err-matches-clause-refused : goal.returns-in_err-matches-clause-refused
returns-in_err-matches-clause-refused c =
    let p = err_from_is_err_and c.from_residual-in_err-matches.result c.from_residual-in_err-matches.ensures.1 in
    rw (p.1, p.2) (λ usage line. c.in_err-matches.ensures.refused (handed_on usage) (codes "body" ∷ codes "kept" ∷ []) make_options
    (make_line (app_of c.in_ok-make_command.field-0) c.in_ok-make_command.ensures) line)

pub returns-in_default-clause-refused : goal.returns-in_default-clause-refused
returns-in_default-clause-refused c = λ usage line.
    let found = c.in_ok-matches.ensures.found (codes "body" ∷ codes "kept" ∷ []) make_options
    (make_line (app_of c.in_ok-make_command.field-0) c.in_ok-make_command.ensures) in
    absurd (none_missing _ _ found.places_found (0, lit< tt, sym c.in_default.ensures))

pub returns-in_default-get_str-clause-refused : goal.returns-in_default-get_str-clause-refused
returns-in_default-get_str-clause-refused c = λ usage line.
    let found = c.in_ok-matches.ensures.found (codes "body" ∷ codes "kept" ∷ []) make_options
    (make_line (app_of c.in_ok-make_command.field-0) c.in_ok-make_command.ensures) in
    absurd (none_missing _ _ found.places_found (1, lit< tt, sym c.in_default-get_str.ensures))

pub returns-clause-texts : goal.returns-clause-texts
returns-clause-texts c =
    let found = c.in_ok-matches.ensures.found (codes "body" ∷ codes "kept" ∷ []) make_options
    (make_line (app_of c.in_ok-make_command.field-0) c.in_ok-make_command.ensures) in
    let name = value_got _ _ c.get_str-3.result (found.values_found (codes "name") (0, lit< tt, refl)) c.get_str-3.ensures in
    let ext = value_got _ _ c.get_str-4.result (found.values_found (codes "ext") (1, lit< tt, refl)) c.get_str-4.ensures in
    let file_type = value_got _ _ c.get_str-5.result (found.values_found (codes "type") (2, lit< tt, refl)) c.get_str-5.ensures in
    let time = value_got _ _ c.get_str-6.result (found.values_found (codes "time") (3, lit< tt, refl)) c.get_str-6.ensures in
    let source = value_got _ _ c.get_str-7.result (found.values_found (codes "source") (4, lit< tt, refl)) c.get_str-7.ensures in
    let destination = value_got _ _ c.get_str-8.result (found.values_found (codes "destination") (5, lit< tt, refl)) c.get_str-8.ensures in
    let title = value_got _ _ c.get_str-9.result (found.values_found (codes "title") (6, lit< tt, refl)) c.get_str-9.ensures in
    record {
      line = found.line;
      places = all_found _ _ (c.in-Some.body.now ∷ c.in-Some-get_str.kept.now ∷ []) found.places_found
          (c.in-Some.ensures, (c.in-Some-get_str.ensures, tt));
      options = λ i. record {
        name = name i;
        ext = ext i;
        file_type = file_type i;
        time = time i;
        source = source i;
        destination = destination i;
        title = title i;
      };
    }
