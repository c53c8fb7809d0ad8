-- The places that were read are SERVER, ME and the last one, and the values found are those of the options.
use Rattle.std.proofs.Common.{◌∷◌, [], codes, lit<, refl, sym}
use Rattle.command_words.proofs.Names.{err_from_is_err_and, app_of, client_options, client_places}
use Rattle.command_words.proofs.LineLemmas.{client_line, handed_on, value_got}
use Rattle.command_words.proofs.Readings.{all_found, none_missing}
use Rattle.command_words.proofs.client_line.read_client_texts.Goals as goal

pub returns-in_err-matches-clause-refused : goal.returns-in_err-matches-clause-refused
returns-in_err-matches-clause-refused c =
    let p = err_from_is_err_and c.from_residual-in_err-matches.result c.from_residual-in_err-matches.ensures.1 in
    rw (p.1, p.2) (λ usage line. c.in_err-matches.ensures.refused (handed_on usage) client_places client_options
    (client_line c.args.command.now (app_of c.in_ok-client_command.field-0) c.in_ok-client_command.ensures) line)

pub returns-in_default-clause-refused : goal.returns-in_default-clause-refused
returns-in_default-clause-refused c = λ usage line.
    let found = c.in_ok-matches.ensures.found client_places client_options
    (client_line c.args.command.now (app_of c.in_ok-client_command.field-0) c.in_ok-client_command.ensures) in
    absurd (none_missing _ _ found.places_found (0, lit< tt, sym c.in_default.ensures))

pub returns-in_default-get_str-clause-refused : goal.returns-in_default-get_str-clause-refused
returns-in_default-get_str-clause-refused c = λ usage line.
    let found = c.in_ok-matches.ensures.found client_places client_options
    (client_line c.args.command.now (app_of c.in_ok-client_command.field-0) c.in_ok-client_command.ensures) in
    absurd (none_missing _ _ found.places_found (1, lit< tt, sym c.in_default-get_str.ensures))

pub returns-in_default-get_str-2-clause-refused : goal.returns-in_default-get_str-2-clause-refused
returns-in_default-get_str-2-clause-refused c = λ usage line.
    let found = c.in_ok-matches.ensures.found client_places client_options
    (client_line c.args.command.now (app_of c.in_ok-client_command.field-0) c.in_ok-client_command.ensures) in
    absurd (none_missing _ _ found.places_found (2, lit< tt, sym c.in_default-get_str-2.ensures))

pub returns-clause-texts : goal.returns-clause-texts
returns-clause-texts c =
    let found = c.in_ok-matches.ensures.found client_places client_options
    (client_line c.args.command.now (app_of c.in_ok-client_command.field-0) c.in_ok-client_command.ensures) in
    record {
      line = found.line;
      places_are = all_found _ _ (c.in-Some.server.now ∷ c.in-Some-get_str.me.now ∷ c.in-Some-get_str-2.subject.now ∷ []) found.places_found
          (c.in-Some.ensures, (c.in-Some-get_str.ensures, (c.in-Some-get_str-2.ensures, tt)));
      k_given = value_got _ _ c.get_str-4.result (found.values_found (codes "k") (0, lit< tt, refl)) c.get_str-4.ensures;
      polls_given = value_got _ _ c.get_str-5.result (found.values_found (codes "polls") (1, lit< tt, refl)) c.get_str-5.ensures;
    }
