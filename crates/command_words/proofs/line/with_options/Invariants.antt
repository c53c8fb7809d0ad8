-- With the options to come the command has all of them.
use Rattle.std.proofs.Common.{◌≡◌, drop, map}
use Rattle.command_words.proofs.Names.{app_of, options_added}
use Rattle.command_words.proofs.line.with_options.Given as goal

abbrev pub invariant-loop-name : goal.invariant-loop-name
invariant-loop-name l =
    options_added (app_of l.command) (map (λ name. name.now) (drop l.name-index l.names)) ≡ options_added (app_of l.fn.command) (map (λ name. name.now) l.names)
