-- The code's command as a command of the notes.
use Rattle.std.specs.Prelude.{◌≡◌, IfSome, Option}
use Rattle.std.specs.Option.{option_map}
use Rattle.client_notes.specs.declared.command.Command.{Command}
use Rattle.client_notes.specs.declared.command.Command.TheVariants as code
use Rattle.client_notes.specs.Command as spec
use Rattle.client_notes.specs.Records.{IsWritable}

-- what it is
abbrev pub command_value : Command → spec.NotesCommand
command_value (code.Start task server caller name length digest) =
    spec.start task server caller name.now length digest.now
command_value (code.Numbered task number) = spec.numbered task number
command_value (code.Acked task) = spec.acked task
command_value (code.Refused task code) = spec.refused task code
command_value (code.Got server number octets) = spec.got server number octets.now
command_value (code.Forgot server number) = spec.forgot server number

-- What was read of a record is this command, if the record is one, and can be written.
pub record IsReadAs (read : Option Command) (is : Option spec.NotesCommand) : Type 0 where
  pub command : option_map command_value read ≡ is
  pub writable : IfSome read (λ found. IsWritable (command_value found))
