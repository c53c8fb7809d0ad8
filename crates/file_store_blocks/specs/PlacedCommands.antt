-- The code's commands, and what its records say, as those of a store of placed files.
use Rattle.file_store_blocks.specs.PlacedCommand as spec
use Rattle.file_store_blocks.specs.ReadStore as read
use Rattle.file_store_blocks.specs.declared.command.PlacedCommand.{PlacedCommand}
use Rattle.file_store_blocks.specs.declared.command.PlacedCommand.TheVariants as code
use Rattle.file_store_blocks.specs.declared.recorded.Recorded.{Recorded}
use Rattle.file_store_blocks.specs.declared.recorded.Recorded.TheVariants as recorded

-- what it is
abbrev pub placed_value : PlacedCommand → spec.PlacedCommand
placed_value (code.Begin number caller length moment) = spec.begin number caller length moment
placed_value (code.Grow number block used) = spec.grow number block used
placed_value (code.Seal number moment sum) = spec.seal number moment sum
placed_value (code.Drop number) = spec.drop_entry number

-- what it says
abbrev pub recorded_value : Recorded → read.Recorded
recorded_value (recorded.Next number) = read.next_is number
recorded_value (recorded.Change command) = read.change (placed_value command)
