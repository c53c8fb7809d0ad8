-- While no file was ever given up, the store's journal has room for the records of further commands.
use Rattle.std.proofs.Common.{◌≡◌, ◌+◌, ℕ, List, length, Some, arith}
use Rattle.file_store.proofs.Names.{length-map, Ghosts, seen_entry, room_for_commands, AreAllowed, Command, DropsNothing, HasRoomFor, Blocks, blocks_on, IsReady, StoreState, placed_in, store_form, store_on}

-- each number that was given is that of an entry, and none of these commands gives one up
pub room_for : {D : Type 0} (g : Ghosts D) (self : StoreState) (disk : D) → IsReady g self disk → (octets : List ℕ) → g.content disk ≡ Some octets
    → length (store_on g self disk).entries + 1 ≡ (store_on g self disk).next → (commands : List Command) → AreAllowed (store_on g self disk) commands → DropsNothing commands
    → HasRoomFor store_form self.journal commands
room_for g self disk ready octets told all commands allowed keeps =
    let held : Blocks = blocks_on (g.content disk) in
    let count = length-map (placed_in self).entries (seen_entry held) in
    room_for_commands g self.journal (placed_in self) disk octets ready.stands_on ready.healthy told (omega (arith, all, count)) held commands allowed keeps
