-- Why a file can't be begun.
use Rattle.std.specs.Prelude.{◌≡◌, ℕ, ◌≤◌, ◌<◌}
use Rattle.file_store_model.specs.Limits.{last_next, longest_file, most_entries}
use Rattle.file_store_model.specs.declared.begin_bar.BeginBar.{BeginBar}
use Rattle.file_store_model.specs.declared.begin_bar.BeginBar.TheVariants.{TooLong, TooMany, NumbersGone, NoRoom}
use Rattle.file_store_model.specs.Store.{Store, entry_count, blocks_for, free_blocks}

-- this is the cause, and none that is looked at before is
abbrev pub Bars : BeginBar → Store → ℕ → Type 0
Bars TooLong store file_length = longest_file < file_length
Bars TooMany store file_length = (file_length ≤ longest_file) × (most_entries ≤ entry_count store)
Bars NumbersGone store file_length =
    (file_length ≤ longest_file) × (entry_count store < most_entries) × (store.next ≡ last_next)
Bars (NoRoom blocks free) store file_length =
    (file_length ≤ longest_file) × (entry_count store < most_entries) × (store.next < last_next)
    × (free_blocks store < blocks_for file_length) × (blocks ≡ blocks_for file_length) × (free ≡ free_blocks store)
