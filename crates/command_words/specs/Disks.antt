-- What the word DISK names.
use Rattle.std.specs.Prelude.{◌≡◌, ◌≢◌, ℕ, List, codes}
use Rattle.command_words.specs.declared.disk.DiskWord.{DiskWord}
use Rattle.command_words.specs.declared.disk.DiskWord.TheVariants.{Fresh, Named}

-- the word names this disk: `none` a fresh one in memory, and any other text the file of that path
abbrev pub IsDiskOf : List ℕ → DiskWord → Type 0
IsDiskOf word Fresh = word ≡ codes "none"
IsDiskOf word Named = word ≢ codes "none"
