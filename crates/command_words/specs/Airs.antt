-- What the word AIR names.
use Rattle.std.specs.Prelude.{◌≡◌, ℕ, List, codes}
use Rattle.command_words.specs.declared.air.AirWord.{AirWord}
use Rattle.command_words.specs.declared.air.AirWord.TheVariants.{HostPort, Nothing, Standard}
use Rattle.command_words.specs.Words.{IsHostPort}

-- the word names this
abbrev pub IsAirOf : List ℕ → AirWord → Type 0
IsAirOf word Nothing = word ≡ codes "none"
IsAirOf word Standard = word ≡ codes "-"
IsAirOf word HostPort = IsHostPort word
