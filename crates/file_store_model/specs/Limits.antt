-- What a store may take.
use Rattle.std.specs.Prelude.{ℕ}

-- the longest file, in octets
abbrev pub longest_file : ℕ
longest_file = 4194304

-- the most entries
abbrev pub most_entries : ℕ
most_entries = 1024

-- the number after which none is given, which is itself never given
abbrev pub last_next : ℕ
last_next = 4294967295
