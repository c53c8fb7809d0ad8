-- What notes may hold.
use Rattle.std.specs.Prelude.{ℕ}

-- the most tasks
abbrev pub most_tasks : ℕ
most_tasks = 65536

-- the longest got file, in octets
abbrev pub longest_file : ℕ
longest_file = 4194304

-- the longest name of a task, in octets
abbrev pub longest_name : ℕ
longest_name = 64

-- the most octets that one Got brings
abbrev pub most_got : ℕ
most_got = 512
