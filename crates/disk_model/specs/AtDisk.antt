-- What stands on a disk that it doesn't hold, with that disk.

-- something with its disk
pub record AtDisk (S D : Type 0) : Type 0 where
  pub it : S
  pub disk : D

-- by its parts
abbrev pub at : {S D : Type 0} → S → D → AtDisk S D
at it disk = record { it = it; disk = disk }
