-- The refusals of crates below as those of the store.
use Rattle.file_store_model.specs.declared.begin_bar.BeginBar.{BeginBar}
use Rattle.file_store_model.specs.declared.begin_bar.BeginBar.TheVariants as bar
use Rattle.file_store.specs.declared.refusals.BeginRefusal.{BeginRefusal}
use Rattle.file_store.specs.declared.refusals.BeginRefusal.TheVariants as refusal

-- why a file can't be begun
abbrev pub refusal_of_bar : BeginBar → BeginRefusal
refusal_of_bar bar.TooLong = refusal.TooLong
refusal_of_bar bar.TooMany = refusal.TooMany
refusal_of_bar bar.NumbersGone = refusal.NumbersGone
refusal_of_bar (bar.NoRoom blocks free) = refusal.NoRoom blocks free
