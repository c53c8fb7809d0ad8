-- Those before fit.
use Rattle.std.proofs.Common.{◌≡◌, ℕ, ◌<◌, Some}
use Rattle.ftl0_server.proofs.Names.{slice_get, PlaceFits, Place}
use Rattle.ftl0_server.proofs.places.all_fit_law.Given as goal

abbrev pub invariant-loop-place : goal.invariant-loop-place
invariant-loop-place l = (i : ℕ) (here : Place) → i < l.place-index → slice_get l.places i ≡ Some here → PlaceFits here
