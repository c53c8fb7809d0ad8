-- What one more file does to all.
use Rattle.std.proofs.Common.{◌≡◌, ℕ, max, ◌+◌, ◌≤◌, ◌<◌, List, [], ◌∷◌, ◌++◌, length, refl, ap, sym, ◌∙◌, subst, arith, None, Some, length-append}
use Rattle.file_store_blocks.proofs.Names.{option_and_then, le-max_right, length-map, IsPlaced, begin_placed, blocks_seen, Placed, PlacedStore, new_placed, placed_from, run_of, runs_of, with_next, with_new, AreKept, Becomes, PlacedFile, PlacedFiles, entries_of, file_of, files_from, in_runs, store_of, with_run, next_placed, with_later, seen, seen_entry, Run, new_run, rooms_of, MayBegin, most_entries, blocks_for, Blocks, CallSign, IsCall}
use Rattle.file_store_blocks.proofs.ChangeLemmas.{rest_of_file}
use Rattle.file_store_blocks.proofs.PlacesLemmas.{entries_push, file_next, push_here, push_other}
use Rattle.file_store_blocks.proofs.RunsLemmas.{in_runs_push, runs_push}

module _ (runs : List Run) (items : List PlacedFile) (next blocks : ℕ) (kept : AreKept runs items next blocks) (now : PlacedFiles) (view : files_from (in_runs runs items) next blocks ≡ now)
    (number : ℕ) (under : IsPlaced (with_next number (store_of now)))
    (caller : CallSign) (file_length moment : ℕ) (call : IsCall caller) (may : (held : Blocks) × MayBegin (seen held (with_next number (store_of now))) file_length) where
  abbrev zs : List PlacedFile
  zs = in_runs runs items

  abbrev inside : PlacedFiles
  inside = files_from zs next blocks

  -- the store as a Begin of this number finds it
  abbrev low : PlacedStore
  low = with_next number (store_of inside)

  low_rules : IsPlaced low
  low_rules = subst (λ (n : PlacedFiles). IsPlaced (with_next number (store_of n))) (sym view) under

  may_inside : MayBegin (seen may.0 low) file_length
  may_inside = subst (λ (n : PlacedFiles). MayBegin (seen may.0 (with_next number (store_of n))) file_length) (sym view) may.1

  room_left : rooms_of (runs_of (entries_of zs)) + blocks_for file_length ≤ blocks
  room_left = omega (arith, may_inside.room, blocks_seen may.0 low, kept.rules.rooms)

  few : length (entries_of zs) < most_entries
  few = subst (λ (n : ℕ). n < most_entries) (length-map (entries_of zs) (seen_entry may.0)) may_inside.few

  pub few_runs : length runs < most_entries
  few_runs = omega (arith, few, ap (λ (rs : List Run). length rs) kept.runs_are, length-map (entries_of zs) run_of)

  begun : IsPlaced (with_later (store_of inside) (new_placed number caller file_length moment))
  begun =
      next_placed (number + 1) (max next (number + 1)) (with_new low (new_placed number caller file_length moment)) (le-max_right next (number + 1))
      (begin_placed low caller file_length moment low_rules call
      (record { number_is = refl; short = may_inside.short; few = few; left = may_inside.left; room = room_left }))

  -- the new file
  abbrev new : PlacedFile
  new = record { entry = new_placed number caller file_length moment; rest = None }

  module _ (runs_after : List Run) (room limit : ℕ) (y : PlacedFile) (runs_are : runs_after ≡ runs ++ new_run room ∷ []) (room_is : room ≡ blocks_for file_length) (limit_is : limit ≡ blocks) (new_is : y ≡ new) where
    abbrev others : List PlacedFile
    others = in_runs runs_after (items ++ y ∷ [])

    others_are : others ≡ zs ++ new ∷ []
    others_are =
        ap (λ (rs : List Run). in_runs rs (items ++ y ∷ [])) runs_are
        ∙ in_runs_push runs items (new_run room) y kept.count
        ∙ ap (λ (f : PlacedFile). zs ++ with_run (new_run room) f ∷ []) new_is

    entries_are : entries_of others ≡ entries_of zs ++ new.entry ∷ []
    entries_are = ap entries_of others_are ∙ entries_push zs new

    abbrev later : ℕ
    later = max next (number + 1)

    store_is : store_of (files_from others later limit) ≡ with_later (store_of inside) (new_placed number caller file_length moment)
    store_is =
        ap (λ (es : List Placed). placed_from es later limit) entries_are
        ∙ ap (λ (n : ℕ). placed_from (entries_of zs ++ new.entry ∷ []) later n) limit_is

    pub begin_kept : AreKept runs_after (items ++ y ∷ []) later limit
    begin_kept = record {
      rules = subst IsPlaced (sym store_is) begun;
      runs_are =
          ap (λ (fs : List PlacedFile). runs_of (entries_of fs)) others_are
          ∙ runs_push zs new
          ∙ ap (λ (rs : List Run). rs ++ run_of new.entry ∷ []) kept.runs_are
          ∙ ap (λ (n : ℕ). runs ++ new_run n ∷ []) (sym room_is)
          ∙ sym runs_are;
      count = omega (arith, ap (λ (rs : List Run). length rs) runs_are, length-append runs (new_run room ∷ []), length-append items (y ∷ []), kept.count);
      some = subst (λ (n : ℕ). 1 ≤ n) (sym limit_is) kept.some;
      most = subst (λ (n : ℕ). n ≤ 65536) (sym limit_is) kept.most;
    }

    no_file : file_of zs number ≡ None
    no_file = file_next number 1 number zs low_rules.numbers (omega arith)

    becomes_inside : Becomes inside (files_from others later limit) (with_later (store_of inside) (new_placed number caller file_length moment)) number None
    becomes_inside = record {
      store_is = store_is;
      here = rest_of_file (files_from others later limit) number new
          (subst (λ (fs : List PlacedFile). file_of fs number ≡ Some new) (sym others_are) (push_here zs number new no_file refl));
      others = λ other ne.
          ap (option_and_then (λ (f : PlacedFile). f.rest))
          (ap (λ (fs : List PlacedFile). file_of fs other) others_are ∙ push_other zs number other new refl ne);
    }

    pub begin_becomes : Becomes now (files_from others later limit) (with_later (store_of now) (new_placed number caller file_length moment)) number None
    begin_becomes =
        subst (λ (n : PlacedFiles). Becomes n (files_from others later limit) (with_later (store_of n) (new_placed number caller file_length moment)) number None) view becomes_inside
