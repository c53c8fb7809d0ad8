-- The file of a task that was acknowledged: an upload without fault, which the server's store keeps.
use Rattle.std.proofs.Common.{◌≡◌, ℕ, zero, suc, ◌+◌, true, List, [], ◌∷◌, length, Option, None, Some, refl, ap, sym}
use Rattle.std.proofs.Common.{◌++◌, arith, take, subst, ◌∙◌}
use Rattle.std.specs.List.{slice_get}
use Rattle.file_store.specs.Info.{info_of, is_complete}
use Rattle.file_store.specs.Like.{IsStoreLike}
use Rattle.client_notes.specs.declared.answers.Noted.TheVariants as noted
use Rattle.client_notes.specs.declared.progress.Progress.TheVariants as progress
use Rattle.air_world.specs.Attempts.Party.{Party}
use Rattle.air_rehearsal.proofs.Names.{common_steps, AllByRecursion, option_and_then, option_map, same_Some, CallSign, fault_code, Info, Entry, Holding, Store, entry_of, octets_at, octets_of, like_back, like_entry, like_is_complete, like_octets_length, noted_as, noted_at, noted_by, Lists, Task, task_of, Progress, Asked, IsFileOf, upload_of, IsKept, IsGoodFile, Sound, World, IsStampedFor, IsUpload, PlaysStations, Stations}
use Rattle.air_rehearsal.proofs.PartiesLemmas.{upload-at}

each-of : {X : Type 0} (P : X → Type 0) (xs : List X) → AllByRecursion P xs → (place : ℕ) (x : X)
    → slice_get xs place ≡ Some x → P x
each-of P [] all place x at = absurd cc
each-of P (y ∷ ys) all zero x at = subst P (same_Some y x at) all.0
each-of P (y ∷ ys) all (suc place) x at = each-of P ys all.1 place x at

-- the upload that a task's file is of
asked-of : (files : List Asked) (upload : Option ℕ) (file : List ℕ)
    → option_map (λ (it : Asked). it.file) (option_and_then (slice_get files) upload) ≡ Some file
    → (place : ℕ) × (asked : Asked) × (slice_get files place ≡ Some asked) × (asked.file ≡ file)
asked-of files None file is = absurd cc
asked-of files (Some place) file is = by (slice_get files place) refl is
  where
    by : (found : Option Asked) → slice_get files place ≡ found
        → option_map (λ (it : Asked). it.file) found ≡ Some file
        → (place : ℕ) × (asked : Asked) × (slice_get files place ≡ Some asked) × (asked.file ≡ file)
    by None at is = absurd cc
    by (Some asked) at is = (place, asked, at, same_Some asked.file file is)

-- The file of a task is an upload of the schedule, and has no fault.
pub task-upload : (self : Stations) (world : World) → PlaysStations self world → Sound world
    → (party : Party) (task : ℕ) (file : List ℕ) → IsFileOf world.files party task file → IsUpload file
task-upload self world plays sound party task file is =
    let found = asked-of world.files (upload_of party task) file is in
    let here =
    upload-at 0 self.uploads.items found.0 found.1
    (ap (λ (files : List Asked). slice_get files found.0) (sym plays.files_are) ∙ found.2)
    in
    let good : IsGoodFile found.1.file =
    each-of (λ (asked : Asked). IsGoodFile asked.file) world.files sound.files found.0 found.1 found.2
    in
    let faultless : IsGoodFile file = subst IsGoodFile found.3 good in
    record {
      upload = 0 + found.0;
      count = here.0.octets;
      file_is = sym found.3 ∙ ap (λ (asked : Asked). asked.file) here.2;
      faultless = faultless.faultless;
    }

-- What is noted of a task has its number.
acked-by : (task other number known : ℕ) (how : Progress) → noted_by task known how ≡ noted.Acked other number
    → other ≡ task
acked-by task other number known progress.Going is = absurd (let no : ⊥ = cc is in no)
acked-by task other number known progress.Acked is = cc is
acked-by task other number known (progress.Refused code) is = absurd (let no : ⊥ = cc is in no)

pub acked-number : (lists : Lists) (task other number : ℕ) → noted_at lists task ≡ Some (noted.Acked other number)
    → other ≡ task
acked-number lists task other number is = by (task_of lists task) is
  where
    by : (found : Option Task) → option_map (noted_as task) found ≡ Some (noted.Acked other number) → other ≡ task
    by None is = absurd (let no : ⊥ = cc is in no)
    by (Some entry) is = acked-by task other number entry.number entry.progress (same_Some _ _ is)

-- ---- what memory tells of a file that the store on the disk keeps

-- It is complete, and its caller's.
pub info-kept : (one other : Store) → IsStoreLike one other → (number : ℕ) (file : List ℕ) (caller : CallSign)
    → IsKept other number file caller
    → (info : Info) × (option_map info_of (entry_of one number) ≡ Some info) × (info.complete ≡ true)
    × (info.caller ≡ caller)
info-kept one other like number file caller kept =
    let found = like_entry other one (like_back one other like) number kept.entry kept.is_entry in (
      info_of found.0,
      ap (λ (e : Option Entry). option_map info_of e) found.1,
      sym (like_is_complete kept.entry found.0 found.2) ∙ ap (λ (h : Holding). is_complete h) kept.whole,
      sym found.2.caller ∙ kept.caller_is,
    )

-- It holds as many octets as it has on the disk.
pub info-length : (one other : Store) → IsStoreLike one other → (number : ℕ) (info : Info)
    → option_map info_of (entry_of one number) ≡ Some info → info.held ≡ length (octets_at (entry_of other number))
info-length one other like number info told = by (entry_of one number) refl told
  where
    by : (found : Option Entry) → entry_of one number ≡ found → option_map info_of found ≡ Some info
        → info.held ≡ length (octets_at (entry_of other number))
    by None is told = absurd cc
    by (Some entry) is told =
        let there = like_entry one other like number entry is in
        let same : info_of entry ≡ info = same_Some (info_of entry) info told in
        ap (λ (i : Info). i.held) (sym same) ∙ like_octets_length entry there.0 there.2
        ∙ ap (λ (e : Option Entry). length (octets_at e)) (sym there.1)

-- Its octets are the file, stamped.
pub stamped-kept : (store : Store) (number : ℕ) (file : List ℕ) (caller : CallSign) (octets : List ℕ)
    → IsKept store number file caller → octets ≡ octets_at (entry_of store number)
    → IsStampedFor file number caller octets
stamped-kept store number file caller octets kept is =
    let same : octets ≡ octets_of kept.entry.holding =
    is ∙ ap (λ (e : Option Entry). octets_at e) kept.is_entry
    in
    record {
      moment = kept.moment;
      octets_are = same ∙ ap (λ (h : Holding). octets_of h) kept.whole;
      faultless = subst (λ (o : List ℕ). fault_code o ≡ None) (sym same) kept.keeps.faultless;
    }

-- octets that were written at the front of a room of as many
pub written : (count : ℕ) (front later : List ℕ) → length front ≡ count → take count (front ++ later) ≡ front
written count front later all = grind (arith, common_steps)
