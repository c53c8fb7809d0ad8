-- Clients stay ready where one of them takes part in an event.
use Rattle.std.proofs.Common.{◌≡◌, ◌≢◌, ◌⊎◌, ℕ, zero, suc, ◌<◌, ◌≤◌, List, [], ◌∷◌, ◌++◌, length, Some, Result, Ok, Err}
use Rattle.std.proofs.Common.{refl, sym, ap, subst, inl, inr, arith}
use Rattle.ftl0_client_job.specs.declared.work.Work.TheVariants as work
use Rattle.air_rehearsal.proofs.Names.{slice_get, slice_set, slice_index_or, OnOk, same_Some, slice_get_read, CallSign, longest_file, Lists, got_of, new_download, NotesGoWith, JobState, new_job, Ghosts, Party, Stations, AreReady, IsReadyParty, KeepsAllButLanes, KeepsClients}
use Rattle.air_rehearsal.proofs.PairLemmas.{pair-right, set_at}

-- the element at a place of a list with one more
pub at_more : {X : Type 0} (xs : List X) (j : ℕ) (x y : X) → slice_get (xs ++ x ∷ []) j ≡ Some y
    → ((j ≡ length xs) × (y ≡ x)) ⊎ ((j ≢ length xs) × (slice_get xs j ≡ Some y))
at_more [] zero x y at = inl (refl, sym (same_Some x y at))
at_more [] (suc j) x y at = absurd cc
at_more (z ∷ zs) zero x y at = inr (λ e. (let no : ⊥ = omega (arith, e) in no), at)
at_more (z ∷ zs) (suc j) x y at = elim (at_more zs j x y at) [
  | inl same ↦ inl (ap suc same.0, same.1)
  | inr other ↦ inr (λ e. other.0 (let same : j ≡ length zs = omega (arith, e) in same), other.1)
]

-- the element that was read at a place
pub read_at : {X : Type 0} (xs : List X) (i : ℕ) (x : X) → i < length xs → x ≡ slice_index_or xs i x
    → slice_get xs i ≡ Some x
read_at xs i x within is = slice_get_read xs (length xs) i x refl within is

-- a client that is ready is so where other frames were sent
other_lanes :
    {D : Type 0} (g : Ghosts D) (old new : Party) (disk : D) → KeepsAllButLanes old new → IsReadyParty g old disk
    → IsReadyParty g new disk
other_lanes g old new disk keeps ready =
    subst (λ (p : Party). IsReadyParty g p disk) (sym keeps.same)
    (record {
      theirs = record {
        window = ready.theirs.window;
        me = ready.theirs.me;
        server = ready.theirs.server;
        k = ready.theirs.k;
        may = ready.theirs.may;
      };
      quiet = ready.quiet;
    })

-- the clients are ready where none of them was touched, but for what was sent
pub kept_ready :
    {D : Type 0} (g : Ghosts D) (old new : Stations) (disks : List D) → KeepsClients old new
    → AreReady g old.parties.items disks → AreReady g new.parties.items disks
kept_ready g old new disks keeps ready c party disk at at_disk =
    let was = pair-right KeepsAllButLanes old.parties.items new.parties.items keeps.parties c party at in
    other_lanes g was.0 party disk was.2 (ready c was.0 disk was.1 at_disk)

pub same_ready :
    {D : Type 0} (g : Ghosts D) (old new : Stations) (disks : List D) → new ≡ old
    → AreReady g old.parties.items disks → AreReady g new.parties.items disks
same_ready g old new disks same ready = subst (λ (s : Stations). AreReady g s.parties.items disks) (sym same) ready

-- where nothing stopped
pub kept_unless :
    {D T E : Type 0} (g : Ghosts D) (result : Result T E) (old new : Stations) (disks : List D) → KeepsClients old new
    → AreReady g old.parties.items disks → OnOk result (AreReady g new.parties.items disks)
kept_unless g (Ok done) old new disks keeps ready = kept_ready g old new disks keeps ready
kept_unless g (Err stop) old new disks keeps ready = tt

-- the notes go with a download that was just made
pub download_goes :
    (lists : Lists) (server : CallSign) (number held : ℕ) → held ≡ length (got_of lists server number)
    → held ≤ longest_file → (job : JobState) → job ≡ new_job (work.Download (new_download server number))
    → NotesGoWith lists job
download_goes lists server number held is most job job_is =
    subst (NotesGoWith lists) (sym job_is) (record { fits = omega (arith, is, most); checked = tt })

module _ {D : Type 0} (g : Ghosts D) (parties : List Party) (disks : List D) (ready : AreReady g parties disks) where
  -- a client, with its disk, is another one that is ready
  pub ready_after :
      (c : ℕ) (party : Party) (disk : D) → IsReadyParty g party disk
      → AreReady g (slice_set parties c party) (slice_set disks c disk)
  ready_after c party disk now i it its at at_disk = elim (set_at parties c i party it at) [
    | inl same ↦ elim (set_at disks c i disk its at_disk) [
      | inl same_disk ↦
          subst (λ (p : Party). IsReadyParty g p its) (sym same.1)
          (subst (λ (d : D). IsReadyParty g party d) (sym same_disk.1) now)
      | inr other ↦ absurd (other.0 same.0)
    ]
    | inr other ↦ elim (set_at disks c i disk its at_disk) [
      | inl same_disk ↦ absurd (other.0 same_disk.0)
      | inr other_disk ↦ ready i it its other.1 other_disk.1
    ]
  ]

  -- where it isn't stopped
  pub ready_unless :
      {T E : Type 0} (result : Result T E) (c : ℕ) (party : Party) (disk : D)
      → OnOk result (IsReadyParty g party disk)
      → OnOk result (AreReady g (slice_set parties c party) (slice_set disks c disk))
  ready_unless (Ok done) c party disk now = ready_after c party disk now
  ready_unless (Err stop) c party disk now = tt

  -- a client is another one, which is ready over the same disk
  pub ready_still :
      (c : ℕ) (old new : Party) → slice_get parties c ≡ Some old
      → ((disk : D) → IsReadyParty g old disk → IsReadyParty g new disk)
      → AreReady g (slice_set parties c new) disks
  ready_still c old new is stays i it its at at_disk = elim (set_at parties c i new it at) [
    | inl same ↦
        subst (λ (p : Party). IsReadyParty g p its) (sym same.1)
        (stays its
        (ready c old its is (subst (λ (j : ℕ). slice_get disks j ≡ Some its) same.0 at_disk)))
    | inr other ↦ ready i it its other.1 at_disk
  ]

  -- there is one client more
  pub ready_more :
      (party : Party) (disk : D) → IsReadyParty g party disk
      → AreReady g (parties ++ party ∷ []) (slice_set disks (length parties) disk)
  ready_more party disk now i it its at at_disk = elim (at_more parties i party it at) [
    | inl same ↦ elim (set_at disks (length parties) i disk its at_disk) [
      | inl same_disk ↦
          subst (λ (p : Party). IsReadyParty g p its) (sym same.1)
          (subst (λ (d : D). IsReadyParty g party d) (sym same_disk.1) now)
      | inr other ↦ absurd (other.0 same.0)
    ]
    | inr other ↦ elim (set_at disks (length parties) i disk its at_disk) [
      | inl same_disk ↦ absurd (other.0 same_disk.0)
      | inr other_disk ↦ ready i it its other.1 other_disk.1
    ]
  ]
