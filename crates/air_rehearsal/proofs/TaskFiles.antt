-- The file of a client's task, by the uploads that were asked.
use Rattle.std.proofs.Common.{◌≡◌, ℕ, ◌-◌, ◌≤◌, ◌==◌, List, Option, None, Some, sym, ap, ◌∙◌, arith}
use Rattle.std.specs.List.{slice_get}
use Rattle.air_world.specs.Attempts.Party.{Party}
use Rattle.air_rehearsal.proofs.Names.{option_and_then, option_map, cond-false, ne_eqb, Asked, file_of_task, upload_of, upload_file, World, PlaysStations, Upload, Party as StoredParty, Stations}
use Rattle.air_rehearsal.proofs.PartiesLemmas.{file-at, no-file}

module _ (stored : StoredParty) (party : Party) (same : stored.uploads.items ≡ party.uploads) (task : ℕ)
    (some : 1 ≤ task) where
  upload-is : upload_of party task ≡ slice_get stored.uploads.items (task - 1)
  upload-is =
      cond-false (task == 0) None (slice_get party.uploads (task - 1)) (ne_eqb task 0 (λ is. omega (arith, some, is)))
      ∙ ap (λ (uploads : List ℕ). slice_get uploads (task - 1)) (sym same)

  file-is : (files : List Asked) (upload : Option ℕ) → slice_get stored.uploads.items (task - 1) ≡ upload
      → file_of_task files party task
      ≡ option_map (λ (asked : Asked). asked.file) (option_and_then (slice_get files) upload)
  file-is files upload is =
      ap (λ o. option_map (λ (asked : Asked). asked.file) (option_and_then (slice_get files) o)) (upload-is ∙ is)

  -- where the task has no upload
  pub no-upload :
      (files : List Asked) → slice_get stored.uploads.items (task - 1) ≡ None → file_of_task files party task ≡ None
  no-upload files none = file-is files None none

  module _ (self : Stations) (world : World) (plays : PlaysStations self world) (upload : ℕ)
      (is : slice_get stored.uploads.items (task - 1) ≡ Some upload) where
    -- where its upload wasn't asked
    pub no-asked : slice_get self.uploads.items upload ≡ None → file_of_task world.files party task ≡ None
    no-asked none =
        file-is world.files (Some upload) is
        ∙ ap (option_map (λ (asked : Asked). asked.file)) (no-file self world plays upload none)

    -- where it was
    pub asked-file :
        (asked : Upload) (file : List ℕ) → slice_get self.uploads.items upload ≡ Some asked
        → file ≡ upload_file upload asked.octets → file_of_task world.files party task ≡ Some file
    asked-file asked file at file_is =
        file-is world.files (Some upload) is
        ∙ ap (option_map (λ (it : Asked). it.file)) (file-at self world plays upload asked at)
        ∙ ap Some (sym file_is)
