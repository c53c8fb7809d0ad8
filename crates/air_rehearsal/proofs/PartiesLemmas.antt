-- The clients of the stations, and those of the world that they play. What may be cited:
--     parties-count    as many of the one as of the other
--     party-of         the client of the world at the place of one of the stations; `stored-of` is the other way
--     played-at        the two at a place
--     parties-set      both are others at a place; by `parties-kept` only the one of the stations is
--     files-count      how many uploads were asked
--     file-at          the one of a number; by `no-file` there is none
--     files-more       one more was asked
--     are-named        each upload has its name
--     seat-at          the seat of a client; by `seat-of` there is one
-- PairLemmas has more on two lists that go place by place (`AllZip`), with `get-some` and `get-none` for what `get` told.
use Rattle.std.proofs.Common.{◌≡◌, ℕ, zero, suc, ◌+◌, List, [], ◌∷◌, ◌++◌, length, Option, None, Some}
use Rattle.std.proofs.Common.{refl, sym, ap, ◌∙◌, arith}
use Rattle.std.specs.List.{slice_get, slice_set}
use Rattle.air_world.specs.Attempts.Party.{Party}
use Rattle.air_rehearsal.proofs.Names.{none-some, same_Some, AllZip-long, Asked, upload_file, upload_name, Sound, PartyAt, World, AreNamed, IsSeat, PlayParties, PlaysParty, PlaysStations, asked_from, Upload, Party as StoredParty, Stations}
use Rattle.air_rehearsal.proofs.PairLemmas.{pair-at, pair-left, pair-right, pair-set, pair-set_left}

-- ---- the uploads that were asked

-- the upload of this number, as it was asked
abbrev pub asked_as : ℕ → Upload → Asked
asked_as number upload =
    record { client = upload.client; name = upload_name number; file = upload_file number upload.octets }

-- the one at a place, of those from a number on
pub asked-at :
    (number : ℕ) (uploads : List Upload) (place : ℕ) (upload : Upload) → slice_get uploads place ≡ Some upload
    → slice_get (asked_from number uploads) place ≡ Some (asked_as (number + place) upload)
asked-at number [] place upload at = absurd cc
asked-at number (one ∷ uploads) zero upload at =
    ap (λ (it : Upload). Some (asked_as number it)) (same_Some one upload at)
    ∙ ap (λ n. Some (asked_as n upload)) (let e : number ≡ number + 0 = omega arith in e)
asked-at number (one ∷ uploads) (suc place) upload at =
    asked-at (suc number) uploads place upload at
    ∙ ap (λ n. Some (asked_as n upload)) (let e : suc number + place ≡ number + suc place = omega arith in e)

-- and the other way
pub upload-at :
    (number : ℕ) (uploads : List Upload) (place : ℕ) (asked : Asked)
    → slice_get (asked_from number uploads) place ≡ Some asked
    → (upload : Upload) × (slice_get uploads place ≡ Some upload) × (asked ≡ asked_as (number + place) upload)
upload-at number [] place asked at = absurd cc
upload-at number (one ∷ uploads) zero asked at = (
  one,
  refl,
  sym (same_Some (asked_as number one) asked at)
      ∙ ap (λ n. asked_as n one) (let e : number ≡ number + 0 = omega arith in e),
)
upload-at number (one ∷ uploads) (suc place) asked at =
    let found = upload-at (suc number) uploads place asked at in (
      found.0,
      found.1,
      found.2
          ∙ ap (λ n. asked_as n found.0) (let e : suc number + place ≡ number + suc place = omega arith in e),
    )

pub asked-count : (number : ℕ) (uploads : List Upload) → length (asked_from number uploads) ≡ length uploads
asked-count number [] = refl
asked-count number (upload ∷ uploads) = ap suc (asked-count (suc number) uploads)

-- one more was asked
pub asked-more :
    (number : ℕ) (uploads : List Upload) (upload : Upload)
    → asked_from number (uploads ++ upload ∷ [])
    ≡ asked_from number uploads ++ asked_as (number + length uploads) upload ∷ []
asked-more number [] upload =
    ap (λ n. asked_as n upload ∷ []) (let e : number ≡ number + 0 = omega arith in e)
asked-more number (one ∷ uploads) upload =
    ap (λ (list : List Asked). asked_as number one ∷ list)
    (asked-more (suc number) uploads upload
    ∙ ap (λ n. asked_from (suc number) uploads ++ asked_as n upload ∷ [])
    (let e : suc number + length uploads ≡ number + suc (length uploads) = omega arith in e))

-- ---- the clients

module _ (self : Stations) (world : World) (plays : PlaysStations self world) where
  pub parties-count : length self.parties.items ≡ length world.parties
  parties-count = sym (AllZip-long PlaysParty self.parties.items world.parties plays.parties)

  -- the client of the world at the place of one of the stations
  pub party-of :
      (c : ℕ) (stored : StoredParty) → slice_get self.parties.items c ≡ Some stored
      → (party : Party) × PartyAt world c party × PlaysParty stored party
  party-of = pair-left PlaysParty self.parties.items world.parties plays.parties

  -- and the other way
  pub stored-of :
      (c : ℕ) (party : Party) → PartyAt world c party
      → (stored : StoredParty) × (slice_get self.parties.items c ≡ Some stored) × PlaysParty stored party
  stored-of = pair-right PlaysParty self.parties.items world.parties plays.parties

  pub played-at :
      (c : ℕ) (stored : StoredParty) (party : Party) → slice_get self.parties.items c ≡ Some stored
      → PartyAt world c party → PlaysParty stored party
  played-at = pair-at PlaysParty self.parties.items world.parties plays.parties

  -- both are others at a place
  pub parties-set :
      (c : ℕ) (stored : StoredParty) (party : Party) → PlaysParty stored party
      → PlayParties (slice_set self.parties.items c stored) (slice_set world.parties c party)
  parties-set = pair-set PlaysParty self.parties.items world.parties plays.parties

  -- another one of the stations is the client of the world that was there
  pub parties-kept :
      (c : ℕ) (stored : StoredParty) (party : Party) → PartyAt world c party → PlaysParty stored party
      → PlayParties (slice_set self.parties.items c stored) world.parties
  parties-kept = pair-set_left PlaysParty self.parties.items world.parties plays.parties

  -- ---- the uploads

  pub files-count : length world.files ≡ length self.uploads.items
  files-count = ap length plays.files_are ∙ asked-count 0 self.uploads.items

  pub file-at :
      (place : ℕ) (upload : Upload) → slice_get self.uploads.items place ≡ Some upload
      → slice_get world.files place ≡ Some (asked_as place upload)
  file-at place upload at =
      ap (λ (files : List Asked). slice_get files place) plays.files_are
      ∙ asked-at 0 self.uploads.items place upload at
      ∙ ap (λ n. Some (asked_as n upload)) (let e : 0 + place ≡ place = omega arith in e)

  -- none is where none was asked
  pub no-file : (place : ℕ) → slice_get self.uploads.items place ≡ None → slice_get world.files place ≡ None
  no-file place none = by (slice_get world.files place) refl
    where
      by : (asked : Option Asked) → slice_get world.files place ≡ asked → slice_get world.files place ≡ None
      by None is = is
      by (Some asked) is =
          let found =
          upload-at 0 self.uploads.items place asked
          (ap (λ (files : List Asked). slice_get files place) (sym plays.files_are) ∙ is) in
          absurd (none-some found.0 (sym none ∙ found.1))

  -- one more was asked
  pub files-more :
      (upload : Upload)
      → world.files ++ asked_as (length world.files) upload ∷ [] ≡ asked_from 0 (self.uploads.items ++ upload ∷ [])
  files-more upload =
      ap (λ n. world.files ++ asked_as n upload ∷ [])
      (files-count ∙ (let e : length self.uploads.items ≡ 0 + length self.uploads.items = omega arith in e))
      ∙ ap
      (λ (files : List Asked). files ++ asked_as (0 + length self.uploads.items) upload ∷ []) plays.files_are
      ∙ sym (asked-more 0 self.uploads.items upload)

  -- each upload is noted under its number
  pub are-named : AreNamed world.files
  are-named number asked at =
      let found =
      upload-at 0 self.uploads.items number asked
      (ap (λ (files : List Asked). slice_get files number) (sym plays.files_are) ∙ at) in
      ap (λ (it : Asked). it.name) found.2
      ∙ ap upload_name (let e : 0 + number ≡ number = omega arith in e)

  -- ---- the seats

  -- the client at a place is that one of the world
  pub seat-at :
      Sound world → (c : ℕ) (stored : StoredParty) (party : Party) → slice_get self.parties.items c ≡ Some stored
      → PartyAt world c party → IsSeat stored (record { world = world; c = c; party = party })
  seat-at sound c stored party at there =
      record { sound = sound; named = are-named; is_party = there; plays = played-at c stored party at there }

  -- there is such a one
  pub seat-of :
      Sound world → (c : ℕ) (stored : StoredParty) → slice_get self.parties.items c ≡ Some stored
      → (party : Party) × PartyAt world c party × IsSeat stored (record { world = world; c = c; party = party })
  seat-of sound c stored at =
      let found = party-of c stored at in (found.0, found.1, seat-at sound c stored found.0 at found.1)
