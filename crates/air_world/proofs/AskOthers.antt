-- A list and a download may be asked of a client.
use Rattle.std.proofs.Common.{◌≡◌, ℕ, ◌≤◌, List, [], ◌∷◌, length, Some, refl, sym, subst, arith, append-nil}
use Rattle.std.proofs.Common.{length-append}
use Rattle.file_store.specs.IsStore.{FitsLength}
use Rattle.file_store.specs.Limits.{longest_file}
use Rattle.ftl0_client_job.specs.declared.work.Work.TheVariants as work
use Rattle.air_schedule.specs.Schedule.{AreTokens, IsFileNumber}
use Rattle.air_world.proofs.Names.{Holding, Store, complete, entry_of, partial, found-fits, complete_octets, file_of, new_directory, new_download, GoWith, IsNotBegun, new_upload, Work, Party, AreFirstIfAny, HasNumber, got, IsSoundStore, IsWork, complete-entry, IsParty, Sound, PartyAt, World}
use Rattle.air_world.proofs.Asked.{MayBeAsked, same-base}

-- what a work goes on with is a task of the client that has its number
abbrev pub GoesOnWell : Party → Work → Type 0
GoesOnWell party wanted =
    (task known : ℕ) (file : List ℕ) → wanted ≡ work.Upload (new_upload task known file) → 1 ≤ known
    → HasNumber party task known

-- This work may be asked of a client of a sound world, if no file is asked for the first time.
pub ask-again : (old : World) (c : ℕ) (party : Party) (wanted : Work) → Sound old → PartyAt old c party
    → IsNotBegun wanted → GoWith party.client.lists wanted → GoesOnWell party wanted → IsWork old.files party wanted
    → MayBeAsked old c party party [] wanted
ask-again old c party wanted sound is begun go_with goes_on work_is =
    let same = sym (append-nil old.files) in
    record {
      base_is = same-base old c party sound is;
      link = refl;
      stray = refl;
      begun = begun;
      go_with = go_with;
      goes_on = goes_on;
      work = subst (λ files. IsWork files party wanted) same work_is;
    }

-- the list of these tokens' selection
pub ask-list : (old : World) (c : ℕ) (party : Party) (tokens : List ℕ) → Sound old → PartyAt old c party
    → AreTokens tokens → MayBeAsked old c party party [] (work.Directory (new_directory tokens))
ask-list old c party tokens sound is are =
    ask-again old c party (work.Directory (new_directory tokens)) sound is refl tt (λ task known file same. absurd (cc))
    are

-- ---- what was got of a file is no more than a file may have

short-holding : (h : Holding) (file : List ℕ) (file_length : ℕ) → complete_octets h ≡ Some file
    → FitsLength h file_length → file_length ≤ longest_file → length file ≤ longest_file
short-holding (partial held) file file_length is fits most = absurd (cc)
short-holding (complete octets moment) file file_length is fits most =
    let same : octets ≡ file = cc in
    subst (λ octets. length octets ≤ longest_file) same (subst (λ n. n ≤ longest_file) (sym fits) most)

-- a complete file of a sound store is no longer than a file may be
short-file : (store : Store) (number : ℕ) (file : List ℕ) → IsSoundStore store → file_of store number ≡ Some file
    → length file ≤ longest_file
short-file store number file sound is =
    let found = complete-entry (entry_of store number) file is in
    let fits = found-fits number 1 store.next store.entries found.0 sound.is_store.entries found.1 in
    short-holding found.0.holding file found.0.length found.3 fits.0 fits.1

-- and so are the first octets of one
short-got : (store : Store) (number : ℕ) (octets : List ℕ) → IsSoundStore store → AreFirstIfAny store number octets
    → length octets ≤ longest_file
short-got store number [] sound first = omega arith
short-got store number (octet ∷ octets) sound first =
    let it = first (λ none. absurd (cc)) in
    let short = short-file store number it.0 sound it.1 in
    let whole : length (octet ∷ octets) ≤ length it.0 =
    subst (λ file. length (octet ∷ octets) ≤ length file) (sym it.2.1)
    (omega (arith, length-append (octet ∷ octets) it.2.0)) in
    omega (arith, short, whole)

-- the file of this number
pub ask-download : (old : World) (c : ℕ) (party : Party) (number : ℕ) → Sound old → PartyAt old c party
    → IsFileNumber number
    → MayBeAsked old c party party [] (work.Download (new_download party.client.server number))
ask-download old c party number sound is number_is =
    let it : IsParty old c party = sound.parties c party is in
    let first = it.facts.files_got.got_front number in
    let short = short-got old.server.store number (got party number) sound.store first in
    ask-again old c party (work.Download (new_download party.client.server number)) sound is refl
    (record { fits = omega (arith, short); checked = tt }) (λ task known file same. absurd (cc))
    (refl, number_is)
