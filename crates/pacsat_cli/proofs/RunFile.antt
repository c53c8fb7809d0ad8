-- What a run did, where the words ask for the text of a file.
use Rattle.std.proofs.Common.{◌≡◌, ℕ, ◌≤◌, List, [], refl, ap, sym, inl, subst, ◌∙◌, arith, Bool, true, false}
use Rattle.pacsat_cli.specs.declared.status.RefusedBy.TheVariants as by
use Rattle.pacsat_cli.specs.declared.status.Status.TheVariants as status
use Rattle.pacsat_cli.proofs.Names.{Option, IfSome, Rose, Holding, content_of, Lent, Seen, outside, SeenSetting, HasStatusCause, Stays, AsksNode, AsksFile, Determined, OnlyOne, FileCommand, Status, FileEnd, FileShown, IsNoSuchBy, IsShownBy, IsTooLongBy, is_file_status, Shows, line_of, AsksText, RunsFile, WhereHeld, Request, AsksFor, Reach, lendings, nothing, reach_of}
use Rattle.pacsat_cli.proofs.FileEnds.{no_such-end, shown-end, too_long-end}
use Rattle.pacsat_cli.proofs.Ends.{RunEnds, asked-usage, idle-cause, text-end, whole}
use Rattle.pacsat_cli.proofs.OneTask.{file-client, file-make, file-rehearse, node-file, one-text, serve-file, session-file, usage-file}
use Rattle.pacsat_cli.proofs.RunRehearsal.{no-rehearsal}
use Rattle.pacsat_cli.proofs.Touched.{shelf-touches}
use Rattle.pacsat_cli.proofs.Unasked.{unasked-client, unasked-make, unasked-serve, unasked-session}

-- whether no text of a file ends with this status
abbrev pub isnt_file_status : Status → Bool
isnt_file_status status.Usage = true
isnt_file_status status.AirRead = true
isnt_file_status status.AirWrite = true
isnt_file_status status.Disk = true
isnt_file_status (status.BadStore why) = true
isnt_file_status status.Spent = true
isnt_file_status (status.BadSchedule line) = true
isnt_file_status (status.Refused (by.Server code)) = true
isnt_file_status (status.Refused (by.Fault code)) = true
isnt_file_status (status.FileChanged kept given) = true
isnt_file_status status.LinkDown = true
isnt_file_status (status.Strange kind) = true
isnt_file_status status.NotesFull = true
isnt_file_status s = false

never : (command : FileCommand) (other : Status) → isnt_file_status other ≡ true → is_file_status command other ≡ true → ⊥
never command (status.Refused by.Shown) isnt is = cc
never command s isnt is = cc

module _ {O : Type 0} (shown : O → Option (List ℕ)) (faults : O → ℕ) (command : FileCommand) (held : Option Holding) (name : List ℕ) (before mid : O) (s : Status) (ended : FileShown shown faults command held name before mid s) where
  -- such a command ends with no other command's status
  pub file-not : (other : Status) → isnt_file_status other ≡ true → s ≡ other → ⊥
  file-not other isnt is = never command other isnt (ap (is_file_status command) (sym is) ∙ ended.possible)

  -- a count that rose before the status's line has risen after it
  pub file-rose : (now : O) → faults mid ≤ faults now → s ≡ status.Out → Rose (faults before) (faults now)
  file-rose now fewer out = λ below. let rose = ended.cause.rose out below in omega (arith, rose, fewer)

  -- where all was shown, no count rose
  pub file-done : (now : O) → (s ≡ status.Done → now ≡ mid) → s ≡ status.Done → faults now ≡ faults before
  file-done now same done = ap faults (same done) ∙ ended.cause.same (λ e. let other = sym done ∙ e in cc)

  module _ (words : List (List ℕ)) (only : (other : FileCommand) (another : List ℕ) → AsksText words other another → (command ≡ other) × (name ≡ another)) where
    -- the words ask for this text of this file alone
    pub file-runs : {S : Type 0} (holds : S → Option Holding) (shelf : S) → holds shelf ≡ held → (now : O) → Shows shown faults mid now (line_of s) → (line_of s ≡ [] → now ≡ mid) → RunsFile words holds shown faults shelf before now s
    file-runs holds shelf same now line done = λ other another is.
        let at_held : Option Holding → Type 0 = λ h. FileShown shown faults other h another before mid s in
        let at_command : FileCommand → Type 0 = λ c. FileShown shown faults c held another before mid s in
        let at_name : List ℕ → Type 0 = λ n. FileShown shown faults command held n before mid s in
        let one = only other another is in
        record { mid = mid; text = subst at_held (sym same) (subst at_command one.0 (subst at_name one.1 ended)); line = line; done = done }

    -- what holds of the end holds of the status, by what is told of the shelf
    by_held : (P : Status → FileCommand → Option (List ℕ) → Type 0) → ((c : FileCommand) (content : Option (List ℕ)) (text : List ℕ) (t : Status) → FileEnd c content text t → P t c content) → WhereHeld words held (P s)
    by_held P f = λ other another shelf is told.
        let at_told : Option Holding → Type 0 = λ h. IfSome h (λ there. FileEnd command (content_of there name) ended.text s) in
        let at_command : FileCommand → Type 0 = λ c. P s c (content_of shelf another) in
        let at_name : List ℕ → Type 0 = λ n. P s command (content_of shelf n) in
        let one = only other another is in
        subst at_command one.0 (subst at_name one.1 (f command (content_of shelf name) ended.text s (subst at_told told ended.ends)))

    pub file-no_such : WhereHeld words held (IsNoSuchBy s)
    file-no_such = by_held IsNoSuchBy no_such-end

    pub file-too_long : WhereHeld words held (IsTooLongBy s)
    file-too_long = by_held IsTooLongBy too_long-end

    pub file-shown : WhereHeld words held (IsShownBy s)
    file-shown = by_held IsShownBy shown-end

-- all that a run promises, where it shows the text of a file
module _ {A C D S O B : Type 0} (see : Seen D A C) (told : SeenSetting B S O) (all : Lent D A C) (shelf shelf_now : S) (bench : List B) (out mid now : O) (words : List (List ℕ)) (s : Status) (only : OnlyOne words) (determined : Determined words) where
  pub file-ends :
      Shows told.out.shown told.out.faults mid now (line_of s) → (line_of s ≡ [] → now ≡ mid)
      → told.out.faults mid ≤ told.out.faults now → (command : FileCommand) (name : List ℕ) (asked : Request)
      → AsksText words command name → AsksFor words asked → reach_of asked ≡ record nothing { shelf = true }
      → FileShown told.out.shown told.out.faults command (told.shelf.held shelf) name out mid s
      → Stays told.shelf.held shelf shelf_now
      → HasStatusCause status.Shelf (told.shelf.faults shelf) (told.shelf.faults shelf_now) s
      → RunEnds words see told (lendings all shelf bench) (lendings all shelf_now bench) out now s
  file-ends line silent fewer command name asked asks is row ran stays of_shelf =
      let shown = told.out.shown in
      let faults = told.out.faults in
      let held = told.shelf.held shelf in
      let file : AsksFile words = (command, name, asks) in
      let one : (other : FileCommand) (another : List ℕ) → AsksText words other another → (command ≡ other) × (name ≡ another) = λ other another too. one-text words only determined command other name another asks too in
      let isnt = file-not shown faults command held name out mid s ran in
      let no_node : AsksNode words → ⊥ = λ node. node-file words only node file in
      whole words see told (lendings all shelf bench) (lendings all shelf_now bench) out now s
      (shelf-touches told.shelf.held words bench all shelf shelf_now bench asked is (λ e. absurd (let other = ap (λ (r : Reach). r.shelf) row in cc)) (λ _. stays) (λ _. refl))
      (asked-usage words see told (lendings all shelf bench) (lendings all shelf_now bench) out now s (isnt status.Usage refl) (λ usage. usage-file words only usage file))
      (unasked-session words see all all s (λ session. session-file words only session file))
      (unasked-serve words see all all s (λ serve. serve-file words only serve file))
      (unasked-client words see told.shelf told.out (outside all shelf out) (outside all shelf_now now) s (file-client words only file))
      (record {
        files = file-runs shown faults command held name out mid s ran words one told.shelf.held shelf refl now line silent;
        no_such = file-no_such shown faults command held name out mid s ran words one;
        too_long = file-too_long shown faults command held name out mid s ran words one;
        files_done = file-shown shown faults command held name out mid s ran words one;
      })
      (unasked-make words told.shelf shelf shelf_now s (file-make words only file))
      (no-rehearsal words told shelf out now bench s (file-rehearse words only file))
      (idle-cause words see told all shelf shelf_now bench bench out now s no_node (isnt status.AirRead refl) (isnt status.AirWrite refl) (isnt status.Disk refl) (λ why. isnt (status.BadStore why) refl) (file-client words only file) of_shelf (file-rose shown faults command held name out mid s ran now fewer))
      (text-end words see told all shelf shelf_now bench bench out now s no_node (inl file) (λ e. (of_shelf.same (λ f. let other = sym e in cc), file-done shown faults command held name out mid s ran now (λ d. silent (ap line_of d)) e)))
