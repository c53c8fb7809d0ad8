-- What a run did, where the words ask for a file that is made.
use Rattle.std.proofs.Common.{◌≡◌, ℕ, List, [], refl, ap, sym, subst, Bool, true, false}
use Rattle.pacsat_cli.specs.declared.status.RefusedBy.TheVariants as by
use Rattle.pacsat_cli.specs.declared.status.Status.TheVariants as status
use Rattle.command_words.specs.declared.request.Request.TheVariants as request
use Rattle.pacsat_cli.proofs.Names.{MakingRequest, Make, Body, Option, Holding, Lent, Seen, outside, SeenSetting, HasStatusCause, Shows, line_of, AsksNode, Determined, OnlyOne, AsksMake, MakeValue, make_value, Status, BodyEnd, BodyRan, MakeEnd, MakeRan, AsksMakingFor, MakingRan, MayMake, RunsBody, RunsMake, lendings}
use Rattle.pacsat_cli.proofs.Ends.{RunEnds, asked-usage, idle-cause, line-end, whole}
use Rattle.pacsat_cli.proofs.OneTask.{asks-make, file-make, make-client, make-rehearse, node-make, serve-make, session-make, usage-make}
use Rattle.pacsat_cli.proofs.RunRehearsal.{no-rehearsal}
use Rattle.pacsat_cli.proofs.Touched.{shelf-touches}
use Rattle.pacsat_cli.proofs.Unasked.{unasked-client, unasked-file, unasked-serve, unasked-session}

-- whether a make can end with this status
abbrev pub is_make_status : Status → Bool
is_make_status status.Done = true
is_make_status status.NoSuch = true
is_make_status status.TooLong = true
is_make_status status.Shelf = true
is_make_status status.OutOfMemory = true
is_make_status (status.Refused (by.Fault code)) = true
is_make_status s = false

make-status : (IsFile : List ℕ → Type 0) (name : List ℕ) (before now : Option Holding) (s : Status) → MakeEnd IsFile name before now s → is_make_status s ≡ true
make-status IsFile name before now status.Done h = refl
make-status IsFile name before now status.NoSuch h = refl
make-status IsFile name before now status.TooLong h = refl
make-status IsFile name before now status.Shelf h = refl
make-status IsFile name before now status.OutOfMemory h = refl
make-status IsFile name before now s h = absurd h

body-status : (IsFile : List ℕ → Type 0) (name : List ℕ) (before now : Option Holding) (s : Status) → BodyEnd IsFile name before now s → is_make_status s ≡ true
body-status IsFile name before now (status.Refused (by.Fault code)) h = refl
body-status IsFile name before now s h = make-status IsFile name before now s h

making-status : (command : MakingRequest) (before now : Option Holding) (s : Status) → MakingRan command before now s → is_make_status s ≡ true
making-status (Make request) before now s ran = make-status _ request.kept.now before now s ran.ends
making-status (Body request) before now s ran = body-status _ request.kept.now before now s ran.ends

-- a make ends with no other command's status
pub make-not : (command : MakingRequest) (before now : Option Holding) (s : Status) → MakingRan command before now s → (other : Status) → is_make_status other ≡ false → s ≡ other → ⊥
make-not command before now s ran other isnt is = let yes = making-status command before now s ran in let same = ap is_make_status is in absurd (cc)

module _ (words : List (List ℕ)) where
  pub may-make : (command : MakingRequest) → AsksMakingFor words command → MayMake command
  may-make (Make request) is = is.text.possible
  may-make (Body request) is = tt

  -- the words ask for this file alone
  module _ {S : Type 0} (holds : S → Option Holding) (shelf shelf_now : S) (s : Status) (only : OnlyOne words) (determined : Determined words) where
    pub make-runs : (command : MakingRequest) → AsksMakingFor words command → MakingRan command (holds shelf) (holds shelf_now) s → RunsMake words holds shelf shelf_now s
    make-runs (Make request) is ran = λ other another later too.
        let same = determined.make request.body.now other request.kept.now another (make_value request.header) later is too in
        let at_body : List ℕ → Type 0 = λ b. MakeRan (make_value request.header) b request.kept.now (holds shelf) (holds shelf_now) s in
        let at_name : List ℕ → Type 0 = λ n. MakeRan (make_value request.header) other n (holds shelf) (holds shelf_now) s in
        let at_asked : MakeValue → Type 0 = λ a. MakeRan a other another (holds shelf) (holds shelf_now) s in
        subst at_asked same.2 (subst at_name same.1 (subst at_body same.0 ran))
    make-runs (Body request) is ran = λ other another later too. absurd (only.make_body other another request.name.now request.kept.now later too is)

    pub body-runs : (command : MakingRequest) → AsksMakingFor words command → MakingRan command (holds shelf) (holds shelf_now) s → RunsBody words holds shelf shelf_now s
    body-runs (Make request) is ran = λ other another too. absurd (only.make_body request.body.now request.kept.now other another (make_value request.header) is too)
    body-runs (Body request) is ran = λ other another too.
        let same = determined.body request.name.now other request.kept.now another is too in
        let at_name : List ℕ → Type 0 = λ n. BodyRan n request.kept.now (holds shelf) (holds shelf_now) s in
        let at_kept : List ℕ → Type 0 = λ k. BodyRan other k (holds shelf) (holds shelf_now) s in
        subst at_kept same.1 (subst at_name same.0 ran)

-- all that a run promises, where it makes a file
module _ {A C D S O B : Type 0} (see : Seen D A C) (told : SeenSetting B S O) (all : Lent D A C) (shelf shelf_now : S) (bench : List B) (out now : O) (words : List (List ℕ)) (s : Status) (only : OnlyOne words) (determined : Determined words) where
  pub make-ends :
      Shows told.out.shown told.out.faults out now (line_of s) → (line_of s ≡ [] → now ≡ out)
      → (asked : MakingRequest) → AsksMakingFor words asked
      → MakingRan asked (told.shelf.held shelf) (told.shelf.held shelf_now) s
      → HasStatusCause status.Shelf (told.shelf.faults shelf) (told.shelf.faults shelf_now) s
      → RunEnds words see told (lendings all shelf bench) (lendings all shelf_now bench) out now s
  make-ends line silent asked asks ran of_shelf =
      let make : AsksMake words = asks-make words asked asks in
      let isnt = make-not asked (told.shelf.held shelf) (told.shelf.held shelf_now) s ran in
      let no_node : AsksNode words → ⊥ = λ node. node-make words only node make in
      whole words see told (lendings all shelf bench) (lendings all shelf_now bench) out now s
      (shelf-touches told.shelf.held words bench all shelf shelf_now bench (request.Making asked) asks (λ e. absurd (cc)) (λ e. absurd (cc)) (λ _. refl))
      (asked-usage words see told (lendings all shelf bench) (lendings all shelf_now bench) out now s (isnt status.Usage refl) (λ usage. usage-make words only usage make))
      (unasked-session words see all all s (λ session. session-make words only session make))
      (unasked-serve words see all all s (λ serve. serve-make words only serve make))
      (unasked-client words see told.shelf told.out (outside all shelf out) (outside all shelf_now now) s (make-client words only make))
      (unasked-file words told.shelf told.out shelf out now s (λ file. file-make words only file make))
      (record {
        made = make-runs words told.shelf.held shelf shelf_now s only determined asked asks ran;
        body = body-runs words told.shelf.held shelf shelf_now s only determined asked asks ran;
      })
      (no-rehearsal words told shelf out now bench s (make-rehearse words only make))
      (idle-cause words see told all shelf shelf_now bench bench out now s no_node (isnt status.AirRead refl) (isnt status.AirWrite refl) (isnt status.Disk refl) (λ why. isnt (status.BadStore why) refl) (make-client words only make) of_shelf (λ e. absurd (isnt status.Out refl e)))
      (line-end words see told all shelf shelf_now bench bench out now s no_node line silent (λ e. of_shelf.same (λ f. let other = sym e in cc)))
