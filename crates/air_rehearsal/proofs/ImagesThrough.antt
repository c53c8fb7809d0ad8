-- What a crash leaves of a station's disk, from each stage on.
use Rattle.std.specs.Prelude.{◌≡◌, ◌⊎◌, ◌∷◌}
use Rattle.std.proofs.Common.{inl, inr, sym, ◌∙◌, subst, arith}
use Rattle.air_rehearsal.specs.Standing.{StandsFor}
use Rattle.air_rehearsal.proofs.Names.{ℕ, List, [], true, false, Option, None, Some, IfSome, refl, AllByRecursion, Cuts, IsTold, LeavesOnly, Ghosts, Event, World, CarriesOut, Follow, IsCutOff, Stage, StartsAgain, StepBy, last_stage, StandsAlike, StandsDuring, StandsNow, Role, Station, acts, breaks_off, looks_on, role_of, will_be_cut}

-- The octets stand for what the station keeps in one of these worlds, or in one of them after the first of the commands
-- of its event.
abbrev pub StandsSomewhere : {B : Type 0} → Station → Stage B → List Event → List (Stage B) → List ℕ → Type 0
StandsSomewhere station stage [] stages image = StandsFor station stage.world image
StandsSomewhere station stage (event ∷ events) [] image = StandsFor station stage.world image
StandsSomewhere station stage (event ∷ events) (next ∷ later) image =
    StandsFor station stage.world image
    ⊎ (StandsDuring station stage.world event image ⊎ StandsSomewhere station next events later image)

somewhere_first :
    {B : Type 0} (station : Station) (stage : Stage B) (events : List Event) (stages : List (Stage B))
    (image : List ℕ) → StandsFor station stage.world image → StandsSomewhere station stage events stages image
somewhere_first station stage [] stages image stands = stands
somewhere_first station stage (event ∷ events) [] image stands = stands
somewhere_first station stage (event ∷ events) (next ∷ later) image stands = inl stands

-- In worlds that fit, octets that are alike stand for what the station keeps where the ones before do.
abbrev pub AlikeStands : Station → (World → Type 0) → Type 0
AlikeStands station Fits =
    (world : World) (content image : List ℕ) → Fits world → StandsFor station world content
    → StandsAlike station content image → StandsFor station world image

some_of :
    (content : Option (List ℕ)) (P Q : List ℕ → Type 0) → IsTold content → IfSome content P → IfSome content Q
    → (octets : List ℕ) × P octets × Q octets
some_of None P Q told first second = absurd (let e : false ≡ true = told in cc)
some_of (Some octets) P Q told first second = (octets, first, second)

-- each of these stages' worlds fits
abbrev pub AllFit : {B : Type 0} → (World → Type 0) → List (Stage B) → Type 0
AllFit {B} Fits stages = AllByRecursion (λ (it : Stage B). Fits it.world) stages

module _ {B : Type 0} (g : Ghosts B) (cuts : Cuts B) (station : Station) (Fits : World → Type 0)
    (alike : AlikeStands station Fits) where
  -- from one disk to the next a crash since an earlier moment leaves what it might have left before, or what has P
  abbrev Adds : (List ℕ → Type 0) → B → B → Type 0
  Adds P old new = LeavesOnly g.moment g.images_since old new P

  of_told : (content : Option (List ℕ)) (octets : List ℕ) (P : List ℕ → Type 0) → content ≡ Some octets
      → IfSome content P → P octets
  of_told content octets P is has = subst (λ (c : Option (List ℕ)). IfSome c P) is has

  adds_again :
      (world : World) (old new : B) (content : List ℕ) → Fits world → StandsFor station world content
      → LeavesOnly g.moment g.images_since old new (StandsAlike station content)
      → Adds (StandsFor station world) old new
  adds_again world old new content fits stands leaves = record {
    later = leaves.later;
    each = λ t image before since. elim (leaves.each t image before since) [
      | inl was ↦ inl was
      | inr same ↦ inr (alike world content image fits stands same)
    ];
  }

  adds_cut :
      (call : ℕ) (old : Stage B) (event : Event) (new : Stage B) → Fits new.world
      → IsCutOff g cuts station call old event new → StandsNow g station old.world old.disk
      → Adds (λ image. StandsDuring station old.world event image ⊎ StandsFor station new.world image) old.disk new.disk
  adds_cut call old event new fits is stands =
      let armed : g.content is.armed ≡ Some stands.content = is.arms.nothing_else.same_content ∙ stands.is_content in
      let carried = of_told (g.content is.armed) stands.content
      (λ _. LeavesOnly g.moment g.images_since is.armed is.lost (StandsDuring station old.world event))
      armed is.carries.since in
      let lost : IsTold (g.content is.lost) =
      is.carries.told.1 (subst (λ (c : Option (List ℕ)). IsTold c) (sym armed) refl) in
      let left = some_of (g.content is.left) _ _ (is.keeps.told.1 lost) is.stands is.again.since in
      let again = adds_again new.world is.left new.disk left.0 fits left.1 left.2 in
      let first : g.moment is.armed ≡ g.moment old.disk = is.arms.nothing_else.same_moment in
      let last : g.moment is.left ≡ g.moment is.lost = is.keeps.moment in
      record {
        later = omega (arith, first, last, carried.later, again.later);
        each = λ t image before since.
            elim (again.each t image (omega (arith, before, first, last, carried.later)) since) [
              | inr stood ↦ inr (inr stood)
              | inl was ↦
                  elim (carried.each t image (omega (arith, before, first)) ((is.keeps.past t image).0 was)) [
                    | inr during ↦ inr (inl during)
                    | inl earlier ↦ inl ((is.arms.nothing_else.same_past t image).0 earlier)
                  ]
            ];
      }

  -- what an event adds
  abbrev OfStep : Stage B → Event → Stage B → List ℕ → Type 0
  OfStep old event new image =
      StandsFor station old.world image
      ⊎ (StandsDuring station old.world event image ⊎ StandsFor station new.world image)

  adds_none : (P : List ℕ → Type 0) (disk : B) → Adds P disk disk
  adds_none P disk = record { later = omega arith; each = λ t image before since. inl since }

  adds_more :
      (P Q : List ℕ → Type 0) (old new : B) → ((image : List ℕ) → P image → Q image) → Adds P old new → Adds Q old new
  adds_more P Q old new more adds = record {
    later = adds.later;
    each = λ t image before since. elim (adds.each t image before since) [
      | inl was ↦ inl was
      | inr has ↦ inr (more image has)
    ];
  }

  adds_carried :
      (old : Stage B) (event : Event) (new : Stage B) → CarriesOut g station old.world event old.disk new.disk
      → StandsNow g station old.world old.disk → Adds (OfStep old event new) old.disk new.disk
  adds_carried old event new does stands =
      adds_more (StandsDuring station old.world event) (OfStep old event new) old.disk new.disk
      (λ image during. inr (inl during))
      (of_told (g.content old.disk) stands.content
      (λ _. LeavesOnly g.moment g.images_since old.disk new.disk (StandsDuring station old.world event))
      stands.is_content does.since)

  adds_broken :
      (old : Stage B) (event : Event) (new : Stage B) → Fits old.world → StartsAgain g station old.disk new.disk
      → StandsNow g station old.world old.disk → Adds (OfStep old event new) old.disk new.disk
  adds_broken old event new fits does stands =
      adds_more (StandsFor station old.world) (OfStep old event new) old.disk new.disk (λ image stood. inl stood)
      (adds_again old.world old.disk new.disk stands.content fits stands.stands
      (of_told (g.content old.disk) stands.content
      (λ content. LeavesOnly g.moment g.images_since old.disk new.disk (StandsAlike station content))
      stands.is_content does.since))

  adds_same :
      (old : Stage B) (event : Event) (new : Stage B) → new.disk ≡ old.disk
      → Adds (OfStep old event new) old.disk new.disk
  adds_same old event new same =
      subst (λ (disk : B). Adds (OfStep old event new) old.disk disk) (sym same)
      (adds_none (OfStep old event new) old.disk)

  adds_step :
      (role : Role) (waiting : Option ℕ) (old : Stage B) (event : Event) (new : Stage B) → Fits old.world
      → Fits new.world
      → StepBy g cuts station role waiting old event new → StandsNow g station old.world old.disk
      → Adds (OfStep old event new) old.disk new.disk
  adds_step acts None old event new fits fit does stands = adds_carried old event new does stands
  adds_step acts (Some call) old event new fits fit does stands =
      adds_more
      (λ image. StandsDuring station old.world event image ⊎ StandsFor station new.world image)
      (OfStep old event new) old.disk new.disk (λ image has. inr has) (adds_cut call old event new fit does stands)
  adds_step breaks_off waiting old event new fits fit does stands = adds_broken old event new fits does stands
  adds_step (will_be_cut call) waiting old event new fits fit does stands = adds_same old event new does
  adds_step looks_on waiting old event new fits fit does stands = adds_same old event new does

  adds_both :
      (old : Stage B) (event : Event) (next : Stage B) (events : List Event) (later : List (Stage B)) (last : B)
      → Adds (OfStep old event next) old.disk next.disk
      → Adds (StandsSomewhere station next events later) next.disk last
      → Adds (StandsSomewhere station old (event ∷ events) (next ∷ later)) old.disk last
  adds_both old event next events later last step rest = record {
    later = omega (arith, step.later, rest.later);
    each = λ t image before since.
        elim (rest.each t image (omega (arith, before, step.later)) since) [
          | inr somewhere ↦ inr (inr (inr somewhere))
          | inl was ↦ elim (step.each t image before was) [
            | inl earlier ↦ inl earlier
            | inr has ↦ inr (elim has [
              | inl stood ↦ inl stood
              | inr more ↦ inr (elim more [
                | inl during ↦ inl during
                | inr new ↦ inr (somewhere_first station next events later image new)
              ])
            ])
          ]
        ];
  }

  adds_through :
      (stage : Stage B) (events : List Event) (stages : List (Stage B)) → Follow g cuts station stage events stages
      → Fits stage.world → AllFit Fits stages → StandsNow g station stage.world stage.disk
      → Adds (StandsSomewhere station stage events stages) stage.disk (last_stage stage stages).disk
  adds_through stage [] stages follow fits fit stands =
      subst
      (λ (s : List (Stage B)). Adds (StandsSomewhere station stage [] s) stage.disk (last_stage stage s).disk)
      (sym follow) (adds_none (StandsFor station stage.world) stage.disk)
  adds_through stage (event ∷ events) stages follow fits fit stands =
      let all = subst (λ (s : List (Stage B)). AllFit Fits s) follow.2 fit in
      subst
      (λ (s : List (Stage B)).
      Adds (StandsSomewhere station stage (event ∷ events) s) stage.disk (last_stage stage s).disk)
      (sym follow.2)
      (adds_both stage event follow.0 events follow.1 (last_stage follow.0 follow.1).disk
      (adds_step (role_of station event) stage.waiting stage event follow.0 fits all.0 follow.3.does stands)
      (adds_through follow.0 events follow.1 follow.4 all.0 all.1 follow.3.stands))

  -- Whatever a crash since a stage leaves of the disk, up to the last stage, stands for what the station keeps in one
  -- of the worlds from this stage's on, or in one of them after the first of its event's commands.
  pub images_through :
      (stage : Stage B) (events : List Event) (stages : List (Stage B)) → Follow g cuts station stage events stages
      → Fits stage.world → AllFit Fits stages → StandsNow g station stage.world stage.disk → (image : List ℕ)
      → g.images_since (last_stage stage stages).disk (g.moment stage.disk) image
      → StandsSomewhere station stage events stages image
  images_through stage events stages follow fits fit stands image since =
      elim
      ((adds_through stage events stages follow fits fit stands).each (g.moment stage.disk) image (omega arith) since) [
        | inl was ↦ somewhere_first station stage events stages image (stands.images image was)
        | inr somewhere ↦ somewhere
      ]

  last_stands :
      (stage : Stage B) (events : List Event) (stages : List (Stage B)) → Follow g cuts station stage events stages
      → StandsNow g station stage.world stage.disk
      → StandsNow g station (last_stage stage stages).world (last_stage stage stages).disk
  last_stands stage [] stages follow stands =
      subst
      (λ (s : List (Stage B)). StandsNow g station (last_stage stage s).world (last_stage stage s).disk)
      (sym follow) stands
  last_stands stage (event ∷ events) stages follow stands =
      subst
      (λ (s : List (Stage B)). StandsNow g station (last_stage stage s).world (last_stage stage s).disk)
      (sym follow.2) (last_stands follow.0 events follow.1 follow.4 follow.3.stands)

  last_fits :
      (stage : Stage B) (stages : List (Stage B)) → Fits stage.world → AllFit Fits stages
      → Fits (last_stage stage stages).world
  last_fits stage [] fits all = fits
  last_fits stage (next ∷ later) fits all = last_fits next later all.0 all.1

  somewhere_last :
      (stage : Stage B) (events : List Event) (stages : List (Stage B)) → Follow g cuts station stage events stages
      → (image : List ℕ) → StandsFor station (last_stage stage stages).world image
      → StandsSomewhere station stage events stages image
  somewhere_last stage [] stages follow image stands =
      subst (λ (s : List (Stage B)). StandsFor station (last_stage stage s).world image) follow stands
  somewhere_last stage (event ∷ events) stages follow image stands =
      subst (λ (s : List (Stage B)). StandsSomewhere station stage (event ∷ events) s image) (sym follow.2)
      (inr
      (inr
      (somewhere_last follow.0 events follow.1 follow.4 image
      (subst (λ (s : List (Stage B)). StandsFor station (last_stage stage s).world image) follow.2 stands))))

  adds_last :
      (stage : Stage B) (events : List Event) (stages : List (Stage B)) (disk_now : B)
      → Follow g cuts station stage events stages → Fits stage.world → AllFit Fits stages
      → StandsNow g station stage.world stage.disk
      → StartsAgain g station (last_stage stage stages).disk disk_now
      → Adds (StandsFor station (last_stage stage stages).world) (last_stage stage stages).disk disk_now
  adds_last stage events stages disk_now follow fits fit stands again =
      let last = last_stands stage events stages follow stands in
      adds_again (last_stage stage stages).world (last_stage stage stages).disk disk_now last.content
      (last_fits stage stages fits fit) last.stands
      (of_told (g.content (last_stage stage stages).disk) last.content
      (λ content.
      LeavesOnly g.moment g.images_since (last_stage stage stages).disk disk_now (StandsAlike station content))
      last.is_content again.since)

  -- The same where the station starts once more from the last stage.
  pub images_to_end :
      (stage : Stage B) (events : List Event) (stages : List (Stage B)) (disk_now : B)
      → Follow g cuts station stage events stages → Fits stage.world → AllFit Fits stages
      → StandsNow g station stage.world stage.disk
      → StartsAgain g station (last_stage stage stages).disk disk_now
      → (image : List ℕ) → g.images_since disk_now (g.moment stage.disk) image
      → StandsSomewhere station stage events stages image
  images_to_end stage events stages disk_now follow fits fit stands again image since =
      let through = adds_through stage events stages follow fits fit stands in
      let ends = adds_last stage events stages disk_now follow fits fit stands again in
      elim (ends.each (g.moment stage.disk) image through.later since) [
        | inr stood ↦ somewhere_last stage events stages follow image stood
        | inl was ↦ images_through stage events stages follow fits fit stands image was
      ]
