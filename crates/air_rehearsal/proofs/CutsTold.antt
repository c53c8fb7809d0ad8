-- What a disk tells of its power cuts follows from its stages.
use Rattle.std.specs.Prelude.{◌≡◌, ◌∷◌, ◌++◌}
use Rattle.std.proofs.Common.{sym, ap, ◌∙◌, subst, append_assoc, append-nil}
use Rattle.air_rehearsal.specs.Standing.{StandsFor}
use Rattle.air_rehearsal.proofs.Names.{ℕ, List, [], map, true, false, Option, None, Some, IfSome, refl, option_map, Cuts, LastsSo, cut_state, IsTold, Ghosts, Event, World, Follow, IsCutOff, Stage, StepBy, last_stage, StandInTurn, Role, Station, acts, breaks_off, cut_worlds, looks_on, role_of, waiting_after, will_be_cut, with_cut}

stand_more :
    (station : Station) (world : World) (content : List ℕ) (worlds : List World) (contents : List (List ℕ))
    → StandsFor station world content → StandInTurn station worlds contents
    → StandInTurn station (worlds ++ world ∷ []) (contents ++ content ∷ [])
stand_more station world content [] [] stands turn = (stands, tt)
stand_more station world content [] (first ∷ contents) stands turn = absurd turn
stand_more station world content (first ∷ worlds) [] stands turn = absurd turn
stand_more station world content (first ∷ worlds) (one ∷ contents) stands turn =
    (turn.0, stand_more station world content worlds contents stands turn.1)

tells_more :
    (station : Station) (world : World) (content : List ℕ) (worlds : List World) (told : Option (List (List ℕ)))
    → StandsFor station world content → IfSome told (StandInTurn station worlds)
    → IfSome (option_map (λ all. all ++ content ∷ []) told) (StandInTurn station (worlds ++ world ∷ []))
tells_more station world content worlds None stands turn = tt
tells_more station world content worlds (Some all) stands turn =
    stand_more station world content worlds all stands turn

both_of :
    (content : Option (List ℕ)) (P Q : List ℕ → Type 0) → IsTold content → IfSome content P → IfSome content Q
    → (octets : List ℕ) × P octets × Q octets
both_of None P Q told first second = absurd (let e : false ≡ true = told in cc)
both_of (Some octets) P Q told first second = (octets, first, second)

cut_then :
    (role : Role) (waiting : Option ℕ) (world : World) (later : List World)
    → with_cut role waiting world later ≡ with_cut role waiting world [] ++ later
cut_then acts None world later = refl
cut_then acts (Some call) world later = refl
cut_then breaks_off waiting world later = refl
cut_then (will_be_cut call) waiting world later = refl
cut_then looks_on waiting world later = refl

module _ {B : Type 0} (g : Ghosts B) (cuts : Cuts B)
    (lasts_so : (old new : B) → g.lasts old new → LastsSo (cut_state g cuts old) (cut_state g cuts new))
    (station : Station) where
  -- where the disk tells its restarts, they stand for what the station keeps in these worlds
  abbrev pub Tells : List World → B → Type 0
  Tells worlds disk = IfSome (cuts.restarts disk) (StandInTurn station worlds)

  tells_same :
      (worlds : List World) (old new : B) → cuts.restarts new ≡ cuts.restarts old → Tells worlds old
      → Tells (worlds ++ []) new
  tells_same worlds old new same tells =
      subst (λ (w : List World). Tells w new) (sym (append-nil worlds))
      (subst (λ (r : Option (List (List ℕ))). IfSome r (StandInTurn station worlds)) (sym same) tells)

  tells_cut :
      (call : ℕ) (old : Stage B) (event : Event) (new : Stage B) (seen : List World)
      → IsCutOff g cuts station call old event new → IsTold (g.content old.disk) → Tells seen old.disk
      → Tells (seen ++ new.world ∷ []) new.disk
  tells_cut call old event new seen is told tells =
      let armed : IsTold (g.content is.armed) =
      subst (λ (c : Option (List ℕ)). IsTold c) (sym is.arms.nothing_else.same_content) told in
      let left : IsTold (g.content is.left) = is.keeps.told.1 (is.carries.told.1 armed) in
      let both = both_of (g.content is.left) _ _ left is.stands is.loses.restarted in
      let kept : cuts.restarts is.lost ≡ cuts.restarts old.disk =
      (lasts_so is.armed is.lost is.carries.lasts).restarts ∙ is.arms.restarts in
      let now : cuts.restarts new.disk
      ≡ option_map (λ all. all ++ both.0 ∷ []) (cuts.restarts old.disk) =
      (lasts_so is.left new.disk is.again.lasts).restarts ∙ both.2
      ∙ ap (λ (r : Option (List (List ℕ))). option_map (λ all. all ++ both.0 ∷ []) r) kept in
      subst (λ (r : Option (List (List ℕ))). IfSome r (StandInTurn station (seen ++ new.world ∷ []))) (sym now)
      (tells_more station new.world both.0 seen (cuts.restarts old.disk) both.1 tells)

  tells_step :
      (role : Role) (waiting : Option ℕ) (old : Stage B) (event : Event) (new : Stage B) (seen : List World)
      → StepBy g cuts station role waiting old event new → IsTold (g.content old.disk) → Tells seen old.disk
      → Tells (seen ++ with_cut role waiting new.world []) new.disk
  tells_step acts None old event new seen does told tells =
      tells_same seen old.disk new.disk (lasts_so old.disk new.disk does.lasts).restarts tells
  tells_step acts (Some call) old event new seen does told tells = tells_cut call old event new seen does told tells
  tells_step breaks_off waiting old event new seen does told tells =
      tells_same seen old.disk new.disk (lasts_so old.disk new.disk does.lasts).restarts tells
  tells_step (will_be_cut call) waiting old event new seen does told tells =
      tells_same seen old.disk new.disk (ap cuts.restarts does) tells
  tells_step looks_on waiting old event new seen does told tells =
      tells_same seen old.disk new.disk (ap cuts.restarts does) tells

  cuts_join :
      (stage : Stage B) (event : Event) (next : Stage B) (seen : List World) (events : List Event)
      (worlds : List World) → next.waiting ≡ waiting_after (role_of station event) stage.waiting
      → (seen ++ with_cut (role_of station event) stage.waiting next.world [])
      ++ cut_worlds station next.waiting events worlds
      ≡ seen ++ cut_worlds station stage.waiting (event ∷ events) (next.world ∷ worlds)
  cuts_join stage event next seen events worlds waiting =
      ap
      (λ (w : Option ℕ).
      (seen ++ with_cut (role_of station event) stage.waiting next.world []) ++ cut_worlds station w events worlds)
      waiting
      ∙ append_assoc seen (with_cut (role_of station event) stage.waiting next.world [])
      (cut_worlds station (waiting_after (role_of station event) stage.waiting) events worlds)
      ∙ ap (λ (w : List World). seen ++ w)
      (sym
      (cut_then (role_of station event) stage.waiting next.world
      (cut_worlds station (waiting_after (role_of station event) stage.waiting) events worlds)))

  -- Over these events the disk tells the cuts of the station, behind those that it told before.
  pub tells_all :
      (stage : Stage B) (events : List Event) (stages : List (Stage B)) (seen : List World)
      → Follow g cuts station stage events stages → IsTold (g.content stage.disk) → Tells seen stage.disk
      → Tells
      (seen ++ cut_worlds station stage.waiting events (map (λ (it : Stage B). it.world) stages))
      (last_stage stage stages).disk
  tells_all stage [] stages seen follow told tells =
      subst
      (λ (s : List (Stage B)).
      Tells (seen ++ cut_worlds station stage.waiting [] (map (λ (it : Stage B). it.world) s))
      (last_stage stage s).disk)
      (sym follow) (tells_same seen stage.disk stage.disk refl tells)
  tells_all stage (event ∷ events) stages seen follow told tells =
      let told_next : IsTold (g.content follow.0.disk) =
      subst (λ (c : Option (List ℕ)). IsTold c) (sym follow.3.stands.is_content) refl in
      let next = tells_step (role_of station event) stage.waiting stage event follow.0 seen follow.3.does told tells in
      let rest = tells_all follow.0 events follow.1
      (seen ++ with_cut (role_of station event) stage.waiting follow.0.world []) follow.4 told_next next in
      subst
      (λ (s : List (Stage B)).
      Tells (seen ++ cut_worlds station stage.waiting (event ∷ events) (map (λ (it : Stage B). it.world) s))
      (last_stage stage s).disk)
      (sym follow.2)
      (subst (λ (w : List World). Tells w (last_stage follow.0 follow.1).disk)
      (cuts_join stage event follow.0 seen events (map (λ (it : Stage B). it.world) follow.1) follow.3.waiting_is)
      rest)
