-- What an event of the server does to its disk, whether it is cut or not.
use Rattle.std.proofs.Common.{◌≡◌, ℕ, ◌<◌, ◌≤◌, Bool, true, false, List, [], ◌∷◌}
use Rattle.std.proofs.Common.{◌++◌, length, Option, None, Some, IfSome, Result, Ok, Err, refl, sym, ap, subst, ◌∙◌, inl, inr}
use Rattle.std.proofs.Common.{arith, length-append}
use Rattle.std.specs.Prelude.{◌&&◌, ◌||◌}
use Rattle.px_base.specs.Outside.{Rose}
use Rattle.disk_model.specs.CutLaws.{reads_stay}
use Rattle.file_journal.specs.AmongReads.{among_reads}
use Rattle.file_store.specs.State.{StandsFor}
use Rattle.file_store.specs.Working.{CutsOffAmongReads, DoesAmongReads}
use Rattle.air_rehearsal.proofs.Names.{CountsSome, is_ok, ⊤, cases_Bool, AtDisk, at, Arming, Cuts, Failed, FailsSo, LastsSo, Passes, UsesUp, cut_state, IsTold, Ghosts, DiskFault, Command, DropsNothing, after_all, EachImage, Leaves, TellsAlike, images_now, HasRoomFor, at_told, cut_makes, told_weaker, weaker, MakesBetween, MakesFirst, after_first, kept_at, IsReady, StoreState, store_form, store_on, Store, after_first-all, cuts-among-all, makes-first, makes-within, room_for, Failure, NoReadFails, failed_reads, failed_write, Hears, Server, ServerHappened, IsServer, ServerState, happening, NodeEvent, FrontOfEventLaw, MissesLaw, begun_in, NoneGone, World, StandsNow, least_done, the_server, IsSteady}
use Rattle.air_rehearsal.proofs.PartLemmas.{least_most}

pub told-content : (content : Option (List ℕ)) → IsTold content → (octets : List ℕ) × (content ≡ Some octets)
told-content None told = absurd (let no : false ≡ true = told in cc)
told-content (Some octets) told = (octets, refl)

pub missed-none : (before now missed : ℕ) → CountsSome before now missed → now ≡ before → before < 18446744073709551615
    → missed ≡ 0
missed-none before now missed counts same below = elim counts.rose [
  | inl rose ↦ omega (arith, rose, same)
  | inr last ↦ absurd (let no : ⊥ = omega (arith, last, same, below) in no)
]

-- the first of commands give no entry up, where none of them all does
drops-front : (some more : List Command) → DropsNothing (some ++ more) → DropsNothing some
drops-front [] more drops = tt
drops-front (command ∷ some) more drops = (drops.0, drops-front some more drops.1)

pub no-reads : NoReadFails []
no-reads part = refl

pub no-reads-at-write : (failing : ℕ) → NoReadFails (failed_write failing)
no-reads-at-write failing part = by _
  where
    by : (b : Bool) → ((b && false) || false) ≡ false
    by true = refl
    by false = refl

-- all commands of a list stand, and none more
all-made : (low : ℕ) (store : Store) (commands : List Command) (image : List ℕ) → low ≡ length commands
    → MakesBetween low (length commands) store commands image → StandsFor image (after_all store commands)
all-made low store commands image least made =
    let all : made.0 ≡ length commands = omega (arith, made.1, made.2, least) in
    subst (λ (s : Store). StandsFor image s)
    (ap (λ (n : ℕ). after_first n store commands) all ∙ after_first-all commands store) made.3

module _ {B : Type 0} (g : Ghosts B) where
  -- where none failed each image now stands for the store after all commands
  pub all-images :
      (missed : ℕ) (old new : StoreState) (disk disk_now : B) (commands : List Command)
      → DoesAmongReads g ⊥ missed old new disk disk_now commands → IsTold (g.content disk)
      → ((image : List ℕ) → images_now g disk image → StandsFor image (store_on g old disk))
      → (image : List ℕ) → images_now g disk_now image → StandsFor image (store_on g new disk_now)
  all-images missed old new disk disk_now [] does told before image now =
      let only = does.none refl in
      let then = (only.same_past (g.moment disk_now) image).0 now in
      let was = subst (λ (t : ℕ). g.images_since disk t image) only.same_moment then in
      subst (λ (s : Store). StandsFor image s) (sym ((does.done (λ never. never)).0 (inr told))) (before image was)
  all-images missed old new disk disk_now (command ∷ commands) does told before image now =
      let all = command ∷ commands in
      let is = told-content (g.content disk) told in
      let stay = at_told (λ (_ : List ℕ). _) is.0 is.1 (does.stay (λ never. never)) in
      let calls = at_told (λ (_ : List ℕ). _) is.0 is.1 (does.calls (λ never. never)) in
      let made = stay (length all) (omega arith) (omega arith) image
      (subst (λ (t : ℕ). g.images_since disk_now t image) calls now) in
      subst (λ (s : Store). StandsFor image s) (sym ((does.done (λ never. never)).0 (inr told)))
      (all-made (length all) (store_on g old disk) all image refl made)

  -- the commands before are the first of these
  pub leaves-more :
      (store : Store) (these more all : List Command) (disk disk_now : B) → all ≡ these ++ more
      → Leaves g disk disk_now (λ _. MakesFirst store these) → Leaves g disk disk_now (λ _. MakesFirst store all)
  leaves-more store these more all disk disk_now same leaves =
      subst (λ (c : List Command). Leaves g disk disk_now (λ _. MakesFirst store c)) (sym same)
      (told_weaker (g.content disk) _ _
      (λ before is left. weaker g.moment g.images_since disk disk_now (MakesFirst store these)
      (MakesFirst store (these ++ more))
      (λ image made. makes-within 0 (length these) 0 (length (these ++ more)) store (these ++ more) image
      (omega arith) (omega (arith, length-append these more))
      (makes-first 0 (length these) store these more image (omega arith) made)) left) leaves)

  module _ (is_image : (disk : B) → IfSome (g.content disk) (g.images disk))
      (counts_now : (disk : B) (t : ℕ) (image : List ℕ) → t ≤ g.moment disk → g.images disk image
      → g.images_since disk t image) where
    -- the disk stands for the world of whose store each image is
    pub stands-now :
        (world : World) (disk : B) → IsTold (g.content disk)
        → ((image : List ℕ) → images_now g disk image → StandsFor image world.server.store)
        → StandsNow g the_server world disk
    stands-now world disk told each =
        let is = told-content (g.content disk) told in
        record {
          content = is.0;
          is_content = is.1;
          stands =
              each is.0
              (counts_now disk (g.moment disk) is.0 (omega arith)
              (at_told (λ (octets : List ℕ). g.images disk octets) is.0 is.1 (is_image disk)));
          images = each;
        }

  -- what became of the server and its disk where the event was taken whole
  pub record WentWhole (it : Server) (coming : NodeEvent) (old new : ServerState) (disk disk_now : B) : Type 0 where
    pub is : IsServer (store_on g new.store disk_now) new (happening it coming []).after
    pub does : DoesAmongReads g ⊥ 0 old.store new.store disk disk_now (happening it coming []).done

  pub went-whole :
      (misses : MissesLaw) (it : Server) (coming : NodeEvent) (old new : ServerState) (disk disk_now : B)
      (answer : Result ⊤ DiskFault) → is_ok answer ≡ true → g.read_faults disk < 18446744073709551615
      → Hears g (happening it coming) old new disk disk_now answer
      → (((missed : ℕ) (commands : List Command)
      → DoesAmongReads g ⊥ missed old.store new.store disk disk_now commands
      → g.read_faults disk_now ≡ g.read_faults disk)) → WentWhole it coming old new disk disk_now
  went-whole misses it coming old new disk disk_now (Err stop) ok below hears same = absurd cc
  went-whole misses it coming old new disk disk_now (Ok done) ok below hears same =
      let by = hears.by in
      let event : List Failure → ServerHappened = happening it coming in
      let none = missed-none _ _ _ by.2.reads (same _ _ by.2) below in
      let is : event (failed_reads hears.parts) ≡ event [] = misses it coming [] hears.parts no-reads none in
      record {
        is = subst (λ (h : ServerHappened). IsServer (store_on g new.store disk_now) new h.after) is by.1;
        does = subst
            (λ (h : ServerHappened). DoesAmongReads g ⊥ 0 old.store new.store disk disk_now h.done) is
            (subst
            (λ (n : ℕ). DoesAmongReads g ⊥ n old.store new.store disk disk_now (event (failed_reads hears.parts)).done)
            none by.2);
      }

module _ {B : Type 0} (g : Ghosts B) (cuts : Cuts B)
    (lasts_so : (old new : B) → g.lasts old new → LastsSo (cut_state g cuts old) (cut_state g cuts new)) where
  -- a steady disk counts no fault
  pub steady-on :
      (old new : B) → IsSteady g cuts old → cuts.is_starved new ≡ false → g.lasts old new
      → TellsAlike (g.content old) (g.content new)
      → IsSteady g cuts new × (g.read_faults new ≡ g.read_faults old)
  steady-on old new steady memory lasts told =
      let so = lasts_so old new lasts in
      let used = subst
      (λ (a : Arming). UsesUp a (cut_state g cuts old).use_of (cut_state g cuts new).use_of) steady.unarmed
      (so.uses steady.plain memory) in (
        record {
          told = told.1 steady.told;
          plain = so.plain.1 steady.plain;
          unarmed = used.0;
          memory = memory;
          reads = omega (arith, used.1.reads, steady.reads);
        },
        used.1.reads,
      )

  memory-before : (old new : B) → g.lasts old new → cuts.is_starved new ≡ false → cuts.is_starved old ≡ false
  memory-before old new lasts memory = elim (cases_Bool (cuts.is_starved old)) [
    | inl starved ↦ absurd (let no : true ≡ false = sym ((lasts_so old new lasts).starved starved) ∙ memory in cc)
    | inr not ↦ not
  ]

  -- What became of the disk, armed for a cut so that so many calls pass, where an event with these commands came to an
  -- end or was stopped by it.
  pub record WentCut (calls : ℕ) (store : Store) (commands : List Command) (armed lost : B) : Type 0 where
    pub since : Leaves g armed lost (λ _. MakesFirst store commands)
    pub told : TellsAlike (g.content armed) (g.content lost)
    pub lasts : g.lasts armed lost
    pub reads : g.read_faults lost ≡ g.read_faults armed
    pub no_fewer :
        g.write_faults lost < 18446744073709551615 → (image : List ℕ) → images_now g lost image
        → MakesBetween (least_done (cuts.arming lost) calls Store Command store_form commands) (length commands) store commands image

  module _ (on : (first second third : B) → g.lasts first second → g.lasts second third → g.lasts first third)
      (misses : MissesLaw) (front : FrontOfEventLaw) (it : Server) (coming : NodeEvent) (old new : ServerState)
      (armed lost : B) (left_calls : ℕ) (plain : cuts.plain armed) (arming : cuts.arming armed ≡ Passes left_calls)
      (writes : g.write_faults armed < 18446744073709551615) (reads : g.read_faults armed < 18446744073709551615)
      (memory : cuts.is_starved lost ≡ false) (told : IsTold (g.content armed))
      (stands : (image : List ℕ) → images_now g armed image → StandsFor image (store_on g old.store armed))
      (ready : IsReady g old.store armed) (none_gone : NoneGone (store_on g old.store armed))
      (drops : DropsNothing (happening it coming []).done) where
    abbrev event : List Failure → ServerHappened
    event = happening it coming

    -- no read failed up to a disk behind no write that failed
    reads-same :
        (mid : B) → g.lasts armed mid → cuts.is_starved mid ≡ false → g.write_faults mid ≡ g.write_faults armed
        → g.read_faults mid ≡ g.read_faults armed
    reads-same mid lasts fed same =
        reads_stay (cuts.arming armed) (cut_state g cuts armed).use_of (cut_state g cuts mid).use_of
        ((lasts_so armed mid lasts).uses plain fed)
        (λ failed. let no : Passes left_calls ≡ Failed = sym arming ∙ failed in cc) writes same

    went-ok :
        (parts : List ℕ) → (missed : ℕ) → missed ≡ (event (failed_reads parts)).missed
        → DoesAmongReads g ⊥ missed old.store new.store armed lost (event (failed_reads parts)).done
        → WentCut left_calls (store_on g old.store armed) (event []).done armed lost
    went-ok parts missed missed_is does =
        let same = reads-same lost does.puts.lasts memory (does.puts.faults.same (λ never. never)) in
        let none = missed-none _ _ _ does.reads same reads in
        let is : event (failed_reads parts) ≡ event [] = misses it coming [] parts no-reads (sym missed_is ∙ none) in
        let does_now = subst
        (λ (h : ServerHappened). DoesAmongReads g ⊥ missed old.store new.store armed lost h.done) is does in
        record {
          since = does_now.since;
          told = does.puts.told;
          lasts = does.puts.lasts;
          reads = same;
          no_fewer = λ below image now.
              let commands : List Command = (event []).done in
              let all : StandsFor image (after_all (store_on g old.store armed) commands) =
              subst (λ (s : Store). StandsFor image s) ((does_now.done (λ never. never)).0 (inr told))
              (all-images g missed old.store new.store armed lost commands does_now told stands image now) in
              let few = least_most store_form (cuts.arming lost) left_calls commands in (
                length commands,
                few,
                omega arith,
                subst
                    (λ (s : Store). StandsFor image s)
                    (sym (after_first-all commands (store_on g old.store armed))) all,
              );
        }

    -- a write failed by the arming, behind the calls that were to pass
    failed-so :
        (then : B) → g.lasts armed lost → g.write_faults then ≡ g.write_faults armed
        → Rose (g.write_faults then) (g.write_faults lost)
        → FailsSo left_calls (cut_state g cuts armed).use_of (cut_state g cuts lost).use_of
    failed-so then lasts same rose =
        let used = subst
        (λ (a : Arming). UsesUp a (cut_state g cuts armed).use_of (cut_state g cuts lost).use_of) arming
        ((lasts_so armed lost lasts).uses plain memory) in
        elim used [
          | inl on ↦
              let more = rose (omega (arith, same, writes)) in
              absurd (let no : ⊥ = omega (arith, more, on.faults.writes, same) in no)
          | inr fails ↦ fails
        ]

    went-failed :
        (part : ℕ) (parts : List ℕ) (missed : ℕ) (happened : ServerHappened)
        → happened ≡ event (failed_write part ++ failed_reads parts) → missed ≡ happened.missed
        → CutsOffAmongReads g ⊤ missed (at old.store armed) (at new.store lost) happened.done happened.cut
        → WentCut left_calls (store_on g old.store armed) (event []).done armed lost
    went-failed part parts missed happened happened_is missed_is cut =
        let then : AtDisk StoreState B = cut.then_is in
        let fed = memory-before then.disk lost cut.second.puts.lasts memory in
        let same_writes = cut.first.puts.faults.same (λ never. never) in
        let same = reads-same then.disk cut.first.puts.lasts fed same_writes in
        let none = missed-none _ _ _ cut.first.reads same reads in
        let none_told : (event (failed_write part ++ failed_reads parts)).missed ≡ 0 =
        ap (λ (h : ServerHappened). h.missed) (sym happened_is) ∙ sym missed_is ∙ none in
        let is : happened ≡ event (failed_write part) =
        happened_is ∙ misses it coming (failed_write part) parts (no-reads-at-write part) none_told in
        let begins = front it coming (failed_write part) (no-reads-at-write part) in
        let all = cuts-among-all g on ⊤ missed (at old.store armed) (at new.store lost) happened.done happened.cut cut
        in
        let commands : (event []).done ≡ begun_in happened ++ begins.0 =
        begins.1 ∙ ap (λ (h : ServerHappened). begun_in h ++ begins.0) (sym is) in
        let content = told-content (g.content armed) told in
        let room : HasRoomFor store_form old.store.journal (begun_in happened) =
        room_for g old.store armed ready content.0 content.1 none_gone (begun_in happened) (all.allowed (inr told))
        (drops-front (begun_in happened) begins.0 (subst DropsNothing commands drops)) in
        record {
          since =
              leaves-more g (store_on g old.store armed) (begun_in happened) begins.0 (event []).done armed lost commands
              all.since;
          told = all.puts.told;
          lasts = all.puts.lasts;
          reads = cut.second.reads.same refl ∙ same;
          no_fewer = λ below image now.
              let fails = failed-so then.disk all.puts.lasts same_writes (cut.second.puts.faults.rose tt) in
              let makes = cut_makes g store_form (among_reads g ⊤ missed) ⊤ (begun_in happened) begins.0 (kept_at g old.store armed)
              (kept_at g new.store lost) left_calls tt room all fails.passed in
              let last = told-content (g.content lost) (all.puts.told.1 told) in
              let each = at_told
              (λ (_ : List ℕ). EachImage g lost (MakesBetween
              (least_done Failed left_calls Store Command store_form (begun_in happened ++ begins.0))
              (length (begun_in happened ++ begins.0)) (store_on g old.store armed) (begun_in happened ++ begins.0)))
              content.0 content.1 makes in
              let here = at_told
              (λ (_ : List ℕ). (image : List ℕ) → images_now g lost image → MakesBetween
              (least_done Failed left_calls Store Command store_form (begun_in happened ++ begins.0))
              (length (begun_in happened ++ begins.0)) (store_on g old.store armed) (begun_in happened ++ begins.0) image) last.0
              last.1 each image now in
              subst
              (λ (a : Arming). MakesBetween (least_done a left_calls Store Command store_form (event []).done) (length (event []).done)
              (store_on g old.store armed) (event []).done image) (sym fails.failed)
              (subst
              (λ (all : List Command). MakesBetween (least_done Failed left_calls Store Command store_form all) (length all)
              (store_on g old.store armed) all image) (sym commands) here);
        }

    pub went-cut :
        (answer : Result ⊤ DiskFault) → Hears g (happening it coming) old new armed lost answer
        → WentCut left_calls (store_on g old.store armed) (event []).done armed lost
    went-cut (Ok done) hears = went-ok hears.parts _ refl hears.by.2
    went-cut (Err fault) hears = let by = hears.by in went-failed by.0 hears.parts _ _ refl refl by.3
