-- What is ready on its disk stands there.
use Rattle.std.specs.Prelude.{◌≡◌}
use Rattle.std.proofs.Common.{subst}
use Rattle.client_notes.specs.State as notes
use Rattle.air_world.specs.Attempts.Party.{Party}
use Rattle.air_rehearsal.proofs.Names.{ℕ, List, false, true, Option, None, Some, IfSome, refl, IsTold, Ghosts, EachImage, images_now, Lists, PartyAt, World, StandsNow, client_at}

pub told_content : (content : Option (List ℕ)) → IsTold content → (octets : List ℕ) × (content ≡ Some octets)
told_content None told = absurd (let e : false ≡ true = told in cc)
told_content (Some octets) told = (octets, refl)

pub some_has : (content : Option (List ℕ)) (octets : List ℕ) (P : List ℕ → Type 0) → content ≡ Some octets
    → IfSome content P → P octets
some_has content octets P is has = subst (λ (c : Option (List ℕ)). IfSome c P) is has

module _ {D : Type 0} (g : Ghosts D) where
  -- Notes that each image stands for, on a disk that tells its content, which is one.
  pub notes_stand :
      (lists : Lists) (disk : D) (world : World) (c : ℕ) (party : Party) → IsTold (g.content disk)
      → IfSome (g.content disk) (images_now g disk)
      → EachImage g disk (λ image. notes.StandsFor image lists) → PartyAt world c party
      → lists ≡ party.client.lists → StandsNow g (client_at c) world disk
  notes_stand lists disk world c party told is_image each at lists_are =
      let content = told_content (g.content disk) told in
      let own : (image : List ℕ) → images_now g disk image
      → (it : Party) × PartyAt world c it × notes.StandsFor image it.client.lists = λ image since. (
        party,
        at,
        subst (λ (l : Lists). notes.StandsFor image l) lists_are
            (some_has (g.content disk) content.0 (λ _. (i : List ℕ) → images_now g disk i → notes.StandsFor i lists)
            content.1 each image since),
      ) in
      record {
        content = content.0;
        is_content = content.1;
        stands = own content.0 (some_has (g.content disk) content.0 (images_now g disk) content.1 is_image);
        images = own;
      }
