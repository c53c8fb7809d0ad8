-- Whether it is known what octets the store's files have.
use Rattle.std.proofs.Common.{◌≡◌, ◌⊎◌, inl, inr, ℕ, List, Option, None, Some, refl}
use Rattle.disk_model.specs.Disk.{IsTold}
use Rattle.file_store.specs.Layout.TheVariants as layout
use Rattle.ftl0_server.proofs.Names.{Ghosts, IsKnown, store_form}

-- what is known of a disk of this content
abbrev Knows : Option (List ℕ) → Type 0
Knows content = (store_form.layout ≡ layout.Growing) ⊎ IsTold content

-- it is, or it isn't
knows-or-not : (content : Option (List ℕ)) → Knows content ⊎ ¬ Knows content
knows-or-not (Some octets) = inl (inr refl)
knows-or-not None = inr neither
  where
    neither : Knows None → ⊥
    neither (inl growing) = cc growing
    neither (inr told) = cc told

pub known-or-not : {D : Type 0} (g : Ghosts D) (disk : D) → IsKnown g disk ⊎ ¬ IsKnown g disk
known-or-not g disk = knows-or-not (g.content disk)
