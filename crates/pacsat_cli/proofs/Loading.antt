-- What a load of the shelf says of the content of a name.
use Rattle.std.proofs.Common.{◌≡◌, ℕ, ◌<◌, List, length, refl, ap, inl, inr, Bool, true, false}
use Rattle.std.specs.Prelude.{if◌then◌else◌}
use Rattle.px_base.specs.declared.shelf.ShelfRefusal.TheVariants as refusal
use Rattle.pacsat_cli.proofs.Names.{leb_tells, Option, None, Some, Ok, Err, nat_le, AnswersOf}

-- what was loaded is the content
loaded-some : (b : Bool) (content octets : List ℕ) → Ok octets ≡ (if b then Ok content else Err refusal.TooLong) → content ≡ octets
loaded-some true content octets e = cc
loaded-some false content octets e = absurd (cc)

pub loaded : (most : ℕ) (content : Option (List ℕ)) (octets : List ℕ) → AnswersOf content most (Ok octets) → content ≡ Some octets
loaded most None octets answer = absurd (elim answer [ inl e ↦ cc | inr hindered ↦ elim hindered [ inl e ↦ cc | inr e ↦ cc ] ])
loaded most (Some content) octets answer = elim answer [
  | inl e ↦ ap Some (loaded-some _ content octets e)
  | inr hindered ↦ absurd (elim hindered [ inl e ↦ cc | inr e ↦ cc ])
]

-- content of which a load says that it is too long is that
long-some : (most : ℕ) (b : Bool) (content : List ℕ) → nat_le (length content) most ≡ b → Err refusal.TooLong ≡ (if b then Ok content else Err refusal.TooLong) → most < length content
long-some most true content test e = absurd (cc)
long-some most false content test e = elim (leb_tells (length content) most) [ inl p ↦ absurd (let t = p.0 in cc) | inr q ↦ q.1 ]

pub long : (most : ℕ) (content : Option (List ℕ)) → AnswersOf content most (Err refusal.TooLong) → (octets : List ℕ) × (content ≡ Some octets) × (most < length octets)
long most None answer = absurd (elim answer [ inl e ↦ cc | inr hindered ↦ elim hindered [ inl e ↦ cc | inr e ↦ cc ] ])
long most (Some content) answer = elim answer [
  | inl e ↦ (content, refl, long-some most _ content refl e)
  | inr hindered ↦ absurd (elim hindered [ inl e ↦ cc | inr e ↦ cc ])
]

-- a name of which a load says that there is none has no content
none-some : (b : Bool) (content : List ℕ) → Err refusal.NoSuch ≡ (if b then Ok content else Err refusal.TooLong) → ⊥
none-some true content e = cc
none-some false content e = cc

pub none : (most : ℕ) (content : Option (List ℕ)) → AnswersOf content most (Err refusal.NoSuch) → content ≡ None
none most None answer = refl
none most (Some content) answer = absurd (elim answer [
  | inl e ↦ none-some _ content e
  | inr hindered ↦ elim hindered [ inl e ↦ cc | inr e ↦ cc ]
])
