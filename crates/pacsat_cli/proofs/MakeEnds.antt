-- A make of the octets that were loaded is one of the content of BODY, and their body is the one of the content of NAME.
use Rattle.std.proofs.Common.{◌≡◌, ℕ, ◌+◌, ◌<◌, ◌≤◌, List, length, refl, ap, sym, subst, ◌∙◌, inl, inr, arith, Bool, true, false}
use Rattle.std.specs.Prelude.{if◌then◌else◌}
use Rattle.std.specs.Option.{option_map}
use Rattle.px_base.specs.declared.shelf.ShelfRefusal.TheVariants as refusal
use Rattle.header_tool.specs.Bodies.{HasBody}
use Rattle.header_tool.specs.Built.{passing_len}
use Rattle.header_tool.specs.declared.refusal.MakeRefusal.{MakeRefusal}
use Rattle.header_tool.specs.declared.refusal.MakeRefusal.TheVariants as make
use Rattle.pacsat_cli.specs.declared.status.RefusedBy.TheVariants as by
use Rattle.pacsat_cli.proofs.Names.{Option, None, Some, IfSome, IsOkUnless, MatchOption, Ok, Err, nat_lt, leb_tells, Holding, Loads, content_of, ShelfRefusal, fault_code, IsMade, IsRefused, MakeValue, made_builder, make_refusal, or_long, Status, Done, Refused, Shelf, TooLong, BodyEnd, BodyRan, IsBodyOf, OctetsBody, body_fault, body_status, most_octets, FileKept, IsMadeOf, IsOrHindered, IsPossible, MakeEnd, MakeRan, OctetsMade, length_status, make_status, status_of_load}
use Rattle.pacsat_cli.proofs.Loading.{loaded, long, none}

-- what holds of the octets that were loaded holds of the content
told-of : (P : Option (List ℕ) → Type 0) (held : Option Holding) (name octets : List ℕ) → Loads held name most_octets (Ok octets) → P (Some octets) → IfSome held (λ shelf. P (content_of shelf name))
told-of P None name octets loads h = tt
told-of P (Some shelf) name octets loads h = subst P (sym (loaded most_octets (content_of shelf name) octets loads)) h

there : (held : Option Holding) (name octets : List ℕ) → Loads held name most_octets (Ok octets) → IfSome held (λ shelf. content_of shelf name ≡ Some octets)
there held name octets loads = told-of (λ content. content ≡ Some octets) held name octets loads refl

-- a make that ended with one kind of file ended with any that it implies,
ends-of : (IsFile Other : List ℕ → Type 0) → ((file : List ℕ) → IsFile file → Other file) → (name : List ℕ) (before now : Option Holding) (s : Status) → MakeEnd IsFile name before now s → MakeEnd Other name before now s
ends-of IsFile Other f name before now Done h = (h.0, f h.0 h.1, h.2)
ends-of IsFile Other f name before now Shelf h = elim h [ inl same ↦ inl same | inr kept ↦ inr (kept.0, f kept.0 kept.1, kept.2) ]
ends-of IsFile Other f name before now s h = h

-- and so does the keeping of a body
body_ends-of : (IsFile Other : List ℕ → Type 0) → ((file : List ℕ) → IsFile file → Other file) → (name : List ℕ) (before now : Option Holding) (s : Status) → BodyEnd IsFile name before now s → BodyEnd Other name before now s
body_ends-of IsFile Other f name before now (Refused (by.Fault code)) h = h
body_ends-of IsFile Other f name before now s h = ends-of IsFile Other f name before now s h

pub ran : (spec : MakeValue) (body name octets : List ℕ) (before now : Option Holding) (s : Status) → length octets ≤ most_octets → Loads before body most_octets (Ok octets) → OctetsMade spec octets name before now s → MakeRan spec body name before now s
ran spec body name octets before now s short loads made =
    let is_of : (file : List ℕ) → IsMade spec octets file → IsMadeOf spec body before file = λ file made. record { octets = octets; there = there before body octets loads; most = short; made = made } in
    record {
      ends = ends-of (IsMade spec octets) (IsMadeOf spec body before) is_of name before now s made.ends;
      told = told-of (λ content. IsOrHindered (make_status spec content) s) before body octets loads made.told;
    }

-- octets that aren't too long are refused by their first fault, or not
short_status : (octets : List ℕ) → length octets ≤ most_octets → body_status (Some octets) ≡ body_fault (fault_code octets)
short_status octets short = elim (leb_tells (length octets) most_octets) [
  | inl p ↦ rw p.0 refl
  | inr q ↦ let above = q.1 in absurd (omega (arith, short, above))
]

pub body-ran : (name kept octets : List ℕ) (before now : Option Holding) (s : Status) → length octets ≤ most_octets → Loads before name most_octets (Ok octets) → OctetsBody octets kept before now s → BodyRan name kept before now s
body-ran name kept octets before now s short loads made =
    let is_of : (body : List ℕ) → HasBody octets body → IsBodyOf name before body = λ body has. record { octets = octets; there = there before name octets loads; most = short; has = has } in
    let told : IsOrHindered (body_status (Some octets)) s = (let P : Status → Type 0 = λ t. IsOrHindered t s in subst P (sym (short_status octets short)) made.told) in
    record {
      ends = body_ends-of (HasBody octets) (IsBodyOf name before) is_of kept before now s made.ends;
      told = told-of (λ content. IsOrHindered (body_status content) s) before name octets loads told;
    }

-- the body of a file without a fault was kept, or the shelf failed
pub kept-body : (octets kept body : List ℕ) (before now : Option Holding) (s : Status) → HasBody octets body → fault_code octets ≡ None → FileKept kept body before now s → OctetsBody octets kept before now s
kept-body octets kept body before now s has fine (inl h) =
    let P : Status → Type 0 = λ t. OctetsBody octets kept before now t in
    subst P (sym h.0) (record { ends = (body, has, h.1); told = inl (sym (ap body_fault fine)) })
kept-body octets kept body before now s has fine (inr h) =
    let P : Status → Type 0 = λ t. OctetsBody octets kept before now t in
    subst P (sym h.0) (record { ends = inr (body, has, h.1); told = inr (0, omega arith, refl) })

-- where nothing was loaded, nothing was kept
long_status : (octets : List ℕ) → most_octets < length octets → body_status (Some octets) ≡ TooLong
long_status octets above = elim (leb_tells (length octets) most_octets) [
  | inl p ↦ let short = p.1 in absurd (omega (arith, short, above))
  | inr q ↦ rw q.0 refl
]

unloaded_told : (why : ShelfRefusal) (held : Option Holding) (name : List ℕ) → Loads held name most_octets (Err why) → IfSome held (λ shelf. IsOrHindered (body_status (content_of shelf name)) (status_of_load why))
unloaded_told why None name loads = tt
unloaded_told refusal.NoSuch (Some shelf) name loads = inl (sym (ap body_status (none most_octets (content_of shelf name) loads)))
unloaded_told refusal.TooLong (Some shelf) name loads = let h = long most_octets (content_of shelf name) loads in inl (sym (ap body_status h.1 ∙ long_status h.0 h.2))
unloaded_told refusal.Fault (Some shelf) name loads = inr (0, omega arith, refl)
unloaded_told refusal.OutOfMemory (Some shelf) name loads = inr (1, omega arith, refl)

unloaded_ends : (IsFile : List ℕ → Type 0) (kept : List ℕ) (held : Option Holding) (why : ShelfRefusal) → BodyEnd IsFile kept held held (status_of_load why)
unloaded_ends IsFile kept held refusal.NoSuch = refl
unloaded_ends IsFile kept held refusal.TooLong = refl
unloaded_ends IsFile kept held refusal.Fault = inl refl
unloaded_ends IsFile kept held refusal.OutOfMemory = refl

pub unloaded-ran : (name kept : List ℕ) (held : Option Holding) (why : ShelfRefusal) → Loads held name most_octets (Err why) → BodyRan name kept held held (status_of_load why)
unloaded-ran name kept held why loads = record { ends = unloaded_ends (IsBodyOf name held) kept held why; told = unloaded_told why held name loads }

-- a body that is too long for a file makes one that is too long
either_status : (a b : Bool) (header file : ℕ) → (b ≡ false → ⊥) → length_status (if a then Some header else if b then Some file else None) ≡ TooLong
either_status true b header file above = refl
either_status false true header file above = refl
either_status false false header file above = absurd (above refl)

above_most : (header body : ℕ) → most_octets < body → nat_lt 4194304 (header + body) ≡ false → ⊥
above_most header body above test = elim (leb_tells 4194305 (header + body)) [
  | inl p ↦ let yes = p.0 in cc
  | inr q ↦ let below = q.1 in omega (arith, above, below)
]

of_header : (header body : ℕ) → most_octets < body → length_status (if nat_lt 65535 header then Some header else if nat_lt 4194304 (header + body) then Some (header + body) else None) ≡ TooLong
of_header header body above = either_status (nat_lt 65535 header) (nat_lt 4194304 (header + body)) header (header + body) (above_most header body above)

long_make : (spec : MakeValue) (octets : List ℕ) → most_octets < length octets → make_status spec (Some octets) ≡ TooLong
long_make spec octets above = of_header _ (length octets) above

make_told : (why : ShelfRefusal) (held : Option Holding) (spec : MakeValue) (body : List ℕ) → Loads held body most_octets (Err why) → IfSome held (λ shelf. IsOrHindered (make_status spec (content_of shelf body)) (status_of_load why))
make_told why None spec body loads = tt
make_told refusal.NoSuch (Some shelf) spec body loads = inl (sym (ap (make_status spec) (none most_octets (content_of shelf body) loads)))
make_told refusal.TooLong (Some shelf) spec body loads = let h = long most_octets (content_of shelf body) loads in inl (sym (ap (make_status spec) h.1 ∙ long_make spec h.0 h.2))
make_told refusal.Fault (Some shelf) spec body loads = inr (0, omega arith, refl)
make_told refusal.OutOfMemory (Some shelf) spec body loads = inr (1, omega arith, refl)

make_ends : (IsFile : List ℕ → Type 0) (name : List ℕ) (held : Option Holding) (why : ShelfRefusal) → MakeEnd IsFile name held held (status_of_load why)
make_ends IsFile name held refusal.NoSuch = refl
make_ends IsFile name held refusal.TooLong = refl
make_ends IsFile name held refusal.Fault = inl refl
make_ends IsFile name held refusal.OutOfMemory = refl

pub unloaded-made : (spec : MakeValue) (body name : List ℕ) (held : Option Holding) (why : ShelfRefusal) → Loads held body most_octets (Err why) → MakeRan spec body name held held (status_of_load why)
unloaded-made spec body name held why loads = record { ends = make_ends (IsMadeOf spec body held) name held why; told = make_told why held spec body loads }

-- where no rule refuses the header, a file is refused by its length alone
by_length : (spec : MakeValue) (octets : List ℕ) → IsPossible spec → make_refusal spec octets ≡ option_map make.TooLong (passing_len (made_builder spec) octets)
by_length spec octets possible = ap (λ (r : Option MakeRefusal). or_long r (passing_len (made_builder spec) octets)) possible

fits : (len : Option ℕ) (file : List ℕ) → MatchOption (option_map make.TooLong len) (IsOkUnless (Ok file) make.OutOfMemory) (IsRefused (Ok file)) → Done ≡ length_status len
fits None file answer = refl
fits (Some len) file answer = absurd (elim answer [ inl e ↦ cc | inr e ↦ cc ])

passes : (len : Option ℕ) (why : MakeRefusal) (wanted : ℕ) → why ≡ make.TooLong wanted → MatchOption (option_map make.TooLong len) (why ≡ make.OutOfMemory) (IsRefused {T = List ℕ} (Err why)) → TooLong ≡ length_status len
passes None why wanted is answer = absurd (let e = sym is ∙ answer in cc)
passes (Some len) why wanted is answer = refl

-- the file that is made was kept, or the shelf failed
pub made-file : (spec : MakeValue) (octets name file : List ℕ) (before now : Option Holding) (s : Status) → IsPossible spec → MatchOption (make_refusal spec octets) (IsOkUnless (Ok file) make.OutOfMemory) (IsRefused (Ok file)) → IsMade spec octets file → FileKept name file before now s → OctetsMade spec octets name before now s
made-file spec octets name file before now s possible answer made kept =
    let Answered : Option MakeRefusal → Type 0 = λ r. MatchOption r (IsOkUnless (Ok file) make.OutOfMemory) (IsRefused (Ok file)) in
    let done = fits (passing_len (made_builder spec) octets) file (subst Answered (by_length spec octets possible) answer) in
    let Made : Status → Type 0 = λ t. OctetsMade spec octets name before now t in
    elim kept [
      | inl h ↦ subst Made (sym h.0) (record { ends = (file, made, h.1); told = inl done })
      | inr h ↦ subst Made (sym h.0) (record { ends = inr (file, made, h.1); told = inr (0, omega arith, refl) })
    ]

-- it would be too long
pub too_long-file : (spec : MakeValue) (octets name : List ℕ) (held : Option Holding) (why : MakeRefusal) (wanted : ℕ) → why ≡ make.TooLong wanted → IsPossible spec → MatchOption (make_refusal spec octets) (why ≡ make.OutOfMemory) (IsRefused {T = List ℕ} (Err why)) → OctetsMade spec octets name held held TooLong
too_long-file spec octets name held why wanted is possible answer =
    let Answered : Option MakeRefusal → Type 0 = λ r. MatchOption r (why ≡ make.OutOfMemory) (IsRefused {T = List ℕ} (Err why)) in
    record { ends = refl; told = inl (passes (passing_len (made_builder spec) octets) why wanted is (subst Answered (by_length spec octets possible) answer)) }
