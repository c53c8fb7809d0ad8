-- What a checker stands for: the octets that it was fed.
use Rattle.std.specs.Prelude.{◌≡◌, ℕ, ◌+◌, ◌<◌, ◌==◌, List, [], ◌∷◌, ◌++◌, length, if◌then◌else◌, take}
use Rattle.px_base.specs.Numbers.{sum16}
use Rattle.px_base.specs.Octets.{IsOctets}
use Rattle.pfh_items.specs.Faults.{BeginsHeader}
use Rattle.pfh_items.specs.Layout.{ItemValue, AreItems, items_text, end_item, header_start, FileText}
use Rattle.pfh_items.specs.Walk.{item_len}
use Rattle.pfh_reader.specs.declared.claims.Claims.{Claims}
use Rattle.pfh_reader.specs.declared.measures.Measures.{Measures}
use Rattle.pfh_reader.specs.declared.checker.Stage.{Stage}
use Rattle.pfh_reader.specs.declared.checker.Stage.TheVariants.{Nothing, Begun, NoHeader, Items, Body}
use Rattle.pfh_reader.specs.Claims.{IsClaims}
use Rattle.pfh_reader.specs.Measures.{IsMeasured}

-- what contracts see of a checker: where it is, the octets of the item that is cut, and what it keeps of all others
pub record CheckerValue : Type 0 where
  pub stage : Stage
  pub held : List ℕ
  pub claims : Claims
  pub measures : Measures

-- how many octets it was fed
abbrev pub fed_len : CheckerValue → ℕ
fed_len checker = checker.measures.file_len

-- octets of an item that is cut: less than the item has that begins so
pub record IsCutItem (held : List ℕ) : Type 0 where
  pub short : length held < item_len held
  pub octets : IsOctets held

-- What is kept before the first item: of no items, and of these octets.
pub record StandsBefore (checker : CheckerValue) (fed : List ℕ) : Type 0 where
  pub held : checker.held ≡ []
  pub claims : IsClaims [] checker.claims
  pub header_sum : checker.measures.header_sum ≡ sum16 fed
  pub body_sum : checker.measures.body_sum ≡ 0

-- What is kept among the items: AA 55, these items, and the octets of one that is cut.
pub record StandsAmong (checker : CheckerValue) (fed : List ℕ) (items : List ItemValue) : Type 0 where
  pub are_items : AreItems items
  pub text : fed ≡ header_start ++ (items_text items ++ checker.held)
  pub cut : IsCutItem checker.held
  pub claims : IsClaims items checker.claims
  pub header_sum : checker.measures.header_sum ≡ sum16 fed
  pub body_sum : checker.measures.body_sum ≡ 0

-- What is kept behind the header: of its items, and of the octets of header and body.
pub record StandsBehind (checker : CheckerValue) (fed : List ℕ) (items : List ItemValue) (body : List ℕ) : Type 0 where
  pub file_text : FileText items body fed
  pub claims : IsClaims items checker.claims
  pub measures : IsMeasured items body checker.measures

-- What the octets are in each stage: none; AA alone; octets that begin no header whatever follows; those of a header
-- that is cut; those of a header and of what there is of the body.
abbrev pub StandsAt : Stage → CheckerValue → List ℕ → Type 0
StandsAt Nothing checker fed = (fed ≡ []) × StandsBefore checker fed
StandsAt Begun checker fed = (fed ≡ 0xAA ∷ []) × StandsBefore checker fed
StandsAt NoHeader checker fed = (more : List ℕ) → BeginsHeader (fed ++ more) → ⊥
StandsAt Items checker fed = (items : List ItemValue) × StandsAmong checker fed items
StandsAt Body checker fed = (items : List ItemValue) × (body : List ℕ) × StandsBehind checker fed items body

-- these are the octets that the checker was fed
pub record HasFed (checker : CheckerValue) (fed : List ℕ) : Type 0 where
  pub count : fed_len checker ≡ length fed
  pub stands : StandsAt checker.stage checker fed

-- New was fed these octets more than old.
abbrev pub Extends : CheckerValue → CheckerValue → List ℕ → Type 0
Extends old new more = (fed : List ℕ) → HasFed old fed → HasFed new (fed ++ more)

-- So many octets were taken from the front of these: new was fed them more than old.
pub record Takes (old new : CheckerValue) (octets : List ℕ) (count : ℕ) : Type 0 where
  pub fed : Extends old new (take count octets)
  pub len : fed_len new ≡ fed_len old + count

-- how far a checker has come after an octet of AA 55, or one in their place
abbrev pub stage_after : Stage → ℕ → Stage
stage_after Nothing octet = if octet == 0xAA then Begun else NoHeader
stage_after Begun octet = if octet == 0x55 then Items else NoHeader
stage_after NoHeader octet = NoHeader
stage_after Items octet = NoHeader
stage_after Body octet = NoHeader

-- what is kept of items, with more of them
abbrev pub KeepsClaims : List ItemValue → Claims → Claims → Type 0
KeepsClaims more old new = (items : List ItemValue) → IsClaims items old → IsClaims (items ++ more) new

-- The octets are those of items that are taken, and then those that are left.
abbrev pub TakesItems : List ℕ → List ℕ → Claims → Claims → Type 0
TakesItems octets left old new =
    (more : List ItemValue) × AreItems more × (octets ≡ items_text more ++ left) × KeepsClaims more old new

-- The octets are those of items that are taken, and then the end item.
abbrev pub TakesEnd : List ℕ → Claims → Claims → Type 0
TakesEnd octets old new =
    (more : List ItemValue) × AreItems more × (octets ≡ items_text more ++ end_item) × KeepsClaims more old new
