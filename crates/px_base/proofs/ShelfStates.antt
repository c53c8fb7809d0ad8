-- Lemmas on shelves in memory: what a map by names holds, as a list of names and contents.
use Rattle.std.proofs.Common.{◌≡◌, ℕ, cond, List, [], ◌∷◌, Some, refl, sym, ap, ◌∙◌, String}
use Rattle.std.specs.Map.{lookup}
use Rattle.std.specs.BTreeMap.{BTreeMap, Updates, is_at}
use Rattle.std.specs.Cmp.Lexicographic.{slice_cmp}
use Rattle.std.specs.Ordering.{nat_cmp}
use Rattle.std.specs.String.{string_bytes, string_cmp}
use Rattle.std.proofs.lemmas.Map.Text.{is_eq-slice_cmp, btree_map_updates_text}
use Rattle.std.proofs.lemmas.Bool.{false_from_ne_true}
use Rattle.std.proofs.lemmas.Slice.Eq.{bytes_eq-Decides}
use Rattle.px_base.specs.ShelfForms.{holding_of}
use Rattle.px_base.specs.Shelves.{SameOthers, content_of}
use Rattle.px_base.proofs.Names.{bytes_eq}

-- the content of a name is what the map has there
pub content_of-holding_of :
    {Y : Type 0} (entries : List (String Y × List ℕ)) (name : List ℕ)
    → content_of (holding_of entries) name ≡ lookup (is_at (λ k. slice_cmp nat_cmp name (string_bytes k))) entries
content_of-holding_of [] name = refl
content_of-holding_of (entry ∷ entries) name =
    ap (λ b. cond b (Some entry.1) (content_of (holding_of entries) name)) (sym (is_eq-slice_cmp name (string_bytes entry.0)))
    ∙ ap (λ r. cond (is_at (λ k. slice_cmp nat_cmp name (string_bytes k)) entry.0) (Some entry.1) r) (content_of-holding_of entries name)

-- what is known of a look-up by name
pub ruleset held_names = (content_of-holding_of)

-- after an entry is set: the content of each name
pub content_of-set :
    {Y : Type 0} (before now : BTreeMap (String Y) (List ℕ)) (key : String Y) (content : List ℕ)
    → Updates string_cmp before now key (Some content) → (name : List ℕ)
    → content_of (holding_of now.entries) name
    ≡ cond (bytes_eq (string_bytes key) name) (Some content) (content_of (holding_of before.entries) name)
content_of-set before now key content set name =
    content_of-holding_of now.entries name
    ∙ btree_map_updates_text (string_bytes key) before now (Some content) set name
    ∙ ap (λ r. cond (bytes_eq (string_bytes key) name) (Some content) r) (sym (content_of-holding_of before.entries name))

-- it is this content under that name
pub content_of-set_same :
    {Y : Type 0} (before now : BTreeMap (String Y) (List ℕ)) (key : String Y) (content name : List ℕ)
    → string_bytes key ≡ name → Updates string_cmp before now key (Some content)
    → content_of (holding_of now.entries) name ≡ Some content
content_of-set_same before now key content name named set =
    content_of-set before now key content set name
    ∙ ap (λ b. cond b (Some content) (content_of (holding_of before.entries) name)) ((bytes_eq-Decides (string_bytes key) name).1 named)

-- and that of each other name stays
pub content_of-set_other :
    {Y : Type 0} (before now : BTreeMap (String Y) (List ℕ)) (key : String Y) (content name : List ℕ)
    → string_bytes key ≡ name → Updates string_cmp before now key (Some content)
    → SameOthers (holding_of before.entries) (holding_of now.entries) name
content_of-set_other before now key content name named set other differs =
    content_of-set before now key content set other
    ∙ ap (λ b. cond b (Some content) (content_of (holding_of before.entries) other))
    (false_from_ne_true (bytes_eq (string_bytes key) other) (λ e. differs (sym ((bytes_eq-Decides (string_bytes key) other).0 e) ∙ named)))
