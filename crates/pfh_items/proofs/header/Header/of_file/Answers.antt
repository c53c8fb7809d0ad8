-- A file is cut behind the end item.
use Rattle.std.proofs.Common.{◌≡◌, ◌<◌, ◌+◌, ◌-◌, ℕ, List, length, get_or, take, true, Some, drop, sym, ap, ◌∙◌, subst, arith}
use Rattle.pfh_items.proofs.Names.{take_rest, Stop, EndItem, begins_header, file_parts, ItemValue, HeaderValue, HeaderText, FileText, ItemList, items_from}
use Rattle.pfh_items.proofs.WalkLemmas.{IsOctets-slice}
use Rattle.pfh_items.proofs.HeaderLemmas.{IsCutAt, parts_at, cut_at, parts-cut, file_parts-ran, file_parts-other, none-FileText, file_parts-text}
use Rattle.pfh_items.proofs.header.Header.of_file.Goals as goal

-- where the items behind AA 55 stop
stops : (file : List ℕ) (walk : ItemList) (stop : Stop) → walk ≡ items_from 0 (take (length file - 2) (drop 2 file)) → stop ≡ walk.stop
    → (items_from 0 (drop 2 file)).stop ≡ stop
stops file walk stop read same = ap (λ (t : List ℕ). (items_from 0 t).stop) (sym (take_rest file 2)) ∙ ap (λ (w : ItemList). w.stop) (sym read) ∙ sym same

pub returns-then-not-begins_header-clause-read : goal.returns-then-not-begins_header-clause-read
returns-then-not-begins_header-clause-read c =
    sym (file_parts-other c.args.file.now (sym c.begins_header.ensures ∙ c.if-not-begins_header.true))

cut : (file : List ℕ) (at : ℕ) → ((i : ℕ) → get_or file i 0 < 256) → begins_header file ≡ true → (items_from 0 (drop 2 file)).stop ≡ EndItem at
    → IsCutAt file at
cut file at octets begins stop = cut_at file at (IsOctets-slice file octets) begins stop

-- what contracts see of the parts of a cut file
module _ (file : List ℕ) (at : ℕ) (parted : IsCutAt file at) (front back : List ℕ) (is_front : front ≡ take (at + 5) file) (is_back : back ≡ drop (at + 5) file) where
  parts : parts_at (items_from 0 (drop 2 front)).items back ≡ parts_at parted.items parted.body
  parts = parts-cut file at parted front back is_front is_back

  header : HeaderText (items_from 0 (drop 2 front)).items front
  header =
      subst (λ (items : List ItemValue). HeaderText items front) (sym (ap (λ (p : HeaderValue). p.items) parts))
      (record { are_items = parted.is.are_items; text = is_front ∙ parted.front })

  whole : FileText (items_from 0 (drop 2 front)).items back file
  whole = subst (λ (p : HeaderValue). FileText p.items p.body file) (sym parts) parted.is

  computed : Some (parts_at (items_from 0 (drop 2 front)).items back) ≡ file_parts file
  computed = ap (λ (p : HeaderValue). Some p) parts ∙ sym (file_parts-text parted.items parted.body file parted.is)

pub invariant_of-result : goal.invariant_of-result
invariant_of-result c =
    header c.args.file.now c.in-EndItem.at
    (cut c.args.file.now c.in-EndItem.at (λ i. omega (arith, c.type_inv.file i)) (sym c.begins_header.ensures ∙ c.if-not-begins_header.false) (stops c.args.file.now c.over.result c.stop.result c.over.ensures.read c.stop.ensures ∙ c.in-EndItem.is))
    c.split_at.result.0.now c.split_at.result.1.now c.split_at.ensures.front c.split_at.ensures.back

pub returns-in-EndItem-clause-some : goal.returns-in-EndItem-clause-some
returns-in-EndItem-clause-some c =
    whole c.args.file.now c.in-EndItem.at
    (cut c.args.file.now c.in-EndItem.at (λ i. omega (arith, c.type_inv.file i)) (sym c.begins_header.ensures ∙ c.if-not-begins_header.false) (stops c.args.file.now c.over.result c.stop.result c.over.ensures.read c.stop.ensures ∙ c.in-EndItem.is))
    c.split_at.result.0.now c.split_at.result.1.now c.split_at.ensures.front c.split_at.ensures.back

pub returns-in-EndItem-clause-read : goal.returns-in-EndItem-clause-read
returns-in-EndItem-clause-read c =
    computed c.args.file.now c.in-EndItem.at
    (cut c.args.file.now c.in-EndItem.at (λ i. omega (arith, c.type_inv.file i)) (sym c.begins_header.ensures ∙ c.if-not-begins_header.false) (stops c.args.file.now c.over.result c.stop.result c.over.ensures.read c.stop.ensures ∙ c.in-EndItem.is))
    c.split_at.result.0.now c.split_at.result.1.now c.split_at.ensures.front c.split_at.ensures.back

pub returns-in-Ran-clause-none : goal.returns-in-Ran-clause-none
returns-in-Ran-clause-none c =
    none-FileText c.args.file.now
    (file_parts-ran c.args.file.now c.in-Ran.at (stops c.args.file.now c.over.result c.stop.result c.over.ensures.read c.stop.ensures ∙ c.in-Ran.is))

pub returns-in-Ran-clause-read : goal.returns-in-Ran-clause-read
returns-in-Ran-clause-read c =
    sym (file_parts-ran c.args.file.now c.in-Ran.at (stops c.args.file.now c.over.result c.stop.result c.over.ensures.read c.stop.ensures ∙ c.in-Ran.is))
