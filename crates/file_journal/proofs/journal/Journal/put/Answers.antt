use Rattle.std.proofs.Common.{rules, ◌≡◌, ◌+◌, ◌-◌, ◌++◌, ℕ, List, [], ◌∷◌, length, take, drop, sym, ◌∙◌, ap, subst, arith}
use Rattle.file_journal.proofs.Names.{drop-take, places, same_lists, LeavesAppending, HasRoom, IsRecord, record_of, record_text}
use Rattle.file_journal.proofs.journal.Journal.put.Goals as goal

-- A record's text stands behind its gate, and its content in that behind its kind and its length.
module _ (kind len : ℕ) (content text : List ℕ) (is : take (5 + len) text ≡ 1 ∷ record_text (record_of kind content) ++ 0 ∷ []) (size : length content ≡ len) where
  text_of : take (5 + len - 1) (drop 1 text) ≡ record_text (record_of kind content) ++ 0 ∷ []
  text_of =
      ap (λ (n : ℕ). take n (drop 1 text)) (let same : 5 + len - 1 ≡ 4 + len = omega arith in same) ∙ sym (drop-take 1 (4 + len) text)
      ∙ ap (λ (n : ℕ). drop 1 (take n text)) (let same : 1 + (4 + len) ≡ 5 + len = omega arith in same) ∙ ap (drop 1) is

  content_of : take (3 + len - 3) (drop 3 (take (5 + len - 1) (drop 1 text))) ≡ content
  content_of = ap (λ (l : List ℕ). take (3 + len - 3) (drop 3 l)) text_of ∙ same_lists _ _ (search (rules, places)) (λ k d below. grind (arith, places))

pub put_text-requires-clause-text : goal.put_text-requires-clause-text
put_text-requires-clause-text g c =
    let closed = c.close_text.ensures in
    text_of c.args.kind c.content.inside.len _ c.close_text.new.text closed.text closed.size
    ∙ ap (λ (l : List ℕ). record_text (record_of c.args.kind l) ++ 0 ∷ []) (sym (content_of c.args.kind c.content.inside.len _ c.close_text.new.text closed.text closed.size))

pub put_text-requires-clause-fits : goal.put_text-requires-clause-fits
put_text-requires-clause-fits g c =
    let closed = c.close_text.ensures in
    let room : HasRoom c.args.self.now (4 + length (take c.content.inside.len (drop 4 c.content.inside.text))) = subst (λ (l : List ℕ). HasRoom c.args.self.now (4 + length l)) (sym c.content.view_is) c.requires.room in
    subst (λ (l : List ℕ). IsRecord (record_of c.args.kind l) × HasRoom c.args.self.now (4 + length l)) (sym (content_of c.args.kind c.content.inside.len _ c.close_text.new.text closed.text closed.size))
    (closed.fits, room)

pub returns-clause-since : goal.returns-clause-since
returns-clause-since g c =
    let closed = c.close_text.ensures in
    subst (λ (l : List ℕ). LeavesAppending g.D.Disk c.args.self.now (record_of c.args.kind l) c.args.disk.now c.put_text.new.disk)
    (content_of c.args.kind c.content.inside.len _ c.close_text.new.text closed.text closed.size ∙ c.content.view_is)
    c.put_text.ensures.since
