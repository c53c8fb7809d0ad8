use Rattle.std.proofs.Common.{arith, ◌≡◌, List, ℕ, Option, None, ◌∙◌, ap, subst}
use Rattle.file_journal.proofs.Names.{common_steps, block_in, blocks_on, Reading, record_of, damaged_at, walk, at_told, known_told, told_weaker}
use Rattle.file_journal.proofs.WalkLemmas.{walk_refused}
use Rattle.file_journal.proofs.journal.Journal.apply_next.Goals as goal

pub returns-in-Err-clause-next : goal.returns-in-Err-clause-next
returns-in-Err-clause-next g c healthy memory =
    told_weaker (g.D.Disk.content c.args.disk.now) _ _ (λ octets told answers. record {
      some = λ is. absurd (cc is);
      none = λ is. absurd (cc is);
      damaged = λ at is.
          ap (λ (r : Reading). walk (g.L.Ledger.steps.step (block_in octets)) (g.L.Ledger.state c.args.ledger.now) c.args.self.now.place r) ((answers.damaged at).0 (cc (c.reading_fault.ensures.damaged at (cc is)))).1;
    }) (c.in-Err.ensures.next (λ is. healthy (cc (c.reading_fault.ensures.disk (cc is)))))

pub returns-then-not-branch-clause-next : goal.returns-then-not-branch-clause-next
returns-then-not-branch-clause-next g c healthy memory =
    let ledger = g.L.Ledger in
    let before = ledger.state c.args.ledger.now in
    let there = c.find_next.ensures.reads.only.same_content in
    told_weaker (g.D.Disk.content c.args.disk.now) _ _ (λ octets told answers. record {
      some = λ is. absurd (cc is);
      none = λ is. absurd (cc is);
      damaged = λ at is.
          let step = ledger.steps.step (block_in octets) in
          let entry = λ (content : List ℕ). record_of c.in-Ok-Some.kind content in
          let place : c.args.self.now.place ≡ at = grind (arith, common_steps) in
          let refused : step before (entry c.content.result.now) ≡ None =
          subst (λ (o : Option (List ℕ)). ledger.steps.step (blocks_on o) before (entry c.content.result.now) ≡ None) (there ∙ told)
          (c.in_ok-apply-in-Ok-Some.ensures.refused (grind (arith, common_steps)) (known_told ledger.form octets (there ∙ told))) in
          ap (λ (r : Reading). walk step before c.args.self.now.place r) (at_told {o = c.in-Ok-Some.field-0} _ c.in-Ok-Some.kind (cc) answers.found)
          ∙ walk_refused step before c.args.self.now.place (entry c.find_next.new.room) _ (subst (λ (l : List ℕ). step before (entry l) ≡ None) c.content.ensures.octets refused)
          ∙ ap (λ (n : ℕ). damaged_at n) place;
    }) (c.in-Ok-Some.ensures.next (λ is. absurd (cc is)))
