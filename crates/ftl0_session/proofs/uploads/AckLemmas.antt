-- What was acknowledged stays.
use Rattle.std.proofs.Common.{◌≡◌, ℕ, ◌+◌, ◌-◌, ◌≤◌, List, [], ◌∷◌, ◌++◌, length, refl, ◌∙◌, ap, subst, arith, length-append, None, Some}
use Rattle.ftl0_session.specs.Uploads.Laws.{AcknowledgedStandsLaw, kept}
use Rattle.ftl0_session.specs.Uploads.Session.{Row}
use Rattle.ftl0_session.proofs.Names.{AreAllowed, Command, after_all, last_grow, seal, Store, entry_of, after_first, AreAllowed-split, after_first-then, stays, whole_row}
use Rattle.ftl0_session.proofs.uploads.Uploads.{end-row, sealed_entry, upto-is}

-- at least this many commands are all of the first ones and some of the others
past : (a b c : List Command) (start : Store) (count : ℕ) → length a + length b ≤ count
    → after_first count start (a ++ (b ++ c)) ≡ after_first (count - (length a + length b)) (after_all (after_all start a) b) c
past a b c start count least =
    let k : ℕ = count - (length a + length b) in
    let whole : count ≡ length a + (length b + k) = omega (arith, least) in
    ap (λ (n : ℕ). after_first n start (a ++ (b ++ c))) whole ∙ after_first-then (length b + k) a (b ++ c) start ∙ after_first-then k b c (after_all start a)

pub acknowledged_stands : AcknowledgedStandsLaw
acknowledged_stands caller start store commands moment number entry held rest is whole =
    let here = whole.under_way.0 ∙ ap Some (upto-is entry held whole.under_way.1) in
    let row : Row = whole_row moment number rest None in
    record {
      row = row;
      is_row = end-row caller store number entry moment held rest (held ++ rest) here refl (length-append held rest ∙ whole.all) whole.good;
      replies = refl;
      some = omega (arith, length-append (last_grow number rest) (seal number moment ∷ []));
      stands = λ others least most image allowed no_less makes.
          let store_at : Store = after_all (after_all start commands) row.commands in
          let found : entry_of store_at number ≡ Some (kept entry (held ++ rest) moment) =
          subst (λ (s : Store). entry_of (after_all s row.commands) number ≡ Some (kept entry (held ++ rest) moment)) is (sealed_entry store number moment held rest entry here) in
          let behind = (AreAllowed-split commands (row.commands ++ others) start allowed).1 in
          let left : AreAllowed store_at others =
          (AreAllowed-split row.commands others (after_all start commands) behind).1 in
          let at = past commands row.commands others start makes.0 (omega (arith, no_less, makes.1)) in (
            after_first makes.0 start (commands ++ (row.commands ++ others)),
            makes.3,
            ap (λ (s : Store). entry_of s number) at ∙ stays store_at others (makes.0 - (length commands + length row.commands)) number (kept entry (held ++ rest) moment) left found refl,
          );
    }
