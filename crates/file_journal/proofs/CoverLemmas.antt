-- How a run of writes that aren't synced goes on, and is synced.
use Rattle.std.proofs.Common.{◌≡◌, inl, inr, ℕ, ◌+◌, ◌≤◌, true≢false, List, [], ◌∷◌, ◌++◌, length, Some, IfSome, Result, Ok, Err, IsErr, OnOk, sym, ◌∙◌, subst, arith, length-append}
use Rattle.file_journal.proofs.Names.{AreAmong, Follows, HasContent, Only, Torn, Writes, SinceNow, TakesOneMoment, TimePasses, Ghosts, IsTornFrom, TakesCalls, IsQuietNow, Makes, Puts, Chooses, Covers, IsChoosing, Lays, makes_failed, makes_on, on_ok_both, puts_none, puts_on, puts_same, quiet_by_sync, goes_on, started, weaker, at_told, if_told, told_weaker, torn_on, torn_within}
use Rattle.file_journal.proofs.FormatLemmas.{torn_quiet}
use Rattle.file_journal.proofs.OctetLemmas.{lays_more, lays_none}

-- a fact of what was answered
pub with_ok : {T E P Q : Type 0} (result : Result T E) → (P → Q) → OnOk result P → OnOk result Q
with_ok (Ok x) step p = step p
with_ok (Err e) step p = tt

module _ {D : Type 0} (g : Ghosts D) where
  -- no write
  pub covers_none : {T E : Type 0} (x : T) (at : ℕ) (disk : D) → g.lasts disk disk → Covers {E = E} g 0 at [] disk disk (Ok x)
  covers_none x at disk same = record {
    ok = if_told (g.content disk) _ (λ before told. (before, told, lays_none at before));
    torn = λ image here. (image, here, (lays_none at image).torn);
    since = if_told (g.content disk) _ (λ before told. started g.moment g.images_since disk _);
    puts = puts_none g disk _ (λ e. true≢false (sym e)) same;
    calls = record { each = if_told (g.content disk) _ (λ before told. omega arith); at_most = omega arith };
  }

  -- whatever was answered
  pub covers_ok : {T E U F : Type 0} (x : T) (y : U) (count at : ℕ) (text : List ℕ) (old new : D)
      → Covers {E = E} g count at text old new (Ok x) → Covers {E = F} g count at text old new (Ok y)
  covers_ok x y count at text old new covers = record {
    ok = covers.ok;
    torn = covers.torn;
    since = covers.since;
    puts = covers.puts;
    calls = record { each = covers.calls.each; at_most = covers.calls.at_most };
  }

  -- one write more
  module _ (on : (first second third : D) → g.lasts first second → g.lasts second third → g.lasts first third) {T E U F : Type 0} (x : T) (result : Result U F)
      (count at : ℕ) (text more : List ℕ) (old mid new : D) where
    torn_both : Covers {E = E} g count at text old mid (Ok x) → Follows (Torn (at + length text) (length more)) (g.images mid) (g.images new)
        → Follows (Torn at (length (text ++ more))) (g.images old) (g.images new)
    torn_both covers torn image here =
        let middle = torn image here in
        let first = covers.torn middle.0 middle.1 in (
          first.0,
          first.1,
          subst (λ (n : ℕ). Torn at n first.0 image) (sym (length-append text more)) (torn_on at (length text) (length more) first.0 middle.0 image first.2 middle.2),
        )

    pub covers_more : Covers {E = E} g count at text old mid (Ok x)
        → OnOk result (HasContent (g.content mid) (g.content new) (Writes (at + length text) more))
        → Follows (Torn (at + length text) (length more)) (g.images mid) (g.images new)
        → TakesOneMoment (g.content mid) (g.moment mid) (g.moment new) result
        → TimePasses g.moment g.images g.images_since mid new
        → Puts g (IsErr result) mid new
        → Covers g (count + 1) at (text ++ more) old new result
    covers_more covers written torn one time puts = record {
      ok = with_ok result (λ has. told_weaker (g.content old) _ _ (λ before told first.
          let second = at_told _ first.0 first.1 has in
          (second.0, second.1, lays_more at text more before first.0 second.0 first.2 second.2)) covers.ok) written;
      torn = torn_both covers torn;
      since = told_weaker (g.content old) _ _ (λ before told left.
          goes_on g.moment g.images_since old mid new (IsTornFrom (g.images old) at (length (text ++ more))) (g.images new)
          (weaker g.moment g.images_since old mid _ _ (λ image from. (from.0, from.1, torn_within at (length (text ++ more)) at (length text) from.0 image (omega arith) (omega (arith, length-append text more)) from.2)) left)
          time (λ image here. torn_both covers torn image here)) covers.since;
      puts = puts_on g on old mid new _ (IsErr result) (λ e. true≢false (sym e)) covers.puts puts;
      calls = record {
        each = with_ok result (λ one_more. told_weaker (g.content old) _ _ (λ before told first.
            let is = at_told _ first.0 first.1 one_more in omega (arith, is, at_told _ before told covers.calls.each)) covers.ok) one.one;
        at_most = omega (arith, one.at_most, covers.calls.at_most);
      };
    }

    -- the same, where it stands at this place and makes all of these octets
    pub covers_next : (place total : ℕ) (all : List ℕ) → place ≡ at + length text → total ≡ count + 1 → all ≡ text ++ more
        → Covers {E = E} g count at text old mid (Ok x)
        → OnOk result (HasContent (g.content mid) (g.content new) (Writes place more))
        → Follows (Torn place (length more)) (g.images mid) (g.images new)
        → TakesOneMoment (g.content mid) (g.moment mid) (g.moment new) result
        → TimePasses g.moment g.images g.images_since mid new
        → Puts g (IsErr result) mid new
        → Covers g total at all old new result
    covers_next place total all place_is total_is all_is covers written torn one time puts =
        subst (λ (n : ℕ). Covers g n at all old new result) (sym total_is)
        (subst (λ (l : List ℕ). Covers g (count + 1) at l old new result) (sym all_is)
        (covers_more covers
        (subst (λ (n : ℕ). OnOk result (HasContent (g.content mid) (g.content new) (Writes n more))) place_is written)
        (subst (λ (n : ℕ). Follows (Torn n (length more)) (g.images mid) (g.images new)) place_is torn)
        one time puts))

  -- a run that failed, of which more was asked
  pub covers_failed : {T E U F : Type 0} (result : Result T E) (other : Result U F) (count most at : ℕ) (text all : List ℕ) (old new : D)
      → count ≤ most → length text ≤ length all → IsErr other → IsErr result → Covers g count at text old new result → Covers g most at all old new other
  covers_failed result (Ok x) count most at text all old new le within failed was covers = absurd (true≢false (sym failed))
  covers_failed result (Err e) count most at text all old new le within failed was covers =
      let wider : (before image : List ℕ) → Torn at (length text) before image → Torn at (length all) before image =
      λ before image torn. torn_within at (length all) at (length text) before image (omega arith) (omega (arith, within)) torn in
      record {
        ok = tt;
        torn = λ image here. let from = covers.torn image here in (from.0, from.1, wider from.0 image from.2);
        since = told_weaker (g.content old) _ _ (λ before told left.
            weaker g.moment g.images_since old new _ _ (λ image from. (from.0, from.1, wider from.0 image from.2)) left) covers.since;
        puts = puts_same g old new (IsErr result) _ (λ p. failed) (λ p. was) covers.puts;
        calls = record { each = tt; at_most = omega (arith, covers.calls.at_most, le) };
      }

  -- a run that failed
  pub covers_makes : {T E U F : Type 0} (result : Result T E) (other : Result U F) (count at : ℕ) (text : List ℕ) (old new : D) (step : List ℕ → List ℕ → Type 0)
      → IsErr other → IsErr result → Covers g count at text old new result → Makes g other old new step (λ _. IsTornFrom (g.images old) at (length text))
  covers_makes result (Ok x) count at text old new step failed was covers = absurd (true≢false (sym failed))
  covers_makes result (Err e) count at text old new step failed was covers = record {
    ok = tt;
    quiet = tt;
    since = covers.since;
    puts = puts_same g old new (IsErr result) _ (λ p. failed) (λ p. was) covers.puts;
  }

  -- a run that is synced, or not
  pub covers_synced : (on : (first second third : D) → g.lasts first second → g.lasts second third → g.lasts first third) → {T E U F : Type 0} (x : T) (result : Result U F)
      (count at : ℕ) (text : List ℕ) (old mid new : D)
      → Covers {E = E} g count at text old mid (Ok x)
      → g.content new ≡ g.content mid
      → OnOk result (IfSome (g.content mid) (Only (g.images new)))
      → AreAmong (g.images new) (g.images mid)
      → TakesOneMoment (g.content mid) (g.moment mid) (g.moment new) result
      → TimePasses g.moment g.images g.images_since mid new
      → SinceNow g.moment g.images g.images_since mid new
      → Puts g (IsErr result) mid new
      → Makes g result old new (Lays at text) (λ _. IsTornFrom (g.images old) at (length text)) × TakesCalls g (count + 1) old new result
  covers_synced on x result count at text old mid new covers same durable among one time since_now puts = (
    record {
      ok = with_ok result (λ durable. told_weaker (g.content old) _ _ (λ before told has. (has.0, same ∙ has.1, has.2)) covers.ok) durable;
      quiet = on_ok_both result (λ durable one. quiet_by_sync g mid new same durable one since_now) durable one.one;
      since = told_weaker (g.content old) _ _ (λ before told left.
          goes_on g.moment g.images_since old mid new _ (g.images new) left time (λ image here. covers.torn image (among image here))) covers.since;
      puts = puts_on g on old mid new _ (IsErr result) (λ e. true≢false (sym e)) covers.puts puts;
    },
    record {
      each = with_ok result (λ one_more. told_weaker (g.content old) _ _ (λ before told first.
          let is = at_told _ first.0 first.1 one_more in omega (arith, is, at_told _ before told covers.calls.each)) covers.ok) one.one;
      at_most = omega (arith, one.at_most, covers.calls.at_most);
    },
  )

  -- what was made, whatever was answered
  pub makes_ok : {T E U F : Type 0} (x : T) (y : U) (old new : D) (step leaves : List ℕ → List ℕ → Type 0)
      → Makes {E = E} g (Ok x) old new step leaves → Makes {E = F} g (Ok y) old new step leaves
  makes_ok x y old new step leaves makes = record { ok = makes.ok; quiet = makes.quiet; since = makes.since; puts = makes.puts }

  -- On a quiet disk octets are put at a place and synced, and then octet 15.
  module _ (old : D) (counts_now : (disk : D) (t : ℕ) (image : List ℕ) → t ≤ g.moment disk → g.images disk image → g.images_since disk t image) (rest : IsQuietNow g old)
      (at : ℕ) (text : List ℕ) (selector : ℕ) where
    choosing : (before image : List ℕ) → g.content old ≡ Some before → IsTornFrom (g.images old) at (length text) image → IsChoosing at text before image
    choosing before image told torn = inl (torn_quiet g old (counts_now old) rest at (length text) before told image torn)

    -- the first part of it failed
    pub chooses_failed : {T U E F : Type 0} (result : Result T E) (other : Result U F) (new : D) (step : List ℕ → List ℕ → Type 0) → IsErr other → IsErr result
        → Makes g result old new step (λ _. IsTornFrom (g.images old) at (length text)) → Makes g other old new (Chooses at text selector) (IsChoosing at text)
    chooses_failed result other new step failed was makes =
        makes_failed g result other old new step _ (Chooses at text selector) (IsChoosing at text) failed (λ before image told torn. choosing before image told torn) makes was

    -- it was done
    pub chooses_on : (on : (first second third : D) → g.lasts first second → g.lasts second third → g.lasts first third) → {T U E F : Type 0} (x : T) (result : Result U F) (mid new : D)
        → Makes {E = E} g (Ok x) old mid (Lays at text) (λ _. IsTornFrom (g.images old) at (length text))
        → Makes g result mid new (Writes 15 (selector ∷ [])) (λ _. IsTornFrom (g.images mid) 15 1)
        → Makes g result old new (Chooses at text selector) (IsChoosing at text)
    chooses_on on x result mid new first second =
        makes_on g on x result old mid new _ _ _ _ (Chooses at text selector) (IsChoosing at text) first second
        (λ before middle now told lays chosen. record { staged = middle; lays = lays; chosen = chosen })
        (λ before image told torn. choosing before image told torn)
        (λ before middle image told told_mid lays torn. inr (middle, lays, torn_quiet g mid (counts_now mid) first.quiet 15 1 middle told_mid image torn))
