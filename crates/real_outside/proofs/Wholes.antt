-- Lemmas on reading all that a reader has left, up to a limit.
use Rattle.std.proofs.Common.{◌≡◌, ℕ, ◌+◌, ◌<◌, ◌≤◌, Bool, true, false, min, List, [], ◌++◌, length, take, Option, None, Some, IfSome, Result, Ok, Err, refl, ap, ◌∙◌, inl, inr, arith}
use Rattle.std.specs.Option.{option_map}
use Rattle.std.specs.declared.io.Error.{Error}
use Rattle.px_base.specs.declared.shelf.ShelfRefusal.TheVariants as refusal
use Rattle.real_outside.specs.Shelf.Folder.{IsReadingAnswer}
use Rattle.px_base.specs.Shelves.{AnswersOfAll, LoadResult, load_answer}
use Rattle.real_outside.proofs.Names.{OnOk, nat_le, length-take, take_all, nat_tests}

-- If one octet more than may come was asked for, what came is answered as all there is.
front_answer :
    (octets got : List ℕ) (limit most : ℕ) → limit ≡ min (most + 1) 18446744073709551615
    → length got < 9223372036854775808 → got ≡ take limit octets
    → load_answer (Some got) most ≡ load_answer (Some octets) most
front_answer octets got limit most one_more small front = by_test (nat_le (length got) most) refl
  where
    measured : length got ≡ min limit (length octets)
    measured = ap length front ∙ length-take limit octets

    by_test : (test : Bool) → nat_le (length got) most ≡ test → load_answer (Some got) most ≡ load_answer (Some octets) most
    by_test true within =
        let few : length got ≤ most = grind (arith, nat_tests, within) in
        let fits : length octets ≤ limit = omega (arith, measured, one_more, few, small) in
        ap (λ (content : List ℕ). load_answer (Some content) most) (front ∙ take_all limit octets fits)
    by_test false beyond =
        let many : most < length got = grind (arith, nat_tests, beyond) in
        let longer : most < length octets = omega (arith, measured, many) in
        let other : nat_le (length octets) most ≡ false = grind (arith, nat_tests, longer) in
        grind (arith, beyond, other)

-- what reading answered is an answer of all that the reader had left
pub whole_answer :
    (left : Option (List ℕ)) (read : Result ℕ Error) (start got : List ℕ) (limit most : ℕ) (result : LoadResult)
    → IsReadingAnswer read got most result → limit ≡ min (most + 1) 18446744073709551615
    → length got < 9223372036854775808 → start ≡ []
    → OnOk read (IfSome (option_map (take limit) left) (λ octets. got ≡ start ++ octets))
    → AnswersOfAll left most result
whole_answer None read start got limit most result is one_more small none came = tt
whole_answer (Some octets) (Ok n) start got limit most result is one_more small none came =
    let front : got ≡ take limit octets = grind (arith, came, none) in
    inl (is.ok ∙ front_answer octets got limit most one_more small front)
whole_answer (Some octets) (Err error) start got limit most (Ok content) is one_more small none came = absurd (cc (is.err.0))
whole_answer (Some octets) (Err error) start got limit most (Err refusal.NoSuch) is one_more small none came =
    absurd (cc (is.err.1.fault (λ k. cc (is.err.1.memory.1 k))))
whole_answer (Some octets) (Err error) start got limit most (Err refusal.TooLong) is one_more small none came =
    absurd (cc (is.err.1.fault (λ k. cc (is.err.1.memory.1 k))))
whole_answer (Some octets) (Err error) start got limit most (Err refusal.Fault) is one_more small none came = inr (inl refl)
whole_answer (Some octets) (Err error) start got limit most (Err refusal.OutOfMemory) is one_more small none came = inr (inr refl)
