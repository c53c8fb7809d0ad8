-- Clients are opened one after another, each over its disk.
use Rattle.std.proofs.Common.{◌≡◌, ℕ, zero, suc, ◌+◌, ◌<◌, List, [], ◌∷◌, ◌++◌, Some, IsTrue}
use Rattle.std.proofs.Common.{refl, sym, ap, subst, ◌∙◌, inl, inr, arith, length-append}
use Rattle.air_rehearsal.proofs.Names.{slice_get, slice_set, All-from_recursion, same_Some, CallSign, CallText, OneCall, is_call_char, Cuts, Ghosts, pacsat, Opened, OpensClient, OpensFirst, AreReady, Party as StoredParty}
use Rattle.air_rehearsal.proofs.BenchLemmas.{set_count}
use Rattle.air_rehearsal.proofs.PairLemmas.{set_at}
use Rattle.air_rehearsal.proofs.ReadyLemmas.{at_more}

-- the elements behind a place at which one is set
set_before : {X : Type 0} (xs : List X) (i j : ℕ) (x : X) → i < j → slice_get (slice_set xs i x) j ≡ slice_get xs j
set_before [] i j x less = refl
set_before (y ∷ ys) zero zero x less = absurd (let no : ⊥ = omega (arith, less) in no)
set_before (y ∷ ys) zero (suc j) x less = refl
set_before (y ∷ ys) (suc i) zero x less = refl
set_before (y ∷ ys) (suc i) (suc j) x less = set_before ys i j x (omega (arith, less))

pub none_ready : {D : Type 0} (g : Ghosts D) (disks : List D) → AreReady g [] disks
none_ready g disks c party disk at at_disk = absurd cc

-- The server's call is the one that is read of its characters.
pub is_pacsat : OneCall → (call : CallSign) → CallText call pacsat.chars → call ≡ pacsat
is_pacsat law call text =
    let all =
    All-from_recursion (λ c. IsTrue (is_call_char c)) pacsat.chars
    (refl, (refl, (refl, (refl, (refl, (refl, tt))))))
    in
    let own : CallText pacsat pacsat.chars =
    (pacsat.chars, (omega arith, omega arith, all), refl, omega arith, inr (refl, refl))
    in
    let same = law pacsat.chars call pacsat text own in
    λ i. record { chars = same.0 i; ssid = same.1 i }

module _ {B : Type 0} (g : Ghosts B) (cuts : Cuts B) (server : CallSign) (k : ℕ) (calls : List CallSign)
    (disks : List B) where
  -- before the first one
  pub opens_none : OpensFirst g cuts server k 0 calls disks disks []
  opens_none =
      record {
        count_is = refl;
        each = λ c me it is_call before after party. absurd (let no : ⊥ = cc in no);
        others = λ c far. refl;
        as_many = refl;
      }

  module _ (count : ℕ) (disks_now : List B) (parties : List StoredParty)
      (first : OpensFirst g cuts server k count calls disks disks_now parties) (me : CallSign) (it : Opened B)
      (is_call : slice_get calls count ≡ Some me) (is_disk : slice_get disks_now count ≡ Some it.before)
      (opens : (c : ℕ) → OpensClient g cuts server k c me it) where
    -- the client of this place is the one that was opened last
    last_one :
        (c : ℕ) (other_me : CallSign) (other : Opened B) → c ≡ count → slice_get calls c ≡ Some other_me
        → slice_get disks c ≡ Some other.before → other.after ≡ it.after → other.party ≡ it.party
        → OpensClient g cuts server k c other_me other
    last_one c other_me other at is_other was after party =
        let same_me : me ≡ other_me =
        same_Some me other_me (sym is_call ∙ ap (slice_get calls) (sym at) ∙ is_other)
        in
        let before : it.before ≡ other.before =
        same_Some it.before other.before
        (sym is_disk ∙ first.others count (omega arith) ∙ ap (slice_get disks) (sym at) ∙ was)
        in
        let same : it ≡ other = λ i. record { before = before i; after = sym after i; party = sym party i } in
        subst (λ (m : CallSign). OpensClient g cuts server k c m other) same_me
        (subst (OpensClient g cuts server k c me) same (opens c))

    -- one client more is opened
    pub opens_more :
        OpensFirst g cuts server k (count + 1) calls disks (slice_set disks_now count it.after) (parties ++ it.party ∷ [])
    opens_more =
        record {
          count_is =
              (let more = length-append parties (it.party ∷ []) in let was = first.count_is in omega (arith, more, was));
          each = each_more;
          others = λ c far.
              set_before disks_now count c it.after (omega (arith, far)) ∙ first.others c (omega (arith, far));
          as_many = set_count disks_now count it.after ∙ first.as_many;
        }
      where
        each_more :
            (c : ℕ) (other_me : CallSign) (other : Opened B) → slice_get calls c ≡ Some other_me
            → slice_get disks c ≡ Some other.before
            → slice_get (slice_set disks_now count it.after) c ≡ Some other.after
            → slice_get (parties ++ it.party ∷ []) c ≡ Some other.party
            → OpensClient g cuts server k c other_me other
        each_more c other_me other is_other was at at_party =
            elim (at_more parties c it.party other.party at_party) [
              | inl last ↦ elim (set_at disks_now count c it.after other.after at) [
                | inl here ↦ last_one c other_me other here.0 is_other was here.1 last.1
                | inr elsewhere ↦ absurd (elsewhere.0 (last.0 ∙ first.count_is))
              ]
              | inr earlier ↦ elim (set_at disks_now count c it.after other.after at) [
                | inl here ↦ absurd (earlier.0 (here.0 ∙ sym first.count_is))
                | inr elsewhere ↦ first.each c other_me other is_other was elsewhere.1 earlier.1
              ]
            ]
