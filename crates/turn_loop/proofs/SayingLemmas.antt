-- What a party gives is said, and what it took by that.
use Rattle.std.proofs.Common.{◌≡◌, ℕ, ◌≤◌, List, [], ◌++◌, Bool, true, false, None, Some, Result, Ok, Err, refl, sym, ap, ◌∙◌, subst, append_assoc, append-nil, arith}
use Rattle.std.proofs.lemmas.Result.{err_from_is_err_and}
use Rattle.disk_model.specs.declared.halt.Halt.TheVariants as halt
use Rattle.turn_loop.specs.declared.stop.NodeStop.TheVariants as stop
use Rattle.turn_loop.proofs.Names.{IsErrAnd, ⊤, AllByRecursion, Gains, GainsPrefix, HasCause, Ghosts as AirGhosts, AirDown, Gains-front, Gains-none, Gains-trans, AtDisk, Course, GaveAll, GivesNext, IsLawful, OwesStop, stop_at_put, stop_of, Input, IsInput, CountsBy, IsByParty, IsUnsaid, SaysAll, Takes, Halt, NodeStop}
use Rattle.turn_loop.proofs.Invariants.{IsSaying}

-- what holds of the error that a `?` hands on holds of the result
pub at_exit : {T E : Type 0} (P : Result T E → Type 0) (result : Result T E) (why : E) → IsErrAnd result (λ e. e ≡ why) → P (Err why) → P result
at_exit P result why h k =
    let p = err_from_is_err_and result h in
    subst P (sym (p.1 ∙ ap Err p.2)) k

-- the counts from an air on that had the same ones
pub counts-from : {T : Type 0} (result : Result T NodeStop) (r s t w v u : ℕ) → s ≡ r → v ≡ w → CountsBy result s t v u → CountsBy result r t w u
counts-from result r s t w v u reads writes h =
    subst (λ n. CountsBy result n t w u) reads (subst (λ n. CountsBy result s t n u) writes h)

pub unsaid-from : (unsaid : Bool) (w v u : ℕ) → v ≡ w → IsUnsaid unsaid v u → IsUnsaid unsaid w u
unsaid-from unsaid w v u same h = subst (λ n. IsUnsaid unsaid n u) same h

-- the counts of a halt
counts-halt : (why : Halt) (r t w u : ℕ) → t ≡ r → w ≤ u → CountsBy {T = ⊤} (Err (stop_of why)) r t w u
counts-halt halt.Disk r t w u reads writes = (reads, writes)
counts-halt halt.OutOfMemory r t w u reads writes = (reads, writes)

by-halt : (why : Halt) → IsByParty (stop_of why)
by-halt halt.Disk = tt
by-halt halt.OutOfMemory = tt

module _ {P D A : Type 0} (course : Course P D Input) (air : AirGhosts A) where
  pub saying-none : (now : A) (self : AtDisk P D) → IsSaying course air now now self self
  saying-none now self = record {
    text = [];
    text_said = Gains-none (air.said now);
    owes = λ start events why said h. subst (λ (t : List ℕ). course.owes start events why t self) (sym (append-nil said)) h;
    heard = refl;
    reads = refl;
    writes = refl;
  }

  module _ (before mid : A) (old then_is : AtDisk P D) (h : IsSaying course air before mid old then_is) where
    -- a text more is said
    pub saying-more : (now : A) (new : AtDisk P D) (text : List ℕ) → GivesNext course then_is text new → Gains (air.said mid) (air.said now) text → air.heard now ≡ air.heard mid
        → air.read_faults now ≡ air.read_faults mid → air.write_faults now ≡ air.write_faults mid → IsSaying course air before now old new
    saying-more now new text gives said heard reads writes = record {
      text = h.text ++ text;
      text_said = Gains-trans (air.said before) (air.said mid) (air.said now) h.text text h.text_said said;
      owes = λ start events why all owes.
          subst (λ (t : List ℕ). course.owes start events why t new) (append_assoc all h.text text) (gives.goes_on start events why (all ++ h.text) (h.owes start events why all owes));
      heard = heard ∙ h.heard;
      reads = reads ∙ h.reads;
      writes = writes ∙ h.writes;
    }

    -- saying it fails
    pub says-failed : (now : A) (new : AtDisk P D) (text : List ℕ) (down : AirDown) → GivesNext course then_is text new → GainsPrefix (air.said mid) (air.said now) text → air.heard now ≡ air.heard mid
        → air.read_faults now ≡ air.read_faults mid → HasCause {T = ⊤} (air.write_faults mid) (air.write_faults now) (Err down) → SaysAll course air before now old new (Err down)
    says-failed now new text down gives said heard reads cause =
        let front = Gains-front (air.said mid) (air.said now) text said in
        record {
          text = h.text ++ front.0;
          text_said = Gains-trans (air.said before) (air.said mid) (air.said now) h.text front.0 h.text_said front.1;
          ends = λ start events why all owes.
              subst (λ (t : List ℕ). course.halts start events (stop_at_put why) true t new) (append_assoc all h.text front.0)
              (gives.cut_off start events why (all ++ h.text) front.0 front.2 (h.owes start events why all owes));
          heard = heard ∙ h.heard;
          reads = reads ∙ h.reads;
          cause = subst (λ n. HasCause {T = ⊤} n (air.write_faults now) (Err down)) h.writes cause;
        }

    -- all was said
    pub says-all : (new : AtDisk P D) → GaveAll course then_is new → SaysAll course air before mid old new (Ok tt)
    says-all new gave = record {
      text = h.text;
      text_said = h.text_said;
      ends = λ start events why all owes. gave start events why (all ++ h.text) (h.owes start events why all owes);
      heard = h.heard;
      reads = h.reads;
      cause = record { no_less = omega (arith, h.writes); rose = tt; same = h.writes };
    }

  -- ---- what is taken

  module _ (before now : A) (old mid new : AtDisk P D) (inputs : List Input) where
    pub taken-whole : course.owes old inputs None [] mid → SaysAll course air before now mid new (Ok tt) → Takes course air before now old new inputs (Ok tt)
    taken-whole owes says = record {
      text = says.text;
      text_said = says.text_said;
      unsaid = false;
      is_unsaid = says.cause.same;
      ends = says.ends old inputs None [] owes;
      by_party = tt;
      heard = says.heard;
      counts = (says.reads, says.cause.same);
    }

    pub taken-unsaid : (down : AirDown) → course.owes old inputs None [] mid → SaysAll course air before now mid new (Err down) → Takes course air before now old new inputs (Err stop.AirWrite)
    taken-unsaid down owes says = record {
      text = says.text;
      text_said = says.text_said;
      unsaid = true;
      is_unsaid = says.cause.rose;
      ends = says.ends old inputs None [] owes;
      by_party = tt;
      heard = says.heard;
      counts = (says.reads, says.cause.rose);
    }

    -- all that it halts behind, or a front of it
    taken-all : (why : Halt) (result : Result ⊤ AirDown) → course.owes old inputs (Some why) [] mid → SaysAll course air before now mid new result → Takes course air before now old new inputs (Err (stop_of why))
    taken-all why (Ok done) owes says = record {
      text = says.text;
      text_said = says.text_said;
      unsaid = false;
      is_unsaid = says.cause.same;
      ends = says.ends old inputs (Some why) [] owes;
      by_party = by-halt why;
      heard = says.heard;
      counts = counts-halt why _ _ _ _ says.reads says.cause.no_less;
    }
    taken-all why (Err down) owes says = record {
      text = says.text;
      text_said = says.text_said;
      unsaid = true;
      is_unsaid = says.cause.rose;
      ends = says.ends old inputs (Some why) [] owes;
      by_party = by-halt why;
      heard = says.heard;
      counts = counts-halt why _ _ _ _ says.reads says.cause.no_less;
    }

    pub taken-halted : (stop : NodeStop) (result : Result ⊤ AirDown) → OwesStop course old inputs stop mid → SaysAll course air before now mid new result → Takes course air before now old new inputs (Err stop)
    taken-halted stop result h says = subst (λ s. Takes course air before now old new inputs (Err s)) (sym h.1) (taken-all h.0 result h.2 says)

  module _ (lawful : IsLawful course IsInput) where
    pub takes-none : (now : A) (self : AtDisk P D) → course.is_fit self → Takes course air now now self self [] (Ok tt)
    takes-none now self fit = record {
      text = [];
      text_said = Gains-none (air.said now);
      unsaid = false;
      is_unsaid = refl;
      ends = (lawful.goes_none self fit, fit);
      by_party = tt;
      heard = refl;
      counts = (refl, refl);
    }

    -- what was taken, and what is taken then
    pub takes-then : (before mid now : A) (old then_is new : AtDisk P D) (inputs others : List Input) (result : Result ⊤ NodeStop) → Takes course air before mid old then_is inputs (Ok tt)
        → Takes course air mid now then_is new others result → Takes course air before now old new (inputs ++ others) result
    takes-then before mid now old then_is new inputs others (Ok done) h k = record {
      text = h.text ++ k.text;
      text_said = Gains-trans (air.said before) (air.said mid) (air.said now) h.text k.text h.text_said k.text_said;
      unsaid = k.unsaid;
      is_unsaid = unsaid-from k.unsaid _ _ _ h.counts.1 k.is_unsaid;
      ends = (lawful.goes_on old then_is new inputs others h.text k.text h.ends.0 k.ends.0, k.ends.1);
      by_party = tt;
      heard = k.heard ∙ h.heard;
      counts = counts-from {T = ⊤} (Ok done) _ _ _ _ _ _ h.counts.0 h.counts.1 k.counts;
    }
    takes-then before mid now old then_is new inputs others (Err why) h k = record {
      text = h.text ++ k.text;
      text_said = Gains-trans (air.said before) (air.said mid) (air.said now) h.text k.text h.text_said k.text_said;
      unsaid = k.unsaid;
      is_unsaid = unsaid-from k.unsaid _ _ _ h.counts.1 k.is_unsaid;
      ends = lawful.halts_behind old then_is new inputs others h.text k.text why k.unsaid h.ends.0 k.ends;
      by_party = k.by_party;
      heard = k.heard ∙ h.heard;
      counts = counts-from {T = ⊤} (Err why) _ _ _ _ _ _ h.counts.0 h.counts.1 k.counts;
    }

    -- a stop with further inputs behind it
    pub takes-before : (before now : A) (old new : AtDisk P D) (inputs others : List Input) (why : NodeStop) → AllByRecursion IsInput others → Takes course air before now old new inputs (Err why)
        → Takes course air before now old new (inputs ++ others) (Err why)
    takes-before before now old new inputs others why are h = record {
      text = h.text;
      text_said = h.text_said;
      unsaid = h.unsaid;
      is_unsaid = h.is_unsaid;
      ends = lawful.halts_before old new inputs others h.text why h.unsaid are h.ends;
      by_party = h.by_party;
      heard = h.heard;
      counts = h.counts;
    }
