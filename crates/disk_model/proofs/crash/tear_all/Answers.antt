use Rattle.std.proofs.Common.{◌≡◌, ◌-◌, ◌++◌, List, ℕ, false, length, get_or, take, drop, replicate, refl, sym, ◌∙◌, ap, subst, arith, rules}
use Rattle.disk_model.proofs.Names.{common_steps, take_all, IsOctets, Surface, quiet_surface, surface_after, with_range, before_writes, calls_of, synced_before, OpenWrite}
use Rattle.disk_model.proofs.BeforeWrites.{filled_behind, greatest_same, leaves_open, length-synced_before, write_next}
use Rattle.disk_model.proofs.Crashes.{IsTorn, synced_kept, tears_same, with_range_torn}
use Rattle.disk_model.proofs.crash.tear_all.Goals as goal

pub greatest_length-greatest-requires : goal.greatest_length-greatest-requires
greatest_length-greatest-requires c =
    leaves_open c.args.synced c.args.writes.now c.args.kept.now c.args.present.now.items c.deref.result.now c.deref.ensures.value c.requires

pub length-length-requires-clause-most : goal.length-length-requires-clause-most
length-length-requires-clause-most c =
    let here = leaves_open c.args.synced c.args.writes.now c.args.kept.now c.args.present.now.items c.deref.result.now c.deref.ensures.value c.requires in
    omega (arith, here.most, c.greatest_length-greatest.ensures.most)

pub loop-write-init : goal.loop-write-init
loop-write-init c =
    let writes = c.args.writes.now in
    let synced = synced_before c.args.synced writes c.args.kept.now c.args.present.now.items in
    let whole : take c.reserve.new.self.len (c.undo.new.octets ++ drop (length c.undo.new.octets) c.reserve.new.self.items) ≡ c.undo.new.octets = grind (arith, common_steps) in
    let front : c.truncate.new.self.items ≡ synced =
    c.truncate.ensures.items ∙ ap (take c.args.synced) (whole ∙ c.undo.ensures ∙ ap (before_writes writes c.args.kept.now) (c.as_mut_slice.ensures.value ∙ c.in_ok-reserve.ensures.items)) in
    let size = length-synced_before c.args.synced writes c.args.kept.now c.args.present.now.items c.requires.within in
    let length_is = c.length-length.result in
    let filled : c.resize.new.self.items ≡ take length_is c.truncate.new.self.items ++ replicate (length_is - c.truncate.new.self.len) c.octet.result = grind (arith, common_steps) in
    let all : take length_is synced ≡ synced = take_all length_is synced (omega (arith, size, c.length-length.ensures.least)) in
    record {
      size = grind (arith, common_steps);
      octets = search rules;
      same = c.octet.ensures.same ∙ c.length-length.ensures.same;
      synced = refl;
      torn =
          filled_behind synced c.args.pick.octet (length_is - c.truncate.new.self.len) c.octet.result c.resize.new.self.items
          (filled ∙ ap (λ (l : List ℕ). take length_is l ++ replicate (length_is - c.truncate.new.self.len) c.octet.result) front ∙ ap (λ (l : List ℕ). l ++ replicate (length_is - c.truncate.new.self.len) c.octet.result) all)
          (λ wanted is. c.octet.ensures.filled wanted (c.length-length.ensures.same ∙ is));
    }

pub loop-write-preserved : goal.loop-write-preserved
loop-write-preserved c =
    let here = c.loop-write.invariant in
    let writes = c.args.writes.now in
    let synced = synced_before c.args.synced writes c.args.kept.now c.args.present.now.items in
    let i = c.loop-write.write-index in
    let none : OpenWrite = record { at = 0; count = 0; found = 0; passed = false } in
    let after = write_next synced writes i none c.loop-write-test.true in
    let new : take c.loop-write.present.len (c.tear.new.image ++ drop (length c.tear.new.image) c.loop-write.present.items) ≡ c.tear.new.image = grind (arith, common_steps) in
    let tears = tears_same _ _ c.loop-write.pick.octet c.args.pick.octet c.as_mut_slice-in-loop-write.result.now c.loop-write.present.items c.tear.new.image here.same c.as_mut_slice-in-loop-write.ensures.value c.tear.ensures.tears in
    let torn = with_range_torn (surface_after synced (calls_of (take i writes))) _ _ c.args.pick.octet c.loop-write.present.items c.tear.new.image tears here.torn in
    record {
      size = ap length new ∙ tears.size ∙ here.size;
      octets = subst IsOctets (sym new) c.tear.ensures.octets;
      same = c.tear.ensures.same ∙ here.same;
      synced = ap (λ (s : Surface). s.synced) after ∙ here.synced;
      torn =
          subst (λ (s : Surface). IsTorn s c.args.pick.octet (take c.loop-write.present.len (c.tear.new.image ++ drop (length c.tear.new.image) c.loop-write.present.items))) (sym after)
          (subst (IsTorn (with_range (surface_after synced (calls_of (take i writes))) (get_or writes i none).at (get_or writes i none).count) c.args.pick.octet) (sym new) torn);
    }

pub returns-clause-image : goal.returns-clause-image
returns-clause-image c =
    let here = c.loop-write.invariant in
    let writes = c.args.writes.now in
    let present = c.args.present.now.items in
    let synced = synced_before c.args.synced writes c.args.kept.now present in
    let torn = subst (λ (l : List OpenWrite). IsTorn (surface_after synced (calls_of l)) c.args.pick.octet c.loop-write.present.items) (take_all c.loop-write.write-index writes c.loop-write-test.false) here.torn in
    let same = ap length (synced_kept (quiet_surface synced) (calls_of writes) c.requires.since.open_calls) in
    let most = greatest_same c.args.synced writes c.args.kept.now present c.deref.result.now c.deref.ensures.value c.requires in
    record {
      octets = here.octets;
      no_shorter = omega (arith, same, length-synced_before c.args.synced writes c.args.kept.now present c.requires.within, c.length-length.ensures.least, here.size);
      no_longer = omega (arith, most, c.greatest_length-greatest.ensures.most, c.length-length.ensures.greatest, here.size);
      kept = torn.kept;
    }

pub returns-clause-filled : goal.returns-clause-filled
returns-clause-filled c = λ octet is.
    let here = c.loop-write.invariant in
    let writes = c.args.writes.now in
    let present = c.args.present.now.items in
    let synced = synced_before c.args.synced writes c.args.kept.now present in
    let torn = subst (λ (l : List OpenWrite). IsTorn (surface_after synced (calls_of l)) c.args.pick.octet c.loop-write.present.items) (take_all c.loop-write.write-index writes c.loop-write-test.false) here.torn in
    let most = greatest_same c.args.synced writes c.args.kept.now present c.deref.result.now c.deref.ensures.value c.requires in
    record {
      size = here.size ∙ c.length-length.ensures.filled octet is ∙ c.greatest_length-greatest.ensures.most ∙ most;
      each = λ place. torn.filled octet place is;
    }
