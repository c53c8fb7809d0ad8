-- What memory tells of a file that is kept on the disk is told of the file that is read.
use Rattle.std.proofs.Common.{◌≡◌, true, false, Some, ap, sym, ◌∙◌}
use Rattle.air_rehearsal.proofs.Names.{same_Some, Info, store_in, store_on, same_call-decides}
use Rattle.air_rehearsal.proofs.KeptLemmas.{info-kept, stamped-kept}
use Rattle.air_rehearsal.proofs.ServingSent.{if-ok-more}
use Rattle.air_rehearsal.proofs.kept.octets_of.Goals.{in_default-via-in-Some+then-info+else-eq, in_default-via-in-Some+else-info, in_default-via-in_default}
use Rattle.air_rehearsal.proofs.kept.octets_of.Goals as goal

pub returns-in-Some-clause-octets : goal.returns-in-Some-clause-octets
returns-in-Some-clause-octets g c =
    if-ok-more _ _ c.read_all.result
    (λ octets read known file kept.
    stamped-kept (store_on g.D.Disk c.args.store.now c.args.disk.now) c.args.number file c.args.caller octets.items kept
    (read known)) c.read_all.ensures.octets

pub returns-in_default-clause-octets : goal.returns-in_default-clause-octets
returns-in_default-clause-octets g c known file kept =
    let told =
    info-kept (store_in c.args.store.now) (store_on g.D.Disk c.args.store.now c.args.disk.now)
    (c.told_law.ensures.like c.requires known) c.args.number file c.args.caller kept
    in
    let is : c.info.result ≡ Some told.0 = c.info.ensures.info ∙ told.1 in
    elim c.in_default.branch [
      | in_default-via-in-Some+then-info+else-eq w ↦
          let same : w.in-Some.info ≡ told.0 = same_Some w.in-Some.info told.0 (sym w.in-Some.is ∙ is) in
          let theirs : w.in-Some.info.caller ≡ c.args.caller = ap (λ (i : Info). i.caller) same ∙ told.3 in
          let equal = (same_call-decides w.in-Some.info.caller c.args.caller).1 theirs in
          absurd (let no : true ≡ false = sym equal ∙ sym w.eq.ensures ∙ w.if-eq.false in cc)
      | in_default-via-in-Some+else-info w ↦
          let same : w.in-Some.info ≡ told.0 = same_Some w.in-Some.info told.0 (sym w.in-Some.is ∙ is) in
          let whole : w.in-Some.info.complete ≡ true = ap (λ (i : Info). i.complete) same ∙ told.2 in
          absurd (let no : true ≡ false = sym whole ∙ w.if-info.false in cc)
      | in_default-via-in_default w ↦ absurd (w.in_default.not-Some told.0 is)
    ]
