use Rattle.std.proofs.Common.{◌≡◌, ◌+◌, ◌<◌, ◌≤◌, ℕ, List, length, IfSome, rules, ◌∙◌, ap, refl, sym, arith, subst}
use Rattle.file_journal.specs.Looking.{Begins, IsInterrupted, IsUnformatted, Owes}
use Rattle.file_journal.specs.declared.found.Owed.{Owed}
use Rattle.file_journal.specs.declared.found.Owed.TheVariants as owed
use Rattle.file_journal.proofs.Names.{First, Half, HasContent, HasHeader, IsAfterFinishing, IsFinishing, Leaves, Position, at_told, changes_none, first_gate, if_told, position_at_first, told_weaker}
use Rattle.file_journal.proofs.RecoverLemmas.{IsHalfOf, known_formatted, known_leaves, new_formatted, recovered}
use Rattle.file_journal.proofs.LookingLemmas.{leaves_same, settled_so}
use Rattle.file_journal.proofs.journal.Journal.settle.Goals as goal

pub returns-in-Nothing-clause-recovered : goal.returns-in-Nothing-clause-recovered
returns-in-Nothing-clause-recovered g c =
    let D = g.D.Disk in
    let old = c.args.disk.now in
    let found = c.args.found in
    let first = position_at_first c.args.magic c.args.layout found.journal.blocks found.journal.half in
    settled_so D c.args.magic c.args.layout c.args.blocks old found.journal c.requires.found.at_first
    (told_weaker (D.content old) _ _ (λ now told image. (g.met.D.Disk.images_fit old now image).0) (g.met.D.Disk.content_is_image old))
    (subst (λ (o : Owed). IfSome (D.content old) (Owes first o)) c.in-Nothing.is (subst (λ (j : Position). IfSome (D.content old) (Owes j found.owed)) c.requires.found.at_first c.requires.found.owes)) c.requires.quiet

pub returns-in-Nothing-clause-since : goal.returns-in-Nothing-clause-since
returns-in-Nothing-clause-since g c = leaves_same g.D.Disk c.args.disk.now _

pub returns-in_err-finish_format-in-Gates-clause-since : goal.returns-in_err-finish_format-in-Gates-clause-since
returns-in_err-finish_format-in-Gates-clause-since g c =
    let D = g.D.Disk in
    let old = c.args.disk.now in
    let new = c.finish_format.new.disk in
    let found = c.args.found in
    let number = found.journal.blocks in
    let first = position_at_first c.args.magic c.args.layout number found.journal.half in
    let owes : IfSome (D.content old) (IsInterrupted first c.in-Gates.selector) =
    subst (λ (o : Owed). IfSome (D.content old) (Owes first o)) c.in-Gates.is (subst (λ (j : Position). IfSome (D.content old) (Owes j found.owed)) c.requires.found.at_first c.requires.found.owes) in
    known_leaves D c.args.magic c.args.layout c.args.blocks old old new number (changes_none D old) (told_weaker (D.content old) _ (HasHeader c.args.magic number) (λ before told is. is.header) owes)
    (told_weaker (D.content old) _ (λ (before : List ℕ). 16 < length before) (λ before told is. is.long) owes)
    (subst (λ (n : ℕ). Leaves D old new (IsFinishing n)) (c.first_gate-gate.ensures.place ∙ ap (λ (p : Position). first_gate c.args.layout p.blocks) c.journal.view_is) c.finish_format.ensures.makes.since)

pub returns-in_ok-finish_format-in-Gates-clause-since : goal.returns-in_ok-finish_format-in-Gates-clause-since
returns-in_ok-finish_format-in-Gates-clause-since g c =
    let D = g.D.Disk in
    let old = c.args.disk.now in
    let new = c.finish_format.new.disk in
    let found = c.args.found in
    let number = found.journal.blocks in
    let first = position_at_first c.args.magic c.args.layout number found.journal.half in
    let owes : IfSome (D.content old) (IsInterrupted first c.in-Gates.selector) =
    subst (λ (o : Owed). IfSome (D.content old) (Owes first o)) c.in-Gates.is (subst (λ (j : Position). IfSome (D.content old) (Owes j found.owed)) c.requires.found.at_first c.requires.found.owes) in
    known_leaves D c.args.magic c.args.layout c.args.blocks old old new number (changes_none D old) (told_weaker (D.content old) _ (HasHeader c.args.magic number) (λ before told is. is.header) owes)
    (told_weaker (D.content old) _ (λ (before : List ℕ). 16 < length before) (λ before told is. is.long) owes)
    (subst (λ (n : ℕ). Leaves D old new (IsFinishing n)) (c.first_gate-gate.ensures.place ∙ ap (λ (p : Position). first_gate c.args.layout p.blocks) c.journal.view_is) c.finish_format.ensures.makes.since)

pub returns-in_ok-finish_format-in-Gates-clause-recovered : goal.returns-in_ok-finish_format-in-Gates-clause-recovered
returns-in_ok-finish_format-in-Gates-clause-recovered g c =
    let D = g.D.Disk in
    let old = c.args.disk.now in
    let new = c.finish_format.new.disk in
    let found = c.args.found in
    let number = found.journal.blocks in
    let first = position_at_first c.args.magic c.args.layout number found.journal.half in
    let gate : c.first_gate-gate.result ≡ first_gate c.args.layout number =
    c.first_gate-gate.ensures.place ∙ ap (λ (p : Position). first_gate c.args.layout p.blocks) c.journal.view_is in
    let half_is : found.journal.half ≡ First = subst (λ (o : Owed). Begins c.args.blocks found.journal o) c.in-Gates.is c.requires.found.begins in
    let owes : IfSome (D.content old) (IsInterrupted first c.in-Gates.selector) =
    subst (λ (o : Owed). IfSome (D.content old) (Owes first o)) c.in-Gates.is (subst (λ (j : Position). IfSome (D.content old) (Owes j found.owed)) c.requires.found.at_first c.requires.found.owes) in
    recovered D c.args.magic c.args.layout c.args.blocks old new number found.journal.half found.journal c.requires.found.at_first c.finish_format.ensures.makes.puts.told c.in_ok-finish_format-in-Gates.ensures.makes.quiet
    (told_weaker (D.content new) _ _ (λ now told image. (g.met.D.Disk.images_fit new now image).0) (g.met.D.Disk.content_is_image new))
    (known_formatted D c.args.magic c.args.layout c.args.blocks old old new number (changes_none D old) (told_weaker (D.content old) _ (HasHeader c.args.magic number) (λ before told is. is.header) owes)
    (told_weaker (D.content old) _ (λ (before : List ℕ). 16 < length before) (λ before told is. is.long) owes) found.journal.half
    (told_weaker (D.content old) _ (IsHalfOf c.args.layout number found.journal.half) (λ before told is. (λ short. half_is, λ full. absurd (omega (arith, full, is.short)))) owes)
    (subst (λ (n : ℕ). HasContent (D.content old) (D.content new) (IsAfterFinishing n)) gate c.in_ok-finish_format-in-Gates.ensures.makes.ok))

pub returns-in_ok-format_new-in-Formatting-clause-recovered : goal.returns-in_ok-format_new-in-Formatting-clause-recovered
returns-in_ok-format_new-in-Formatting-clause-recovered g c =
    let D = g.D.Disk in
    let old = c.args.disk.now in
    let new = c.format_new.new.disk in
    let found = c.args.found in
    let eight : length c.args.magic ≡ 8 = search rules in
    let first = position_at_first c.args.magic c.args.layout found.journal.blocks found.journal.half in
    let begins : (found.journal.blocks ≡ c.args.blocks) × (found.journal.half ≡ First) = subst (λ (o : Owed). Begins c.args.blocks found.journal o) c.in-Formatting.is c.requires.found.begins in
    let is : found.journal ≡ position_at_first c.args.magic c.args.layout c.args.blocks First =
    c.requires.found.at_first ∙ (ap (λ (n : ℕ). position_at_first c.args.magic c.args.layout n found.journal.half) begins.0
    ∙ ap (λ (h : Half). position_at_first c.args.magic c.args.layout c.args.blocks h) begins.1) in
    let owes : IfSome (D.content old) (IsUnformatted first) =
    subst (λ (o : Owed). IfSome (D.content old) (Owes first o)) c.in-Formatting.is (subst (λ (j : Position). IfSome (D.content old) (Owes j found.owed)) c.requires.found.at_first c.requires.found.owes) in
    recovered D c.args.magic c.args.layout c.args.blocks old new c.args.blocks First found.journal is c.format_new.ensures.makes.puts.told c.in_ok-format_new-in-Formatting.ensures.makes.quiet
    (told_weaker (D.content new) _ _ (λ now told image. (g.met.D.Disk.images_fit new now image).0) (g.met.D.Disk.content_is_image new))
    (new_formatted D c.args.magic c.args.layout c.args.blocks old new eight c.requires.blocks.some c.requires.blocks.most
    (told_weaker (D.content old) _ (λ (before : List ℕ). length before ≤ 16) (λ before told is. is.short) owes) c.in_ok-format_new-in-Formatting.ensures.makes.ok)
