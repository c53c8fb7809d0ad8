use Rattle.std.proofs.Common.{sym, ◌∙◌, ap}
use Rattle.file_journal.proofs.Names.{IfOk-weaker, HasHeader, is_block_number, no_store, Header, at_ok, at_told, if_told}
use Rattle.file_journal.proofs.JournalLemmas.{is_store, of_bad_number, of_foreign}
use Rattle.file_journal.proofs.OctetLemmas.{front16}
use Rattle.file_journal.proofs.RecoverLemmas.{refusal_of}
use Rattle.file_journal.proofs.header.read_header.Goals as goal

pub returns-clause-selector : goal.returns-clause-selector
returns-clause-selector g c =
    IfOk-weaker c.parse_header.result _ _ (λ header says. if_told (g.D.Disk.content c.args.disk.now) _ (λ octets told.
    says ∙ (front16 octets c.read.new.room (at_told _ octets told c.in_ok-read.ensures.room)).1))
    c.parse_header.ensures.selector

pub returns-clause-refuses : goal.returns-clause-refuses
returns-clause-refuses g c layout healthy =
    let says = c.parse_header.ensures in
    let magic = c.args.magic in
    if_told (g.D.Disk.content c.args.disk.now) _ (λ octets told.
    let front = front16 octets c.read.new.room (at_told _ octets told c.in_ok-read.ensures.room) in
    let long = at_told _ octets told c.requires in
    refusal_of magic layout octets c.parse_header.result
    (λ header is.
    let head = at_ok (λ (header : Header). HasHeader magic header.blocks c.read.new.room) header is says.header in
    is_store magic layout octets header.blocks long (record { magic_is = sym front.2 ∙ head.magic_is; blocks_are = sym front.0 ∙ head.blocks_are; is_number = head.is_number }))
    (λ found is.
    let other = says.not_a_store found is in
    of_foreign magic layout octets long (λ same. other.other (other.found_is ∙ front.2 ∙ same)) ∙ ap no_store (sym (other.found_is ∙ front.2)))
    (λ at is.
    let other = says.damaged at is in
    (other.0, of_bad_number magic layout octets long (sym front.2 ∙ other.1.magic_is) (ap is_block_number (sym front.0) ∙ other.1.is_bad)))
    healthy)
