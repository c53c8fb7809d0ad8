use Rattle.std.proofs.Common.{◌≡◌, suc, ◌-◌, ◌*◌, min, length, Some, ap, sym, ◌∙◌, arith}
use Rattle.file_store_blocks.proofs.Names.{slice_get, option_map, command_in, Seal, grow, seal, seal_of, store_of, Info}
use Rattle.file_store_blocks.proofs.AnewLemmas.{at_range, at_says, at_small, grow_command, info_there, part_small, past_command, seal_command}
use Rattle.file_store_blocks.proofs.entries.Entries.command_at.Goals as goal

pub returns-then-place-count-clause-command : goal.returns-then-place-count-clause-command
returns-then-place-count-clause-command c =
    let store = store_of c.args.self.now.files in
    let rules = c.info_at.ensures.rules in
    let here = info_there (slice_get store.entries c.args.at) c.info_at.result c.in-Some.info c.info_at.ensures.info c.in-Some.is in
    let f = here.0 in
    let place = c.args.part - 1 in
    let part_is : c.args.part ≡ suc place = omega (arith, c.if-part-eq0.false) in
    let block = c.block_at-block.result in
    let block_is = at_says store c.args.at (λ g. slice_get g.blocks place ≡ Some block) f here.1 c.block_at-block.ensures in
    ap Some (c.grow_of.ensures.command ∙ ap (λ (i : Info). grow i.number block (min 512 (i.held - 512 * place))) here.2)
    ∙ sym (ap (command_in store c.args.at) part_is ∙ grow_command store rules c.args.at f here.1 place block block_is)

pub returns-then-place-count-clause-small : goal.returns-then-place-count-clause-small
returns-then-place-count-clause-small c =
    let store = store_of c.args.self.now.files in
    let rules = c.info_at.ensures.rules in
    let here = info_there (slice_get store.entries c.args.at) c.info_at.result c.in-Some.info c.info_at.ensures.info c.in-Some.is in
    let f = here.0 in
    let place = c.args.part - 1 in
    let part_is : c.args.part ≡ suc place = omega (arith, c.if-part-eq0.false) in
    let count_is : c.block_count-count.result ≡ length f.blocks = at_says store c.args.at (λ g. c.block_count-count.result ≡ length g.blocks) f here.1 c.block_count-count.ensures.count in
    (at_small store rules c.args.at f here.1, part_small store rules c.args.at f here.1 c.args.part (omega (arith, count_is, c.if-place-count.true)))

pub returns-then-place-count-2-clause-command : goal.returns-then-place-count-2-clause-command
returns-then-place-count-2-clause-command c =
    let store = store_of c.args.self.now.files in
    let rules = c.info_at.ensures.rules in
    let here = info_there (slice_get store.entries c.args.at) c.info_at.result c.in-Some.info c.info_at.ensures.info c.in-Some.is in
    let f = here.0 in
    let place = c.args.part - 1 in
    let part_is : c.args.part ≡ suc place = omega (arith, c.if-part-eq0.false) in
    let count_is : c.block_count-count.result ≡ length f.blocks = at_says store c.args.at (λ g. c.block_count-count.result ≡ length g.blocks) f here.1 c.block_count-count.ensures.count in
    sym (ap (command_in store c.args.at) part_is ∙ past_command store rules c.args.at f here.1 place (omega (arith, count_is, c.if-place-count-2.true)))

pub mark_at-requires : goal.mark_at-requires
mark_at-requires c =
    let store = store_of c.args.self.now.files in
    let rules = c.info_at.ensures.rules in
    let here = info_there (slice_get store.entries c.args.at) c.info_at.result c.in-Some.info c.info_at.ensures.info c.in-Some.is in
    let f = here.0 in
    let place = c.args.part - 1 in
    let part_is : c.args.part ≡ suc place = omega (arith, c.if-part-eq0.false) in
    at_range store rules c.args.at f here.1

pub returns-in_default-mark_at-clause-command : goal.returns-in_default-mark_at-clause-command
returns-in_default-mark_at-clause-command c =
    let store = store_of c.args.self.now.files in
    let rules = c.info_at.ensures.rules in
    let here = info_there (slice_get store.entries c.args.at) c.info_at.result c.in-Some.info c.info_at.ensures.info c.in-Some.is in
    let f = here.0 in
    let place = c.args.part - 1 in
    let part_is : c.args.part ≡ suc place = omega (arith, c.if-part-eq0.false) in
    let count_is : c.block_count-count.result ≡ length f.blocks = at_says store c.args.at (λ g. c.block_count-count.result ≡ length g.blocks) f here.1 c.block_count-count.ensures.count in
    let seal_is : seal_of c.mark_at.result ≡ f.seal = at_says store c.args.at (λ g. seal_of c.mark_at.result ≡ g.seal) f here.1 c.mark_at.ensures in
    let last : place ≡ length f.blocks = omega (arith, count_is, c.if-place-count.false, c.if-place-count-2.false) in
    let command = ap (command_in store c.args.at) part_is ∙ seal_command store rules c.args.at f here.1 place last in
    sym (command ∙ ap (option_map (λ (s : Seal). seal f.number s.moment s.sum)) (sym seal_is ∙ ap seal_of c.in_default-mark_at.is))

pub returns-clause-command : goal.returns-clause-command
returns-clause-command c =
    let store = store_of c.args.self.now.files in
    let rules = c.info_at.ensures.rules in
    let here = info_there (slice_get store.entries c.args.at) c.info_at.result c.in-Some.info c.info_at.ensures.info c.in-Some.is in
    let f = here.0 in
    let place = c.args.part - 1 in
    let part_is : c.args.part ≡ suc place = omega (arith, c.if-part-eq0.false) in
    let count_is : c.block_count-count.result ≡ length f.blocks = at_says store c.args.at (λ g. c.block_count-count.result ≡ length g.blocks) f here.1 c.block_count-count.ensures.count in
    let seal_is : seal_of c.mark_at.result ≡ f.seal = at_says store c.args.at (λ g. seal_of c.mark_at.result ≡ g.seal) f here.1 c.mark_at.ensures in
    let last : place ≡ length f.blocks = omega (arith, count_is, c.if-place-count.false, c.if-place-count-2.false) in
    let command = ap (command_in store c.args.at) part_is ∙ seal_command store rules c.args.at f here.1 place last in
    let mark = c.in-Some-mark_at.mark in
    ap (λ (i : Info). Some (seal i.number mark.moment mark.sum)) here.2
    ∙ sym (command ∙ ap (option_map (λ (s : Seal). seal f.number s.moment s.sum)) (sym seal_is ∙ ap seal_of c.in-Some-mark_at.is))

pub returns-clause-small : goal.returns-clause-small
returns-clause-small c =
    let store = store_of c.args.self.now.files in
    let rules = c.info_at.ensures.rules in
    let here = info_there (slice_get store.entries c.args.at) c.info_at.result c.in-Some.info c.info_at.ensures.info c.in-Some.is in
    let f = here.0 in
    let place = c.args.part - 1 in
    let part_is : c.args.part ≡ suc place = omega (arith, c.if-part-eq0.false) in
    let count_is : c.block_count-count.result ≡ length f.blocks = at_says store c.args.at (λ g. c.block_count-count.result ≡ length g.blocks) f here.1 c.block_count-count.ensures.count in
    (at_small store rules c.args.at f here.1, part_small store rules c.args.at f here.1 c.args.part (omega (arith, count_is, c.if-place-count-2.false)))
