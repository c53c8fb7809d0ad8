-- As many octets are read as the file has on its disk.
use Rattle.std.proofs.Common.{◌≡◌, ℕ, List, length, drop, take, ap, ◌∙◌}
use Rattle.air_rehearsal.proofs.Names.{take-length, store_in, store_on, entry_of, octets_at}
use Rattle.air_rehearsal.proofs.KeptLemmas.{info-length, written}
use Rattle.air_rehearsal.proofs.kept.read_all.Goals as goal

pub returns-in-Ok-clause-octets : goal.returns-in-Ok-clause-octets
returns-in-Ok-clause-octets g c known =
    let store = store_on g.D.Disk c.args.store.now c.args.disk.now in
    let octets : List ℕ = octets_at (entry_of store c.args.number) in
    let room = c.read_at.new.room in
    let all : length room ≡ c.resize.new.self.len = c.read_at.auto.room ∙ c.as_mut_slice.ensures.len in
    let many : length c.as_mut_slice.result.now ≡ length octets =
    c.as_mut_slice.ensures.len ∙ c.in_ok-resize.ensures.len
    ∙ info-length (store_in c.args.store.now) store (c.told_law.ensures.like c.requires.ready known) c.args.number
    c.args.info c.requires.there
    in
    written c.resize.new.self.len room (drop (length room) c.resize.new.self.items) all ∙ c.in-Ok.ensures.room known
    ∙ ap (λ (n : ℕ). take n octets) many ∙ take-length octets
