-- Each place may be ended once those before it are.
use Rattle.std.proofs.Common.{◌≡◌, length, drop, arith, rules}
use Rattle.ftl0_server.proofs.Names.{MayAllEnd}
use Rattle.ftl0_server.proofs.EndLemmas.{end-here, end-later}
use Rattle.ftl0_server.proofs.places.end_all.Goals as goal

-- there are eight places, and once this many of them are ended, those after them may be
may1 : (c : goal.After-end-arg-2-1) → (length c.args.places ≡ 8) × MayAllEnd c.end.new.store (drop 1 c.args.places)
may1 c = let size : length c.args.places ≡ 8 = search rules in (size, end-later c.args.store.now c.end.new.store c.args.places 0 c.first-1.given.0 (omega (arith, size)) c.requires c.first-1.given.1 c.end.ensures)

may2 : (c : goal.After-end-arg-3-1) → (length c.args.places ≡ 8) × MayAllEnd c.end-2.new.store (drop 2 c.args.places)
may2 c = let before = may1 c.before.before in (before.0, end-later c.end.new.store c.end-2.new.store c.args.places 1 c.second-1.given.0 (omega (arith, before.0)) before.1 c.second-1.given.1 c.end-2.ensures)

may3 : (c : goal.After-end-arg-4-1) → (length c.args.places ≡ 8) × MayAllEnd c.end-3.new.store (drop 3 c.args.places)
may3 c = let before = may2 c.before.before in (before.0, end-later c.end-2.new.store c.end-3.new.store c.args.places 2 c.third-1.given.0 (omega (arith, before.0)) before.1 c.third-1.given.1 c.end-3.ensures)

may4 : (c : goal.After-end-arg-5-1) → (length c.args.places ≡ 8) × MayAllEnd c.end-4.new.store (drop 4 c.args.places)
may4 c = let before = may3 c.before.before in (before.0, end-later c.end-3.new.store c.end-4.new.store c.args.places 3 c.fourth-1.given.0 (omega (arith, before.0)) before.1 c.fourth-1.given.1 c.end-4.ensures)

may5 : (c : goal.After-end-arg-6-1) → (length c.args.places ≡ 8) × MayAllEnd c.end-5.new.store (drop 5 c.args.places)
may5 c = let before = may4 c.before.before in (before.0, end-later c.end-4.new.store c.end-5.new.store c.args.places 4 c.fifth-1.given.0 (omega (arith, before.0)) before.1 c.fifth-1.given.1 c.end-5.ensures)

may6 : (c : goal.After-end-arg-7-1) → (length c.args.places ≡ 8) × MayAllEnd c.end-6.new.store (drop 6 c.args.places)
may6 c = let before = may5 c.before.before in (before.0, end-later c.end-5.new.store c.end-6.new.store c.args.places 5 c.sixth-1.given.0 (omega (arith, before.0)) before.1 c.sixth-1.given.1 c.end-6.ensures)

may7 : (c : goal.After-end-arg-8-1) → (length c.args.places ≡ 8) × MayAllEnd c.end-7.new.store (drop 7 c.args.places)
may7 c = let before = may6 c.before.before in (before.0, end-later c.end-6.new.store c.end-7.new.store c.args.places 6 c.seventh-1.given.0 (omega (arith, before.0)) before.1 c.seventh-1.given.1 c.end-7.ensures)

pub end-requires-2 : goal.end-requires-2
end-requires-2 c = let may = may1 c in end-here c.end.new.store c.args.places 1 c.second-1.given.0 (omega (arith, may.0)) may.1 c.second-1.given.1

pub end-requires-3 : goal.end-requires-3
end-requires-3 c = let may = may2 c in end-here c.end-2.new.store c.args.places 2 c.third-1.given.0 (omega (arith, may.0)) may.1 c.third-1.given.1

pub end-requires-4 : goal.end-requires-4
end-requires-4 c = let may = may3 c in end-here c.end-3.new.store c.args.places 3 c.fourth-1.given.0 (omega (arith, may.0)) may.1 c.fourth-1.given.1

pub end-requires-5 : goal.end-requires-5
end-requires-5 c = let may = may4 c in end-here c.end-4.new.store c.args.places 4 c.fifth-1.given.0 (omega (arith, may.0)) may.1 c.fifth-1.given.1

pub end-requires-6 : goal.end-requires-6
end-requires-6 c = let may = may5 c in end-here c.end-5.new.store c.args.places 5 c.sixth-1.given.0 (omega (arith, may.0)) may.1 c.sixth-1.given.1

pub end-requires-7 : goal.end-requires-7
end-requires-7 c = let may = may6 c in end-here c.end-6.new.store c.args.places 6 c.seventh-1.given.0 (omega (arith, may.0)) may.1 c.seventh-1.given.1

pub end-requires-8 : goal.end-requires-8
end-requires-8 c = let may = may7 c in end-here c.end-7.new.store c.args.places 7 c.eighth-1.given.0 (omega (arith, may.0)) may.1 c.eighth-1.given.1
