use Rattle.std.proofs.Common.{◌≡◌, ℕ, ◌+◌, ◌-◌, ◌++◌, [], ◌<◌, ◌≤◌, take, drop, get_or, ap, ◌∙◌, sym, subst, List, length, length-take, arith}
use Rattle.ax25_link.proofs.Names.{sum, slice_get, unwrap_or, length-take-le, All-get_or, sum_by_more_le, IsOctets, Queue}
use Rattle.ax25_link.proofs.QueueLemmas.{length-cut, few-take, piece-cut}
use Rattle.ax25_link.proofs.send_queue.SendQueue.put_piece.Goals as goal

length-take-most : (n : ℕ) (xs : List ℕ) → length (take n xs) ≤ n
length-take-most n xs = omega (arith, length-take n xs)

-- a piece at this place is outstanding
inside : (c : goal.After-from) → c.args.place < length c.self.inside.sizes.items
inside c = omega (arith, c.requires.place, length-cut c.self.inside.sizes.items c.self.inside.octets.items, ap (λ (q : Queue). length q.pieces) c.self.view_is)

-- the octets before the piece
before : (c : goal.After-from) → sum (take c.from.result c.deref.result.now) ≤ 1792
before c =
    let seven : length c.self.inside.sizes.items ≤ 7 = subst (λ (xs : List ℕ). length xs ≤ 7) c.deref.ensures.0 c.deref.ensures.1 in
    let sizes = few-take c.self.inside.sizes.items c.from.result c.self.invariant.most seven in
    omega (arith, sizes, ap (λ (xs : List ℕ). sum (take c.from.result xs)) c.deref.ensures.0)

pub slice_bounds-total-end : goal.slice_bounds-total-end
slice_bounds-total-end c = sym (length-take-le c.from.result c.deref.result.now (omega (arith, inside c, c.from.ensures, ap (λ (xs : List ℕ). length xs) c.deref.ensures.0)))

pub total-start-requires : goal.total-start-requires
total-start-requires c = omega (arith, before c)

pub bounds-deref-from : goal.bounds-deref-from
bounds-deref-from c =
    let within : c.args.place < length c.self.inside.sizes.items =
    omega (arith, c.requires.place, length-cut c.self.inside.sizes.items c.self.inside.octets.items, ap (λ (q : Queue). length q.pieces) c.self.view_is) in
    omega (arith, within, c.from-2.ensures, ap (λ (xs : List ℕ). length xs) c.deref-2.ensures.0)

pub overflow_add-end : goal.overflow_add-end
overflow_add-end c =
    let within : c.args.place < length c.self.inside.sizes.items =
    omega (arith, c.requires.place, length-cut c.self.inside.sizes.items c.self.inside.octets.items, ap (λ (q : Queue). length q.pieces) c.self.view_is) in
    let seven : length c.self.inside.sizes.items ≤ 7 = subst (λ (xs : List ℕ). length xs ≤ 7) c.deref.ensures.0 c.deref.ensures.1 in
    let sizes = few-take c.self.inside.sizes.items c.args.place c.self.invariant.most seven in
    let one : get_or c.self.inside.sizes.items c.args.place 0 ≤ 256 = All-get_or (λ (size : ℕ). size ≤ 256) c.self.inside.sizes.items c.args.place 0 within c.self.invariant.most in
    let start : c.total-start.result ≡ sum (take c.args.place c.self.inside.sizes.items) = cc (c.total-start.ensures, c.from.ensures, c.deref.ensures.0) in
    let size : get_or c.deref-2.result.now c.from-2.result 0 ≡ get_or c.self.inside.sizes.items c.args.place 0 = cc (c.from-2.ensures, c.deref-2.ensures.0) in
    omega (arith, sizes, one, start, size)

pub put_range-requires-clause-inside : goal.put_range-requires-clause-inside
put_range-requires-clause-inside c =
    let within : c.args.place < length c.self.inside.sizes.items =
    omega (arith, c.requires.place, length-cut c.self.inside.sizes.items c.self.inside.octets.items, ap (λ (q : Queue). length q.pieces) c.self.view_is) in
    let start : c.total-start.result ≡ sum (take c.args.place c.self.inside.sizes.items) = cc (c.total-start.ensures, c.from.ensures, c.deref.ensures.0) in
    let size : get_or c.deref-2.result.now c.from-2.result 0 ≡ get_or c.self.inside.sizes.items c.args.place 0 = cc (c.from-2.ensures, c.deref-2.ensures.0) in
    omega (arith, sum_by_more_le (λ x. x) c.self.inside.sizes.items c.args.place 0 within, c.self.invariant.inside, start, size, ap (λ (xs : List ℕ). length xs) c.as_slices.ensures)

pub put_range-requires-clause-room : goal.put_range-requires-clause-room
put_range-requires-clause-room c =
    let within : c.args.place < length c.self.inside.sizes.items =
    omega (arith, c.requires.place, length-cut c.self.inside.sizes.items c.self.inside.octets.items, ap (λ (q : Queue). length q.pieces) c.self.view_is) in
    let one : get_or c.self.inside.sizes.items c.args.place 0 ≤ 256 = All-get_or (λ (size : ℕ). size ≤ 256) c.self.inside.sizes.items c.args.place 0 within c.self.invariant.most in
    let size : get_or c.deref-2.result.now c.from-2.result 0 ≡ get_or c.self.inside.sizes.items c.args.place 0 = cc (c.from-2.ensures, c.deref-2.ensures.0) in
    omega (arith, one, size, c.requires.room)

pub returns-clause-most : goal.returns-clause-most
returns-clause-most c =
    let within : c.args.place < length c.self.inside.sizes.items =
    omega (arith, c.requires.place, length-cut c.self.inside.sizes.items c.self.inside.octets.items, ap (λ (q : Queue). length q.pieces) c.self.view_is) in
    let one : get_or c.self.inside.sizes.items c.args.place 0 ≤ 256 = All-get_or (λ (size : ℕ). size ≤ 256) c.self.inside.sizes.items c.args.place 0 within c.self.invariant.most in
    let cut_there = piece-cut c.self.inside.sizes.items c.self.inside.octets.items c.args.place within in
    let few = length-take-most (get_or c.self.inside.sizes.items c.args.place 0) (drop (sum (take c.args.place c.self.inside.sizes.items)) c.self.inside.octets.items) in
    subst (λ (q : Queue). length (unwrap_or (slice_get q.pieces c.args.place) []) ≤ 256) c.self.view_is
    (omega (arith, one, few, ap (λ (xs : List ℕ). length xs) cut_there))

pub returns-clause-octets : goal.returns-clause-octets
returns-clause-octets c =
    let within : c.args.place < length c.self.inside.sizes.items =
    omega (arith, c.requires.place, length-cut c.self.inside.sizes.items c.self.inside.octets.items, ap (λ (q : Queue). length q.pieces) c.self.view_is) in
    let start : c.total-start.result ≡ sum (take c.args.place c.self.inside.sizes.items) = cc (c.total-start.ensures, c.from.ensures, c.deref.ensures.0) in
    let size : c.total-start.result + get_or c.deref-2.result.now c.from-2.result 0 - c.total-start.result ≡ get_or c.self.inside.sizes.items c.args.place 0 =
    let same : get_or c.deref-2.result.now c.from-2.result 0 ≡ get_or c.self.inside.sizes.items c.args.place 0 = cc (c.from-2.ensures, c.deref-2.ensures.0) in omega (arith, same) in
    c.put_range.ensures.octets
    ∙ ap (λ (xs : List ℕ). c.args.out.now.items ++ take (c.total-start.result + get_or c.deref-2.result.now c.from-2.result 0 - c.total-start.result) (drop c.total-start.result xs)) c.as_slices.ensures
    ∙ ap (λ (n : ℕ). c.args.out.now.items ++ take n (drop c.total-start.result c.self.inside.octets.items)) size
    ∙ ap (λ (n : ℕ). c.args.out.now.items ++ take (get_or c.self.inside.sizes.items c.args.place 0) (drop n c.self.inside.octets.items)) start
    ∙ ap (λ (xs : List ℕ). c.args.out.now.items ++ xs) (sym (piece-cut c.self.inside.sizes.items c.self.inside.octets.items c.args.place within))
    ∙ ap (λ (q : Queue). c.args.out.now.items ++ unwrap_or (slice_get q.pieces c.args.place) []) c.self.view_is

pub returns-clause-range : goal.returns-clause-range
returns-clause-range c =
    let within : c.args.place < length c.self.inside.sizes.items =
    omega (arith, c.requires.place, length-cut c.self.inside.sizes.items c.self.inside.octets.items, ap (λ (q : Queue). length q.pieces) c.self.view_is) in
    let start : c.total-start.result ≡ sum (take c.args.place c.self.inside.sizes.items) = cc (c.total-start.ensures, c.from.ensures, c.deref.ensures.0) in
    let size : c.total-start.result + get_or c.deref-2.result.now c.from-2.result 0 - c.total-start.result ≡ get_or c.self.inside.sizes.items c.args.place 0 =
    let same : get_or c.deref-2.result.now c.from-2.result 0 ≡ get_or c.self.inside.sizes.items c.args.place 0 = cc (c.from-2.ensures, c.deref-2.ensures.0) in omega (arith, same) in
    subst (λ (xs : List ℕ). IsOctets xs)
    (ap (λ (xs : List ℕ). take (c.total-start.result + get_or c.deref-2.result.now c.from-2.result 0 - c.total-start.result) (drop c.total-start.result xs)) c.as_slices.ensures
    ∙ ap (λ (n : ℕ). take n (drop c.total-start.result c.self.inside.octets.items)) size
    ∙ ap (λ (n : ℕ). take (get_or c.self.inside.sizes.items c.args.place 0) (drop n c.self.inside.octets.items)) start
    ∙ (sym (piece-cut c.self.inside.sizes.items c.self.inside.octets.items c.args.place within))
    ∙ ap (λ (q : Queue). unwrap_or (slice_get q.pieces c.args.place) []) c.self.view_is)
    c.put_range.ensures.range
