use Rattle.std.proofs.Common.{◌≡◌, ◌<◌, map, length, get_or, Some, slice_get, subst, inl, inr, arith}
use Rattle.wh_intern_pairs.specs.Headed.{HeadsAt}
use Rattle.wh_intern_pairs.specs.SidesAsPairs.{heads_of}
use Rattle.wh_pairs.specs.Marked.{HeadsASide}
use Rattle.wh_pairs.proofs.ByPlace.{some_one, number_at, read_map, same_or_below}
use Rattle.wh_intern_pairs.proofs.marked.headed_between.Goals as goal

pub bounds-sides-number : goal.bounds-sides-number
bounds-sides-number c = c.requires.set c.loop-place.place 0 (omega (arith, c.loop-place-test.true, c.requires.within))

pub returns-then-heads : goal.returns-then-heads
returns-then-heads c =
    let set = c.args.set.now in
    let place = c.loop-place.place in
    let within : place < length set = omega (arith, c.loop-place-test.true, c.requires.within) in
    let n = get_or set place 0 in
    let s = c.index-sides-number.result in (
      within,
      (
        n,
        number_at set place within,
        (
          heads_of s,
          read_map heads_of c.args.sides.now n s (c.requires.set place 0 within) c.index-sides-number.is,
          c.heads.ensures.0 c.if-heads.true,
        ),
      ),
    )

pub loop-place-preserved : goal.loop-place-preserved
loop-place-preserved c =
    let set = c.args.set.now in
    let place = c.loop-place.place in
    let f = c.args.symbol in
    let ps = map heads_of c.args.sides.now in
    let within : place < length set = omega (arith, c.loop-place-test.true, c.requires.within) in
    let n = get_or set place 0 in
    let s = c.index-sides-number.result in
    let at = read_map heads_of c.args.sides.now n s (c.requires.set place 0 within) c.index-sides-number.is in
    let not_here : HeadsAt ps set f place → ⊥ = λ (m, placed, (a, here, headed)).
    let one = some_one (number_at set place within) placed in
    let same = some_one here (subst (λ j. slice_get ps j ≡ Some (heads_of s)) one at) in
    cc (c.heads.ensures.1 (subst (HeadsASide f) same headed), c.if-heads.false) in
    λ k low high heads. elim (same_or_below k place high) [
      | inl same ↦ not_here (subst (HeadsAt ps set f) same heads)
      | inr less ↦ c.loop-place.invariant k low less heads
    ]

pub returns : goal.returns
returns c = λ k low high heads. c.loop-place.invariant k low (omega (arith, high, c.loop-place-test.false)) heads
