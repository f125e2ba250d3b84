use Rattle.std.proofs.Common.{◌≡◌, ℕ, ◌+◌, ◌≤◌, List, drop, get_or, length, arith, ap}
use Rattle.std.proofs.lemmas.List.{drop_more, drop_all}
use Rattle.wh_poly_flat.specs.Dominance.{place_among}
use Rattle.wh_find_flat.proofs.Loops.{place_here, place_past}
use Rattle.wh_find_flat.proofs.formula.place.Goals as goal

pub loop-place-preserved : goal.loop-place-preserved
loop-place-preserved c =
    let i = c.loop-place.place in
    let marked : List ℕ = c.args.marked.now in
    let f = c.args.symbol in
    let here = ap (λ (l : List ℕ). place_among l f) (drop_more marked i 0 c.loop-place-test.true) in
    let past = place_past (get_or marked i 0) f (drop (i + 1) marked) c.if-mark-symbol.false in
    let before : place_among marked f ≡ i + place_among (drop i marked) f = c.loop-place.invariant in
    let goal : place_among marked f ≡ (i + 1) + place_among (drop (i + 1) marked) f = omega (arith, before, here, past) in goal

pub returns-then-mark-symbol : goal.returns-then-mark-symbol
returns-then-mark-symbol c =
    let i = c.loop-place.place in
    let marked : List ℕ = c.args.marked.now in
    let f = c.args.symbol in
    let here = ap (λ (l : List ℕ). place_among l f) (drop_more marked i 0 c.loop-place-test.true) in
    let first = place_here (get_or marked i 0) f (drop (i + 1) marked) c.if-mark-symbol.true in
    let before : place_among marked f ≡ i + place_among (drop i marked) f = c.loop-place.invariant in
    omega (arith, before, here, first)

pub returns : goal.returns
returns c =
    let i = c.loop-place.place in
    let marked : List ℕ = c.args.marked.now in
    let f = c.args.symbol in
    let none = ap (λ (l : List ℕ). place_among l f) (drop_all i marked c.loop-place-test.false) in
    let before : place_among marked f ≡ i + place_among (drop i marked) f = c.loop-place.invariant in
    let end : i ≤ length marked = c.loop-place.auto.place-end in
    omega (arith, before, none, end, c.loop-place-test.false)
