use Rattle.std.proofs.Common.{◌≡◌, ◌==◌, ◌<◌, true, false, List, ℕ, length, get_or, ap, sym, ◌∙◌, arith, tests}
use Rattle.std.proofs.lemmas.List.{get_or_default}
use Rattle.wh_poly_blocking.specs.Sizes.{value_of}
use Rattle.wh_find_order.proofs.BitLemmas.{keeps_by, picks_by, none_by}
use Rattle.wh_find_order.proofs.filters.filter_by.Goals.{else-is_empty-2-via-then-is_empty-2+else-as_slice-eq1, else-is_empty-2-via-else-is_empty-2}
use Rattle.wh_find_order.proofs.filters.filter_by.Goals as goal

pub returns-then-is_empty : goal.returns-then-is_empty
returns-then-is_empty c =
    let empty : (length c.as_slice.result.now == 0) ≡ true = sym c.is_empty.ensures ∙ c.if-is_empty.true in
    let short : length c.as_slice.result.now ≡ 0 = grind (arith, tests, empty) in
    let none : length c.in_ok-picked.picked ≡ 0 = ap (λ (l : List ℕ). length l) (sym c.as_slice.ensures) ∙ short in
    keeps_by (value_of c.args.values.now) c.args.precedence_bits c.args.from c.args.places c.in_ok-kept.kept c.in_ok-picked.picked
    c.in_ok-kept.ensures c.in_ok-picked.ensures c.number_by-prec.result c.number_by-prec.ensures none

pub returns-then-as_slice-eq1 : goal.returns-then-as_slice-eq1
returns-then-as_slice-eq1 c =
    let kept = c.in_ok-kept.kept in
    let picked = c.in_ok-picked.picked in
    let empty : (length c.as_slice-2.result.now == 0) ≡ true = sym c.is_empty-2.ensures ∙ c.if-is_empty-2.true in
    let short : length c.as_slice-2.result.now ≡ 0 = grind (arith, tests, empty) in
    let none : length kept ≡ 0 = ap (λ (l : List ℕ). length l) (sym c.as_slice-2.ensures) ∙ short in
    let one : length picked ≡ 1 = ap (λ (l : List ℕ). length l) (sym c.as_slice-then-is_empty-2.ensures) ∙ c.if-as_slice-eq1.true in
    let place = get_or c.as_slice-then-as_slice-eq1.result.now 0 0 in
    let read : place ≡ get_or picked 0 place =
    ap (λ (l : List ℕ). get_or l 0 0) c.as_slice-then-as_slice-eq1.ensures ∙ get_or_default picked 0 0 place (omega (arith, one)) in
    picks_by (value_of c.args.values.now) c.args.precedence_bits c.args.from c.args.places kept picked
    c.in_ok-kept.ensures c.in_ok-picked.ensures place none one read

pub returns : goal.returns
returns c =
    let kept = c.in_ok-kept.kept in
    let picked = c.in_ok-picked.picked in
    let full : (length c.as_slice.result.now == 0) ≡ false = sym c.is_empty.ensures ∙ c.if-is_empty.false in
    let long : 0 < length c.as_slice.result.now = grind (arith, tests, full) in
    let some : 0 < length picked = omega (arith, long, ap (λ (l : List ℕ). length l) c.as_slice.ensures) in
    let other : length kept ≡ 0 → length picked ≡ 1 → ⊥ = λ none one. elim c.else-is_empty-2.branch [
      | else-is_empty-2-via-then-is_empty-2+else-as_slice-eq1 w ↦
          w.if-as_slice-eq1.false (ap (λ (l : List ℕ). length l) w.as_slice-then-is_empty-2.ensures ∙ one)
      | else-is_empty-2-via-else-is_empty-2 w ↦
          (let held : (length c.as_slice-2.result.now == 0) ≡ false = sym c.is_empty-2.ensures ∙ w.if-is_empty-2.false in
          let more : 0 < length c.as_slice-2.result.now = grind (arith, tests, held) in
          omega (arith, more, none, ap (λ (l : List ℕ). length l) c.as_slice-2.ensures))
    ] in
    none_by (value_of c.args.values.now) c.args.precedence_bits c.args.from c.args.places kept picked c.in_ok-kept.ensures c.in_ok-picked.ensures some other
