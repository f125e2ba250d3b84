use Rattle.std.proofs.Common.{ℕ, ◌+◌, ◌<◌, inl, inr, List, sym, subst, arith}
use Rattle.std.proofs.lemmas.Bool.{cases_lt}
use Rattle.wh_pairs.specs.Sets.{IsSetOf}
use Rattle.wh_pairs.proofs.SetLemmas.{all_from_members, set_same, set_push}
use Rattle.wh_pairs.proofs.sets.numbers_below.Goals as goal

pub push-requires : goal.push-requires
push-requires c = all_from_members (λ m. m < c.loop-number.number) c.loop-number.set (λ m found. (c.loop-number.invariant.each m).0 found)

pub loop-number-preserved : goal.loop-number-preserved
loop-number-preserved c =
    let n = c.loop-number.number in
    subst (λ (set : List ℕ). IsSetOf (λ m. m < n + 1) set) (sym c.in_ok-push.ensures.ok)
    (set_push (λ m. m < n) (λ m. m < n + 1) c.loop-number.set n c.loop-number.invariant (λ m less. less) (λ m. (
      λ less. elim (cases_lt m n) [ inl below ↦ inl below | inr le ↦ inr (omega arith) ],
      λ either. elim either [ inl below ↦ omega arith | inr same ↦ omega arith ],
    )))

pub returns : goal.returns
returns c =
    set_same (λ m. m < c.loop-number.number) (λ m. m < c.args.count) c.loop-number.set c.loop-number.invariant
    (λ m. (λ less. omega (arith, c.loop-number.auto.number-end), λ less. omega (arith, c.loop-number-test.false)))
