use Rattle.std.proofs.Common.{ℕ, ◌+◌, ◌<◌, List, inl, inr, true, sym, subst, ◌∙◌, arith}
use Rattle.std.proofs.lemmas.Bool.{cases_lt}
use Rattle.std.proofs.lemmas.Option.{slice_get_within}
use Rattle.wh_pairs.specs.Sets.{IsSetOf}
use Rattle.wh_pairs.proofs.SetLemmas.{set_push, set_same}
use Rattle.wh_usable_rules.specs.Tables.{Says}
use Rattle.wh_usable_rules.proofs.taking.numbers_of.Goals.{then-says+in_ok-push, else-says}
use Rattle.wh_usable_rules.proofs.taking.numbers_of.Goals as goal

pub loop-number-preserved : goal.loop-number-preserved
loop-number-preserved c =
    let taken = c.args.taken.now in
    let k = c.loop-number.number in
    let P : ℕ → Type 0 = λ n. (n < k) × Says taken n in
    let Q : ℕ → Type 0 = λ n. (n < k + 1) × Says taken n in
    elim c.if-says.branch [
      | then-says+in_ok-push w ↦ subst (λ (s : List ℕ). IsSetOf Q s) (sym (w.numbers-is ∙ w.in_ok-push.ensures.ok))
          (set_push P Q c.loop-number.numbers k c.loop-number.invariant (λ m p. p.0) (λ m. (
            λ (less, says). elim (cases_lt m k) [ inl below ↦ inl (below, says) | inr le ↦ inr (omega (arith, le, less)) ],
            λ either. elim either [
              | inl (below, says) ↦ (omega (arith, below), says)
              | inr same ↦ (omega (arith, same), subst (Says taken) (sym same) (c.says.ensures.0 w.if-says.true))
            ],
          )))
      | else-says w ↦ subst (λ (s : List ℕ). IsSetOf Q s) (sym w.numbers-is)
          (set_same P Q c.loop-number.numbers c.loop-number.invariant (λ m. (
            λ (below, says). (omega (arith, below), says),
            λ (less, says). elim (cases_lt m k) [
              | inl below ↦ (below, says)
              | inr le ↦ absurd (cc (w.if-says.false, c.says.ensures.1 (subst (Says taken) (omega (arith, le, less)) says)))
            ],
          )))
    ]

pub returns : goal.returns
returns c =
    let taken = c.args.taken.now in
    set_same (λ n. (n < c.loop-number.number) × Says taken n) (Says taken) c.loop-number.numbers c.loop-number.invariant
    (λ n. (λ p. p.1, λ says. (let within = slice_get_within taken n true says in omega (arith, within, c.loop-number-test.false), says)))
