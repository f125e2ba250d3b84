-- A set is flat just where its rules, and then its pairs, leave something of the room.
use Rattle.std.proofs.Common.{◌≡◌, ℕ, ◌≤◌, ◌↔◌, IsTrue, Option, Some, None, List, sum_by, refl, subst, arith}
use Rattle.std.specs.Option.{is_some}
use Rattle.wh_terms.specs.Budget.{Left}
use Rattle.wh_terms.specs.Rules.{RewriteRule}
use Rattle.wh_terms.specs.Typing.{Symbols}
use Rattle.wh_pairs.specs.PairData.{PairData}
use Rattle.wh_pairs.specs.Sets.{InSet}
use Rattle.wh_reduction_pairs.specs.TaskData.{TaskData}
use Rattle.wh_poly_flat.specs.Flat.{IsFlat, IsFlatPair, IsFlatRule, IsListed, occurrences_at, rule_occurrences_at}

-- what is left beyond the rules, and then beyond the pairs of the set
abbrev pub AfterRules : Symbols → List RewriteRule → List ℕ → Option ℕ → Type 0
AfterRules S rules listed answer = Left 8192 (sum_by (rule_occurrences_at rules) listed)
    (((r : RewriteRule) → IsListed rules listed r → IsFlatRule S r) × (sum_by (rule_occurrences_at rules) listed ≤ 8192)) answer

abbrev pub AfterPairs : Symbols → List PairData → List ℕ → ℕ → Option ℕ → Type 0
AfterPairs S pairs set rest answer = Left rest (sum_by (occurrences_at pairs) set)
    (((p : PairData) → InSet pairs set p → IsFlatPair S p) × (sum_by (occurrences_at pairs) set ≤ rest)) answer

module _ (T : TaskData) where
  pub rules_of : (S : Symbols) (rules : List RewriteRule) (answer known : Option ℕ) → S ≡ T.symbols → rules ≡ T.rules → answer ≡ known
      → AfterRules S rules T.covered answer → AfterRules T.symbols T.rules T.covered known
  rules_of S rules answer known s r a h =
      subst (AfterRules T.symbols T.rules T.covered) a
      (subst (λ l. AfterRules T.symbols l T.covered answer) r (subst (λ S. AfterRules S rules T.covered answer) s h))

  pub pairs_of : (S : Symbols) (rest : ℕ) (answer : Option ℕ) → S ≡ T.symbols → AfterPairs S T.pairs T.set rest answer
      → AfterPairs T.symbols T.pairs T.set rest answer
  pairs_of S rest answer s h = subst (λ S. AfterPairs S T.pairs T.set rest answer) s h

  pub rules_fail : AfterRules T.symbols T.rules T.covered None → IsFlat T → ⊥
  rules_fail fails flat = let few = flat.few in fails (flat.rules, omega (arith, few))

  pub pairs_decide : (rest : ℕ) → AfterRules T.symbols T.rules T.covered (Some rest) → (answer : Option ℕ) → AfterPairs T.symbols T.pairs T.set rest answer
      → IsTrue (is_some answer) ↔ IsFlat T
  pairs_decide rest ((rules, fit), adds) None fails =
      (λ yes. cc yes, λ flat. (let few = flat.few in absurd (fails (flat.pairs_of_set, omega (arith, few, adds)))))
  pairs_decide rest ((rules, fit), adds) (Some left) ((pairs, fits), more) =
      (λ yes. record { rules = rules; pairs_of_set = pairs; few = omega (arith, adds, more) }, λ flat. refl)
