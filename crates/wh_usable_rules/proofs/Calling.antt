-- What is called at the end is just what is called from the set.
use Rattle.std.proofs.Common.{◌≡◌, ℕ, zero, suc, ◌<◌, ◌≤◌, inl, inr, Bool, true, false, List, length, replicate, Contains, Some, slice_get, refl, ap, sym, subst, arith}
use Rattle.std.proofs.lemmas.Option.{slice_get_within}
use Rattle.wh_terms.specs.Tree.{fun, head}
use Rattle.wh_terms.specs.Typing.{Symbols}
use Rattle.wh_terms.specs.Rules.{RewriteRule, IsWellMade}
use Rattle.wh_pairs.specs.PairData.{PairData}
use Rattle.wh_pairs.specs.Sets.{IsSetOf}
use Rattle.wh_pairs.proofs.ByPlace.{some_one, contains_at}
use Rattle.wh_reduction_pairs.specs.TaskData.{task_over}
use Rattle.wh_usable.specs.Closed.{HasSymbol}
use Rattle.wh_usable_rules.specs.Tables.{Says, Enters}
use Rattle.wh_usable_rules.specs.Called.{Reaches, from, by_rule, StandsInPairs, AreRulesOfCalled}
use Rattle.wh_usable_rules.specs.Taken.{AreTaken, IsFollowed}
use Rattle.wh_usable_rules.proofs.Takings.{reaches_on}
use Rattle.wh_usable.proofs.TableLemmas.{left_typed, head_within}

-- a table of no says yes of nothing
pub says_nothing : (k n : ℕ) → Says (replicate k false) n → ⊥
says_nothing zero n says = cc
says_nothing (suc k) zero says = cc
says_nothing (suc k) (suc n) says = says_nothing k n says

pub as_long : (k : ℕ) → length (replicate k false) ≡ k
as_long zero = refl
as_long (suc k) = ap suc (as_long k)

-- the symbol that heads a typed tree is a symbol
module _ (S : Symbols) (rules : List RewriteRule) (pairs : List PairData) (set : List ℕ)
    (made : (r : RewriteRule) → Contains rules r → IsWellMade S r) (few : length S.funs ≤ 1024)
    (none called now untaken taken : List Bool) (long : length none ≡ 1024) (nothing : (f : ℕ) → Says none f → ⊥)
    (enters : Enters (StandsInPairs pairs set) none called) (never : (n : ℕ) → Says untaken n → ⊥)
    (are : AreTaken rules called untaken now taken) where
  heads_within : (r : RewriteRule) (n f : ℕ) → slice_get rules n ≡ Some r → head r.left ≡ fun f → f < 1024
  heads_within r n f at heads =
      let inside = head_within (left_typed r (made r (contains_at rules n r at))) f heads in omega (arith, inside, few)

  -- what is called is called from the set
  called_from : {f : ℕ} → Says now f → Reaches rules (StandsInPairs pairs set) f
  called_from {f} says = reaches_on rules (Says called) (StandsInPairs pairs set) (λ g there.
      let within = slice_get_within called g true there in
      elim ((enters.each g (omega (arith, within, enters.same_length))).0 there) [
        | inl before ↦ absurd (nothing g before)
        | inr stands ↦ from g stands
      ]) (are.takes.called_only f says)

  followed : (n : ℕ) → Says taken n → IsFollowed rules now n
  followed n says = elim (are.takes.taken_only n says) [ inl before ↦ absurd (never n before) | inr is ↦ is ]

  -- and the other way round
  says_called : {f : ℕ} → Reaches rules (StandsInPairs pairs set) f → f < 1024 → Says now f
  says_called (from f stands) within = are.takes.called_kept f ((enters.each f (omega (arith, within, long))).1 (inr stands))
  says_called (by_rule n r g f at heads reached has) within =
      let is_called = says_called reached (heads_within r n g at heads) in
      let is = followed n (are.all n r g (slice_get_within rules n r at) at heads is_called) in
      let same : is.rule ≡ r = some_one is.there at in
      is.calls f (subst (λ (x : RewriteRule). HasSymbol f x.right) (sym same) has)
      (omega (arith, within, long, enters.same_length, are.takes.called_length))

  pub rules_of_called : (listed : List ℕ) → IsSetOf (Says taken) listed → AreRulesOfCalled (task_over S rules pairs set listed)
  rules_of_called listed is = record {
    of_called = λ n found.
        let f = followed n ((is.each n).0 found) in (f.rule, f.symbol, f.there, f.heads, called_from f.is_called);
    all = λ f reached n r at heads.
        (is.each n).1 (are.all n r f (slice_get_within rules n r at) at heads (says_called reached (heads_within r n f at heads)));
  }
