-- What is told of a condition under readings.
use Rattle.std.proofs.Common.{◌≡◌, ℕ, ◌+◌, Bool, true, false, Some, slice_get, length, Result, Ok, Err, IfOk, sym, subst}
use Rattle.std.specs.Bool.{OnTrue}
use Rattle.std.specs.declared.alloc.AllocError.{AllocError}
use Rattle.wh_types.specs.Outcome.{IfBecause, MatchOr}
use Rattle.wh_types.specs.declared.want.Or.{Or}
use Rattle.wh_types.specs.declared.want.Or.TheVariants.{NoMemory, Because}
use Rattle.wh_terms.specs.Rules.{RewriteRule}
use Rattle.wh_pairs.specs.PairData.{PairData}
use Rattle.wh_reduction_pairs.specs.TaskData.{TaskData}
use Rattle.wh_polycheck.specs.Readings.{ReadingsData}
use Rattle.wh_polycheck.specs.Covering.{pair_run}
use Rattle.wh_poly_guesses.specs.Conditions.{covers_rule, covers_pair, some_strictly, of_rule, of_pair, of_set, Meets, Fails}
use Rattle.wh_poly_guesses.specs.Lines.{IsNotMet, IsUncoveredRule}

pub because_so : (T : Type 0) {E : Type 0} (o : Or E) (e : E) (P : E → Type 0) → o ≡ Because e → IfBecause {T = T} (Err o) P → P e
because_so T NoMemory e P is h = absurd (cc)
because_so T (Because f) e P is h = let same : f ≡ e = cc in subst P same h

pub matched_because : {T E : Type 0} (o : Or E) (e : E) (A : T → Type 0) (B : E → Type 0) → o ≡ Because e → MatchOr (Err o) A B → B e
matched_because NoMemory e A B is h = absurd (cc)
matched_because (Because f) e A B is h = let same : f ≡ e = cc in subst B same h

told_as : (r : Result Bool AllocError) (P Q : Type 0) → (P → Q) → IfOk r (λ told. OnTrue told P) → IfOk r (λ told. OnTrue told Q)
told_as (Ok true) P Q f h = f h
told_as (Ok false) P Q f h = tt
told_as (Err e) P Q f h = tt

module _ (T : TaskData) (R Q : ReadingsData) (same : R ≡ Q) (k : ℕ) (told : Result Bool AllocError) where
  pub rule_told : (n : ℕ) (r : RewriteRule) → slice_get T.covered k ≡ Some n → slice_get T.rules n ≡ Some r
      → IfOk told (λ b. OnTrue b (IsUncoveredRule R r)) → IfOk told (λ b. OnTrue b (Fails T Q k))
  rule_told n r place at h =
      told_as told (IsUncoveredRule R r) (Fails T Q k)
      (λ never. subst (λ (R : ReadingsData). Fails T R k) same (covers_rule r, of_rule k n r place at, never)) h

  pub pair_told : (i n : ℕ) (p : PairData) → k ≡ length T.covered + i → slice_get T.set i ≡ Some n → slice_get T.pairs n ≡ Some p
      → IfOk told (λ b. OnTrue b (IsNotMet (pair_run T.symbols T.rules R p false) (pair_run T.symbols T.rules R p true)))
      → IfOk told (λ b. OnTrue b (Fails T Q k))
  pair_told i n p is place at h =
      told_as told (IsNotMet (pair_run T.symbols T.rules R p false) (pair_run T.symbols T.rules R p true)) (Fails T Q k)
      (λ never. subst (λ (k : ℕ). Fails T Q k) (sym is)
      (subst (λ (R : ReadingsData). Fails T R (length T.covered + i)) same (covers_pair p, of_pair i n p place at, never))) h

  pub set_told : k ≡ length T.covered + length T.set → IfOk told (λ b. OnTrue b (Meets T R some_strictly → ⊥))
      → IfOk told (λ b. OnTrue b (Fails T Q k))
  set_told is h =
      told_as told (Meets T R some_strictly → ⊥) (Fails T Q k)
      (λ never. subst (λ (k : ℕ). Fails T Q k) (sym is)
      (subst (λ (R : ReadingsData). Fails T R (length T.covered + length T.set)) same (some_strictly, of_set, never))) h
