-- What is left of a list of pairs after those that a candidate subsumes were taken out.
use Rattle.std.proofs.Common.{◌≡◌, Bool, true, false, List, [], ◌∷◌, length, refl, subst, sym, arith}
use Rattle.std.specs.List.Retain.{IsFiltered, ReturnsInTurn}
use Rattle.std.specs.List.{items_where_true}
use Rattle.wh_pairs.specs.PairData.{PairData, pair_data}
use Rattle.wh_pairs.specs.declared.pair.Pair.{Pair}
use Rattle.wh_pairs.specs.Subsumption.{IsSubsumed}
use Rattle.wh_pairs.specs.Views.{pairs_data}
use Rattle.wh_pairs.proofs.SubsumptionLaws.{Thinned, thin_none, thin_out, thin_keep}

-- a test that says whether c does not subsume a pair
pub record Says (c : PairData) (x : Pair) (b : Bool) : Type 0 where
  pub kept : b ≡ true → IsSubsumed (pair_data x) c → ⊥
  pub taken : b ≡ false → IsSubsumed (pair_data x) c

-- a closure that says so, and stays as it is, was called at each pair
in_turn : {F : Type 0} (R : F → Pair → Bool → F → Type 0) (c : PairData) (f : F) (says : (x : Pair) (b : Bool) (g : F) → R f x b g → Says c x b × (g ≡ f)) (g h : F) → h ≡ f
    → (bs : List Bool) (xs : List Pair) → length bs ≡ length xs → ReturnsInTurn R h bs xs g → Thinned c (pairs_data xs) (pairs_data (items_where_true bs xs))
in_turn R c f says g h same [] [] e t = thin_none
in_turn R c f says g h same [] (x ∷ xs) e t = absurd (omega arith)
in_turn R c f says g h same (b ∷ bs) [] e t = absurd (omega arith)
in_turn R c f says g h same (true ∷ bs) (x ∷ xs) e (j, r, t) =
    let told = says x true j (subst (λ k. R k x true j) same r) in
    thin_keep (told.0.kept refl) (in_turn R c f says g j told.1 bs xs (omega arith) t)
in_turn R c f says g h same (false ∷ bs) (x ∷ xs) e (j, r, t) =
    let told = says x false j (subst (λ k. R k x false j) same r) in
    thin_out (told.0.taken refl) (in_turn R c f says g j told.1 bs xs (omega arith) t)

pub thinned_by : {F : Type 0} (R : F → Pair → Bool → F → Type 0) (c : PairData) (f : F) (says : (x : Pair) (b : Bool) (g : F) → R f x b g → Says c x b × (g ≡ f))
    → (xs ys : List Pair) → IsFiltered R f xs ys → Thinned c (pairs_data xs) (pairs_data ys)
thinned_by R c f says xs ys (bs, g, long, turns, is) = subst (λ zs. Thinned c (pairs_data xs) (pairs_data zs)) (sym is) (in_turn R c f says g f refl bs xs long turns)
