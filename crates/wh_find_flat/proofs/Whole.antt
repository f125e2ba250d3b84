-- The whole circuit: its requirements come to what is asked of coefficients.
use Rattle.std.proofs.Common.{◌≡◌, ℕ, zero, suc, ◌+◌, ◌*◌, ◌<◌, ◌≤◌, nat_lt, inl, inr, Bool, true, false, List, [], ◌∷◌, ◌++◌, length, get_or, Some, slice_get, All, Contains, Option, sum_by, refl, ap, sym, subst, ◌∙◌, arith, tests}
use Rattle.std.proofs.lemmas.Option.{none-some, same_Some, slice_get_within, slice_get-get_or}
use Rattle.wh_sat_trail.specs.declared.literal.Literal.{Literal}
use Rattle.wh_sat.specs.Solving.{clause_true, literal_true}
use Rattle.wh_terms.specs.Typing.{Symbols}
use Rattle.wh_terms.specs.Rules.{RewriteRule}
use Rattle.wh_pairs.specs.PairData.{PairData}
use Rattle.wh_pairs.specs.Sets.{InSet}
use Rattle.wh_reduction_pairs.specs.TaskData.{TaskData}
use Rattle.std.specs.Option.{option_map_or}
use Rattle.std.proofs.lemmas.List.Sums.{sum_by-cons}
use Rattle.std.proofs.lemmas.List.Elements.{All-contains}
use Rattle.wh_poly_flat.specs.Flat.{IsListed, all_occurrences, occurrences_at, pair_occurrences, rule_occurrences, rule_occurrences_at}
use Rattle.wh_pairs.proofs.ByPlace.{contains_at, place_of, some_one}
use Rattle.wh_circuit.specs.declared.circuit.Circuit.{Circuit}
use Rattle.wh_circuit.specs.declared.circuit.Gate.{Gate}
use Rattle.wh_circuit.specs.Gates.{Agrees, AreWires, Means}
use Rattle.wh_circuit.specs.State.{gates_of, required_of}
use Rattle.wh_circuit.specs.Values.{all_true}
use Rattle.wh_circuit.proofs.Gating.{slice_get_front}
use Rattle.wh_circuit.proofs.Solving.{cases_bool}
use Rattle.wh_poly_flat.specs.Worth.{IsGreater, constant_of}
use Rattle.wh_poly_flat.specs.Dominance.{LetsGoBy}
use Rattle.wh_find_flat.specs.Answers.{most_variables}
use Rattle.wh_find_flat.specs.Lists.{lists_for}
use Rattle.wh_find_flat.specs.Numbers.{Later, AreInputs, Asks, Builds}
use Rattle.wh_find_flat.specs.Ready.{AreGreater, IsFlatCircuit, IsReadyRule, PairHolds, RuleHolds, left_of, right_of}
use Rattle.wh_find_flat.proofs.AskLemmas.{asks_then, asks_wire}
use Rattle.wh_find_flat.proofs.Growth.{agrees_early}
use Rattle.wh_find_flat.proofs.Small.{occurs_some}

inputs_stay : (count : ℕ) (xs ys : List Gate) → Later xs ys → AreInputs count xs → AreInputs count ys
inputs_stay count xs ys (n, e) inputs k less =
    let (g, at, is) = inputs k less in
    (g, slice_get_front (length xs) ys k g (subst (λ (l : List Gate). slice_get l k ≡ Some g) (sym e.kept) at), is)

-- a true clause has a true literal

abbrev IsTrueIn : (ℕ → Bool) → List Literal → Type 0
IsTrueIn v ls = (k : ℕ) × (w : Literal) × (slice_get ls k ≡ Some w) × (literal_true v w ≡ true)

some_true : (v : ℕ → Bool) (ls : List Literal) → clause_true v ls ≡ true → IsTrueIn v ls
some_true v [] h = absurd (grind (arith, tests, h))
some_true v (l ∷ ls) h = elim (cases_bool (literal_true v l)) [
  | inl here ↦ (0, l, refl, here)
  | inr not_here ↦
      let rest : clause_true v ls ≡ true = grind (arith, tests, h, not_here) in
      let (k, w, at, is) = some_true v ls rest in (suc k, w, at, is)
]

true_some : (v : ℕ → Bool) (ls : List Literal) (k : ℕ) (w : Literal) → slice_get ls k ≡ Some w → literal_true v w ≡ true → clause_true v ls ≡ true
true_some v [] k w at is = absurd (none-some w at)
true_some v (l ∷ ls) zero w at is =
    let here : literal_true v l ≡ true = ap (literal_true v) (same_Some l w at) ∙ is in grind (arith, tests, here)
true_some v (l ∷ ls) (suc k) w at is = let rest = true_some v ls k w at is in grind (arith, tests, rest)

less_of : (m n : ℕ) → nat_lt m n ≡ true → m < n
less_of m n h = grind (arith, tests, h)

of_less : (m n : ℕ) → m < n → nat_lt m n ≡ true
of_less m n h = grind (arith, tests, h)

pair_there : (pairs : List PairData) (n : ℕ) → n < length pairs → (p : PairData) × (slice_get pairs n ≡ Some p)
pair_there [] n h = absurd (omega (arith, h))
pair_there (p ∷ pairs) zero h = (p, refl)
pair_there (p ∷ pairs) (suc n) h = pair_there pairs n (omega (arith, h))

pub greater_own : (sizes : List ℕ) (first : ℕ) (marked : List ℕ) (pairs : List PairData) (set : List ℕ) (gates : List Gate) (wires : List Literal)
    → ((k : ℕ) → k < length set → get_or set k 0 < length pairs) → AreGreater sizes first marked pairs set gates wires → AreWires gates wires
greater_own sizes first marked pairs set gates wires within are i d less =
    let k : i < length set = (let c = are.count in omega (arith, less, c)) in
    let n = get_or set i 0 in
    let at = slice_get-get_or set i 0 k in
    let (p, there) = pair_there pairs n (within i k) in
    (are.each i (get_or wires i d) (slice_get-get_or wires i d less) n p at there).own

-- some pair has a greater left side
abbrev IsSomeGreater : List ℕ → ℕ → List ℕ → List PairData → List ℕ → (ℕ → Bool) → Type 0
IsSomeGreater sizes first marked pairs set v =
    (p : PairData) × InSet pairs set p × IsGreater (lists_for sizes v) (left_of first marked p) (right_of first marked p)

module _ (sizes : List ℕ) (T : TaskData) (marked : List ℕ) (within : (k : ℕ) → k < length T.set → get_or T.set k 0 < length T.pairs) where
  abbrev S : Symbols
  S = T.symbols

  abbrev rules : List RewriteRule
  rules = T.rules

  abbrev listed : List ℕ
  listed = T.covered

  abbrev pairs : List PairData
  pairs = T.pairs

  abbrev set : List ℕ
  set = T.set

  module _ (gates : List Gate) (wires : List Literal) (are : AreGreater sizes (length S.funs) marked pairs set gates wires) where
    some_of : (v : ℕ → Bool) → Agrees gates v → clause_true v wires ≡ true → IsSomeGreater sizes (length S.funs) marked pairs set v
    some_of v a h =
        let (k, w, at, is) = some_true v wires h in
        let less : k < length set = (let c = are.count in let b = slice_get_within wires k w at in omega (arith, c, b)) in
        let n = get_or set k 0 in
        let si = slice_get-get_or set k 0 less in
        let (p, there) = pair_there pairs n (within k less) in
        let m = are.each k w at n p si there in (
          p,
          (n, contains_at set k n si, there),
          less_of (constant_of (lists_for sizes v) (right_of (length S.funs) marked p))
              (constant_of (lists_for sizes v) (left_of (length S.funs) marked p)) (sym (m.is v a) ∙ is),
        )

    of_some : (v : ℕ → Bool) → Agrees gates v → IsSomeGreater sizes (length S.funs) marked pairs set v → clause_true v wires ≡ true
    of_some v a (p, (n, c, there), g) =
        let (k, si) = place_of set n c in
        let less : k < length wires = (let e = are.count in let b = slice_get_within set k n si in omega (arith, e, b)) in
        let none : Literal = record { variable = 0; positive = false } in
        let w = get_or wires k none in
        let at = slice_get-get_or wires k none less in
        let m = are.each k w at n p si there in
        true_some v wires k w at (m.is v a ∙ of_less (constant_of (lists_for sizes v) (right_of (length S.funs) marked p))
        (constant_of (lists_for sizes v) (left_of (length S.funs) marked p)) g)

  pub whole : (count : ℕ) (c0 c1 c2 c3 c4 : Circuit) (wires : List Literal) (some : Literal) → AreInputs count (gates_of c0) → required_of c0 ≡ []
      → Asks c0 c1 (λ v. (k : ℕ) → k < length listed → RuleHolds sizes rules listed v k)
      → Asks c1 c2 (λ v. (k : ℕ) → k < length set → PairHolds sizes (length S.funs) marked pairs set v k)
      → AreGreater sizes (length S.funs) marked pairs set (gates_of c2) wires
      → Builds 1 c2 c3 → Means (gates_of c3) some (λ v. clause_true v wires)
      → gates_of c4 ≡ gates_of c3 → required_of c4 ≡ required_of c3 ++ some ∷ []
      → IsFlatCircuit sizes T marked count c4
  whole count c0 c1 c2 c3 c4 wires some inputs none g h are built means gates more =
      let k : Asks c2 c4 (IsSomeGreater sizes (length S.funs) marked pairs set) =
      asks_wire c2 c3 c4 some (λ v. clause_true v wires) (IsSomeGreater sizes (length S.funs) marked pairs set) built.gates built.required gates more means
      (λ v a e. some_of (gates_of c2) wires are v (agrees_early (gates_of c2) (gates_of c3) v built.gates a) e)
      (λ v a e. of_some (gates_of c2) wires are v (agrees_early (gates_of c2) (gates_of c3) v built.gates a) e) in
      let P : (ℕ → Bool) → Type 0 = λ v. (k : ℕ) → k < length listed → RuleHolds sizes rules listed v k in
      let Q : (ℕ → Bool) → Type 0 = λ v. (k : ℕ) → k < length set → PairHolds sizes (length S.funs) marked pairs set v k in
      let both : Asks c0 c2 (λ v. P v × Q v) = asks_then c0 c1 c2 P Q (λ v. P v × Q v) g h (λ v a p q. (p, q)) (λ v a r. r.0) (λ v a r. r.1) in
      let all : Asks c0 c4 (λ v. LetsGoBy T marked (lists_for sizes v)) =
      asks_then c0 c2 c4 (λ v. P v × Q v) (IsSomeGreater sizes (length S.funs) marked pairs set) (λ v. LetsGoBy T marked (lists_for sizes v)) both k
      (λ v a pq s. record {
        rules_at_least = λ r is. (let (n, c, at) = is in let (i, li) = place_of listed n c in pq.0 i (slice_get_within listed i n li) n r li at);
        pairs_at_least = λ p in_set. (let (n, c, at) = in_set in let (i, si) = place_of set n c in pq.1 i (slice_get_within set i n si) n p si at);
        some_greater = s;
      })
      (λ v a l. ((λ i less n r li at. l.rules_at_least r (n, contains_at listed i n li, at)), (λ i less n p si at. l.pairs_at_least p (n, contains_at set i n si, at))))
      (λ v a l. l.some_greater) in
      record {
        inputs = inputs_stay count (gates_of c0) (gates_of c4) all.gates inputs;
        met = λ v a t. (all.met v a t).1;
        asks = λ v a l. all.asks v a (ap (all_true v) none) l;
      }

-- sums of numbers of which each is at least 2
pub least_sum : {A : Type 0} (f : A → ℕ) (xs : List A) → ((x : A) → Contains xs x → 2 ≤ f x) → 2 * length xs ≤ sum_by f xs
least_sum f [] h = omega arith
least_sum f (x ∷ xs) h =
    let a = h x (contains_at (x ∷ xs) 0 x refl) in
    let b = least_sum f xs (λ y c. (let (i, at) = place_of xs y c in h y (contains_at (x ∷ xs) (suc i) y at))) in
    let e = sum_by-cons f x xs in
    omega (arith, a, b, e)

rule_there : (rules : List RewriteRule) (n : ℕ) → n < length rules → (r : RewriteRule) × (slice_get rules n ≡ Some r)
rule_there [] n h = absurd (omega (arith, h))
rule_there (r ∷ rules) zero h = (r, refl)
rule_there (r ∷ rules) (suc n) h = rule_there rules n (omega (arith, h))

-- in all at least two in each rule that is to be covered, and in each pair of the set
pub many_occurrences : (T : TaskData) → All (λ n. n < length T.rules) T.covered → ((r : RewriteRule) → IsListed T.rules T.covered r → IsReadyRule r)
    → ((k : ℕ) → k < length T.set → get_or T.set k 0 < length T.pairs) → 2 * (length T.covered + length T.set) ≤ all_occurrences T
many_occurrences T listed_within ready within =
    let a = least_sum (rule_occurrences_at T.rules) T.covered (λ n c. (let (r, there) = rule_there T.rules n (All-contains (λ n. n < length T.rules) T.covered n listed_within c) in
    let p = (ready r (n, c, there)).plain in
    let x = occurs_some r.left p.left_plain in let y = occurs_some r.right p.right_plain in
    let e : rule_occurrences_at T.rules n ≡ rule_occurrences r = ap (λ (o : Option RewriteRule). option_map_or rule_occurrences o 0) there in
    omega (arith, x, y, e))) in
    let b = least_sum (occurrences_at T.pairs) T.set (λ n c. (let (k, at) = place_of T.set n c in
    let less = slice_get_within T.set k n at in
    let same : get_or T.set k 0 ≡ n = some_one (slice_get-get_or T.set k 0 less) at in
    let (p, there) = pair_there T.pairs n (subst (λ n. n < length T.pairs) same (within k less)) in
    let e : occurrences_at T.pairs n ≡ pair_occurrences p = ap (λ (o : Option PairData). option_map_or pair_occurrences o 0) there in
    omega (arith, e))) in
    omega (arith, a, b)

-- the circuit has at most `most_variables` variables
pub fits_variables : (covered : List ℕ) (n all : ℕ) → (1 ≤ length covered → n ≤ 200000 * all) → n ≤ 200000 * (all + 2) → n ≤ most_variables covered all
fits_variables [] n all some any = any
fits_variables (m ∷ covered) n all some any = some (omega arith)
