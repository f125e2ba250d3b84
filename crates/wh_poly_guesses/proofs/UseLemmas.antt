-- What is read in rules and in pairs.
use Rattle.std.proofs.Common.{◌≡◌, ℕ, ◌+◌, ◌<◌, ◌⊎◌, ◌↔◌, inl, inr, List, [], ◌∷◌, ◌++◌, length, Some, slice_get, Contains, refl, ap, sym, subst, ◌∙◌, arith}
use Rattle.std.proofs.lemmas.Option.{slice_get_within}
use Rattle.std.proofs.lemmas.List.{length-append}
use Rattle.std.proofs.lemmas.List.Elements.{Contains-push_cases, Contains-append_left, Contains-push}
use Rattle.wh_types.specs.Ty.{Ty}
use Rattle.wh_terms.specs.Tree.{Tm, Tms, none, more, tms_of}
use Rattle.wh_terms.specs.Typing.{Symbols, Declared, Typed, typed_bound, typed_free, typed_fun, typed_meta, typed_lam, typed_app, AllTyped, typed_none, typed_more}
use Rattle.wh_terms.specs.Rules.{RewriteRule}
use Rattle.wh_system.specs.Systems.{SystemData}
use Rattle.wh_system.specs.WellMade.{IsWellMadeSystem}
use Rattle.wh_pairs.specs.PairData.{PairData, IsIncreasing}
use Rattle.wh_system.specs.SystemView.{system_data}
use Rattle.wh_pairs.proofs.ByPlace.{contains_at}
use Rattle.wh_pairs.proofs.Increasing.{one_place}
use Rattle.wh_reduction_pairs.specs.TaskData.{TaskData}
use Rattle.wh_reduction_pairs.specs.TaskView.{task_data}
use Rattle.wh_poly.specs.Polynomials.{zero_poly}
use Rattle.wh_polycheck.specs.Marks.{Mark}
use Rattle.wh_polycheck.specs.Covering.{HaveTypedSides, IsTypedTask}
use Rattle.wh_poly_guesses.specs.Conditions.{Condition, IsCondition, of_rule, of_pair, of_set, HasSymbol, SomeHasSymbol, StandsInPair}
use Rattle.wh_poly_guesses.specs.Uses.{Joins, ListsAll, UsesAll, StandsInRule, IsMarkOf, AreRuleUses, ArePairUses, AreUsesIn, AreAllUses}
use Rattle.wh_poly_guesses.specs.declared.uses.Uses.{Uses}
use Rattle.wh_reduction_pairs.specs.declared.task.Task.{Task}
use Rattle.wh_poly_space.proofs.SpotLemmas.{at_append}

-- numbers that join a list

pub joins_none : (P : ℕ → Type 0) (old : List ℕ) → ((n : ℕ) → P n → ⊥) → Joins P old old
joins_none P old never n = (inl, λ h. elim h [ inl there ↦ there | inr p ↦ absurd (never n p) ])

pub joins_one : (f : ℕ) (old new : List ℕ) → new ≡ old ++ f ∷ [] → Joins (λ n. f ≡ n) old new
joins_one f old new pushed = subst (Joins (λ n. f ≡ n) old) (sym pushed) (λ n. (
  λ found. elim (Contains-push_cases old f n found) [ inl before ↦ inl before | inr same ↦ inr same ],
  λ h. elim h [ inl before ↦ Contains-append_left old (f ∷ []) n before | inr same ↦ subst (Contains (old ++ f ∷ [])) same (Contains-push old f) ],
))

pub joins_both : (P Q : ℕ → Type 0) (old mid new : List ℕ) → Joins P old mid → Joins Q mid new → Joins (λ n. P n ⊎ Q n) old new
joins_both P Q old mid new first second n = (
  λ found. elim ((second n).0 found) [
    | inl before ↦ elim ((first n).0 before) [ inl there ↦ inl there | inr p ↦ inr (inl p) ]
    | inr q ↦ inr (inr q)
  ],
  λ h. elim h [
    | inl there ↦ (second n).1 (inl ((first n).1 (inl there)))
    | inr either ↦ elim either [ inl p ↦ (second n).1 (inl ((first n).1 (inr p))) | inr q ↦ (second n).1 (inr q) ]
  ],
)

-- those of the terms before a place have joined
abbrev pub JoinsSome : Tms → Tms → List ℕ → List ℕ → Type 0
JoinsSome rest all old new = (n : ℕ) → (Contains new n ⊎ SomeHasSymbol n rest) ↔ (Contains old n ⊎ SomeHasSymbol n all)

pub joins_next : (t : Tm) (rest all : Tms) (old mid new : List ℕ) → JoinsSome (more t rest) all old mid → Joins (λ n. HasSymbol n t) mid new → JoinsSome rest all old new
joins_next t rest all old mid new before here n = (
  λ h. elim h [
    | inl found ↦ elim ((here n).0 found) [ inl there ↦ (before n).0 (inl there) | inr has ↦ (before n).0 (inr (inl has)) ]
    | inr later ↦ (before n).0 (inr (inr later))
  ],
  λ h. elim ((before n).1 h) [
    | inl there ↦ inl ((here n).1 (inl there))
    | inr either ↦ elim either [ inl has ↦ inl ((here n).1 (inr has)) | inr later ↦ inr later ]
  ],
)

pub joins_all : (all : Tms) (old new : List ℕ) → JoinsSome none all old new → Joins (λ n. SomeHasSymbol n all) old new
joins_all all old new before n = (
  λ found. (before n).0 (inl found),
  λ h. elim ((before n).1 h) [ inl there ↦ there | inr never ↦ absurd never ],
)

-- symbols of typed trees are there

mutual
  pub symbol_typed : {S : Symbols} {M : List Declared} {Γ : List Ty} {t : Tm} {a : Ty} (f : ℕ) → Typed S M Γ t a → HasSymbol f t → f < length S.funs
  symbol_typed f (typed_bound at) has = absurd has
  symbol_typed f (typed_free below) has = absurd has
  symbol_typed {S = S} f (typed_fun {f = g} {a = a} at) has = let within = slice_get_within S.funs g a at in omega (arith, within, has)
  symbol_typed f (typed_meta at all same) has = symbols_typed f all has
  symbol_typed f (typed_lam below body) has = symbol_typed f body has
  symbol_typed f (typed_app function argument) (inl has) = symbol_typed f function has
  symbol_typed f (typed_app function argument) (inr has) = symbol_typed f argument has

  pub symbols_typed : {S : Symbols} {M : List Declared} {Γ : List Ty} {ts : Tms} {bs : List Ty} (f : ℕ) → AllTyped S M Γ ts bs → SomeHasSymbol f ts → f < length S.funs
  symbols_typed f typed_none has = absurd has
  symbols_typed f (typed_more first rest) (inl has) = symbol_typed f first has
  symbols_typed f (typed_more first rest) (inr has) = symbols_typed f rest has

rule_symbols : (d : SystemData) → IsWellMadeSystem d → (k : ℕ) (r : RewriteRule) → slice_get d.rules k ≡ Some r → (f : ℕ) → StandsInRule f r → f < length d.symbols.funs
rule_symbols d made k r at f stands =
    let all = made.rules in
    let well = all.each r (contains_at d.rules k r at) in
    let (a, left, right) = well.typed in
    elim stands [ inl has ↦ symbol_typed f left has | inr has ↦ symbol_typed f right has ]

pair_symbols : (S : Symbols) (rules : List RewriteRule) (pairs : List PairData) → HaveTypedSides S rules pairs → (n : ℕ) (p : PairData) → slice_get pairs n ≡ Some p
    → (f : ℕ) → StandsInPair f p → f < length S.funs
pair_symbols S rules pairs typed n p at f stands =
    let left : Mark = record { symbol = p.left_fun; polynomial = zero_poly } in
    let right : Mark = record { symbol = p.right_fun; polynomial = zero_poly } in
    let sides = typed (left ∷ right ∷ []) p (contains_at pairs n p at) (left, (0, omega arith, refl), refl) (right, (1, omega arith, refl), refl) in
    elim stands [ inl has ↦ symbols_typed f sides.left_typed has | inr has ↦ symbols_typed f sides.right_typed has ]

-- what is used in the rules, and behind it what is used in the pairs, is all

module _ (t : Task) (marked : List ℕ) (in_rules in_pairs all : List Uses) (first : ℕ) (made : IsWellMadeSystem (system_data t.system.now))
    (typed : IsTypedTask (task_data t)) (of_rules : AreRuleUses (task_data t).rules (task_data t).covered in_rules)
    (of_pairs : ArePairUses first marked (task_data t).pairs (task_data t).set in_pairs)
    (is : all ≡ in_rules ++ in_pairs) (counted : first ≡ length (task_data t).symbols.funs) where
  abbrev T : TaskData
  T = task_data t

  rule_is : (k n : ℕ) (r : RewriteRule) (u : Uses) → slice_get T.covered k ≡ Some n → slice_get T.rules n ≡ Some r
      → slice_get (in_rules ++ in_pairs) k ≡ Some u → AreUsesIn T marked (Condition.covers_rule r) u
  rule_is k n r u place at there m =
      let within = slice_get_within T.covered k n place in
      elim (at_append in_rules in_pairs k u there) [
        | inl here ↦
            let uses = of_rules.each k n r u place at here m in (
              λ h. let stands = uses.0 h in inl (rule_symbols (system_data t.system.now) made n r at m stands, stands),
              λ h. elim h [ inl stands ↦ uses.1 stands.1 | inr mark ↦ absurd (mark.4) ],
            )
        | inr past ↦ absurd (omega (arith, past.1, within, of_rules.count))
      ]

  pair_is : (i n : ℕ) (p : PairData) (u : Uses) → slice_get T.set i ≡ Some n → slice_get T.pairs n ≡ Some p
      → slice_get (in_rules ++ in_pairs) (length T.covered + i) ≡ Some u → AreUsesIn T marked (Condition.covers_pair p) u
  pair_is i n p u place at there m =
      elim (at_append in_rules in_pairs (length T.covered + i) u there) [
        | inl here ↦ absurd (let within = slice_get_within in_rules (length T.covered + i) u here in omega (arith, within, of_rules.count))
        | inr behind ↦
            let e : behind.0 ≡ i = omega (arith, behind.1, of_rules.count) in
            let here = subst (λ (k : ℕ). slice_get in_pairs k ≡ Some u) e behind.2 in
            let uses = of_pairs.each i n p u place at here m in (
              λ h. elim (uses.0 h) [
                | inl stands ↦ inl (pair_symbols T.symbols T.rules T.pairs typed.typed n p at m stands, stands)
                | inr (j, f, number, listed, heads) ↦ inr (j, f, omega (arith, number, counted), listed, heads)
              ],
              λ h. elim h [
                | inl stands ↦ uses.1 (inl stands.1)
                | inr (j, f, number, listed, heads) ↦ uses.1 (inr (j, f, omega (arith, number, counted), listed, heads))
              ],
            )
      ]

  pub all_uses : AreAllUses T marked all
  all_uses = subst (AreAllUses T marked) (sym is) (record {
    count = omega (arith, length-append in_rules in_pairs, of_rules.count, of_pairs.count);
    each = each;
  })
    where
      each : (k : ℕ) (c : Condition) (u : Uses) → IsCondition T k c → slice_get (in_rules ++ in_pairs) k ≡ Some u → AreUsesIn T marked c u
      each k c u (of_rule j n r place at) there = rule_is j n r u place at there
      each k c u (of_pair i n p place at) there = pair_is i n p u place at there
      each k c u of_set there =
          let within = slice_get_within (in_rules ++ in_pairs) (length T.covered + length T.set) u there in
          absurd (omega (arith, within, length-append in_rules in_pairs, of_rules.count, of_pairs.count))

-- what is used in a pair

pub pair_uses : (first : ℕ) (marked : List ℕ) (p : PairData) (r : Uses) (left right : Tms) (a b : ℕ) → IsIncreasing marked → tms_of p.left ≡ left → tms_of p.right ≡ right
    → ListsAll (λ n. SomeHasSymbol n left ⊎ (n ≡ a)) r.left.items → ListsAll (λ n. SomeHasSymbol n right ⊎ (n ≡ b)) r.right.items
    → (i : ℕ) × (a ≡ first + i) × (slice_get marked i ≡ Some p.left_fun) → (i : ℕ) × (b ≡ first + i) × (slice_get marked i ≡ Some p.right_fun)
    → UsesAll (λ n. StandsInPair n p ⊎ IsMarkOf first marked p n) r
pair_uses first marked p r left right a b up same also lists others (i, a_is, at_a) (j, b_is, at_b) n = (there, back)
  where
    there : Contains r.left.items n ⊎ Contains r.right.items n → StandsInPair n p ⊎ IsMarkOf first marked p n
    there (inl found) = elim ((lists n).0 found) [
      | inl has ↦ inl (inl (subst (SomeHasSymbol n) (sym same) has))
      | inr e ↦ inr (i, p.left_fun, e ∙ a_is, at_a, inl refl)
    ]
    there (inr found) = elim ((others n).0 found) [
      | inl has ↦ inl (inr (subst (SomeHasSymbol n) (sym also) has))
      | inr e ↦ inr (j, p.right_fun, e ∙ b_is, at_b, inr refl)
    ]

    number : (k l f g : ℕ) → n ≡ first + k → slice_get marked k ≡ Some f → f ≡ g → slice_get marked l ≡ Some g → n ≡ first + l
    number k l f g e at heads listed = let one = one_place marked k l g up (at ∙ ap Some heads) listed in omega (arith, e, one)

    back : StandsInPair n p ⊎ IsMarkOf first marked p n → Contains r.left.items n ⊎ Contains r.right.items n
    back (inl (inl has)) = inl ((lists n).1 (inl (subst (SomeHasSymbol n) same has)))
    back (inl (inr has)) = inr ((others n).1 (inl (subst (SomeHasSymbol n) also has)))
    back (inr (k, f, e, at, inl heads)) = inl ((lists n).1 (inr (number k i f p.left_fun e at heads at_a ∙ sym a_is)))
    back (inr (k, f, e, at, inr heads)) = inr ((others n).1 (inr (number k j f p.right_fun e at heads at_b ∙ sym b_is)))
