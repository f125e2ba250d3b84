-- Inferences that are found have a text within the limits of certificates.
use Rattle.std.proofs.Common.{◌≡◌, ℕ, zero, suc, ◌+◌, ◌-◌, ◌≤◌, Bool, true, false, cond, List, [], ◌∷◌, length, take, Some, None, All, slice_get, refl, ap, subst, sym, ◌∙◌, arith}
use Rattle.std.specs.Prelude.{nat_lt, unwrap_or}
use Rattle.std.proofs.lemmas.Bool.{ltb-true}
use Rattle.std.proofs.lemmas.List.Elements.{All-contains, All-head, All-tail}
use Rattle.std.proofs.lemmas.Option.{slice_get_within}
use Rattle.wh_types.specs.Limits.{greatest_number, most_arguments}
use Rattle.wh_types.specs.Ty.{Ty, sort, ◌⇒◌, arguments}
use Rattle.wh_terms.specs.Tree.{Tm, fun, app, head}
use Rattle.wh_terms.specs.Typing.{Symbols, Declared}
use Rattle.wh_terms.specs.Rules.{RewriteRule}
use Rattle.wh_system.specs.Systems.{SystemData}
use Rattle.wh_system.specs.WellMade.{ArgumentsWithin, IsTypeOver, IsWellMadeSystem}
use Rattle.wh_system.specs.Needs.{need_of}
use Rattle.wh_pairs.specs.PairData.{PairData}
use Rattle.wh_pairs.proofs.ByPlace.{contains_at}
use Rattle.wh_hopoly.specs.Evaluation.{type_at}
use Rattle.wh_polycheck.specs.Marks.{marked_types}
use Rattle.wh_order_inference.specs.Filters.{Filter, keep}
use Rattle.wh_order_inference.specs.FilterText.{filter_of}
use Rattle.wh_order_inference.specs.Inferences as m
use Rattle.wh_order_inference.specs.Inferences.{Letter, same_trees, bodies, part, lower, first_less, spine_parts, body, variable, meta_part, Inference, infer, Inferences, no_parts, more_parts}
use Rattle.wh_order_inference.specs.InferenceText.{form}
use Rattle.wh_order_inference.specs.InferenceLimits.{FormFits, InferenceFits, PartsFit, depth, deepest, deepest_inference}
use Rattle.wh_order_extended.specs.Kinds.{type_at as kind_at}
use Rattle.wh_order_extended.specs.ExtendedSides.{extended_metas, extended_side, extended_call}
use Rattle.wh_order_extended.specs.Filtered.{IncreasingFrom, IsProper, collapsed}
use Rattle.wh_order_path.specs.Heads.{arguments_of, list_of}
use Rattle.wh_order_path.specs.Lines.{filtered_side, filtered_call}
use Rattle.wh_order_path.specs.Verdict.{Claim, at_least, greater, above, Task, each, pairwise, typed_tasks, tasks, verdict, verdicts}
use Rattle.wh_order_path.proofs.AskedTasks.{split, first_part, AboveAsks, asks_part, asks_lower, asks_first_less, asks_spine, asks_body, asks_variable, asks_meta, above_asks, GreaterAsks, asks_bodies, asks_arguments, asks_above, typed_asks, AtLeastAsks, asks_same, asks_greater, at_least_asks}
use Rattle.wh_order_node.specs.Filterings.{FilteringData, IsProperAsWritten, filters_of, filtered_signature, precedences_of, filter_among, mark_among}
use Rattle.wh_order_node.specs.Ordering.{IsGoodRule, IsGoodPair}
use Rattle.wh_order.specs.TreeSides.{AreFilters}
use Rattle.wh_order.proofs.FilterLemmas.{type_there, filter_there, symbol_filter, mark_proper}
use Rattle.wh_order_infer.proofs.TaskLemmas.{claimed}
use Rattle.wh_order_path.proofs.SameTreeLaws.{some_none}
use Rattle.wh_order_lines.specs.Oriented.{IsWithin}
use Rattle.wh_order_lines.proofs.SpineLemmas.{SpinesTo, AllSpinesTo, one_of, arguments_to, count_to, opened_to, sift_to}

-- no symbol in the left tree of a task has more than k arguments
abbrev LeftsTo : ℕ → List Task → Type 0
LeftsTo k [] = Unit {0}
LeftsTo k (j ∷ js) = SpinesTo k 0 j.left × LeftsTo k js

each_to : (k : ℕ) (c : Claim) (next : ℕ) (s : Tm) (ts : List Tm) → SpinesTo k 0 s → LeftsTo k (each c next s ts)
each_to k c next s [] h = tt
each_to k c next s (t ∷ ts) h = (h, each_to k c next s ts h)

pairwise_to : (k next : ℕ) (ss ts : List Tm) → AllSpinesTo k ss → LeftsTo k (pairwise next ss ts)
pairwise_to k next [] ts h = tt
pairwise_to k next (s ∷ ss) [] h = tt
pairwise_to k next (s ∷ ss) (t ∷ ts) h = (h.0, pairwise_to k next ss ts h.1)

module _ (F : Symbols) (prec : ℕ → ℕ) (M : List Declared) (k : ℕ) (low : k ≤ greatest_number) where
  no_more : (ks : List Task) (is : Inferences) → ks ≡ [] → verdicts F prec M ks is ≡ None → is ≡ no_parts
  no_more ks no_parts e good = refl
  no_more ks (more_parts i is) e good = absurd (some_none (subst (λ (js : List Task). verdicts F prec M js (more_parts i is) ≡ None) e good))

  abbrev Suits : Letter → ℕ → Inferences → List Task → Type 0
  Suits l n is ks = FormFits (form l) n is × LeftsTo k ks

  above_suits : (from next : ℕ) (s t : Tm) (l : Letter) (n : ℕ) (is : Inferences) (ks : List Task) (f : ℕ) → head s ≡ fun f → SpinesTo k 0 s → verdicts F prec M ks is ≡ None
      → AboveAsks F prec M from next s t l n ks → Suits l n is ks
  above_suits from next s t part (suc n) is ks f d h good (asks_part u here e) = (
    omega (arith, slice_get_within (arguments_of s) n u here, count_to k 0 f s h d, low),
    subst (LeftsTo k) (sym e) (one_of k (arguments_of s) n u (arguments_to k 0 s h) here, tt),
  )
  above_suits from next s t lower zero is ks f d h good (asks_lower g j p q b e) = (refl, subst (LeftsTo k) (sym e) (each_to k (above from) next s (arguments_of t) h))
  above_suits from next s t first_less (suc n) is ks f d h good (asks_first_less g j u v p q b front here there e) = (
    omega (arith, slice_get_within (arguments_of s) n u here, count_to k 0 f s h d, low),
    subst (LeftsTo k) (sym e) (one_of k (arguments_of s) n u (arguments_to k 0 s h) here, each_to k (above from) next s (arguments_of t) h),
  )
  above_suits from next s t spine_parts zero is ks f d h good (asks_spine u v p o e) = (refl, subst (LeftsTo k) (sym e) (each_to k (above from) next s (head t ∷ arguments_of t) h))
  above_suits from next s t body zero is ks f d h good (asks_body a v p e) = (refl, subst (LeftsTo k) (sym e) (h, tt))
  above_suits from next s t variable zero is ks f d h good (asks_variable x a p b e) = ((refl, no_more ks is e good), subst (LeftsTo k) (sym e) tt)
  above_suits from next s t meta_part (suc n) is ks f d h good (asks_meta z ts u p here b e) = (
    omega (arith, slice_get_within (arguments_of s) n u here, count_to k 0 f s h d, low),
    subst (LeftsTo k) (sym e) (each_to k (above from) next s (list_of ts) h),
  )
  above_suits from next s t same_trees n is ks f d h good a = elim a [ ]
  above_suits from next s t bodies n is ks f d h good a = elim a [ ]
  above_suits from next s t m.arguments n is ks f d h good a = elim a [ ]
  above_suits from next s t part zero is ks f d h good a = elim a [ ]
  above_suits from next s t lower (suc n) is ks f d h good a = elim a [ ]
  above_suits from next s t first_less zero is ks f d h good a = elim a [ ]
  above_suits from next s t spine_parts (suc n) is ks f d h good a = elim a [ ]
  above_suits from next s t body (suc n) is ks f d h good a = elim a [ ]
  above_suits from next s t variable (suc n) is ks f d h good a = elim a [ ]
  above_suits from next s t meta_part zero is ks f d h good a = elim a [ ]

  greater_suits : (next : ℕ) (s t : Tm) (l : Letter) (n : ℕ) (is : Inferences) (ks : List Task) → SpinesTo k 0 s → verdicts F prec M ks is ≡ None
      → GreaterAsks F prec M next s t l n is ks → Suits l n is ks
  greater_suits next s t l n is ks h good (asks_bodies {s = u} {a = a} same e) = (refl, subst (LeftsTo k) (sym e) (opened_to k 0 next a u h, tt))
  greater_suits next s t l n is ks h good (asks_arguments {s = u} {u = v} {t = x} {v = y} other heads len strict e) =
      (refl, subst (LeftsTo k) (sym e) (pairwise_to k next (arguments_of (app u v)) (arguments_of (app x y)) (arguments_to k 0 (app u v) h)))
  greater_suits next s t l n is ks h good (asks_above asked) =
      let ((f, d), a) = above_asks F prec M next next s t l n ks asked in above_suits next next s t l n is ks f d h good a

  typed_suits : (next : ℕ) (s t : Tm) (l : Letter) (n : ℕ) (is : Inferences) (ks : List Task) → SpinesTo k 0 s → verdicts F prec M ks is ≡ None
      → typed_tasks F prec M next s t l n is ≡ Some ks → Suits l n is ks
  typed_suits next s t l n is ks h good e = greater_suits next s t l n is ks h good (typed_asks F prec M next s t l n is ks e).1

  at_least_suits : (next : ℕ) (s t : Tm) (l : Letter) (n : ℕ) (is : Inferences) (ks : List Task) → SpinesTo k 0 s → verdicts F prec M ks is ≡ None
      → AtLeastAsks F prec M next s t l n is ks → Suits l n is ks
  at_least_suits next s t l n is ks h good (asks_same same e) = ((refl, no_more ks is e good), subst (LeftsTo k) (sym e) tt)
  at_least_suits next s t l n is ks h good (asks_greater e) = typed_suits next s t l n is ks h good e

  claim_suits : (c : Claim) (j : Task) (l : Letter) (n : ℕ) (is : Inferences) (ks : List Task) → SpinesTo k 0 j.left → verdicts F prec M ks is ≡ None
      → tasks F prec M (claimed c j) l n is ≡ Some ks → Suits l n is ks
  claim_suits at_least j l n is ks h good e = at_least_suits j.next j.left j.right l n is ks h good (at_least_asks F prec M j.next j.left j.right l n is ks e)
  claim_suits greater j l n is ks h good e = typed_suits j.next j.left j.right l n is ks h good e
  claim_suits (above from) j l n is ks h good e =
      let ((f, d), a) = above_asks F prec M from j.next j.left j.right l n ks e in above_suits from j.next j.left j.right l n is ks f d h good a

  mutual
    -- a good inference inside d others
    pub good_fits : (d : ℕ) (j : Task) (i : Inference) → SpinesTo k 0 j.left → verdict F prec M j i ≡ None → depth i + d ≤ deepest_inference → InferenceFits d i
    good_fits d j (infer l n is) h good deep =
        let (ks, asked, fine) = split F prec M j l n is good in
        let (fits, lefts) = claim_suits j.claim j l n is ks h fine asked in
        (omega (arith, deep), fits, parts_fit (suc d) ks is lefts fine (omega (arith, deep)))

    parts_fit : (d : ℕ) (js : List Task) (is : Inferences) → LeftsTo k js → verdicts F prec M js is ≡ None → deepest is + d ≤ deepest_inference → PartsFit d is
    parts_fit d js no_parts h good deep = tt
    parts_fit d [] (more_parts i is) h good deep = absurd (some_none good)
    parts_fit d (j ∷ js) (more_parts i is) h good deep =
        let (here, rest) = first_part F prec M j js i is good in
        (good_fits d j i h.0 here (omega (arith, deep)), parts_fit d js is h.1 rest (omega (arith, deep)))

-- what a proper filter keeps

increasing_few : (from n : ℕ) (is : List ℕ) → IncreasingFrom from n is → from ≤ n → length is + from ≤ n
increasing_few from n [] h le = omega (arith, le)
increasing_few from n (i ∷ is) h le = omega (arith, h.0, h.1, increasing_few (suc i) n is h.2 (omega (arith, h.1)))

proper_few : (cs : List Ty) (F : Filter) (p : ℕ) (is : List ℕ) → IsProper cs F → F ≡ keep p is → length is ≤ length cs
proper_few cs F p is h e = omega (arith, increasing_few 0 (length cs) is (subst (IsProper cs) e h) (omega arith))

type_few : (a : Ty) → ArgumentsWithin most_arguments a → length (arguments a) ≤ most_arguments
type_few (sort s) h = omega arith
type_few (a ⇒ b) h = omega (arith, h.0)

take_few : {A : Type 0} (n : ℕ) (xs : List A) → length (take n xs) ≤ length xs
take_few zero xs = omega arith
take_few (suc n) [] = omega arith
take_few (suc n) (x ∷ xs) = omega (arith, take_few n xs)

module _ (d : SystemData) (made : IsWellMadeSystem d) where
  abbrev S : Symbols
  S = d.symbols

  declared_few : (kinds : List Ty) → All (IsTypeOver S.sorts) kinds → (f : ℕ) → length (arguments (type_at kinds f)) ≤ most_arguments
  declared_few [] h f = omega arith
  declared_few (a ∷ kinds) h zero = type_few a (All-head (IsTypeOver S.sorts) a kinds h).narrow
  declared_few (a ∷ kinds) h (suc f) = declared_few kinds (All-tail (IsTypeOver S.sorts) a kinds h) f

  marked_few : (f : ℕ) → length (marked_types S d.rules f) ≤ most_arguments
  marked_few f = omega (arith, take_few (unwrap_or (need_of d.rules f) 0) (arguments (type_at S.funs f)), declared_few S.funs made.symbol_types f)

  symbol_few : (f : ℕ) (a : Ty) → slice_get S.funs f ≡ Some a → length (arguments a) ≤ most_arguments
  symbol_few f a at = type_few a (All-contains (IsTypeOver S.sorts) S.funs a made.symbol_types (contains_at S.funs f a at)).narrow

  module _ (D : FilteringData) (filters : AreFilters S d.rules D) where
    kept_few : (f p : ℕ) (is : List ℕ) → filters_of S D f ≡ keep p is → length is ≤ most_arguments
    kept_few f p is e = on (nat_lt f (length S.funs)) refl
      where
        on : (b : Bool) → nat_lt f (length S.funs) ≡ b → length is ≤ most_arguments
        on true t =
            let within = ltb-true f (length S.funs) t in
            let a = kind_at S.funs f in
            let at = type_there S.funs f within in
            let (w, given) = filter_there D.symbols f (omega (arith, within, filters.each_symbol)) in
            omega (
              arith,
              proper_few (arguments a) (filter_of w) p is (filters.symbols f a w at given).proper (sym (symbol_filter S D f w within given) ∙ e),
              symbol_few f a at,
            )
        on false t =
            let g = f - length S.funs in
            let cs = marked_types S d.rules g in
            omega (
              arith,
              proper_few cs (mark_among D.marks g) p is
                  (mark_proper D.marks g cs (λ i n at same. subst (λ (x : ℕ). IsProperAsWritten (marked_types S d.rules x) n.filter) same (filters.marks i n at)))
                  (sym (ap (λ b. cond b (filter_among D.symbols f) (mark_among D.marks g)) t) ∙ e),
              marked_few g,
            )

    -- the inference of a rule, and that of a pair, has a text
    pub rule_fits : (r : RewriteRule) (i : Inference) → IsGoodRule S d.rules D r i → IsWithin i → InferenceFits 0 i
    rule_fits r i good within =
        good_fits (filtered_signature S d.rules D) (precedences_of S D) (collapsed (extended_metas S r)) most_arguments (omega arith) 0
        (record { claim = at_least; next = 0; left = filtered_side S (filters_of S D) r r.left; right = filtered_side S (filters_of S D) r r.right }) i
        (sift_to most_arguments (filters_of S D) kept_few (extended_side S r r.left) [] tt) good (omega (arith, within.nested))

    pub pair_fits : (p : PairData) (i : Inference) → IsGoodPair S d.rules D p i → IsWithin i → InferenceFits 0 i
    pair_fits p i good within =
        good_fits (filtered_signature S d.rules D) (precedences_of S D) (collapsed p.metas) most_arguments (omega arith) 0
        (record {
          claim = at_least;
          next = 0;
          left = filtered_call S (filters_of S D) p.metas p.left_fun p.left;
          right = filtered_call S (filters_of S D) p.metas p.right_fun p.right;
        }) i
        (sift_to most_arguments (filters_of S D) kept_few (extended_call S p.metas p.left_fun p.left) [] tt) good (omega (arith, within.nested))
