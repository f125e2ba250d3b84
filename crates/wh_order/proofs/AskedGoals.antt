-- What the goals of the code stand for where the left tree is to be greater than the right one, or at least it.
use Rattle.std.proofs.Common.{◌≡◌, ℕ, suc, ◌+◌, ◌<◌, List, [], ◌∷◌, length, Bool, true, false, cond, IsTrue, ◌↔◌, Option, Some, None, refl, ap, ap₂, subst, sym, ◌∙◌, arith}
use Rattle.std.specs.Global.{Vec}
use Rattle.wh_types.specs.Erase.{ty}
use Rattle.wh_types.specs.declared.simple_type.SimpleType.{SimpleType}
use Rattle.wh_terms.specs.Tree.{Tm, free, lam}
use Rattle.wh_terms.specs.Substitution.{opened}
use Rattle.wh_order_inference.specs.Inferences.{Letter, same_trees, bodies, arguments, Inferences}
use Rattle.wh_order_inference.specs.Said.{letter}
use Rattle.wh_order_inference.specs.declared.inference.Letter as c
use Rattle.wh_order_inference.specs.declared.inference.Letter.TheVariants.{Same, Lam, Mono, Sub, Prec, Lex, App, Bind, Var, Meta}
use Rattle.wh_order_extended.specs.Kinds.{kind}
use Rattle.wh_order_path.specs.Verdict as v
use Rattle.wh_order_path.specs.Verdict.{greater, Task, pairwise, some_strict, one_kind, above_tasks, greater_tasks, typed_tasks, at_least_tasks, tasks}
use Rattle.wh_order_trees.specs.declared.tree.Tree.{Tree}
use Rattle.wh_order_trees.specs.Trees.{tree, trees}
use Rattle.wh_order_trees.specs.TreeParts.{World, Over, AllOver, IsBody, IsApplied, IsApplication}
use Rattle.wh_order_trees.proofs.TreeLemmas.{trees-length}
use Rattle.wh_order_trees.proofs.SameLemmas.{Decided}
use Rattle.wh_order.specs.declared.goals.Claim.{Claim}
use Rattle.wh_order.specs.declared.goals.Claim.TheVariants.{AtLeast, Greater, Above}
use Rattle.wh_order.specs.declared.goals.Goal.{Goal}
use Rattle.wh_order.specs.Claims.{said, side_tree, task, HoldsGoals, MayStandFor, AreAboveGoals, AreGreaterGoals, AreTypedGoals, AreAtLeastGoals, AreGoals}
use Rattle.wh_order.proofs.LetterLemmas.{may, other_head}
use Rattle.wh_order.proofs.AskedTasks.{bodies_left, bodies_right, bodies_place, bodies_types, bodies_are, arguments_left, arguments_right, arguments_place, arguments_heads, arguments_count, arguments_equal, arguments_are, IsOtherLetter, greater_above, typed_greater, typed_refused, same_are, same_refused, at_least_typed}

asks_nothing : (n : ℕ) (prec : ℕ → ℕ) (next : ℕ) (s t : Tree) (l : Letter) (place : ℕ) (is : Inferences)
    → ((w : World) → Over n w s → Over n w t → greater_tasks w.symbols prec w.metas next (tree n s) (tree n t) l place is ≡ None)
    → AreGreaterGoals n prec next s t l place is None
asks_nothing n prec next s t l place is refused w o u = may n w None _ None (refused w o u) refl

asks : (n : ℕ) (prec : ℕ → ℕ) (next : ℕ) (s t : Tree) (l : Letter) (place : ℕ) (is : Inferences) (r : Option (Vec Goal)) (ks : World → List Task)
    → ((w : World) → Over n w s → Over n w t → greater_tasks w.symbols prec w.metas next (tree n s) (tree n t) l place is ≡ Some (ks w))
    → ((w : World) → Over n w s → Over n w t → HoldsGoals n w r (ks w)) → AreGreaterGoals n prec next s t l place is r
asks n prec next s t l place is r ks asked holds w o u = may n w r _ (Some (ks w)) (asked w o u) (holds w o u)

-- l

-- the tree is an abstraction over this type with this body
abbrev pub IsBodyOf : Tree → SimpleType → Tree → Type 0
IsBodyOf s a x = (n : ℕ) (w : World) → Over n w s → (tree n s ≡ lam (ty a) (tree n x)) × Over n w x

pub left_no_body : (n : ℕ) (prec : ℕ → ℕ) (next place : ℕ) (s t : Tree) (is : Inferences) → IsBody s None → AreGreaterGoals n prec next s t bodies place is None
left_no_body n prec next place s t is has =
    asks_nothing n prec next s t bodies place is (λ w o u. bodies_left w.symbols prec w.metas next (tree n s) (tree n t) place is (has n w o))

pub right_no_body : (n : ℕ) (prec : ℕ → ℕ) (next place : ℕ) (s t : Tree) (is : Inferences) → IsBody t None → AreGreaterGoals n prec next s t bodies place is None
right_no_body n prec next place s t is has =
    asks_nothing n prec next s t bodies place is (λ w o u. bodies_right w.symbols prec w.metas next (tree n s) (tree n t) place is (has n w u))

pub bodies_with_place : (n : ℕ) (prec : ℕ → ℕ) (next place : ℕ) (s t x y : Tree) (a b : SimpleType) (is : Inferences) → IsBodyOf s a x → IsBodyOf t b y → 0 < place
    → AreGreaterGoals n prec next s t bodies place is None
bodies_with_place n prec next place s t x y a b is has has_other some =
    asks_nothing n prec next s t bodies place is
    (λ w o u. bodies_place w.symbols prec w.metas next (tree n s) (tree n t) (tree n x) (tree n y) (ty a) (ty b) place is (has n w o).0 (has_other n w u).0 some)

pub bodies_of_types : (n : ℕ) (prec : ℕ → ℕ) (next place : ℕ) (s t x y : Tree) (a b : SimpleType) (r : Bool) (is : Inferences) → IsBodyOf s a x → IsBodyOf t b y
    → (IsTrue r ↔ (ty a ≡ ty b)) → r ≡ false → AreGreaterGoals n prec next s t bodies place is None
bodies_of_types n prec next place s t x y a b r is has has_other decides not =
    asks_nothing n prec next s t bodies place is
    (λ w o u. bodies_types w.symbols prec w.metas next (tree n s) (tree n t) (tree n x) (tree n y) (ty a) (ty b) place is (has n w o).0 (has_other n w u).0
    (λ e. refuted (sym (decides.1 e) ∙ not)))
  where
    refuted : true ≡ false → ⊥
    refuted e = cc

pub bodies_goals : (n : ℕ) (prec : ℕ → ℕ) (next further place : ℕ) (s t x y p q : Tree) (a b : SimpleType) (r : Bool) (is : Inferences) (gs : Option (Vec Goal)) → place ≡ 0 → further ≡ next + 1
    → IsBodyOf s a x → IsBodyOf t b y → (IsTrue r ↔ (ty a ≡ ty b)) → r ≡ true
    → ((n : ℕ) → tree n p ≡ opened (free next (ty a)) (tree n x)) → ((n : ℕ) (w : World) → Over n w x → Over n w p)
    → ((n : ℕ) → tree n q ≡ opened (free next (ty b)) (tree n y)) → ((n : ℕ) (w : World) → Over n w y → Over n w q)
    → ((w : World) → Over n w p → Over n w q → HoldsGoals n w gs (record { claim = greater; next = further; left = tree n p; right = tree n q } ∷ []))
    → AreGreaterGoals n prec next s t bodies place is gs
bodies_goals n prec next further place s t x y p q a b r is gs first step has has_other decides so opens opens_over opens_other opens_other_over holds =
    let step_of : further ≡ suc next = omega (arith, step) in
    asks n prec next s t bodies place is gs
    (λ w. record { claim = greater; next = further; left = tree n p; right = tree n q } ∷ [])
    (λ w o u. bodies_are w.symbols prec w.metas next (tree n s) (tree n t) (tree n x) (tree n y) (ty a) (ty b) place is (has n w o).0 (has_other n w u).0 first (decides.0 so)
    ∙ ap₂ (λ (e f : Tm). Some (record { claim = greater; next = suc next; left = e; right = f } ∷ [])) (sym (opens n)) (sym (opens_other n))
    ∙ ap (λ (k : ℕ). Some (record { claim = greater; next = k; left = tree n p; right = tree n q } ∷ [])) (sym step_of))
    (λ w o u. holds w (opens_over n w (has n w o).1) (opens_other_over n w (has_other n w u).1))

-- m

-- the tree is an application of this head to these arguments
abbrev pub AppliesTo : Tree → Tree → List Tree → Type 0
AppliesTo s h xs = (n : ℕ) (w : World) → Over n w s → IsApplied s h xs n w

pub left_no_application : (n : ℕ) (prec : ℕ → ℕ) (next place : ℕ) (s t : Tree) (is : Inferences) → IsApplication s None → AreGreaterGoals n prec next s t arguments place is None
left_no_application n prec next place s t is has =
    asks_nothing n prec next s t arguments place is (λ w o u. arguments_left w.symbols prec w.metas next (tree n s) (tree n t) place is (has n w o))

pub right_no_application : (n : ℕ) (prec : ℕ → ℕ) (next place : ℕ) (s t : Tree) (is : Inferences) → IsApplication t None → AreGreaterGoals n prec next s t arguments place is None
right_no_application n prec next place s t is has =
    asks_nothing n prec next s t arguments place is (λ w o u. arguments_right w.symbols prec w.metas next (tree n s) (tree n t) place is (has n w u))

pub applications_with_place : (n : ℕ) (prec : ℕ → ℕ) (next place : ℕ) (s t h k : Tree) (xs ys : List Tree) (is : Inferences) → AppliesTo s h xs → AppliesTo t k ys → 0 < place
    → AreGreaterGoals n prec next s t arguments place is None
applications_with_place n prec next place s t h k xs ys is has has_other some =
    asks_nothing n prec next s t arguments place is
    (λ w o u. let (a, b, e) = (has n w o).spine_of in let (c, d, f) = (has_other n w u).spine_of in
    arguments_place w.symbols prec w.metas next (tree n s) (tree n t) a b c d place is e f some)

pub applications_of_counts : (n : ℕ) (prec : ℕ → ℕ) (next place : ℕ) (s t h k : Tree) (xs ys : List Tree) (is : Inferences) → AppliesTo s h xs → AppliesTo t k ys
    → (length xs ≡ length ys → ⊥) → AreGreaterGoals n prec next s t arguments place is None
applications_of_counts n prec next place s t h k xs ys is has has_other differ =
    asks_nothing n prec next s t arguments place is
    (λ w o u. let (a, b, e) = (has n w o).spine_of in let (c, d, f) = (has_other n w u).spine_of in
    arguments_count w.symbols prec w.metas next (tree n s) (tree n t) a b c d place is e f
    (λ long. differ (sym (trees-length n xs) ∙ sym (ap length (has n w o).items) ∙ long ∙ ap length (has_other n w u).items ∙ trees-length n ys)))

pub applications_of_heads : (n : ℕ) (prec : ℕ → ℕ) (next place : ℕ) (s t h k : Tree) (xs ys : List Tree) (r : Bool) (is : Inferences) → AppliesTo s h xs → AppliesTo t k ys
    → Decided h k r → r ≡ false → AreGreaterGoals n prec next s t arguments place is None
applications_of_heads n prec next place s t h k xs ys r is has has_other decides not =
    asks_nothing n prec next s t arguments place is
    (λ w o u. let (a, b, e) = (has n w o).spine_of in let (c, d, f) = (has_other n w u).spine_of in
    arguments_heads w.symbols prec w.metas next (tree n s) (tree n t) a b c d place is e f
    (λ heads. refuted (sym ((decides n w (has n w o).head_over (has_other n w u).head_over).1 (sym (has n w o).head_of ∙ heads ∙ (has_other n w u).head_of)) ∙ not)))
  where
    refuted : true ≡ false → ⊥
    refuted e = cc

pub applications_not_strict : (n : ℕ) (prec : ℕ → ℕ) (next place : ℕ) (s t h k : Tree) (xs ys : List Tree) (r : Bool) (is : Inferences) → AppliesTo s h xs → AppliesTo t k ys
    → r ≡ some_strict is → r ≡ false → AreGreaterGoals n prec next s t arguments place is None
applications_not_strict n prec next place s t h k xs ys r is has has_other tests not =
    asks_nothing n prec next s t arguments place is
    (λ w o u. let (a, b, e) = (has n w o).spine_of in let (c, d, f) = (has_other n w u).spine_of in
    arguments_equal w.symbols prec w.metas next (tree n s) (tree n t) a b c d place is e f (sym tests ∙ not))

pub applications_goals : (n : ℕ) (prec : ℕ → ℕ) (next place : ℕ) (s t h k : Tree) (xs ys : List Tree) (r strict : Bool) (is : Inferences) (gs : Option (Vec Goal)) → AppliesTo s h xs → AppliesTo t k ys
    → place ≡ 0 → length xs ≡ length ys → Decided h k r → r ≡ true → strict ≡ some_strict is → strict ≡ true
    → ((w : World) → AllOver n w xs → AllOver n w ys → HoldsGoals n w gs (pairwise next (trees n xs) (trees n ys)))
    → AreGreaterGoals n prec next s t arguments place is gs
applications_goals n prec next place s t h k xs ys r strict is gs has has_other first long decides so tests strict_so holds =
    asks n prec next s t arguments place is gs
    (λ w. pairwise next (trees n xs) (trees n ys))
    (λ w o u. let (a, b, e) = (has n w o).spine_of in let (c, d, f) = (has_other n w u).spine_of in
    arguments_are w.symbols prec w.metas next (tree n s) (tree n t) a b c d place is e f first
    (ap v.is_other_head (has n w o).head_of ∙ other_head (tree n h) (has n w o).others (has n w o).alone)
    ((has n w o).head_of ∙ (decides n w (has n w o).head_over (has_other n w u).head_over).0 so ∙ sym (has_other n w u).head_of)
    (ap length (has n w o).items ∙ trees-length n xs ∙ long ∙ sym (trees-length n ys) ∙ sym (ap length (has_other n w u).items))
    (sym tests ∙ strict_so)
    ∙ ap₂ (λ (l m : List Tm). Some (pairwise next l m)) (has n w o).items (has_other n w u).items)
    (λ w o u. holds w (has n w o).items_over (has_other n w u).items_over)

-- any letter

pub letters_same : (n : ℕ) (prec : ℕ → ℕ) (next place : ℕ) (s t : Tree) (l m : Letter) (is : Inferences) (r : Option (Vec Goal)) → l ≡ m
    → AreGreaterGoals n prec next s t m place is r → AreGreaterGoals n prec next s t l place is r
letters_same n prec next place s t l m is r e h = subst (λ (k : Letter). AreGreaterGoals n prec next s t k place is r) (sym e) h

pub other_letter : (l : c.Letter) → (l ≡ Lam → ⊥) → (l ≡ Mono → ⊥) → IsOtherLetter (letter l)
other_letter Same p q = tt
other_letter Lam p q = absurd (p refl)
other_letter Mono p q = absurd (q refl)
other_letter Sub p q = tt
other_letter Prec p q = tt
other_letter Lex p q = tt
other_letter App p q = tt
other_letter Bind p q = tt
other_letter Var p q = tt
other_letter Meta p q = tt

pub greater_by_above : (n : ℕ) (prec : ℕ → ℕ) (next place : ℕ) (s t : Tree) (l : Letter) (is : Inferences) (r : Option (Vec Goal)) → IsOtherLetter l
    → AreAboveGoals n prec next next s t l place r → AreGreaterGoals n prec next s t l place is r
greater_by_above n prec next place s t l is r other h w o u =
    may n w r (greater_tasks w.symbols prec w.metas next (tree n s) (tree n t) l place is)
    (above_tasks w.symbols prec w.metas next next (tree n s) (tree n t) l place)
    (greater_above w.symbols prec w.metas next (tree n s) (tree n t) l place is other) (h w o u)

-- types

-- the test on types
abbrev pub TestsTypes : Tree → Tree → Bool → Type 0
TestsTypes s t c = (n : ℕ) (w : World) → Over n w s → Over n w t → IsTrue c ↔ (kind w.symbols w.metas [] (tree n s) ≡ kind w.symbols w.metas [] (tree n t))

pub one_type_goals : (n : ℕ) (prec : ℕ → ℕ) (next place : ℕ) (s t : Tree) (c : Bool) (l : Letter) (is : Inferences) (r q : Option (Vec Goal)) → TestsTypes s t c → c ≡ true → r ≡ q
    → AreGreaterGoals n prec next s t l place is r → AreTypedGoals n prec next s t l place is q
one_type_goals n prec next place s t c l is r q decides so e h w o u =
    may n w q (typed_tasks w.symbols prec w.metas next (tree n s) (tree n t) l place is) (greater_tasks w.symbols prec w.metas next (tree n s) (tree n t) l place is)
    (typed_greater w.symbols prec w.metas next (tree n s) (tree n t) l place is ((decides n w o u).0 so))
    (subst (λ (x : Option (Vec Goal)). MayStandFor n w x (greater_tasks w.symbols prec w.metas next (tree n s) (tree n t) l place is)) e (h w o u))

pub two_types : (n : ℕ) (prec : ℕ → ℕ) (next place : ℕ) (s t : Tree) (c : Bool) (l : Letter) (is : Inferences) → TestsTypes s t c → c ≡ false
    → AreTypedGoals n prec next s t l place is None
two_types n prec next place s t c l is decides not w o u =
    may n w None (typed_tasks w.symbols prec w.metas next (tree n s) (tree n t) l place is) None
    (typed_refused w.symbols prec w.metas next (tree n s) (tree n t) l place is (λ e. refuted (sym ((decides n w o u).1 e) ∙ not))) refl
  where
    refuted : true ≡ false → ⊥
    refuted e = cc

-- where nothing is asked for there are no goals, whatever the test says
none_either : (n : ℕ) (w : World) (c : Bool) (o : Option (List Task)) → MayStandFor n w None o → MayStandFor n w None (cond c o None)
none_either n w true o h = h
none_either n w false o h = refl

pub no_goals : (n : ℕ) (prec : ℕ → ℕ) (next place : ℕ) (s t : Tree) (l : Letter) (is : Inferences) (r : Option (Vec Goal)) → r ≡ None
    → AreGreaterGoals n prec next s t l place is r → AreTypedGoals n prec next s t l place is None
no_goals n prec next place s t l is r e h w o u =
    none_either n w (one_kind w.symbols prec w.metas (tree n s) (tree n t)) (greater_tasks w.symbols prec w.metas next (tree n s) (tree n t) l place is)
    (subst (λ (x : Option (Vec Goal)). MayStandFor n w x (greater_tasks w.symbols prec w.metas next (tree n s) (tree n t) l place is)) e (h w o u))

-- the same trees

pub same_goals : (n : ℕ) (prec : ℕ → ℕ) (next place : ℕ) (s t : Tree) (c : Bool) (l : Letter) (is : Inferences) (r : Option (Vec Goal)) → place ≡ 0 → l ≡ same_trees → Decided s t c → c ≡ true
    → ((w : World) → HoldsGoals n w r []) → AreAtLeastGoals n prec next s t l place is r
same_goals n prec next place s t c l is r first e decides so holds w o u =
    may n w r (at_least_tasks w.symbols prec w.metas next (tree n s) (tree n t) l place is) (Some [])
    (same_are w.symbols prec w.metas next (tree n s) (tree n t) l place is first e ((decides n w o u).0 so)) (holds w)

pub trees_differ : (n : ℕ) (prec : ℕ → ℕ) (next place : ℕ) (s t : Tree) (c : Bool) (l : Letter) (is : Inferences) → place ≡ 0 → l ≡ same_trees → Decided s t c → c ≡ false
    → AreAtLeastGoals n prec next s t l place is None
trees_differ n prec next place s t c l is first e decides not w o u =
    may n w None (at_least_tasks w.symbols prec w.metas next (tree n s) (tree n t) l place is) None
    (same_refused w.symbols prec w.metas next (tree n s) (tree n t) l place is first e (λ k. refuted (sym ((decides n w o u).1 k) ∙ not))) refl
  where
    refuted : true ≡ false → ⊥
    refuted e = cc

pub not_both : {P Q : Type 0} (c : Bool) → (IsTrue c ↔ (P × Q)) → c ≡ false → P → Q → ⊥
not_both c decides not p q = refuted (sym (decides.1 (p, q)) ∙ not)
  where
    refuted : true ≡ false → ⊥
    refuted e = cc

pub by_types : (n : ℕ) (prec : ℕ → ℕ) (next place : ℕ) (s t : Tree) (l : Letter) (is : Inferences) (r : Option (Vec Goal)) → (place ≡ 0 → l ≡ same_trees → ⊥)
    → AreTypedGoals n prec next s t l place is r → AreAtLeastGoals n prec next s t l place is r
by_types n prec next place s t l is r refuted h w o u =
    may n w r (at_least_tasks w.symbols prec w.metas next (tree n s) (tree n t) l place is) (typed_tasks w.symbols prec w.metas next (tree n s) (tree n t) l place is)
    (at_least_typed w.symbols prec w.metas next (tree n s) (tree n t) l place is refuted) (h w o u)

-- any goal

claimed : (n : ℕ) (prec : ℕ → ℕ) (w : World) (g : Goal) (c : Claim) (l : Letter) (place : ℕ) (is : Inferences) → g.claim ≡ c
    → tasks w.symbols prec w.metas (task n g) l place is
    ≡ tasks w.symbols prec w.metas (record { claim = said c; next = g.next; left = tree n (side_tree g.left); right = tree n (side_tree g.right) }) l place is
claimed n prec w g c l place is e =
    ap (λ (k : Claim). tasks w.symbols prec w.metas (record { claim = said k; next = g.next; left = tree n (side_tree g.left); right = tree n (side_tree g.right) }) l place is) e

pub goals_at_least : (n : ℕ) (prec : ℕ → ℕ) (g : Goal) (s t : Tree) (l : Letter) (place : ℕ) (is : Inferences) (r : Option (Vec Goal)) → g.claim ≡ AtLeast → s ≡ side_tree g.left → t ≡ side_tree g.right
    → AreAtLeastGoals n prec g.next s t l place is r → AreGoals n prec g l place is r
goals_at_least n prec g s t l place is r e left right h w over =
    may n w r _ _ (claimed n prec w g AtLeast l place is e)
    (subst (λ (x : Tree). AreAtLeastGoals n prec g.next x (side_tree g.right) l place is r) left (subst (λ (y : Tree). AreAtLeastGoals n prec g.next s y l place is r) right h) w over.0 over.1)

pub goals_greater : (n : ℕ) (prec : ℕ → ℕ) (g : Goal) (s t : Tree) (l : Letter) (place : ℕ) (is : Inferences) (r : Option (Vec Goal)) → g.claim ≡ Greater → s ≡ side_tree g.left → t ≡ side_tree g.right
    → AreTypedGoals n prec g.next s t l place is r → AreGoals n prec g l place is r
goals_greater n prec g s t l place is r e left right h w over =
    may n w r _ _ (claimed n prec w g Greater l place is e)
    (subst (λ (x : Tree). AreTypedGoals n prec g.next x (side_tree g.right) l place is r) left (subst (λ (y : Tree). AreTypedGoals n prec g.next s y l place is r) right h) w over.0 over.1)

pub goals_above : (n : ℕ) (prec : ℕ → ℕ) (g : Goal) (s t : Tree) (from : ℕ) (l : Letter) (place : ℕ) (is : Inferences) (r : Option (Vec Goal)) → g.claim ≡ Above from → s ≡ side_tree g.left
    → t ≡ side_tree g.right → AreAboveGoals n prec from g.next s t l place r → AreGoals n prec g l place is r
goals_above n prec g s t from l place is r e left right h w over =
    may n w r _ _ (claimed n prec w g (Above from) l place is e)
    (subst (λ (x : Tree). AreAboveGoals n prec from g.next x (side_tree g.right) l place r) left (subst (λ (y : Tree). AreAboveGoals n prec from g.next s y l place r) right h) w over.0 over.1)
