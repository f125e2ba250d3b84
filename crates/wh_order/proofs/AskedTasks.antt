-- What the letters ask for where the left tree is to be greater than the right one, or at least it, in the cases that the code tells apart.
use Rattle.std.proofs.Common.{◌≡◌, ℕ, zero, suc, ◌<◌, List, [], ◌∷◌, length, Bool, true, false, ◌&&◌, cond, Some, None, refl, ap, ap₂, sym, ◌∙◌, arith}
use Rattle.std.specs.Prelude.{◌==◌}
use Rattle.std.proofs.lemmas.Bool.{eq-eqb, ne_eqb}
use Rattle.wh_types.specs.Ty.{Ty, same_ty}
use Rattle.wh_terms.specs.Tree.{Tm, bound, free, fun, meta, lam, app, head}
use Rattle.wh_terms.specs.Substitution.{opened}
use Rattle.wh_terms.specs.Typing.{Symbols, Declared}
use Rattle.wh_terms.proofs.TypeTests.{same_ty-self, same_ty-equal}
use Rattle.wh_order_inference.specs.Inferences.{Letter, same_trees, bodies, arguments, part, lower, first_less, spine_parts, body, variable, meta_part, Inferences}
use Rattle.wh_order_extended.specs.Kinds.{kind}
use Rattle.wh_order_path.specs.Heads.{arguments_of}
use Rattle.wh_order_path.specs.SameTrees.{same}
use Rattle.wh_order_path.specs.Verdict.{greater, Task, pairwise, when, is_other_head, some_strict, above_tasks, greater_tasks, typed_tasks, at_least_tasks}
use Rattle.wh_order_path.proofs.SameTreeLaws.{tree_equal}
use Rattle.wh_order_trees.specs.TreeParts.{body_in, IsOtherSpine}
use Rattle.wh_order.proofs.LetterTasks.{no_above}
use Rattle.wh_order.proofs.SymbolGoals.{same-self}

refused : (b : Bool) → (b ≡ true → ⊥) → b ≡ false
refused true refuted = absurd (refuted refl)
refused false refuted = refl

pub other_types : (a b : Ty) → (a ≡ b → ⊥) → same_ty a b ≡ false
other_types a b refuted = refused (same_ty a b) (λ e. refuted (same_ty-equal a b e))

pub one_type : (a b : Ty) → a ≡ b → same_ty a b ≡ true
one_type a b e = ap (λ (c : Ty). same_ty a c) (sym e) ∙ same_ty-self a

pub other_trees : (t u : Tm) → (t ≡ u → ⊥) → same t u ≡ false
other_trees t u refuted = refused (same t u) (λ e. refuted (tree_equal t u e))

pub one_tree : (t u : Tm) → t ≡ u → same t u ≡ true
one_tree t u e = ap (λ (v : Tm). same t v) (sym e) ∙ same-self t

-- four tests, one of which fails, or all of which hold

first_fails : (a b c d : Bool) → a ≡ false → (a && b && c && d) ≡ false
first_fails false b c d e = refl
first_fails true b c d e = absurd (cc)

second_fails : (a b c d : Bool) → b ≡ false → (a && b && c && d) ≡ false
second_fails true b c d e = ap (λ x. x && c && d) e
second_fails false b c d e = refl

third_fails : (a b c d : Bool) → c ≡ false → (a && b && c && d) ≡ false
third_fails true true c d e = ap (λ x. x && d) e
third_fails true false c d e = refl
third_fails false b c d e = refl

fourth_fails : (a b c d : Bool) → d ≡ false → (a && b && c && d) ≡ false
fourth_fails true true true d e = e
fourth_fails true true false d e = refl
fourth_fails true false c d e = refl
fourth_fails false b c d e = refl

all_hold : (a b c d : Bool) → a ≡ true → b ≡ true → c ≡ true → d ≡ true → (a && b && c && d) ≡ true
all_hold true true true true e f g h = refl
all_hold false b c d e f g h = absurd (cc)
all_hold true false c d e f g h = absurd (cc)
all_hold true true false d e f g h = absurd (cc)
all_hold true true true false e f g h = absurd (cc)

head_of_symbol : (h : Tm) → (((f : ℕ) → h ≡ fun f → ⊥) → ⊥) → is_other_head h ≡ false
head_of_symbol (bound i) refuted = absurd (refuted (λ f e. absurd (cc)))
head_of_symbol (free x a) refuted = absurd (refuted (λ f e. absurd (cc)))
head_of_symbol (fun f) refuted = refl
head_of_symbol (meta z ts) refuted = absurd (refuted (λ f e. absurd (cc)))
head_of_symbol (lam a t) refuted = absurd (refuted (λ f e. absurd (cc)))
head_of_symbol (app p q) refuted = refl

other_no_symbol : (h : Tm) (f : ℕ) → is_other_head h ≡ true → h ≡ fun f → ⊥
other_no_symbol h f e k = refuted (sym e ∙ ap is_other_head k)
  where
    refuted : true ≡ false → ⊥
    refuted e = cc

abbrev pub IsOtherLetter : Letter → Type 0
IsOtherLetter bodies = ⊥
IsOtherLetter arguments = ⊥
IsOtherLetter _ = Unit {0}

module _ (F : Symbols) (prec : ℕ → ℕ) (M : List Declared) where
  -- l

  pub bodies_left : (next : ℕ) (s t : Tm) (place : ℕ) (is : Inferences) → body_in s ≡ None → greater_tasks F prec M next s t bodies place is ≡ None
  bodies_left next (bound i) t place is e = refl
  bodies_left next (free x a) t place is e = refl
  bodies_left next (fun f) t place is e = refl
  bodies_left next (meta z ts) t place is e = refl
  bodies_left next (lam a p) t place is e = absurd (cc)
  bodies_left next (app p q) (bound j) place is e = no_above F prec M next next (app p q) (bound j) bodies place (λ f. refl)
  bodies_left next (app p q) (free y b) place is e = no_above F prec M next next (app p q) (free y b) bodies place (λ f. refl)
  bodies_left next (app p q) (fun g) place is e = no_above F prec M next next (app p q) (fun g) bodies place (λ f. refl)
  bodies_left next (app p q) (meta z2 us) place is e = no_above F prec M next next (app p q) (meta z2 us) bodies place (λ f. refl)
  bodies_left next (app p q) (lam b u) place is e = no_above F prec M next next (app p q) (lam b u) bodies place (λ f. refl)
  bodies_left next (app p q) (app u v) place is e = no_above F prec M next next (app p q) (app u v) bodies place (λ f. refl)

  pub bodies_right : (next : ℕ) (s t : Tm) (place : ℕ) (is : Inferences) → body_in t ≡ None → greater_tasks F prec M next s t bodies place is ≡ None
  bodies_right next (bound i) t place is e = refl
  bodies_right next (free x a) t place is e = refl
  bodies_right next (fun f) t place is e = refl
  bodies_right next (meta z ts) t place is e = refl
  bodies_right next (lam a p) (bound j) place is e = refl
  bodies_right next (lam a p) (free y b) place is e = refl
  bodies_right next (lam a p) (fun g) place is e = refl
  bodies_right next (lam a p) (meta z2 us) place is e = refl
  bodies_right next (lam a p) (lam b u) place is e = absurd (cc)
  bodies_right next (lam a p) (app u v) place is e = refl
  bodies_right next (app p q) t place is e = bodies_left next (app p q) t place is refl

  pub bodies_place : (next : ℕ) (s t p q : Tm) (a b : Ty) (place : ℕ) (is : Inferences) → s ≡ lam a p → t ≡ lam b q → 0 < place → greater_tasks F prec M next s t bodies place is ≡ None
  bodies_place next s t p q a b zero is e f some = absurd (omega arith)
  bodies_place next s t p q a b (suc k) is e f some = ap₂ (λ (u v : Tm). greater_tasks F prec M next u v bodies (suc k) is) e f

  abbrev opened_task : ℕ → Ty → Ty → Tm → Tm → List Task
  opened_task next a b p q = record { claim = greater; next = suc next; left = opened (free next a) p; right = opened (free next b) q } ∷ []

  pub bodies_types : (next : ℕ) (s t p q : Tm) (a b : Ty) (place : ℕ) (is : Inferences) → s ≡ lam a p → t ≡ lam b q → (a ≡ b → ⊥) → greater_tasks F prec M next s t bodies place is ≡ None
  bodies_types next s t p q a b (suc k) is e f refuted = bodies_place next s t p q a b (suc k) is e f (omega arith)
  bodies_types next s t p q a b zero is e f refuted =
      ap₂ (λ (u v : Tm). greater_tasks F prec M next u v bodies zero is) e f ∙ ap (λ x. when x (opened_task next a b p q)) (other_types a b refuted)

  pub bodies_are : (next : ℕ) (s t p q : Tm) (a b : Ty) (place : ℕ) (is : Inferences) → s ≡ lam a p → t ≡ lam b q → place ≡ 0 → a ≡ b
      → greater_tasks F prec M next s t bodies place is ≡ Some (record { claim = greater; next = suc next; left = opened (free next a) p; right = opened (free next b) q } ∷ [])
  bodies_are next s t p q a b (suc k) is e f first same_types = absurd (omega (arith, first))
  bodies_are next s t p q a b zero is e f first same_types =
      ap₂ (λ (u v : Tm). greater_tasks F prec M next u v bodies zero is) e f ∙ ap (λ x. when x (opened_task next a b p q)) (one_type a b same_types)

  -- m

  abbrev tests : Tm → Tm → Inferences → Bool
  tests s t is = is_other_head (head s) && same (head s) (head t) && (length (arguments_of s) == length (arguments_of t)) && some_strict is

  pub arguments_left : (next : ℕ) (s t : Tm) (place : ℕ) (is : Inferences) → (IsOtherSpine s → ⊥) → greater_tasks F prec M next s t arguments place is ≡ None
  arguments_left next (bound i) t place is refuted = refl
  arguments_left next (free x a) t place is refuted = refl
  arguments_left next (fun f) t place is refuted = refl
  arguments_left next (meta z ts) t place is refuted = refl
  arguments_left next (lam a p) (bound j) place is refuted = refl
  arguments_left next (lam a p) (free y b) place is refuted = refl
  arguments_left next (lam a p) (fun g) place is refuted = refl
  arguments_left next (lam a p) (meta z2 us) place is refuted = refl
  arguments_left next (lam a p) (lam b u) place is refuted = refl
  arguments_left next (lam a p) (app u v) place is refuted = refl
  arguments_left next (app p q) (bound j) place is refuted = no_above F prec M next next (app p q) (bound j) arguments place (λ f. refl)
  arguments_left next (app p q) (free y b) place is refuted = no_above F prec M next next (app p q) (free y b) arguments place (λ f. refl)
  arguments_left next (app p q) (fun g) place is refuted = no_above F prec M next next (app p q) (fun g) arguments place (λ f. refl)
  arguments_left next (app p q) (meta z2 us) place is refuted = no_above F prec M next next (app p q) (meta z2 us) arguments place (λ f. refl)
  arguments_left next (app p q) (lam b u) place is refuted = no_above F prec M next next (app p q) (lam b u) arguments place (λ f. refl)
  arguments_left next (app p q) (app u v) (suc k) is refuted = no_above F prec M next next (app p q) (app u v) arguments (suc k) (λ f. refl)
  arguments_left next (app p q) (app u v) zero is refuted =
      ap (λ x. when x (pairwise next (arguments_of (app p q)) (arguments_of (app u v))))
      (first_fails (is_other_head (head p)) (same (head p) (head u)) (length (arguments_of (app p q)) == length (arguments_of (app u v))) (some_strict is)
      (head_of_symbol (head p) refuted))

  pub arguments_right : (next : ℕ) (s t : Tm) (place : ℕ) (is : Inferences) → (IsOtherSpine t → ⊥) → greater_tasks F prec M next s t arguments place is ≡ None
  arguments_right next (bound i) t place is refuted = refl
  arguments_right next (free x a) t place is refuted = refl
  arguments_right next (fun f) t place is refuted = refl
  arguments_right next (meta z ts) t place is refuted = refl
  arguments_right next (lam a p) (bound j) place is refuted = refl
  arguments_right next (lam a p) (free y b) place is refuted = refl
  arguments_right next (lam a p) (fun g) place is refuted = refl
  arguments_right next (lam a p) (meta z2 us) place is refuted = refl
  arguments_right next (lam a p) (lam b u) place is refuted = refl
  arguments_right next (lam a p) (app u v) place is refuted = refl
  arguments_right next (app p q) (bound j) place is refuted = no_above F prec M next next (app p q) (bound j) arguments place (λ f. refl)
  arguments_right next (app p q) (free y b) place is refuted = no_above F prec M next next (app p q) (free y b) arguments place (λ f. refl)
  arguments_right next (app p q) (fun g) place is refuted = no_above F prec M next next (app p q) (fun g) arguments place (λ f. refl)
  arguments_right next (app p q) (meta z2 us) place is refuted = no_above F prec M next next (app p q) (meta z2 us) arguments place (λ f. refl)
  arguments_right next (app p q) (lam b u) place is refuted = no_above F prec M next next (app p q) (lam b u) arguments place (λ f. refl)
  arguments_right next (app p q) (app u v) (suc k) is refuted = no_above F prec M next next (app p q) (app u v) arguments (suc k) (λ f. refl)
  arguments_right next (app p q) (app u v) zero is refuted =
      ap (λ x. when x (pairwise next (arguments_of (app p q)) (arguments_of (app u v)))) (on (is_other_head (head p)) (same (head p) (head u)) refl refl)
    where
      on : (a b : Bool) → is_other_head (head p) ≡ a → same (head p) (head u) ≡ b → tests (app p q) (app u v) is ≡ false
      on false b e f = first_fails (is_other_head (head p)) (same (head p) (head u)) (length (arguments_of (app p q)) == length (arguments_of (app u v))) (some_strict is) e
      on true false e f = second_fails (is_other_head (head p)) (same (head p) (head u)) (length (arguments_of (app p q)) == length (arguments_of (app u v))) (some_strict is) f
      on true true e f = absurd (refuted (λ g k. other_no_symbol (head p) g e (tree_equal (head p) (head u) f ∙ k)))

  pub arguments_place : (next : ℕ) (s t p q u v : Tm) (place : ℕ) (is : Inferences) → s ≡ app p q → t ≡ app u v → 0 < place → greater_tasks F prec M next s t arguments place is ≡ None
  arguments_place next s t p q u v zero is e f some = absurd (omega arith)
  arguments_place next s t p q u v (suc k) is e f some =
      ap₂ (λ (x y : Tm). greater_tasks F prec M next x y arguments (suc k) is) e f ∙ no_above F prec M next next (app p q) (app u v) arguments (suc k) (λ f. refl)

  tested : (next : ℕ) (s t p q u v : Tm) (is : Inferences) → s ≡ app p q → t ≡ app u v
      → greater_tasks F prec M next s t arguments zero is ≡ when (tests s t is) (pairwise next (arguments_of s) (arguments_of t))
  tested next s t p q u v is e f =
      ap₂ (λ (x y : Tm). greater_tasks F prec M next x y arguments zero is) e f
      ∙ sym (ap₂ (λ (x y : Tm). when (tests x y is) (pairwise next (arguments_of x) (arguments_of y))) e f)

  failed : (next : ℕ) (s t p q u v : Tm) (place : ℕ) (is : Inferences) → s ≡ app p q → t ≡ app u v → tests s t is ≡ false → greater_tasks F prec M next s t arguments place is ≡ None
  failed next s t p q u v (suc k) is e f not = arguments_place next s t p q u v (suc k) is e f (omega arith)
  failed next s t p q u v zero is e f not = tested next s t p q u v is e f ∙ ap (λ x. when x (pairwise next (arguments_of s) (arguments_of t))) not

  pub arguments_heads : (next : ℕ) (s t p q u v : Tm) (place : ℕ) (is : Inferences) → s ≡ app p q → t ≡ app u v → (head s ≡ head t → ⊥) → greater_tasks F prec M next s t arguments place is ≡ None
  arguments_heads next s t p q u v place is e f refuted =
      failed next s t p q u v place is e f
      (second_fails (is_other_head (head s)) (same (head s) (head t)) (length (arguments_of s) == length (arguments_of t)) (some_strict is) (other_trees (head s) (head t) refuted))

  pub arguments_count : (next : ℕ) (s t p q u v : Tm) (place : ℕ) (is : Inferences) → s ≡ app p q → t ≡ app u v → (length (arguments_of s) ≡ length (arguments_of t) → ⊥)
      → greater_tasks F prec M next s t arguments place is ≡ None
  arguments_count next s t p q u v place is e f refuted =
      failed next s t p q u v place is e f
      (third_fails (is_other_head (head s)) (same (head s) (head t)) (length (arguments_of s) == length (arguments_of t)) (some_strict is)
      (ne_eqb (length (arguments_of s)) (length (arguments_of t)) refuted))

  pub arguments_equal : (next : ℕ) (s t p q u v : Tm) (place : ℕ) (is : Inferences) → s ≡ app p q → t ≡ app u v → some_strict is ≡ false → greater_tasks F prec M next s t arguments place is ≡ None
  arguments_equal next s t p q u v place is e f not =
      failed next s t p q u v place is e f
      (fourth_fails (is_other_head (head s)) (same (head s) (head t)) (length (arguments_of s) == length (arguments_of t)) (some_strict is) not)

  pub arguments_are : (next : ℕ) (s t p q u v : Tm) (place : ℕ) (is : Inferences) → s ≡ app p q → t ≡ app u v → place ≡ 0 → is_other_head (head s) ≡ true → head s ≡ head t
      → length (arguments_of s) ≡ length (arguments_of t) → some_strict is ≡ true → greater_tasks F prec M next s t arguments place is ≡ Some (pairwise next (arguments_of s) (arguments_of t))
  arguments_are next s t p q u v (suc k) is e f first other heads long so = absurd (omega (arith, first))
  arguments_are next s t p q u v zero is e f first other heads long so =
      tested next s t p q u v is e f
      ∙ ap (λ x. when x (pairwise next (arguments_of s) (arguments_of t)))
      (all_hold (is_other_head (head s)) (same (head s) (head t)) (length (arguments_of s) == length (arguments_of t)) (some_strict is) other (one_tree (head s) (head t) heads)
      (eq-eqb (length (arguments_of s)) (length (arguments_of t)) long) so)

  -- the other letters, for which the left tree is above the right one

  pub greater_above : (next : ℕ) (s t : Tm) (l : Letter) (place : ℕ) (is : Inferences) → IsOtherLetter l → greater_tasks F prec M next s t l place is ≡ above_tasks F prec M next next s t l place
  greater_above next (bound i) t l place is o = refl
  greater_above next (free x a) t l place is o = refl
  greater_above next (fun f) t l place is o = refl
  greater_above next (meta z ts) t l place is o = refl
  greater_above next (lam a p) (bound j) l place is o = refl
  greater_above next (lam a p) (free y b) l place is o = refl
  greater_above next (lam a p) (fun g) l place is o = refl
  greater_above next (lam a p) (meta z2 us) l place is o = refl
  greater_above next (lam a p) (app u v) l place is o = refl
  greater_above next (lam a p) (lam b u) same_trees place is o = refl
  greater_above next (lam a p) (lam b u) part place is o = refl
  greater_above next (lam a p) (lam b u) lower place is o = refl
  greater_above next (lam a p) (lam b u) first_less place is o = refl
  greater_above next (lam a p) (lam b u) spine_parts place is o = refl
  greater_above next (lam a p) (lam b u) body place is o = refl
  greater_above next (lam a p) (lam b u) variable place is o = refl
  greater_above next (lam a p) (lam b u) meta_part place is o = refl
  greater_above next (lam a p) (lam b u) bodies place is o = absurd o
  greater_above next (lam a p) (lam b u) arguments place is o = absurd o
  greater_above next (app p q) (bound j) l place is o = refl
  greater_above next (app p q) (free y b) l place is o = refl
  greater_above next (app p q) (fun g) l place is o = refl
  greater_above next (app p q) (meta z2 us) l place is o = refl
  greater_above next (app p q) (lam b u) l place is o = refl
  greater_above next (app p q) (app u v) same_trees place is o = refl
  greater_above next (app p q) (app u v) part place is o = refl
  greater_above next (app p q) (app u v) lower place is o = refl
  greater_above next (app p q) (app u v) first_less place is o = refl
  greater_above next (app p q) (app u v) spine_parts place is o = refl
  greater_above next (app p q) (app u v) body place is o = refl
  greater_above next (app p q) (app u v) variable place is o = refl
  greater_above next (app p q) (app u v) meta_part place is o = refl
  greater_above next (app p q) (app u v) bodies place is o = absurd o
  greater_above next (app p q) (app u v) arguments place is o = absurd o

  -- types

  pub typed_greater : (next : ℕ) (s t : Tm) (l : Letter) (place : ℕ) (is : Inferences) → kind F M [] s ≡ kind F M [] t
      → typed_tasks F prec M next s t l place is ≡ greater_tasks F prec M next s t l place is
  typed_greater next s t l place is e =
      ap (λ (b : Bool). cond b (greater_tasks F prec M next s t l place is) None) (one_type (kind F M [] s) (kind F M [] t) e)

  pub typed_refused : (next : ℕ) (s t : Tm) (l : Letter) (place : ℕ) (is : Inferences) → (kind F M [] s ≡ kind F M [] t → ⊥) → typed_tasks F prec M next s t l place is ≡ None
  typed_refused next s t l place is refuted =
      ap (λ (b : Bool). cond b (greater_tasks F prec M next s t l place is) None) (other_types (kind F M [] s) (kind F M [] t) refuted)

  -- the same trees

  pub same_are : (next : ℕ) (s t : Tm) (l : Letter) (place : ℕ) (is : Inferences) → place ≡ 0 → l ≡ same_trees → s ≡ t → at_least_tasks F prec M next s t l place is ≡ Some []
  same_are next s t l place is first e f =
      ap₂ (λ (k : Letter) (j : ℕ). at_least_tasks F prec M next s t k j is) e first ∙ ap (λ x. when x []) (one_tree s t f)

  pub same_refused : (next : ℕ) (s t : Tm) (l : Letter) (place : ℕ) (is : Inferences) → place ≡ 0 → l ≡ same_trees → (s ≡ t → ⊥) → at_least_tasks F prec M next s t l place is ≡ None
  same_refused next s t l place is first e refuted =
      ap₂ (λ (k : Letter) (j : ℕ). at_least_tasks F prec M next s t k j is) e first ∙ ap (λ x. when x []) (other_trees s t refuted)

  pub at_least_typed : (next : ℕ) (s t : Tm) (l : Letter) (place : ℕ) (is : Inferences) → (place ≡ 0 → l ≡ same_trees → ⊥)
      → at_least_tasks F prec M next s t l place is ≡ typed_tasks F prec M next s t l place is
  at_least_typed next s t same_trees zero is refuted = absurd (refuted refl refl)
  at_least_typed next s t same_trees (suc k) is refuted = refl
  at_least_typed next s t bodies place is refuted = refl
  at_least_typed next s t arguments place is refuted = refl
  at_least_typed next s t part place is refuted = refl
  at_least_typed next s t lower place is refuted = refl
  at_least_typed next s t first_less place is refuted = refl
  at_least_typed next s t spine_parts place is refuted = refl
  at_least_typed next s t body place is refuted = refl
  at_least_typed next s t variable place is refuted = refl
  at_least_typed next s t meta_part place is refuted = refl
