-- Roots of spines.
use Rattle.std.proofs.Common.{◌≡◌, ℕ, zero, suc, List, ◌⊎◌, inl, inr, Some, refl, ap, sym, ◌∙◌, subst, arith}
use Rattle.wh_terms.specs.Tree.{Tm, bound, free, fun, meta, lam, app, head, argument_count}
use Rattle.wh_terms.specs.Rules.{RewriteRule}
use Rattle.wh_system.specs.Needs.{need_of}
use Rattle.wh_graph.specs.Rigid.{Root, abstraction, variable, symbol, root, root_at, TooFew, IsFixed, Rigid, SameRoot, IsAbstraction, IsNamed, SameNames}

-- a root is that of an abstraction or of a name with arguments

pub abstraction_root : (t : Tm) → IsAbstraction t → root t ≡ Some abstraction
abstraction_root (lam a t) is = refl
abstraction_root (bound i) is = absurd is
abstraction_root (fun f) is = absurd is
abstraction_root (free x a) is = absurd is
abstraction_root (meta z ts) is = absurd is
abstraction_root (app t u) is = absurd is

named_root : (h : Tm) (n : ℕ) → IsNamed h → (r : Root) × (root_at h n ≡ Some r)
named_root (bound i) n named = (variable i n, refl)
named_root (fun f) n named = (symbol f n, refl)
named_root (free x a) n named = absurd named
named_root (meta z ts) n named = absurd named
named_root (lam a t) n named = absurd named
named_root (app t u) n named = absurd named

root_cases : (h : Tm) (n : ℕ) (r : Root) → root_at h n ≡ Some r → (IsAbstraction h × (n ≡ 0)) ⊎ IsNamed h
root_cases (lam a t) zero r e = inl (tt, refl)
root_cases (lam a t) (suc n) r e = cc
root_cases (bound i) n r e = inr tt
root_cases (fun f) n r e = inr tt
root_cases (free x a) n r e = cc
root_cases (meta z ts) n r e = cc
root_cases (app t u) n r e = cc

whole : (t : Tm) → argument_count t ≡ 0 → IsAbstraction (head t) → IsAbstraction t
whole (lam a t) e is = tt
whole (bound i) e is = is
whole (fun f) e is = is
whole (free x a) e is = is
whole (meta z ts) e is = is
whole (app t u) e is = absurd (omega arith)

-- a tree with a root is an abstraction, or a name heads it
pub rooted : (t : Tm) (r : Root) → root t ≡ Some r → IsAbstraction t ⊎ IsNamed (head t)
rooted t r e = elim (root_cases (head t) (argument_count t) r e) [
  | inl is ↦ inl (whole t is.1 is.0)
  | inr is ↦ inr is
]

-- the root of a name with arguments tells the name and their number

name_root : (h k : Tm) (n m : ℕ) (r : Root) → IsNamed h → IsNamed k → root_at h n ≡ Some r → root_at k m ≡ Some r → (h ≡ k) × (n ≡ m)
name_root (bound i) (bound j) n m r x y d e =
    let same : variable i n ≡ variable j m = cc in (cc, cc)
name_root (fun f) (fun g) n m r x y d e =
    let same : symbol f n ≡ symbol g m = cc in (cc, cc)
name_root (bound i) (fun g) n m r x y d e = cc
name_root (fun f) (bound j) n m r x y d e = cc
name_root (free z a) k n m r x y d e = absurd x
name_root (meta z ts) k n m r x y d e = absurd x
name_root (lam a t) k n m r x y d e = absurd x
name_root (app t u) k n m r x y d e = absurd x
name_root (bound i) (free z a) n m r x y d e = absurd y
name_root (bound i) (meta z ts) n m r x y d e = absurd y
name_root (bound i) (lam a t) n m r x y d e = absurd y
name_root (bound i) (app t u) n m r x y d e = absurd y
name_root (fun f) (free z a) n m r x y d e = absurd y
name_root (fun f) (meta z ts) n m r x y d e = absurd y
name_root (fun f) (lam a t) n m r x y d e = absurd y
name_root (fun f) (app t u) n m r x y d e = absurd y

no_name_abstraction : (h : Tm) (n : ℕ) → IsNamed h → root_at h n ≡ Some abstraction → ⊥
no_name_abstraction (bound i) n x e = cc
no_name_abstraction (fun f) n x e = cc
no_name_abstraction (free z a) n x e = x
no_name_abstraction (meta z ts) n x e = x
no_name_abstraction (lam a t) n x e = x
no_name_abstraction (app t u) n x e = x

pub same_root_from_names : (q p : Tm) → SameNames q p → SameRoot q p
same_root_from_names q p (named, e, n) =
    let found = named_root (head q) (argument_count q) named in
    let one : root p ≡ root q = sym (ap (λ h. root_at h (argument_count p)) e) ∙ ap (root_at (head q)) (sym n) in
    (found.0, found.1, one ∙ found.1)

pub names_from_same_root : (q p : Tm) → SameRoot q p → (IsAbstraction q × IsAbstraction p) ⊎ SameNames q p
names_from_same_root q p (r, d, e) = elim (rooted q r d) [
  | inl is ↦ elim (rooted p r e) [
    | inl also ↦ inl (is, also)
    | inr name ↦
        let one : root p ≡ Some abstraction = cc (d, e, abstraction_root q is) in
        absurd (no_name_abstraction (head p) (argument_count p) name one)
  ]
  | inr name ↦ elim (rooted p r e) [
    | inl is ↦
        let one : root q ≡ Some abstraction = cc (d, e, abstraction_root p is) in
        absurd (no_name_abstraction (head q) (argument_count q) name one)
    | inr also ↦
        let one = name_root (head q) (head p) (argument_count q) (argument_count p) r name also d e in
        inr (name, one.0, one.1)
  ]
]

-- rigid trees

pub rigid_abstraction : (rules : List RewriteRule) (t : Tm) → IsAbstraction t → Rigid rules t
rigid_abstraction rules t is = (abstraction, abstraction_root t is, tt)

pub rigid_variable : (rules : List RewriteRule) (t : Tm) (i : ℕ) → head t ≡ bound i → Rigid rules t
rigid_variable rules t i e = (variable i (argument_count t), ap (λ h. root_at h (argument_count t)) e, tt)

pub rigid_symbol : (rules : List RewriteRule) (t : Tm) (f : ℕ) → head t ≡ fun f → TooFew (need_of rules f) (argument_count t) → Rigid rules t
rigid_symbol rules t f e lacks = (symbol f (argument_count t), ap (λ h. root_at h (argument_count t)) e, lacks)

pub symbol_lacks : (rules : List RewriteRule) (t : Tm) (f : ℕ) → head t ≡ fun f → Rigid rules t → TooFew (need_of rules f) (argument_count t)
symbol_lacks rules t f e (r, d, fixed) =
    let one : symbol f (argument_count t) ≡ r = cc (d, ap (λ h. root_at h (argument_count t)) e) in
    subst (IsFixed rules) (sym one) fixed

pub rigid_rooted : (rules : List RewriteRule) (t : Tm) → Rigid rules t → IsAbstraction t ⊎ IsNamed (head t)
rigid_rooted rules t (r, d, fixed) = rooted t r d
