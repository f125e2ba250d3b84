-- Places, as they stand and opened: opening keeps a symbol at the head, and the number of its arguments.
use Rattle.std.proofs.Common.{◌≡◌, ℕ, zero, suc, ◌+◌, ◌<◌, ◌≤◌, List, [], ◌∷◌, ◌++◌, length, Option, Some, None, refl, ap, sym, ◌∙◌, subst, arith, append_assoc}
use Rattle.std.proofs.lemmas.List.{append-nil}
use Rattle.std.specs.Prelude.{option_and_then}
use Rattle.std.proofs.lemmas.List.Elements.{All-nil, All-cons}
use Rattle.wh_types.specs.Ty.{Ty}
use Rattle.wh_terms.specs.Tree.{Tm, bound, free, fun, meta, lam, app}
use Rattle.wh_terms.specs.Measures.{size}
use Rattle.wh_terms.specs.Typing.{Symbols}
use Rattle.wh_terms.specs.Places.{IsPath, child, part_at}
use Rattle.wh_terms.specs.Substitution.{rename, up, up_free, act, cons, opened}
use Rattle.wh_terms.proofs.PassedLemmas.{IsLeaf}
use Rattle.wh_terms.proofs.TypingLaws.{some_one}
use Rattle.wh_no.specs.Claim.{Put, put_for}
use Rattle.wh_no.specs.Unused.{first_unused}
use Rattle.wh_no.specs.Valid.{HoldsInstance}
use Rattle.wh_no.proofs.Reaching.{variables-cons, variables-up, AreVariables, IsVariable, Reaches, at_end, in_body, in_function, in_argument, reaches}
use Rattle.wh_loop_starts.specs.Space.{HoldsInstanceOf}
use Rattle.wh_loop_starts.specs.Meets.{IsHeaded, SameHead, HasNoneAt, HasNoneBelow, HasNoneFrom}
use Rattle.wh_no.proofs.NumberLemmas.{no_some}

-- a child is there, or is not

leaf_child : (d : ℕ) (t : Tm) → IsLeaf t → child d t ≡ None
leaf_child zero (bound i) l = refl
leaf_child (suc zero) (bound i) l = refl
leaf_child (suc (suc d)) (bound i) l = refl
leaf_child zero (free x a) l = refl
leaf_child (suc zero) (free x a) l = refl
leaf_child (suc (suc d)) (free x a) l = refl
leaf_child zero (fun f) l = refl
leaf_child (suc zero) (fun f) l = refl
leaf_child (suc (suc d)) (fun f) l = refl
leaf_child zero (meta z ts) l = refl
leaf_child (suc zero) (meta z ts) l = refl
leaf_child (suc (suc d)) (meta z ts) l = refl
leaf_child d (lam a t) l = absurd l
leaf_child d (app t u) l = absurd l

childless : (d : ℕ) (t r : Tm) → IsLeaf t → child d t ≡ Some r → ⊥
childless d t r l e = no_some (sym (leaf_child d t l) ∙ e)

child_facts : (d : ℕ) (t r : Tm) → child d t ≡ Some r → (d < 2) × (size r < size t)
child_facts zero (app t u) r e = (omega arith, omega (arith, ap size (some_one e)))
child_facts (suc zero) (app t u) r e = (omega arith, omega (arith, ap size (some_one e)))
child_facts (suc (suc d)) (app t u) r e = absurd (no_some e)
child_facts zero (lam a t) r e = (omega arith, omega (arith, ap size (some_one e)))
child_facts (suc zero) (lam a t) r e = absurd (no_some e)
child_facts (suc (suc d)) (lam a t) r e = absurd (no_some e)
child_facts d (bound i) r e = absurd (childless d (bound i) r tt e)
child_facts d (free x a) r e = absurd (childless d (free x a) r tt e)
child_facts d (fun f) r e = absurd (childless d (fun f) r tt e)
child_facts d (meta z ts) r e = absurd (childless d (meta z ts) r tt e)

and_then : (o : Option Tm) (f : Tm → Option Tm) (w : Tm) → option_and_then f o ≡ Some w → (r : Tm) × (o ≡ Some r) × (f r ≡ Some w)
and_then None f w e = absurd (no_some e)
and_then (Some r) f w e = (r, refl, e)

-- a part of a part

joined : (p q : List ℕ) (o : Option Tm) → ((t : Tm) → part_at (p ++ q) t ≡ option_and_then (part_at q) (part_at p t))
    → option_and_then (part_at (p ++ q)) o ≡ option_and_then (part_at q) (option_and_then (part_at p) o)
joined p q None h = refl
joined p q (Some t) h = h t

part-append : (p q : List ℕ) (t : Tm) → part_at (p ++ q) t ≡ option_and_then (part_at q) (part_at p t)
part-append [] q t = refl
part-append (d ∷ p) q t = joined p q (child d t) (part-append p q)

pub part_on : (p q : List ℕ) (t r : Tm) → part_at p t ≡ Some r → part_at (p ++ q) t ≡ part_at q r
part_on p q t r e = part-append p q t ∙ ap (option_and_then (part_at q)) e

one_on : (d : ℕ) (r v : Tm) → child d r ≡ Some v → part_at (d ∷ []) r ≡ Some v
one_on d r v e = ap (option_and_then (part_at [])) e

pub part_next : (p : List ℕ) (d : ℕ) (t r v : Tm) → part_at p t ≡ Some r → child d r ≡ Some v → part_at (p ++ d ∷ []) t ≡ Some v
part_next p d t r v e f = part_on p (d ∷ []) t r e ∙ one_on d r v f

-- the steps to a part are 0 and 1, and no more than the tree is large
pub part_facts : (p : List ℕ) (t r : Tm) → part_at p t ≡ Some r → IsPath p × (length p + size r ≤ size t)
part_facts [] t r e = (All-nil (λ d. d < 2), omega (arith, ap size (some_one e)))
part_facts (d ∷ p) t r e =
    let (v, here, there) = and_then (child d t) (part_at p) r e in
    let (low, less) = child_facts d t v here in
    let (path, within) = part_facts p v r there in
    (All-cons (λ n. n < 2) d p low path, omega arith)

-- variables for variables keep symbols with arguments

variable-leaf : (t : Tm) → IsVariable t → IsLeaf t
variable-leaf (bound i) v = tt
variable-leaf (free x a) v = tt
variable-leaf (fun f) v = tt
variable-leaf (meta z ts) v = tt
variable-leaf (lam a t) v = absurd v
variable-leaf (app t u) v = absurd v

variable-headless : (s t : Tm) → IsVariable t → SameHead s t → ⊥
variable-headless (fun f) (bound i) v h = h
variable-headless (fun f) (free x a) v h = h
variable-headless (fun f) (fun g) v h = v
variable-headless (fun f) (meta z ts) v h = v
variable-headless (fun f) (lam a t) v h = v
variable-headless (fun f) (app t u) v h = v
variable-headless (app q r) (bound i) v h = h
variable-headless (app q r) (free x a) v h = h
variable-headless (app q r) (fun g) v h = v
variable-headless (app q r) (meta z ts) v h = v
variable-headless (app q r) (lam a t) v h = v
variable-headless (app q r) (app t u) v h = v
variable-headless (bound j) t v h = h
variable-headless (free y b) t v h = h
variable-headless (meta y us) t v h = h
variable-headless (lam b s) t v h = h

head-act : (σ : ℕ → Tm) (s t : Tm) → AreVariables σ → SameHead s (act σ free t) → SameHead s t
unfolding act
head-act σ s (bound i) v h = absurd (variable-headless s (σ i) (v i) h)
head-act σ s (free x a) v h = h
head-act σ s (fun g) v h = h
head-act σ (fun f) (meta z ts) v h = h
head-act σ (fun f) (lam a t) v h = h
head-act σ (fun f) (app t u) v h = h
head-act σ (app q r) (meta z ts) v h = h
head-act σ (app q r) (lam a t) v h = h
head-act σ (app q r) (app t u) v h = head-act σ q t v h
head-act σ (bound j) (meta z ts) v h = h
head-act σ (bound j) (lam a t) v h = h
head-act σ (bound j) (app t u) v h = h
head-act σ (free y b) (meta z ts) v h = h
head-act σ (free y b) (lam a t) v h = h
head-act σ (free y b) (app t u) v h = h
head-act σ (meta y us) (meta z ts) v h = h
head-act σ (meta y us) (lam a t) v h = h
head-act σ (meta y us) (app t u) v h = h
head-act σ (lam b s) (meta z ts) v h = h
head-act σ (lam b s) (lam a t) v h = h
head-act σ (lam b s) (app t u) v h = h

-- what begins as w begins as r
abbrev Looks : Tm → Tm → Type 0
Looks r w = (s : Tm) → SameHead s w → SameHead s r

abbrev RawPart : List ℕ → Tm → Tm → Type 0
RawPart p t w = (r : Tm) × (part_at p t ≡ Some r) × Looks r w

raw_act : (p : List ℕ) (σ : ℕ → Tm) (t w : Tm) → AreVariables σ → part_at p (act σ free t) ≡ Some w → RawPart p t w
unfolding act up_free rename
raw_act [] σ t w v e = (t, refl, λ s h. head-act σ s t v (subst (SameHead s) (sym (some_one e)) h))
raw_act (d ∷ p) σ (bound i) w v e =
    let (r, here, there) = and_then (child d (σ i)) (part_at p) w e in absurd (childless d (σ i) r (variable-leaf (σ i) (v i)) here)
raw_act (d ∷ p) σ (free x a) w v e =
    let (r, here, there) = and_then (child d (free x a)) (part_at p) w e in absurd (childless d (free x a) r tt here)
raw_act (d ∷ p) σ (fun f) w v e =
    let (r, here, there) = and_then (child d (fun f)) (part_at p) w e in absurd (childless d (fun f) r tt here)
raw_act (d ∷ p) σ (meta z ts) w v e =
    let (r, here, there) = and_then (child d (act σ free (meta z ts))) (part_at p) w e in absurd (childless d (act σ free (meta z ts)) r tt here)
raw_act (zero ∷ p) σ (lam a t) w v e = raw_act p (up σ) t w (variables-up σ v) e
raw_act (suc zero ∷ p) σ (lam a t) w v e = absurd (no_some e)
raw_act (suc (suc d) ∷ p) σ (lam a t) w v e = absurd (no_some e)
raw_act (zero ∷ p) σ (app t u) w v e = raw_act p σ t w v e
raw_act (suc zero ∷ p) σ (app t u) w v e = raw_act p σ u w v e
raw_act (suc (suc d) ∷ p) σ (app t u) w v e = absurd (no_some e)

raw_opened : (p : List ℕ) (x : ℕ) (a : Ty) (t w : Tm) → RawPart p (opened (free x a) t) w → RawPart p t w
unfolding opened
raw_opened p x a t w (r, at, looks) =
    let (q, there, alike) = raw_act p (cons (free x a) bound) t r (variables-cons x a) at in (q, there, λ s h. alike s (looks s h))

raw_part : {x : ℕ} {p : List ℕ} {u w : Tm} → Reaches x p u w → RawPart p u w
raw_part (at_end {u = u} same) = (u, refl, λ s h. subst (SameHead s) (sym same) h)
raw_part (in_body {x = x} {path = p} {a = a} {t = t} {w = w} r) = raw_opened p x a t w (raw_part r)
raw_part (in_function r) = raw_part r
raw_part (in_argument r) = raw_part r

-- an instance begins as the tree of which it is one
instance_head : (φ : ℕ → Ty → Tm) (s : Tm) → IsHeaded s → SameHead s (act bound φ s)
unfolding act
instance_head φ (fun f) h = refl
instance_head φ (app t u) h = instance_head φ t h
instance_head φ (bound i) h = absurd h
instance_head φ (free x a) h = absurd h
instance_head φ (meta z ts) h = absurd h
instance_head φ (lam a t) h = absurd h

instance_part : (s u : Tm) (puts : List Put) (at : List ℕ) → HoldsInstance s puts at u → RawPart at u (act bound (put_for puts) s)
instance_part s u puts at h = raw_part (reaches at (first_unused s) u (act bound (put_for puts) s) h)

-- the path to an instance
pub part_path : (s u : Tm) (puts : List Put) (at : List ℕ) → HoldsInstance s puts at u → IsPath at × (length at ≤ size u)
part_path s u puts at h =
    let (r, here, looks) = instance_part s u puts at h in
    let (path, within) = part_facts at u r here in (path, omega arith)

-- where something else begins there is no instance
pub other_head : (S : Symbols) (s u r : Tm) (at : List ℕ) → IsHeaded s → part_at at u ≡ Some r → (SameHead s r → ⊥) → HasNoneAt S s u at
other_head S s u r at headed here other puts over rising h =
    let (q, there, looks) = instance_part s u puts at h in
    other (subst (SameHead s) (some_one (sym there ∙ here)) (looks s (instance_head (put_for puts) s headed)))

-- and where there is no part
no_part : (S : Symbols) (s u : Tm) (at : List ℕ) → part_at at u ≡ None → HasNoneAt S s u at
no_part S s u at gone puts over rising h = let (q, there, looks) = instance_part s u puts at h in no_some (sym gone ∙ there)

none_beyond : (S : Symbols) (s u r : Tm) (at rest : List ℕ) (d : ℕ) → part_at at u ≡ Some r → child d r ≡ None → HasNoneAt S s u (at ++ d ∷ rest)
none_beyond S s u r at rest d here gone = no_part S s u (at ++ d ∷ rest) (part_on at (d ∷ rest) u r here ∙ ap (option_and_then (part_at rest)) gone)

none_further : (S : Symbols) (s u : Tm) (at rest : List ℕ) (d : ℕ) → HasNoneFrom S s u (at ++ d ∷ []) → HasNoneAt S s u (at ++ d ∷ rest)
none_further S s u at rest d h = subst (HasNoneAt S s u) (append_assoc at (d ∷ []) rest) (h rest)

-- no instance at a place and below it
pub none_from : (S : Symbols) (s u : Tm) (at : List ℕ) → HasNoneAt S s u at → HasNoneBelow S s u at → HasNoneFrom S s u at
none_from S s u at here below [] = subst (HasNoneAt S s u) (sym (append-nil at)) here
none_from S s u at here below (d ∷ rest) = below d rest

pub none_below_leaf : (S : Symbols) (s u r : Tm) (at : List ℕ) → part_at at u ≡ Some r → IsLeaf r → HasNoneBelow S s u at
none_below_leaf S s u r at here leaf d rest = none_beyond S s u r at rest d here (leaf_child d r leaf)

pub none_below_lam : (S : Symbols) (s u r : Tm) (a : Ty) (t : Tm) (at : List ℕ) → part_at at u ≡ Some r → r ≡ lam a t → HasNoneFrom S s u (at ++ 0 ∷ []) → HasNoneBelow S s u at
none_below_lam S s u r a t at here is below zero rest = none_further S s u at rest 0 below
none_below_lam S s u r a t at here is below (suc zero) rest = none_beyond S s u (lam a t) at rest 1 (here ∙ ap Some is) refl
none_below_lam S s u r a t at here is below (suc (suc d)) rest = none_beyond S s u (lam a t) at rest (suc (suc d)) (here ∙ ap Some is) refl

pub none_below_app : (S : Symbols) (s u r t v : Tm) (at : List ℕ) → part_at at u ≡ Some r → r ≡ app t v → HasNoneFrom S s u (at ++ 0 ∷ []) → HasNoneFrom S s u (at ++ 1 ∷ []) → HasNoneBelow S s u at
none_below_app S s u r t v at here is left right zero rest = none_further S s u at rest 0 left
none_below_app S s u r t v at here is left right (suc zero) rest = none_further S s u at rest 1 right
none_below_app S s u r t v at here is left right (suc (suc d)) rest = none_beyond S s u (app t v) at rest (suc (suc d)) (here ∙ ap Some is) refl

-- no instance from the top on
pub none_anywhere : (S R : Symbols) (s u : Tm) (at : List ℕ) → S ≡ R → at ≡ [] → HasNoneFrom S s u at → HoldsInstanceOf R s u → ⊥
none_anywhere S R s u at same top h (place, puts, over, rising, holds) = none place puts over rising holds
  where
    none : HasNoneFrom R s u []
    none = subst (λ Q. HasNoneFrom Q s u []) same (subst (HasNoneFrom S s u) top h)
