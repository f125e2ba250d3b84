-- How many arguments the symbols of filtered trees have: no more than their filters keep.
use Rattle.std.proofs.Common.{◌≡◌, ℕ, zero, suc, ◌+◌, ◌≤◌, List, [], ◌∷◌, ◌++◌, length, get_or, Some, slice_get, refl, ap, subst, arith}
use Rattle.std.specs.List.{AllByRecursion}
use Rattle.std.proofs.lemmas.List.{length-append}
use Rattle.wh_types.specs.Ty.{Ty}
use Rattle.wh_terms.specs.Tree.{Tm, bound, free, fun, meta, lam, app, Tms, none, more, spine, head}
use Rattle.wh_terms.specs.Substitution.{rename, up, up_free, act, acts, cons, opened}
use Rattle.wh_order_inference.specs.Filters.{Filter, keep, pick}
use Rattle.wh_order_extended.specs.Filtered.{collapse, chosen, filtered, sift, sifts}
use Rattle.wh_order_path.specs.Heads.{arguments_of}

-- no symbol in the tree has more than k arguments, where n more stand behind the tree
abbrev mutual
  pub SpinesTo : ℕ → ℕ → Tm → Type 0
  SpinesTo k n (fun f) = n ≤ k
  SpinesTo k n (app t u) = SpinesTo k (suc n) t × SpinesTo k 0 u
  SpinesTo k n (lam a t) = SpinesTo k 0 t
  SpinesTo k n (meta z ts) = EachSpinesTo k ts
  SpinesTo k n _ = Unit {0}

  pub EachSpinesTo : ℕ → Tms → Type 0
  EachSpinesTo k none = Unit {0}
  EachSpinesTo k (more t ts) = SpinesTo k 0 t × EachSpinesTo k ts

-- lists

abbrev pub AllSpinesTo : ℕ → List Tm → Type 0
AllSpinesTo k ts = AllByRecursion (SpinesTo k 0) ts

pub one_of : (k : ℕ) (ts : List Tm) (i : ℕ) (t : Tm) → AllSpinesTo k ts → slice_get ts i ≡ Some t → SpinesTo k 0 t
one_of k [] i t h e = absurd (cc)
one_of k (u ∷ ts) zero t h e = let same : u ≡ t = cc in subst (SpinesTo k 0) same h.0
one_of k (u ∷ ts) (suc i) t h e = one_of k ts i t h.1 e

with_last : (k : ℕ) (ts : List Tm) (t : Tm) → AllSpinesTo k ts → SpinesTo k 0 t → AllSpinesTo k (ts ++ t ∷ [])
with_last k [] t h last = (last, tt)
with_last k (u ∷ ts) t h last = (h.0, with_last k ts t h.1 last)

got : (k : ℕ) (ts : List Tm) (i : ℕ) → AllSpinesTo k ts → SpinesTo k 0 (get_or ts i (fun 0))
got k [] i h = omega arith
got k (t ∷ ts) zero h = h.0
got k (t ∷ ts) (suc i) h = got k ts i h.1

got_each : (k : ℕ) (is : List ℕ) (ts : List Tm) → AllSpinesTo k ts → AllSpinesTo k (chosen is ts)
got_each k [] ts h = tt
got_each k (i ∷ is) ts h = (got k ts i h, got_each k is ts h)

count_chosen : (is : List ℕ) (ts : List Tm) → length (chosen is ts) ≡ length is
count_chosen [] ts = refl
count_chosen (i ∷ is) ts = ap suc (count_chosen is ts)

-- spines

spine_to : (k n : ℕ) (h : Tm) (ts : List Tm) → SpinesTo k (length ts + n) h → AllSpinesTo k ts → SpinesTo k n (spine h ts)
spine_to k n h [] front each = subst (λ m. SpinesTo k m h) (omega arith) front
spine_to k n h (t ∷ ts) front each = spine_to k n (app h t) ts (subst (λ m. SpinesTo k m h) (omega arith) front, each.0) each.1

pub arguments_to : (k n : ℕ) (t : Tm) → SpinesTo k n t → AllSpinesTo k (arguments_of t)
arguments_to k n (app t u) h = with_last k (arguments_of t) u (arguments_to k (suc n) t h.0) h.1
arguments_to k n (bound i) h = tt
arguments_to k n (free x a) h = tt
arguments_to k n (fun f) h = tt
arguments_to k n (meta z ts) h = tt
arguments_to k n (lam a t) h = tt

pub count_to : (k n f : ℕ) (t : Tm) → SpinesTo k n t → head t ≡ fun f → length (arguments_of t) + n ≤ k
count_to k n f (app t u) h e = omega (arith, count_to k (suc n) f t h.0 e, length-append (arguments_of t) (u ∷ []))
count_to k n f (fun g) h e = omega (arith, h)
count_to k n f (bound i) h e = absurd (cc)
count_to k n f (free x a) h e = absurd (cc)
count_to k n f (meta z ts) h e = absurd (cc)
count_to k n f (lam a t) h e = absurd (cc)

-- bodies that are opened with a variable

abbrev IsVariable : Tm → Type 0
IsVariable (bound i) = Unit {0}
IsVariable (free x a) = Unit {0}
IsVariable _ = ⊥

variable_to : (k n : ℕ) (t : Tm) → IsVariable t → SpinesTo k n t
variable_to k n (bound i) v = tt
variable_to k n (free x a) v = tt
variable_to k n (fun f) v = absurd v
variable_to k n (meta z ts) v = absurd v
variable_to k n (lam a t) v = absurd v
variable_to k n (app t u) v = absurd v

renamed_variable : (r : ℕ → ℕ) (t : Tm) → IsVariable t → IsVariable (rename r t)
unfolding rename
renamed_variable r (bound i) v = tt
renamed_variable r (free x a) v = tt
renamed_variable r (fun f) v = absurd v
renamed_variable r (meta z ts) v = absurd v
renamed_variable r (lam a t) v = absurd v
renamed_variable r (app t u) v = absurd v

up_variables : (s : ℕ → Tm) → ((i : ℕ) → IsVariable (s i)) → (i : ℕ) → IsVariable (up s i)
unfolding up
up_variables s v zero = tt
up_variables s v (suc i) = renamed_variable suc (s i) (v i)

free_variables : (s : ℕ → Ty → Tm) → ((x : ℕ) (a : Ty) → IsVariable (s x a)) → (x : ℕ) (a : Ty) → IsVariable (up_free s x a)
unfolding up_free
free_variables s v x a = renamed_variable suc (s x a) (v x a)

mutual
  unfolding act acts

  act_to : (k n : ℕ) (s : ℕ → Tm) (r : ℕ → Ty → Tm) (t : Tm) → ((i : ℕ) → IsVariable (s i)) → ((x : ℕ) (a : Ty) → IsVariable (r x a)) → SpinesTo k n t → SpinesTo k n (act s r t)
  act_to k n s r (bound i) v w h = variable_to k n (s i) (v i)
  act_to k n s r (free x a) v w h = variable_to k n (r x a) (w x a)
  act_to k n s r (fun f) v w h = h
  act_to k n s r (meta z ts) v w h = acts_to k s r ts v w h
  act_to k n s r (lam a t) v w h = act_to k 0 (up s) (up_free r) t (up_variables s v) (free_variables r w) h
  act_to k n s r (app t u) v w h = (act_to k (suc n) s r t v w h.0, act_to k 0 s r u v w h.1)

  acts_to : (k : ℕ) (s : ℕ → Tm) (r : ℕ → Ty → Tm) (ts : Tms) → ((i : ℕ) → IsVariable (s i)) → ((x : ℕ) (a : Ty) → IsVariable (r x a)) → EachSpinesTo k ts → EachSpinesTo k (acts s r ts)
  acts_to k s r none v w h = tt
  acts_to k s r (more t ts) v w h = (act_to k 0 s r t v w h.0, acts_to k s r ts v w h.1)

one_variable : (x : ℕ) (a : Ty) (i : ℕ) → IsVariable (cons (free x a) bound i)
unfolding cons
one_variable x a zero = tt
one_variable x a (suc i) = tt

pub opened_to : (k n x : ℕ) (a : Ty) (t : Tm) → SpinesTo k n t → SpinesTo k n (opened (free x a) t)
unfolding opened
opened_to k n x a t h = act_to k n (cons (free x a) bound) free t (one_variable x a) (λ y b. tt) h

-- filtered trees

module _ (k : ℕ) (Φ : ℕ → Filter) (few : (f p : ℕ) (is : List ℕ) → Φ f ≡ keep p is → length is ≤ k) where
  filtered_to : (F : Filter) (f : ℕ) (ts : List Tm) → ((p : ℕ) (is : List ℕ) → F ≡ keep p is → length is ≤ k) → AllSpinesTo k ts → SpinesTo k 0 (filtered F f ts)
  filtered_to (keep p is) f ts h each = spine_to k 0 (fun f) (chosen is ts) (omega (arith, h p is refl, count_chosen is ts)) (got_each k is ts each)
  filtered_to (pick i) f ts h each = got k ts i each

  mutual
    unfolding sift sifts

    pub sift_to : (t : Tm) (ts : List Tm) → AllSpinesTo k ts → SpinesTo k 0 (sift Φ t ts)
    sift_to (bound i) ts each = spine_to k 0 (bound i) ts tt each
    sift_to (free x a) ts each = spine_to k 0 (free x (collapse a)) ts tt each
    sift_to (fun f) ts each = filtered_to (Φ f) f ts (few f) each
    sift_to (meta z us) ts each = spine_to k 0 (meta z (sifts Φ us)) ts (sifts_to us) each
    sift_to (lam a t) ts each = spine_to k 0 (lam (collapse a) (sift Φ t [])) ts (sift_to t [] tt) each
    sift_to (app t u) ts each = sift_to t (sift Φ u [] ∷ ts) (sift_to u [] tt, each)

    sifts_to : (us : Tms) → EachSpinesTo k (sifts Φ us)
    sifts_to none = tt
    sifts_to (more t us) = (sift_to t [] tt, sifts_to us)
