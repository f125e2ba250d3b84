-- Trees behind filters: what heads them, and their arguments.
use Rattle.std.proofs.Common.{◌≡◌, ℕ, zero, suc, ◌+◌, ◌<◌, Bool, true, false, List, [], ◌∷◌, ◌++◌, length, map, get_or, refl, ap, ◌∙◌, sym, Some, slice_get, arith, append-nil}
use Rattle.wh_terms.specs.Tree.{Tm, bound, free, fun, meta, lam, app, spine, head}
use Rattle.wh_order_inference.specs.Filters.{Filter, keep, pick}
use Rattle.wh_order_extended.specs.Filtered.{collapse, chosen, filtered, sift, sifts}
use Rattle.wh_order_path.specs.Heads.{arguments_of}
use Rattle.wh_order_path.specs.Verdict.{is_other_head}
use Rattle.wh_order_demands.specs.Claims.{behind, Says}

no_true : true ≡ false → ⊥
no_true e = cc

one_of : {A : Type 0} {a b : A} → Some a ≡ Some b → a ≡ b
one_of e = cc

pub symbol_not_other : (f : ℕ) (t : Tm) → t ≡ fun f → is_other_head t ≡ true → ⊥
symbol_not_other f t e o = no_true (sym o ∙ ap is_other_head e)

pub head_spine : (h : Tm) (ts : List Tm) → head (spine h ts) ≡ head h
head_spine h [] = refl
head_spine h (t ∷ ts) = head_spine (app h t) ts

one_more : {A : Type 0} (l : List A) (t : A) (ts : List A) → (l ++ t ∷ []) ++ ts ≡ l ++ t ∷ ts
one_more [] t ts = refl
one_more (x ∷ l) t ts = ap (λ m. x ∷ m) (one_more l t ts)

pub arguments_spine : (h : Tm) (ts : List Tm) → arguments_of (spine h ts) ≡ arguments_of h ++ ts
arguments_spine h [] = sym (append-nil (arguments_of h))
arguments_spine h (t ∷ ts) = arguments_spine (app h t) ts ∙ one_more (arguments_of h) t ts

behind_whole : (Φ : ℕ → Filter) (t : Tm) (qs : List Tm) → sift Φ t qs ≡ sift Φ (head t) (map (behind Φ) (arguments_of t) ++ qs)
unfolding sift
behind_whole Φ (bound i) qs = refl
behind_whole Φ (free x a) qs = refl
behind_whole Φ (fun f) qs = refl
behind_whole Φ (meta z ts) qs = refl
behind_whole Φ (lam a t) qs = refl
behind_whole Φ (app t u) qs = behind_whole Φ t (behind Φ u ∷ qs) ∙ ap (sift Φ (head t)) (moved (arguments_of t))
  where
    moved : (ts : List Tm) → map (behind Φ) ts ++ (behind Φ u ∷ qs) ≡ map (behind Φ) (ts ++ u ∷ []) ++ qs
    moved [] = refl
    moved (t ∷ ts) = ap (λ l. behind Φ t ∷ l) (moved ts)

behind_symbol : (Φ : ℕ → Filter) (t : Tm) (f : ℕ) → head t ≡ fun f → behind Φ t ≡ filtered (Φ f) f (map (behind Φ) (arguments_of t))
unfolding sift
behind_symbol Φ t f e =
    behind_whole Φ t [] ∙ ap (λ h. sift Φ h (map (behind Φ) (arguments_of t) ++ [])) e ∙ ap (filtered (Φ f) f) (append-nil (map (behind Φ) (arguments_of t)))

-- a symbol that keeps arguments
pub behind_kept : (Φ : ℕ → Filter) (t : Tm) (f p : ℕ) (is : List ℕ) → head t ≡ fun f → Φ f ≡ keep p is
    → behind Φ t ≡ spine (fun f) (chosen is (map (behind Φ) (arguments_of t)))
behind_kept Φ t f p is e k = behind_symbol Φ t f e ∙ ap (λ F. filtered F f (map (behind Φ) (arguments_of t))) k

pub kept_head : (Φ : ℕ → Filter) (t : Tm) (f p : ℕ) (is : List ℕ) → head t ≡ fun f → Φ f ≡ keep p is → head (behind Φ t) ≡ fun f
kept_head Φ t f p is e k = ap head (behind_kept Φ t f p is e k) ∙ head_spine (fun f) (chosen is (map (behind Φ) (arguments_of t)))

pub kept_arguments : (Φ : ℕ → Filter) (t : Tm) (f p : ℕ) (is : List ℕ) → head t ≡ fun f → Φ f ≡ keep p is
    → arguments_of (behind Φ t) ≡ chosen is (map (behind Φ) (arguments_of t))
kept_arguments Φ t f p is e k = ap arguments_of (behind_kept Φ t f p is e k) ∙ arguments_spine (fun f) (chosen is (map (behind Φ) (arguments_of t)))

pub get_at : (b : Tm → Tm) (ts : List Tm) (i : ℕ) (u d : Tm) → slice_get ts i ≡ Some u → get_or (map b ts) i d ≡ b u
get_at b [] i u d e = absurd (cc)
get_at b (t ∷ ts) zero u d e = ap b (one_of e)
get_at b (t ∷ ts) (suc i) u d e = get_at b ts i u d e

pub some_at : (ts : List Tm) (i : ℕ) → i < length ts → (u : Tm) × (slice_get ts i ≡ Some u)
some_at [] i l = absurd (omega (arith, l))
some_at (t ∷ ts) zero l = (t, refl)
some_at (t ∷ ts) (suc i) l = some_at ts i (omega (arith, l))

-- a symbol that gives way to an argument
pub behind_picked : (Φ : ℕ → Filter) (t : Tm) (f i : ℕ) (u : Tm) → head t ≡ fun f → Φ f ≡ pick i → slice_get (arguments_of t) i ≡ Some u
    → behind Φ t ≡ behind Φ u
behind_picked Φ t f i u e k at =
    behind_symbol Φ t f e ∙ ap (λ F. filtered F f (map (behind Φ) (arguments_of t))) k ∙ get_at (behind Φ) (arguments_of t) i u (fun 0) at

-- no symbol heads it
pub other_behind : (Φ : ℕ → Filter) (t : Tm) → is_other_head (head t) ≡ true → is_other_head (head (behind Φ t)) ≡ true
unfolding sift
other_behind Φ t o = ap (λ t. is_other_head (head t)) (behind_whole Φ t []) ∙ on (head t) (map (behind Φ) (arguments_of t) ++ []) o
  where
    on : (h : Tm) (qs : List Tm) → is_other_head h ≡ true → is_other_head (head (sift Φ h qs)) ≡ true
    on (bound i) qs o = ap is_other_head (head_spine (bound i) qs)
    on (free x a) qs o = ap is_other_head (head_spine (free x (collapse a)) qs)
    on (fun f) qs o = absurd (cc)
    on (meta z ts) qs o = ap is_other_head (head_spine (meta z (sifts Φ ts)) qs)
    on (lam a t) qs o = ap is_other_head (head_spine (lam (collapse a) (sift Φ t [])) qs)
    on (app t u) qs o = absurd (cc)

pub chosen_at : (is : List ℕ) (qs : List Tm) (m : ℕ) (u : Tm) → slice_get (chosen is qs) m ≡ Some u
    → (i : ℕ) × (slice_get is m ≡ Some i) × (u ≡ get_or qs i (fun 0))
chosen_at [] qs m u e = absurd (cc)
chosen_at (i ∷ is) qs zero u e = (i, refl, sym (one_of e))
chosen_at (i ∷ is) qs (suc m) u e = chosen_at is qs m u e

pub at_chosen : (is : List ℕ) (qs : List Tm) (m i : ℕ) → slice_get is m ≡ Some i → slice_get (chosen is qs) m ≡ Some (get_or qs i (fun 0))
at_chosen [] qs m i e = absurd (cc)
at_chosen (j ∷ is) qs zero i e = ap (λ j. Some (get_or qs j (fun 0))) (one_of e)
at_chosen (j ∷ is) qs (suc m) i e = at_chosen is qs m i e

-- an argument that is kept
pub record KeptArgument (Φ : ℕ → Filter) (v : ℕ → Bool) (x : ℕ) (ts : List Tm) (w : Tm) : Type 0 where
  pub place : ℕ
  pub argument : Tm
  pub at : slice_get ts place ≡ Some argument
  pub set : v (x + place) ≡ true
  pub is : w ≡ behind Φ argument

pub kept_argument : (Φ : ℕ → Filter) (v : ℕ → Bool) (x : ℕ) (ts : List Tm) (F : Filter) (p : ℕ) (is : List ℕ) → Says v x (length ts) F → F ≡ keep p is
    → (m : ℕ) (w : Tm) → slice_get (chosen is (map (behind Φ) ts)) m ≡ Some w → KeptArgument Φ v x ts w
kept_argument Φ v x ts F p is say k m w e =
    let (i, at, same) = chosen_at is (map (behind Φ) ts) m w e in
    let (u, there) = some_at ts i (say.within p is i k (m, at)) in
    record { place = i; argument = u; at = there; set = say.kept p is i k (m, at); is = same ∙ get_at (behind Φ) ts i u (fun 0) there }

-- an argument whose bit is set is kept
pub argument_kept : (Φ : ℕ → Filter) (v : ℕ → Bool) (x : ℕ) (ts : List Tm) (F : Filter) (p : ℕ) (is : List ℕ) → Says v x (length ts) F → F ≡ keep p is
    → (i : ℕ) (u : Tm) → slice_get ts i ≡ Some u → i < length ts → v (x + i) ≡ true → (m : ℕ) × (slice_get (chosen is (map (behind Φ) ts)) m ≡ Some (behind Φ u))
argument_kept Φ v x ts F p is say k i u at l set =
    let (m, there) = say.others p is i k l set in
    (m, at_chosen is (map (behind Φ) ts) m i there ∙ ap Some (get_at (behind Φ) ts i u (fun 0) at))
