-- What an instance puts for variables stands in the last term: its limits are those of that term.
use Rattle.std.proofs.Common.{◌≡◌, ℕ, zero, suc, ◌+◌, ◌<◌, ◌≤◌, List, Some, refl, ap, ap₂, sym, ◌∙◌, subst, arith, ⊎_elim}
use Rattle.std.specs.Prelude.{max}
use Rattle.wh_types.specs.Ty.{Ty}
use Rattle.wh_terms.specs.Tree.{Tm, bound, free, fun, meta, lam, app, Tms, none, more, argument_count}
use Rattle.wh_terms.specs.Measures.{height, heights, risen, SpinesWithin, AllSpinesWithin}
use Rattle.wh_terms.specs.Substitution.{rename, up, up_free, act, acts, cons, opened}
use Rattle.wh_terms.specs.Places.{opened_part_at}
use Rattle.wh_no.proofs.Reaching.{Reaches, at_end, in_body, in_function, in_argument, reaches, variables-cons, variables-up, AreVariables, IsVariable}
use Rattle.wh_loop_starts.specs.Meets.{Holds, filled}
use Rattle.wh_loop_starts.proofs.TypesKept.{TypesHave, types-opened}
use Rattle.wh_loop_starts.proofs.SmallTypes.{IsSmallType}

-- the numbers of free variables are below n
abbrev mutual
  pub NumbersBelow : ℕ → Tm → Type 0
  NumbersBelow n (free x a) = x < n
  NumbersBelow n (meta z ts) = AllNumbersBelow n ts
  NumbersBelow n (lam a t) = NumbersBelow n t
  NumbersBelow n (app t u) = NumbersBelow n t × NumbersBelow n u
  NumbersBelow n _ = Unit {0}

  pub AllNumbersBelow : ℕ → Tms → Type 0
  AllNumbersBelow n none = Unit {0}
  AllNumbersBelow n (more t ts) = NumbersBelow n t × AllNumbersBelow n ts

-- variables for variables keep height, spines and numbers

height_variable : (t : Tm) → IsVariable t → height t ≡ 0
height_variable (bound i) v = refl
height_variable (free x a) v = refl
height_variable (fun f) v = absurd v
height_variable (meta z ts) v = absurd v
height_variable (lam a t) v = absurd v
height_variable (app t u) v = absurd v

risen_variable : (t : Tm) (n : ℕ) → IsVariable t → risen t n ≡ 1 + n
risen_variable (bound i) n v = refl
risen_variable (free x a) n v = refl
risen_variable (fun f) n v = absurd v
risen_variable (meta z ts) n v = absurd v
risen_variable (lam a t) n v = absurd v
risen_variable (app t u) n v = absurd v

count_variable : (t : Tm) → IsVariable t → argument_count t ≡ 0
count_variable (bound i) v = refl
count_variable (free x a) v = refl
count_variable (fun f) v = absurd v
count_variable (meta z ts) v = absurd v
count_variable (lam a t) v = absurd v
count_variable (app t u) v = absurd v

spines_variable : (n : ℕ) (t : Tm) → IsVariable t → SpinesWithin n t
spines_variable n (bound i) v = tt
spines_variable n (free x a) v = tt
spines_variable n (fun f) v = absurd v
spines_variable n (meta z ts) v = absurd v
spines_variable n (lam a t) v = absurd v
spines_variable n (app t u) v = absurd v

risen-act : (σ : ℕ → Tm) (t : Tm) (n : ℕ) → AreVariables σ → risen (act σ free t) n ≡ risen t n
unfolding act
risen-act σ (bound i) n h = risen_variable (σ i) n (h i)
risen-act σ (free x a) n h = refl
risen-act σ (fun f) n h = refl
risen-act σ (meta z ts) n h = refl
risen-act σ (lam a t) n h = refl
risen-act σ (app t u) n h = refl

count-act : (σ : ℕ → Tm) (t : Tm) → AreVariables σ → argument_count (act σ free t) ≡ argument_count t
unfolding act
count-act σ (bound i) h = count_variable (σ i) (h i)
count-act σ (free x a) h = refl
count-act σ (fun f) h = refl
count-act σ (meta z ts) h = refl
count-act σ (lam a t) h = refl
count-act σ (app t u) h = ap (λ n. n + 1) (count-act σ t h)

mutual
  unfolding act acts up_free rename

  height-act : (σ : ℕ → Tm) (t : Tm) → AreVariables σ → height (act σ free t) ≡ height t
  height-act σ (bound i) h = height_variable (σ i) (h i)
  height-act σ (free x a) h = refl
  height-act σ (fun f) h = refl
  height-act σ (meta z none) h = refl
  height-act σ (meta z (more t ts)) h = ap₂ (λ n m. 1 + max n m) (height-act σ t h) (heights-acts σ ts h)
  height-act σ (lam a t) h = ap (λ n. 1 + n) (height-act (up σ) t (variables-up σ h))
  height-act σ (app t u) h = ap₂ (λ n m. max n (1 + m)) (risen-act σ t (height (act σ free t)) h ∙ ap (risen t) (height-act σ t h)) (height-act σ u h)

  heights-acts : (σ : ℕ → Tm) (ts : Tms) → AreVariables σ → heights (acts σ free ts) ≡ heights ts
  heights-acts σ none h = refl
  heights-acts σ (more t ts) h = ap₂ max (height-act σ t h) (heights-acts σ ts h)

mutual
  unfolding act acts up_free rename

  spines-act : (n : ℕ) (σ : ℕ → Tm) (t : Tm) → AreVariables σ → SpinesWithin n t → SpinesWithin n (act σ free t)
  spines-act n σ (bound i) h k = spines_variable n (σ i) (h i)
  spines-act n σ (free x a) h k = tt
  spines-act n σ (fun f) h k = tt
  spines-act n σ (meta z ts) h k = all_spines-acts n σ ts h k
  spines-act n σ (lam a t) h k = spines-act n (up σ) t (variables-up σ h) k
  spines-act n σ (app t u) h k = (subst (λ m. m + 1 ≤ n) (sym (count-act σ t h)) k.0, spines-act n σ t h k.1, spines-act n σ u h k.2)

  all_spines-acts : (n : ℕ) (σ : ℕ → Tm) (ts : Tms) → AreVariables σ → AllSpinesWithin n ts → AllSpinesWithin n (acts σ free ts)
  all_spines-acts n σ none h k = tt
  all_spines-acts n σ (more t ts) h k = (spines-act n σ t h k.0, all_spines-acts n σ ts h k.1)

-- the numbers of what is put for loose variables

numbers-rename : (n : ℕ) (t : Tm) → IsVariable t → NumbersBelow n t → NumbersBelow n (rename suc t)
unfolding rename
numbers-rename n (bound i) v h = tt
numbers-rename n (free x a) v h = h
numbers-rename n (fun f) v h = absurd v
numbers-rename n (meta z ts) v h = absurd v
numbers-rename n (lam a t) v h = absurd v
numbers-rename n (app t u) v h = absurd v

abbrev AreLow : ℕ → (ℕ → Tm) → Type 0
AreLow n σ = (i : ℕ) → NumbersBelow n (σ i)

low-up : (n : ℕ) (σ : ℕ → Tm) → AreVariables σ → AreLow n σ → AreLow n (up σ)
unfolding up
low-up n σ v h zero = tt
low-up n σ v h (suc i) = numbers-rename n (σ i) (v i) (h i)

low-cons : (n x : ℕ) (a : Ty) → x < n → AreLow n (cons (free x a) bound)
unfolding cons
low-cons n x a l zero = l
low-cons n x a l (suc i) = tt

mutual
  unfolding act acts up_free rename

  numbers-act : (n : ℕ) (σ : ℕ → Tm) (t : Tm) → AreVariables σ → AreLow n σ → NumbersBelow n t → NumbersBelow n (act σ free t)
  numbers-act n σ (bound i) v l h = l i
  numbers-act n σ (free x a) v l h = h
  numbers-act n σ (fun f) v l h = tt
  numbers-act n σ (meta z ts) v l h = all_numbers-acts n σ ts v l h
  numbers-act n σ (lam a t) v l h = numbers-act n (up σ) t (variables-up σ v) (low-up n σ v l) h
  numbers-act n σ (app t u) v l h = (numbers-act n σ t v l h.0, numbers-act n σ u v l h.1)

  all_numbers-acts : (n : ℕ) (σ : ℕ → Tm) (ts : Tms) → AreVariables σ → AreLow n σ → AllNumbersBelow n ts → AllNumbersBelow n (acts σ free ts)
  all_numbers-acts n σ none v l h = tt
  all_numbers-acts n σ (more t ts) v l h = (numbers-act n σ t v l h.0, all_numbers-acts n σ ts v l h.1)

-- a tree with so high parts, few arguments, low numbers and small types
pub record IsWithin (n h : ℕ) (t : Tm) : Type 0 where
  pub low : height t ≤ h
  pub narrow : SpinesWithin 32 t
  pub numbered : NumbersBelow n t
  pub small : TypesHave IsSmallType t

opened_within : (n h x : ℕ) (a : Ty) (t : Tm) → x < n → IsWithin n (1 + h) (lam a t) → IsWithin n h (opened (free x a) t)
unfolding opened
opened_within n h x a t l k = record {
  low = omega (arith, height-act (cons (free x a) bound) t (variables-cons x a), k.low);
  narrow = spines-act 32 (cons (free x a) bound) t (variables-cons x a) k.narrow;
  numbered = numbers-act n (cons (free x a) bound) t (variables-cons x a) (low-cons n x a l) k.numbered;
  small = types-opened IsSmallType (free x a) t k.small.0 k.small.1;
}

height_function : (t u : Tm) → height t ≤ height (app t u)
height_function t u = go t
  where
    go : (s : Tm) → height s ≤ max (risen s (height s)) (1 + height u)
    go (bound i) = omega arith
    go (free x a) = omega arith
    go (fun f) = omega arith
    go (meta z ts) = omega arith
    go (lam a s) = omega arith
    go (app s r) = omega arith

function_within : (n h : ℕ) (t u : Tm) → IsWithin n h (app t u) → IsWithin n h t
function_within n h t u k = record { low = omega (arith, height_function t u, k.low); narrow = k.narrow.1; numbered = k.numbered.0; small = k.small.0 }

argument_within : (n h : ℕ) (t u : Tm) → IsWithin n h (app t u) → IsWithin n h u
argument_within n h t u k = record { low = omega (arith, k.low); narrow = k.narrow.2; numbered = k.numbered.1; small = k.small.1 }

more_within : (n h g : ℕ) (t : Tm) → h ≤ g → IsWithin n h t → IsWithin n g t
more_within n h g t l k = record { low = omega (arith, k.low); narrow = k.narrow; numbered = k.numbered; small = k.small }

body_within : (n h : ℕ) (a : Ty) (t : Tm) → IsWithin n h (lam a t) → IsWithin n h t
body_within n h a t k = record { low = omega (arith, k.low); narrow = k.narrow; numbered = k.numbered; small = k.small.1 }

-- an opened part: each passed binder takes from the height
part_within : {x : ℕ} {p : List ℕ} {u w : Tm} (n h : ℕ) → Reaches x p u w → x + h ≤ n → IsWithin n h u → IsWithin n h w
part_within n h (at_end same) l k = subst (IsWithin n h) same k
part_within n zero (in_body {a = a} {t = t} r) l k = absurd (omega (arith, k.low))
part_within n (suc h) (in_body {x = x} {a = a} {t = t} {w = w} r) l k =
    more_within n h (suc h) w (omega arith) (part_within n h r (omega arith) (opened_within n h x a t (omega arith) (more_within n (suc h) (1 + h) (lam a t) (omega arith) k)))
part_within n h (in_function {t = t} {u = u} r) l k = part_within n h r l (function_within n h t u k)
part_within n h (in_argument {t = t} {u = u} r) l k = part_within n h r l (argument_within n h t u k)

pub opened_part_within : (n h x : ℕ) (p : List ℕ) (u w : Tm) → opened_part_at x p u ≡ Some w → x + h ≤ n → IsWithin n h u → IsWithin n h w
opened_part_within n h x p u w e l k = part_within n h (reaches p x u w e) l k

-- what fills a variable is a part
pub value_within : (n h x : ℕ) (a : Ty) (φ : ℕ → Tm) (t : Tm) → Holds x a t → IsWithin n h (filled φ t) → IsWithin n h (φ x)
value_within n h x a φ (free y b) o k = subst (λ z. IsWithin n h (φ z)) o.0 k
value_within n h x a φ (lam b t) o k = value_within n h x a φ t o (body_within n h b (filled φ t) k)
value_within n h x a φ (app t u) o k =
    ⊎_elim (λ l. value_within n h x a φ t l (function_within n h (filled φ t) (filled φ u) k)) (λ r. value_within n h x a φ u r (argument_within n h (filled φ t) (filled φ u) k)) o
value_within n h x a φ (bound i) o k = absurd o
value_within n h x a φ (fun f) o k = absurd o
value_within n h x a φ (meta z ts) o k = absurd o
