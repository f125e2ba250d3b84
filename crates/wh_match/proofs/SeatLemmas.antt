-- A body at the place of its meta-variable is renamed, and no two bodies are renamed to one tree.
use Rattle.std.proofs.Common.{◌≡◌, ◌≢◌, ℕ, zero, suc, ◌+◌, ◌-◌, ◌<◌, ◌≤◌, List, [], ◌∷◌, ◌++◌, length, get_or, take, subst, refl, ap, ap₂, sym, ◌∙◌, arith, add-one}
use Rattle.std.proofs.lemmas.List.{take_all}
use Rattle.wh_types.specs.Ty.{Ty}
use Rattle.wh_terms.specs.Tree.{Tm, bound, free, fun, meta, lam, app, Tms, none, more, count}
use Rattle.wh_terms.specs.Erase.{tm, tms}
use Rattle.wh_terms.specs.Pattern.{AllBoundBelow, Misses, Distinct}
use Rattle.wh_terms.specs.Substitution.{up_renaming, rename, renames, up, act, cons}
use Rattle.wh_terms.specs.Value.{parameters}
use Rattle.wh_terms.specs.Under.{ups, raised, moved}
use Rattle.wh_match.specs.MatchSearch.{placed, all_placed}
use Rattle.wh_terms.specs.declared.term.Term.{Term, Meta}
use Rattle.wh_terms.specs.declared.term.Term.TheVariants.{Bound, Free, Fun, Meta', Lam', App'}
use Rattle.wh_terms.proofs.ActLaws.{act_same, rename-is-act}
use Rattle.wh_terms.proofs.UnderLemmas.{raised_bound, ups_high}
use Rattle.wh_terms.proofs.TermLemmas.{join, tms_append, tms_take_next, tm_of_meta}
use Rattle.wh_terms.proofs.BodyLemmas.{count-tms, parameter_here, parameters-near, parameters-far}

-- the arguments are bound variables

pub bound_at : (k : ℕ) (xs : List Term) (i : ℕ) (t : Term) → AllBoundBelow k (tms xs) → i < length xs → t ≡ get_or xs i t
    → (n : ℕ) × (n < k) × (t ≡ Bound n)
bound_at k [] i t all within is = absurd (omega arith)
bound_at k (Bound n ∷ xs) zero t all within is = (n, all.0, is)
bound_at k (Bound n ∷ xs) (suc i) t all within is = bound_at k xs i t all.1 (omega arith) is
bound_at k (Free x a ∷ xs) i t all within is = absurd all
bound_at k (Fun f ∷ xs) i t all within is = absurd all
bound_at k (Meta' z s r ∷ xs) i t all within is = absurd all
bound_at k (Lam' a p u ∷ xs) i t all within is = absurd all
bound_at k (App' p u q v ∷ xs) i t all within is = absurd all

pub argument_here : (k d i j n : ℕ) (xs : List Term) (t : Term) → d ≤ i → (i - d) + j + 1 ≡ length xs → t ≡ get_or xs j t → tm t ≡ bound n
    → ups d (parameters (tms xs) (moved k)) i ≡ bound (n + d)
argument_here k d i j n xs t high sum is at = parameter_here k d i j xs t high sum is ∙ ap (raised d) at ∙ raised_bound d n

-- the number of a bound variable
abbrev pub number_of : Tm → ℕ
number_of (bound i) = i
number_of _ = 0

-- a function that gives bound variables only
abbrev pub GivesBound : (ℕ → Tm) → Type 0
GivesBound σ = (i : ℕ) → σ i ≡ bound (number_of (σ i))

gives-cons : (n : ℕ) (σ : ℕ → Tm) → GivesBound σ → GivesBound (cons (bound n) σ)
unfolding cons
gives-cons n σ h zero = refl
gives-cons n σ h (suc i) = h i

gives-parameters : (k : ℕ) (ts : Tms) (σ : ℕ → Tm) → AllBoundBelow k ts → GivesBound σ → GivesBound (parameters ts σ)
unfolding parameters
gives-parameters k none σ all h = h
gives-parameters k (more (bound n) ts) σ all h = gives-parameters k ts (cons (bound n) σ) all.1 (gives-cons n σ h)
gives-parameters k (more (free x a) ts) σ all h = absurd all
gives-parameters k (more (fun f) ts) σ all h = absurd all
gives-parameters k (more (meta z us) ts) σ all h = absurd all
gives-parameters k (more (lam a t) ts) σ all h = absurd all
gives-parameters k (more (app t u) ts) σ all h = absurd all

gives-moved : (k : ℕ) → GivesBound (moved k)
unfolding moved
gives-moved k i = refl

-- where the loose variables of a body go
unfoldable pub seat : ℕ → Tms → ℕ → ℕ
seat k ts i = number_of (parameters ts (moved k) i)

pub seat-is : (k : ℕ) (ts : Tms) (i : ℕ) → AllBoundBelow k ts → parameters ts (moved k) i ≡ bound (seat k ts i)
unfolding seat
seat-is k ts i all = gives-parameters k ts (moved k) all (gives-moved k) i

-- a renaming under d binders
unfoldable pub up_by : ℕ → (ℕ → ℕ) → ℕ → ℕ
up_by zero ρ = ρ
up_by (suc d) ρ = up_renaming (up_by d ρ)

ups-bound : (d : ℕ) (σ : ℕ → Tm) (ρ : ℕ → ℕ) → ((i : ℕ) → σ i ≡ bound (ρ i)) → (i : ℕ) → ups d σ i ≡ bound (up_by d ρ i)
unfolding ups up_by up up_renaming rename
ups-bound zero σ ρ h i = h i
ups-bound (suc d) σ ρ h zero = refl
ups-bound (suc d) σ ρ h (suc i) = ap (rename suc) (ups-bound d σ ρ h i)

pub placed_bound : (k d i : ℕ) (ts : Tms) → AllBoundBelow k ts → ups d (parameters ts (moved k)) i ≡ bound (up_by d (seat k ts) i)
placed_bound k d i ts all = ups-bound d (parameters ts (moved k)) (seat k ts) (λ j. seat-is k ts j all) i

mutual
  unfolding rename renames up_by

  -- a placed body is a renamed one
  pub placed-rename : (k d : ℕ) (ts : Tms) (b : Tm) → AllBoundBelow k ts → placed ts k d b ≡ rename (up_by d (seat k ts)) b
  placed-rename k d ts (bound i) all = placed_bound k d i ts all
  placed-rename k d ts (free x a) all = refl
  placed-rename k d ts (fun f) all = refl
  placed-rename k d ts (meta z us) all = ap (meta z) (all_placed-renames k d ts us all)
  placed-rename k d ts (lam a t) all = ap (lam a) (rw add-one (placed-rename k (suc d) ts t all))
  placed-rename k d ts (app t u) all = ap₂ app (placed-rename k d ts t all) (placed-rename k d ts u all)

  pub all_placed-renames : (k d : ℕ) (ts us : Tms) → AllBoundBelow k ts → all_placed ts k d us ≡ renames (up_by d (seat k ts)) us
  all_placed-renames k d ts none all = refl
  all_placed-renames k d ts (more u us) all = ap₂ more (placed-rename k d ts u all) (all_placed-renames k d ts us all)

-- and it is the body with the arguments for its parameters
pub placed-act : (k : ℕ) (ts : Tms) (b : Tm) → AllBoundBelow k ts → placed ts k 0 b ≡ act (parameters ts (moved k)) free b
unfolding up_by
placed-act k ts b all =
    placed-rename k 0 ts b all ∙ rename-is-act (seat k ts) b
    ∙ act_same (λ i. sym (seat-is k ts i all)) (λ x a. refl) b

-- what is renamed to a tree of one kind is of that kind

pub from-bound : (ρ : ℕ → ℕ) (b : Tm) (n : ℕ) → rename ρ b ≡ bound n → (m : ℕ) × (b ≡ bound m) × (ρ m ≡ n)
unfolding rename
from-bound ρ (bound m) n e = (m, refl, cc)
from-bound ρ (free x a) n e = absurd (cc)
from-bound ρ (fun f) n e = absurd (cc)
from-bound ρ (meta z ts) n e = absurd (cc)
from-bound ρ (lam a t) n e = absurd (cc)
from-bound ρ (app t u) n e = absurd (cc)

pub from-free : (ρ : ℕ → ℕ) (b : Tm) (x : ℕ) (a : Ty) → rename ρ b ≡ free x a → b ≡ free x a
unfolding rename
from-free ρ (bound m) x a e = absurd (cc)
from-free ρ (free y c) x a e = e
from-free ρ (fun f) x a e = absurd (cc)
from-free ρ (meta z ts) x a e = absurd (cc)
from-free ρ (lam c t) x a e = absurd (cc)
from-free ρ (app t u) x a e = absurd (cc)

pub from-fun : (ρ : ℕ → ℕ) (b : Tm) (f : ℕ) → rename ρ b ≡ fun f → b ≡ fun f
unfolding rename
from-fun ρ (bound m) f e = absurd (cc)
from-fun ρ (free y c) f e = absurd (cc)
from-fun ρ (fun g) f e = e
from-fun ρ (meta z ts) f e = absurd (cc)
from-fun ρ (lam c t) f e = absurd (cc)
from-fun ρ (app t u) f e = absurd (cc)

pub from-meta : (ρ : ℕ → ℕ) (b : Tm) (z : ℕ) (us : Tms) → rename ρ b ≡ meta z us → (ts : Tms) × (b ≡ meta z ts) × (renames ρ ts ≡ us)
unfolding rename
from-meta ρ (bound m) z us e = absurd (cc)
from-meta ρ (free y c) z us e = absurd (cc)
from-meta ρ (fun g) z us e = absurd (cc)
from-meta ρ (meta y ts) z us e = (ts, let same : y ≡ z = cc in ap (λ n. meta n ts) same, cc)
from-meta ρ (lam c t) z us e = absurd (cc)
from-meta ρ (app t u) z us e = absurd (cc)

pub from-lam : (ρ : ℕ → ℕ) (b : Tm) (a : Ty) (u : Tm) → rename ρ b ≡ lam a u → (t : Tm) × (b ≡ lam a t) × (rename (up_renaming ρ) t ≡ u)
unfolding rename
from-lam ρ (bound m) a u e = absurd (cc)
from-lam ρ (free y c) a u e = absurd (cc)
from-lam ρ (fun g) a u e = absurd (cc)
from-lam ρ (meta y ts) a u e = absurd (cc)
from-lam ρ (lam c t) a u e = (t, let same : c ≡ a = cc in ap (λ d. lam d t) same, cc)
from-lam ρ (app t v) a u e = absurd (cc)

pub from-app : (ρ : ℕ → ℕ) (b u v : Tm) → rename ρ b ≡ app u v → (s : Tm) × (t : Tm) × (b ≡ app s t) × (rename ρ s ≡ u) × (rename ρ t ≡ v)
unfolding rename
from-app ρ (bound m) u v e = absurd (cc)
from-app ρ (free y c) u v e = absurd (cc)
from-app ρ (fun g) u v e = absurd (cc)
from-app ρ (meta y ts) u v e = absurd (cc)
from-app ρ (lam c t) u v e = absurd (cc)
from-app ρ (app s t) u v e = (s, t, refl, cc, cc)

-- a renaming that keeps numbers apart keeps trees apart

abbrev pub KeepsApart : (ℕ → ℕ) → Type 0
KeepsApart ρ = (i j : ℕ) → ρ i ≡ ρ j → i ≡ j

apart-up : (ρ : ℕ → ℕ) → KeepsApart ρ → KeepsApart (up_renaming ρ)
unfolding up_renaming
apart-up ρ h zero zero e = refl
apart-up ρ h zero (suc j) e = absurd (omega arith)
apart-up ρ h (suc i) zero e = absurd (omega arith)
apart-up ρ h (suc i) (suc j) e = ap suc (h i j (omega arith))

apart-up_by : (d : ℕ) (ρ : ℕ → ℕ) → KeepsApart ρ → KeepsApart (up_by d ρ)
unfolding up_by
apart-up_by zero ρ h = h
apart-up_by (suc d) ρ h = apart-up (up_by d ρ) (apart-up_by d ρ h)

mutual
  unfolding rename renames

  pub rename-one : (ρ : ℕ → ℕ) → KeepsApart ρ → (b c : Tm) → rename ρ b ≡ rename ρ c → b ≡ c
  rename-one ρ h (bound i) c e = let (m, is, to) = from-bound ρ c (ρ i) (sym e) in ap bound (h i m (sym to)) ∙ sym is
  rename-one ρ h (free x a) c e = sym (from-free ρ c x a (sym e))
  rename-one ρ h (fun f) c e = sym (from-fun ρ c f (sym e))
  rename-one ρ h (meta z ts) c e = let (us, is, to) = from-meta ρ c z (renames ρ ts) (sym e) in ap (meta z) (renames-one ρ h ts us (sym to)) ∙ sym is
  rename-one ρ h (lam a t) c e =
      let (u, is, to) = from-lam ρ c a (rename (up_renaming ρ) t) (sym e) in ap (lam a) (rename-one (up_renaming ρ) (apart-up ρ h) t u (sym to)) ∙ sym is
  rename-one ρ h (app t u) c e =
      let (s, v, is, left, right) = from-app ρ c (rename ρ t) (rename ρ u) (sym e) in ap₂ app (rename-one ρ h t s (sym left)) (rename-one ρ h u v (sym right)) ∙ sym is

  pub renames-one : (ρ : ℕ → ℕ) → KeepsApart ρ → (bs cs : Tms) → renames ρ bs ≡ renames ρ cs → bs ≡ cs
  renames-one ρ h none none e = refl
  renames-one ρ h none (more c cs) e = absurd (cc)
  renames-one ρ h (more b bs) none e = absurd (cc)
  renames-one ρ h (more b bs) (more c cs) e =
      let here : rename ρ b ≡ rename ρ c = cc in
      let rest : renames ρ bs ≡ renames ρ cs = cc in
      ap₂ more (rename-one ρ h b c here) (renames-one ρ h bs cs rest)

-- distinct bound variables of the passed binders keep numbers apart

abbrev pub Apart : (ℕ → Tm) → Type 0
Apart σ = (i j : ℕ) → σ i ≡ σ j → i ≡ j

-- none of the variables of the list is among what σ gives
abbrev pub Unmet : Tms → (ℕ → Tm) → Type 0
Unmet none σ = Unit {0}
Unmet (more t ts) σ = ((i : ℕ) → σ i ≡ t → ⊥) × Unmet ts σ

unmet_here : (n m : ℕ) (σ : ℕ → Tm) → n ≢ m → ((i : ℕ) → σ i ≡ bound m → ⊥) → (i : ℕ) → cons (bound n) σ i ≡ bound m → ⊥
unfolding cons
unmet_here n m σ other unmet zero e = other (cc)
unmet_here n m σ other unmet (suc i) e = unmet i e

unmet-cons : (n : ℕ) (ts : Tms) (k : ℕ) (σ : ℕ → Tm) → AllBoundBelow k ts → Misses n ts → Unmet ts σ → Unmet ts (cons (bound n) σ)
unmet-cons n none k σ all misses unmet = tt
unmet-cons n (more (bound m) ts) k σ all misses unmet = (unmet_here n m σ misses.0 unmet.0, unmet-cons n ts k σ all.1 misses.1 unmet.1)
unmet-cons n (more (free x a) ts) k σ all misses unmet = absurd all
unmet-cons n (more (fun f) ts) k σ all misses unmet = absurd all
unmet-cons n (more (meta z us) ts) k σ all misses unmet = absurd all
unmet-cons n (more (lam a t) ts) k σ all misses unmet = absurd all
unmet-cons n (more (app t u) ts) k σ all misses unmet = absurd all

cons-apart : (n : ℕ) (σ : ℕ → Tm) → Apart σ → ((i : ℕ) → σ i ≡ bound n → ⊥) → Apart (cons (bound n) σ)
unfolding cons
cons-apart n σ h unmet zero zero e = refl
cons-apart n σ h unmet zero (suc j) e = absurd (unmet j (sym e))
cons-apart n σ h unmet (suc i) zero e = absurd (unmet i e)
cons-apart n σ h unmet (suc i) (suc j) e = ap suc (h i j e)

parameters-apart : (k : ℕ) (ts : Tms) (σ : ℕ → Tm) → AllBoundBelow k ts → Distinct ts → Apart σ → Unmet ts σ → Apart (parameters ts σ)
unfolding parameters
parameters-apart k none σ all distinct h unmet = h
parameters-apart k (more (bound n) ts) σ all distinct h unmet =
    parameters-apart k ts (cons (bound n) σ) all.1 distinct.1 (cons-apart n σ h unmet.0) (unmet-cons n ts k σ all.1 distinct.0 unmet.1)
parameters-apart k (more (free x a) ts) σ all distinct h unmet = absurd all
parameters-apart k (more (fun f) ts) σ all distinct h unmet = absurd all
parameters-apart k (more (meta z us) ts) σ all distinct h unmet = absurd all
parameters-apart k (more (lam a t) ts) σ all distinct h unmet = absurd all
parameters-apart k (more (app t u) ts) σ all distinct h unmet = absurd all

moved-apart : (k : ℕ) → Apart (moved k)
unfolding moved
moved-apart k i j e = let same : i + k ≡ j + k = cc in omega arith

moved-unmet : (k : ℕ) (ts : Tms) → AllBoundBelow k ts → Unmet ts (moved k)
unfolding moved
moved-unmet k none all = tt
moved-unmet k (more (bound n) ts) all = (λ i e. let same : i + k ≡ n = cc in let below : n < k = all.0 in omega arith, moved-unmet k ts all.1)
moved-unmet k (more (free x a) ts) all = absurd all
moved-unmet k (more (fun f) ts) all = absurd all
moved-unmet k (more (meta z us) ts) all = absurd all
moved-unmet k (more (lam a t) ts) all = absurd all
moved-unmet k (more (app t u) ts) all = absurd all

seat-apart : (k : ℕ) (ts : Tms) → AllBoundBelow k ts → Distinct ts → KeepsApart (seat k ts)
seat-apart k ts all distinct i j e =
    parameters-apart k ts (moved k) all distinct (moved-apart k) (moved-unmet k ts all) i j (seat-is k ts i all ∙ ap bound e ∙ sym (seat-is k ts j all))

-- a tree is one body at most
pub placed_one : (k d : ℕ) (ts : Tms) (b c : Tm) → AllBoundBelow k ts → Distinct ts → placed ts k d b ≡ placed ts k d c → b ≡ c
placed_one k d ts b c all distinct e =
    rename-one (up_by d (seat k ts)) (apart-up_by d (seat k ts) (seat-apart k ts all distinct)) b c
    (sym (placed-rename k d ts b all) ∙ e ∙ placed-rename k d ts c all)

-- lists of placed bodies, tree by tree

all_placed-join : (args : Tms) (k d : ℕ) (ts us : Tms) → all_placed args k d (join ts us) ≡ join (all_placed args k d ts) (all_placed args k d us)
all_placed-join args k d none us = refl
all_placed-join args k d (more t ts) us = ap (more (placed args k d t)) (all_placed-join args k d ts us)

count-all_placed : (args : Tms) (k d : ℕ) (ts : Tms) → count (all_placed args k d ts) ≡ count ts
count-all_placed args k d none = refl
count-all_placed args k d (more t ts) = ap (λ n. 1 + n) (count-all_placed args k d ts)

pub placed_length : (args : Tms) (k d : ℕ) (xs ys : List Term) → all_placed args k d (tms xs) ≡ tms ys → length xs ≡ length ys
placed_length args k d xs ys e = sym (count-tms xs) ∙ sym (count-all_placed args k d (tms xs)) ∙ ap count e ∙ count-tms ys

pub placed_at : (args : Tms) (k d : ℕ) (xs ys : List Term) (i : ℕ) (x y : Term) → all_placed args k d (tms xs) ≡ tms ys
    → i < length xs → x ≡ get_or xs i x → y ≡ get_or ys i y → placed args k d (tm x) ≡ tm y
placed_at args k d [] ys i x y e within ex ey = absurd (omega arith)
placed_at args k d (u ∷ xs) [] i x y e within ex ey = absurd (omega (arith, placed_length args k d (u ∷ xs) [] e))
placed_at args k d (u ∷ xs) (v ∷ ys) zero x y e within ex ey =
    let here : placed args k d (tm u) ≡ tm v = cc in ap (λ t. placed args k d (tm t)) ex ∙ here ∙ sym (ap tm ey)
placed_at args k d (u ∷ xs) (v ∷ ys) (suc i) x y e within ex ey =
    let rest : all_placed args k d (tms xs) ≡ tms ys = cc in placed_at args k d xs ys i x y rest (omega arith) ex ey

pub placed_next : (args : Tms) (k d : ℕ) (xs ys : List Term) (i : ℕ) (x y : Term) → all_placed args k d (tms (take i xs)) ≡ tms (take i ys)
    → i < length xs → length xs ≡ length ys → x ≡ get_or xs i x → y ≡ get_or ys i y → placed args k d (tm x) ≡ tm y
    → all_placed args k d (tms (take (i + 1) xs)) ≡ tms (take (i + 1) ys)
placed_next args k d xs ys i x y so_far within long ex ey e =
    ap (all_placed args k d) (tms_take_next xs i x within ex) ∙ all_placed-join args k d (tms (take i xs)) (more (tm x) none)
    ∙ ap₂ (λ ts t. join ts (more t none)) so_far e ∙ sym (tms_take_next ys i y (omega arith) ey)

pub placed_meta : (args : Tms) (k d : ℕ) (b : Term) (z : ℕ) (ts : List Term) → b ≡ Meta z ts → placed args k d (tm b) ≡ meta z (all_placed args k d (tms ts))
placed_meta args k d b z ts is = ap (placed args k d) (tm_of_meta b z ts is)

pub bound_of : (t : Term) (n : ℕ) → tm t ≡ bound n → t ≡ Bound n
bound_of (Bound m) n e = let same : m ≡ n = cc in ap (λ i. Bound i) same
bound_of (Free x a) n e = absurd (cc)
bound_of (Fun f) n e = absurd (cc)
bound_of (Meta' z s r) n e = absurd (cc)
bound_of (Lam' a p u) n e = absurd (cc)
bound_of (App' p u q v) n e = absurd (cc)

-- at a bound variable of the body stands a bound variable
pub bound_there : (k d n : ℕ) (ts : Tms) (b t : Term) → AllBoundBelow k ts → b ≡ Bound n → placed ts k d (tm b) ≡ tm t → (m : ℕ) × (t ≡ Bound m)
bound_there k d n ts b t all is e =
    (up_by d (seat k ts) n, bound_of t (up_by d (seat k ts) n) (sym e ∙ ap (λ u. placed ts k d (tm u)) is ∙ placed_bound k d n ts all))

-- where a bound variable of the term comes from

pub from_beyond : (k n i : ℕ) (xs : List Term) → k ≤ n → i ≡ n - k + length xs → parameters (tms xs) (moved k) i ≡ bound n
unfolding moved
from_beyond k n i xs high is = parameters-far (tms xs) (moved k) i (n - k) (omega (arith, count-tms xs)) ∙ ap bound (omega arith)

pub from_argument : (k n i j : ℕ) (xs : List Term) (t : Term) → j < length xs → i ≡ length xs - 1 - j → t ≡ get_or xs j t → t ≡ Bound n
    → parameters (tms xs) (moved k) i ≡ bound n
from_argument k n i j xs t within at is named = parameters-near xs (moved k) i j t (omega arith) is ∙ ap tm named

misses-join : (m : ℕ) (ts : Tms) (u : Term) → Misses m ts → ((o : ℕ) → u ≡ Bound o → o ≢ m) → Misses m (join ts (more (tm u) none))
misses-join m none (Bound o) h other = (λ e. other o refl (sym e), tt)
misses-join m none (Free x a) h other = tt
misses-join m none (Fun f) h other = tt
misses-join m none (Meta' z s r) h other = tt
misses-join m none (Lam' a p u) h other = tt
misses-join m none (App' p u q v) h other = tt
misses-join m (more (bound o) ts) u h other = (h.0, misses-join m ts u h.1 other)
misses-join m (more (free x a) ts) u h other = misses-join m ts u h other
misses-join m (more (fun f) ts) u h other = misses-join m ts u h other
misses-join m (more (meta z us) ts) u h other = misses-join m ts u h other
misses-join m (more (lam a t) ts) u h other = misses-join m ts u h other
misses-join m (more (app s t) ts) u h other = misses-join m ts u h other

-- the arguments so far are other variables
pub misses_more : (n : ℕ) (xs : List Term) (i : ℕ) (t : Term) → Misses n (tms (take i xs)) → i < length xs → t ≡ get_or xs i t
    → ((m : ℕ) → t ≡ Bound m → m ≢ n) → Misses n (tms (take (i + 1) xs))
misses_more n xs i t so_far within is other = rw (tms_take_next xs i t within is) (misses-join n (tms (take i xs)) t so_far other)

unmet-parameters : (n k : ℕ) (ts : Tms) (σ : ℕ → Tm) → AllBoundBelow k ts → Misses n ts → ((i : ℕ) → σ i ≡ bound n → ⊥) → (i : ℕ) → parameters ts σ i ≡ bound n → ⊥
unfolding parameters
unmet-parameters n k none σ all misses unmet i e = unmet i e
unmet-parameters n k (more (bound m) ts) σ all misses unmet i e =
    unmet-parameters n k ts (cons (bound m) σ) all.1 misses.1 (unmet_here m n σ (λ same. misses.0 (sym same)) unmet) i e
unmet-parameters n k (more (free x a) ts) σ all misses unmet i e = absurd all
unmet-parameters n k (more (fun f) ts) σ all misses unmet i e = absurd all
unmet-parameters n k (more (meta z us) ts) σ all misses unmet i e = absurd all
unmet-parameters n k (more (lam a t) ts) σ all misses unmet i e = absurd all
unmet-parameters n k (more (app t u) ts) σ all misses unmet i e = absurd all

moved-unmet-low : (k n : ℕ) → n < k → (i : ℕ) → moved k i ≡ bound n → ⊥
unfolding moved
moved-unmet-low k n low i e = let same : i + k ≡ n = cc in omega arith

pub from_nowhere : (k n : ℕ) (xs : List Term) (j : ℕ) → n < k → AllBoundBelow k (tms xs) → length xs ≤ j → Misses n (tms (take j xs))
    → (i : ℕ) → parameters (tms xs) (moved k) i ≢ bound n
from_nowhere k n xs j low all ended misses i =
    unmet-parameters n k (tms xs) (moved k) all (subst (λ ys. Misses n (tms ys)) (take_all j xs ended) misses) (moved-unmet-low k n low) i

-- no body stands at the seat as this term

up_by-back : (c : ℕ) (ρ : ℕ → ℕ) (i j : ℕ) → c ≤ j → up_by c ρ i ≡ j → ρ (i - c) ≡ j - c
unfolding up_by up_renaming
up_by-back zero ρ i j high to = ap ρ (omega arith) ∙ to ∙ omega arith
up_by-back (suc c) ρ zero j high to = absurd (omega arith)
up_by-back (suc c) ρ (suc i) zero high to = absurd (omega arith)
up_by-back (suc c) ρ (suc i) (suc j) high to =
    ap ρ (omega arith) ∙ up_by-back c ρ i j (omega arith) (omega arith) ∙ omega arith

pub no_bound : (k d n : ℕ) (ts : Tms) → AllBoundBelow k ts → d ≤ n → ((i : ℕ) → parameters ts (moved k) i ≢ bound (n - d)) → (b : Tm) → placed ts k d b ≢ bound n
no_bound k d n ts all high none_here b e =
    let (m, is, to) = from-bound (up_by d (seat k ts)) b n (sym (placed-rename k d ts b all) ∙ e) in
    none_here (m - d) (seat-is k ts (m - d) all ∙ ap bound (up_by-back d (seat k ts) m n high to))

pub no_lam : (k d deeper : ℕ) (ts : Tms) (a : Ty) (t : Tm) → AllBoundBelow k ts → deeper ≡ d + 1 → ((b : Tm) → placed ts k deeper b ≢ t)
    → (b : Tm) → placed ts k d b ≢ lam a t
unfolding up_by
no_lam k d deeper ts a t all one none_here b e =
    let (c, is, to) = from-lam (up_by d (seat k ts)) b a t (sym (placed-rename k d ts b all) ∙ e) in
    none_here c (ap (λ n. placed ts k n c) (one ∙ add-one d) ∙ placed-rename k (suc d) ts c all ∙ to)

pub no_function : (k d : ℕ) (ts : Tms) (t u : Tm) → AllBoundBelow k ts → ((b : Tm) → placed ts k d b ≢ t) → (b : Tm) → placed ts k d b ≢ app t u
no_function k d ts t u all none_here b e =
    let (s, v, is, left, right) = from-app (up_by d (seat k ts)) b t u (sym (placed-rename k d ts b all) ∙ e) in none_here s (placed-rename k d ts s all ∙ left)

pub no_argument : (k d : ℕ) (ts : Tms) (t u : Tm) → AllBoundBelow k ts → ((b : Tm) → placed ts k d b ≢ u) → (b : Tm) → placed ts k d b ≢ app t u
no_argument k d ts t u all none_here b e =
    let (s, v, is, left, right) = from-app (up_by d (seat k ts)) b t u (sym (placed-rename k d ts b all) ∙ e) in none_here v (placed-rename k d ts v all ∙ right)

pub no_meta : (k d : ℕ) (args : Tms) (t : Term) (z : ℕ) (ts : List Term) → AllBoundBelow k args → t ≡ Meta z ts → ((bs : Tms) → all_placed args k d bs ≢ tms ts)
    → (b : Tm) → placed args k d b ≢ tm t
no_meta k d args t z ts all at none_here b e =
    let (us, is, to) = from-meta (up_by d (seat k args)) b z (tms ts) (sym (placed-rename k d args b all) ∙ e ∙ tm_of_meta t z ts at) in
    none_here us (all_placed-renames k d args us all ∙ to)

no_item_at : (k d : ℕ) (args : Tms) (xs : List Term) (i : ℕ) (t : Term) → i < length xs → t ≡ get_or xs i t → ((b : Tm) → placed args k d b ≢ tm t)
    → (bs : Tms) → all_placed args k d bs ≢ tms xs
no_item_at k d args [] i t within is none_here bs e = omega arith
no_item_at k d args (x ∷ xs) i t within is none_here none e = absurd (cc)
no_item_at k d args (x ∷ xs) zero t within is none_here (more b bs) e =
    let here : placed args k d b ≡ tm x = cc in none_here b (here ∙ ap tm (sym is))
no_item_at k d args (x ∷ xs) (suc i) t within is none_here (more b bs) e =
    let rest : all_placed args k d bs ≡ tms xs = cc in no_item_at k d args xs i t (omega arith) is none_here bs rest

pub no_item : (k d : ℕ) (args : Tms) (ts : List Term) (xs : List Term) (i : ℕ) (t : Term) → xs ≡ ts → i < length xs → t ≡ get_or xs i t
    → ((b : Tm) → placed args k d b ≢ tm t) → (bs : Tms) → all_placed args k d bs ≢ tms ts
no_item k d args ts xs i t from within is none_here bs e = no_item_at k d args xs i t within is none_here bs (e ∙ ap tms (sym from))

pub bodies_push : (args : Tms) (k d : ℕ) (xs ys : List Term) (i : ℕ) (out : List Term) (r t : Term) → all_placed args k d (tms out) ≡ tms (take i xs)
    → ys ≡ out ++ r ∷ [] → placed args k d (tm r) ≡ tm t → i < length xs → t ≡ get_or xs i t → all_placed args k d (tms ys) ≡ tms (take (i + 1) xs)
bodies_push args k d xs ys i out r t so_far pushed equal within is =
    ap (λ zs. all_placed args k d (tms zs)) pushed ∙ ap (all_placed args k d) (tms_append out (r ∷ [])) ∙ all_placed-join args k d (tms out) (more (tm r) none)
    ∙ ap₂ (λ us u. join us (more u none)) so_far equal ∙ sym (tms_take_next xs i t within is)

pub from_there : (σ : ℕ → Tm) (d n i j : ℕ) → d ≤ n → σ i ≡ bound (n - d) → j ≡ i + d → ups d σ j ≡ bound n
from_there σ d n i j high there at = ups_high d σ j i at ∙ ap (raised d) there ∙ raised_bound d (n - d) ∙ ap bound (omega arith)
