-- Finite lists of exactly what has a property, and the longest walk where each member leads to finitely many.
use Rattle.std.proofs.Common.{◌≡◌, ℕ, zero, suc, ◌<◌, ◌≤◌, List, [], ◌∷◌, ◌++◌, ◌⊎◌, inl, inr, length, map, Contains, refl, ap, sym, subst, arith}
use Rattle.wh_step.specs.Reduction.{Walk}
use Rattle.wh_step_laws.specs.Ends.{Ends, ends, Longest}
use Rattle.wh_step_laws.specs.Branching.{ListsAll}

-- b is a member of the list
abbrev pub In : {A : Type 0} → A → List A → Type 0
In b [] = ⊥
In b (c ∷ l) = (b ≡ c) ⊎ In b l

-- a list of exactly those that have the property
abbrev pub Listed : {A : Type 0} → (A → Type 0) → Type 0
Listed {A = A} P = (l : List A) × ((b : A) → P b → In b l) × ((b : A) → In b l → P b)

pub listed_none : {A : Type 0} (P : A → Type 0) → ((b : A) → P b → ⊥) → Listed P
listed_none P h = ([], h, λ b i. absurd i)

pub listed_one : {A : Type 0} (P : A → Type 0) (c : A) → P c → ((b : A) → P b → b ≡ c) → Listed P
listed_one P c p h = (c ∷ [], λ b q. inl (h b q), λ b i. only b i)
  where
    only : (b : _) → In b (c ∷ []) → P b
    only b (inl e) = subst P (sym e) p
    only b (inr i) = absurd i

pub listed_same : {A : Type 0} (P Q : A → Type 0) → ((b : A) → Q b → P b) → ((b : A) → P b → Q b) → Listed P → Listed Q
listed_same P Q h k (l, all, only) = (l, λ b q. all b (h b q), λ b i. k b (only b i))

in_append : {A : Type 0} (b : A) (l m : List A) → In b l ⊎ In b m → In b (l ++ m)
in_append b [] m (inl i) = absurd i
in_append b [] m (inr i) = i
in_append b (c ∷ l) m (inl (inl e)) = inl e
in_append b (c ∷ l) m (inl (inr i)) = inr (in_append b l m (inl i))
in_append b (c ∷ l) m (inr i) = inr (in_append b l m (inr i))

in_append-back : {A : Type 0} (b : A) (l m : List A) → In b (l ++ m) → In b l ⊎ In b m
in_append-back b [] m i = inr i
in_append-back b (c ∷ l) m (inl e) = inl (inl e)
in_append-back b (c ∷ l) m (inr i) = more (in_append-back b l m i)
  where
    more : In b l ⊎ In b m → In b (c ∷ l) ⊎ In b m
    more (inl i) = inl (inr i)
    more (inr i) = inr i

pub listed_or : {A : Type 0} (P Q : A → Type 0) → Listed P → Listed Q → Listed (λ b. P b ⊎ Q b)
listed_or P Q (l, all, only) (m, each, none) = (l ++ m, λ b q. in_append b l m (sides b q), λ b i. back b (in_append-back b l m i))
  where
    sides : (b : _) → P b ⊎ Q b → In b l ⊎ In b m
    sides b (inl p) = inl (all b p)
    sides b (inr q) = inr (each b q)

    back : (b : _) → In b l ⊎ In b m → P b ⊎ Q b
    back b (inl i) = inl (only b i)
    back b (inr i) = inr (none b i)

in_map : {A B : Type 0} (f : A → B) (a : A) (l : List A) → In a l → In (f a) (map f l)
in_map f a [] i = absurd i
in_map f a (c ∷ l) (inl e) = inl (ap f e)
in_map f a (c ∷ l) (inr i) = inr (in_map f a l i)

in_map-back : {A B : Type 0} (f : A → B) (b : B) (l : List A) → In b (map f l) → (a : A) × In a l × (b ≡ f a)
in_map-back f b [] i = absurd i
in_map-back f b (c ∷ l) (inl e) = (c, inl refl, e)
in_map-back f b (c ∷ l) (inr i) = let (a, j, e) = in_map-back f b l i in (a, inr j, e)

-- the images of those that have the property
pub listed_map : {A B : Type 0} (f : A → B) (P : A → Type 0) → Listed P → Listed (λ b. (a : A) × P a × (b ≡ f a))
listed_map f P (l, all, only) =
    (map f l, λ b (a, p, e). subst (λ c. In c (map f l)) (sym e) (in_map f a l (all a p)), λ b i. let (a, j, e) = in_map-back f b l i in (a, only a j, e))

-- a member of the list by its place
pub in_contains : {A : Type 0} (b : A) (l : List A) → In b l → Contains l b
in_contains b [] i = absurd i
in_contains b (c ∷ l) (inl e) = (0, omega arith, sym e)
in_contains b (c ∷ l) (inr i) = let (k, h, e) = in_contains b l i in (suc k, omega arith, e)

pub contains_in : {A : Type 0} (b : A) (l : List A) → Contains l b → In b l
contains_in b [] (k, h, e) = absurd (omega arith)
contains_in b (c ∷ l) (zero, h, e) = inl (sym e)
contains_in b (c ∷ l) (suc k, h, e) = inr (contains_in b l (k, omega arith, e))

pub lists_all : {A : Type 0} (R : A → A → Type 0) (a : A) → Listed (R a) → (l : List A) × ListsAll R a l
lists_all R a (l, all, only) = (l, record { all = λ b r. in_contains b l (all b r); only = λ b c. only b (contains_in b l c) })

-- a walk from a that is longer than each walk from a member of the list
abbrev pub Longer : {A : Type 0} → (A → A → Type 0) → A → List A → Type 0
Longer {A = A} R a l = (m : List A) × Walk R a m × ((b : A) → In b l → (w : List A) → Walk R b w → length w < length m)

longer_more : {A : Type 0} {R : A → A → Type 0} {a : A} (c : A) (l : List A) → R a c → Longest R c → Longer R a l → Longer R a (c ∷ l)
longer_more {R = R} {a = a} c l r best (m, w, h) = choose (le_or_lt (suc (length best.walk)) (length m))
  where
    le_or_lt : (i j : ℕ) → (i ≤ j) ⊎ (j < i)
    le_or_lt zero j = inl (omega arith)
    le_or_lt (suc i) zero = inr (omega arith)
    le_or_lt (suc i) (suc j) = more (le_or_lt i j)
      where
        more : (i ≤ j) ⊎ (j < i) → (suc i ≤ suc j) ⊎ (suc j < suc i)
        more (inl h) = inl (omega arith)
        more (inr h) = inr (omega arith)

    member : (n : ℕ) → length best.walk < n → ((b : _) → In b l → (v : List _) → Walk R b v → length v < n) → (b : _) → In b (c ∷ l) → (v : List _) → Walk R b v → length v < n
    member n e k b (inl d) v u = let f : length v ≤ length best.walk = best.longest v (subst (λ b. Walk R b v) d u) in omega arith
    member n e k b (inr i) v u = k b i v u

    choose : (suc (length best.walk) ≤ length m) ⊎ (length m < suc (length best.walk)) → Longer R a (c ∷ l)
    choose (inl e) = (m, w, member (length m) (omega arith) h)
    choose (inr e) = (c ∷ best.walk, (r, best.walked), member (length (c ∷ best.walk)) (omega arith) (λ b i v u. let f : length v < length m = h b i v u in omega arith))

longer_all : {A : Type 0} {R : A → A → Type 0} {a : A} (l : List A) → ((b : A) → In b l → R a b) → ((b : A) → R a b → Longest R b) → Longer R a l
longer_all [] only best = ([], tt, λ b i. absurd i)
longer_all (c ∷ l) only best = longer_more c l (only c (inl refl)) (best c (only c (inl refl))) (longer_all l (λ b i. only b (inr i)) best)

longest_walk : {A : Type 0} {R : A → A → Type 0} {a : A} → Listed (R a) → ((b : A) → R a b → Longest R b) → Longest R a
longest_walk {R = R} {a = a} (l, all, only) best = found (longer_all l only best)
  where
    found : Longer R a l → Longest R a
    found (m, w, h) = record { walk = m; walked = w; longest = longest }
      where
        longest : (v : List _) → Walk R a v → length v ≤ length m
        longest [] u = omega arith
        longest (b ∷ v) u = let f : length v < length m = h b (all b u.0) v u.1 in omega arith

-- what is accessible has a longest walk, where all that it leads to leads to finitely many
pub ends-longest : {A : Type 0} {R : A → A → Type 0} {a : A} (I : A → Type 0) → ((a b : A) → I a → R a b → I b) → ((a : A) → I a → Listed (R a)) → I a → Ends R a → Longest R a
ends-longest {a = a} I keeps lists i (ends h) = longest_walk (lists a i) (λ b r. ends-longest I keeps lists (keeps a b i r) (h b r))

-- what has a bound on its walks is accessible
pub within-ends : {A : Type 0} {R : A → A → Type 0} (n : ℕ) (a : A) → ((l : List A) → Walk R a l → length l ≤ n) → Ends R a
within-ends zero a h = ends (λ b r. absurd (let f : 1 ≤ 0 = h (b ∷ []) (r, tt) in omega arith))
within-ends (suc n) a h = ends (λ b r. within-ends n b (λ l w. let f : suc (length l) ≤ suc n = h (b ∷ l) (r, w) in omega arith))
