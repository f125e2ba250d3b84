-- What polynomials mean: sums, products, renumbering, replacing, and the application of values.
use Rattle.std.proofs.Common.{append_assoc, append-nil, length-append, ◌≡◌, ℕ, zero, suc, ◌+◌, ◌-◌, ◌*◌, ◌==◌, eqb, nat_lt, List, [], ◌∷◌, ◌++◌, length, refl, ap, ap₂, ◌∙◌, sym, subst, ◌<◌, ◌≤◌, arith, Bool, true, false, Ordering, Less, Equal, Greater, nat_cmp, if◌then◌else◌, eq-eqb, ne_eqb}
use native.Mathlib.Decide.{ℕ_discrete}
use mathlib.Core.Path.{subst₂, subst_refl, path_j, fun_ext}
use Rattle.std.specs.Ordering.{ordering_then}
use Rattle.wh_types.specs.Ty.{Ty, Ty-discrete, sort, ◌⇒◌, arguments}
use Rattle.wh_poly.specs.Polynomials.{HasType, Polynomial, zero_poly, plus, Factors, no_factors, times, Arguments, no_arguments, argument, Normal, NormalFactors, NormalArguments, compare_factors, compare_arguments}
use Rattle.wh_poly.specs.Arithmetic.{by_order, add_monomial, sum_poly, join_factor, join_factors, scale, multiply, constant, atom, renumber, renumber_factors, renumber_arguments}
use Rattle.wh_hopoly.specs.Evaluation.{Run, one, without, down, type_at, replace, replace_factors, replace_arguments, widened, applied, apply_one}
use Rattle.wh_poly.proofs.OrderLaws.{factors_equal}
use Rattle.wh_hopoly.proofs.ReplaceLaws.{without_is, at_itself, at_down, type_is, HeadOk, normal_replace, normal_replace_arguments, Moves, moves_on}
use Rattle.wh_hopoly.proofs.ValueLaws.{normal_applied, normal_moved, moves_moved, moved_low}
use Rattle.wh_poly_meaning.specs.Functionals.{Sem, nothing}
use Rattle.wh_poly_meaning.specs.Valuations.{Valuation, at_type, put, fun_of}
use Rattle.wh_poly_meaning.specs.Meaning.{den, den_factors, den_arguments, reading}
use Rattle.wh_poly_meaning.proofs.Valuations.{ty_set, put_same, put_other}

-- sums and products
den_add : (Γ : List Ty) (ψ : Valuation) (c : ℕ) (us : Factors) (q : Polynomial)
    → den Γ ψ (add_monomial c us q) ≡ c * den_factors Γ ψ us + den Γ ψ q
den_add Γ ψ c us zero_poly = refl
den_add Γ ψ c us (plus d vs q) = go (den_add Γ ψ c us q) (compare_factors us vs) refl
  where
    go : den Γ ψ (add_monomial c us q) ≡ c * den_factors Γ ψ us + den Γ ψ q → (o : Ordering) → compare_factors us vs ≡ o
        → den Γ ψ (by_order o (plus c us (plus d vs q)) (plus (c + d) vs q) (plus d vs (add_monomial c us q))) ≡ c * den_factors Γ ψ us + (d * den_factors Γ ψ vs + den Γ ψ q)
    go r Less e = refl
    go r Equal e = let i = ap (den_factors Γ ψ) (factors_equal us vs e) in
        subst (λ k. (c + d) * den_factors Γ ψ vs + den Γ ψ q ≡ c * k + (d * den_factors Γ ψ vs + den Γ ψ q)) (sym i) (omega arith)
    go r Greater e = ap (λ k. d * den_factors Γ ψ vs + k) r ∙ omega arith

pub den_sum : (Γ : List Ty) (ψ : Valuation) (p q : Polynomial) → den Γ ψ (sum_poly p q) ≡ den Γ ψ p + den Γ ψ q
den_sum Γ ψ zero_poly q = omega arith
den_sum Γ ψ (plus c us p) q = den_add Γ ψ c us (sum_poly p q) ∙ (let e = den_sum Γ ψ p q in omega (arith, e))

den_join_atom : (Γ : List Ty) (ψ : Valuation) (x : ℕ) (ps : Arguments) (us : Factors)
    → den_factors Γ ψ (join_factor x ps us) ≡ den_factors Γ ψ (times x ps us)
den_join_atom Γ ψ x ps no_factors = refl
den_join_atom Γ ψ x ps (times y qs us) = go (den_join_atom Γ ψ x ps us) (ordering_then (nat_cmp x y) (compare_arguments ps qs))
  where
    go : den_factors Γ ψ (join_factor x ps us) ≡ den_factors Γ ψ (times x ps us) → (o : Ordering)
        → den_factors Γ ψ (by_order o (times x ps (times y qs us)) (times x ps (times y qs us)) (times y qs (join_factor x ps us))) ≡ den_factors Γ ψ (times x ps (times y qs us))
    go r Less = refl
    go r Equal = refl
    go r Greater = ap (λ k. den_arguments Γ ψ (type_at Γ y) (ψ y (type_at Γ y)) qs * k) r ∙ omega arith

den_join : (Γ : List Ty) (ψ : Valuation) (us vs : Factors)
    → den_factors Γ ψ (join_factors us vs) ≡ den_factors Γ ψ us * den_factors Γ ψ vs
den_join Γ ψ no_factors vs = omega arith
den_join Γ ψ (times x ps us) vs = den_join_atom Γ ψ x ps (join_factors us vs) ∙ ap (λ k. den_arguments Γ ψ (type_at Γ x) (ψ x (type_at Γ x)) ps * k) (den_join Γ ψ us vs) ∙ omega arith

den_scale : (Γ : List Ty) (ψ : Valuation) (c : ℕ) (us : Factors) (q : Polynomial)
    → den Γ ψ (scale c us q) ≡ (c * den_factors Γ ψ us) * den Γ ψ q
den_scale Γ ψ c us zero_poly = omega arith
den_scale Γ ψ c us (plus d vs q) = den_add Γ ψ (c * d) (join_factors us vs) (scale c us q)
    ∙ ap₂ (λ j k. (c * d) * j + k) (den_join Γ ψ us vs) (den_scale Γ ψ c us q) ∙ omega arith

pub den_multiply : (Γ : List Ty) (ψ : Valuation) (p q : Polynomial) → den Γ ψ (multiply p q) ≡ den Γ ψ p * den Γ ψ q
den_multiply Γ ψ zero_poly q = omega arith
den_multiply Γ ψ (plus c us p) q = den_sum Γ ψ (scale c us q) (multiply p q) ∙ ap₂ (λ j k. j + k) (den_scale Γ ψ c us q) (den_multiply Γ ψ p q) ∙ omega arith

-- two valuations give the same values at the variables of a scope, which r renumbers
abbrev pub Same : List Ty → (ℕ → ℕ) → Valuation → Valuation → Type 0
Same Γ r ψ χ = (i : ℕ) (A : Ty) → HasType Γ i A → χ (r i) A ≡ ψ i A

pub at_below : (Γ : List Ty) (i : ℕ) (A : Ty) → HasType Γ i A → i < length Γ
at_below [] i A a = absurd a
at_below (B ∷ Γ) zero A a = omega arith
at_below (B ∷ Γ) (suc i) A a = let e = at_below Γ i A a in omega (arith, e)

nat_injective : (x y u v : ℕ) → nat_cmp x y ≡ nat_cmp u v → x ≡ y → u ≡ v
nat_injective x y u v h e = grind (arith, h, e)

-- one more variable
split_last : (Γ : List Ty) (B : Ty) (i : ℕ) (A : Ty) (G : Type 0) → HasType (Γ ++ B ∷ []) i A → (HasType Γ i A → G)
    → (i ≡ length Γ → B ≡ A → G) → G
split_last [] B zero A G a f g = g refl a
split_last [] B (suc i) A G a f g = absurd a
split_last (C ∷ Γ) B zero A G a f g = f a
split_last (C ∷ Γ) B (suc i) A G a f g = split_last Γ B i A G a f (λ e b. g (omega (arith, e)) b)

same_put : (Γ Δ : List Ty) (r : ℕ → ℕ) → Moves Γ Δ r → (ψ χ : Valuation) (B : Ty) (b : Sem B) → Same Γ r ψ χ
    → Same (Γ ++ B ∷ []) r (put (length Γ) B b ψ) (put (length Δ) B b χ)
same_put Γ Δ r m ψ χ B b s i A a = split_last Γ B i A (put (length Δ) B b χ (r i) A ≡ put (length Γ) B b ψ i A) a
    (λ c. put_other (length Δ) B b χ (r i) A (λ e. let k = at_below Γ i A c in let z = nat_injective (r i) (r (length Γ + 0)) i (length Γ + 0) (m.order i (length Γ + 0)) (e ∙ (let w = m.added 0 in omega (arith, w))) in omega (arith, z, k))
    ∙ s i A c ∙ sym (put_other (length Γ) B b ψ i A (λ e. let k = at_below Γ i A c in omega (arith, e, k))))
    (λ e t. path_j (λ A t. put (length Δ) B b χ (r i) A ≡ put (length Γ) B b ψ i A)
    (ap (λ k. put (length Δ) B b χ k B) (let w = m.added 0 in ap r (let z : i ≡ length Γ + 0 = omega (arith, e) in z) ∙ w ∙ omega arith) ∙ put_same (length Δ) B b χ ∙ sym (put_same (length Γ) B b ψ) ∙ ap (λ k. put (length Γ) B b ψ k B) (sym e)) t)

pub fun_same : (A : Ty) (Γ Δ : List Ty) (r : ℕ → ℕ) → Moves Γ Δ r → (ψ χ : Valuation) (f g : Valuation → ℕ) → Same Γ r ψ χ
    → ((ψ χ : Valuation) → Same (Γ ++ arguments A) r ψ χ → g χ ≡ f ψ) → fun_of A (length Δ) χ g ≡ fun_of A (length Γ) ψ f
fun_same (sort b) Γ Δ r m ψ χ f g s h = h ψ χ (λ i A a. s i A (subst (λ Γ. HasType Γ i A) (append-nil Γ) a))
fun_same (A ⇒ B) Γ Δ r m ψ χ f g s h = fun_ext (λ a.
    subst₂ (λ j k. fun_of B j (put (length Δ) A a χ) g ≡ fun_of B k (put (length Γ) A a ψ) f)
    (length-append Δ (A ∷ []) ∙ omega arith) (length-append Γ (A ∷ []) ∙ omega arith)
    (fun_same B (Γ ++ A ∷ []) (Δ ++ A ∷ []) r (moves_on Γ Δ r (A ∷ []) m) (put (length Γ) A a ψ) (put (length Δ) A a χ) f g (same_put Γ Δ r m ψ χ A a s)
    (λ ψ χ t. h ψ χ (λ i C c. t i C (subst (λ Γ. HasType Γ i C) (sym (append_assoc Γ (A ∷ []) (arguments B))) c)))))

mutual
  pub den_renumber : (Γ Δ : List Ty) (r : ℕ → ℕ) → Moves Γ Δ r → (p : Polynomial) → Normal Γ p → (ψ χ : Valuation) → Same Γ r ψ χ
      → den Δ χ (renumber r p) ≡ den Γ ψ p
  den_renumber Γ Δ r m zero_poly n ψ χ s = refl
  den_renumber Γ Δ r m (plus c us p) n ψ χ s = ap₂ (λ j k. c * j + k) (den_renumber_factors Γ Δ r m us n.1 ψ χ s) (den_renumber Γ Δ r m p n.3 ψ χ s)

  den_renumber_factors : (Γ Δ : List Ty) (r : ℕ → ℕ) → Moves Γ Δ r → (us : Factors) → NormalFactors Γ us → (ψ χ : Valuation)
      → Same Γ r ψ χ → den_factors Δ χ (renumber_factors r us) ≡ den_factors Γ ψ us
  den_renumber_factors Γ Δ r m no_factors n ψ χ s = refl
  den_renumber_factors Γ Δ r m (times x ps us) (A, a, k, b, n) ψ χ s = ap₂ (λ j k. j * k)
      (ap (λ A. den_arguments Δ χ A (χ (r x) A) (renumber_arguments r ps)) (type_is Δ (r x) A (m.types x A a))
      ∙ ap (λ f. den_arguments Δ χ A f (renumber_arguments r ps)) (s x A a)
      ∙ den_renumber_arguments Γ Δ r m A (ψ x A) ps k ψ χ s
      ∙ ap (λ A. den_arguments Γ ψ A (ψ x A) ps) (sym (type_is Γ x A a)))
      (den_renumber_factors Γ Δ r m us n ψ χ s)

  den_renumber_arguments : (Γ Δ : List Ty) (r : ℕ → ℕ) → Moves Γ Δ r → (A : Ty) (f : Sem A) (ps : Arguments) → NormalArguments Γ A ps
      → (ψ χ : Valuation) → Same Γ r ψ χ → den_arguments Δ χ A f (renumber_arguments r ps) ≡ den_arguments Γ ψ A f ps
  den_renumber_arguments Γ Δ r m (sort s) f no_arguments n ψ χ t = refl
  den_renumber_arguments Γ Δ r m (sort s) f (argument p ps) n ψ χ t = absurd n
  den_renumber_arguments Γ Δ r m (A ⇒ B) f no_arguments n ψ χ t = absurd n
  den_renumber_arguments Γ Δ r m (A ⇒ B) f (argument p ps) n ψ χ t =
      ap (λ a. den_arguments Δ χ B (f a) (renumber_arguments r ps))
      (fun_same A Γ Δ r m ψ χ (λ ψ. den (Γ ++ arguments A) ψ p) (λ χ. den (Δ ++ arguments A) χ (renumber r p)) t
      (λ ψ χ t. den_renumber (Γ ++ arguments A) (Δ ++ arguments A) r (moves_on Γ Δ r (arguments A) m) p n.0 ψ χ t))
      ∙ den_renumber_arguments Γ Δ r m B (f (fun_of A (length Γ) ψ (λ ψ. den (Γ ++ arguments A) ψ p))) ps n.1 ψ χ t

-- a value put in at v, the later ones one further on
unfoldable pub insert : ℕ → (A : Ty) → Sem A → Valuation → Valuation
insert v A a ψ i C = elim (eqb i v) [ true ↦ at_type A C (Ty-discrete ℕ_discrete A C) a (nothing C) | false ↦ ψ (down v i) C ]

insert_at : (v : ℕ) (A : Ty) (a : Sem A) (ψ χ : Valuation) (i : ℕ) (C : Ty) → i ≡ v → insert v A a ψ i C ≡ insert v A a χ i C
unfolding insert
insert_at v A a ψ χ i C e = ap (λ b. elim b as (λ b. Sem C) [ true ↦ at_type A C (Ty-discrete ℕ_discrete A C) a (nothing C) | false ↦ ψ (down v i) C ]) (eq-eqb i v e)
    ∙ sym (ap (λ b. elim b as (λ b. Sem C) [ true ↦ at_type A C (Ty-discrete ℕ_discrete A C) a (nothing C) | false ↦ χ (down v i) C ]) (eq-eqb i v e))

insert_other : (v : ℕ) (A : Ty) (a : Sem A) (ψ : Valuation) (i : ℕ) (C : Ty) → (i ≡ v → ⊥) → insert v A a ψ i C ≡ ψ (down v i) C
unfolding insert
insert_other v A a ψ i C h = ap (λ b. elim b as (λ b. Sem C) [ true ↦ at_type A C (Ty-discrete ℕ_discrete A C) a (nothing C) | false ↦ ψ (down v i) C ]) (ne_eqb i v h)

insert_same : (v : ℕ) (A : Ty) (a : Sem A) (ψ : Valuation) → insert v A a ψ v A ≡ a
unfolding insert at_type
insert_same v A a ψ = ap (λ b. elim b as (λ b. Sem A) [ true ↦ at_type A A (Ty-discrete ℕ_discrete A A) a (nothing A) | false ↦ ψ (down v v) A ]) (eq-eqb v v refl)
    ∙ go (Ty-discrete ℕ_discrete A A)
  where
    go : (d : Dec (A ≡ A)) → at_type A A d a (nothing A) ≡ a
    go (yes e) = ap (λ e. subst Sem e a) (ty_set A A e refl) ∙ subst_refl Sem a
    go (no k) = absurd (k refl)

put_here : (n m : ℕ) (B : Ty) (b : Sem B) (ψ χ : Valuation) (i j : ℕ) (C : Ty) → i ≡ n → j ≡ m → ψ i C ≡ χ j C
    → put n B b ψ i C ≡ put m B b χ j C
unfolding put
put_here n m B b ψ χ i j C e k h = ap (λ t. elim t as (λ t. Sem C) [ true ↦ at_type B C (Ty-discrete ℕ_discrete B C) b (ψ i C) | false ↦ ψ i C ]) (eq-eqb i n e)
    ∙ ap (at_type B C (Ty-discrete ℕ_discrete B C) b) h
    ∙ sym (ap (λ t. elim t as (λ t. Sem C) [ true ↦ at_type B C (Ty-discrete ℕ_discrete B C) b (χ j C) | false ↦ χ j C ]) (eq-eqb j m k))

down_last : (v m : ℕ) → v ≤ m → down v (suc m) ≡ m
down_last v m h = grind (arith, h)

down_before : (v m i : ℕ) → v ≤ m → (i ≡ v → ⊥) → (i ≡ suc m → ⊥) → down v i ≡ m → ⊥
down_before v m i h k l e = grind (arith, h, k, l, e)

commute : (v m : ℕ) (A B : Ty) (a : Sem A) (b : Sem B) (ψ : Valuation) → v ≤ m
    → insert v A a (put m B b ψ) ≡ put (suc m) B b (insert v A a ψ)
commute v m A B a b ψ h = fun_ext (λ i. fun_ext (λ C. go i C (ℕ_discrete i v) (ℕ_discrete i (suc m))))
  where
    go : (i : ℕ) (C : Ty) → Dec (i ≡ v) → Dec (i ≡ suc m) → insert v A a (put m B b ψ) i C ≡ put (suc m) B b (insert v A a ψ) i C
    go i C (yes e) d = insert_at v A a (put m B b ψ) ψ i C e ∙ sym (put_other (suc m) B b (insert v A a ψ) i C (λ k. omega (arith, e, k, h)))
    go i C (no n) (yes e) = insert_other v A a (put m B b ψ) i C n ∙ put_here m (suc m) B b ψ (insert v A a ψ) (down v i) i C (ap (down v) e ∙ down_last v m h) e (sym (insert_other v A a ψ i C n))
    go i C (no n) (no k) = insert_other v A a (put m B b ψ) i C n ∙ put_other m B b ψ (down v i) C (down_before v m i h n k) ∙ sym (insert_other v A a ψ i C n) ∙ sym (put_other (suc m) B b (insert v A a ψ) i C k)

module _ (head : List Ty → Arguments → Run Polynomial) (Γ : List Ty) (A : Ty) (h : HeadOk Γ A head) (ψ0 : Valuation) (a : Sem A)
    (s : (X : List Ty) (qs : Arguments) (χ : Valuation) → ((i : ℕ) (B : Ty) → HasType Γ i B → χ i B ≡ ψ0 i B) → NormalArguments (Γ ++ X) A qs → den (Γ ++ X) χ (head (Γ ++ X) qs).result ≡ den_arguments (Γ ++ X) χ A a qs) where
  abbrev Agree : Valuation → Type 0
  Agree χ = (i : ℕ) (B : Ty) → HasType Γ i B → χ i B ≡ ψ0 i B

  agree_put : (m : ℕ) (B : Ty) (b : Sem B) (ψ : Valuation) → length Γ ≤ m → Agree ψ → Agree (put m B b ψ)
  agree_put m B b ψ l g i C c = put_other m B b ψ i C (λ e. let k = at_below Γ i C c in omega (arith, e, k, l)) ∙ g i C c

  fun_insert : (B : Ty) (m : ℕ) (ψ : Valuation) (f g : Valuation → ℕ) → length Γ ≤ m → Agree ψ
      → ((χ : Valuation) → Agree χ → f χ ≡ g (insert (length Γ) A a χ)) → fun_of B m ψ f ≡ fun_of B (suc m) (insert (length Γ) A a ψ) g
  fun_insert (sort t) m ψ f g l k w = w ψ k
  fun_insert (B ⇒ C) m ψ f g l k w = fun_ext (λ b. fun_insert C (suc m) (put m B b ψ) f g (omega (arith, l)) (agree_put m B b ψ l k) w ∙ ap (λ ψ. fun_of C (suc (suc m)) ψ g) (commute (length Γ) m A B a b ψ l))

  den_atom : (Δ : List Ty) (ψ : Valuation) (x : ℕ) (qs : Arguments)
      → den Δ ψ (atom x qs) ≡ den_arguments Δ ψ (type_at Δ x) (ψ x (type_at Δ x)) qs
  den_atom Δ ψ x qs = omega arith

  den_replaced : (Θ : List Ty) (ψ : Valuation) (x : ℕ) (B : Ty) (qs : Arguments) → Agree ψ → HasType (Γ ++ A ∷ Θ) x B
      → NormalArguments (Γ ++ Θ) B qs
      → den (Γ ++ Θ) ψ (if x == length Γ then head (without (length Γ) (Γ ++ A ∷ Θ)) qs else one (atom (down (length Γ) x) qs)).result ≡ den_arguments (Γ ++ Θ) ψ B (insert (length Γ) A a ψ x B) qs
  den_replaced Θ ψ x B qs g c n = go (x == length Γ) refl
    where
      go : (b : Bool) → (x == length Γ) ≡ b
          → den (Γ ++ Θ) ψ (if b then head (without (length Γ) (Γ ++ A ∷ Θ)) qs else one (atom (down (length Γ) x) qs)).result ≡ den_arguments (Γ ++ Θ) ψ B (insert (length Γ) A a ψ x B) qs
      go true e = let i : x ≡ length Γ = grind (arith, e) in
          let k = at_itself Γ A Θ B (subst (λ x. HasType (Γ ++ A ∷ Θ) x B) i c) in
          ap (λ Δ. den (Γ ++ Θ) ψ (head Δ qs).result) (without_is Γ A Θ)
          ∙ s Θ qs ψ g (subst (λ B. NormalArguments (Γ ++ Θ) B qs) (sym k) n)
          ∙ ap (λ f. den_arguments (Γ ++ Θ) ψ A f qs) (sym (insert_same (length Γ) A a ψ) ∙ ap (λ y. insert (length Γ) A a ψ y A) (sym i))
          ∙ ap (λ B. den_arguments (Γ ++ Θ) ψ B (insert (length Γ) A a ψ x B) qs) k
      go false e = let k : x ≡ length Γ → ⊥ = (λ i. grind (arith, e, i)) in
          den_atom (Γ ++ Θ) ψ (down (length Γ) x) qs
          ∙ ap (λ B. den_arguments (Γ ++ Θ) ψ B (ψ (down (length Γ) x) B) qs) (type_is (Γ ++ Θ) (down (length Γ) x) B (at_down Γ A Θ x B k c))
          ∙ ap (λ f. den_arguments (Γ ++ Θ) ψ B f qs) (sym (insert_other (length Γ) A a ψ x B k))

  mutual
    pub den_replace : (Θ : List Ty) (sum p : Polynomial) (ψ : Valuation) → Agree ψ → Normal (Γ ++ A ∷ Θ) p
        → den (Γ ++ Θ) ψ (replace head (length Γ) (Γ ++ A ∷ Θ) sum p).result ≡ den (Γ ++ Θ) ψ sum + den (Γ ++ A ∷ Θ)
        (insert (length Γ) A a ψ) p
    den_replace Θ sum zero_poly ψ g n = omega arith
    den_replace Θ sum (plus c us p) ψ g n =
        let m = (replace_factors head (length Γ) (Γ ++ A ∷ Θ) (constant c) us).result in
        den_replace Θ (sum_poly m sum) p ψ g n.3
        ∙ ap (λ k. k + den (Γ ++ A ∷ Θ) (insert (length Γ) A a ψ) p) (den_sum (Γ ++ Θ) ψ m sum ∙ ap (λ k. k + den (Γ ++ Θ) ψ sum) (den_replace_factors Θ (constant c) us ψ g n.1))
        ∙ omega arith

    pub den_replace_factors : (Θ : List Ty) (product : Polynomial) (us : Factors) (ψ : Valuation) → Agree ψ
        → NormalFactors (Γ ++ A ∷ Θ) us
        → den (Γ ++ Θ) ψ (replace_factors head (length Γ) (Γ ++ A ∷ Θ) product us).result ≡ den (Γ ++ Θ) ψ product * den_factors (Γ ++ A ∷ Θ) (insert (length Γ) A a ψ) us
    den_replace_factors Θ product no_factors ψ g n = omega arith
    den_replace_factors Θ product (times x ps us) ψ g (B, c, k, b, n) =
        let Δ = Γ ++ A ∷ Θ in
        let χ = insert (length Γ) A a ψ in
        let qs = (replace_arguments head (length Γ) Δ (type_at Δ x) ps).result in
        let m = (if x == length Γ then head (without (length Γ) Δ) qs else one (atom (down (length Γ) x) qs)).result in
        let e : B ≡ type_at Δ x = sym (type_is Δ x B c) in
        den_replace_factors Θ (multiply product m) us ψ g n
        ∙ ap (λ j. j * den_factors Δ χ us) (den_multiply (Γ ++ Θ) ψ product m
        ∙ ap (λ j. den (Γ ++ Θ) ψ product * j)
        (den_replaced Θ ψ x B qs g c (subst (λ C. NormalArguments (Γ ++ Θ) B (replace_arguments head (length Γ) Δ C ps).result) e (normal_replace_arguments head Γ A h Θ B ps k))
        ∙ ap (λ C. den_arguments (Γ ++ Θ) ψ B (χ x B) (replace_arguments head (length Γ) Δ C ps).result) (sym e)
        ∙ den_replace_arguments Θ B (χ x B) ps ψ g k
        ∙ ap (λ B. den_arguments Δ χ B (χ x B) ps) e))
        ∙ omega arith

    pub den_replace_arguments : (Θ : List Ty) (B : Ty) (f : Sem B) (ps : Arguments) (ψ : Valuation) → Agree ψ
        → NormalArguments (Γ ++ A ∷ Θ) B ps
        → den_arguments (Γ ++ Θ) ψ B f (replace_arguments head (length Γ) (Γ ++ A ∷ Θ) B ps).result ≡ den_arguments (Γ ++ A ∷ Θ)
        (insert (length Γ) A a ψ) B f ps
    den_replace_arguments Θ (sort t) f no_arguments ψ g n = refl
    den_replace_arguments Θ (sort t) f (argument p ps) ψ g n = absurd n
    den_replace_arguments Θ (B ⇒ C) f no_arguments ψ g n = absurd n
    den_replace_arguments Θ (B ⇒ C) f (argument p ps) ψ g n =
        let Δ = Γ ++ A ∷ Θ in
        let X = arguments B in
        let χ = insert (length Γ) A a ψ in
        let F : Valuation → ℕ = λ ψ. den ((Γ ++ Θ) ++ X) ψ (replace head (length Γ) (Δ ++ X) zero_poly p).result in
        let G : Valuation → ℕ = λ χ. den (Δ ++ X) χ p in
        let w : (χ : Valuation) → Agree χ → F χ ≡ G (insert (length Γ) A a χ) = λ χ k.
        subst₂ (λ Φ Ψ. den Φ χ (replace head (length Γ) Ψ zero_poly p).result ≡ den Ψ (insert (length Γ) A a χ) p) (sym (append_assoc Γ Θ X)) (sym (append_assoc Γ (A ∷ Θ) X))
        (den_replace (Θ ++ X) zero_poly p χ k (subst (λ Ψ. Normal Ψ p) (append_assoc Γ (A ∷ Θ) X) n.0) ∙ omega arith) in
        den_replace_arguments Θ C (f (fun_of B (length (Γ ++ Θ)) ψ F)) ps ψ g n.1
        ∙ ap (λ b. den_arguments Δ χ C (f b) ps)
        (fun_insert B (length (Γ ++ Θ)) ψ F G (let e = length-append Γ Θ in omega (arith, e)) g w
        ∙ ap (λ n. fun_of B n χ G) (let e = length-append Γ Θ in let d = length-append Γ (A ∷ Θ) in omega (arith, e, d)))

-- values that agree on a scope
mutual
  renumber_same : (p : Polynomial) → renumber (λ i. i) p ≡ p
  renumber_same zero_poly = refl
  renumber_same (plus c us p) = ap₂ (plus c) (renumber_factors_same us) (renumber_same p)

  renumber_factors_same : (us : Factors) → renumber_factors (λ i. i) us ≡ us
  renumber_factors_same no_factors = refl
  renumber_factors_same (times x ps us) = ap₂ (times x) (renumber_arguments_same ps) (renumber_factors_same us)

  renumber_arguments_same : (ps : Arguments) → renumber_arguments (λ i. i) ps ≡ ps
  renumber_arguments_same no_arguments = refl
  renumber_arguments_same (argument p ps) = ap₂ argument (renumber_same p) (renumber_arguments_same ps)

pub moves_same : (Γ : List Ty) → Moves Γ Γ (λ i. i)
moves_same Γ = record { types = λ i A a. a; added = λ j. refl; order = λ i j. refl }

pub den_agree : (Γ : List Ty) (p : Polynomial) → Normal Γ p → (ψ χ : Valuation) → Same Γ (λ i. i) ψ χ → den Γ χ p ≡ den Γ ψ p
den_agree Γ p n ψ χ s = sym (ap (den Γ χ) (renumber_same p)) ∙ den_renumber Γ Γ (λ i. i) (moves_same Γ) p n ψ χ s

down_low : (v i : ℕ) → i < v → down v i ≡ i
down_low v i h = grind (arith, h)

put_insert : (Γ : List Ty) (A : Ty) (a : Sem A) (ψ : Valuation)
    → Same (Γ ++ A ∷ []) (λ i. i) (put (length Γ) A a ψ) (insert (length Γ) A a ψ)
put_insert Γ A a ψ i C c = split_last Γ A i C (insert (length Γ) A a ψ i C ≡ put (length Γ) A a ψ i C) c
    (λ d. let k = at_below Γ i C d in
    insert_other (length Γ) A a ψ i C (λ e. omega (arith, e, k)) ∙ ap (λ j. ψ j C) (down_low (length Γ) i k) ∙ sym (put_other (length Γ) A a ψ i C (λ e. omega (arith, e, k))))
    (λ e t. path_j (λ C t. insert (length Γ) A a ψ i C ≡ put (length Γ) A a ψ i C)
    (ap (λ j. insert (length Γ) A a ψ j A) e ∙ insert_same (length Γ) A a ψ ∙ sym (put_same (length Γ) A a ψ) ∙ ap (λ j. put (length Γ) A a ψ j A) (sym e)) t)

-- replacing the first added variable is application, if the head is
pub apply_sound : (A B : Ty) (Γ : List Ty) (g : Polynomial) (ψ : Valuation) (a : Sem A) (head : List Ty → Arguments → Run Polynomial)
    → HeadOk Γ A head
    → ((X : List Ty) (qs : Arguments) (χ : Valuation) → ((i : ℕ) (C : Ty) → HasType Γ i C → χ i C ≡ ψ i C) → NormalArguments (Γ ++ X) A qs → den (Γ ++ X) χ (head (Γ ++ X) qs).result ≡ den_arguments (Γ ++ X) χ A a qs)
    → Normal (Γ ++ A ∷ arguments B) g
    → reading B Γ ψ (replace head (length Γ) (Γ ++ A ∷ arguments B) zero_poly g).result ≡ reading (A ⇒ B) Γ ψ g a
apply_sound A B Γ g ψ a head h s n =
    let F : Valuation → ℕ = λ χ. den (Γ ++ arguments B) χ (replace head (length Γ) (Γ ++ A ∷ arguments B) zero_poly g).result in
    let G : Valuation → ℕ = λ χ. den (Γ ++ A ∷ arguments B) χ g in
    let e : length (Γ ++ A ∷ []) ≡ suc (length Γ) = length-append Γ (A ∷ []) ∙ omega arith in
    fun_insert head Γ A h ψ a s B (length Γ) ψ F G (omega arith) (λ i C c. refl) (λ χ k. den_replace head Γ A h ψ a s (arguments B) zero_poly g χ k n ∙ omega arith)
    ∙ subst (λ m. fun_of B m (insert (length Γ) A a ψ) G ≡ fun_of B m (put (length Γ) A a ψ) G) e
    (fun_same B (Γ ++ A ∷ []) (Γ ++ A ∷ []) (λ i. i) (moves_same (Γ ++ A ∷ [])) (put (length Γ) A a ψ) (insert (length Γ) A a ψ) G G (put_insert Γ A a ψ)
    (λ ψ χ t. den_agree (Γ ++ A ∷ arguments B) g n ψ χ (λ i C c. t i C (subst (λ Δ. HasType Δ i C) (sym (append_assoc Γ (A ∷ []) (arguments B))) c))))

-- a widened value means the same
moved_sound : (A : Ty) (Γ X : List Ty) (p : Polynomial) (ψ χ : Valuation) → Normal (Γ ++ arguments A) p
    → ((i : ℕ) (C : Ty) → HasType Γ i C → χ i C ≡ ψ i C)
    → reading A (Γ ++ X) χ (widened (length Γ) (Γ ++ X) p) ≡ reading A Γ ψ p
moved_sound A Γ X p ψ χ n g =
    let r : ℕ → ℕ = λ i. if nat_lt i (length Γ) then i else length (Γ ++ X) + (i - length Γ) in
    fun_same A Γ (Γ ++ X) r (moves_moved Γ X) ψ χ (λ χ. den (Γ ++ arguments A) χ p) (λ χ. den ((Γ ++ X) ++ arguments A) χ (widened (length Γ) (Γ ++ X) p))
    (λ i C c. ap (λ j. χ j C) (moved_low (length Γ) (length (Γ ++ X)) i (at_below Γ i C c)) ∙ g i C c)
    (λ ψ χ t. den_renumber (Γ ++ arguments A) ((Γ ++ X) ++ arguments A) r (moves_on Γ (Γ ++ X) r (arguments A) (moves_moved Γ X)) p n ψ χ t)

-- the added variables replaced one after another: application to the arguments
pub den_applied : (A : Ty) (Γ : List Ty) (g : Polynomial) (ps : Arguments) (ψ : Valuation) → Normal (Γ ++ arguments A) g
    → NormalArguments Γ A ps
    → den Γ ψ (applied A Γ g ps).result ≡ den_arguments Γ ψ A (reading A Γ ψ g) ps
den_applied (sort t) Γ g no_arguments ψ n k = ap (λ Δ. den Δ ψ g) (sym (append-nil Γ))
den_applied (sort t) Γ g (argument p ps) ψ n k = absurd k
den_applied (A ⇒ B) Γ g no_arguments ψ n k = absurd k
den_applied (A ⇒ B) Γ g (argument p ps) ψ n k =
    let head : List Ty → Arguments → Run Polynomial = λ Δ qs. applied A Δ (widened (length Γ) Δ p) qs in
    let h : HeadOk Γ A head = λ X qs m. normal_applied A (Γ ++ X) (widened (length Γ) (Γ ++ X) p) qs (normal_moved Γ X (arguments A) p k.0) m in
    let g' = (replace head (length Γ) (Γ ++ A ∷ arguments B) zero_poly g).result in
    den_applied B Γ g' ps ψ (normal_replace head Γ A h (arguments B) zero_poly g tt n) k.1
    ∙ ap (λ f. den_arguments Γ ψ B f ps) (apply_sound A B Γ g ψ (reading A Γ ψ p) head h
    (λ X qs χ a m. den_applied A (Γ ++ X) (widened (length Γ) (Γ ++ X) p) qs χ (normal_moved Γ X (arguments A) p k.0) m
    ∙ ap (λ f. den_arguments (Γ ++ X) χ A f qs) (moved_sound A Γ X p ψ χ k.0 a)) n)

-- an application's value means the application
pub den_apply_one : (A B : Ty) (Γ : List Ty) (g p : Polynomial) (ψ : Valuation) → Normal (Γ ++ A ∷ arguments B) g
    → Normal (Γ ++ arguments A) p
    → reading B Γ ψ (apply_one A B Γ g p).result ≡ reading (A ⇒ B) Γ ψ g (reading A Γ ψ p)
den_apply_one A B Γ g p ψ n m =
    let head : List Ty → Arguments → Run Polynomial = λ Δ qs. applied A Δ (widened (length Γ) Δ p) qs in
    apply_sound A B Γ g ψ (reading A Γ ψ p) head (λ X qs k. normal_applied A (Γ ++ X) (widened (length Γ) (Γ ++ X) p) qs (normal_moved Γ X (arguments A) p m) k)
    (λ X qs χ a k. den_applied A (Γ ++ X) (widened (length Γ) (Γ ++ X) p) qs χ (normal_moved Γ X (arguments A) p m) k ∙ ap (λ f. den_arguments (Γ ++ X) χ A f qs) (moved_sound A Γ X p ψ χ m a)) n
