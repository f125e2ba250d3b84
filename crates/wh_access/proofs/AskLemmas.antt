-- What the walks that fill the tables tell, joined along the parts of a pattern.
use Rattle.std.proofs.Common.{◌≡◌, ℕ, ◌+◌, ◌<◌, ◌↔◌, ◌⊎◌, inl, inr, Bool, true, false, List, [], ◌∷◌, ◌++◌, Option, Some, None, option_map, Contains, slice_get, refl, ap, sym, ◌∙◌, subst, arith}
use Rattle.std.proofs.lemmas.List.Elements.{Contains-append_cases, Contains-append_left, Contains-append_right, Contains-push, Contains-push_cases}
use Rattle.wh_terms.specs.Tree.{Tm, app, head, argument_count}
use Rattle.wh_types.specs.Ty.{Ty, arguments, result_sort}
use Rattle.wh_terms.specs.Typing.{Symbols}
use Rattle.wh_terms.specs.Rules.{RewriteRule}
use Rattle.wh_terms.specs.Sight.{Occurs}
use Rattle.wh_access.specs.Readings.{Place, Reading, symbol_of, within_argument, readings, readings_of_left, way_to}
use Rattle.wh_access.specs.Passing.{IsRead}
use Rattle.wh_access.specs.Demands.{Demand, Asks, IsAskedAt, IsAskedOn, IsAskedFor}
use Rattle.wh_access.specs.Tables.{InTables, Grows, TellsAsked}
use Rattle.wh_access.specs.declared.demands.Demands.{Demands}
use Rattle.wh_access.proofs.ReadingLemmas.{way_in_front, way_after, way_behind}

below_next : (j i : ℕ) → j < i + 1 → (j < i) ⊎ (j ≡ i)
below_next j i h = grind arith

-- one growth after another
pub grows_then : (old mid new : Demands) (A B C : Demand → Type 0) → Grows old mid A → Grows mid new B → ((d : Demand) → C d ↔ (A d ⊎ B d)) → Grows old new C
grows_then old mid new A B C first second parts d from to = (
  λ told. elim ((second d from to).0 told) [
    | inl before ↦ elim ((first d from to).0 before) [ inl o ↦ inl o | inr a ↦ inr ((parts d).1 (inl a)) ]
    | inr b ↦ inr ((parts d).1 (inr b))
  ],
  λ here. elim here [
    | inl o ↦ (second d from to).1 (inl ((first d from to).1 (inl o)))
    | inr c ↦ elim ((parts d).0 c) [ inl a ↦ (second d from to).1 (inl ((first d from to).1 (inr a))) | inr b ↦ (second d from to).1 (inr b) ]
  ],
)

pub grows_by_none : (old new : Demands) (A : Demand → Type 0) → new ≡ old → ((d : Demand) → A d → ⊥) → Grows old new A
grows_by_none old new A e none d from to = (
  λ told. inl (subst (λ t. InTables t d) e told),
  λ here. elim here [ inl o ↦ subst (λ t. InTables t d) (sym e) o | inr a ↦ absurd (none d a) ],
)

pub grows_as : (old new : Demands) (A B : Demand → Type 0) → ((d : Demand) → A d ↔ B d) → Grows old new A → Grows old new B
grows_as old new A B same grows d from to = (
  λ told. elim ((grows d from to).0 told) [ inl o ↦ inl o | inr a ↦ inr ((same d).0 a) ],
  λ here. elim here [ inl o ↦ (grows d from to).1 (inl o) | inr b ↦ (grows d from to).1 (inr ((same d).1 b)) ],
)

-- what is asked on a way is asked at its first place or on the rest
pub asked_first : (S : Symbols) (p : Place) (way : List Place) (d : Demand) → IsAskedOn S (p ∷ way) d ↔ (IsAskedOn S way d ⊎ IsAskedAt S p d)
asked_first S p way d = (
  λ on. elim (Contains-append_cases (p ∷ []) way on.0 on.1) [
    | inl first ↦ elim (Contains-push_cases [] p on.0 first) [
      | inl none ↦ absurd (nowhere on.0 none)
      | inr e ↦ inr (subst (λ q. IsAskedAt S q d) (sym e) on.2)
    ]
    | inr later ↦ inl (on.0, later, on.2)
  ],
  λ here. elim here [
    | inl on ↦ (on.0, Contains-append_right (p ∷ []) way on.0 on.1, on.2)
    | inr at ↦ (p, Contains-append_left (p ∷ []) way p (Contains-push [] p), at)
  ],
)
  where
    nowhere : (q : Place) → Contains [] q → ⊥
    nowhere q within = omega (arith, within.1)

pub asked_nowhere : (S : Symbols) (d : Demand) → IsAskedOn S [] d → ⊥
asked_nowhere S d (p, within, at) = omega (arith, within.1)

-- what is told of the front counts where z is read there
pub asked_front : (S : Symbols) (z : ℕ) (xs ys : List Reading) (old new : Demands) → TellsAsked S z xs old new true → TellsAsked S z (xs ++ ys) old new true
asked_front S z xs ys old new (way, e, grows) = (way, way_in_front z xs ys way e, grows)

-- and otherwise what is told of the rest
pub asked_rest : (S : Symbols) (z : ℕ) (xs ys : List Reading) (old mid new : Demands) (b : Bool) → TellsAsked S z xs old mid false → TellsAsked S z ys mid new b → TellsAsked S z (xs ++ ys) old new b
asked_rest S z xs ys old mid new true (none, same) (way, e, grows) = (way, way_after z xs ys none ∙ e, subst (λ t. Grows t new (IsAskedOn S way)) same grows)
asked_rest S z xs ys old mid new false (none, same) (later, last) = (way_after z xs ys none ∙ later, last ∙ same)

asked_within : (S : Symbols) (z f i : ℕ) (xs : List Reading) (old mid new : Demands) → TellsAsked S z xs old mid true → Grows mid new (IsAskedAt S (record { symbol = f; index = i })) → TellsAsked S z (within_argument (Some f) i xs) old new true
asked_within S z f i xs old mid new (way, e, grows) at =
    let p : Place = record { symbol = f; index = i } in
    (p ∷ way, way_behind z p xs ∙ ap (option_map (λ v. p ∷ v)) e, grows_then old mid new (IsAskedOn S way) (IsAskedAt S p) (IsAskedOn S (p ∷ way)) grows at (asked_first S p way))

nothing_within : (S : Symbols) (z : ℕ) (f : Option ℕ) (i : ℕ) (xs : List Reading) (old new : Demands) → TellsAsked S z xs old new false → TellsAsked S z (within_argument f i xs) old new false
nothing_within S z None i xs old new (none, same) = (refl, same)
nothing_within S z (Some f) i xs old new (none, same) = (way_behind z (record { symbol = f; index = i }) xs ∙ ap (option_map (λ v. record { symbol = f; index = i } ∷ v)) none, same)

-- the parts of an application

pub ask_front : (S : Symbols) (z : ℕ) (p t u : Tm) (old new : Demands) → p ≡ app t u → TellsAsked S z (readings t) old new true → TellsAsked S z (readings p) old new true
ask_front S z p t u old new e told =
    subst (λ p. TellsAsked S z (readings p) old new true) (sym e) (asked_front S z (readings t) (within_argument (symbol_of (head t)) (argument_count t) (readings u)) old new told)

pub ask_no_symbol : (S : Symbols) (z : ℕ) (p t u : Tm) (old new : Demands) → p ≡ app t u → TellsAsked S z (readings t) old new false → symbol_of (head t) ≡ None → TellsAsked S z (readings p) old new false
ask_no_symbol S z p t u old new e told none =
    subst (λ p. TellsAsked S z (readings p) old new false) (sym e)
    (asked_rest S z (readings t) (within_argument (symbol_of (head t)) (argument_count t) (readings u)) old new new false told
    (ap (λ f. way_to z (within_argument f (argument_count t) (readings u))) none, refl))

pub ask_nothing : (S : Symbols) (z : ℕ) (p t u : Tm) (old mid new : Demands) → p ≡ app t u → TellsAsked S z (readings t) old mid false → TellsAsked S z (readings u) mid new false → TellsAsked S z (readings p) old new false
ask_nothing S z p t u old mid new e told later =
    subst (λ p. TellsAsked S z (readings p) old new false) (sym e)
    (asked_rest S z (readings t) (within_argument (symbol_of (head t)) (argument_count t) (readings u)) old mid new false told
    (nothing_within S z (symbol_of (head t)) (argument_count t) (readings u) mid new later))

pub ask_argument : (S : Symbols) (z : ℕ) (p t u : Tm) (f i : ℕ) (old mid late new : Demands) → p ≡ app t u → TellsAsked S z (readings t) old mid false → symbol_of (head t) ≡ Some f → i ≡ argument_count t
    → TellsAsked S z (readings u) mid late true → Grows late new (IsAskedAt S (record { symbol = f; index = i })) → TellsAsked S z (readings p) old new true
ask_argument S z p t u f i old mid late new e told symbol index later at =
    subst (λ p. TellsAsked S z (readings p) old new true) (sym e)
    (asked_rest S z (readings t) (within_argument (symbol_of (head t)) (argument_count t) (readings u)) old mid new true told
    (subst (λ f. TellsAsked S z (within_argument f (argument_count t) (readings u)) mid new true) (sym symbol)
    (subst (λ i. TellsAsked S z (within_argument (Some f) i (readings u)) mid new true) index (asked_within S z f i (readings u) mid late new later at))))

-- a left side

pub ask_left_front : (S : Symbols) (z : ℕ) (p t u : Tm) (old new : Demands) → p ≡ app t u → TellsAsked S z (readings_of_left t) old new true → TellsAsked S z (readings_of_left p) old new true
ask_left_front S z p t u old new e told =
    subst (λ p. TellsAsked S z (readings_of_left p) old new true) (sym e) (asked_front S z (readings_of_left t) (readings u) old new told)

pub ask_left_last : (S : Symbols) (z : ℕ) (p t u : Tm) (old mid new : Demands) (b : Bool) → p ≡ app t u → TellsAsked S z (readings_of_left t) old mid false → TellsAsked S z (readings u) mid new b → TellsAsked S z (readings_of_left p) old new b
ask_left_last S z p t u old mid new b e told later =
    subst (λ p. TellsAsked S z (readings_of_left p) old new b) (sym e) (asked_rest S z (readings_of_left t) (readings u) old mid new b told later)

-- the place of a symbol

pub asked_grows : (old new : Demands) (S : Symbols) (p : Place) (a b : Ty) (t : ℕ) → slice_get S.funs p.symbol ≡ Some b → slice_get (arguments b) p.index ≡ Some a → t ≡ result_sort b
    → Grows old new (λ d. Asks a t d) → Grows old new (IsAskedAt S p)
asked_grows old new S p a b t symbol argument result =
    grows_as old new (λ d. Asks a t d) (IsAskedAt S p) (λ d. (
      λ asks. (a, b, symbol, argument, subst (λ t. Asks a t d) result asks),
      λ (a', b', symbol', argument', asks).
          let kind : b' ≡ b = cc (symbol, symbol') in
          let same : a' ≡ a = cc (argument, argument', ap arguments kind) in
          subst (λ u. Asks u t d) same (subst (λ t. Asks a' t d) (sym (result ∙ ap result_sort (sym kind))) asks),
    ))

-- the meta-variables of a rule, one after another

abbrev pub AskedBelow : Symbols → RewriteRule → ℕ → Demand → Type 0
AskedBelow S r n d = (z : ℕ) × (z < n) × IsAskedFor S r z d

pub asked_next : (S : Symbols) (r : RewriteRule) (n : ℕ) (first old new : Demands) → Grows first old (AskedBelow S r n) → Occurs n r.right → TellsAsked S n (readings_of_left r.left) old new true → Grows first new (AskedBelow S r (n + 1))
asked_next S r n first old new before used (way, e, grows) =
    grows_then first old new (AskedBelow S r n) (IsAskedOn S way) (AskedBelow S r (n + 1)) before grows (λ d. (
      λ (z, below, (o, (v, read, on))). elim (below_next z n below) [
        | inl less ↦ inl (z, less, (o, (v, read, on)))
        | inr same ↦ let one : v ≡ way = cc (read, e, same) in inr (subst (λ v. IsAskedOn S v d) one on)
      ],
      λ here. elim here [
        | inl (z, less, asked) ↦ (z, omega arith, asked)
        | inr on ↦ (n, omega arith, (used, (way, e, on)))
      ],
    ))

pub asked_skip : (S : Symbols) (r : RewriteRule) (n : ℕ) (first old : Demands) → Grows first old (AskedBelow S r n) → (Occurs n r.right → ⊥) → Grows first old (AskedBelow S r (n + 1))
asked_skip S r n first old before unused =
    grows_as first old (AskedBelow S r n) (AskedBelow S r (n + 1)) (λ d. (
      λ (z, less, asked). (z, omega arith, asked),
      λ (z, below, asked). elim (below_next z n below) [ inl less ↦ (z, less, asked) | inr same ↦ absurd (unused (subst (λ z. Occurs z r.right) same asked.0)) ],
    )) before

pub read_next : (r : RewriteRule) (n : ℕ) → ((y : ℕ) → y < n → Occurs y r.right → IsRead r.left y) → (Occurs n r.right → IsRead r.left n) → (y : ℕ) → y < n + 1 → Occurs y r.right → IsRead r.left y
read_next r n before here y below used =
    elim (below_next y n below) [ inl less ↦ before y less used | inr same ↦ subst (IsRead r.left) (sym same) (here (subst (λ y. Occurs y r.right) same used)) ]
