-- What a table says behind some of the rules.
use Rattle.std.proofs.Common.{◌≡◌, ◌<◌, ◌≤◌, ◌+◌, ◌↔◌, ◌⊎◌, ℕ, zero, suc, Bool, true, inl, inr, List, [], length, replicate, Contains, Some, slice_get, ap, refl, sym, subst, ◌∙◌, arith}
use Rattle.std.proofs.lemmas.Option.{slice_get_within}
use Rattle.wh_terms.specs.Tree.{Tm, bound, free, fun, meta, lam, app, head}
use Rattle.wh_types.specs.Ty.{Ty}
use Rattle.wh_terms.specs.Typing.{Symbols, Declared, Typed, typed_bound, typed_free, typed_fun, typed_meta, typed_lam, typed_app}
use Rattle.wh_terms.specs.Rules.{RewriteRule, IsWellMade}
use Rattle.wh_pairs.proofs.ByPlace.{same_or_below, some_one, contains_at}
use Rattle.wh_usable.specs.Tables.{IsTableOf, IsCleared}

number_is : (f g : ℕ) → (g ≡ f) ⊎ (g ≡ f → ⊥)
number_is zero zero = inl refl
number_is zero (suc g) = inr (λ e. omega (arith, e))
number_is (suc f) zero = inr (λ e. omega (arith, e))
number_is (suc f) (suc g) = elim (number_is f g) [
  | inl e ↦ inl (ap suc e)
  | inr n ↦ inr (λ e. n (omega (arith, e)))
]

pub symbol_is : (f : ℕ) (t : Tm) → (t ≡ fun f) ⊎ (t ≡ fun f → ⊥)
symbol_is f (fun g) = elim (number_is f g) [
  | inl e ↦ inl (ap fun e)
  | inr n ↦ inr (λ e. n (cc e))
]
symbol_is f (bound i) = inr (λ e. cc e)
symbol_is f (free x a) = inr (λ e. cc e)
symbol_is f (meta z ts) = inr (λ e. cc e)
symbol_is f (lam a t) = inr (λ e. cc e)
symbol_is f (app t u) = inr (λ e. cc e)

-- the symbol that heads a typed tree is a symbol
pub head_within : {S : Symbols} {M : List Declared} {Γ : List Ty} {t : Tm} {a : Ty} → Typed S M Γ t a → (f : ℕ) → head t ≡ fun f → f < length S.funs
head_within (typed_bound e) f h = cc
head_within (typed_free s) f h = cc
head_within {S} (typed_fun {f = g} {a = a} e) f h =
    let same : g ≡ f = cc in
    let below = slice_get_within S.funs g a e in omega arith
head_within (typed_meta e ts o) f h = cc
head_within (typed_lam s t) f h = cc
head_within (typed_app t u) f h = head_within t f h

only_true : (n f : ℕ) (b : Bool) → slice_get (replicate n true) f ≡ Some b → b ≡ true
only_true zero f b at = cc
only_true (suc n) zero b at = cc
only_true (suc n) (suc f) b at = only_true n f b at

pub left_typed : {S : Symbols} (r : RewriteRule) (made : IsWellMade S r) → Typed S r.metas [] r.left (made.typed.0)
left_typed r made = let (a, left, right) = made.typed in left

module _ (rules : List RewriteRule) (listed : List ℕ) where
  -- all rules of the symbol before a place are listed
  abbrev pub ListsBefore : ℕ → ℕ → Type 0
  ListsBefore f i = (n : ℕ) (r : RewriteRule) → n < i → slice_get rules n ≡ Some r → head r.left ≡ fun f → Contains listed n

  -- the table says so much
  pub record SaysBefore (table : List Bool) (i : ℕ) : Type 0 where
    pub long : length table ≡ 1024
    pub said : (f : ℕ) (b : Bool) → slice_get table f ≡ Some b → (b ≡ true) ↔ ListsBefore f i

  pub says_none : (table : List Bool) → length table ≡ 1024 → table ≡ replicate (length table) true → SaysBefore table 0
  says_none table long all = record {
    long = long;
    said = λ f b at. (
      (λ yes n r less there heads. absurd (omega (arith, less))),
      (λ lists. only_true (length table) f b (subst (λ (l : List Bool). slice_get l f ≡ Some b) all at)),
    );
  }

  lists_more : (f i : ℕ) (r : RewriteRule) → slice_get rules i ≡ Some r → (head r.left ≡ fun f → Contains listed i) → ListsBefore f i → ListsBefore f (i + 1)
  lists_more f i r at here before n q less there heads = elim (same_or_below n i less) [
    | inl same ↦ subst (Contains listed) (sym same)
        (here (subst (λ (r : RewriteRule). head r.left ≡ fun f) (some_one (subst (λ n. slice_get rules n ≡ Some q) same there) at) heads))
    | inr below ↦ before n q below there heads
  ]

  lists_fewer : (f i : ℕ) → ListsBefore f (i + 1) → ListsBefore f i
  lists_fewer f i lists n r less = lists n r (omega (arith, less))

  pub says_listed : (table : List Bool) (i : ℕ) (r : RewriteRule) → slice_get rules i ≡ Some r → Contains listed i → SaysBefore table i → SaysBefore table (i + 1)
  says_listed table i r at found says = record {
    long = says.long;
    said = λ f b there. (
      (λ yes. lists_more f i r at (λ heads. found) ((says.said f b there).0 yes)),
      (λ lists. (says.said f b there).1 (lists_fewer f i lists)),
    );
  }

  says_one : (before after : List Bool) (i : ℕ) (r : RewriteRule) → slice_get rules i ≡ Some r → (Contains listed i → ⊥) → IsCleared before r.left after
      → SaysBefore before i → (f : ℕ) (b : Bool) → slice_get after f ≡ Some b
      → (head r.left ≡ fun f) ⊎ (head r.left ≡ fun f → ⊥) → (b ≡ true) ↔ ListsBefore f (i + 1)
  says_one before after i r at missing cleared says f b there (inl heads) = (
    λ yes. absurd (cc (sym yes ∙ cleared.head_symbol f b heads there)),
    λ lists. absurd (missing (lists i r (omega arith) at heads)),
  )
  says_one before after i r at missing cleared says f b there (inr other) =
      let old = says.said f b (sym (cleared.others f other) ∙ there) in (
        λ yes. lists_more f i r at (λ heads. absurd (other heads)) (old.0 yes),
        λ lists. old.1 (lists_fewer f i lists),
      )

  pub says_cleared : (before after : List Bool) (i : ℕ) (r : RewriteRule) → slice_get rules i ≡ Some r → (Contains listed i → ⊥) → IsCleared before r.left after
      → SaysBefore before i → SaysBefore after (i + 1)
  says_cleared before after i r at missing cleared says = record {
    long = cleared.same_length ∙ says.long;
    said = λ f b there. says_one before after i r at missing cleared says f b there (symbol_is f (head r.left));
  }

  pub says_all : (S : Symbols) (table : List Bool) (i : ℕ) → ((r : RewriteRule) → Contains rules r → IsWellMade S r) → length S.funs ≤ 1024
      → length rules ≤ i → SaysBefore table i → IsTableOf rules listed table
  says_all S table i made few past says = record {
    said = λ f b there. (
      (λ yes n r at. (let within = slice_get_within rules n r at in (says.said f b there).0 yes n r (omega (arith, within, past)) at)),
      (λ lists. (says.said f b there).1 (λ n r less. lists n r)),
    );
    others = λ f beyond n r at heads. (let inside = head_within (left_typed r (made r (contains_at rules n r at))) f heads in
        absurd (omega (arith, inside, few, beyond, says.long)));
  }
