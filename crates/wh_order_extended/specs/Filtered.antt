-- Filtered trees: symbols keep some of their arguments, or give way to one of them; all sorts are read as one. A
-- function from numbers gives the filter of each symbol, that of a marked symbol at its number behind all symbols.
use Rattle.std.specs.Prelude.{ℕ, suc, ◌≡◌, ◌<◌, List, [], ◌∷◌, length, map, get_or, Some, slice_get}
use Rattle.wh_types.specs.Ty.{Ty, sort, ◌⇒◌, arguments, result_sort}
use Rattle.wh_terms.specs.Tree.{Tm, bound, free, fun, meta, lam, app, Tms, none, more, spine}
use Rattle.wh_terms.specs.Typing.{Symbols, Declared}
use Rattle.wh_order_inference.specs.Filters.{Filter, keep, pick}
use Rattle.wh_order_extended.specs.Kinds.{type_at, arrows}
use Rattle.wh_order_extended.specs.ExtendedSides.{marked_number}

-- the type with each sort read as one and the same (ours)
abbrev pub collapse : Ty → Ty
collapse (sort s) = sort 0
collapse (a ⇒ b) = collapse a ⇒ collapse b

-- the trees at the places, in their order (Arts and Giesl 2000)
abbrev pub chosen : List ℕ → List Tm → List Tm
chosen [] qs = []
chosen (i ∷ is) qs = get_or qs i (fun 0) ∷ chosen is qs

-- the symbol f with arguments behind its filter: with those it keeps, or the one that it gives way to (Arts and Giesl
-- 2000)
abbrev pub filtered : Filter → ℕ → List Tm → Tm
filtered (keep p is) f qs = spine (fun f) (chosen is qs)
filtered (pick i) f qs = get_or qs i (fun 0)

-- the filtered tree of t, applied to the trees qs that stand filtered behind it (Kop 2012)
unfoldable mutual
  pub sift : (ℕ → Filter) → Tm → List Tm → Tm
  sift Φ (bound i) qs = spine (bound i) qs
  sift Φ (free x a) qs = spine (free x (collapse a)) qs
  sift Φ (fun f) qs = filtered (Φ f) f qs
  sift Φ (meta z ts) qs = spine (meta z (sifts Φ ts)) qs
  sift Φ (lam a t) qs = spine (lam (collapse a) (sift Φ t [])) qs
  sift Φ (app t u) qs = sift Φ t (sift Φ u [] ∷ qs)

  pub sifts : (ℕ → Filter) → Tms → Tms
  sifts Φ none = none
  sifts Φ (more t ts) = more (sift Φ t []) (sifts Φ ts)

-- each symbol in the tree has all its arguments, where n more stand behind the tree: the filter finds what it keeps
-- (ours)
abbrev mutual
  pub FullWith : (ℕ → ℕ) → ℕ → Tm → Type 0
  FullWith arity n (fun f) = n ≡ arity f
  FullWith arity n (app t u) = FullWith arity (suc n) t × FullWith arity 0 u
  FullWith arity n (lam a t) = FullWith arity 0 t
  FullWith arity n (meta z ts) = AllFull arity ts
  FullWith arity n _ = Unit {0}

  pub AllFull : (ℕ → ℕ) → Tms → Type 0
  AllFull arity none = Unit {0}
  AllFull arity (more t ts) = FullWith arity 0 t × AllFull arity ts

-- how many arguments the symbol takes (ours)
abbrev pub symbol_arity : Symbols → ℕ → ℕ
symbol_arity S f = length (arguments (type_at S.funs f))

-- each symbol of S in the tree has all its arguments, where n more stand behind the tree (ours)
abbrev pub Full : Symbols → ℕ → Tm → Type 0
Full S n t = FullWith (symbol_arity S) n t

-- the places are below n and strictly increasing, the first one at least `from`
abbrev pub IncreasingFrom : (from n : ℕ) → List ℕ → Type 0
IncreasingFrom from n [] = Unit {0}
IncreasingFrom from n (i ∷ is) = (from < suc i) × (i < n) × IncreasingFrom (suc i) n is

-- a filter is proper for a symbol with arguments of these types if the places that it keeps are strictly increasing
-- places of the symbol, or the place that it picks has a sort as its type (Kop 2012)
abbrev pub IsProper : List Ty → Filter → Type 0
IsProper cs (keep p is) = IncreasingFrom 0 (length cs) is
IsProper cs (pick i) = (s : ℕ) × (slice_get cs i ≡ Some (sort s))

-- the type of a symbol behind its filter, where its arguments have these types (ours)
abbrev pub kept_type : List Ty → Filter → Ty
kept_type cs (keep p is) = arrows (map (λ i. collapse (type_at cs i)) is) (sort 0)
kept_type cs (pick i) = sort 0

-- the types of symbols behind their filters, where the arguments have the types in the lists and numbers go from n on
-- (ours)
abbrev pub kept_types : (ℕ → Filter) → ℕ → List (List Ty) → List Ty
kept_types Φ n [] = []
kept_types Φ n (cs ∷ css) = kept_type cs (Φ n) ∷ kept_types Φ (suc n) css

-- the signature of filtered trees, which has one sort: for each list of argument types a symbol (ours)
abbrev pub filtered_symbols : (ℕ → Filter) → List (List Ty) → Symbols
filtered_symbols Φ css = record { sorts = 1; funs = kept_types Φ 0 css }

-- the result of each symbol's type is the sort 0 (ours)
abbrev pub HasOneSort : Symbols → Type 0
HasOneSort F = (f : ℕ) (a : Ty) → slice_get F.funs f ≡ Some a → result_sort a ≡ 0

-- F is a signature for the filtered trees over S: the filter of each symbol is proper, F has the symbol with the type
-- that the filter keeps, and it has the sort 0 (ours)
pub record Filters (S F : Symbols) (Φ : ℕ → Filter) : Type 0 where
  pub some_sort : 0 < F.sorts
  pub proper : (f : ℕ) (a : Ty) → slice_get S.funs f ≡ Some a → IsProper (arguments a) (Φ f)
  pub kept : (f : ℕ) (a : Ty) → slice_get S.funs f ≡ Some a → slice_get F.funs f ≡ Some (kept_type (arguments a) (Φ f))

-- what FitsSymbol says, for the marked symbol of f, whose arguments have these types (ours)
pub record FitsMark (S F : Symbols) (Φ : ℕ → Filter) (f : ℕ) (cs : List Ty) : Type 0 where
  pub proper : IsProper cs (Φ (marked_number S f))
  pub kept : slice_get F.funs (marked_number S f) ≡ Some (kept_type cs (Φ (marked_number S f)))

-- the meta-variables of filtered trees (ours)
abbrev pub collapsed : List Declared → List Declared
collapsed M = map (λ d. record { args = map collapse d.args; out = collapse d.out }) M

-- the precedence that a filter gives its symbol, and 0 where the symbol gives way to an argument (Kop 2012)
abbrev pub precedence : Filter → ℕ
precedence (keep p is) = p
precedence (pick i) = 0

-- the precedences of symbols behind their filters (ours)
abbrev pub precedences : (ℕ → Filter) → ℕ → ℕ
precedences Φ f = precedence (Φ f)
