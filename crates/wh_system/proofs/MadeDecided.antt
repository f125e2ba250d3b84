-- What is not refuted holds, for all that makes a system well made.
use Rattle.std.proofs.Common.{◌≡◌, ℕ, ◌+◌, ◌≤◌, ◌⊎◌, inl, inr, Bool, true, false, List, [], ◌∷◌, refl, ap₂, ◌∙◌, subst, arith, eqb-true}
use Rattle.std.specs.Prelude.{◌==◌, get_or}
use Rattle.std.proofs.lemmas.Bool.{eqb-false}
use Rattle.std.proofs.lemmas.Grind.{not_there}
use Rattle.wh_types.specs.Ty.{Ty, sort, ◌⇒◌}
use Rattle.wh_terms.specs.Tree.{Tm, bound, free, fun, meta, lam, app, Tms, none, more, head, argument_count}
use Rattle.wh_terms.specs.Typing.{Symbols, Declared, Typed}
use Rattle.wh_terms.specs.Sight.{NoFree, AllNoFree, Occurs, OccursIn}
use Rattle.wh_terms.specs.Pattern.{AllBoundBelow, Misses, Distinct, IsPatternUnder, IsPatternSpine}
use Rattle.wh_terms.specs.Measures.{SpinesWithin, AllSpinesWithin, Fits}
use Rattle.wh_terms.specs.Rules.{RewriteRule, IsWellMade}
use Rattle.wh_terms.proofs.TypingLaws.{typed_one}
use Rattle.wh_text.specs.Chars.{AllPass}
use Rattle.wh_text.specs.Words.{Starts, IsName}
use Rattle.wh_system.specs.Systems.{SystemData}
use Rattle.wh_system.specs.declared.system.System.{System}
use Rattle.wh_system.specs.SystemView.{system_data}
use Rattle.wh_system.specs.Nesting.{TypesNestWithin, AllTypesNestWithin}
use Rattle.wh_system.specs.WellMade.{ArgumentsWithin, TypesWithin, AllTypesWithin, IsTypeOver, IsDeclarationOver, IsWellMadeSystem}
use Rattle.wh_system.proofs.TypedDecided.{Decided, below_decided, both_decided, decided_by, sorts_decided, same_type_decided, HasType, typed_decided}

-- it is not so that it does not hold
abbrev NotRefuted : Type 0 → Type 0
NotRefuted A = (A → ⊥) → ⊥

through : {A B : Type 0} → (A → B) → NotRefuted A → NotRefuted B
through f known refuted = known (λ a. refuted (f a))

-- what is decided and not refuted holds
holds : {A : Type 0} → Decided A → NotRefuted A → A
holds (inl a) known = a
holds (inr f) known = absurd (known f)

-- numbers

equal_decided : (m n : ℕ) → Decided (m ≡ n)
equal_decided m n = go (m == n) refl
  where
    go : (b : Bool) → (m == n) ≡ b → Decided (m ≡ n)
    go true e = inl (eqb-true m n e)
    go false e = inr (eqb-false m n e)

within_decided : (m n : ℕ) → Decided (m ≤ n)
within_decided m n = decided_by (λ l. omega arith) (λ l. omega arith) (below_decided m (n + 1))

numbers_decided : (ms ns : List ℕ) → Decided (ms ≡ ns)
numbers_decided [] [] = inl refl
numbers_decided [] (n ∷ ns) = inr (λ e. absurd (cc))
numbers_decided (m ∷ ms) [] = inr (λ e. absurd (cc))
numbers_decided (m ∷ ms) (n ∷ ns) = decided_by (λ p. ap₂ (λ x xs. x ∷ xs) p.0 p.1) (λ e. (cc, cc)) (both_decided (equal_decided m n) (numbers_decided ms ns))

-- names

true_decided : (b : Bool) → Decided (b ≡ true)
true_decided true = inl refl
true_decided false = inr (λ e. absurd (cc))

starts_decided : (bs : List ℕ) → Decided (Starts bs)
starts_decided [] = inr (λ p. p)
starts_decided (b ∷ bs) = true_decided _

pass_decided : (test : ℕ → Bool) (bs : List ℕ) → Decided (AllPass test bs)
pass_decided test [] = inl tt
pass_decided test (b ∷ bs) = both_decided (true_decided (test b)) (pass_decided test bs)

name_holds : (bs : List ℕ) → NotRefuted (IsName bs) → IsName bs
name_holds bs known = record {
  word = record {
    starts = holds (starts_decided bs) (through (λ n. n.word.starts) known);
    parts = holds (pass_decided _ bs) (through (λ n. n.word.parts) known);
    short = holds (within_decided _ 64) (through (λ n. n.word.short) known);
  };
  free = λ keyword. known (λ n. n.free keyword);
}

-- types

arguments_decided : (n : ℕ) (a : Ty) → Decided (ArgumentsWithin n a)
arguments_decided n (sort s) = inl tt
arguments_decided n (a ⇒ b) = go (within_decided _ n) (arguments_decided n a) (arguments_decided n b)
  where
    go : {A B C : Type 0} → Decided A → Decided B → Decided C → Decided (A × B × C)
    go (inl a) (inl b) (inl c) = inl (a, b, c)
    go (inl a) (inl b) (inr f) = inr (λ p. f p.2)
    go (inl a) (inr f) d = inr (λ p. f p.1)
    go (inr f) d e = inr (λ p. f p.0)

type_over_holds : (n : ℕ) (a : Ty) → NotRefuted (IsTypeOver n a) → IsTypeOver n a
type_over_holds n a known = record {
  sorts_are_there = holds (sorts_decided n a) (through (λ o. o.sorts_are_there) known);
  narrow = holds (arguments_decided 32 a) (through (λ o. o.narrow) known);
  shallow = holds (within_decided _ 16) (through (λ o. o.shallow) known);
}

declaration_over_holds : (n : ℕ) (d : Declared) → NotRefuted (IsDeclarationOver n d) → IsDeclarationOver n d
declaration_over_holds n d known = record {
  narrow = holds (within_decided _ 32) (through (λ o. o.narrow) known);
  args = λ k e within. type_over_holds n (get_or d.args k e) (through (λ o. o.args k e within) known);
  out = type_over_holds n d.out (through (λ o. o.out) known);
}

-- trees

mutual
  closed_decided : (t : Tm) → Decided (NoFree t)
  closed_decided (bound i) = inl tt
  closed_decided (free x a) = inr (λ p. p)
  closed_decided (fun f) = inl tt
  closed_decided (meta z ts) = all_closed_decided ts
  closed_decided (lam a t) = closed_decided t
  closed_decided (app t u) = both_decided (closed_decided t) (closed_decided u)

  all_closed_decided : (ts : Tms) → Decided (AllNoFree ts)
  all_closed_decided none = inl tt
  all_closed_decided (more t ts) = both_decided (closed_decided t) (all_closed_decided ts)

mutual
  spines_decided : (n : ℕ) (t : Tm) → Decided (SpinesWithin n t)
  spines_decided n (bound i) = inl tt
  spines_decided n (free x a) = inl tt
  spines_decided n (fun f) = inl tt
  spines_decided n (meta z ts) = all_spines_decided n ts
  spines_decided n (lam a t) = spines_decided n t
  spines_decided n (app t u) = go (within_decided (argument_count t + 1) n) (spines_decided n t) (spines_decided n u)
    where
      go : {A B C : Type 0} → Decided A → Decided B → Decided C → Decided (A × B × C)
      go (inl a) (inl b) (inl c) = inl (a, b, c)
      go (inl a) (inl b) (inr f) = inr (λ p. f p.2)
      go (inl a) (inr f) d = inr (λ p. f p.1)
      go (inr f) d e = inr (λ p. f p.0)

  all_spines_decided : (n : ℕ) (ts : Tms) → Decided (AllSpinesWithin n ts)
  all_spines_decided n none = inl tt
  all_spines_decided n (more t ts) = both_decided (spines_decided n t) (all_spines_decided n ts)

mutual
  types_decided : (n : ℕ) (t : Tm) → Decided (TypesWithin n t)
  types_decided n (bound i) = inl tt
  types_decided n (free x a) = arguments_decided n a
  types_decided n (fun f) = inl tt
  types_decided n (meta z ts) = all_types_decided n ts
  types_decided n (lam a t) = both_decided (arguments_decided n a) (types_decided n t)
  types_decided n (app t u) = both_decided (types_decided n t) (types_decided n u)

  all_types_decided : (n : ℕ) (ts : Tms) → Decided (AllTypesWithin n ts)
  all_types_decided n none = inl tt
  all_types_decided n (more t ts) = both_decided (types_decided n t) (all_types_decided n ts)

mutual
  nests_decided : (n : ℕ) (t : Tm) → Decided (TypesNestWithin n t)
  nests_decided n (bound i) = inl tt
  nests_decided n (free x a) = within_decided _ n
  nests_decided n (fun f) = inl tt
  nests_decided n (meta z ts) = all_nests_decided n ts
  nests_decided n (lam a t) = both_decided (within_decided _ n) (nests_decided n t)
  nests_decided n (app t u) = both_decided (nests_decided n t) (nests_decided n u)

  all_nests_decided : (n : ℕ) (ts : Tms) → Decided (AllTypesNestWithin n ts)
  all_nests_decided n none = inl tt
  all_nests_decided n (more t ts) = both_decided (nests_decided n t) (all_nests_decided n ts)

fits_holds : (t : Tm) → NotRefuted (Fits t) → Fits t
fits_holds t known = record {
  low = holds (within_decided _ 200) (through (λ f. f.low) known);
  narrow = holds (spines_decided 32 t) (through (λ f. f.narrow) known);
  small = holds (within_decided _ 65536) (through (λ f. f.small) known);
}

other_decided : (m n : ℕ) → Decided (m ≡ n → ⊥)
other_decided m n = go (equal_decided m n)
  where
    go : Decided (m ≡ n) → Decided (m ≡ n → ⊥)
    go (inl e) = inr (λ f. f e)
    go (inr f) = inl f

bound_below_decided : (k : ℕ) (ts : Tms) → Decided (AllBoundBelow k ts)
bound_below_decided k none = inl tt
bound_below_decided k (more (bound i) ts) = both_decided (below_decided i k) (bound_below_decided k ts)
bound_below_decided k (more (free x a) ts) = inr (λ p. p)
bound_below_decided k (more (fun f) ts) = inr (λ p. p)
bound_below_decided k (more (meta z us) ts) = inr (λ p. p)
bound_below_decided k (more (lam a t) ts) = inr (λ p. p)
bound_below_decided k (more (app t u) ts) = inr (λ p. p)

misses_decided : (i : ℕ) (ts : Tms) → Decided (Misses i ts)
misses_decided i none = inl tt
misses_decided i (more (bound j) ts) = both_decided (other_decided i j) (misses_decided i ts)
misses_decided i (more (free x a) ts) = misses_decided i ts
misses_decided i (more (fun f) ts) = misses_decided i ts
misses_decided i (more (meta z us) ts) = misses_decided i ts
misses_decided i (more (lam a t) ts) = misses_decided i ts
misses_decided i (more (app t u) ts) = misses_decided i ts

distinct_decided : (ts : Tms) → Decided (Distinct ts)
distinct_decided none = inl tt
distinct_decided (more (bound i) ts) = both_decided (misses_decided i ts) (distinct_decided ts)
distinct_decided (more (free x a) ts) = distinct_decided ts
distinct_decided (more (fun f) ts) = distinct_decided ts
distinct_decided (more (meta z us) ts) = distinct_decided ts
distinct_decided (more (lam a t) ts) = distinct_decided ts
distinct_decided (more (app t u) ts) = distinct_decided ts

mutual
  pattern_decided : (t : Tm) (k : ℕ) → Decided (IsPatternUnder k t)
  pattern_decided (meta z ts) k = both_decided (bound_below_decided k ts) (distinct_decided ts)
  pattern_decided (lam a t) k = pattern_decided t (k + 1)
  pattern_decided (bound i) k = below_decided i k
  pattern_decided (fun f) k = inl tt
  pattern_decided (app t u) k = both_decided (pattern_spine_decided t k) (pattern_decided u k)
  pattern_decided (free x a) k = inr (λ p. p)

  pattern_spine_decided : (t : Tm) (k : ℕ) → Decided (IsPatternSpine k t)
  pattern_spine_decided (bound i) k = below_decided i k
  pattern_spine_decided (fun f) k = inl tt
  pattern_spine_decided (app t u) k = both_decided (pattern_spine_decided t k) (pattern_decided u k)
  pattern_spine_decided (meta z ts) k = inr (λ p. p)
  pattern_spine_decided (lam a t) k = inr (λ p. p)
  pattern_spine_decided (free x a) k = inr (λ p. p)

either_decided : {A B : Type 0} → Decided A → Decided B → Decided (A ⊎ B)
either_decided (inl a) d = inl (inl a)
either_decided (inr f) (inl b) = inl (inr b)
either_decided {A} {B} (inr f) (inr g) = inr neither
  where
    neither : A ⊎ B → ⊥
    neither (inl a) = f a
    neither (inr b) = g b

mutual
  occurs_decided : (z : ℕ) (t : Tm) → Decided (Occurs z t)
  occurs_decided z (bound i) = inr (λ p. p)
  occurs_decided z (free x a) = inr (λ p. p)
  occurs_decided z (fun f) = inr (λ p. p)
  occurs_decided z (meta y ts) = either_decided (equal_decided y z) (occurs_in_decided z ts)
  occurs_decided z (lam a t) = occurs_decided z t
  occurs_decided z (app t u) = either_decided (occurs_decided z t) (occurs_decided z u)

  occurs_in_decided : (z : ℕ) (ts : Tms) → Decided (OccursIn z ts)
  occurs_in_decided z none = inr (λ p. p)
  occurs_in_decided z (more t ts) = either_decided (occurs_decided z t) (occurs_in_decided z ts)

-- rules

abbrev Headed : Tm → Type 0
Headed t = (f : ℕ) × (t ≡ fun f)

headed_decided : (t : Tm) → Decided (Headed t)
headed_decided (bound i) = inr (λ p. let e = p.1 in absurd (cc))
headed_decided (free x a) = inr (λ p. let e = p.1 in absurd (cc))
headed_decided (fun f) = inl (f, refl)
headed_decided (meta z ts) = inr (λ p. let e = p.1 in absurd (cc))
headed_decided (lam a t) = inr (λ p. let e = p.1 in absurd (cc))
headed_decided (app t u) = inr (λ p. let e = p.1 in absurd (cc))

-- the two trees have one type
abbrev OfOneType : Symbols → List Declared → Tm → Tm → Type 0
OfOneType S M t u = (a : Ty) × Typed S M [] t a × Typed S M [] u a

one_type_decided : (S : Symbols) (M : List Declared) (t u : Tm) → Decided (HasType S M [] t) → Decided (HasType S M [] u) → Decided (OfOneType S M t u)
one_type_decided S M t u (inr f) d = inr (λ p. f (p.0, p.1))
one_type_decided S M t u (inl p) (inr g) = inr (λ q. g (q.0, q.2))
one_type_decided S M t u (inl (a, p)) (inl (b, q)) = go (same_type_decided b a)
  where
    go : Decided (b ≡ a) → Decided (OfOneType S M t u)
    go (inl e) = inl (a, p, subst (Typed S M [] u) e q)
    go (inr f) = inr (λ r. f (typed_one q r.2 ∙ typed_one r.1 p))

rule_holds : (S : Symbols) (r : RewriteRule) → NotRefuted (IsWellMade S r) → IsWellMade S r
rule_holds S r known = record {
  typed = holds (one_type_decided S r.metas r.left r.right (typed_decided S r.metas r.left []) (typed_decided S r.metas r.right [])) (through (λ m. m.typed) known);
  left_fits = fits_holds r.left (through (λ m. m.left_fits) known);
  right_fits = fits_holds r.right (through (λ m. m.right_fits) known);
  left_closed = holds (closed_decided r.left) (through (λ m. m.left_closed) known);
  right_closed = holds (closed_decided r.right) (through (λ m. m.right_closed) known);
  pattern_left = holds (pattern_decided r.left 0) (through (λ m. m.pattern_left) known);
  headed = holds (headed_decided (head r.left)) (through (λ m. m.headed) known);
  known = λ z o. holds (occurs_decided z r.left) (through (λ m. m.known z o) known);
}

-- the whole system

pub made_holds : (s : SystemData) → NotRefuted (IsWellMadeSystem s) → IsWellMadeSystem s
made_holds s known = record {
  rules = record {
    each = λ r there. rule_holds s.symbols r (through (λ m. m.rules.each r there) known);
    even = λ r u there here same. holds (equal_decided _ _) (through (λ m. m.rules.even r u there here same) known);
  };
  sorts_within = holds (within_decided _ 256) (through (λ m. m.sorts_within) known);
  symbols_within = holds (within_decided _ 1024) (through (λ m. m.symbols_within) known);
  rules_within = holds (within_decided _ 1024) (through (λ m. m.rules_within) known);
  metas_within = λ k e within. holds (within_decided _ 32) (through (λ m. m.metas_within k e within) known);
  symbol_types = λ k e within. type_over_holds s.symbols.sorts (get_or s.symbols.funs k e) (through (λ m. m.symbol_types k e within) known);
  meta_types = λ k e within j f inside. declaration_over_holds s.symbols.sorts (get_or (get_or s.rules k e).metas j f) (through (λ m. m.meta_types k e within j f inside) known);
  side_types = λ k e within. holds (both_decided (types_decided 32 (get_or s.rules k e).left) (types_decided 32 (get_or s.rules k e).right)) (through (λ m. m.side_types k e within) known);
  side_types_shallow = λ k e within. holds (both_decided (nests_decided 16 (get_or s.rules k e).left) (nests_decided 16 (get_or s.rules k e).right)) (through (λ m. m.side_types_shallow k e within) known);
  sorts_named = holds (equal_decided _ _) (through (λ m. m.sorts_named) known);
  symbols_named = holds (equal_decided _ _) (through (λ m. m.symbols_named) known);
  metas_named = holds (numbers_decided _ _) (through (λ m. m.metas_named) known);
  sort_names_spelled = λ k e within. name_holds (get_or s.sort_names k e) (through (λ m. m.sort_names_spelled k e within) known);
  fun_names_spelled = λ k e within. name_holds (get_or s.fun_names k e) (through (λ m. m.fun_names_spelled k e within) known);
  meta_names_spelled = λ k e within j f inside. name_holds (get_or (get_or s.meta_names k e) j f) (through (λ m. m.meta_names_spelled k e within j f inside) known);
  sort_names_distinct = λ i j d l m same. known (λ made. made.sort_names_distinct i j d l m same);
  fun_names_distinct = λ i j d l m same. known (λ made. made.fun_names_distinct i j d l m same);
  meta_names_distinct = λ k e within i j d l m same. known (λ made. made.meta_names_distinct k e within i j d l m same);
  metas_no_symbols = λ k e within i d l j f m same. known (λ made. made.metas_no_symbols k e within i d l j f m same);
}

-- a system that is well made, though no one says how, is well made
pub merely_made : (s : SystemData) → ∥ IsWellMadeSystem s ∥₁ → IsWellMadeSystem s
merely_made s made = made_holds s (not_there made)

-- every system is well made
pub system_is_well_made : (s : System) → IsWellMadeSystem (system_data s)
system_is_well_made s = merely_made (system_data s) s.made
