-- More sorts do no harm: what is typed stays typed, and there are enough sorts for the types of all symbols.
use Rattle.std.proofs.Common.{◌≡◌, ℕ, zero, suc, ◌+◌, ◌≤◌, List, [], ◌∷◌, Some, slice_get, subst, arith}
use Rattle.wh_types.specs.Ty.{Ty, sort, ◌⇒◌, SortsBelow}
use Rattle.wh_terms.specs.Tree.{Tm, Tms}
use Rattle.wh_terms.specs.Typing.{Symbols, Declared, Typed, typed_bound, typed_free, typed_fun, typed_meta, typed_lam, typed_app, AllTyped, typed_none, typed_more}
use Rattle.wh_terms.specs.Rules.{RewriteRule, IsWellMade, AreWellMade}
use Rattle.wh_terms.proofs.TypingLaws.{some_one}
use Rattle.wh_step_laws.specs.RootRelations.{KnowsSorts}

pub sorts-more : (m n : ℕ) (a : Ty) → m ≤ n → SortsBelow m a → SortsBelow n a
sorts-more m n (sort s) h b = omega arith
sorts-more m n (a ⇒ b) h s = (sorts-more m n a h s.0, sorts-more m n b h s.1)

-- the symbols of S over n sorts
abbrev pub over_sorts : ℕ → Symbols → Symbols
over_sorts n S = record { sorts = n; funs = S.funs }

mutual
  pub typed-wider : {S : Symbols} {M : List Declared} {Γ : List Ty} {t : Tm} {a : Ty} (n : ℕ) → S.sorts ≤ n → Typed S M Γ t a → Typed (over_sorts n S) M Γ t a
  typed-wider n h (typed_bound e) = typed_bound e
  typed-wider {S = S} n h (typed_free {a = a} s) = typed_free (sorts-more S.sorts n a h s)
  typed-wider n h (typed_fun e) = typed_fun e
  typed-wider n h (typed_meta e ts o) = typed_meta e (all_typed-wider n h ts) o
  typed-wider {S = S} n h (typed_lam {a = a} s p) = typed_lam (sorts-more S.sorts n a h s) (typed-wider n h p)
  typed-wider n h (typed_app p q) = typed_app (typed-wider n h p) (typed-wider n h q)

  pub all_typed-wider : {S : Symbols} {M : List Declared} {Γ : List Ty} {ts : Tms} {cs : List Ty} (n : ℕ) → S.sorts ≤ n → AllTyped S M Γ ts cs → AllTyped (over_sorts n S) M Γ ts cs
  all_typed-wider n h typed_none = typed_none
  all_typed-wider n h (typed_more p ps) = typed_more (typed-wider n h p) (all_typed-wider n h ps)

-- rules stay well made
pub well_made-wider : (S : Symbols) (rules : List RewriteRule) (n : ℕ) → S.sorts ≤ n → AreWellMade S rules → AreWellMade (over_sorts n S) rules
well_made-wider S rules n h w = record {
  each = λ r c. wider r (w.each r c);
  even = w.even;
}
  where
    wider : (r : RewriteRule) → IsWellMade S r → IsWellMade (over_sorts n S) r
    wider r m = record {
      typed = (m.typed.0, typed-wider n h m.typed.1, typed-wider n h m.typed.2);
      left_fits = m.left_fits;
      right_fits = m.right_fits;
      left_closed = m.left_closed;
      right_closed = m.right_closed;
      pattern_left = m.pattern_left;
      headed = m.headed;
      known = m.known;
    }

sorts_above : (a : Ty) → (n : ℕ) × SortsBelow n a
sorts_above (sort s) = (suc s, omega arith)
sorts_above (a ⇒ b) =
    let (m, h) = sorts_above a in
    let (n, k) = sorts_above b in
    (m + n, (sorts-more m (m + n) a (omega arith) h, sorts-more n (m + n) b (omega arith) k))

-- a number above the sorts in the types
sorts_above_all : (l : List Ty) → (n : ℕ) × ((i : ℕ) (a : Ty) → slice_get l i ≡ Some a → SortsBelow n a)
sorts_above_all [] = (0, λ i a e. absurd (cc))
sorts_above_all (b ∷ l) = both (sorts_above b) (sorts_above_all l)
  where
    both : (n : ℕ) × SortsBelow n b → (n : ℕ) × ((i : ℕ) (a : Ty) → slice_get l i ≡ Some a → SortsBelow n a) → (n : ℕ) × ((i : ℕ) (a : Ty) → slice_get (b ∷ l) i ≡ Some a → SortsBelow n a)
    both (m, h) (n, k) = (m + n, each)
      where
        each : (i : ℕ) (a : Ty) → slice_get (b ∷ l) i ≡ Some a → SortsBelow (m + n) a
        each zero a e = subst (SortsBelow (m + n)) (some_one e) (sorts-more m (m + n) b (omega arith) h)
        each (suc i) a e = sorts-more n (m + n) a (omega arith) (k i a e)

-- enough sorts for the types of all symbols, and no fewer than before
pub known_sorts : (S : Symbols) → (n : ℕ) × (S.sorts ≤ n) × KnowsSorts (over_sorts n S)
known_sorts S =
    let (m, h) = sorts_above_all S.funs in
    (S.sorts + m, omega arith, λ f a e. sorts-more m (S.sorts + m) a (omega arith) (h f a e))
