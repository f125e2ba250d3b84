-- What is known of the symbols of a well-made system.
use Rattle.std.proofs.Common.{◌≡◌, ℕ, zero, suc, ◌+◌, ◌<◌, ◌≤◌, List, [], ◌∷◌, length, get_or, Bool, true, false, Option, Some, None, ◌⊎◌, ⊎_elim, inl, inr, refl, ap, sym, subst, ◌∙◌, arith, eqb-true}
use Rattle.std.specs.Prelude.{Contains, slice_get}
use Rattle.std.proofs.lemmas.List.Elements.{Contains-append_cases}
use Rattle.wh_types.specs.Ty.{Ty, sort, ◌⇒◌, arguments}
use Rattle.wh_terms.specs.Tree.{Tm, bound, free, fun, meta, lam, app, Tms, none, more, head, argument_count}
use Rattle.wh_terms.specs.Typing.{Symbols, Declared, Typed, typed_bound, typed_free, typed_fun, typed_meta, typed_lam, typed_app, AllTyped, typed_none, typed_more}
use Rattle.wh_terms.specs.Rules.{RewriteRule}
use Rattle.wh_system.specs.Needs.{need_of, first_need, is_symbol}
use Rattle.wh_system.specs.Systems.{SystemData}
use Rattle.wh_system.specs.WellMade.{IsWellMadeSystem}
use Rattle.wh_pairs.specs.PairData.{Within}
use Rattle.wh_pairs.specs.Calls.{Call, calls, calls_within, call_where_defined, calls_of}
use Rattle.wh_pairs.specs.Known.{SymbolsBelow, AllSymbolsBelow, TakesArguments}
use Rattle.wh_pairs.proofs.MemberLemmas.{none_there, at_head, behind, head_or_behind}

slice-below : {A : Type 0} (xs : List A) (i : ℕ) (x : A) → slice_get xs i ≡ Some x → i < length xs
slice-below [] i x e = absurd (cc)
slice-below (y ∷ xs) zero x e = omega arith
slice-below (y ∷ xs) (suc i) x e = omega (arith, slice-below xs i x e)

slice-get_or : {A : Type 0} (xs : List A) (i : ℕ) (x d : A) → slice_get xs i ≡ Some x → get_or xs i d ≡ x
slice-get_or [] i x d e = absurd (cc)
slice-get_or (y ∷ xs) zero x d e = cc
slice-get_or (y ∷ xs) (suc i) x d e = slice-get_or xs i x d e

mutual
  -- the symbols of a typed tree are declared
  pub typed_symbols : (S : Symbols) (M : List Declared) (Γ : List Ty) (t : Tm) (a : Ty) → Typed S M Γ t a → SymbolsBelow (length S.funs) t
  typed_symbols S M Γ t a (typed_bound e) = tt
  typed_symbols S M Γ t a (typed_free b) = tt
  typed_symbols S M Γ t a (typed_fun {f = f} {a = b} e) = slice-below S.funs f b e
  typed_symbols S M Γ t a (typed_meta {ts = ts} {d = d} e us o) = all_typed_symbols S M Γ ts d.args us
  typed_symbols S M Γ t c (typed_lam {a = a} {b = b} {t = body} s p) = typed_symbols S M (a ∷ Γ) body b p
  typed_symbols S M Γ t c (typed_app {a = a} {b = b} {t = f} {u = u} p q) = (typed_symbols S M Γ f (a ⇒ b) p, typed_symbols S M Γ u a q)

  all_typed_symbols : (S : Symbols) (M : List Declared) (Γ : List Ty) (ts : Tms) (bs : List Ty) → AllTyped S M Γ ts bs → AllSymbolsBelow (length S.funs) ts
  all_typed_symbols S M Γ ts bs typed_none = tt
  all_typed_symbols S M Γ ts bs (typed_more {t = t} {ts = us} {a = a} {bs = cs} p ps) = (typed_symbols S M Γ t a p, all_typed_symbols S M Γ us cs ps)

-- a spine has no more arguments than its head's type
pub spine-arguments : (S : Symbols) (M : List Declared) (Γ : List Ty) (t : Tm) (c : Ty) → Typed S M Γ t c
    → (a : Ty) × Typed S M Γ (head t) a × (argument_count t + length (arguments c) ≤ length (arguments a))
spine-arguments S M Γ t c (typed_bound {i = i} e) = (c, typed_bound e, omega arith)
spine-arguments S M Γ t c (typed_free b) = (c, typed_free b, omega arith)
spine-arguments S M Γ t c (typed_fun e) = (c, typed_fun e, omega arith)
spine-arguments S M Γ t c (typed_meta e us o) = (c, typed_meta e us o, omega arith)
spine-arguments S M Γ t c (typed_lam {a = a} {b = b} s p) = (a ⇒ b, typed_lam s p, omega arith)
spine-arguments S M Γ t c (typed_app {a = a} {b = b} {t = f} {u = u} p q) = let r = spine-arguments S M Γ f (a ⇒ b) p in (r.0, r.1, omega (arith, r.2))

fun-type : (S : Symbols) (M : List Declared) (Γ : List Ty) (f : ℕ) (a : Ty) → Typed S M Γ (fun f) a → slice_get S.funs f ≡ Some a
fun-type S M Γ f a (typed_fun e) = e

is-symbol : (f : ℕ) (t : Tm) → is_symbol f t ≡ true → t ≡ fun f
is-symbol f (fun g) e = ap fun (sym (eqb-true f g e))
is-symbol f (bound i) e = absurd (cc)
is-symbol f (free x a) e = absurd (cc)
is-symbol f (meta z ts) e = absurd (cc)
is-symbol f (lam a t) e = absurd (cc)
is-symbol f (app t u) e = absurd (cc)

-- what a symbol needs is the number of arguments of one of its rules
pub needed : (rules : List RewriteRule) (f e : ℕ) → need_of rules f ≡ Some e → (r : RewriteRule) × Contains rules r × (head r.left ≡ fun f) × (argument_count r.left ≡ e)
needed [] f e is = absurd (cc)
needed (r ∷ rules) f e is = go (is_symbol f (head r.left)) refl is (λ h. needed rules f e h)
  where
    go : (b : Bool) → is_symbol f (head r.left) ≡ b → first_need b (argument_count r.left) (need_of rules f) ≡ Some e
        → (need_of rules f ≡ Some e → (s : RewriteRule) × Contains rules s × (head s.left ≡ fun f) × (argument_count s.left ≡ e))
        → (s : RewriteRule) × Contains (r ∷ rules) s × (head s.left ≡ fun f) × (argument_count s.left ≡ e)
    go true same first later = (r, at_head rules r, is-symbol f (head r.left) same, cc)
    go false same first later = let s = later first in (s.0, behind rules r s.0 s.1, s.2, s.3)

-- a defined symbol takes as many arguments as its rules have
pub takes_arguments : (s : SystemData) → IsWellMadeSystem s → (f e : ℕ) → need_of s.rules f ≡ Some e → TakesArguments s.symbols f e
takes_arguments s made f e is =
    let S = s.symbols in
    let r = needed s.rules f e is in
    let M = (r.0).metas in
    let typed = (made.rules.each r.0 r.1).typed in
    let spine = spine-arguments S M [] (r.0).left typed.0 typed.1 in
    let there : slice_get S.funs f ≡ Some spine.0 = fun-type S M [] f spine.0 (subst (λ t. Typed S M [] t spine.0) r.2 spine.1) in
    let here : get_or S.funs f (sort 0) ≡ spine.0 = slice-get_or S.funs f spine.0 (sort 0) there in
    record { known = slice-below S.funs f spine.0 there; enough = omega (arith, ap (λ a. length (arguments a)) here, spine.2, r.3) }

-- the symbols of a right side have names
pub right_symbols : (s : SystemData) → IsWellMadeSystem s → (r : RewriteRule) → Contains s.rules r → SymbolsBelow (length s.fun_names) r.right
right_symbols s made r at =
    let typed = (made.rules.each r at).typed in
    subst (λ n. SymbolsBelow n r.right) (sym made.symbols_named) (typed_symbols s.symbols r.metas [] r.right typed.0 typed.2)

-- each call is of a defined symbol

mutual
  call-defined : (rules : List RewriteRule) (cs : List Within) (Γ : List Ty) (t : Tm) (qs : List Tm) (c : Call) → Contains (calls rules cs Γ t qs) c → need_of rules c.symbol ≡ Some c.need
  call-defined rules cs Γ (bound i) qs c at = absurd (none_there c at)
  call-defined rules cs Γ (free x a) qs c at = absurd (none_there c at)
  call-defined rules cs Γ (fun f) qs c at = go (need_of rules f) refl at
    where
      go : (o : Option ℕ) → need_of rules f ≡ o → Contains (call_where_defined o cs Γ f qs) c → need_of rules c.symbol ≡ Some c.need
      go None e at = absurd (none_there c at)
      go (Some n) e at = here n e (head_or_behind [] _ c at)
        where
          here : (n : ℕ) → need_of rules f ≡ Some n → (record { conditions = cs; binders = Γ; symbol = f; need = n; arguments = qs } ≡ c) ⊎ Contains [] c → need_of rules c.symbol ≡ Some c.need
          here n e (inl is) = ap (λ d. need_of rules d.symbol) (sym is) ∙ e ∙ ap (λ d. Some d.need) is
          here n e (inr at) = absurd (none_there c at)
  call-defined rules cs Γ (meta z ts) qs c at = call-defined_within rules cs Γ z 1 ts c at
  call-defined rules cs Γ (lam a t) qs c at = call-defined rules cs (a ∷ Γ) t [] c at
  call-defined rules cs Γ (app t u) qs c at =
      ⊎_elim (λ h. call-defined rules cs Γ t (u ∷ qs) c h) (λ h. call-defined rules cs Γ u [] c h) (Contains-append_cases (calls rules cs Γ t (u ∷ qs)) (calls rules cs Γ u []) c at)

  call-defined_within : (rules : List RewriteRule) (cs : List Within) (Γ : List Ty) (z i : ℕ) (ts : Tms) (c : Call) → Contains (calls_within rules cs Γ z i ts) c → need_of rules c.symbol ≡ Some c.need
  call-defined_within rules cs Γ z i none c at = absurd (none_there c at)
  call-defined_within rules cs Γ z i (more t ts) c at =
      ⊎_elim (λ h. call-defined rules _ Γ t [] c h) (λ h. call-defined_within rules cs Γ z (i + 1) ts c h) (Contains-append_cases _ (calls_within rules cs Γ z (i + 1) ts) c at)

pub defined_call : (rules : List RewriteRule) (r : RewriteRule) (c : Call) → Contains (calls_of rules r) c → need_of rules c.symbol ≡ Some c.need
defined_call rules r c at = call-defined rules [] [] r.right [] c at
