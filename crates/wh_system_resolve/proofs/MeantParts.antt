-- What a raw term stands for tells what its parts stand for.
use Rattle.std.proofs.Common.{◌≡◌, ℕ, ◌+◌, ◌<◌, List, [], ◌∷◌, ◌++◌, Option, Some, option_map, length, drop, get_or, Box, Global, refl, ap, sym, ◌∙◌, arith}
use Rattle.std.proofs.lemmas.List.{drop_more}
use Rattle.wh_types.specs.Ty.{Ty}
use Rattle.wh_types.specs.declared.simple_type.SimpleType.{SimpleType}
use Rattle.wh_terms.specs.Tree.{Tm, bound, fun, meta, lam, app, none as no_tms, more as more_tms}
use Rattle.wh_terms.specs.Erase.{tm, tms}
use Rattle.wh_terms.specs.declared.term.Term.{Term, Lam, App}
use Rattle.wh_terms.proofs.OtherTrees.{no_lam, no_app}
use Rattle.wh_text.specs.RawTree.{RTy, Binder, RTm, lam as raw_lam, spine, RTms, none, more}
use Rattle.wh_text.specs.Erase.{rtm, rtms}
use Rattle.wh_text.specs.declared.raw.RawTerm.{RawTerm}
use Rattle.wh_system_parts.specs.Naming.{type_meant, Scope, or_else, both, meant, applied_meant}
use Rattle.wh_system_parts.proofs.RawTerms.{weight, weights}
use Rattle.wh_system_parts.proofs.OptionParts.{both_parts}

-- what a plain name stands for, by what it is among binders, meta-variables and symbols
abbrev pub name_by : Option ℕ → Option ℕ → Option ℕ → Option Tm
name_by x y z = or_else (option_map bound x) (or_else (option_map (λ y. meta y no_tms) y) (option_map fun z))

-- what is left of a list of terms at a place
pub tms_next : (xs : List Term) (i : ℕ) (t : Term) → i < length xs → t ≡ get_or xs i t → tms (drop i xs) ≡ more_tms (tm t) (tms (drop (i + 1) xs))
tms_next xs i t within e = ap tms (drop_more xs i t within) ∙ ap (λ u. more_tms (tm u) (tms (drop (i + 1) xs))) (sym e)

-- the body of an abstraction
body-same : (a b : Ty) (t u : Tm) → lam a t ≡ lam b u → t ≡ u
body-same a b t u e = cc

pub body_meant : (s : Scope) (bs : List Binder) (x : Binder) (a : RTy) (r : RTm) (at : ℕ) (k : Ty) (t : Tm) → meant s bs (raw_lam x a r at) ≡ Some (lam k t) → meant s (x ∷ bs) r ≡ Some t
body_meant s bs x a r at k t e =
    let parts = both_parts lam (type_meant s.sorts a) (meant s (x ∷ bs) r) (lam k t) e in
    parts.3 ∙ ap Some (body-same parts.0 k parts.1 t parts.4)

-- a list with one more raw term at its end
abbrev pub put_last : RTms → RTm → RTms
put_last none t = more t none
put_last (more u ts) t = more u (put_last ts t)

rtms-append : (front : List RawTerm) (last : RawTerm) → rtms (front ++ last ∷ []) ≡ put_last (rtms front) (rtm last)
rtms-append [] last = refl
rtms-append (x ∷ front) last = ap (λ ts. more (rtm x) ts) (rtms-append front last)

pub rtms_last : (xs front : List RawTerm) (last : RawTerm) → xs ≡ front ++ last ∷ [] → rtms xs ≡ put_last (rtms front) (rtm last)
rtms_last xs front last e = ap rtms e ∙ rtms-append front last

weights-last : (ts : RTms) (t : RTm) → weights (put_last ts t) ≡ 1 + (weight t + weights ts)
weights-last none t = omega arith
weights-last (more u ts) t = omega (arith, weights-last ts t)

pub weights_last : (xs front : List RawTerm) (last : RawTerm) → xs ≡ front ++ last ∷ [] → weights (rtms xs) ≡ 1 + (weight (rtm last) + weights (rtms front))
weights_last xs front last e = ap weights (rtms_last xs front last e) ∙ weights-last (rtms front) (rtm last)

pub weights_first : (xs further : List RawTerm) (first : RawTerm) → xs ≡ first ∷ further → weights (rtms xs) ≡ 1 + (weight (rtm first) + weights (rtms further))
weights_first xs further first e = ap (λ ys. weights (rtms ys)) e

-- what is applied to the last argument
applied-last : (s : Scope) (bs : List Binder) (o : Option Tm) (ts : RTms) (t : RTm) → applied_meant s bs o (put_last ts t) ≡ both app (applied_meant s bs o ts) (meant s bs t)
applied-last s bs o none t = refl
applied-last s bs o (more u ts) t = applied-last s bs (both app o (meant s bs u)) ts t

last_parts : (s : Scope) (bs : List Binder) (h : RTm) (ts : RTms) (t : RTm) (at : ℕ) (v : Tm) → meant s bs (spine h (put_last ts t) at) ≡ Some v
    → (f : Tm) × (a : Tm) × (meant s bs (spine h ts at) ≡ Some f) × (meant s bs t ≡ Some a) × (app f a ≡ v)
last_parts s bs h ts t at v e =
    both_parts app (applied_meant s bs (meant s bs h) ts) (meant s bs t) v (sym (applied-last s bs (meant s bs h) ts t) ∙ e)

function-same : (f g a b : Tm) → app f a ≡ app g b → f ≡ g
function-same f g a b e = cc

argument-same : (f g a b : Tm) → app f a ≡ app g b → a ≡ b
argument-same f g a b e = cc

pub last_meant : (s : Scope) (bs : List Binder) (h : RTm) (ts : RTms) (t : RTm) (at : ℕ) (f a : Tm) → meant s bs (spine h (put_last ts t) at) ≡ Some (app f a)
    → (meant s bs (spine h ts at) ≡ Some f) × (meant s bs t ≡ Some a)
last_meant s bs h ts t at f a e =
    let parts = last_parts s bs h ts t at (app f a) e in
    (parts.2 ∙ ap Some (function-same parts.0 f parts.1 a parts.4), parts.3 ∙ ap Some (argument-same parts.0 f parts.1 a parts.4))

-- what is no abstraction or application, none of these stands for

pub no_lam_meant : (s : Scope) (bs : List Binder) (u : Term) → ((k : SimpleType) (b : Box Term Global) → u ≡ Lam k b → ⊥) → (x : Binder) (a : RTy) (r : RTm) (at : ℕ)
    → meant s bs (raw_lam x a r at) ≡ Some (tm u) → ⊥
no_lam_meant s bs u other x a r at m =
    let parts = both_parts lam (type_meant s.sorts a) (meant s (x ∷ bs) r) (tm u) m in
    no_lam u other parts.0 parts.1 (sym parts.4)

pub no_app_meant : (s : Scope) (bs : List Binder) (u : Term) → ((b c : Box Term Global) → u ≡ App b c → ⊥) → (h : RTm) (ts : RTms) (t : RTm) (at : ℕ)
    → meant s bs (spine h (put_last ts t) at) ≡ Some (tm u) → ⊥
no_app_meant s bs u other h ts t at m =
    let parts = last_parts s bs h ts t at (tm u) m in
    no_app u other parts.0 parts.1 (sym parts.4)
