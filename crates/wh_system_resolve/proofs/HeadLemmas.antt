-- The head of a left side, and how many arguments it has.
use Rattle.std.proofs.Common.{◌≡◌, ℕ, ◌+◌, ◌≤◌, List, [], ◌∷◌, Option, Some, None, length, refl, ap, ◌∙◌, arith}
use Rattle.wh_terms.specs.Tree.{Tm, free, meta as meta_tree, lam as lam_tree, app}
use Rattle.wh_text.specs.RawTree.{Binder, RTm, named, numbered, free_variable, meta, lam, spine, RTms, none, more}
use Rattle.wh_text.specs.Erase.{rtm, rtms}
use Rattle.wh_text.specs.declared.raw.RawTerm.{RawTerm, Spine}
use Rattle.wh_system_parts.specs.Naming.{number_of, type_meant, Scope, both, meant, all_meant, applied_meant}
use Rattle.wh_system_parts.specs.RuleTests.{head_symbol}
use Rattle.wh_system_parts.specs.Tests.{arguments_of, count_of, raw_size, raw_spine_size}
use Rattle.wh_text.proofs.RawLemmas.{rtm_of_spine}
use Rattle.wh_system_parts.proofs.OptionParts.{some_same, none_some, both_parts, map_part}
use Rattle.wh_system_resolve.specs.Form.{symbol_of}
use Rattle.wh_system_resolve.proofs.MeantParts.{name_by}

count-size : (ts : RTms) → count_of ts ≤ raw_spine_size ts
count-size none = omega arith
count-size (more t ts) = omega (arith, count-size ts)

-- a term has no more arguments than its size
pub arguments_size : (t : RTm) → arguments_of t ≤ raw_size t
arguments_size (named n at) = omega arith
arguments_size (numbered n at) = omega arith
arguments_size (free_variable n a at) = omega arith
arguments_size (meta n ts at) = omega arith
arguments_size (lam x a t at) = omega arith
arguments_size (spine h ts at) = omega (arith, arguments_size h, count-size ts)

count_rtms : (xs : List RawTerm) → count_of (rtms xs) ≡ length xs
count_rtms [] = refl
count_rtms (x ∷ xs) = omega (arith, count_rtms xs)

pub count_raws : (ts : List RawTerm) → count_of (rtms ts) ≡ length ts
count_raws ts = count_rtms ts

-- one spine further down
pub arguments_spine : (t : RawTerm) (h : _) (ts : List RawTerm) (at : ℕ) → t ≡ Spine h ts at → arguments_of (rtm t) ≡ arguments_of (rtm h.value) + length ts
arguments_spine t h ts at e = ap arguments_of (rtm_of_spine t h ts at e) ∙ ap (λ n. arguments_of (rtm h.value) + n) (count_raws ts)

-- the symbol that heads a raw term is that of the tree that it stands for

front-symbol : (s : Scope) (bs : List Binder) (ts : RTms) (o : Option Tm) (t : Tm) → applied_meant s bs o ts ≡ Some t → (u : Tm) × (o ≡ Some u) × (symbol_of u ≡ symbol_of t)
front-symbol s bs none o t m = (t, m, refl)
front-symbol s bs (more x ts) o t m =
    let rest = front-symbol s bs ts (both app o (meant s bs x)) t m in
    let parts = both_parts app o (meant s bs x) rest.0 rest.1 in
    (parts.0, parts.2, ap symbol_of parts.4 ∙ rest.2)

named-symbol : (s : Scope) (n : List ℕ) (at : ℕ) (t : Tm) (y z : Option ℕ) → number_of s.metas n ≡ y → number_of s.funs n ≡ z → name_by None y z ≡ Some t → head_symbol s (named n at) ≡ symbol_of t
named-symbol s n at t (Some y) z e g m = rw e (ap symbol_of (some_same m))
named-symbol s n at t None (Some f) e g m = rw (e, g) (ap symbol_of (some_same m))
named-symbol s n at t None None e g m = absurd (none_some m)

pub head_symbol_meant : (s : Scope) (r : RTm) (t : Tm) → meant s [] r ≡ Some t → head_symbol s r ≡ symbol_of t
head_symbol_meant s (named n at) t m = named-symbol s n at t (number_of s.metas n) (number_of s.funs n) refl refl m
head_symbol_meant s (numbered k at) t m = absurd (none_some m)
head_symbol_meant s (free_variable k a at) t m = ap symbol_of (map_part (free k) (type_meant s.sorts a) t m).2
head_symbol_meant s (meta n ts at) t m = ap symbol_of (both_parts meta_tree (number_of s.metas n) (all_meant s [] ts) t m).4
head_symbol_meant s (lam x a r at) t m = ap symbol_of (both_parts lam_tree (type_meant s.sorts a) (meant s (x ∷ []) r) t m).4
head_symbol_meant s (spine h ts at) t m =
    let front = front-symbol s [] ts (meant s [] h) t m in
    head_symbol_meant s h front.0 front.1 ∙ front.2
