-- Canonical raw trees stand for the trees that they are made from.
use Rattle.std.proofs.Common.{Bool, true, false, get_or, ◌≡◌, ℕ, ◌+◌, ◌<◌, List, [], ◌∷◌, length, Option, Some, option_map, slice_get, refl, ap, ap₂, sym, ◌∙◌, subst, arith}
use Rattle.std.proofs.lemmas.Option.{slice_get_within, get_or_from_slice_get, slice_get-map}
use Rattle.std.proofs.lemmas.List.Elements.{Contains-get_or}
use Rattle.wh_types.specs.Ty.{Ty, SortsBelow}
use Rattle.wh_terms.specs.Tree.{Tm, bound, free, fun, meta, lam, app, Tms, none as no_tms, more as more_tms}
use Rattle.wh_terms.specs.Typing.{Symbols, Declared, Typed, typed_bound, typed_free, typed_fun, typed_meta, typed_lam, typed_app, AllTyped, typed_none, typed_more, WellTyped}
use Rattle.wh_text.specs.RawTree.{Binder, RTm, named, numbered, free_variable, meta as raw_meta, lam as raw_lam, spine, RTms, none, more}
use Rattle.wh_system_parts.specs.Naming.{number_of, Scope, or_else, both, meant, all_meant, applied_meant}
use Rattle.wh_system.specs.Systems.{SystemData}
use Rattle.wh_system.specs.WellMade.{AreDistinct, AreApart, IsWellMadeSystem}
use Rattle.wh_system_making.specs.Resolve.{term_scope, Means}
use Rattle.wh_system.specs.Canonical.{Names, name_at, and_last, with_argument, raw_below, each_raw_below, raw_of, IsNamedBelow, AreNamedBelow}
use Rattle.wh_system.specs.CanonicalView.{names_of_system, side_of}
use Rattle.wh_terms.specs.Rules.{RewriteRule, IsWellMade}
use Rattle.wh_system_parts.proofs.OptionParts.{some_same}
use Rattle.wh_system_making.proofs.CanonicalNames.{number_at, apart_number, type_back, numbers_below, numbers_next, binder_back, no_binder_back}

-- the names of a scope
abbrev pub names_in : Scope → Names
names_in s = record { sorts = s.sorts; funs = s.funs; metas = s.metas }

-- no name stands for two things
pub record IsClear (s : Scope) : Type 0 where
  pub sorts : AreDistinct s.sorts
  pub funs : AreDistinct s.funs
  pub metas : AreDistinct s.metas
  pub apart : AreApart s.metas s.funs

-- one argument more

applied_last : (s : Scope) (bs : List Binder) (ts : RTms) (u : RTm) (o : Option Tm) → applied_meant s bs o (and_last ts u) ≡ both app (applied_meant s bs o ts) (meant s bs u)
applied_last s bs none u o = refl
applied_last s bs (more t ts) u o = applied_last s bs ts u (both app o (meant s bs t))

pub argument_meant : (s : Scope) (bs : List Binder) (h u : RTm) → meant s bs (with_argument h u) ≡ both app (meant s bs h) (meant s bs u)
argument_meant s bs (named n at) u = refl
argument_meant s bs (numbered k at) u = refl
argument_meant s bs (free_variable k a at) u = refl
argument_meant s bs (raw_meta n ts at) u = refl
argument_meant s bs (raw_lam x a t at) u = refl
argument_meant s bs (spine h ts at) u = applied_last s bs ts u (meant s bs h)

mutual
  pub raw_meant : (s : Scope) → IsClear s → (t : Tm) (d : ℕ) → IsNamedBelow (names_in s) d t → meant s (numbers_below d) (raw_below (names_in s) d t) ≡ Some t
  raw_meant s w (bound i) d all = ap (option_map bound) (binder_back d i all)
  raw_meant s w (free x a) d all = ap (option_map (free x)) (type_back s.sorts a w.sorts all)
  raw_meant s w (fun f) d all =
      ap₂ (λ o q. or_else (option_map bound o) (or_else (option_map (λ z. meta z no_tms) q) (option_map fun (number_of s.funs (name_at s.funs f))))) (no_binder_back d (name_at s.funs f)) (apart_number s.metas s.funs f w.apart all)
      ∙ ap (option_map fun) (number_at s.funs f w.funs all)
  raw_meant s w (meta z no_tms) d all =
      ap₂ (λ o q. or_else (option_map bound o) (or_else (option_map (λ z. meta z no_tms) q) (option_map fun (number_of s.funs (name_at s.metas z))))) (no_binder_back d (name_at s.metas z)) (number_at s.metas z w.metas all.0)
  raw_meant s w (meta z (more_tms t ts)) d all =
      ap₂ (both meta) (number_at s.metas z w.metas all.0) (ap₂ (both more_tms) (raw_meant s w t d all.1.0) (each_raw_meant s w ts d all.1.1))
  raw_meant s w (lam a t) d all =
      ap₂ (both lam) (type_back s.sorts a w.sorts all.0) (ap (λ bs. meant s bs (raw_below (names_in s) (d + 1) t)) (sym (numbers_next d)) ∙ raw_meant s w t (d + 1) all.1)
  raw_meant s w (app t u) d all =
      argument_meant s (numbers_below d) (raw_below (names_in s) d t) (raw_below (names_in s) d u) ∙ ap₂ (both app) (raw_meant s w t d all.0) (raw_meant s w u d all.1)

  pub each_raw_meant : (s : Scope) → IsClear s → (ts : Tms) (d : ℕ) → AreNamedBelow (names_in s) d ts → all_meant s (numbers_below d) (each_raw_below (names_in s) d ts) ≡ Some ts
  each_raw_meant s w no_tms d all = refl
  each_raw_meant s w (more_tms t ts) d all = ap₂ (both more_tms) (raw_meant s w t d all.0) (each_raw_meant s w ts d all.1)

-- all that stands in a typed tree has a name

pub record HasNames (n : Names) (S : Symbols) (M : List Declared) : Type 0 where
  pub sorts : length n.sorts ≡ S.sorts
  pub funs : length n.funs ≡ length S.funs
  pub metas : length n.metas ≡ length M

mutual
  pub typed_named : {S : Symbols} {M : List Declared} {Γ : List Ty} {t : Tm} {a : Ty} (n : Names) → HasNames n S M → Typed S M Γ t a → IsNamedBelow n (length Γ) t
  typed_named n h (typed_bound {Γ = Γ} {i = i} {a = a} e) = slice_get_within Γ i a e
  typed_named n h (typed_free {a = a} s) = subst (λ k. SortsBelow k a) (sym h.sorts) s
  typed_named n h (typed_fun {S = S} {f = f} {a = a} e) = subst (λ k. f < k) (sym h.funs) (slice_get_within S.funs f a e)
  typed_named n h (typed_meta {M = M} {z = z} {d = d} e ts o) = (subst (λ k. z < k) (sym h.metas) (slice_get_within M z d e), all_typed_named n h ts)
  typed_named n h (typed_lam {Γ = Γ} {a = a} {t = t} s p) =
      (subst (λ k. SortsBelow k a) (sym h.sorts) s, subst (λ d. IsNamedBelow n d t) (let deeper : length (a ∷ Γ) ≡ length Γ + 1 = omega arith in deeper) (typed_named n h p))
  typed_named n h (typed_app p q) = (typed_named n h p, typed_named n h q)

  pub all_typed_named : {S : Symbols} {M : List Declared} {Γ : List Ty} {ts : Tms} {kinds : List Ty} (n : Names) → HasNames n S M → AllTyped S M Γ ts kinds → AreNamedBelow n (length Γ) ts
  all_typed_named n h typed_none = tt
  all_typed_named n h (typed_more p ps) = (typed_named n h p, all_typed_named n h ps)

-- a system

pub system_names : (d : SystemData) → IsWellMadeSystem d → HasNames (names_of_system d) d.symbols []
system_names d w = record { sorts = w.sorts_named; funs = w.symbols_named; metas = refl }

pub system_clear : (d : SystemData) → IsWellMadeSystem d → IsClear (term_scope d)
system_clear d w = record {
  sorts = w.sort_names_distinct;
  funs = w.fun_names_distinct;
  metas = λ i j e l m. absurd (omega arith);
  apart = λ k e l. absurd (omega arith);
}

-- the canonical raw tree of a well-typed term stands for it
pub canonical_means : (d : SystemData) → IsWellMadeSystem d → (t : Tm) → WellTyped d.symbols t → Means d (raw_of (names_of_system d) t) t
canonical_means d w t typed = record {
  named = raw_meant (term_scope d) (system_clear d w) t 0 (typed_named (names_of_system d) (system_names d w) typed.1);
  typed = typed;
}

-- a rule of a system: its sides have names for all that stands in them

pub rule_there : (d : SystemData) → IsWellMadeSystem d → (k : ℕ) (r : RewriteRule) → slice_get d.rules k ≡ Some r → IsWellMade d.symbols r
rule_there d w k r e =
    let within = slice_get_within d.rules k r e in
    subst (IsWellMade d.symbols) (get_or_from_slice_get d.rules k r r e) (w.rules.each (get_or d.rules k r) (Contains-get_or d.rules k r within))

pub metas_there : (d : SystemData) → IsWellMadeSystem d → (k : ℕ) (r : RewriteRule) (metas : List (List ℕ)) → slice_get d.rules k ≡ Some r → slice_get d.meta_names k ≡ Some metas → length metas ≡ length r.metas
metas_there d w k r metas e f =
    some_same (sym (slice_get-map length d.meta_names k ∙ ap (option_map length) f) ∙ ap (λ ns. slice_get ns k) w.metas_named ∙ (slice_get-map (λ r. length r.metas) d.rules k ∙ ap (option_map (λ r. length r.metas)) e))

pub side_named : (d : SystemData) → IsWellMadeSystem d → (k : ℕ) (r : RewriteRule) (right : Bool) (metas : List (List ℕ)) → slice_get d.rules k ≡ Some r → slice_get d.meta_names k ≡ Some metas
    → IsNamedBelow (record { sorts = d.sort_names; funs = d.fun_names; metas = metas }) 0 (side_of right r)
side_named d w k r right metas e f = go right
  where
    n : Names
    n = record { sorts = d.sort_names; funs = d.fun_names; metas = metas }

    has : HasNames n d.symbols r.metas
    has = record { sorts = w.sorts_named; funs = w.symbols_named; metas = metas_there d w k r metas e f }

    go : (right : Bool) → IsNamedBelow n 0 (side_of right r)
    go true = typed_named n has (rule_there d w k r e).typed.2
    go false = typed_named n has (rule_there d w k r e).typed.1
