-- Canonical trees and parts have no places.
use Rattle.std.proofs.Common.{◌≡◌, ℕ, ◌+◌, List, [], ◌∷◌, map, refl, ap, ap₂, ◌∙◌}
use Rattle.wh_types.specs.Ty.{Ty, sort, ◌⇒◌, result_sort}
use Rattle.wh_terms.specs.Tree.{Tm, bound, free, fun, meta, lam, app, Tms, none as no_tms, more as more_tms}
use Rattle.wh_terms.specs.Typing.{Declared}
use Rattle.wh_terms.specs.Rules.{RewriteRule}
use Rattle.wh_text.specs.RawTree.{raw_type, more_types, numbered_binder, RTm, named, numbered, free_variable, meta as raw_meta, lam as raw_lam, spine, RTms, none, more}
use Rattle.wh_system.specs.Systems.{SystemData}
use Rattle.wh_system.specs.Canonical.{Names, name_at, raw_type_of, raw_arguments_of, and_last, with_argument, raw_below, each_raw_below}
use Rattle.wh_system_making.specs.CanonicalParts.{raw_name, raw_types_of, raw_funs_of, raw_metas_of, raw_rules_of, canonical}
use Rattle.wh_system_making.specs.Unplaced.{unplaced_type, unplaced_types, unplaced_term, unplaced_terms, unplaced_name, unplaced_fun, unplaced_meta, unplaced_rule, unplaced}
use Rattle.wh_system_making.proofs.UnplacedParts.{map_twice}

mutual
  type-bare : (sorts : List (List ℕ)) (a : Ty) → unplaced_type (raw_type_of sorts a) ≡ raw_type_of sorts a
  type-bare sorts (sort s) = refl
  type-bare sorts (a ⇒ b) = ap₂ (λ x xs. raw_type (more_types x xs) (name_at sorts (result_sort b)) 0) (type-bare sorts a) (arguments-bare sorts b)

  arguments-bare : (sorts : List (List ℕ)) (a : Ty) → unplaced_types (raw_arguments_of sorts a) ≡ raw_arguments_of sorts a
  arguments-bare sorts (sort s) = refl
  arguments-bare sorts (a ⇒ b) = ap₂ more_types (type-bare sorts a) (arguments-bare sorts b)

types-bare : (sorts : List (List ℕ)) (kinds : List Ty) → unplaced_types (raw_types_of sorts kinds) ≡ raw_types_of sorts kinds
types-bare sorts [] = refl
types-bare sorts (a ∷ kinds) = ap₂ more_types (type-bare sorts a) (types-bare sorts kinds)

last-bare : (ts : RTms) (u : RTm) → unplaced_terms (and_last ts u) ≡ and_last (unplaced_terms ts) (unplaced_term u)
last-bare none u = refl
last-bare (more t ts) u = ap (more (unplaced_term t)) (last-bare ts u)

with-bare : (h u : RTm) → unplaced_term (with_argument h u) ≡ with_argument (unplaced_term h) (unplaced_term u)
with-bare (named n at) u = refl
with-bare (numbered k at) u = refl
with-bare (free_variable k a at) u = refl
with-bare (raw_meta n ts at) u = refl
with-bare (raw_lam x a t at) u = refl
with-bare (spine h ts at) u = ap (λ us. spine (unplaced_term h) us 0) (last-bare ts u)

mutual
  term-bare : (n : Names) (t : Tm) (d : ℕ) → unplaced_term (raw_below n d t) ≡ raw_below n d t
  term-bare n (bound i) d = refl
  term-bare n (free x a) d = ap (λ b. free_variable x b 0) (type-bare n.sorts a)
  term-bare n (fun f) d = refl
  term-bare n (meta z no_tms) d = refl
  term-bare n (meta z (more_tms t ts)) d = ap₂ (λ u us. raw_meta (name_at n.metas z) (more u us) 0) (term-bare n t d) (terms-bare n ts d)
  term-bare n (lam a t) d = ap₂ (λ b u. raw_lam (numbered_binder d) b u 0) (type-bare n.sorts a) (term-bare n t (d + 1))
  term-bare n (app t u) d = with-bare (raw_below n d t) (raw_below n d u) ∙ ap₂ with_argument (term-bare n t d) (term-bare n u d)

  terms-bare : (n : Names) (ts : Tms) (d : ℕ) → unplaced_terms (each_raw_below n d ts) ≡ each_raw_below n d ts
  terms-bare n no_tms d = refl
  terms-bare n (more_tms t ts) d = ap₂ more (term-bare n t d) (terms-bare n ts d)

-- declarations and rules

funs-bare : (sorts ns : List (List ℕ)) (kinds : List Ty) → map unplaced_fun (raw_funs_of sorts ns kinds) ≡ raw_funs_of sorts ns kinds
funs-bare sorts [] kinds = refl
funs-bare sorts (n ∷ ns) [] = refl
funs-bare sorts (n ∷ ns) (a ∷ kinds) = λ i. record { name = raw_name n; kind = type-bare sorts a i } ∷ funs-bare sorts ns kinds i

metas-bare : (sorts ns : List (List ℕ)) (ds : List Declared) → map unplaced_meta (raw_metas_of sorts ns ds) ≡ raw_metas_of sorts ns ds
metas-bare sorts [] ds = refl
metas-bare sorts (n ∷ ns) [] = refl
metas-bare sorts (n ∷ ns) (d ∷ ds) = λ i. record { name = raw_name n; args = types-bare sorts d.args i; out = type-bare sorts d.out i } ∷ metas-bare sorts ns ds i

rules-bare : (d : SystemData) (others : List (List (List ℕ))) (rs : List RewriteRule) → map unplaced_rule (raw_rules_of d others rs) ≡ raw_rules_of d others rs
rules-bare d [] rs = refl
rules-bare d (metas ∷ others) [] = refl
rules-bare d (metas ∷ others) (r ∷ rs) =
    let n : Names = record { sorts = d.sort_names; funs = d.fun_names; metas = metas } in
    λ i. record { metas = metas-bare d.sort_names metas r.metas i; left = term-bare n r.left 0 i; right = term-bare n r.right 0 i; at = 0 } ∷ rules-bare d others rs i

names-bare : (ns : List (List ℕ)) → map unplaced_name (map raw_name ns) ≡ map raw_name ns
names-bare ns = map_twice raw_name unplaced_name raw_name (λ n. refl) ns

pub canonical_unplaced : (d : SystemData) → unplaced (canonical d) ≡ canonical d
canonical_unplaced d = λ i. record {
  sorts = names-bare d.sort_names i;
  funs = funs-bare d.sort_names d.fun_names d.symbols.funs i;
  rules = rules-bare d d.meta_names d.rules i;
}
