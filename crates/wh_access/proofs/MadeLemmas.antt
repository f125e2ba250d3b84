-- What every rule of a well-made system has.
use Rattle.std.proofs.Common.{◌≡◌, ℕ, ◌<◌, ◌≤◌, inl, inr, List, Some, slice_get, length, get_or, option_map, Contains, refl, ap, sym, ◌∙◌, subst, arith}
use Rattle.std.proofs.lemmas.List.{length-map}
use Rattle.std.proofs.lemmas.List.Elements.{All-contains}
use Rattle.std.proofs.lemmas.Option.{slice_get-map, slice_get_read, slice_get_within, get_or_from_slice_get}
use Rattle.wh_types.specs.Ty.{Ty}
use Rattle.wh_terms.specs.Tree.{Tm, Tms}
use Rattle.wh_terms.specs.Typing.{Symbols, Declared, Typed, typed_bound, typed_free, typed_fun, typed_meta, typed_lam, typed_app, AllTyped, typed_none, typed_more}
use Rattle.wh_terms.specs.Sight.{Occurs, OccursIn}
use Rattle.wh_terms.specs.Measures.{nesting}
use Rattle.wh_terms.specs.Rules.{RewriteRule, IsWellMade}
use Rattle.wh_terms.specs.Erase.{rewrite_rule, rewrite_rules, declared_meta}
use Rattle.wh_terms.specs.declared.rule.Rule.{Rule}
use Rattle.wh_step.proofs.RedexLemmas.{nesting-size}
use Rattle.wh_system.specs.Systems.{SystemData}
use Rattle.wh_system.specs.WellMade.{IsWellMadeSystem}

mutual
  -- a meta-variable that occurs in a typed tree is declared
  occurs_declared : {S : Symbols} {M : List Declared} {Γ : List Ty} {t : Tm} {a : Ty} (z : ℕ) → Typed S M Γ t a → Occurs z t → z < length M
  occurs_declared z (typed_bound e) o = absurd o
  occurs_declared z (typed_free e) o = absurd o
  occurs_declared z (typed_fun e) o = absurd o
  occurs_declared {M = M} z (typed_meta e ts out) (inl o) = subst (λ z. z < length M) o (slice_get_within M _ _ e)
  occurs_declared z (typed_meta e ts out) (inr o) = occurs_in_declared z ts o
  occurs_declared z (typed_lam s t) o = occurs_declared z t o
  occurs_declared z (typed_app t u) (inl o) = occurs_declared z t o
  occurs_declared z (typed_app t u) (inr o) = occurs_declared z u o

  occurs_in_declared : {S : Symbols} {M : List Declared} {Γ : List Ty} {ts : Tms} {bs : List Ty} (z : ℕ) → AllTyped S M Γ ts bs → OccursIn z ts → z < length M
  occurs_in_declared z typed_none o = absurd o
  occurs_in_declared z (typed_more t ts) (inl o) = occurs_declared z t o
  occurs_in_declared z (typed_more t ts) (inr o) = occurs_in_declared z ts o

listed : (rules : List RewriteRule) (i : ℕ) (r : RewriteRule) → slice_get rules i ≡ Some r → Contains rules r
listed rules i r e = (i, slice_get_within rules i r e, get_or_from_slice_get rules i r r e)

-- the rule of that number
pub rule_here : (items : List Rule) (rules : List RewriteRule) (i : ℕ) (rule : Rule) → rewrite_rules items ≡ rules → i < length items → rule ≡ get_or items i rule → slice_get rules i ≡ Some (rewrite_rule rule)
rule_here items rules i rule same within here =
    ap (λ rs. slice_get rs i) (sym same) ∙ slice_get-map rewrite_rule items i ∙ ap (λ o. option_map rewrite_rule o) (slice_get_read items (length items) i rule refl within here)

pub rule_made : (d : SystemData) (i : ℕ) (r : RewriteRule) → IsWellMadeSystem d → slice_get d.rules i ≡ Some r → IsWellMade d.symbols r
rule_made d i r made e = made.rules.each r (listed d.rules i r e)

pub few_metas : (d : SystemData) (i : ℕ) (rule : Rule) → IsWellMadeSystem d → slice_get d.rules i ≡ Some (rewrite_rule rule) → length rule.metas ≤ 32
few_metas d i rule made e =
    omega (arith, All-contains (λ r. length r.metas ≤ 32) d.rules (rewrite_rule rule) made.metas_within (listed d.rules i (rewrite_rule rule) e), length-map rule.metas declared_meta)

pub used_declared : (d : SystemData) (i : ℕ) (rule : Rule) → IsWellMadeSystem d → slice_get d.rules i ≡ Some (rewrite_rule rule) → (z : ℕ) → Occurs z (rewrite_rule rule).right → z < length rule.metas
used_declared d i rule made e z o =
    omega (arith, occurs_declared z (rule_made d i (rewrite_rule rule) made e).typed.2 o, length-map rule.metas declared_meta)

pub left_nested : (d : SystemData) (i : ℕ) (r : RewriteRule) → IsWellMadeSystem d → slice_get d.rules i ≡ Some r → nesting r.left ≤ 65536
left_nested d i r made e = omega (arith, nesting-size r.left, (rule_made d i r made e).left_fits.small)
