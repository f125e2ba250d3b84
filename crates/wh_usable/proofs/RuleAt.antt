-- The rule that a list of numbers names at a place.
use Rattle.std.proofs.Common.{◌≡◌, ◌<◌, ℕ, List, length, Some, slice_get, get_or, ap, subst, arith}
use Rattle.std.proofs.lemmas.List.{length-map}
use Rattle.wh_terms.specs.Erase.{rewrite_rule, rewrite_rules}
use Rattle.wh_terms.specs.Rules.{RewriteRule}
use Rattle.wh_terms.specs.declared.rule.Rule.{Rule}
use Rattle.wh_pairs.proofs.ByPlace.{read_map}

pub rule_at : (rules : List RewriteRule) (items : List Rule) (n : ℕ) (r : Rule) → rewrite_rules items ≡ rules → n < length rules → r ≡ get_or items n r
    → slice_get rules n ≡ Some (rewrite_rule r)
rule_at rules items n r same within is =
    let count = ap (λ (l : List RewriteRule). length l) same in
    let inside : n < length items = omega (arith, within, count, length-map items rewrite_rule) in
    subst (λ (l : List RewriteRule). slice_get l n ≡ Some (rewrite_rule r)) same (read_map rewrite_rule items n r inside is)
