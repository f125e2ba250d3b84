use Rattle.std.proofs.Common.{◌≡◌, ℕ, get_or, Some, slice_get, ap, sym, subst, ◌∙◌, arith}
use Rattle.wh_terms.specs.Rules.{RewriteRule}
use Rattle.wh_terms.specs.Erase.{rewrite_rule, rewrite_rules}
use Rattle.wh_pairs.proofs.ByPlace.{read_map, number_at, some_one}
use Rattle.wh_poly_guesses.specs.Uses.{UsesAll, StandsInRule}
use Rattle.wh_poly_space.proofs.CountLemmas.{pushed_one}
use Rattle.wh_poly_space.proofs.PushLemmas.{each_push}
use Rattle.wh_poly_guesses.proofs.uses.uses_in_rules.Goals as goal

pub loop-number-preserved : goal.loop-number-preserved
loop-number-preserved c =
    let rules = c.args.rules.now in
    let covered = c.args.covered.now in
    let uses = c.loop-number.uses.items in
    let i = c.loop-number.number-index in
    let n = get_or covered i 0 in
    let below = c.requires i 0 c.loop-number-test.true in
    let at = read_map rewrite_rule rules n c.index-rules-number.result below c.index-rules-number.is in
    record {
      count = pushed_one uses c.push.new.self.items i _ c.in_ok-push.ensures.items c.loop-number.invariant.count;
      each = each_push (λ k u. (n : ℕ) (r : RewriteRule) → slice_get covered k ≡ Some n → slice_get (rewrite_rules rules) n ≡ Some r
          → UsesAll (λ m. StandsInRule m r) u) uses c.push.new.self.items c.in_ok-uses_in_rule.field-0 c.in_ok-push.ensures.items c.loop-number.invariant.each
          (λ m r place there.
          let same = some_one (number_at covered i c.loop-number-test.true) (ap (slice_get covered) (sym c.loop-number.invariant.count) ∙ place) in
          subst (λ (r : RewriteRule). UsesAll (λ m. StandsInRule m r) c.in_ok-uses_in_rule.field-0) (some_one at (ap (slice_get (rewrite_rules rules)) same ∙ there))
          c.in_ok-uses_in_rule.ensures);
    }

pub returns : goal.returns
returns c = record {
  count = omega (arith, c.loop-number.invariant.count, c.loop-number-test.false, c.loop-number.auto.number-index-end);
  each = λ k n r u place at there. c.loop-number.invariant.each k u there n r place at;
}
