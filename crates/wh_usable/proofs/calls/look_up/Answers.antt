use Rattle.std.proofs.Common.{◌≡◌, ◌≤◌, ◌+◌, List, Bool, length, Some, slice_get, sym, subst, ◌∙◌}
use Rattle.wh_terms.specs.Erase.{rewrite_rule}
use Rattle.wh_terms.specs.Rules.{RewriteRule}
use Rattle.wh_pairs.proofs.ByPlace.{read_map, map_length}
use Rattle.wh_pairs.proofs.Increasing.{search_misses, search_finds}
use Rattle.wh_system.specs.SystemView.{system_data}
use Rattle.wh_usable.proofs.TableLemmas.{SaysBefore, says_listed, says_cleared, says_all}
use Rattle.wh_usable.proofs.calls.look_up.Goals.{then-is_err, else-is_err}
use Rattle.wh_usable.proofs.calls.look_up.Goals as goal

pub loop-number-preserved : goal.loop-number-preserved
loop-number-preserved c =
    let rules = (system_data c.args.system.now).rules in
    let listed = c.args.listed.now in
    let i = c.loop-number.number in
    let rule = c.rule-item.result in
    let at = subst (λ (l : List RewriteRule). slice_get l i ≡ Some (rewrite_rule rule)) c.rules-rule-items.ensures
    (read_map rewrite_rule c.rules-rule-items.result.now i rule c.loop-number-test.true c.rule-item.is) in
    elim c.if-is_err.branch [
      | then-is_err w ↦ subst (λ (table : List Bool). SaysBefore rules listed table (i + 1)) (sym w.table-is)
          (says_cleared rules listed c.loop-number.table _ i (rewrite_rule rule) at
          (search_misses listed i c.binary_search.result c.requires.increasing c.binary_search.ensures.position (sym c.is_err.ensures.value ∙ w.if-is_err.true))
          w.clear.ensures c.loop-number.invariant)
      | else-is_err w ↦ subst (λ (table : List Bool). SaysBefore rules listed table (i + 1)) (sym w.table-is)
          (says_listed rules listed c.loop-number.table i (rewrite_rule rule) at
          (search_finds listed i c.binary_search.result c.requires.increasing c.binary_search.ensures.position (sym c.is_err.ensures.value ∙ w.if-is_err.false))
          c.loop-number.invariant)
    ]

pub returns : goal.returns
returns c =
    let d = system_data c.args.system.now in
    let past = subst (λ (l : List RewriteRule). length l ≤ c.loop-number.number) c.rules-rule-items.ensures
    (map_length rewrite_rule c.rules-rule-items.result.now c.loop-number.number c.loop-number-test.false) in
    says_all d.rules c.args.listed.now d.symbols c.loop-number.table c.loop-number.number c.is_well_made.ensures.rules.each
    c.is_well_made.ensures.symbols_within past c.loop-number.invariant
