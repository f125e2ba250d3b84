-- The verdict on a line, from the judgement of its goal.
use Rattle.std.proofs.Common.{◌≡◌, ℕ, List, length, Option, Some, Err, ap, subst, sym, ◌∙◌}
use Rattle.wh_types.specs.declared.want.Or.{Or}
use Rattle.wh_types.specs.declared.want.Or.TheVariants.{NoMemory, Because}
use Rattle.wh_types.specs.Outcome.{MatchOr}
use Rattle.wh_terms.specs.Typing.{Symbols, Declared}
use Rattle.wh_terms.specs.Rules.{RewriteRule}
use Rattle.wh_order_inference.specs.declared.inference.Inference.{Inference}
use Rattle.wh_order_inference.specs.Said.{inference}
use Rattle.wh_order_extended.specs.Filtered.{precedences}
use Rattle.wh_order_path.specs.Verdict.{at_least, verdict, line_verdict}
use Rattle.wh_order_node.specs.Filterings.{FilteringData, filter_among, mark_among, filtered_signature}
use Rattle.wh_order_trees.specs.declared.tree.Tree.{Tree}
use Rattle.wh_order_trees.specs.Trees.{tree}
use Rattle.wh_order_trees.specs.TreeParts.{World, Over}
use Rattle.wh_order.specs.declared.check.BadInference.{BadInference}
use Rattle.wh_order.specs.BadNumber.{number_of_bad}
use Rattle.wh_order.specs.Precedences.{order_of}
use Rattle.wh_order.specs.TreeSides.{AreSides, tree_verdict}
use Rattle.wh_order.specs.Claims.{Judged}
use Rattle.wh_order.proofs.CheckLemmas.{moved_zero}
use Rattle.std.specs.Prelude.{nat_lt, cond, ◌-◌}

abbrev pub LineIs : FilteringData → Tree → Tree → Inference → Option ℕ → Type 0
LineIs D s t i o = (w : World) → Over (length D.symbols) w s × Over (length D.symbols) w t
    → verdict w.symbols (order_of D) w.metas (record { claim = at_least; next = 0; left = tree (length D.symbols) s; right = tree (length D.symbols) t }) (inference i) ≡ o

pub line_judged : (S : Symbols) (rules : List RewriteRule) (D : FilteringData) (M : List Declared) (s t : Tree) (i : Inference) (o : Option ℕ) → AreSides S rules D M s t → LineIs D s t i o
    → tree_verdict S rules D M s t i ≡ o
line_judged S rules D M s t i o sides judged =
    let w : World = record { symbols = filtered_signature S rules D; metas = M } in
    let left = subst (λ (n : ℕ). Over n w s) (sym sides.each_symbol) sides.left in
    let right = subst (λ (n : ℕ). Over n w t) (sym sides.each_symbol) sides.right in
    sym (ap (λ (n : ℕ). line_verdict (filtered_signature S rules D) (precedences (λ f. cond (nat_lt f n) (filter_among D.symbols f) (mark_among D.marks (f - n)))) M (tree n s) (tree n t) (inference i)) sides.each_symbol)
    ∙ judged w (left, right)

pub line_bad : (D : FilteringData) (s t : Tree) (i : Inference) (count : ℕ) (e : Or BadInference) (P : Type 0)
    → ((w : World) → Over (length D.symbols) w s × Over (length D.symbols) w t
    → Judged number_of_bad 0 (verdict w.symbols (order_of D) w.metas (record { claim = at_least; next = 0; left = tree (length D.symbols) s; right = tree (length D.symbols) t }) (inference i)) count (Err e))
    → MatchOr {T = Unit {0}} (Err e) (λ _. P) (λ b. (S : Symbols) (rules : List RewriteRule) (M : List Declared) → AreSides S rules D M s t → tree_verdict S rules D M s t i ≡ Some b.at)
line_bad D s t i count NoMemory P h = tt
line_bad D s t i count (Because b) P h = λ S rules M sides. line_judged S rules D M s t i (Some b.at) sides (λ w over. sym (moved_zero _) ∙ h w over)
