use Rattle.std.proofs.Common.{◌≡◌, [], ◌∷◌, ◌++◌, ap, ◌∙◌}
use Rattle.wh_terms.specs.Tree.{meta}
use Rattle.wh_terms.specs.Erase.{tms}
use Rattle.wh_terms.specs.declared.term.Term.{Bound}
use Rattle.wh_terms.proofs.TermLemmas.{tm_meta}
use Rattle.wh_test_terms.proofs.term_rows.meta_of_bound.Goals as goal

pub returns : goal.returns
returns c =
    let first : c.push.new.self ≡ [] ++ Bound c.args.i ∷ [] = c.in_ok-push.ensures.ok ∙ ap (λ xs. xs ++ Bound c.args.i ∷ []) c.new-items.ensures in
    let second : c.push-2.new.self ≡ Bound c.args.i ∷ Bound c.args.j ∷ [] = c.in_ok-push-2.ensures.ok ∙ ap (λ xs. xs ++ Bound c.args.j ∷ []) first in
    tm_meta 0 c.push-2.new.self ∙ ap (λ xs. meta 0 (tms xs)) second
