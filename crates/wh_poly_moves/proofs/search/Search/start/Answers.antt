use Rattle.std.proofs.Common.{◌≡◌, rules, ap, ◌∙◌, ◌++◌, ◌∷◌, [], Bool, true, false, None, replicate, length, set, List}
use Rattle.wh_poly_moves.specs.declared.search.Step.{Step}
use Rattle.wh_poly_moves.proofs.SearchSteps.{found_at_start}
use Rattle.wh_poly_moves.proofs.search.Search.start.Goals as goal

pub returns-clause-search : goal.returns-clause-search
returns-clause-search c =
    let none : c.in_ok-reached.reached.items ≡ replicate (length c.args.right.now) false = c.in_ok-reached.ensures.items_if_clones_equal (search rules) in
    let unmarked : c.in_ok-givers.givers.items ≡ replicate (length c.args.left.now) None = c.in_ok-givers.ensures.items_if_clones_equal (search rules) in
    let root : List Step = record { target = c.args.root; link = None } ∷ [] in
    λ flow. found_at_start c.args.left.now c.args.right.now flow c.args.root c.push.new.self.items _ c.in_ok-givers.givers.items c.requires
    (c.in_ok-push.ensures.items ∙ ap (λ (ss : List Step). ss ++ root) c.new-steps.ensures.items)
    (ap (λ (rs : List Bool). set rs c.args.root true) none) unmarked
