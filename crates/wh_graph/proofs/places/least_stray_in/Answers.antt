use Rattle.std.proofs.Common.{◌+◌, Option, ℕ, Contains, get_or, sym, subst, ◌∙◌}
use Rattle.wh_graph.specs.Least.{LeastOf}
use Rattle.wh_pairs.proofs.ByPlace.{number_at}
use Rattle.wh_graph.proofs.LeastLemmas.{Among, among_none, among_more, among_skip, among_all}
use Rattle.wh_pairs.proofs.Increasing.{search_misses, search_finds}
use Rattle.wh_graph.proofs.places.least_stray_in.Goals as goal
use Rattle.wh_graph.proofs.places.least_stray_in.Goals.{then-is_err, else-is_err}

pub loop-number-init : goal.loop-number-init
loop-number-init c = among_none (λ n. Contains c.args.set.now n → ⊥) c.args.list.now

pub loop-number-preserved : goal.loop-number-preserved
loop-number-preserved c =
    let set = c.args.set.now in
    let list = c.args.list.now in
    let i = c.loop-number.number-index in
    let n = get_or list i 0 in
    let at = number_at list i c.loop-number-test.true in
    let Q : ℕ → Type 0 = λ m. Contains set m → ⊥ in
    elim c.if-is_err.branch [
      | then-is_err w ↦ subst (λ (o : Option ℕ). LeastOf (Among Q list (i + 1)) o) (sym (w.least-is ∙ w.smaller-least.ensures))
          (among_more Q list i n c.loop-number.least c.loop-number.invariant at (search_misses set n c.binary_search.result c.requires c.binary_search.ensures.position (sym c.is_err.ensures.value ∙ w.if-is_err.true)))
      | else-is_err w ↦ subst (λ (o : Option ℕ). LeastOf (Among Q list (i + 1)) o) (sym w.least-is)
          (among_skip Q list i n c.loop-number.least c.loop-number.invariant at (λ missing. missing (search_finds set n c.binary_search.result c.requires c.binary_search.ensures.position (sym c.is_err.ensures.value ∙ w.if-is_err.false))))
    ]

pub returns : goal.returns
returns c = among_all (λ n. Contains c.args.set.now n → ⊥) c.args.list.now c.loop-number.number-index c.loop-number.least c.loop-number-test.false c.loop-number.invariant
