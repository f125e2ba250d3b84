use Rattle.std.proofs.Common.{ℕ, Result, Err, refl, subst}
use Rattle.std.specs.List.Sorted.{IsBinarySearchResult}
use Rattle.std.specs.Ordering.{nat_cmp}
use Rattle.wh_pairs.proofs.Increasing.{search_misses}
use Rattle.wh_graph.proofs.CountLemmas.{search_place}
use Rattle.wh_poly_guesses.proofs.uses.place_of.Goals as goal

pub returns-in-Ok : goal.returns-in-Ok
returns-in-Ok c =
    let searched = λ (r : Result ℕ ℕ). IsBinarySearchResult (λ m. nat_cmp m c.args.symbol) c.args.marked.now r in
    (c.in-Ok.place, refl, search_place c.args.marked.now c.args.symbol c.in-Ok.place c.requires.increasing (subst searched c.in-Ok.is c.binary_search.ensures.position))

pub returns-in-Err : goal.returns-in-Err
returns-in-Err c =
    let searched = λ (r : Result ℕ ℕ). IsBinarySearchResult (λ m. nat_cmp m c.args.symbol) c.args.marked.now r in
    absurd (search_misses c.args.marked.now c.args.symbol (Err c.in-Err.field-0) c.requires.increasing (subst searched c.in-Err.is c.binary_search.ensures.position) refl c.requires.found)
