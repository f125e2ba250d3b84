use Rattle.std.proofs.Common.{◌≡◌, ◌++◌, ℕ, List, [], Option, All, length, take, drop, sym, ap, subst, ◌∙◌, arith}
use Rattle.wh_graph.specs.Classes.{HasClass, AreGathered}
use Rattle.wh_graph.proofs.PushLemmas.{lent_whole}
use Rattle.wh_graph.proofs.ComponentLemmas.{if_ok_map}
use Rattle.wh_graph.proofs.component.gather.Goals as goal

pub fill-requires-clause-below : goal.fill-requires-clause-below
fill-requires-clause-below c = λ v d has.
    let less = c.requires.below v d (subst (λ (fs : List (Option ℕ)). HasClass fs v d) c.deref.ensures.value has) in
    omega (arith, less, c.in_ok-lists.ensures.size, ap (λ (l : List (List ℕ)). length l) c.deref_mut.ensures.value)

pub fill-requires-clause-none : goal.fill-requires-clause-none
fill-requires-clause-none c = subst (All (λ (l : List ℕ). l ≡ [])) (sym c.deref_mut.ensures.value) c.in_ok-lists.ensures.none

pub returns : goal.returns
returns c =
    let set = c.args.set.now in
    let of = c.args.classes.now.of.items in
    let old = c.in_ok-lists.lists.items in
    let new = c.fill.new.lists in
    let n = c.in_ok-lists.lists.len in
    let lent = ap (λ (l : List (List ℕ)). length l) c.deref_mut.ensures.value in
    let filled = subst (λ (fs : List (Option ℕ)). AreGathered set fs (length c.deref_mut.result.now) (length set) new) c.deref.ensures.value c.in_ok-fill.ensures in
    let gathered = subst (λ (k : ℕ). AreGathered set of k (length set) new) (lent ∙ c.in_ok-lists.ensures.size) filled in
    let whole = lent_whole old new n (omega (arith, c.in_ok-lists.lists.ok)) (filled.size ∙ lent) in
    if_ok_map (λ (l : List (List ℕ)). l ≡ take n (new ++ drop (length new) old)) (AreGathered set of c.args.classes.now.count (length set))
    (λ blocks is. subst (AreGathered set of c.args.classes.now.count (length set)) (sym (is ∙ whole)) gathered) c.blocks_of.result c.blocks_of.ensures
