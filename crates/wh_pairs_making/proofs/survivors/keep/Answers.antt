use Rattle.std.proofs.Common.{◌≡◌, ◌++◌, ◌∷◌, [], List, IsTrue, ap, sym, subst, ◌∙◌, rules}
use Rattle.std.proofs.lemmas.List.{map-append}
use Rattle.wh_pairs.specs.PairData.{PairData, pair_data}
use Rattle.wh_pairs.specs.declared.pair.Pair.{Pair}
use Rattle.wh_pairs.specs.Survivors.{Survive, IsSubsumedByOne}
use Rattle.wh_pairs.specs.Views.{pairs_data}
use Rattle.wh_pairs_making.proofs.RetainLemmas.{thinned_by}
use Rattle.wh_pairs.proofs.SubsumptionLaws.{survive_dropped, survive_kept}
use Rattle.wh_pairs_making.proofs.survivors.keep.Goals as goal

pub returns-then-is_needless : goal.returns-then-is_needless
returns-then-is_needless c = λ earlier s.
    let p : PairData = pair_data c.args.candidate in
    let by = subst (λ (ps : List Pair). IsSubsumedByOne p (pairs_data ps)) c.as_slice.ensures.value (c.is_needless.ensures.0 c.if-is_needless.true) in
    survive_dropped earlier (pairs_data c.args.kept.now.items) p by.0 s by.1 by.2

pub returns : goal.returns
returns c = λ earlier s.
    let p : PairData = pair_data c.args.candidate in
    let thin = thinned_by _ p _ (λ x b g r. (record { kept = λ yes t. search rules; taken = λ no_way. search rules }, search rules)) c.args.kept.now.items c.retain.new.self.items c.retain.ensures.filtered in
    let pushed : pairs_data c.push.new.self.items ≡ pairs_data c.retain.new.self.items ++ p ∷ [] =
    ap pairs_data c.in_ok-push.ensures.items ∙ map-append pair_data c.retain.new.self.items (c.args.candidate ∷ []) in
    subst (λ (ps : List PairData). Survive (earlier ++ p ∷ []) ps) (sym pushed)
    (survive_kept earlier (pairs_data c.args.kept.now.items) (pairs_data c.retain.new.self.items) p s thin
    (λ k at t. let yes : IsTrue c.is_needless.result = c.is_needless.ensures.1 (subst (λ (ps : List Pair). IsSubsumedByOne p (pairs_data ps)) (sym c.as_slice.ensures.value) (k, at, t)) in cc (yes, c.if-is_needless.false)))
