use Rattle.std.proofs.Common.{ℕ, Bool, List, Result, Ok, Err, IfOk, false, map, replicate, subst}
use Rattle.std.specs.declared.alloc.AllocError.{AllocError}
use Rattle.wh_terms.specs.Rules.{RewriteRule}
use Rattle.wh_system.specs.SystemView.{system_data}
use Rattle.wh_pairs.specs.PairData.{pair_data}
use Rattle.wh_pairs.specs.declared.pair.Pair.{Pair}
use Rattle.wh_pairs.specs.Sets.{IsSetOf}
use Rattle.wh_pairs.specs.Views.{pairs_data}
use Rattle.wh_usable_rules.specs.Tables.{Enters, Says}
use Rattle.wh_usable_rules.specs.Called.{StandsInPairs}
use Rattle.wh_usable_rules.specs.Taken.{AreTaken}
use Rattle.wh_usable_rules.proofs.Calling.{as_long, says_nothing, rules_of_called}
use Rattle.wh_usable_rules.proofs.usable.rules_of_called.Goals as goal

ok_map : (r : Result (List ℕ) AllocError) (P Q : List ℕ → Type 0) → ((l : List ℕ) → P l → Q l) → IfOk r P → IfOk r Q
ok_map (Ok l) P Q each h = each l h
ok_map (Err e) P Q each h = h

pub returns-clause-called : goal.returns-clause-called
returns-clause-called c =
    let d = system_data c.args.system.now in
    let ps = pairs_data c.args.pairs.now in
    let set : List ℕ = c.args.set.now in
    let none : List Bool = replicate 1024 false in
    let called : List Bool = c.call_pairs.new.called in
    let now : List Bool = c.take_all.new.called in
    let taken : List Bool = c.take_all.new.taken in
    let enters : Enters (StandsInPairs ps set) none called =
    subst (λ (l : List ℕ). Enters (StandsInPairs ps l) none called) c.as_slice-2.ensures.numbers
    (subst (λ (l : List Pair). Enters (StandsInPairs (map pair_data l) c.as_slice-2.result.now) none called) c.as_slice.ensures c.call_pairs.ensures) in
    let are : AreTaken d.rules called none now taken = subst (λ (l : List RewriteRule). AreTaken l called none now taken) c.rules.ensures c.take_all.ensures in
    ok_map c.numbers_of.result (IsSetOf (Says taken)) _ (λ l is. rules_of_called d.symbols d.rules ps set c.is_well_made.ensures.rules.each
    c.is_well_made.ensures.symbols_within none called now none taken (as_long 1024) (says_nothing 1024) enters (says_nothing 1024) are l is)
    c.numbers_of.ensures
