use Rattle.std.proofs.Common.{◌≡◌, ◌<◌, ℕ, All, List, length, map, ap, sym, subst, arith}
use Rattle.std.proofs.lemmas.List.{length-map}
use Rattle.std.proofs.lemmas.List.Elements.{All-contains}
use Rattle.wh_terms.specs.Erase.{rewrite_rule}
use Rattle.wh_terms.specs.Rules.{RewriteRule}
use Rattle.wh_system.specs.SystemView.{system_data}
use Rattle.wh_system.specs.Systems.{SystemData}
use Rattle.wh_pairs.specs.PairData.{IsIncreasing, pair_data}
use Rattle.wh_pairs.specs.declared.pair.Pair.{Pair}
use Rattle.wh_pairs.specs.Views.{pairs_data}
use Rattle.wh_pairs.proofs.SetLemmas.{all_from_members}
use Rattle.wh_reduction_pairs.specs.TaskData.{TaskData, task_over, whole_task}
use Rattle.wh_usable.specs.Closed.{IsClosed}
use Rattle.wh_usable.proofs.Decisions.{closed_not_open}
use Rattle.wh_usable.proofs.Whole.{all_numbers, fewer_numbers}
use Rattle.wh_usable_rules.proofs.Leasts.{are_rules, least_is, none_closed, only_whole}
use Rattle.wh_usable_rules.proofs.usable.usable_rules.Goals as goal

-- what holds of the task that is made of the set holds of the set
of_task : (P : TaskData → Type 0) (d : SystemData) (ps qs : List Pair) (set numbers rules covered : List ℕ) → ps ≡ qs → set ≡ numbers → rules ≡ covered
    → P (task_over d.symbols d.rules (map pair_data ps) set rules) → P (task_over d.symbols d.rules (map pair_data qs) numbers covered)
of_task P d ps qs set numbers rules covered p s r h =
    subst (λ (l : List ℕ). P (task_over d.symbols d.rules (map pair_data qs) numbers l)) r
    (subst (λ (l : List ℕ). P (task_over d.symbols d.rules (map pair_data qs) l rules)) s
    (subst (λ (l : List Pair). P (task_over d.symbols d.rules (map pair_data l) set rules)) p h))

pub check_closed-requires-clause-task : goal.check_closed-requires-clause-task
check_closed-requires-clause-task c =
    let d = system_data c.args.system.now in
    let pairs : List Pair = c.as_slice.result.now in
    let set : List ℕ = c.as_slice-2.result.now in
    let T = whole_task d.symbols d.rules (pairs_data c.args.pairs.now) c.args.set.now in
    let count = ap (λ (l : List Pair). length l) c.as_slice.ensures in
    record {
      within = all_from_members (λ n. n < length (map pair_data pairs)) set (λ n found.
          let below = subst (λ (l : List ℕ). All (λ n. n < length c.args.pairs.now) l) (sym c.as_slice-2.ensures.numbers) c.requires in
          let less = All-contains (λ n. n < length c.args.pairs.now) set n below found in
          omega (arith, less, count, length-map pairs pair_data));
      increasing = subst (λ (l : List ℕ). IsIncreasing l) (sym c.as_slice-2.ensures.numbers) c.as_slice-2.ensures.increasing;
      are_rules = subst (λ (l : List ℕ). All (λ n. n < length d.rules) l) (sym c.as_slice-3.ensures) (are_rules T c.in_ok-listed.listed c.in_ok-listed.ensures.called);
    }

pub returns-then-as_slice-rules : goal.returns-then-as_slice-rules
returns-then-as_slice-rules c =
    let d = system_data c.args.system.now in
    let listed : List ℕ = c.in_ok-listed.listed in
    let T = whole_task d.symbols d.rules (pairs_data c.args.pairs.now) c.args.set.now in
    let long = ap (λ (l : List ℕ). length l) c.as_slice-4.ensures in
    let count = ap (λ (l : List RewriteRule). length l) c.rules.ensures in
    let same : length listed ≡ length d.rules = omega (arith, c.if-as_slice-rules.true, long, count, length-map c.rules.result.now rewrite_rule) in
    only_whole T listed c.in_ok-listed.ensures.called
    (all_numbers listed (length d.rules) c.in_ok-listed.ensures.increasing (are_rules T listed c.in_ok-listed.ensures.called) same)

pub returns-in-Ok : goal.returns-in-Ok
returns-in-Ok c =
    let d = system_data c.args.system.now in
    let listed : List ℕ = c.in_ok-listed.listed in
    let T = whole_task d.symbols d.rules (pairs_data c.args.pairs.now) c.args.set.now in
    let long = ap (λ (l : List ℕ). length l) c.as_slice-4.ensures in
    let count = ap (λ (l : List RewriteRule). length l) c.rules.ensures in
    record {
      usable = record {
        increasing = c.in_ok-listed.ensures.increasing;
        are_rules = are_rules T listed c.in_ok-listed.ensures.called;
        closed = of_task IsClosed d c.as_slice.result.now c.args.pairs.now c.as_slice-2.result.now c.args.set.now c.as_slice-3.result.now listed
            c.as_slice.ensures c.as_slice-2.ensures.numbers c.as_slice-3.ensures c.in-Ok.ensures.closed;
      };
      fewer = fewer_numbers listed (length d.rules)
          (λ same. c.if-as_slice-rules.false (omega (arith, same, long, count, length-map c.rules.result.now rewrite_rule)));
      least = least_is T listed c.in_ok-listed.ensures.called;
    }

pub returns-in-Err : goal.returns-in-Err
returns-in-Err c =
    let d = system_data c.args.system.now in
    let listed : List ℕ = c.in_ok-listed.listed in
    let T = whole_task d.symbols d.rules (pairs_data c.args.pairs.now) c.args.set.now in
    none_closed T listed c.in_ok-listed.ensures.called (λ closed.
    closed_not_open (task_over d.symbols d.rules (map pair_data c.as_slice.result.now) c.as_slice-2.result.now c.as_slice-3.result.now) c.in-Err.field-0
    (of_task IsClosed d c.args.pairs.now c.as_slice.result.now c.args.set.now c.as_slice-2.result.now listed c.as_slice-3.result.now
    (sym c.as_slice.ensures) (sym c.as_slice-2.ensures.numbers) (sym c.as_slice-3.ensures) closed) c.in-Err.ensures.first)
