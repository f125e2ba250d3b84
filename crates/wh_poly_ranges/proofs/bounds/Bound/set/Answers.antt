use Rattle.std.proofs.Common.{◌<◌, ◌≤◌, [], length, get_or, ap, sym, subst, ◌∙◌, arith}
use Rattle.std.proofs.lemmas.List.{length-map}
use Rattle.std.proofs.lemmas.Bool.Decides.{nat_tests}
use Rattle.wh_reduction_pairs.specs.TaskView.{task_data}
use Rattle.wh_poly_covering.proofs.CoverWalk.{ok_so}
use Rattle.wh_poly_guesses.specs.Coefficients.{HaveCoefficients}
use Rattle.wh_poly_guesses.specs.Tasks.{guess_data}
use Rattle.wh_poly_guesses.proofs.ChangeLemmas.{item_at}
use Rattle.wh_poly_ranges.specs.Bounds.{IsSetTo, lists_in, lists_of}
use Rattle.wh_poly_ranges.proofs.Lists.{read_anew, set_nowhere, is_set}
use Rattle.wh_poly_ranges.proofs.bounds.Bound.set.Goals as goal

pub returns-in-Some-clause-bound : goal.returns-in-Some-clause-bound
returns-in-Some-clause-bound c =
    let old = c.args.self.now in
    let new = c.write.new.lists.items in
    let vectors = c.deref.result.now in
    let n = c.args.at.number in
    let within : n < length vectors = grind (arith, nat_tests, c.in-Some.ensures.lookup.0) in
    let item = item_at vectors n c.in-Some.list.now within c.in-Some.ensures.lookup.1 in
    let here = c.deref-in-Some.ensures.value ∙ item ∙ ap (λ l. get_or (lists_in l) n []) c.deref.ensures.value in
    ok_so c.change_at.result _ _ (λ changed. record {
      guess = c.change_at.ensures.guess;
      coefficients = read_anew (task_data c.args.task.now) (lists_of old) (lists_in new) n c.args.at.place c.args.value c.deref-in-Some.result.now
          old.guess.symbols.items c.change_at.new.guess.symbols.items old.guess.marks.items c.change_at.new.guess.marks.items
          c.requires.bound.coefficients c.write.ensures here changed;
    }) c.change_at.ensures.lists

pub returns-in-Some-clause-value : goal.returns-in-Some-clause-value
returns-in-Some-clause-value c =
    let lists = lists_of c.args.self.now in
    let at = c.args.at in
    ok_so c.change_at.result _ _ (λ changed.
    subst (IsSetTo at.number at.place c.args.value lists) (sym c.write.ensures) (is_set lists at.number at.place c.args.value)) c.change_at.ensures.lists

pub returns-in-None-clause-bound : goal.returns-in-None-clause-bound
returns-in-None-clause-bound c =
    let old = c.args.self.now in
    let guess = old.guess in
    let new = c.write.new.lists.items in
    let n = c.args.at.number in
    let none : length c.deref.result.now ≤ n = grind (arith, nat_tests, c.in-None.ensures.lookup.0) in
    let past : length (lists_in new) ≤ n = omega (arith, none, ap length c.deref.ensures.value, length-map new (λ l. l.items)) in
    let same = set_nowhere (lists_of old) (lists_in new) n c.args.at.place c.args.value c.write.ensures past in
    record {
      guess = c.requires.bound.guess;
      coefficients = subst (λ lists. HaveCoefficients (task_data c.args.task.now) lists (guess_data guess))
          (sym same) c.requires.bound.coefficients;
    }
