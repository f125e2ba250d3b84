use Rattle.std.proofs.Common.{◌≡◌, ◌+◌, ◌≤◌, length, map, refl, sym, subst, ◌∙◌, arith}
use Rattle.std.proofs.lemmas.List.{length-map}
use Rattle.wh_system.specs.SystemView.{system_data}
use Rattle.wh_reduction_pairs.specs.TaskView.{task_data}
use Rattle.wh_poly_guesses.specs.Reads.{list_of}
use Rattle.wh_poly_guesses.proofs.ReadLemmas.{mixed, mixed_none, mixed_all, mixed_here, mixed_others, mixed_same, read_same, marks_same, symbols_have, marks_have, have_coefficients}
use Rattle.wh_poly_guesses.proofs.ChangeLemmas.{IsMixed, item_at, told_same}
use Rattle.wh_poly_guesses.proofs.making.change_guess.Goals as goal
use Rattle.wh_poly_guesses.proofs.making.change_guess.Goals.{then-not-is_same+in_ok-change_at, else-not-is_same}

pub loop-number-init : goal.loop-number-init
loop-number-init c =
    let d = system_data c.args.task.now.system.now in
    let old = map (λ l. l.items) c.args.old.now in
    let new = map (λ l. l.items) c.args.new.now in
    let symbols = c.args.guess.now.symbols.items in
    let marks = c.args.guess.now.marks.items in
    record {
      guess = c.requires.guess;
      marks = refl;
      read = read_same (list_of old) (mixed 0 new old) symbols (mixed_none new old) (symbols_have (task_data c.args.task.now) old symbols marks c.requires.lists);
      read_marks = marks_same d.symbols d.rules (list_of old) (mixed 0 new old) (length symbols) marks (mixed_none new old) (marks_have (task_data c.args.task.now) old symbols marks c.requires.lists);
    }

pub returns-clause-lists : goal.returns-clause-lists
returns-clause-lists c =
    let d = system_data c.args.task.now.system.now in
    let old = map (λ l. l.items) c.args.old.now in
    let new = map (λ l. l.items) c.args.new.now in
    let symbols = c.loop-number.guess.symbols.items in
    let marks = c.loop-number.guess.marks.items in
    let n = c.loop-number.number in
    let same : length old ≡ length new = omega (arith, length-map c.args.old.now (λ l. l.items), length-map c.args.new.now (λ l. l.items), c.requires.same) in
    let all : length new ≤ n = omega (arith, length-map c.args.new.now (λ l. l.items), c.loop-number-test.false) in
    have_coefficients (task_data c.args.task.now) new symbols marks (length symbols) (read_same (mixed n new old) (list_of new) symbols (mixed_all new old n same all) c.loop-number.invariant.read)
    (marks_same d.symbols d.rules (mixed n new old) (list_of new) (length symbols) marks (mixed_all new old n same all) c.loop-number.invariant.read_marks) refl

pub loop-number-preserved : goal.loop-number-preserved
loop-number-preserved c =
    let d = system_data c.args.task.now.system.now in
    let old = map (λ l. l.items) c.args.old.now in
    let new = map (λ l. l.items) c.args.new.now in
    let n = c.loop-number.number in
    let g = c.loop-number.guess in
    let here = item_at c.args.new.now n c.index-new-number.result c.loop-number-test.true c.index-new-number.is in
    let was = item_at c.args.old.now n c.index-old-number.result (omega (arith, c.loop-number-test.true, c.requires.same)) c.index-old-number.is in
    elim c.if-not-is_same.branch [
      | then-not-is_same+in_ok-change_at w ↦
          let cs = w.deref-then-not-is_same.ensures.value ∙ here in
          let step = w.in_ok-change_at.ensures.lists (mixed n new old) (mixed (n + 1) new old) (mixed_here new old n ∙ sym cs) (λ k apart. mixed_others new old n k apart)
          c.loop-number.invariant.read c.loop-number.invariant.read_marks in
          subst (IsMixed c.args.task.now c.args.guess.now.marks.items (n + 1) new old) (sym w.guess-is) (record {
            guess = w.in_ok-change_at.ensures.guess;
            marks = w.in_ok-change_at.ensures.marks ∙ c.loop-number.invariant.marks;
            read = step.0;
            read_marks = step.1;
          })
      | else-not-is_same w ↦
          let same = sym here ∙ sym c.deref.ensures.value ∙ told_same c.is_same.result _ w.if-not-is_same.false c.is_same.ensures
          ∙ c.deref-in-loop-number.ensures.value ∙ was in
          subst (IsMixed c.args.task.now c.args.guess.now.marks.items (n + 1) new old) (sym w.guess-is) (record {
            guess = c.loop-number.invariant.guess;
            marks = c.loop-number.invariant.marks;
            read = read_same (mixed n new old) (mixed (n + 1) new old) g.symbols.items (λ k. sym (mixed_same new old n same k)) c.loop-number.invariant.read;
            read_marks = marks_same d.symbols d.rules (mixed n new old) (mixed (n + 1) new old) (length g.symbols.items) g.marks.items (λ k. sym (mixed_same new old n same k)) c.loop-number.invariant.read_marks;
          })
    ]
