use Rattle.std.proofs.Common.{ap, length}
use Rattle.std.proofs.lemmas.Result.{IfOk-weaker}
use Rattle.wh_order_inference.specs.Inferences.{part, lower, first_less, spine_parts, body, variable, meta_part}
use Rattle.wh_order_inference.specs.Said.{letter}
use Rattle.wh_order_node.specs.FilteringView.{filtering_data}
use Rattle.wh_order.specs.Precedences.{order_of}
use Rattle.wh_order.proofs.SymbolGoals.{symbol_above, above_unheaded}
use Rattle.wh_order.proofs.letters.above_goals.Goals as goal

pub returns-in-Sub : goal.returns-in-Sub
returns-in-Sub c =
    IfOk-weaker c.by_part.result _ _
    (λ r h. symbol_above (filtering_data c.args.filters.now) c.args.from c.args.two.now.next c.args.place c.in-Some.high c.args.two.now.left.now c.args.two.now.right.now (letter c.args.letter) part r c.in-Some.ensures
    (ap letter c.in-Sub.is) (λ f high_of. h (length (filtering_data c.args.filters.now).symbols) f c.args.from (order_of (filtering_data c.args.filters.now)))) c.by_part.ensures

pub returns-in-Prec : goal.returns-in-Prec
returns-in-Prec c =
    IfOk-weaker c.by_lower.result _ _
    (λ r h. symbol_above (filtering_data c.args.filters.now) c.args.from c.args.two.now.next c.args.place c.in-Some.high c.args.two.now.left.now c.args.two.now.right.now (letter c.args.letter) lower r c.in-Some.ensures
    (ap letter c.in-Prec.is) h) c.by_lower.ensures

pub returns-in-Lex : goal.returns-in-Lex
returns-in-Lex c =
    IfOk-weaker c.by_first_less.result _ _
    (λ r h. symbol_above (filtering_data c.args.filters.now) c.args.from c.args.two.now.next c.args.place c.in-Some.high c.args.two.now.left.now c.args.two.now.right.now (letter c.args.letter) first_less r c.in-Some.ensures
    (ap letter c.in-Lex.is) h) c.by_first_less.ensures

pub returns-in-App : goal.returns-in-App
returns-in-App c =
    IfOk-weaker c.by_spine.result _ _
    (λ r h. symbol_above (filtering_data c.args.filters.now) c.args.from c.args.two.now.next c.args.place c.in-Some.high c.args.two.now.left.now c.args.two.now.right.now (letter c.args.letter) spine_parts r c.in-Some.ensures
    (ap letter c.in-App.is) (λ f high_of. h (length (filtering_data c.args.filters.now).symbols) f (order_of (filtering_data c.args.filters.now)))) c.by_spine.ensures

pub returns-in-Bind : goal.returns-in-Bind
returns-in-Bind c =
    IfOk-weaker c.by_body.result _ _
    (λ r h. symbol_above (filtering_data c.args.filters.now) c.args.from c.args.two.now.next c.args.place c.in-Some.high c.args.two.now.left.now c.args.two.now.right.now (letter c.args.letter) body r c.in-Some.ensures
    (ap letter c.in-Bind.is) (λ f high_of. h (length (filtering_data c.args.filters.now).symbols) f (order_of (filtering_data c.args.filters.now)))) c.by_body.ensures

pub returns-in-Var : goal.returns-in-Var
returns-in-Var c =
    IfOk-weaker c.by_variable.result _ _
    (λ r h. symbol_above (filtering_data c.args.filters.now) c.args.from c.args.two.now.next c.args.place c.in-Some.high c.args.two.now.left.now c.args.two.now.right.now (letter c.args.letter) variable r c.in-Some.ensures
    (ap letter c.in-Var.is) (λ f high_of. h (length (filtering_data c.args.filters.now).symbols) f (order_of (filtering_data c.args.filters.now)))) c.by_variable.ensures

pub returns-in-Meta : goal.returns-in-Meta
returns-in-Meta c =
    IfOk-weaker c.by_meta.result _ _
    (λ r h. symbol_above (filtering_data c.args.filters.now) c.args.from c.args.two.now.next c.args.place c.in-Some.high c.args.two.now.left.now c.args.two.now.right.now (letter c.args.letter) meta_part r c.in-Some.ensures
    (ap letter c.in-Meta.is) (λ f high_of. h (length (filtering_data c.args.filters.now).symbols) f (order_of (filtering_data c.args.filters.now)))) c.by_meta.ensures

pub returns-in-None : goal.returns-in-None
returns-in-None c =
    above_unheaded (filtering_data c.args.filters.now) c.args.from c.args.two.now.next c.args.place c.args.two.now.left.now c.args.two.now.right.now (letter c.args.letter) c.in-None.ensures
