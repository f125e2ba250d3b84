use Rattle.std.proofs.Common.{sym, ◌∙◌, ap}
use Rattle.wh_terms.specs.Tree.{none, more}
use Rattle.wh_terms.specs.Erase.{tm}
use Rattle.wh_step.specs.Contracta.{result_of}
use Rattle.wh_step.specs.Extents.{Knows}
use Rattle.wh_step.proofs.ExtentLemmas.{measures_same, act_nothing, act_opened}
use Rattle.wh_step.proofs.measuring.contractum_extent.Goals as goal

pub returns-in_ok-value-in-Opened : goal.returns-in_ok-value-in-Opened
returns-in_ok-value-in-Opened c =
    let u = tm c.in-Opened.argument.now in
    let t = tm c.in-Opened.body.now in
    let value : Knows u c.in_ok-value-in-Opened.value = c.in_ok-value-in-Opened.ensures u (measures_same u _ c.extent_of.result (sym (act_nothing u)) (c.extent_of.ensures none 0 tt)) in
    measures_same (result_of c.args.contractum.now) _ c.extent_of-in-Opened.result (ap result_of c.in-Opened.is ∙ sym (act_opened u t)) (c.extent_of-in-Opened.ensures (more u none) 0 (value, tt))

pub returns-in-Instance : goal.returns-in-Instance
returns-in-Instance c = measures_same (result_of c.args.contractum.now) _ c.value_extent.result (ap result_of c.in-Instance.is) (c.value_extent.ensures 0)
