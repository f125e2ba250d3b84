use Rattle.wh_system.specs.SystemView.{system_data}
use Rattle.wh_pairs.specs.Views.{pairs_data}
use Rattle.wh_top_judging.proofs.Streaming.{come_whole, text_judged, said_ok}
use Rattle.wh_top_judging.proofs.streamed.Judge.finish.Goals as goal

pub finish-requires-in-Ok : goal.finish-requires-in-Ok
finish-requires-in-Ok c =
    let d = system_data c.args.problem.now.system in
    let ps = pairs_data c.args.problem.now.pairs in
    let (bytes, has, few) = c.requires.few in
    let whole = come_whole d ps c.args.self.reader c.args.self.walk bytes has (c.in-Ok.ensures.whole bytes has.read few) in
    (d, ps, whole.0, whole.1.fits, whole.2)

pub told_of_check-requires : goal.told_of_check-requires
told_of_check-requires c =
    let d = system_data c.args.problem.now.system in
    let ps = pairs_data c.args.problem.now.pairs in
    let (bytes, has, few) = c.requires.few in
    let whole = come_whole d ps c.args.self.reader c.args.self.walk bytes has (c.in-Ok.ensures.whole bytes has.read few) in
    (ps, whole.0, c.finish-in-Ok.ensures d ps whole.0 whole.1.fits whole.2)

pub returns-in-Ok : goal.returns-in-Ok
returns-in-Ok c =
    let d = system_data c.args.problem.now.system in
    let ps = pairs_data c.args.problem.now.pairs in
    said_ok c.told_of_check.result _ _ c.told_of_check.ensures (λ report weighed. λ bytes has few.
    let whole = come_whole d ps c.args.self.reader c.args.self.walk bytes has (c.in-Ok.ensures.whole bytes has.read few) in
    text_judged d ps bytes whole.0 report whole.1 (weighed ps whole.0 (c.finish-in-Ok.ensures d ps whole.0 whole.1.fits whole.2)))
