use Rattle.wh_polycheck.specs.ReadingsView.{readings_data}
use Rattle.wh_poly_guesses.specs.Tasks.{guess_data}
use Rattle.wh_poly_guesses.proofs.GuessLemmas.{readings_are, readings_in}
use Rattle.wh_poly_guesses.proofs.NodeLemmas.{weighs}
use Rattle.wh_poly_guesses.proofs.node.listing_node_of_guess.Goals as goal

pub weighed-requires-clause-readings : goal.weighed-requires-clause-readings
weighed-requires-clause-readings c =
    readings_in c.args.task.now c.readings-readings.result c.args.guess.now c.requires.guess c.readings-readings.ensures.symbols c.readings-readings.ensures.marks

pub returns : goal.returns
returns c =
    let r = c.readings-readings.result in
    weighs c.args.task.now c.args.usable (readings_data r) (guess_data c.args.guess.now) c.weighed.result
    (readings_are r c.args.guess.now c.readings-readings.ensures.symbols c.readings-readings.ensures.marks) c.weighed.ensures
