use Rattle.wh_proof.proofs.OneNode.{one_node_said}
use Rattle.wh_proof.proofs.laws.lines_say_one_node.Goals as goal

pub returns : goal.returns
returns c = λ d line a b made says also. one_node_said d line a b made.fun_names_distinct says also
