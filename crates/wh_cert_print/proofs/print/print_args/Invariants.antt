use Rattle.std.proofs.Common.{drop, map}
use Rattle.wh_text.proofs.PrintLemmas.{Leaves}
use Rattle.wh_cert.specs.Text.{put_args}
use Rattle.wh_cert.specs.Said.{said_arg}
use Rattle.wh_cert_print.proofs.print.print_args.Given as goal

-- the rest of the list is left to push
abbrev pub invariant-loop-arg : goal.invariant-loop-arg
invariant-loop-arg l = Leaves l.initial.out l.out (put_args (map said_arg (drop l.arg-index l.args))) (put_args (map said_arg l.args))
