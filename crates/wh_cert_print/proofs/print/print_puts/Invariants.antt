use Rattle.std.proofs.Common.{drop, map}
use Rattle.wh_text.proofs.PrintLemmas.{Leaves}
use Rattle.wh_cert.specs.Text.{put_puts}
use Rattle.wh_cert.specs.Said.{said_put}
use Rattle.wh_cert_print.proofs.print.print_puts.Given as goal

-- the rest of the list is left to push
abbrev pub invariant-loop-put : goal.invariant-loop-put
invariant-loop-put l = Leaves l.initial.out l.out (put_puts (map said_put (drop l.put-index l.puts))) (put_puts (map said_put l.puts))
