use Rattle.std.proofs.Common.{drop}
use Rattle.wh_text.proofs.PrintLemmas.{Leaves}
use Rattle.wh_cert.specs.Text.{put_path}
use Rattle.wh_cert_print.proofs.print.print_path.Given as goal

-- the rest of the list is left to push
abbrev pub invariant-loop-entry : goal.invariant-loop-entry
invariant-loop-entry l = Leaves l.initial.out l.out (put_path (drop l.entry-index l.path)) (put_path l.path)
