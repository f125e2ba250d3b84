use Rattle.std.proofs.Common.{drop}
use Rattle.wh_text.proofs.PrintLemmas.{Leaves}
use Rattle.wh_cert.specs.Text.{put_blocks}
use Rattle.wh_cert_print.proofs.print.print_blocks.Given as goal

-- the rest of the list is left to push
abbrev pub invariant-loop-block : goal.invariant-loop-block
invariant-loop-block l = Leaves l.initial.out l.out (put_blocks (drop l.block-index l.parts)) (put_blocks l.parts)
