use Rattle.std.proofs.Common.{drop}
use Rattle.wh_terms.specs.Erase.{rewrite_rules}
use Rattle.wh_text.proofs.PrintLemmas.{Leaves}
use Rattle.wh_system.specs.SystemView.{system_data}
use Rattle.wh_system_print.specs.SystemText.{put_rules}
use Rattle.wh_system_print.proofs.rules.print_rules.Given as goal

-- the rules from here on are left to print
abbrev pub invariant-loop-k : goal.invariant-loop-k
invariant-loop-k l =
    Leaves l.initial.out l.out (put_rules (system_data l.system) l.k (rewrite_rules (drop l.k l.rule-items))) (put_rules (system_data l.system) 0 (rewrite_rules l.rule-items))
