-- What the walk over the widths of a side answers: how many places for arguments are left (ours).
use Rattle.std.specs.Prelude.{ℕ, ◌≡◌, ◌+◌, ◌-◌, None, Some, Result, MatchResult}
use Rattle.wh_types.specs.Limits.{most_arguments}
use Rattle.wh_text.specs.RawTree.{RTm, RTms}
use Rattle.wh_system_parts.specs.declared.fault.SystemFault.{SystemFault}
use Rattle.wh_system_parts.specs.Faults.{first_fault}
use Rattle.wh_system_parts.specs.Tests.{arguments_of, count_of, width_of_term, width_of_arguments}

-- no width is passed, and the number with the term's own arguments is 32; or the fault is that of the first test that
-- fails
abbrev pub HasSpare : RTm → Result ℕ SystemFault → Type 0
HasSpare t result = MatchResult result (λ left. (first_fault (width_of_term t) ≡ None) × (left + arguments_of t ≡ most_arguments))
    (λ fault. first_fault (width_of_term t) ≡ Some fault)

-- what the walk over some arguments answers, where `room` more arguments fit in their spine
abbrev pub LeavesRoom : ℕ → RTms → Result ℕ SystemFault → Type 0
LeavesRoom room ts result =
    MatchResult result (λ left. (first_fault (width_of_arguments (most_arguments - room) ts) ≡ None) × (left + count_of ts ≡ room))
    (λ fault. first_fault (width_of_arguments (most_arguments - room) ts) ≡ Some fault)
