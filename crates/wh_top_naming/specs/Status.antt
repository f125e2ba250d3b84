-- The exit status of each answer, as a number.
use Rattle.std.specs.Prelude.{ℕ}
use Rattle.wh_answer.specs.declared.report.Report.{Report}
use Rattle.wh_answer.specs.declared.report.Report.TheVariants.{Yes, No, Rejected, Maybe, Refused, BadWords, ReadFault, OutOfMemory, TooLong, Overflow, TooLarge}
use Rattle.wh_top_naming.specs.declared.status.Status as status
use Rattle.wh_top_naming.specs.declared.status.Status.TheVariants as statuses

abbrev pub number_of_status : status.Status → ℕ
number_of_status statuses.Answered = 0
number_of_status statuses.Rejected = 1
number_of_status statuses.BadWords = 2
number_of_status statuses.Refused = 3
number_of_status statuses.ReadFault = 4
number_of_status statuses.WriteFault = 5
number_of_status statuses.NoMemory = 6
number_of_status statuses.TooLong = 7
number_of_status statuses.TooBig = 8

abbrev pub status_of : Report → status.Status
status_of Yes = statuses.Answered
status_of No = statuses.Answered
status_of (Rejected r) = statuses.Rejected
status_of (Maybe c) = statuses.Answered
status_of (Refused word at) = statuses.Refused
status_of BadWords = statuses.BadWords
status_of (ReadFault role) = statuses.ReadFault
status_of OutOfMemory = statuses.NoMemory
status_of (TooLong role) = statuses.TooLong
status_of (Overflow k) = statuses.TooBig
status_of (TooLarge k) = statuses.TooBig
