use Rattle.std.proofs.Common.{◌≡◌, ◌≤◌, drop}
use Rattle.wh_text.specs.Chars.{is_digit, AllPass}
use Rattle.wh_text.specs.Words.{NoLeadingZero, number_from}
use Rattle.wh_text.proofs.cut.numeral.Given as goal

-- the value so far goes on to the value of all digits
abbrev pub invariant-loop-digit : goal.invariant-loop-digit
invariant-loop-digit l = record {
  small : l.value ≤ 65535;
  goes_on : number_from l.value (drop l.digit-index l.digits) ≡ number_from 0 l.digits;
  rest : AllPass is_digit (drop l.digit-index l.digits);
  proper : NoLeadingZero l.digits;
}
