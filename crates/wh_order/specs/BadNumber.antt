-- The number of the bad inference that a fault of the check names.
use Rattle.std.specs.Prelude.{ℕ}
use Rattle.wh_order.specs.declared.check.BadInference.{BadInference}

abbrev pub number_of_bad : BadInference → ℕ
number_of_bad e = e.at
