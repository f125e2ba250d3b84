use Rattle.std.proofs.Common.{◌≡◌, ℕ, List, length}
use Rattle.wh_cert_text.specs.Feeding.{StandsFor}
use Rattle.wh_test_texts.proofs.feeding_rows.add_fed.Given as goal

-- the reader stands for as many bytes as were read
abbrev pub invariant-loop-byte : goal.invariant-loop-byte
invariant-loop-byte l = (p : List ℕ) × StandsFor l.reader p × (length p ≡ l.byte-index)
