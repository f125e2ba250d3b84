-- The data that `Readings` of the program stand for.
use Rattle.wh_hopoly.specs.Erase.{interpretations}
use Rattle.wh_polycheck.specs.SideResults.{marks_of}
use Rattle.wh_polycheck.specs.Readings.{ReadingsData}
use Rattle.wh_polycheck.specs.declared.marks.Readings.{Readings}

-- the readings that `Readings` stand for
abbrev pub readings_data : Readings → ReadingsData
readings_data r = record { symbols = interpretations r.symbols.now; marks = marks_of r.marks.now }
