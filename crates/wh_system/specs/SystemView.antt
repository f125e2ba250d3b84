-- The data that a `System` of the program stands for, without pointers.
use Rattle.wh_system.specs.declared.system.System.{System}
use Rattle.wh_system.specs.DataOf.{data_of}
use Rattle.wh_system.specs.Systems.{SystemData}

abbrev pub system_data : System → SystemData
system_data s = data_of s.names s.signature s.rules.items
