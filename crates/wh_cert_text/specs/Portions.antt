-- Several bytes given to a reader at once: how far they lead, and which items they end.
use Rattle.std.specs.Prelude.{ℕ, ◌≡◌, ◌+◌, ◌<◌, ◌≤◌, List, [], ◌∷◌, ◌++◌, length, take, Result, Ok, Err}
use Rattle.std.specs.Option.{option_map, option_to_list}
use Rattle.wh_types.specs.declared.want.Or.{Or}
use Rattle.wh_types.specs.declared.want.Or.TheVariants.{NoMemory, Because}
use Rattle.wh_cert.specs.Items.{Item}
use Rattle.wh_cert.specs.Said.{said_item}
use Rattle.wh_cert.specs.CertText.{Begins, FaultAt}
use Rattle.wh_cert.specs.declared.certificate.CertSyntax.{CertSyntax}
use Rattle.wh_cert_machines.specs.LineMachine.{Standing, run, start}
use Rattle.wh_cert_text.specs.ItemsRead.{ItemsIn}
use Rattle.wh_cert_text.specs.Feeding.{StandsFor, StopsAt}
use Rattle.wh_cert_text.specs.declared.items_out.Stretch.{Stretch}
use Rattle.wh_cert_text.specs.declared.items_out.Stretch.TheVariants.{On, Whole, Wrong}
use Rattle.wh_cert_text.specs.declared.cert_reader.Portion.{Portion}
use Rattle.wh_cert_text.specs.declared.cert_reader.CertReader.{CertReader}
use Rattle.wh_cert_machines.specs.declared.progress.Progress.TheVariants.{Refused}

-- no further than the bytes
abbrev pub IsWithin : List ℕ → Stretch → Type 0
IsWithin bytes On = Unit {0}
IsWithin bytes (Whole n i) = (0 < n) × (n ≤ length bytes)
IsWithin bytes (Wrong n) = n < length bytes

-- the bytes q add these items to those that stand whole in p
abbrev pub Adds : List ℕ → List ℕ → List Item → Type 0
Adds p q more = (is : List Item) → ItemsIn p is → ItemsIn (p ++ q) (is ++ more)

-- how far the bytes led behind p, where T holds of the place that they led to: by all of them, and no item is whole; by
-- n of them, and this item is whole; or the byte behind n of them is the first wrong one
abbrev pub HasRun : (Standing → Type 0) → List ℕ → List ℕ → Stretch → Type 0
HasRun T p bytes On = T (run start (p ++ bytes)) × Adds p bytes []
HasRun T p bytes (Whole n i) = T (run start (p ++ take n bytes)) × Adds p (take n bytes) (said_item i ∷ [])
HasRun T p bytes (Wrong n) = StopsAt (p ++ bytes) (length p + n)

-- at least one of the bytes
abbrev pub IsPortionOf : List ℕ → Portion → Type 0
IsPortionOf bytes portion = (0 < portion.taken) × (portion.taken ≤ length bytes)

-- what the reader has come to that was given these bytes behind p: it stands for those that it took, with the items
-- that they end; or they are refused
abbrev pub HasFed : List ℕ → List ℕ → CertReader → Result Portion (Or CertSyntax) → Type 0
HasFed p bytes new (Ok portion) =
    StandsFor new (p ++ take portion.taken bytes) × Begins (p ++ take portion.taken bytes)
    × Adds p (take portion.taken bytes) (option_to_list (option_map said_item portion.item))
HasFed p bytes new (Err NoMemory) = Unit {0}
HasFed p bytes new (Err (Because e)) = StandsFor new (p ++ bytes) × FaultAt (p ++ bytes) e.at × (Begins (p ++ bytes) → ⊥)

-- the reader refuses bytes behind the one that it refused
abbrev pub RefusesSome : CertReader → CertReader → Result Portion (Or CertSyntax) → Type 0
RefusesSome old new (Err (Because e)) = (e.at ≡ old.taken) × (new.taken ≡ old.taken) × (new.at ≡ Refused)
RefusesSome old new _ = ⊥
