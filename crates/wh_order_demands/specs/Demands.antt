-- `holds`: whether bits meet a demand.
use Rattle.std.specs.Prelude.{ℕ, Bool, true, false, ◌&&◌, ◌||◌, not}
use Rattle.wh_order_demands.specs.declared.demand.Demand.{Demand}
use Rattle.wh_order_demands.specs.declared.demand.Demand.TheVariants.{Always, Never, Bit, NoBit, Both', Either'}

-- bits with these values meet the demand
abbrev pub holds : (ℕ → Bool) → Demand → Bool
holds v Always = true
holds v Never = false
holds v (Bit x) = v x
holds v (NoBit x) = not (v x)
holds v (Both' p a q b) = holds v a && holds v b
holds v (Either' p a q b) = holds v a || holds v b
