-- The upgrade of a certificate: what one of version 1 becomes in version 2 (ours).
use Rattle.std.specs.Prelude.{ℕ, ◌==◌, cond, List, map, Option, Some, None}
use Rattle.wh_reduction_pairs.specs.TaskData.{numbers_from}
use Rattle.wh_cert.specs.Written.{Node, interpretations, Cert, yes, no}

-- a node of interpretations with these rules as those that are to be covered; any other node as it is
abbrev pub relisted : Option (List ℕ) → Node → Node
relisted usable (interpretations old funs marks rules pairs drop) = interpretations usable funs marks rules pairs drop
relisted usable x = x

-- the rules that a node of interpretations lists, or all rules where it lists none
abbrev pub listed_or_all : ℕ → Option (List ℕ) → Option (List ℕ)
listed_or_all rules (Some listed) = Some listed
listed_or_all rules None = Some (numbers_from 0 rules)

-- a node for a system with `rules` rules, as one of version 2: a node of interpretations that lists no rules lists all
-- of them
abbrev pub upgraded_node : ℕ → Node → Node
upgraded_node rules (interpretations usable funs marks lines pairs drop) =
    interpretations (listed_or_all rules usable) funs marks lines pairs drop
upgraded_node rules x = x

-- a certificate for such a system: a YES certificate of version 1 as one of version 2, any other as it is
abbrev pub upgraded : ℕ → Cert → Cert
upgraded rules (yes version ranks pairs nodes) =
    cond (version == 1) (yes 2 ranks pairs (map (upgraded_node rules) nodes)) (yes version ranks pairs nodes)
upgraded rules (no t steps at puts) = no t steps at puts
