-- What the raw trees that the code makes stand for.
use Rattle.std.proofs.Common.{◌≡◌, ℕ, List}
use Rattle.wh_text.specs.RawTree.{RTy, RTys}
use Rattle.wh_text.specs.Erase.{rty, rtys}
use Rattle.wh_text.specs.declared.raw.RawType.{RawType}
use Rattle.wh_system_parts.specs.Erase.{rname, rmeta}
use Rattle.wh_system_parts.specs.declared.parts.RawName.{RawName}
use Rattle.wh_system_making.specs.CanonicalParts.{raw_name}
use Rattle.wh_gen.specs.RawFamily.{raw_meta}

pub rmeta_of : (raw : RawName) (args : List RawType) (kind : RawType) (name : List ℕ) (as_well : RTys) (out : RTy) → rname raw ≡ raw_name name → rtys args ≡ as_well → rty kind ≡ out
    → rmeta (record { name = raw; args = args; result = kind }) ≡ raw_meta name as_well out
rmeta_of raw args kind name as_well out named args_are kind_is =
    λ i. record { name = named i; args = args_are i; out = kind_is i }
