-- What the raw parts of a generated system say: that system.
use Rattle.std.proofs.Common.{◌≡◌, ℕ, ◌≤◌, None, sym, subst, ◌∙◌}
use Rattle.wh_system_parts.specs.Parts.{RParts}
use Rattle.wh_system_parts.specs.RuleTests.{refusal}
use Rattle.wh_system.specs.Systems.{SystemData}
use Rattle.wh_system_making.specs.Says.{Says}
use Rattle.wh_system_making.specs.Proper.{AreProper}
use Rattle.wh_system_making.proofs.SystemMade.{one_system}
use Rattle.wh_system_making.proofs.CanonicalLaw.{canonical_passes, canonical_says}
use Rattle.wh_gen.specs.Family.{gen_data}
use Rattle.wh_gen.specs.RawFamily.{raw_family}
use Rattle.wh_gen.proofs.FamilyMade.{family_made}
use Rattle.wh_gen.proofs.FamilyRaw.{canonical-family}
use Rattle.wh_gen.proofs.FamilyProper.{family_proper}

pub are_proper : (n : ℕ) (p : RParts) → n ≤ 200 → p ≡ raw_family n → AreProper p
are_proper n p few same = subst AreProper (sym same) (family_proper n few)

pub are_passed : (n : ℕ) (p : RParts) → n ≤ 200 → p ≡ raw_family n → refusal p ≡ None
are_passed n p few same = subst (λ q. refusal q ≡ None) (canonical-family n ∙ sym same) (canonical_passes (gen_data n) (family_made n few))

pub say_family : (n : ℕ) (p : RParts) (s : SystemData) → n ≤ 200 → p ≡ raw_family n → Says p s → s ≡ gen_data n
say_family n p s few same says =
    one_system (raw_family n) s (gen_data n) (subst (λ q. Says q s) same says) (subst (λ q. Says q (gen_data n)) (canonical-family n) (canonical_says (gen_data n) (family_made n few)))
