-- What may be there: two that are there are one, and what is made of parts has its parts.
use Rattle.std.proofs.Common.{◌≡◌, Option, Some, None, option_map, refl}
use Rattle.std.specs.Prelude.{option_and_then}
use Rattle.wh_system_parts.specs.Naming.{both}

pub some_same : {A : Type 0} {a b : A} → Some a ≡ Some b → a ≡ b
some_same e = cc

pub none_some : {A : Type 0} {a : A} → ◌≡◌ {A = Option A} None (Some a) → ⊥
none_some e = cc

pub both_parts : {A B C : Type 0} (f : A → B → C) (o : Option A) (q : Option B) (c : C) → both f o q ≡ Some c
    → (a : A) × (b : B) × (o ≡ Some a) × (q ≡ Some b) × (f a b ≡ c)
both_parts f (Some a) (Some b) c e = (a, b, refl, refl, some_same e)
both_parts f (Some a) None c e = absurd (none_some e)
both_parts f None (Some b) c e = absurd (none_some e)
both_parts f None None c e = absurd (none_some e)

pub and_then_parts : {A B C : Type 0} (f : A → B → C) (o : Option A) (q : Option B) (c : C) → option_and_then (λ a. option_map (f a) q) o ≡ Some c
    → (a : A) × (b : B) × (o ≡ Some a) × (q ≡ Some b) × (f a b ≡ c)
and_then_parts f (Some a) (Some b) c e = (a, b, refl, refl, some_same e)
and_then_parts f (Some a) None c e = absurd (none_some e)
and_then_parts f None q c e = absurd (none_some e)

pub map_part : {A B : Type 0} (f : A → B) (o : Option A) (b : B) → option_map f o ≡ Some b → (a : A) × (o ≡ Some a) × (f a ≡ b)
map_part f (Some a) b e = (a, refl, some_same e)
map_part f None b e = absurd (none_some e)
