-- What a term is not, its tree is not.
use Rattle.std.proofs.Common.{◌≡◌, Box, Global, refl}
use Rattle.wh_types.specs.Ty.{Ty}
use Rattle.wh_types.specs.declared.simple_type.SimpleType.{SimpleType}
use Rattle.wh_terms.specs.Tree.{Tm, lam, app}
use Rattle.wh_terms.specs.Erase.{tm}
use Rattle.wh_terms.specs.declared.term.Term.{Term, Lam, App}
use Rattle.wh_terms.specs.declared.term.Term.TheVariants.{Bound, Free, Fun, Meta', Lam', App'}

pub no_lam : (u : Term) → ((k : SimpleType) (b : Box Term Global) → u ≡ Lam k b → ⊥) → (a : Ty) (t : Tm) → tm u ≡ lam a t → ⊥
no_lam (Bound i) h a t e = absurd (cc)
no_lam (Free x k) h a t e = absurd (cc)
no_lam (Fun f) h a t e = absurd (cc)
no_lam (Meta' z shape all) h a t e = absurd (cc)
no_lam (Lam' k p v) h a t e = h k (record { ptr = p.ptr; alloc = p.alloc; value = v }) refl
no_lam (App' p v q w) h a t e = absurd (cc)

pub no_app : (u : Term) → ((b c : Box Term Global) → u ≡ App b c → ⊥) → (t v : Tm) → tm u ≡ app t v → ⊥
no_app (Bound i) h t v e = absurd (cc)
no_app (Free x k) h t v e = absurd (cc)
no_app (Fun f) h t v e = absurd (cc)
no_app (Meta' z shape all) h t v e = absurd (cc)
no_app (Lam' k p w) h t v e = absurd (cc)
no_app (App' p w q x) h t v e = h (record { ptr = p.ptr; alloc = p.alloc; value = w }) (record { ptr = q.ptr; alloc = q.alloc; value = x }) refl
