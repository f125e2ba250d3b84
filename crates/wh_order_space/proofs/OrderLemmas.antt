-- Counts of symbols, and the tables of their bits.
use Rattle.std.proofs.Common.{◌≡◌, ℕ, ◌≤◌, List, length, get_or, ap, ap₂, sym, ◌∙◌, arith}
use Rattle.std.specs.Global.{Vec}
use Rattle.wh_types.specs.Ty.{Ty}
use Rattle.wh_types.specs.Erase.{ty, tys}
use Rattle.wh_types.specs.declared.simple_type.SimpleType.{SimpleType}
use Rattle.wh_terms.specs.Erase.{symbols}
use Rattle.wh_terms.specs.Typing.{Symbols}
use Rattle.wh_terms.specs.declared.rule.Signature.{Signature}
use Rattle.wh_order_space.specs.Bits.{first_bit}
use Rattle.wh_order_space.specs.Circuited.{AreFirstBits}
use Rattle.wh_order_space.specs.Spotted.{types_in}
use Rattle.wh_order_space.proofs.SideLemmas.{mapped_length}

-- how many symbols there are
pub funs_count : (s : Signature) (S : Symbols) (items : List SimpleType) (n : ℕ) → symbols s ≡ S → items ≡ s.funs → n ≡ length items → n ≡ length S.funs
funs_count s S items n same list count = count ∙ ap length list ∙ sym (mapped_length ty s.funs) ∙ ap (λ (S : Symbols). length S.funs) same

-- the table of first bits
pub first_are : (lists : List (Vec SimpleType)) (scopes : List (List Ty)) (firsts : List ℕ) (w u : ℕ) → types_in lists ≡ scopes → w ≡ u
    → ((n : ℕ) → n ≤ length lists → get_or firsts n 0 ≡ first_bit w (types_in lists) n) → AreFirstBits u scopes firsts
first_are lists scopes firsts w u types width each n within =
    let long : length scopes ≡ length lists = ap length (sym types) ∙ mapped_length (λ (l : Vec SimpleType). tys l.items) lists in
    each n (omega (arith, within, long)) ∙ ap₂ (λ w l. first_bit w l n) width types
