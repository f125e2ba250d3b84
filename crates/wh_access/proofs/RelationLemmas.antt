-- Tables of tests.
use Rattle.std.proofs.Common.{◌≡◌, ℕ, ◌<◌, Bool, true, false, List, get_or, ap, ◌∙◌}
use Rattle.std.proofs.lemmas.List.{get_or-replicate}
use Rattle.std.proofs.Math.ListN.{replicate}

pub unset : (xs : List Bool) (n i : ℕ) → xs ≡ replicate n false → i < n → get_or xs i false ≡ true → ⊥
unset xs n i same within here =
    let there : get_or xs i false ≡ false = ap (λ ys. get_or ys i false) same ∙ get_or-replicate n i false false within in
    cc
