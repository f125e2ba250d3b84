-- Canonical texts worked by hand.
use Rattle.std.proofs.Common.{◌≡◌, [], ◌∷◌, refl}
use Rattle.std.specs.Prelude.{codes}
use Rattle.std.specs.Fmt.{digits}
use Rattle.wh_types.specs.Ty.{sort, ◌⇒◌}
use Rattle.wh_terms.specs.Tree.{bound, free, fun, meta, lam, app, none, more}
use Rattle.wh_text.specs.Spelling.{spelled}
use Rattle.wh_system.specs.Canonical.{Names, raw_of}

-- over a sort `nat`, symbols `s`, `g` and `ap`, and meta-variables `F` and `X`
names : Names
names = record { sorts = codes "nat" ∷ []; funs = codes "s" ∷ codes "g" ∷ codes "ap" ∷ []; metas = codes "F" ∷ codes "X" ∷ [] }

-- an abstraction under a symbol, applied to a meta-variable
left_side : spelled (raw_of names (app (app (fun 2) (lam (sort 0) (meta 0 (more (bound 0) none)))) (meta 1 none))) ≡ codes "(ap (\\$0:nat.F[$0]) X)"
unfolding names digits
left_side = refl

-- a meta-variable with an argument
right_side : spelled (raw_of names (meta 0 (more (app (fun 1) (meta 1 none)) none))) ≡ codes "F[(g X)]"
unfolding names digits
right_side = refl

-- binders are numbered from the outside, and a functional type stands in parentheses
two_binders : spelled (raw_of names (lam (sort 0) (lam (sort 0 ⇒ sort 0) (app (bound 0) (app (app (free 7 (sort 0 ⇒ (sort 0 ⇒ sort 0))) (bound 1)) (bound 1)))))) ≡ codes "(\\$0:nat.(\\$1:(nat->nat).($1 (%7:(nat->nat->nat) $0 $0))))"
unfolding names digits
two_binders = refl
