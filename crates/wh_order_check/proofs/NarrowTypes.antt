-- Types of a system have few arguments, and so have those of its marked symbols.
use Rattle.std.proofs.Common.{ℕ, zero, suc, ◌<◌, ◌≤◌, List, [], ◌∷◌, length, All, arith, ap}
use Rattle.std.specs.Prelude.{take, unwrap_or}
use Rattle.std.proofs.lemmas.List.Elements.{All-head, All-tail}
use Rattle.wh_types.specs.Ty.{Ty, sort, ◌⇒◌, arguments}
use Rattle.wh_terms.specs.Typing.{Symbols}
use Rattle.wh_terms.specs.Rules.{RewriteRule}
use Rattle.wh_system.specs.WellMade.{ArgumentsWithin, IsTypeOver}
use Rattle.wh_system.specs.Needs.{need_of}
use Rattle.wh_hopoly.specs.Evaluation.{type_at}
use Rattle.wh_polycheck.specs.Marks.{marked_types, marked_kind}
use Rattle.wh_polycheck.proofs.MoreInterpretations.{arguments_of_arrows}

few_arguments : (n : ℕ) (a : Ty) → ArgumentsWithin n a → length (arguments a) ≤ n
few_arguments n (sort s) within = omega arith
few_arguments n (a ⇒ b) within = omega (arith, within.0)

pub few_of_type : (n : ℕ) (a : Ty) → IsTypeOver n a → length (arguments a) < 4294967296
few_of_type n a is = omega (arith, few_arguments 32 a is.narrow)

few_at : (n : ℕ) (kinds : List Ty) (f : ℕ) → All (IsTypeOver n) kinds → length (arguments (type_at kinds f)) ≤ 32
few_at n [] f all = omega arith
few_at n (a ∷ kinds) zero all = few_arguments 32 a (All-head (IsTypeOver n) a kinds all).narrow
few_at n (a ∷ kinds) (suc f) all = few_at n kinds f (All-tail (IsTypeOver n) a kinds all)

take_few : (n : ℕ) (ts : List Ty) → length (take n ts) ≤ length ts
take_few zero ts = omega arith
take_few (suc n) [] = omega arith
take_few (suc n) (a ∷ ts) = omega (arith, take_few n ts)

pub few_of_mark : (S : Symbols) (rules : List RewriteRule) (f : ℕ) → All (IsTypeOver S.sorts) S.funs
    → length (arguments (marked_kind S rules f)) < 4294967296
few_of_mark S rules f all =
    let most = few_at S.sorts S.funs f all in
    let some = take_few (unwrap_or (need_of rules f) 0) (arguments (type_at S.funs f)) in
    let same = ap length (arguments_of_arrows (marked_types S rules f) 0) in
    omega (arith, most, some, same)
