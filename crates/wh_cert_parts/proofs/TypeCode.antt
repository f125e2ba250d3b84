-- The stack of the reader of types, as its code keeps it.
use Rattle.std.proofs.Common.{◌≡◌, ℕ, ◌+◌, ◌-◌, ◌<◌, true, not, ltb, ◌==◌, nat_lt, List, [], ◌∷◌, ◌++◌, length, get_or, take, Option, Some, None, MatchOption, IsSome, ◌↔◌, refl, sym, ap, ◌∙◌, arith}
use Rattle.std.specs.Option.{option_to_list}
use Rattle.std.proofs.lemmas.Bool.{false≢true, ltb-true, ne_eqb}
use Rattle.std.proofs.lemmas.List.{take_more}
use Rattle.std.proofs.Math.Seq.{take-length}
use Rattle.wh_text.specs.Erase.{rtys}
use Rattle.wh_text.specs.declared.raw.RawType.{RawType}
use Rattle.wh_cert_parts.specs.TypeMachine.{TypeStack, outside, inside, type_level, has_room, has_types}
use Rattle.wh_cert_parts.specs.TypeViews.{opened_in, type_stack}
use Rattle.wh_cert_parts.proofs.RawLaws.{rtys_count}

opened_push : (fs : TypeStack) (xs : List (List RawType)) (x : List RawType) → opened_in fs (xs ++ x ∷ []) ≡ inside (rtys x) (opened_in fs xs)
opened_push fs [] x = refl
opened_push fs (y ∷ ys) x = opened_push (inside (rtys y) fs) ys x

pub type_push : (old new : List (List RawType)) (x : List RawType) → new ≡ old ++ x ∷ [] → type_stack new ≡ inside (rtys x) (type_stack old)
type_push old new x e = ap type_stack e ∙ opened_push outside old x

opened_level : (fs : TypeStack) (xs : List (List RawType)) → type_level (opened_in fs xs) ≡ length xs + type_level fs
opened_level fs [] = omega arith
opened_level fs (x ∷ xs) = omega (arith, opened_level (inside (rtys x) fs) xs)

pub level_is : (xs : List (List RawType)) → type_level (type_stack xs) ≡ length xs
level_is xs = omega (arith, opened_level outside xs)

pub has_types_is : (xs : List RawType) → has_types (rtys xs) ≡ not (length xs == 0)
has_types_is [] = refl
has_types_is (x ∷ xs) = sym (ap not (ne_eqb (length (x ∷ xs)) 0 (λ e. omega arith)))

-- the innermost parenthesis is the last of the list
pub room_last : (xs : List (List RawType)) (x : List RawType) (as_are : List RawType) → true ≡ ltb 0 (length xs) → x ≡ get_or xs (length xs - 1) x → as_are ≡ x → nat_lt (length as_are) 64 ≡ has_room (type_stack xs)
room_last xs x as_are some is args =
    let long : 0 < length xs = ltb-true 0 (length xs) (sym some) in
    let all : length xs - 1 + 1 ≡ length xs = omega arith in
    let split : xs ≡ take (length xs - 1) xs ++ x ∷ [] = sym (take-length xs) ∙ ap (λ (n : ℕ). take n xs) (sym all) ∙ take_more xs (length xs - 1) x (omega arith) ∙ ap (λ (y : List RawType). take (length xs - 1) xs ++ y ∷ []) (sym is) in
    ap (λ (ys : List RawType). nat_lt (length ys) 64) args ∙ ap (λ (n : ℕ). nat_lt n 64) (sym (rtys_count x)) ∙ ap has_room (sym (type_push (take (length xs - 1) xs) xs x split))

pub type_pop : (old new : List (List RawType)) (r : Option (List RawType)) (n : ℕ) → n ≡ length old → old ≡ new ++ option_to_list r → (IsSome r ↔ (0 < n)) → MatchOption r (type_stack old ≡ outside) (λ args. type_stack old ≡ inside (rtys args) (type_stack new))
type_pop [] new None n k e v = refl
type_pop (x ∷ xs) new None n k e v = absurd (false≢true (v.1 (omega arith)))
type_pop old new (Some x) n k e v = type_push new old x e
