-- The stack of the reader of terms, as its code keeps it.
use Rattle.std.proofs.Common.{◌≡◌, ℕ, suc, ◌+◌, ◌<◌, true, nat_lt, ◌==◌, ◌&&◌, List, [], ◌∷◌, ◌++◌, length, Option, Some, None, MatchOption, IsSome, ◌↔◌, refl, sym, ap, ◌∙◌, arith}
use Rattle.std.specs.Option.{option_to_list}
use Rattle.std.proofs.lemmas.Bool.{false≢true, ne_eqb, cond-true, cond-false, lt-ltb, le-ltb, cases_lt}
use Rattle.std.proofs.Common.{⊎_elim}
use Rattle.wh_text.specs.Erase.{rtms}
use Rattle.wh_text.specs.RawTree.{RTm, spine, RTms}
use Rattle.wh_text.specs.declared.raw.RawTerm.{RawTerm}
use Rattle.wh_cert.specs.TermLimits.{term_count}
use Rattle.wh_cert_parts.specs.TermMachine.{Stack, base, in_spine, wanted, closed, at, failed, level, add_term, after}
use Rattle.wh_cert_parts.specs.TermViews.{framed, framed_in, term_stack}
use Rattle.wh_cert_parts.specs.declared.term_reader.Frame.{Frame}
use Rattle.wh_cert_parts.specs.declared.term_reader.Frame.TheVariants.{Head, Spine, Body}
use Rattle.wh_cert_parts.proofs.RawLaws.{rtms_count}

framed_push : (fs : Stack) (xs : List Frame) (x : Frame) → framed_in fs (xs ++ x ∷ []) ≡ framed x (framed_in fs xs)
framed_push fs [] x = refl
framed_push fs (y ∷ ys) x = framed_push (framed y fs) ys x

pub term_push : (old new : List Frame) (x : Frame) → new ≡ old ++ x ∷ [] → term_stack new ≡ framed x (term_stack old)
term_push old new x e = ap term_stack e ∙ framed_push base old x

level_more : (x : Frame) (fs : Stack) → level (framed x fs) ≡ suc (level fs)
level_more Head fs = refl
level_more (Spine h ts) fs = refl
level_more (Body n a) fs = refl

framed_level : (fs : Stack) (xs : List Frame) → level (framed_in fs xs) ≡ length xs + level fs
framed_level fs [] = omega arith
framed_level fs (x ∷ xs) = omega (arith, framed_level (framed x fs) xs, level_more x fs)

pub level_is : (xs : List Frame) → level (term_stack xs) ≡ length xs
level_is xs = omega (arith, framed_level base xs)

below_next : (n m : ℕ) → nat_lt n m ≡ nat_lt (suc n) (suc m)
below_next n m =
    ⊎_elim (λ (l : n < m). lt-ltb n m l ∙ sym (lt-ltb (suc n) (suc m) (omega arith))) (λ l. le-ltb n m l ∙ sym (le-ltb (suc n) (suc m) (omega arith))) (cases_lt n m)

pub next_level : (xs : List Frame) → nat_lt (suc (level (term_stack xs))) 200 ≡ nat_lt (length xs + 1) 200
next_level xs =
    let more : suc (level (term_stack xs)) ≡ length xs + 1 = omega (arith, level_is xs) in
    ap (λ (n : ℕ). nat_lt n 200) more

pub next_argument : (xs : List RawTerm) → nat_lt (suc (term_count (rtms xs))) 32 ≡ nat_lt (length xs) 31
next_argument xs = sym (below_next (term_count (rtms xs)) 31) ∙ ap (λ (n : ℕ). nat_lt n 31) (rtms_count xs)

pub term_pop : (old new : List Frame) (r : Option Frame) (n : ℕ) → n ≡ length old → old ≡ new ++ option_to_list r → (IsSome r ↔ (0 < n)) → MatchOption r (term_stack old ≡ base) (λ f. term_stack old ≡ framed f (term_stack new))
term_pop [] new None n k e v = refl
term_pop (x ∷ xs) new None n k e v = absurd (false≢true (v.1 (omega arith)))
term_pop old new (Some x) n k e v = term_push new old x e

-- one more argument has ended, and another one is to come
pub argument_joins : (new fs : Stack) (h : RTm) (old ts : RTms) (t : RTm) (b : ℕ) → new ≡ in_spine h ts fs → ts ≡ add_term old t → (b ≡ 41 → ⊥) → ((b == 32) && nat_lt (suc (term_count old)) 32) ≡ true → at new wanted ≡ after (in_spine h old fs) t b
argument_joins new fs h old ts t b e grows other room =
    ap (λ (gs : Stack). at gs wanted) (e ∙ ap (λ (us : RTms). in_spine h us fs) grows)
    ∙ sym (cond-false (b == 41) (at fs (closed (spine h (add_term old t) 0))) _ (ne_eqb b 41 other) ∙ cond-true ((b == 32) && nat_lt (suc (term_count old)) 32) (at (in_spine h (add_term old t) fs) wanted) failed room)
