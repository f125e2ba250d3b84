-- Printing types.
use Rattle.std.proofs.Common.{◌≡◌, ℕ, ◌+◌, ◌<◌, List, [], ◌++◌, length, get_or, refl, sym, ap, subst, ◌∙◌}
use Rattle.std.specs.Prelude.{codes}
use Rattle.std.proofs.lemmas.List.{get_or_default}
use Rattle.wh_types.specs.Ty.{Ty, sort, ◌⇒◌}
use Rattle.wh_text.specs.Spelling.{put_type, put_part}
use Rattle.wh_text.specs.Pushes.{Pushes}
use Rattle.wh_text.proofs.PrintLemmas.{Leaves, push_bytes, push_then, push_same}
use Rattle.wh_system.specs.Canonical.{raw_type_of}
use Rattle.wh_system_print.proofs.ListPrinting.{goes_on}

-- the measure of a recursion over types: a part has less weight than the whole
abbrev pub weight : Ty → ℕ
weight (sort s) = 0
weight (a ⇒ b) = 1 + (weight a + weight b)

-- the first argument with an arrow, and the type that is left
arrow-put : (sorts : List (List ℕ)) (a b : Ty) (r : List ℕ) → put_part (raw_type_of sorts a) (codes "->" ++ put_type (raw_type_of sorts b) r) ≡ put_type (raw_type_of sorts (a ⇒ b)) r
arrow-put sorts a (sort s) r = refl
arrow-put sorts a (b ⇒ c) r = refl

pub arrow_pushed : (sorts : List (List ℕ)) (t a b : Ty) (old x y z : List ℕ) (all : List ℕ → List ℕ) → t ≡ (a ⇒ b) → Leaves old x (put_type (raw_type_of sorts t)) all
    → Pushes x y (put_part (raw_type_of sorts a)) → z ≡ y ++ codes "->" → Leaves old z (put_type (raw_type_of sorts b)) all
arrow_pushed sorts t a b old x y z all is left part arrow =
    let both = push_then x y z (put_part (raw_type_of sorts a)) (λ r. codes "->" ++ r) part (push_bytes y z (codes "->") arrow) in
    goes_on old x z (put_type (raw_type_of sorts t)) (λ r. put_part (raw_type_of sorts a) (codes "->" ++ r)) (put_type (raw_type_of sorts b)) all
    (λ r. ap (λ u. put_type (raw_type_of sorts u) r) is ∙ sym (arrow-put sorts a b r)) left both

-- the sort at the end
pub sort_pushed : (sorts : List (List ℕ)) (t : Ty) (s : ℕ) (old x y name d : List ℕ) (all : List ℕ → List ℕ) → t ≡ sort s → s < length sorts → name ≡ get_or sorts s d → y ≡ x ++ name
    → Leaves old x (put_type (raw_type_of sorts t)) all → Pushes old y all
sort_pushed sorts t s old x y name d all is within named e left =
    let there : name ≡ get_or sorts s [] = named ∙ get_or_default sorts s d [] within in
    let pushed : Pushes x y (put_type (raw_type_of sorts (sort s))) = push_bytes x y (get_or sorts s []) (e ∙ ap (λ n. x ++ n) there) in
    record { behind = λ r. pushed.behind r ∙ ap (λ u. x ++ put_type (raw_type_of sorts u) r) (sym is) ∙ left.behind r }

-- a sort as a part
pub part_alone : (sorts : List (List ℕ)) (t : Ty) (s : ℕ) (a b : List ℕ) → t ≡ sort s → Pushes a b (put_type (raw_type_of sorts t)) → Pushes a b (put_part (raw_type_of sorts t))
part_alone sorts t s a b is pushed =
    subst (λ u. Pushes a b (put_part (raw_type_of sorts u))) (sym is)
    (push_same a b (put_type (raw_type_of sorts (sort s))) (put_part (raw_type_of sorts (sort s))) (λ r. refl) (subst (λ u. Pushes a b (put_type (raw_type_of sorts u))) is pushed))

-- a functional type as a part
pub part_enclosed : (sorts : List (List ℕ)) (t d e : Ty) (a b c f : List ℕ) → t ≡ (d ⇒ e) → b ≡ a ++ codes "(" → Pushes b c (put_type (raw_type_of sorts t)) → f ≡ c ++ codes ")"
    → Pushes a f (put_part (raw_type_of sorts t))
part_enclosed sorts t d e a b c f is opens inner closes =
    let T : List ℕ → List ℕ = put_type (raw_type_of sorts (d ⇒ e)) in
    let inside = push_then b c f T (λ r. codes ")" ++ r) (subst (λ u. Pushes b c (put_type (raw_type_of sorts u))) is inner) (push_bytes c f (codes ")") closes) in
    let whole = push_then a b f (λ r. codes "(" ++ r) (λ r. T (codes ")" ++ r)) (push_bytes a b (codes "(") opens) inside in
    subst (λ u. Pushes a f (put_part (raw_type_of sorts u))) (sym is) (push_same a f (λ r. codes "(" ++ T (codes ")" ++ r)) (put_part (raw_type_of sorts (d ⇒ e))) (λ r. refl) whole)
