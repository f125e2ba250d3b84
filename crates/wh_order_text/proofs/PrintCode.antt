-- What the printers of inferences and filters append, one after another.
use Rattle.std.proofs.Common.{◌≡◌, ℕ, ◌+◌, ◌<◌, ◌≤◌, List, [], ◌∷◌, ◌++◌, length, get_or, drop, Bool, true, false, IsTrue, ◌↔◌, ◌==◌, codes, subst, refl, sym, ap, ◌∙◌, arith}
use Rattle.std.proofs.lemmas.Bool.{true≢false, eqb-true}
use Rattle.std.proofs.lemmas.List.{drop_more, drop_all}
use Rattle.std.specs.Fmt.{decimal}
use Rattle.wh_text.specs.Pushes.{Pushes}
use Rattle.wh_text.proofs.PrintLemmas.{push_bytes, push_byte, push_then, push_same, Leaves}
use Rattle.wh_order_inference.specs.Inferences as m
use Rattle.wh_order_inference.specs.InferenceText.{Form, alone, with_parts, with_place, form, sign, put_place, put_list, put_inference, put_parts, put_more}
use Rattle.wh_order_inference.specs.FilterText.{keeps, picks, put_filter, put_places}
use Rattle.wh_order_inference.specs.Said.{letter, inference, inferences}
use Rattle.wh_order_inference.specs.declared.inference.Inference.{Inference, Inference', out-Inference, outs-Inference', items_shown-the_row-Inference-0}
use Rattle.wh_order_text.specs.SignedParts.{put_each}
use Rattle.wh_order_text.proofs.InferenceCode.{parts_row-items}

-- inferences

inference_is : (i : Inference) → inference i ≡ m.infer (letter (out-Inference i).letter) (out-Inference i).place (inferences (out-Inference i).parts)
inference_is (Inference' l n shape all) =
    rw (outs-Inference' l n shape all) (ap (λ (is : m.Inferences). m.infer (letter l) n is) (parts_row-items _ all ∙ ap inferences (sym (items_shown-the_row-Inference-0 shape all))))

pub inference_pushes : (i : Inference) (a b c d : List ℕ) (x : ℕ) → x ≡ sign (letter (out-Inference i).letter) → b ≡ a ++ x ∷ [] → Pushes b c (put_place (form (letter (out-Inference i).letter)) (out-Inference i).place) → Pushes c d (put_list (form (letter (out-Inference i).letter)) (inferences (out-Inference i).parts)) → Pushes a d (put_inference (inference i))
inference_pushes i a b c d x is first second third =
    let l : m.Letter = letter (out-Inference i).letter in
    let ps : m.Inferences = inferences (out-Inference i).parts in
    subst (λ (j : m.Inference). Pushes a d (put_inference j)) (sym (inference_is i))
    (push_then a b d (λ r. sign l ∷ r) (λ r. put_place (form l) (out-Inference i).place (put_list (form l) ps r)) (push_byte a b (sign l) (first ∙ ap (λ (y : ℕ). a ++ y ∷ []) is))
    (push_then b c d (put_place (form l) (out-Inference i).place) (put_list (form l) ps) second third))

pub list_alone : (f : Form) (is : m.Inferences) (a : List ℕ) → f ≡ alone → Pushes a a (put_list f is)
list_alone f is a e = subst (λ (g : Form). Pushes a a (put_list g is)) (sym e) (record { behind = λ r. refl })

listed : (f : Form) (is : m.Inferences) (a c : List ℕ) → (f ≡ alone → ⊥) → Pushes a c (λ r. 40 ∷ put_parts is r) → Pushes a c (put_list f is)
listed alone is a c some p = absurd (some refl)
listed with_parts is a c some p = p
listed with_place is a c some p = p

pub not_alone : (b : Bool) (f : Form) → (IsTrue b ↔ (f ≡ alone)) → b ≡ false → f ≡ alone → ⊥
not_alone b f says other e = true≢false (sym (says.1 e) ∙ other)

pub list_empty : (f : Form) (xs ys : List Inference) (a b : List ℕ) → (f ≡ alone → ⊥) → ys ≡ xs → (length ys == 0) ≡ true → b ≡ a ++ codes "()" → Pushes a b (put_list f (inferences xs))
list_empty f xs [] a b some same none signs =
    subst (λ (zs : List Inference). Pushes a b (put_list f (inferences zs))) same (listed f m.no_parts a b some (push_bytes a b (codes "()") signs))
list_empty f xs (y ∷ ys) a b some same none signs = absurd (omega (arith, eqb-true (length (y ∷ ys)) 0 none))

each_more : (is : m.Inferences) (r : List ℕ) → put_each 44 is (41 ∷ r) ≡ put_more is r
each_more m.no_parts r = refl
each_more (m.more_parts i is) r = ap (λ (s : List ℕ). 44 ∷ put_inference i s) (each_more is r)

pub list_full : (f : Form) (xs ys : List Inference) (a b c : List ℕ) → (f ≡ alone → ⊥) → ys ≡ xs → (length ys == 0) ≡ false → Pushes a b (put_each 40 (inferences xs)) → c ≡ b ++ 41 ∷ [] → Pushes a c (put_list f (inferences xs))
list_full f [] [] a b c some same full parts closes = absurd (true≢false full)
list_full f [] (y ∷ ys) a b c some same full parts closes = absurd cc
list_full f (x ∷ xs) ys a b c some same full parts closes =
    listed f (inferences (x ∷ xs)) a c some
    (push_same a c (λ r. put_each 40 (inferences (x ∷ xs)) (41 ∷ r)) (λ r. 40 ∷ put_parts (inferences (x ∷ xs)) r)
    (λ r. ap (λ (s : List ℕ). 40 ∷ put_inference (inference x) s) (each_more (inferences xs) r))
    (push_then a b c (put_each 40 (inferences (x ∷ xs))) (λ r. 41 ∷ r) parts (push_byte b c 41 closes)))

pub each_next : (old a b c : List ℕ) (whole : List ℕ → List ℕ) (xs : List Inference) (i : ℕ) (x : Inference) (sign : ℕ) → Leaves old a (put_each sign (inferences (drop i xs))) whole → i < length xs → x ≡ get_or xs i x → b ≡ a ++ sign ∷ [] → Pushes b c (put_inference (inference x)) → Leaves old c (put_each 44 (inferences (drop (i + 1) xs))) whole
each_next old a b c whole xs i x sign left below is first part =
    let next : drop i xs ≡ x ∷ drop (i + 1) xs = drop_more xs i x below ∙ ap (λ (y : Inference). y ∷ drop (i + 1) xs) (sym is) in
    let one = push_then a b c (λ r. sign ∷ r) (put_inference (inference x)) (push_byte a b sign first) part in
    record { behind = λ r. one.behind (put_each 44 (inferences (drop (i + 1) xs)) r) ∙ ap (λ (ys : List Inference). a ++ put_each sign (inferences ys) r) (sym next) ∙ left.behind r }

pub each_end : (old a : List ℕ) (whole : List ℕ → List ℕ) (xs : List Inference) (i : ℕ) (sign : ℕ) → Leaves old a (put_each sign (inferences (drop i xs))) whole → length xs ≤ i → Pushes old a whole
each_end old a whole xs i sign left past =
    record { behind = λ r. ap (λ (ys : List Inference). a ++ put_each sign (inferences ys) r) (sym (drop_all i xs past)) ∙ left.behind r }

-- filters

pub places_next : (old a b c : List ℕ) (whole : List ℕ → List ℕ) (xs : List ℕ) (i x : ℕ) → Leaves old a (put_places (drop i xs)) whole → i < length xs → x ≡ get_or xs i x → b ≡ a ++ 32 ∷ [] → c ≡ b ++ decimal x → Leaves old c (put_places (drop (i + 1) xs)) whole
places_next old a b c whole xs i x left below is space number =
    let next : drop i xs ≡ x ∷ drop (i + 1) xs = drop_more xs i x below ∙ ap (λ (y : ℕ). y ∷ drop (i + 1) xs) (sym is) in
    let one = push_then a b c (λ r. 32 ∷ r) (λ r. decimal x ++ r) (push_byte a b 32 space) (push_bytes b c (decimal x) number) in
    record { behind = λ r. one.behind (put_places (drop (i + 1) xs) r) ∙ ap (λ (ys : List ℕ). a ++ put_places ys r) (sym next) ∙ left.behind r }

pub places_end : (old a : List ℕ) (whole : List ℕ → List ℕ) (xs : List ℕ) (i : ℕ) → Leaves old a (put_places (drop i xs)) whole → length xs ≤ i → Pushes old a whole
places_end old a whole xs i left past =
    record { behind = λ r. ap (λ (ys : List ℕ). a ++ put_places ys r) (sym (drop_all i xs past)) ∙ left.behind r }

pub keeps_pushes : (p : ℕ) (ns : List ℕ) (a b c d : List ℕ) → b ≡ a ++ codes "keep " → c ≡ b ++ decimal p → Pushes c d (put_places ns) → Pushes a d (put_filter (keeps p ns))
keeps_pushes p ns a b c d word number places =
    push_then a b d (λ r. codes "keep " ++ r) (λ r. decimal p ++ put_places ns r) (push_bytes a b (codes "keep ") word)
    (push_then b c d (λ r. decimal p ++ r) (put_places ns) (push_bytes b c (decimal p) number) places)

pub picks_pushes : (n : ℕ) (a b c : List ℕ) → b ≡ a ++ codes "pick " → c ≡ b ++ decimal n → Pushes a c (put_filter (picks n))
picks_pushes n a b c word number =
    push_then a b c (λ r. codes "pick " ++ r) (λ r. decimal n ++ r) (push_bytes a b (codes "pick ") word) (push_bytes b c (decimal n) number)
