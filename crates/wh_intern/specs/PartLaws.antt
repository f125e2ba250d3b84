-- The test of nodes decides that they are equal, so equal parts hash alike.
use Rattle.std.specs.Prelude.{ℕ, ◌≡◌, ◌==◌, ◌&&◌, Bool, true, false, IsTrue}
use Rattle.std.specs.Str.{bytes_eq}
use Rattle.std.specs.Cmp.{IsEquivalence}
use Rattle.std.specs.Cmp.Lexicographic.{bytes_decides}
use Rattle.std.proofs.Common.{refl, sym, ap, ap₂, ◌∙◌, eqb-true, eq-eqb}
use Rattle.wh_types.specs.Ty.{Ty, same_ty}
use Rattle.wh_terms.proofs.TypeTests.{same_ty-self, same_ty-equal}
use Rattle.wh_intern.specs.declared.part.Part.{Part}
use Rattle.wh_intern.specs.Parts.{PartTree, bound, free, fun, meta, lam, app, part_tree, same_part_tree, same_part, hashed_tree, hashed}

both_true : (x y : Bool) → (x && y) ≡ true → (x ≡ true) × (y ≡ true)
both_true true y e = (refl, e)
both_true false y e = absurd (cc)

both_so : (x y : Bool) → x ≡ true → y ≡ true → (x && y) ≡ true
both_so true y e f = f
both_so false y e f = absurd (cc)

pub part_tree_self : (a : PartTree) → same_part_tree a a ≡ true
part_tree_self (bound i) = eq-eqb i i refl
part_tree_self (free x a) = both_so _ _ (eq-eqb x x refl) (same_ty-self a)
part_tree_self (fun f) = eq-eqb f f refl
part_tree_self (meta z ns) = both_so _ _ (eq-eqb z z refl) ((bytes_decides ns ns).1 refl)
part_tree_self (lam a n) = both_so _ _ (eq-eqb n n refl) (same_ty-self a)
part_tree_self (app m n) = both_so _ _ (eq-eqb m m refl) (eq-eqb n n refl)

pub part_tree_equal : (a b : PartTree) → same_part_tree a b ≡ true → a ≡ b
part_tree_equal (bound i) (bound j) e = ap bound (eqb-true i j e)
part_tree_equal (free x a) (free y b) e =
    let h = both_true (x == y) (same_ty a b) e in ap₂ free (eqb-true x y h.0) (same_ty-equal a b h.1)
part_tree_equal (fun f) (fun g) e = ap fun (eqb-true f g e)
part_tree_equal (meta y ms) (meta z ns) e =
    let h = both_true (y == z) (bytes_eq ms ns) e in ap₂ meta (eqb-true y z h.0) ((bytes_decides ms ns).0 h.1)
part_tree_equal (lam a m) (lam b n) e =
    let h = both_true (m == n) (same_ty a b) e in ap₂ lam (same_ty-equal a b h.1) (eqb-true m n h.0)
part_tree_equal (app k m) (app l n) e =
    let h = both_true (k == l) (m == n) e in ap₂ app (eqb-true k l h.0) (eqb-true m n h.1)
part_tree_equal (bound i) (free y b) e = absurd (cc)
part_tree_equal (bound i) (fun g) e = absurd (cc)
part_tree_equal (bound i) (meta z ns) e = absurd (cc)
part_tree_equal (bound i) (lam b n) e = absurd (cc)
part_tree_equal (bound i) (app l n) e = absurd (cc)
part_tree_equal (free x a) (bound j) e = absurd (cc)
part_tree_equal (free x a) (fun g) e = absurd (cc)
part_tree_equal (free x a) (meta z ns) e = absurd (cc)
part_tree_equal (free x a) (lam b n) e = absurd (cc)
part_tree_equal (free x a) (app l n) e = absurd (cc)
part_tree_equal (fun f) (bound j) e = absurd (cc)
part_tree_equal (fun f) (free y b) e = absurd (cc)
part_tree_equal (fun f) (meta z ns) e = absurd (cc)
part_tree_equal (fun f) (lam b n) e = absurd (cc)
part_tree_equal (fun f) (app l n) e = absurd (cc)
part_tree_equal (meta y ms) (bound j) e = absurd (cc)
part_tree_equal (meta y ms) (free x b) e = absurd (cc)
part_tree_equal (meta y ms) (fun g) e = absurd (cc)
part_tree_equal (meta y ms) (lam b n) e = absurd (cc)
part_tree_equal (meta y ms) (app l n) e = absurd (cc)
part_tree_equal (lam a m) (bound j) e = absurd (cc)
part_tree_equal (lam a m) (free y b) e = absurd (cc)
part_tree_equal (lam a m) (fun g) e = absurd (cc)
part_tree_equal (lam a m) (meta z ns) e = absurd (cc)
part_tree_equal (lam a m) (app l n) e = absurd (cc)
part_tree_equal (app k m) (bound j) e = absurd (cc)
part_tree_equal (app k m) (free y b) e = absurd (cc)
part_tree_equal (app k m) (fun g) e = absurd (cc)
part_tree_equal (app k m) (meta z ns) e = absurd (cc)
part_tree_equal (app k m) (lam b n) e = absurd (cc)

pub part_tree_decides : (a b : PartTree) → (same_part_tree a b ≡ true → a ≡ b) × (a ≡ b → same_part_tree a b ≡ true)
part_tree_decides a b = (part_tree_equal a b, λ e. ap (same_part_tree a) (sym e) ∙ part_tree_self a)

one : (x y : Bool) → (x ≡ true → y ≡ true) → (y ≡ true → x ≡ true) → x ≡ y
one true y f g = sym (f refl)
one false true f g = g refl
one false false f g = refl

turned : (a b : PartTree) → same_part_tree a b ≡ true → same_part_tree b a ≡ true
turned a b e = (part_tree_decides b a).1 (sym (part_tree_equal a b e))

pub part_equiv : IsEquivalence same_part
part_equiv = record {
  refl = λ x. part_tree_self (part_tree x);
  symm = λ x y. one _ _ (turned (part_tree x) (part_tree y)) (turned (part_tree y) (part_tree x));
  congr = λ x y z e. ap (λ a. same_part_tree a (part_tree z)) (part_tree_equal (part_tree x) (part_tree y) e);
}

pub same_hashed : (x y : Part) → IsTrue (same_part x y) → hashed x ≡ hashed y
same_hashed x y e = ap hashed_tree (part_tree_equal (part_tree x) (part_tree y) e)

-- a test of types beside equal numbers is the test of both
pub typed_test : (r : Bool) (x y : ℕ) (a b : Ty) → (IsTrue r → a ≡ b) × (a ≡ b → IsTrue r) → x ≡ y → r ≡ ((x == y) && same_ty a b)
typed_test true x y a b h e = sym (both_so _ _ (eq-eqb x y e) (ap (same_ty a) (sym (h.0 refl)) ∙ same_ty-self a))
typed_test false x y a b h e = one _ _ (λ f. absurd (cc)) (λ f. let so = both_true (x == y) (same_ty a b) f in h.1 (same_ty-equal a b so.1))
