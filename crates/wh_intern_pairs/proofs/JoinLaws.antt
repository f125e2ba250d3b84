-- Trees that join a table, and numbers that keep their trees.
use Rattle.std.proofs.Common.{ℕ, ◌≡◌, ◌+◌, ◌<◌, List, [], ◌∷◌, ◌++◌, length, map, take, get_or, All, Contains, Some, slice_get, refl, sym, ap, ap₂, ◌∙◌, subst, arith}
use Rattle.std.proofs.lemmas.List.{append_assoc, append-nil, map-append}
use Rattle.std.proofs.lemmas.List.Elements.{All-append, All-get_or, All-weaker}
use Rattle.wh_terms.specs.Tree.{Tm}
use Rattle.wh_terms.specs.Erase.{tm}
use Rattle.wh_terms.specs.declared.term.Term.{Term}
use Rattle.wh_pairs.proofs.ListLemmas.{map_take}
use Rattle.wh_pairs.proofs.MemberLemmas.{image_there}
use Rattle.wh_polycheck.proofs.MoreInterpretations.{slice_get_front}
use Rattle.wh_intern.specs.Trees.{IsPart, Grows}
use Rattle.wh_intern_pairs.specs.NumberedSides.{AreNumbersOf, IsPartOfOne, Joins}

pub joins_none : (ts : List Tm) (P : Tm → Type 0) → Joins ts ts P
joins_none ts P = record {
  parts = [];
  behind = sym (append-nil ts);
  all = λ k d h. absurd (omega (arith, h));
}

pub joins_then : (a b c : List Tm) (P : Tm → Type 0) → Joins a b P → Joins b c P → Joins a c P
joins_then a b c P x y = record {
  parts = x.parts ++ y.parts;
  behind = y.behind ∙ ap (λ us. us ++ y.parts) x.behind ∙ append_assoc a x.parts y.parts;
  all = All-append P x.parts y.parts x.all y.all;
}

pub joins_as : (a b : List Tm) (P Q : Tm → Type 0) → Joins a b P → ((s : Tm) → P s → Q s) → Joins a b Q
joins_as a b P Q x f = record {
  parts = x.parts;
  behind = x.behind;
  all = All-weaker P Q f x.parts x.all;
}

pub joins_tree : (a b : List Tm) (t : Tm) (P : Tm → Type 0) → Grows a b t → ((s : Tm) → IsPart s t → P s) → Joins a b P
joins_tree a b t P g f = record {
  parts = g.parts;
  behind = g.behind;
  all = All-weaker (λ s. IsPart s t) P f g.parts g.all;
}

-- a number keeps its tree
pub number_kept : (a b : List Tm) (P : Tm → Type 0) (n : ℕ) (u : Tm) → Joins a b P → slice_get a n ≡ Some u → slice_get b n ≡ Some u
number_kept a b P n u j e = ap (λ ts. slice_get ts n) j.behind ∙ slice_get_front a j.parts n u e

pub numbers_kept : (a b : List Tm) (P : Tm → Type 0) (ns : List ℕ) (us : List Tm) → Joins a b P → AreNumbersOf a ns us → AreNumbersOf b ns us
numbers_kept a b P [] [] j e = refl
numbers_kept a b P [] (u ∷ us) j e = absurd (cc)
numbers_kept a b P (n ∷ ns) [] j e = absurd (cc)
numbers_kept a b P (n ∷ ns) (u ∷ us) j e =
    let here : slice_get a n ≡ Some u = cc in
    let rest : AreNumbersOf a ns us = cc in
    ap₂ (λ x xs. x ∷ xs) (number_kept a b P n u j here) (numbers_kept a b P ns us j rest)

-- one term of a list more
module _ (a b c : List Tm) (xs : List Term) (i : ℕ) (x : Term) (within : i < length xs) (is : x ≡ get_or xs i x) where
  part_of_item : (s : Tm) → IsPart s (tm x) → IsPartOfOne (map tm xs) s
  part_of_item s part = (tm x, image_there tm xs i x within is, part)

  pub joins_next : Joins a b (IsPartOfOne (map tm xs)) → Grows b c (tm x) → Joins a c (IsPartOfOne (map tm xs))
  joins_next j g =
      joins_then a b c (IsPartOfOne (map tm xs)) j (joins_tree b c (tm x) (IsPartOfOne (map tm xs)) g part_of_item)

  pub numbers_next : (ns ms : List ℕ) (n : ℕ) → AreNumbersOf b ns (map tm (take i xs)) → Grows b c (tm x) → slice_get c n ≡ Some (tm x)
      → ms ≡ ns ++ n ∷ [] → AreNumbersOf c ms (map tm (take (i + 1) xs))
  numbers_next ns ms n e g here pushed =
      let j = joins_tree b c (tm x) (IsPartOfOne (map tm xs)) g part_of_item in
      ap (map (slice_get c)) pushed ∙ map-append (slice_get c) ns (n ∷ [])
      ∙ ap₂ (λ l o. l ++ o ∷ []) (numbers_kept b c (IsPartOfOne (map tm xs)) ns (map tm (take i xs)) j e) here
      ∙ sym (ap (map (λ u. Some u)) (map_take tm xs i x within is) ∙ map-append (λ u. Some u) (map tm (take i xs)) (tm x ∷ []))

-- a member of a list of which all are P is P
pub of_all : (P : Tm → Type 0) (ts : List Tm) (s : Tm) → All P ts → Contains ts s → P s
of_all P ts s a (k, within, is) = subst P is (All-get_or P ts k s within a)
