-- The extended arguments of a call, one after another, and how many nodes the call has.
use Rattle.std.proofs.Common.{◌≡◌, ℕ, zero, suc, ◌+◌, ◌<◌, ◌≤◌, List, [], ◌∷◌, ◌++◌, length, map, take, get_or, ap, ap₂, subst, sym, ◌∙◌, arith}
use Rattle.std.proofs.lemmas.List.{map-append, map_more, take_all}
use Rattle.wh_types.specs.Limits.{greatest_size}
use Rattle.wh_terms.specs.Tree.{Tm, fun, app, spine}
use Rattle.wh_terms.specs.Typing.{Symbols, Declared}
use Rattle.wh_terms.specs.Measures.{size}
use Rattle.wh_terms.specs.Erase.{tm}
use Rattle.wh_terms.specs.declared.term.Term.{Term}
use Rattle.wh_order_extended.specs.Long.{long}
use Rattle.wh_order_extended.specs.ExtendedSides.{extended_call, marked_number}
use Rattle.wh_order_sides.specs.declared.room.Built.{Built}
use Rattle.wh_order_sides.specs.Room.{IsBuilt}
use Rattle.wh_order_sides.specs.PairSides.{AreWholeArguments}

-- how many nodes arguments add to a spine
abbrev pub total : List Tm → ℕ
total [] = 0
total (t ∷ ts) = 1 + size t + total ts

size-spine : (h : Tm) (ts : List Tm) → size (spine h ts) ≡ size h + total ts
size-spine h [] = omega arith
size-spine h (t ∷ ts) = omega (arith, size-spine (app h t) ts)

total-append : (ts us : List Tm) → total (ts ++ us) ≡ total ts + total us
total-append [] us = omega arith
total-append (t ∷ ts) us = omega (arith, total-append ts us)

module _ (S : Symbols) (M : List Declared) where
  abbrev pub extended : List Term → List Tm
  extended xs = map (long S M []) (map tm xs)

  call-size : (f : ℕ) (xs : List Term) → size (extended_call S M f (map tm xs)) ≡ 1 + total (extended xs)
  call-size f xs = size-spine (fun (marked_number S f)) (extended xs)

  extended-next : (xs : List Term) (i : ℕ) (t : Term) → i < length xs → t ≡ get_or xs i t → extended (take (i + 1) xs) ≡ extended (take i xs) ++ long S M [] (tm t) ∷ []
  extended-next xs i t within e =
      ap (map (long S M [])) (map_more tm xs i t within ∙ ap (λ u. map tm (take i xs) ++ tm u ∷ []) (sym e))
      ∙ map-append (long S M []) (map tm (take i xs)) (tm t ∷ [])

  total-next : (xs : List Term) (i : ℕ) (t : Term) → i < length xs → t ≡ get_or xs i t → total (extended (take (i + 1) xs)) ≡ total (extended (take i xs)) + (1 + size (long S M [] (tm t)))
  total-next xs i t within e =
      let appended = total-append (extended (take i xs)) (long S M [] (tm t) ∷ []) in
      omega (arith, ap total (extended-next xs i t within e), appended)

  total-take : (xs : List Term) (n : ℕ) → total (extended (take n xs)) ≤ total (extended xs)
  total-take [] zero = omega arith
  total-take [] (suc n) = omega arith
  total-take (x ∷ xs) zero = omega arith
  total-take (x ∷ xs) (suc n) = omega (arith, total-take xs n)

  -- the terms are the first arguments, extended, and `left` more nodes there may be
  pub record AreFirst (xs : List Term) (left : ℕ) (us : List Term) : Type 0 where
    pub same : map tm us ≡ extended xs
    pub room : left + (1 + total (extended xs)) ≡ greatest_size

  pub first_none : (left : ℕ) (out : List Term) → out ≡ [] → left + 1 ≡ greatest_size → AreFirst [] left out
  first_none left out none one = record { same = ap (map tm) none; room = omega (arith, one) }

  pub first_next : (xs out new : List Term) (i left rest : ℕ) (t : Term) (a : Built) → i < length xs → t ≡ get_or xs i t → AreFirst (take i xs) left out
      → rest + 1 ≡ left → IsBuilt rest (long S M [] (tm t)) a → new ≡ out ++ a.term ∷ [] → AreFirst (take (i + 1) xs) a.room new
  first_next xs out new i left rest t a within e first one built pushed = record {
    same = ap (map tm) pushed ∙ map-append tm out (a.term ∷ []) ∙ ap₂ (λ l u. l ++ u ∷ []) first.same built.same ∙ sym (extended-next xs i t within e);
    room = omega (arith, first.room, one, built.left, total-next xs i t within e);
  }

  pub first_wide : (f : ℕ) (xs ts out : List Term) (i left : ℕ) (t : Term) → xs ≡ ts → i < length xs → t ≡ get_or xs i t → AreFirst (take i xs) left out
      → left < 1 + size (long S M [] (tm t)) → greatest_size < size (extended_call S M f (map tm ts))
  first_wide f xs ts out i left t from within e first wide =
      subst (λ (ys : List Term). greatest_size < size (extended_call S M f (map tm ys))) from
      (omega (arith, call-size f xs, first.room, wide, total-next xs i t within e, total-take xs (i + 1)))

  pub first_all : (f : ℕ) (xs ts us : List Term) (i left : ℕ) → xs ≡ ts → length xs ≤ i → AreFirst (take i xs) left us → AreWholeArguments S M f (map tm ts) us
  first_all f xs ts us i left from past first =
      subst (λ (ys : List Term). AreWholeArguments S M f (map tm ys) us) from (whole (subst (λ (ys : List Term). AreFirst ys left us) (take_all i xs past) first))
    where
      whole : AreFirst xs left us → AreWholeArguments S M f (map tm xs) us
      whole all = record { same = all.same; narrow = omega (arith, all.room, call-size f xs) }
