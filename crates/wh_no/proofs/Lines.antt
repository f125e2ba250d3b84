-- Lines of what is put for variables are right, or one is the first that is not.
use Rattle.std.proofs.Common.{◌≡◌, ℕ, zero, suc, ◌+◌, ◌<◌, ◌≤◌, ◌⊎◌, inl, inr, List, [], ◌∷◌, ◌++◌, length, take, Option, Some, None, slice_get, refl, ap, ◌∙◌, subst, arith, add-one}
use Rattle.std.proofs.lemmas.List.{take_all}
use Rattle.std.proofs.lemmas.List.Elements.{All-nil}
use Rattle.wh_types.specs.Ty.{Ty}
use Rattle.wh_terms.specs.Tree.{Tm}
use Rattle.wh_system_parts.specs.Naming.{type_meant}
use Rattle.wh_system.specs.Systems.{SystemData}
use Rattle.wh_system_making.specs.Resolve.{Means}
use Rattle.wh_system.proofs.TypedDecided.{Decided, below_decided, decided_by, both_decided, sorts_decided}
use Rattle.wh_pairs.proofs.ByPlace.{some_one}
use Rattle.wh_cert.specs.Written as written
use Rattle.wh_no.specs.Claim.{Put}
use Rattle.wh_no.specs.Valid.{IsPutOver}
use Rattle.wh_no.specs.Meaning.{SaysPut}
use Rattle.wh_no.specs.Faults.{IsAbove, IsRightLine, IsFirstBadLine, AreRight}
use Rattle.wh_no.proofs.PutLemmas.{right_next, above_line}
use Rattle.wh_pairs.proofs.Searches.{SomeOrNone, not_decided, not_refuted, least_below}
use Rattle.wh_no.proofs.Meant.{has_type_decided, means_or_not}

-- the line says a typed put
abbrev SaysTypedPut : SystemData → written.Put → Type 0
SaysTypedPut d line = (p : Put) × SaysPut d line p × IsPutOver d.symbols p

abbrev SaysNoPut : SystemData → written.Put → Type 0
SaysNoPut d line = (p : Put) → SaysPut d line p → IsPutOver d.symbols p → ⊥

abbrev PutOrNot : SystemData → written.Put → Type 0
PutOrNot d line = SaysTypedPut d line ⊎ SaysNoPut d line

-- where the line's type and term are these
abbrev OfType : SystemData → Ty → Tm → Type 0
OfType d a v = IsPutOver d.symbols (record { number = 0; kind = a; value = v })

of_type_decided : (d : SystemData) (a : Ty) (v : Tm) → Decided (OfType d a v)
of_type_decided d a v =
    decided_by (λ (sorts, typed). record { sorts_are_there = sorts; typed = typed }) (λ over. (over.sorts_are_there, over.typed))
    (both_decided (sorts_decided d.symbols.sorts a) (has_type_decided d.symbols v a))

over_same : (d : SystemData) (p : Put) (a : Ty) (v : Tm) → p.kind ≡ a → p.value ≡ v → IsPutOver d.symbols p → OfType d a v
over_same d p a v kind tree over =
    subst (OfType d a) tree (subst (λ b. OfType d b p.value) kind (record { sorts_are_there = over.sorts_are_there; typed = over.typed }))

put_or_not : (d : SystemData) (line : written.Put) → PutOrNot d line
put_or_not d line = go (type_meant d.sort_names line.kind) refl (means_or_not d line.term)
  where
    with_parts : (a : Ty) (v : Tm) → type_meant d.sort_names line.kind ≡ Some a → Means d line.term v → Decided (OfType d a v) → PutOrNot d line
    with_parts a v kind means (inl over) =
        inl (
          record { number = line.number; kind = a; value = v },
          record { number = refl; kind = kind; value = means },
          record { sorts_are_there = over.sorts_are_there; typed = over.typed },
        )
    with_parts a v kind means (inr not) = inr (λ p says over. not (over_same d p a v (some_one says.kind kind) (some_one says.value.named means.named) over))

    go : (o : Option Ty) → type_meant d.sort_names line.kind ≡ o → SomeOrNone (Means d line.term) → PutOrNot d line
    go None e means = inr (λ p says over. let kind = says.kind in cc (e, kind))
    go (Some a) e (inr none) = inr (λ p says over. none p.value says.value)
    go (Some a) e (inl (v, means)) = with_parts a v e means (of_type_decided d a v)

above_decided : (lines : List written.Put) (i : ℕ) (line : written.Put) → Decided (IsAbove lines i line)
above_decided lines zero line = inl (λ j before e at. absurd (omega (arith, e)))
above_decided lines (suc i) line = go (slice_get lines i) refl
  where
    here : (j : ℕ) → j + 1 ≡ suc i → i ≡ j
    here j e = omega (arith, e)

    go : (o : Option written.Put) → slice_get lines i ≡ o → Decided (IsAbove lines (suc i) line)
    go None e = inl (λ j before is at. let same : slice_get lines i ≡ Some before = ap (slice_get lines) (here j is) ∙ at in absurd (cc (e, same)))
    go (Some b) e =
        decided_by
        (λ less j before is at. subst (λ (q : written.Put). q.number < line.number) (some_one e (ap (slice_get lines) (here j is) ∙ at)) less)
        (λ above. above i b (omega arith) e)
        (below_decided b.number line.number)

right_line_decided : (d : SystemData) (lines : List written.Put) (i : ℕ) → Decided (IsRightLine d lines i)
right_line_decided d lines i = go (slice_get lines i) refl
  where
    at_line : (line : written.Put) → slice_get lines i ≡ Some line → PutOrNot d line → Decided (IsAbove lines i line) → Decided (IsRightLine d lines i)
    at_line line here (inr none) above = inr (λ right.
        none right.put (subst (λ l. SaysPut d l right.put) (some_one right.here here) right.says) right.over)
    at_line line here (inl put) (inr not) = inr (λ right. not (subst (IsAbove lines i) (some_one right.here here) right.above))
    at_line line here (inl (p, says, over)) (inl above) = inl (record { line = line; here = here; put = p; says = says; over = over; above = above })

    go : (o : Option written.Put) → slice_get lines i ≡ o → Decided (IsRightLine d lines i)
    go None e = inr (λ right. let here = right.here in cc (e, here))
    go (Some line) e = at_line line e (put_or_not d line) (above_decided lines i line)

-- right lines say puts

right_front : (d : SystemData) (lines : List written.Put) → ((i : ℕ) → i < length lines → IsRightLine d lines i) → (i : ℕ) → i ≤ length lines
    → (puts : List Put) × AreRight d (take i lines) puts
right_front d lines right zero within = ([], record { says = tt; over = All-nil (IsPutOver d.symbols); increasing = λ i j e less past. absurd (omega arith) })
right_front d lines right (suc i) within =
    let (puts, before) = right_front d lines right i (omega arith) in
    let here = right i (omega arith) in (
      puts ++ here.put ∷ [],
      subst (λ n. AreRight d (take n lines) (puts ++ here.put ∷ [])) (add-one i)
          (right_next d lines i here.line puts here.put here.here before here.says here.over (above_line d lines i here.line puts (omega arith) before.says here.above)),
    )

right_all : (d : SystemData) (lines : List written.Put) → ((i : ℕ) → i < length lines → IsRightLine d lines i) → (puts : List Put) × AreRight d lines puts
right_all d lines right =
    let (puts, are) = right_front d lines right (length lines) (omega arith) in
    (puts, subst (λ ls. AreRight d ls puts) (take_all (length lines) lines (omega arith)) are)

pub right_or_bad : (d : SystemData) (lines : List written.Put) → ((puts : List Put) × AreRight d lines puts) ⊎ ((i : ℕ) × IsFirstBadLine d lines i)
right_or_bad d lines = elim (least_below (λ i. IsRightLine d lines i → ⊥) (λ i. not_decided (right_line_decided d lines i)) (length lines)) [
  | inl (i, within, (bad, least)) ↦ inr (
    i,
    record {
      within = within;
      before = λ j less. not_refuted (right_line_decided d lines j) (least j less);
      bad = bad;
    },
  )
  | inr none ↦ inl (right_all d lines (λ i within. not_refuted (right_line_decided d lines i) (none i within)))
]
