-- What the walks that measure a contractum come to.
use Rattle.std.proofs.Common.{◌≡◌, ℕ, zero, suc, ◌+◌, ◌<◌, inl, inr, List, [], ◌∷◌, ◌++◌, length, take, get_or, Option, refl, ap, sym, ◌∙◌, subst, arith}
use Rattle.wh_terms.specs.Tree.{free, meta, Tms, none, more}
use Rattle.wh_terms.specs.Erase.{tm, tms}
use Rattle.wh_terms.specs.Entries.{bodies}
use Rattle.wh_terms.specs.Substitution.{act}
use Rattle.wh_terms.specs.Under.{ups, ups_free, moved}
use Rattle.wh_terms.specs.Value.{parameters}
use Rattle.wh_terms.specs.Valued.{valued, all_valued}
use Rattle.wh_terms.specs.declared.term.Term.{Term, Meta}
use Rattle.wh_terms.specs.declared.subst.MetaBody.{MetaBody}
use Rattle.wh_terms.proofs.TermLemmas.{join, tm_of_meta, tms_take_next}
use Rattle.wh_terms.proofs.UnderLemmas.{act_top}
use Rattle.wh_step.specs.declared.extent.Extent.{Extent}
use Rattle.wh_step.specs.Extents.{Knows, AllKnown}
use Rattle.wh_step.specs.Contracta.{TermsFor, AllTermsFor}

-- the bodies that the arguments of a meta-variable look at are terms

pub terms_meta : (bs : List MetaBody) (t : Term) (z : ℕ) (ts : List Term) → t ≡ Meta z ts → TermsFor bs (tm t) → AllTermsFor bs (tms ts)
terms_meta bs t z ts is h =
    let known : TermsFor bs (meta z (tms ts)) = subst (TermsFor bs) (tm_of_meta t z ts is) h in
    λ y o. known y (inr o)

terms-get : (bs : List MetaBody) (xs : List Term) (i : ℕ) (t : Term) → i < length xs → t ≡ get_or xs i t → AllTermsFor bs (tms xs) → TermsFor bs (tm t)
terms-get bs [] i t within e h = absurd (omega arith)
terms-get bs (x ∷ xs) zero t within e h = subst (λ u. TermsFor bs (tm u)) (sym e) (λ z o. h z (inl o))
terms-get bs (x ∷ xs) (suc i) t within e h = terms-get bs xs i t (omega arith) e (λ z o. h z (inr o))

pub terms_item : (bs : List MetaBody) (ts : List Term) (xs : List Term) (i : ℕ) (t : Term) → xs ≡ ts → i < length xs → t ≡ get_or xs i t → AllTermsFor bs (tms ts) → TermsFor bs (tm t)
terms_item bs ts xs i t from within e h = terms-get bs xs i t within e (subst (λ us. AllTermsFor bs (tms us)) (sym from) h)

-- the values of the arguments, one after another

known-join : (ts us : Tms) (es ds : List (Option Extent)) → AllKnown ts es → AllKnown us ds → AllKnown (join ts us) (es ++ ds)
known-join none us [] ds h k = k
known-join none us (e ∷ es) ds h k = absurd h
known-join (more t ts) us [] ds h k = absurd h
known-join (more t ts) us (e ∷ es) ds h k = (h.0, known-join ts us es ds h.1 k)

valued-join : (k : ℕ) (bs : List MetaBody) (ts us : Tms) → all_valued k (bodies bs) (join ts us) ≡ join (all_valued k (bodies bs) ts) (all_valued k (bodies bs) us)
valued-join k bs none us = refl
valued-join k bs (more t ts) us = ap (more (valued k (bodies bs) t)) (valued-join k bs ts us)

pub known_push : (k : ℕ) (bs : List MetaBody) (xs : List Term) (es ds : List (Option Extent)) (i : ℕ) (e : Option Extent) (t : Term) → AllKnown (all_valued k (bodies bs) (tms (take i xs))) es → ds ≡ es ++ e ∷ []
    → Knows (valued k (bodies bs) (tm t)) e → i < length xs → t ≡ get_or xs i t → AllKnown (all_valued k (bodies bs) (tms (take (i + 1) xs))) ds
known_push k bs xs es ds i e t so_far pushed here within is =
    let joined : all_valued k (bodies bs) (tms (take (i + 1) xs)) ≡ join (all_valued k (bodies bs) (tms (take i xs))) (more (valued k (bodies bs) (tm t)) none) =
    ap (all_valued k (bodies bs)) (tms_take_next xs i t within is) ∙ valued-join k bs (tms (take i xs)) (more (tm t) none) in
    subst (AllKnown (all_valued k (bodies bs) (tms (take (i + 1) xs)))) (sym pushed)
    (subst (λ ts. AllKnown ts (es ++ e ∷ [])) (sym joined) (known-join (all_valued k (bodies bs) (tms (take i xs))) (more (valued k (bodies bs) (tm t)) none) es (e ∷ []) so_far (here, tt)))

-- the value of a meta-application is its body with the values of the arguments
pub act_value : (k : ℕ) (bs : List MetaBody) (t : Term) (z : ℕ) (ts : List Term) (b : MetaBody) → t ≡ Meta z ts → bodies bs z ≡ record { arity = b.arity; tree = tm b.body }
    → valued k (bodies bs) (tm t) ≡ act (ups 0 (parameters (all_valued k (bodies bs) (tms ts)) (moved k))) (ups_free 0 free) (tm b.body)
act_value k bs t z ts b is body =
    ap (valued k (bodies bs)) (tm_of_meta t z ts is) ∙ ap (λ c. act (parameters (all_valued k (bodies bs) (tms ts)) (moved k)) free c.tree) body
    ∙ sym (act_top (parameters (all_valued k (bodies bs) (tms ts)) (moved k)) free (tm b.body))
