-- The meta-variables for missing arguments.
use Rattle.std.proofs.Common.{◌≡◌, ℕ, ◌+◌, List, [], ◌∷◌, ◌++◌, ap, ◌∙◌, add-one, append_assoc}
use Rattle.std.proofs.lemmas.List.{map-append}
use Rattle.wh_types.specs.Ty.{Ty}
use Rattle.wh_terms.specs.Tree.{Tm, meta, none, app, spine}
use Rattle.wh_terms.specs.Erase.{tm, declared_meta, declared_metas}
use Rattle.wh_terms.specs.declared.rule.MetaDecl.{MetaDecl}
use Rattle.wh_terms.specs.declared.term.Term.{Term, Meta}
use Rattle.wh_terms.proofs.TermLemmas.{tm_meta}
use Rattle.wh_order_extended.specs.ExtendedSides.{added, added_from}

-- one meta-variable more
pub added_one : (old new : List MetaDecl) (d : MetaDecl) (c : Ty) (cs : List Ty) → new ≡ old ++ d ∷ [] → declared_meta d ≡ record { args = []; out = c }
    → declared_metas new ++ added cs ≡ declared_metas old ++ added (c ∷ cs)
added_one old new d c cs pushed is =
    ap (λ l. declared_metas l ++ added cs) pushed
    ∙ ap (λ l. l ++ added cs) (map-append declared_meta old (d ∷ []))
    ∙ append_assoc (declared_metas old) (declared_meta d ∷ []) (added cs)
    ∙ ap (λ x. declared_metas old ++ x ∷ added cs) is

-- one argument more
pub spine_one : (t : Tm) (n m : ℕ) (c : Ty) (cs : List Ty) → m ≡ n + 1 → spine (app t (meta n none)) (added_from m cs) ≡ spine t (added_from n (c ∷ cs))
spine_one t n m c cs e = ap (λ k. spine (app t (meta n none)) (added_from k cs)) (e ∙ add-one n)

pub meta_alone : (z : ℕ) (ts : List Term) → ts ≡ [] → tm (Meta z ts) ≡ meta z none
meta_alone z ts e = ap (λ us. tm (Meta z us)) e ∙ tm_meta z []
