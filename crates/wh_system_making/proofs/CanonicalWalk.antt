-- The walk that makes canonical raw trees: one lemma for each list that it builds.
use Rattle.std.proofs.Common.{Box, Global, ◌⊎◌, inl, inr, ◌≡◌, ℕ, zero, suc, ◌+◌, ◌<◌, List, [], ◌∷◌, ◌++◌, length, take, get_or, refl, ap, ap₂, sym, subst, ◌∙◌, arith}
use Rattle.std.proofs.lemmas.List.{get_or_default}
use Rattle.wh_types.specs.Ty.{Ty, sort, ◌⇒◌, result_sort, SortsBelow}
use Rattle.wh_terms.specs.Tree.{Tm, meta, Tms, none as no_tms, more as more_tms}
use Rattle.wh_terms.specs.Erase.{tm, tms}
use Rattle.wh_terms.specs.declared.term.Term.{Term, Meta}
use Rattle.wh_terms.proofs.TermLemmas.{join, tms_take_next, tm_of_meta}
use Rattle.wh_text.specs.RawTree.{raw_type, RTys, no_types, more_types, RTm, named, meta as raw_meta, spine, RTms, none, more}
use Rattle.wh_text.specs.Erase.{rty, rtys, rtm, rtms}
use Rattle.wh_text.proofs.RawLemmas.{rtm_of_meta, rty_made}
use Rattle.wh_text.specs.declared.raw.RawBinder.{RawBinder}
use Rattle.wh_text.specs.declared.raw.RawTerm.{RawTerm, Named, Numbered, Free, Meta as RawMeta, Lam}
use Rattle.wh_text.specs.declared.raw.RawType.{RawType, roll-RawType}
use Rattle.wh_system.specs.Canonical.{Names, name_at, and_last, join_types, raw_type_of, raw_arguments_of, raw_below, each_raw_below, with_argument, IsNamedBelow, AreNamedBelow}

-- raw terms

pub rtms_last : (ts : List RawTerm) (t : RawTerm) → rtms (ts ++ t ∷ []) ≡ and_last (rtms ts) (rtm t)
rtms_last [] t = refl
rtms_last (u ∷ ts) t = ap (λ us. more (rtm u) us) (rtms_last ts t)

each-last : (n : Names) (d : ℕ) (ts : Tms) (t : Tm) → each_raw_below n d (join ts (more_tms t no_tms)) ≡ and_last (each_raw_below n d ts) (raw_below n d t)
each-last n d no_tms t = refl
each-last n d (more_tms u ts) t = ap (λ us. more (raw_below n d u) us) (each-last n d ts t)

pub each_next : (n : Names) (d : ℕ) (xs : List Term) (i : ℕ) (t : Term) (out ys : List RawTerm) (r : RawTerm) → i < length xs → t ≡ get_or xs i t
    → rtms out ≡ each_raw_below n d (tms (take i xs)) → rtm r ≡ raw_below n d (tm t) → ys ≡ out ++ r ∷ [] → rtms ys ≡ each_raw_below n d (tms (take (i + 1) xs))
each_next n d xs i t out ys r within is so_far here new =
    ap rtms new ∙ rtms_last out r ∙ ap (λ us. and_last us (rtm r)) so_far ∙ ap (and_last (each_raw_below n d (tms (take i xs)))) here
    ∙ sym (each-last n d (tms (take i xs)) (tm t)) ∙ ap (each_raw_below n d) (sym (tms_take_next xs i t within is))

-- what is named

named-get : (n : Names) (d : ℕ) (xs : List Term) (i : ℕ) (t : Term) → i < length xs → t ≡ get_or xs i t → AreNamedBelow n d (tms xs) → IsNamedBelow n d (tm t)
named-get n d [] i t within e all = absurd (omega arith)
named-get n d (x ∷ xs) zero t within e all = subst (λ u. IsNamedBelow n d (tm u)) (sym e) all.0
named-get n d (x ∷ xs) (suc i) t within e all = named-get n d xs i t (omega arith) e all.1

pub named_item : (n : Names) (d : ℕ) (ts : List Term) (xs : List Term) (i : ℕ) (t : Term) → xs ≡ ts → i < length xs → t ≡ get_or xs i t → AreNamedBelow n d (tms ts)
    → IsNamedBelow n d (tm t)
named_item n d ts xs i t from within e all = named-get n d xs i t within e (subst (λ us. AreNamedBelow n d (tms us)) (sym from) all)

pub named_meta : (n : Names) (d : ℕ) (t : Term) (z : ℕ) (ts : List Term) → t ≡ Meta z ts → IsNamedBelow n d (tm t) → (z < length n.metas) × AreNamedBelow n d (tms ts)
named_meta n d t z ts e all = subst (IsNamedBelow n d) (tm_of_meta t z ts e) all

-- raw types

types-last : (as_well : List RawType) (a : RawType) → rtys (as_well ++ a ∷ []) ≡ join_types (rtys as_well) (more_types (rty a) no_types)
types-last [] a = refl
types-last (b ∷ as_well) a = ap (λ bs. more_types (rty b) bs) (types-last as_well a)

types-join : (a b c : RTys) → join_types (join_types a b) c ≡ join_types a (join_types b c)
types-join no_types b c = refl
types-join (more_types x a) b c = ap (λ xs. more_types x xs) (types-join a b c)

pub types_none : (a : RTys) → join_types a no_types ≡ a
types_none no_types = refl
types_none (more_types x a) = ap (λ xs. more_types x xs) (types_none a)

-- one type more at the end, and then the others
pub types_next : (xs ys zs : List RawType) (r : RawType) (sorts : List (List ℕ)) (a b c : Ty) {a' b' : Ty} → c ≡ (a' ⇒ b') → a ≡ a' → b ≡ b' → ys ≡ xs ++ r ∷ [] → rty r ≡ raw_type_of sorts a
    → rtys zs ≡ join_types (rtys ys) (raw_arguments_of sorts b) → rtys zs ≡ join_types (rtys xs) (raw_arguments_of sorts c)
types_next xs ys zs r sorts a b c is first rest new here e =
    e ∙ ap (λ us. join_types us (raw_arguments_of sorts b)) (ap rtys new ∙ types-last xs r) ∙ types-join (rtys xs) (more_types (rty r) no_types) (raw_arguments_of sorts b)
    ∙ ap (λ q. join_types (rtys xs) (more_types q (raw_arguments_of sorts b))) here ∙ ap₂ (λ a b. join_types (rtys xs) (raw_arguments_of sorts (a ⇒ b))) first rest
    ∙ ap (λ c. join_types (rtys xs) (raw_arguments_of sorts c)) (sym is)

pub result_there : (n : ℕ) (a : Ty) → SortsBelow n a → result_sort a < n
result_there n (sort s) below = below
result_there n (a ⇒ b) below = result_there n b below.1

-- a type is its arguments, and the name of its sort
pub type_whole : (sorts : List (List ℕ)) (a : Ty) → raw_type_of sorts a ≡ raw_type (raw_arguments_of sorts a) (name_at sorts (result_sort a)) 0
type_whole sorts (sort s) = refl
type_whole sorts (a ⇒ b) = refl

pub made_type : (sorts : List (List ℕ)) (a : Ty) (args : List RawType) (empty : List RawType) (k : ℕ) (there copy : List ℕ) → empty ≡ [] → rtys args ≡ join_types (rtys empty) (raw_arguments_of sorts a)
    → k ≡ result_sort a → result_sort a < length sorts → copy ≡ get_or sorts k there
    → rty (roll-RawType (record { args = args; sort = copy; at = 0 })) ≡ raw_type_of sorts a
made_type sorts a args empty k there copy none_first args_are k_is within same =
    rty_made args copy 0 ∙ ap₂ (λ as_well s. raw_type as_well s 0) (args_are ∙ ap (λ xs. join_types (rtys xs) (raw_arguments_of sorts a)) none_first)
    (same ∙ ap (λ k. get_or sorts k there) k_is ∙ get_or_default sorts (result_sort a) there [] within) ∙ sym (type_whole sorts a)

-- a tree that is no spine, with one argument more
pub begun : (r : RawTerm) (u : RTm) → ((x : List ℕ) × (at : ℕ) × (r ≡ Named x at)) ⊎ (((k : ℕ) × (at : ℕ) × (r ≡ Numbered k at)) ⊎ (((k : ℕ) × (a : Box RawType Global) × (at : ℕ) × (r ≡ Free k a at)) ⊎ (((x : List ℕ) × (ts : List RawTerm) × (at : ℕ) × (r ≡ RawMeta x ts at)) ⊎ ((x : RawBinder) × (a : Box RawType Global) × (t : Box RawTerm Global) × (at : ℕ) × (r ≡ Lam x a t at)))))
    → with_argument (rtm r) u ≡ spine (rtm r) (more u none) 0
begun r u (inl (x, at, is)) = subst (λ q. with_argument (rtm q) u ≡ spine (rtm q) (more u none) 0) (sym is) refl
begun r u (inr (inl (k, at, is))) = subst (λ q. with_argument (rtm q) u ≡ spine (rtm q) (more u none) 0) (sym is) refl
begun r u (inr (inr (inl (k, a, at, is)))) = subst (λ q. with_argument (rtm q) u ≡ spine (rtm q) (more u none) 0) (sym is) refl
begun r u (inr (inr (inr (inl (x, ts, at, is))))) = subst (λ q. with_argument q u ≡ spine q (more u none) 0) (sym (rtm_of_meta r x ts at is)) refl
begun r u (inr (inr (inr (inr (x, a, t, at, is))))) = subst (λ q. with_argument (rtm q) u ≡ spine (rtm q) (more u none) 0) (sym is) refl

-- a meta-variable, without arguments and with them
pub bare_meta : (n : Names) (d z : ℕ) (t : Term) (ts : List Term) (xs : List Term) (there copy : List ℕ) → t ≡ Meta z ts → xs ≡ ts → length xs ≡ 0 → z < length n.metas
    → copy ≡ get_or n.metas z there → named copy 0 ≡ raw_below n d (tm t)
bare_meta n d z t ts [] there copy is from empty within same =
    ap (λ x. named x 0) (same ∙ get_or_default n.metas z there [] within) ∙ ap (λ us. raw_below n d (meta z (tms us))) from ∙ sym (ap (raw_below n d) (tm_of_meta t z ts is))
bare_meta n d z t ts (x ∷ xs) there copy is from empty within same = absurd (omega arith)

pub meta_with : (n : Names) (d z : ℕ) (t : Term) (ts : List Term) (xs : List Term) (there copy : List ℕ) (raw : RTms) → t ≡ Meta z ts → xs ≡ ts → (length xs ≡ 0 → ⊥) → z < length n.metas
    → copy ≡ get_or n.metas z there → raw ≡ each_raw_below n d (tms ts) → raw_meta copy raw 0 ≡ raw_below n d (tm t)
meta_with n d z t ts [] there copy raw is from filled within same args = absurd (filled refl)
meta_with n d z t ts (x ∷ xs) there copy raw is from filled within same args =
    ap₂ (λ x us. raw_meta x us 0) (same ∙ get_or_default n.metas z there [] within) (args ∙ ap (λ us. each_raw_below n d (tms us)) (sym from))
    ∙ ap (λ us. raw_below n d (meta z (tms us))) from ∙ sym (ap (raw_below n d) (tm_of_meta t z ts is))
