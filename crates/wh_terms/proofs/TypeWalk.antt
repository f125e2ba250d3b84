-- The walk that finds types: one lemma for each shape of a term, and the types of an argument list.
use Rattle.std.proofs.Common.{◌≡◌, ℕ, zero, suc, ◌+◌, ◌<◌, List, [], ◌∷◌, ◌++◌, length, map, take, get_or, reverse, Option, Some, None, option_map, Result, IfOk, MatchOption, refl, ap, subst, sym, ◌∙◌, add-one, arith}
use Rattle.std.specs.Prelude.{slice_get}
use Rattle.std.specs.Borrow.{Bor}
use Rattle.std.proofs.Math.Seq.{take-suc}
use Rattle.std.proofs.lemmas.List.{reverse-append, map-append, length-map}
use Rattle.std.proofs.lemmas.Result.{IfOk-weaker}
use Rattle.std.proofs.lemmas.Option.{slice_get-map}
use Rattle.wh_types.specs.declared.simple_type.SimpleType.{SimpleType}
use Rattle.wh_types.specs.Ty.{Ty, ◌⇒◌, SortsBelow}
use Rattle.wh_types.specs.Erase.{ty, tys}
use Rattle.wh_terms.specs.Tree.{Tm, bound, free, fun, meta, lam, app, Tms, none, more, count}
use Rattle.wh_terms.specs.Typing.{Symbols, Declared, Typed, typed_bound, typed_free, typed_fun, typed_meta, typed_lam, typed_app, AllTyped, typed_none, typed_more}
use Rattle.wh_terms.specs.Scope.{TellsType, scope}
use Rattle.wh_terms.specs.Erase.{tm, tms, declared_meta, declared_metas}
use Rattle.wh_terms.specs.declared.rule.MetaDecl.{MetaDecl}
use Rattle.wh_terms.specs.declared.term.Term.{Term}
use Rattle.wh_terms.proofs.TermLemmas.{join, tms_take_next}
use Rattle.wh_terms.proofs.SameLemmas.{count_tms}
use Rattle.wh_terms.proofs.TypingLaws.{some_one, typed_one}

-- what a typed tree tells of its parts

pub type_of_bound : {S : Symbols} {M : List Declared} {Γ : List Ty} {i : ℕ} {a : Ty} → Typed S M Γ (bound i) a → slice_get Γ i ≡ Some a
type_of_bound (typed_bound e) = e

pub type_of_fun : {S : Symbols} {M : List Declared} {Γ : List Ty} {f : ℕ} {a : Ty} → Typed S M Γ (fun f) a → slice_get S.funs f ≡ Some a
type_of_fun (typed_fun e) = e

pub body_of_lam : {S : Symbols} {M : List Declared} {Γ : List Ty} {a : Ty} {t : Tm} {c : Ty} → Typed S M Γ (lam a t) c → (b : Ty) × Typed S M (a ∷ Γ) t b
body_of_lam (typed_lam {b = b} s p) = (b, p)

pub declared_of_meta : {S : Symbols} {M : List Declared} {Γ : List Ty} {z : ℕ} {ts : Tms} {a : Ty} → Typed S M Γ (meta z ts) a
    → (d : Declared) × (slice_get M z ≡ Some d) × AllTyped S M Γ ts d.args
declared_of_meta (typed_meta {d = d} e us o) = (d, e, us)

pub function_of_app : {S : Symbols} {M : List Declared} {Γ : List Ty} {t u : Tm} {b : Ty} → Typed S M Γ (app t u) b
    → (a : Ty) × Typed S M Γ t (a ⇒ b) × Typed S M Γ u a
function_of_app (typed_app {a = a} p q) = (a, p, q)

-- what an answer tells

pub told_some : (S : Symbols) (M : List Declared) (Γ : List Ty) (t : Tm) (answer : Option SimpleType) (a : SimpleType) → answer ≡ Some a → TellsType S M Γ t answer
    → Typed S M Γ t (ty a)
told_some S M Γ t answer a is has = subst (TellsType S M Γ t) is has

pub told_none : (S : Symbols) (M : List Declared) (Γ : List Ty) (t : Tm) (answer : Option SimpleType) → answer ≡ None → TellsType S M Γ t answer
    → (a : Ty) → Typed S M Γ t a → ⊥
told_none S M Γ t answer is has = subst (TellsType S M Γ t) is has

-- the answer at each shape of a term

bound-answer : (S : Symbols) (M : List Declared) (Γ : List Ty) (i : ℕ) (answer : Option SimpleType) → option_map ty answer ≡ slice_get Γ i
    → TellsType S M Γ (bound i) answer
bound-answer S M Γ i None e = λ a p. absurd (cc (e, type_of_bound p))
bound-answer S M Γ i (Some k) e = typed_bound (sym e)

pub bound_answer : {E : Type 0} (S : Symbols) (M : List Declared) (Γ Δ : List Ty) (u : Tm) (i : ℕ) (r : Result (Option SimpleType) E) → u ≡ bound i → Δ ≡ Γ
    → IfOk r (λ answer. option_map ty answer ≡ slice_get Δ i) → IfOk r (λ answer. TellsType S M Γ u answer)
bound_answer S M Γ Δ u i r is same = IfOk-weaker r (λ answer. option_map ty answer ≡ slice_get Δ i) (λ answer. TellsType S M Γ u answer)
    (λ answer e. subst (λ v. TellsType S M Γ v answer) (sym is) (bound-answer S M Γ i answer (e ∙ ap (λ Θ. slice_get Θ i) same)))

pub free_answer : (S : Symbols) (M : List Declared) (Γ : List Ty) (u : Tm) (x : ℕ) (a b : Ty) → u ≡ free x a → SortsBelow S.sorts a → b ≡ a → Typed S M Γ u b
free_answer S M Γ u x a b is below e = subst (λ v. Typed S M Γ v b) (sym is) (subst (λ c. Typed S M Γ (free x a) c) (sym e) (typed_free below))

fun-answer : (S : Symbols) (M : List Declared) (Γ : List Ty) (f : ℕ) (answer : Option SimpleType) → option_map ty answer ≡ slice_get S.funs f
    → TellsType S M Γ (fun f) answer
fun-answer S M Γ f None e = λ a p. absurd (cc (e, type_of_fun p))
fun-answer S M Γ f (Some k) e = typed_fun (sym e)

pub fun_answer : {E : Type 0} (S : Symbols) (M : List Declared) (Γ kinds : List Ty) (u : Tm) (f : ℕ) (r : Result (Option SimpleType) E) → u ≡ fun f → kinds ≡ S.funs
    → IfOk r (λ answer. option_map ty answer ≡ slice_get kinds f) → IfOk r (λ answer. TellsType S M Γ u answer)
fun_answer S M Γ kinds u f r is same = IfOk-weaker r (λ answer. option_map ty answer ≡ slice_get kinds f) (λ answer. TellsType S M Γ u answer)
    (λ answer e. subst (λ v. TellsType S M Γ v answer) (sym is) (fun-answer S M Γ f answer (e ∙ ap (λ ks. slice_get ks f) same)))

pub meta_answer : (S : Symbols) (metas : List MetaDecl) (Γ : List Ty) (z : ℕ) (ts : Tms) (d : MetaDecl) (ks : List SimpleType) (b : Ty)
    → slice_get metas z ≡ Some d → ks ≡ d.args → AllTyped S (declared_metas metas) Γ ts (tys ks) → b ≡ ty d.result
    → Typed S (declared_metas metas) Γ (meta z ts) b
meta_answer S metas Γ z ts d ks b found is all e =
    typed_meta {d = declared_meta d} (slice_get-map declared_meta metas z ∙ ap (option_map declared_meta) found)
    (subst (λ js. AllTyped S (declared_metas metas) Γ ts (tys js)) is all) e

pub meta_none : (S : Symbols) (metas : List MetaDecl) (Γ : List Ty) (z : ℕ) (ts : Tms) (d : MetaDecl) (ks : List SimpleType) → slice_get metas z ≡ Some d
    → ks ≡ d.args → (AllTyped S (declared_metas metas) Γ ts (tys ks) → ⊥) → (a : Ty) → Typed S (declared_metas metas) Γ (meta z ts) a → ⊥
meta_none S metas Γ z ts d ks found is ill a p =
    let (e, found', all) = declared_of_meta p in
    let same : e ≡ declared_meta d = some_one (sym found' ∙ slice_get-map declared_meta metas z ∙ ap (option_map declared_meta) found) in
    let at : AllTyped S (declared_metas metas) Γ ts (tys d.args) = subst (λ x. AllTyped S (declared_metas metas) Γ ts x.args) same all in
    ill (subst (λ js. AllTyped S (declared_metas metas) Γ ts (tys js)) (sym is) at)

pub lam_answer : (S : Symbols) (M : List Declared) (Γ Δ : List Ty) (a : Ty) (t : Tm) (b c : Ty) → SortsBelow S.sorts a → Δ ≡ a ∷ Γ
    → Typed S M Δ t b → c ≡ a ⇒ b → Typed S M Γ (lam a t) c
lam_answer S M Γ Δ a t b c below inner p e = subst (λ d. Typed S M Γ (lam a t) d) (sym e) (typed_lam below (subst (λ Θ. Typed S M Θ t b) inner p))

pub lam_none : (S : Symbols) (M : List Declared) (Γ Δ : List Ty) (a : Ty) (t : Tm) → Δ ≡ a ∷ Γ
    → ((b : Ty) → Typed S M Δ t b → ⊥) → (c : Ty) → Typed S M Γ (lam a t) c → ⊥
lam_none S M Γ Δ a t inner ill c p =
    let (b, q) = body_of_lam p in
    ill b (subst (λ Θ. Typed S M Θ t b) (sym inner) q)

app-answer : (S : Symbols) (M : List Declared) (Γ : List Ty) (t v : Tm) (a b : Ty) (r : Option SimpleType) → Typed S M Γ t a → Typed S M Γ v b
    → MatchOption r ((c : Ty) → a ≡ b ⇒ c → ⊥) (λ c. a ≡ b ⇒ ty c) → TellsType S M Γ (app t v) r
app-answer S M Γ t v a b None p q ill = λ c whole.
    let (d, p', q') = function_of_app whole in
    ill c (typed_one p p' ∙ ap (λ x. x ⇒ c) (typed_one q' q))
app-answer S M Γ t v a b (Some k) p q e = typed_app (subst (λ x. Typed S M Γ t x) e p) q

pub app_answer : (S : Symbols) (M : List Declared) (Γ Δ Θ : List Ty) (u t v : Tm) (a b : Ty) (r : Option SimpleType) → u ≡ app t v → Δ ≡ Γ → Θ ≡ Γ
    → Typed S M Δ t a → Typed S M Θ v b → MatchOption r ((c : Ty) → a ≡ b ⇒ c → ⊥) (λ c. a ≡ b ⇒ ty c) → TellsType S M Γ u r
app_answer S M Γ Δ Θ u t v a b r is e f p q how =
    subst (λ w. TellsType S M Γ w r) (sym is) (app-answer S M Γ t v a b r (subst (λ Ψ. Typed S M Ψ t a) e p) (subst (λ Ψ. Typed S M Ψ v b) f q) how)

-- one binder more
pub scope_push : (bs : List (Bor SimpleType)) (k : Bor SimpleType) → scope (bs ++ k ∷ []) ≡ ty k.now ∷ scope bs
scope_push bs k = ap reverse (map-append (λ (r : Bor SimpleType). ty r.now) bs (k ∷ [])) ∙ reverse-append (map (λ (r : Bor SimpleType). ty r.now) bs) (ty k.now ∷ [])

-- argument lists

all-length : {S : Symbols} {M : List Declared} {Γ : List Ty} {ts : Tms} {as' : List Ty} → AllTyped S M Γ ts as' → count ts ≡ length as'
all-length typed_none = refl
all-length (typed_more p ps) = omega (arith, all-length ps)

pub all_length : (S : Symbols) (M : List Declared) (Γ : List Ty) (xs : List Term) (ks : List SimpleType) → AllTyped S M Γ (tms xs) (tys ks) → length xs ≡ length ks
all_length S M Γ xs ks all = sym (count_tms xs) ∙ all-length all ∙ length-map ks ty

all-join : {S : Symbols} {M : List Declared} {Γ : List Ty} {ts : Tms} {bs : List Ty} {t : Tm} {b : Ty} → AllTyped S M Γ ts bs → Typed S M Γ t b
    → AllTyped S M Γ (join ts (more t none)) (bs ++ b ∷ [])
all-join typed_none p = typed_more p typed_none
all-join (typed_more q qs) p = typed_more q (all-join qs p)

pub all_next : (S : Symbols) (M : List Declared) (Γ Δ : List Ty) (xs : List Term) (ks : List SimpleType) (i : ℕ) (t : Term) (k : SimpleType) (a : Ty) → i < length xs
    → length xs ≡ length ks → t ≡ get_or xs i t → k ≡ get_or ks i k → Δ ≡ Γ → Typed S M Δ (tm t) a → a ≡ ty k
    → AllTyped S M Γ (tms (take i xs)) (tys (take i ks)) → AllTyped S M Γ (tms (take (i + 1) xs)) (tys (take (i + 1) ks))
all_next S M Γ Δ xs ks i t k a within long e f same p is all =
    let next = tms_take_next xs i t within e in
    let kinds : tys (take (i + 1) ks) ≡ tys (take i ks) ++ ty k ∷ [] =
    rw (add-one, take-suc ks i k (omega arith)) (map-append ty (take i ks) (get_or ks i k ∷ []) ∙ ap (λ j. tys (take i ks) ++ ty j ∷ []) (sym f)) in
    let here = subst (λ b. Typed S M Γ (tm t) b) is (subst (λ Θ. Typed S M Θ (tm t) a) same p) in
    subst (λ us. AllTyped S M Γ us (tys (take (i + 1) ks))) (sym next) (subst (λ bs. AllTyped S M Γ (join (tms (take i xs)) (more (tm t) none)) bs) (sym kinds) (all-join all here))

first-typed : {S : Symbols} {M : List Declared} {Γ : List Ty} {t : Tm} {ts : Tms} {b : Ty} {bs : List Ty} → AllTyped S M Γ (more t ts) (b ∷ bs) → Typed S M Γ t b
first-typed (typed_more p ps) = p

rest-typed : {S : Symbols} {M : List Declared} {Γ : List Ty} {t : Tm} {ts : Tms} {b : Ty} {bs : List Ty} → AllTyped S M Γ (more t ts) (b ∷ bs) → AllTyped S M Γ ts bs
rest-typed (typed_more p ps) = ps

pub all_at : (S : Symbols) (M : List Declared) (Γ : List Ty) (xs : List Term) (ks : List SimpleType) (i : ℕ) (t : Term) (k : SimpleType) → i < length xs
    → length xs ≡ length ks → t ≡ get_or xs i t → k ≡ get_or ks i k → AllTyped S M Γ (tms xs) (tys ks) → Typed S M Γ (tm t) (ty k)
all_at S M Γ [] ks i t k within long e f all = absurd (omega arith)
all_at S M Γ (x ∷ xs) [] i t k within long e f all = absurd (omega arith)
all_at S M Γ (x ∷ xs) (l ∷ ks) zero t k within long e f all =
    subst (λ u. Typed S M Γ (tm u) (ty k)) (sym e) (subst (λ j. Typed S M Γ (tm x) (ty j)) (sym f) (first-typed all))
all_at S M Γ (x ∷ xs) (l ∷ ks) (suc i) t k within long e f all = all_at S M Γ xs ks i t k (omega arith) (omega arith) e f (rest-typed all)

-- the item at a place
item_at : (ks : List SimpleType) (i : ℕ) → i < length ks → (k : SimpleType) × (k ≡ get_or ks i k)
item_at [] i within = absurd (omega arith)
item_at (k ∷ ks) zero within = (k, refl)
item_at (k ∷ ks) (suc i) within = item_at ks i (omega arith)

-- an argument of another type
pub all_none : (S : Symbols) (M : List Declared) (Γ Δ : List Ty) (xs : List Term) (ks : List SimpleType) (i : ℕ) (t : Term) (k : SimpleType) (a : Ty) → i < length xs
    → length xs ≡ length ks → t ≡ get_or xs i t → k ≡ get_or ks i k → Δ ≡ Γ → Typed S M Δ (tm t) a → (a ≡ ty k → ⊥) → AllTyped S M Γ (tms xs) (tys ks) → ⊥
all_none S M Γ Δ xs ks i t k a within long e f same p other all =
    other (typed_one (subst (λ Θ. Typed S M Θ (tm t) a) same p) (all_at S M Γ xs ks i t k within long e f all))

-- an argument of no type
pub lacks_type : (S : Symbols) (M : List Declared) (Γ Δ : List Ty) (xs : List Term) (ks : List SimpleType) (i : ℕ) (t : Term) → i < length xs
    → length xs ≡ length ks → t ≡ get_or xs i t → Δ ≡ Γ → ((a : Ty) → Typed S M Δ (tm t) a → ⊥) → AllTyped S M Γ (tms xs) (tys ks) → ⊥
lacks_type S M Γ Δ xs ks i t within long e same ill all =
    let (k, at) = item_at ks i (omega arith) in
    ill (ty k) (subst (λ Θ. Typed S M Θ (tm t) (ty k)) (sym same) (all_at S M Γ xs ks i t k within long e at all))
