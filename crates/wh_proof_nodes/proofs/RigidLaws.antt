-- Rigid meta-terms: steps keep the roots of their values, and a clash lets no value lead to another.
use Rattle.std.proofs.Common.{◌≡◌, ℕ, zero, suc, ◌+◌, ◌<◌, List, Option, Some, None, refl, ap, sym, ◌∙◌, subst, add-one, arith}
use Rattle.wh_types.specs.Ty.{Ty}
use Rattle.wh_terms.specs.Tree.{Tm, bound, free, fun, meta, lam, app, head, argument_count}
use Rattle.wh_terms.specs.Value.{Body}
use Rattle.wh_terms.specs.Rules.{RewriteRule}
use Rattle.wh_terms.specs.StepOver.{StepOver, over_root, over_beta, over_function, over_argument, over_body}
use Rattle.wh_terms.proofs.ValueForm.{shifted, value}
use Rattle.wh_system.specs.Needs.{need_of}
use Rattle.wh_graph.specs.Rigid.{Root, variable, symbol, root_at, root, TooFew, IsFixed, Rigid}
use Rattle.wh_graph.specs.Clash.{Match, body, last, front, Clash, roots, parts}
use Rattle.wh_proof_nodes.specs.Many.{Many, stay, go}
use Rattle.wh_proof_nodes.proofs.ManyLaws.{many-join, many-one}
use Rattle.wh_graph.proofs.RootLemmas.{symbol_lacks}

-- R relates nothing but symbols with as many arguments as their rules need
abbrev pub NeedsArguments : List RewriteRule → (Tm → Tm → Type 0) → Type 0
NeedsArguments rules R = (t u : Tm) → R t u → (f : ℕ) × (head t ≡ fun f) × (need_of rules f ≡ Some (argument_count t))

-- the trees have one spine but for what stands in it, where R leads from part to part
pub data Alike (R : Tm → Tm → Type 0) : Tm → Tm → Type 0 where
  alike_bound : {i : ℕ} → Alike R (bound i) (bound i)
  alike_fun : {f : ℕ} → Alike R (fun f) (fun f)
  alike_body : {a b : Ty} {t u : Tm} → Many R t u → Alike R (lam a t) (lam b u)
  alike_spine : {t t' u u' : Tm} → Alike R t t' → Many R u u' → Alike R (app t u) (app t' u')

alike-join : {R : Tm → Tm → Type 0} {t u v : Tm} → Alike R t u → Alike R u v → Alike R t v
alike-join alike_bound b = b
alike-join alike_fun b = b
alike-join (alike_body m) (alike_body l) = alike_body (many-join m l)
alike-join (alike_spine a m) (alike_spine b l) = alike_spine (alike-join a b) (many-join m l)

alike-root_at : {R : Tm → Tm → Type 0} {t u : Tm} → Alike R t u → (n : ℕ) → root_at (head t) n ≡ root_at (head u) n
alike-root_at alike_bound n = refl
alike-root_at alike_fun n = refl
alike-root_at (alike_body m) zero = refl
alike-root_at (alike_body m) (suc n) = refl
alike-root_at (alike_spine a m) n = alike-root_at a n

alike-count : {R : Tm → Tm → Type 0} {t u : Tm} → Alike R t u → argument_count t ≡ argument_count u
alike-count alike_bound = refl
alike-count alike_fun = refl
alike-count (alike_body m) = refl
alike-count (alike_spine a m) = ap (λ n. n + 1) (alike-count a)

alike-root : {R : Tm → Tm → Type 0} (t u : Tm) → Alike R t u → root t ≡ root u
alike-root t u a = alike-root_at a (argument_count t) ∙ ap (root_at (head u)) (alike-count a)

-- the function of a rigid application is rigid

too_few_less : (o : Option ℕ) (n : ℕ) → TooFew o (suc n) → TooFew o n
too_few_less None n few = tt
too_few_less (Some need) n few = omega arith

front_root : (rules : List RewriteRule) (h : Tm) (n : ℕ) (r : Root) → root_at h (suc n) ≡ Some r → IsFixed rules r
    → (s : Root) × (root_at h n ≡ Some s) × IsFixed rules s
front_root rules (bound i) n r e fixed = (variable i n, refl, tt)
front_root rules (fun f) n r e fixed =
    let same : r ≡ symbol f (suc n) = cc in
    (symbol f n, refl, too_few_less (need_of rules f) n (subst (IsFixed rules) same fixed))
front_root rules (free x a) n r e fixed = absurd (cc)
front_root rules (meta z ts) n r e fixed = absurd (cc)
front_root rules (lam a t) n r e fixed = absurd (cc)
front_root rules (app t u) n r e fixed = absurd (cc)

rigid_front : (rules : List RewriteRule) (t u : Tm) → Rigid rules (app t u) → Rigid rules t
rigid_front rules t u (r, e, fixed) =
    front_root rules (head t) (argument_count t) r (ap (root_at (head t)) (sym (add-one (argument_count t))) ∙ e) fixed

alike-same : (rules : List RewriteRule) {R : Tm → Tm → Type 0} (t : Tm) → Rigid rules t → Alike R t t
alike-same rules (bound i) rigid = alike_bound
alike-same rules (fun f) rigid = alike_fun
alike-same rules (lam a t) rigid = alike_body stay
alike-same rules (app t u) rigid = alike_spine (alike-same rules t (rigid_front rules t u rigid)) stay
alike-same rules (free x a) rigid = let no = rigid.1 in absurd (cc)
alike-same rules (meta z ts) rigid = let no = rigid.1 in absurd (cc)

no_root : (rules : List RewriteRule) {R : Tm → Tm → Type 0} → NeedsArguments rules R → (t u : Tm) → Rigid rules t → R t u → ⊥
no_root rules needs t u rigid r =
    let (f, e, need) = needs t u r in
    let few : argument_count t < argument_count t = subst (λ o. TooFew o (argument_count t)) need (symbol_lacks rules t f e rigid) in
    omega arith

-- a step of a rigid tree is one of its parts
rigid_step : (rules : List RewriteRule) {R : Tm → Tm → Type 0} {t u : Tm} → NeedsArguments rules R → Rigid rules t → StepOver R t u
    → Alike (StepOver R) t u
rigid_step rules needs rigid (over_root {t = t} {u = u} r) = absurd (no_root rules needs t u rigid r)
rigid_step rules needs rigid (over_beta e) = let no = rigid.1 in absurd (cc)
rigid_step rules needs rigid (over_function {t = t} {u = u} s) = alike_spine (rigid_step rules needs (rigid_front rules t u rigid) s) stay
rigid_step rules needs rigid (over_argument {t = t} {u = u} s) = alike_spine (alike-same rules t (rigid_front rules t u rigid)) (many-one s)
rigid_step rules needs rigid (over_body s) = alike_body (many-one s)

rigid_many : (rules : List RewriteRule) {R : Tm → Tm → Type 0} {t u : Tm} → NeedsArguments rules R → Rigid rules t → Many (StepOver R) t u
    → Alike (StepOver R) t u
rigid_many rules needs rigid (stay {a = t}) = alike-same rules t rigid
rigid_many rules needs rigid (go {a = t} {b = v} s m) =
    let here = rigid_step rules needs rigid s in
    alike-join here (rigid_many rules needs (rigid.0, sym (alike-root t v here) ∙ rigid.1, rigid.2) m)

-- a value keeps the root of its meta-term

value-root_at : (g : ℕ → Body) (q : Tm) (n : ℕ) (r : Root) → root_at (head q) n ≡ Some r
    → (root_at (head (value g q)) n ≡ Some r) × (argument_count (value g q) ≡ argument_count q)
unfolding value
value-root_at g (bound i) n r e = (e, refl)
value-root_at g (fun f) n r e = (e, refl)
value-root_at g (lam a t) zero r e = (e, refl)
value-root_at g (lam a t) (suc n) r e = absurd (cc)
value-root_at g (free x a) n r e = absurd (cc)
value-root_at g (meta z ts) n r e = absurd (cc)
value-root_at g (app t u) n r e = let (h, c) = value-root_at g t n r e in (h, ap (λ k. k + 1) c)

value-root : (g : ℕ → Body) (q : Tm) (r : Root) → root q ≡ Some r → root (value g q) ≡ Some r
value-root g q r e = let (h, c) = value-root_at g q (argument_count q) r e in ap (root_at (head (value g q))) c ∙ h

-- matching parts of values that are alike

alike_bodies : {R : Tm → Tm → Type 0} {a b : Ty} {t u : Tm} → Alike R (lam a t) (lam b u) → Many R t u
alike_bodies (alike_body m) = m

alike_fronts : {R : Tm → Tm → Type 0} {t t' u u' : Tm} → Alike R (app t u) (app t' u') → Alike R t t' × Many R u u'
alike_fronts (alike_spine a m) = (a, m)

match_leads : {R : Tm → Tm → Type 0} {q p x y : Tm} (g h : ℕ → Body) → Match q p x y → Alike R (value g q) (value h p)
    → (g' h' : ℕ → Body) × Many R (value g' x) (value h' y)
unfolding value
match_leads g h body alike = (shifted g, shifted h, alike_bodies alike)
match_leads g h last alike = (g, h, (alike_fronts alike).1)
match_leads g h (front match) alike = match_leads g h match (alike_fronts alike).0

-- no value of a meta-term leads to a value of what it clashes with
pub clash_apart : (rules : List RewriteRule) {R : Tm → Tm → Type 0} {q p : Tm} (g h : ℕ → Body) → NeedsArguments rules R → Clash rules q p
    → Many (StepOver R) (value g q) (value h p) → ⊥
clash_apart rules g h needs (roots {q = q} {p = p} {r = r} {s = s} rigid d e other) m =
    let alike = rigid_many rules needs (rigid.0, value-root g q rigid.0 rigid.1, rigid.2) m in
    let left = value-root g q r d in
    let right = value-root h p s e in
    let one = alike-root (value g q) (value h p) alike in
    other (cc)
clash_apart rules g h needs (parts {q = q} rigid d e match clash) m =
    let alike = rigid_many rules needs (rigid.0, value-root g q rigid.0 rigid.1, rigid.2) m in
    let (g', h', l) = match_leads g h match alike in
    clash_apart rules g' h' needs clash l
