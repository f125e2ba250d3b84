-- Printing rules.
use Rattle.std.proofs.Common.{◌≡◌, ℕ, ◌+◌, ◌<◌, ◌≤◌, List, [], ◌∷◌, ◌++◌, length, get_or, drop, All, Some, sym, ap, subst, ◌∙◌, arith}
use Rattle.std.specs.Prelude.{Bool, codes, slice_get}
use Rattle.std.proofs.lemmas.List.{drop_more, drop_all, length-map}
use Rattle.std.proofs.lemmas.Option.{slice_get_within, slice_get-get_or, get_or_from_slice_get}
use Rattle.wh_terms.specs.Rules.{RewriteRule}
use Rattle.wh_terms.specs.Erase.{rewrite_rule, rewrite_rules}
use Rattle.wh_terms.specs.declared.rule.Rule.{Rule}
use Rattle.wh_text.specs.Pushes.{Pushes}
use Rattle.wh_text.specs.Spelling.{put_term}
use Rattle.wh_text.proofs.PrintLemmas.{push_then, push_bytes}
use Rattle.wh_system.specs.Systems.{SystemData}
use Rattle.wh_system.specs.WellMade.{IsWellMadeSystem, IsDeclarationOver}
use Rattle.wh_system.specs.Canonical.{Names, IsNamedBelow, raw_of}
use Rattle.wh_system.specs.CanonicalView.{names_of_rule, side_of}
use Rattle.wh_system_making.proofs.CanonicalBack.{side_named}
use Rattle.wh_system_print.specs.SystemText.{put_metas, put_rule, put_rules}
use Rattle.wh_system_print.specs.Sorted.{IsSorted}

pub rule_pushes : (d : SystemData) (k : ℕ) (rule : RewriteRule) (names : List (List ℕ)) (n : Names) (a b c e f g h i : List ℕ) → get_or d.meta_names k [] ≡ names → n ≡ names_of_rule d k
    → b ≡ a ++ codes "rule {" → Pushes b c (put_metas d.sort_names names rule.metas) → e ≡ c ++ codes "} " → Pushes e f (put_term (raw_of n rule.left))
    → g ≡ f ++ codes " => " → Pushes g h (put_term (raw_of n rule.right)) → i ≡ h ++ (59 ∷ 10 ∷ []) → Pushes a i (put_rule d k rule)
rule_pushes d k rule names n a b c e f g h i is same begins metas closes left arrow right ends =
    let L : List ℕ → List ℕ = put_term (raw_of (names_of_rule d k) rule.left) in
    let R : List ℕ → List ℕ = put_term (raw_of (names_of_rule d k) rule.right) in
    let M : List ℕ → List ℕ = put_metas d.sort_names (get_or d.meta_names k []) rule.metas in
    let listed : Pushes b c M = subst (λ ns. Pushes b c (put_metas d.sort_names ns rule.metas)) (sym is) metas in
    let on_left : Pushes e f L = subst (λ v. Pushes e f (put_term (raw_of v rule.left))) same left in
    let on_right : Pushes g h R = subst (λ v. Pushes g h (put_term (raw_of v rule.right))) same right in
    let q1 = push_then g h i R (λ r. 59 ∷ 10 ∷ r) on_right (push_bytes h i (59 ∷ 10 ∷ []) ends) in
    let q2 = push_then f g i (λ r. codes " => " ++ r) (λ r. R (59 ∷ 10 ∷ r)) (push_bytes f g (codes " => ") arrow) q1 in
    let q3 = push_then e f i L (λ r. codes " => " ++ R (59 ∷ 10 ∷ r)) on_left q2 in
    let q4 = push_then c e i (λ r. codes "} " ++ r) (λ r. L (codes " => " ++ R (59 ∷ 10 ∷ r))) (push_bytes c e (codes "} ") closes) q3 in
    let q5 = push_then b c i M (λ r. codes "} " ++ L (codes " => " ++ R (59 ∷ 10 ∷ r))) listed q4 in
    push_then a b i (λ r. codes "rule {" ++ r) (λ r. M (codes "} " ++ L (codes " => " ++ R (59 ∷ 10 ∷ r)))) (push_bytes a b (codes "rule {") begins) q5

pub rules_next : (d : SystemData) (xs : List Rule) (i : ℕ) (x : Rule) → i < length xs → x ≡ get_or xs i x → (r : List ℕ)
    → put_rules d i (rewrite_rules (drop i xs)) r ≡ put_rule d i (rewrite_rule x) (put_rules d (i + 1) (rewrite_rules (drop (i + 1) xs)) r)
rules_next d xs i x below is r =
    ap (λ (ys : List Rule). put_rules d i (rewrite_rules ys) r) (drop_more xs i x below)
    ∙ ap (λ (y : Rule). put_rule d i (rewrite_rule y) (put_rules d (i + 1) (rewrite_rules (drop (i + 1) xs)) r)) (sym is)

pub rules_none : (d : SystemData) (xs : List Rule) (i k : ℕ) → length xs ≤ i → (r : List ℕ) → put_rules d k (rewrite_rules (drop i xs)) r ≡ r
rules_none d xs i k past r = ap (λ (ys : List Rule). put_rules d k (rewrite_rules ys) r) (drop_all i xs past)

-- the declarations of a rule have sorts with names
pub rule_sorted : (d : SystemData) → IsWellMadeSystem d → (k : ℕ) (r : RewriteRule) → slice_get d.rules k ≡ Some r → All (IsSorted (length d.sort_names)) r.metas
rule_sorted d w k r e =
    let within = slice_get_within d.rules k r e in
    let of_rule = subst (λ (x : RewriteRule). All (IsDeclarationOver d.symbols.sorts) x.metas) (get_or_from_slice_get d.rules k r r e) (w.meta_types k r within) in
    subst (λ n. All (IsSorted n) r.metas) (sym w.sorts_named) (λ j m below. let h = of_rule j m below in record { args = λ i a inside. (h.args i a inside).sorts_are_there; out = h.out.sorts_are_there })

-- its meta-variables have names
pub metas_within : (d : SystemData) → IsWellMadeSystem d → (k : ℕ) (r : RewriteRule) → slice_get d.rules k ≡ Some r → k < length d.meta_names
metas_within d w k r there =
    omega (arith, slice_get_within d.rules k r there, sym (length-map d.meta_names length) ∙ ap length w.metas_named ∙ length-map d.rules (λ r. length r.metas))

-- its sides are named
pub rule_named : (d : SystemData) → IsWellMadeSystem d → (k : ℕ) (r : RewriteRule) (right : Bool) (n : Names) → slice_get d.rules k ≡ Some r → n ≡ names_of_rule d k → IsNamedBelow n 0 (side_of right r)
rule_named d w k r right n there is =
    let own = slice_get-get_or d.meta_names k [] (metas_within d w k r there) in
    subst (λ v. IsNamedBelow v 0 (side_of right r)) (sym is) (side_named d w k r right (get_or d.meta_names k []) there own)
