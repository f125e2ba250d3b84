-- How many arguments the rules of a symbol need, and that a symbol which needs none heads no rule.
use Rattle.std.proofs.Common.{◌≡◌, ℕ, Bool, true, false, List, [], ◌∷◌, ◌⊎◌, inl, inr, Some, None, refl, ap, sym, ◌∙◌, eq-eqb, eqb-true}
use Rattle.std.specs.Prelude.{Contains}
use Rattle.wh_terms.specs.Tree.{Tm, bound, free, fun, meta, lam, app, head, argument_count}
use Rattle.wh_terms.specs.Rules.{RewriteRule, IsEven}
use Rattle.wh_step_laws.specs.RootRelations.{HeadsNoRule}
use Rattle.wh_system.specs.Needs.{is_symbol, first_need, need_of}
use Rattle.wh_pairs.proofs.MemberLemmas.{none_there, at_head, behind, head_or_behind}

-- what the test of a head tells
symbol_found : (f : ℕ) (t : Tm) → is_symbol f t ≡ true → t ≡ fun f
symbol_found f (fun g) e = ap fun (sym (eqb-true f g e))
symbol_found f (bound i) e = absurd (cc)
symbol_found f (free x a) e = absurd (cc)
symbol_found f (meta z ts) e = absurd (cc)
symbol_found f (lam a t) e = absurd (cc)
symbol_found f (app t u) e = absurd (cc)

found_symbol : (f : ℕ) (t : Tm) → t ≡ fun f → is_symbol f t ≡ true
found_symbol f t e = ap (is_symbol f) e ∙ eq-eqb f f refl

-- where the head of a rule is another symbol, the rule with this head is behind it
other_behind : (s : RewriteRule) (rules : List RewriteRule) (r : RewriteRule) (f : ℕ) → is_symbol f (head s.left) ≡ false → head r.left ≡ fun f
    → (s ≡ r) ⊎ Contains rules r → Contains rules r
other_behind s rules r f e h (inl same) = let d : is_symbol f (head s.left) ≡ true = found_symbol f (head s.left) (ap (λ r. head r.left) same ∙ h) in absurd (cc)
other_behind s rules r f e h (inr c) = c

-- the rules of a symbol need as many arguments as any of its rules has on the left
pub rule_need : (rules : List RewriteRule) → IsEven rules → (r : RewriteRule) → Contains rules r → (f : ℕ) → head r.left ≡ fun f
    → need_of rules f ≡ Some (argument_count r.left)
rule_need [] even r c f e = absurd (none_there r c)
rule_need (s ∷ rules) even r c f e =
    go (is_symbol f (head s.left)) refl (λ b. rule_need rules (λ p q m n. even p q (behind rules s p m) (behind rules s q n)) r b f e)
  where
    go : (b : Bool) → is_symbol f (head s.left) ≡ b → (Contains rules r → need_of rules f ≡ Some (argument_count r.left))
        → first_need b (argument_count s.left) (need_of rules f) ≡ Some (argument_count r.left)
    go true q later = ap Some (even s r (at_head rules s) c (symbol_found f (head s.left) q ∙ sym e))
    go false q later = later (other_behind s rules r f q e (head_or_behind rules s r c))

-- a symbol that needs nothing has no rules
pub no_need-heads_no_rule : (rules : List RewriteRule) (f : ℕ) → need_of rules f ≡ None → HeadsNoRule rules f
no_need-heads_no_rule [] f e r c h = none_there r c
no_need-heads_no_rule (s ∷ rules) f e r c h = go (is_symbol f (head s.left)) refl e (λ later b. no_need-heads_no_rule rules f later r b h)
  where
    go : (b : Bool) → is_symbol f (head s.left) ≡ b → first_need b (argument_count s.left) (need_of rules f) ≡ None
        → (need_of rules f ≡ None → Contains rules r → ⊥) → ⊥
    go true q d later = absurd (cc)
    go false q d later = later d (other_behind s rules r f q h (head_or_behind rules s r c))
