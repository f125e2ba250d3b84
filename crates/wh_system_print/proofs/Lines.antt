-- The lines of rules, and the whole text of a system.
use Rattle.std.proofs.Common.{◌≡◌, ℕ, suc, ◌+◌, List, [], ◌∷◌, length, get_or, map, All, refl, ap, ap₂, ◌∙◌, arith}
use Rattle.wh_terms.specs.Rules.{RewriteRule}
use Rattle.wh_text.specs.Words.{IsName}
use Rattle.wh_text.specs.RawTree.{RTm}
use Rattle.wh_text.specs.Tokens.{Token, whole, Cuts, ended}
use Rattle.wh_system_parts.specs.Parts.{RMeta, RRule}
use Rattle.wh_system.specs.Systems.{SystemData}
use Rattle.wh_system.specs.Canonical.{raw_of}
use Rattle.wh_system_making.specs.CanonicalParts.{raw_rule_of, raw_rules_of, canonical}
use Rattle.wh_system.specs.CanonicalView.{names_of_rule}
use Rattle.wh_system_making.specs.Unplaced.{unplaced_rule, unplaced}
use Rattle.wh_system_print.specs.SystemText as T
use Rattle.wh_read.specs.Written.{WRule, WSystem}
use Rattle.wh_read.specs.Spelled as W
use Rattle.wh_read.specs.Nesting.{RuleFits, Each, SystemFits}
use Rattle.wh_read.specs.Raw.{said_rule, said}
use Rattle.wh_system_print.specs.Sound.{IsSpelledTerm}
use Rattle.wh_system_print.specs.Cutting.{Cutting, Any}
use Rattle.wh_system_print.proofs.Pieces.{cutting_then, any_then, nothing_cut, sign_cut, space_cut, line_feed_cut, thick_arrow_cut, rule_cut}
use Rattle.wh_system_print.proofs.SpelledTerms.{term_written}
use Rattle.wh_system_print.proofs.SpelledDeclarations.{IsSpelledOver, IsSpelledDeclaration, declared_written, sorts_written, funs_written}

-- the names that the rule number k has in the system
abbrev metas_at : SystemData → ℕ → List (List ℕ)
metas_at d k = get_or d.meta_names k []

-- the canonical rule number k is spelled as a text may have it
pub record IsSpelledRule (d : SystemData) (k : ℕ) (rule : RewriteRule) : Type 0 where
  pub names : All IsName (get_or d.meta_names k [])
  pub kinds : All (IsSpelledDeclaration d.sort_names) rule.metas
  pub left : IsSpelledTerm 0 (raw_of (names_of_rule d k) rule.left)
  pub right : IsSpelledTerm 0 (raw_of (names_of_rule d k) rule.right)

-- and so are all rules from number k on
abbrev pub AreSpelledRules : SystemData → ℕ → List RewriteRule → Type 0
AreSpelledRules d k [] = Unit {0}
AreSpelledRules d k (rule ∷ rules) = IsSpelledRule d k rule × AreSpelledRules d (k + 1) rules

-- the line that is written for the rule
record RuleWritten (d : SystemData) (k : ℕ) (rule : RewriteRule) (at : ℕ) : Type 0 where
  end : ℕ
  written : WRule
  fits : RuleFits written
  says : unplaced_rule (said_rule written) ≡ unplaced_rule (raw_rule_of d (metas_at d k) rule)
  cut : Cutting Any at end (T.put_rule d k rule) (W.put_rule written)

rule_written : (d : SystemData) (k : ℕ) (rule : RewriteRule) → IsSpelledRule d k rule → (at : ℕ) → RuleWritten d k rule at
rule_written d k rule spelled at =
    let metas = declared_written d.sort_names (metas_at d k) rule.metas spelled.names spelled.kinds (at + 4 + 1 + 1) in
    let left = term_written (raw_of (names_of_rule d k) rule.left) spelled.left (metas.end + 1 + 1) in
    let right = term_written (raw_of (names_of_rule d k) rule.right) spelled.right (left.end + 1 + 2 + 1) in
    record {
      end = right.end + 1 + 1;
      written = record { at = at; open_at = at + 4 + 1; metas = metas.written; close_at = metas.end; left = left.written; arrow_at = left.end + 1; right = right.written; end_at = right.end };
      fits = (metas.fits, left.fits, right.fits);
      says = λ i. sided (metas.says i) (left.says i) (right.says i);
      cut =
          cutting_then (rule_cut at)
          (any_then (space_cut (at + 4))
          (any_then (sign_cut 123 (at + 4 + 1) refl)
          (cutting_then metas.cut
          (any_then (sign_cut 125 metas.end refl)
          (any_then (space_cut (metas.end + 1))
          (cutting_then left.cut
          (any_then (space_cut left.end)
          (any_then (thick_arrow_cut (left.end + 1))
          (any_then (space_cut (left.end + 1 + 2))
          (cutting_then right.cut
          (any_then (sign_cut 59 right.end refl) (line_feed_cut (right.end + 1)))
          (λ r good. refl)))))
          (λ r good. refl))))
          (λ r good. refl))))
          (λ r good. refl);
    }
  where
    sided : List RMeta → RTm → RTm → RRule
    sided metas left right = record { metas = metas; left = left; right = right; at = 0 }

-- the lines that are written for rules from number k on, where `others` has the names of their meta-variables
record RulesWritten (d : SystemData) (k : ℕ) (others : List (List (List ℕ))) (rules : List RewriteRule) (at : ℕ) : Type 0 where
  end : ℕ
  written : List WRule
  fits : Each RuleFits written
  says : map unplaced_rule (map said_rule written) ≡ map unplaced_rule (raw_rules_of d others rules)
  cut : Cutting Any at end (T.put_rules d k rules) (W.put_all W.put_rule written)

rules_written : (d : SystemData) (k : ℕ) (others : List (List (List ℕ))) (rules : List RewriteRule) → length others ≡ length rules → ((i : ℕ) → get_or d.meta_names (k + i) [] ≡ get_or others i [])
    → AreSpelledRules d k rules → (at : ℕ) → RulesWritten d k others rules at
rules_written d k [] [] long same spelled at = record { end = at; written = []; fits = tt; says = refl; cut = nothing_cut Any at }
rules_written d k [] (rule ∷ rules) long same spelled at = absurd (omega arith)
rules_written d k (metas ∷ others) [] long same spelled at = absurd (omega arith)
rules_written d k (metas ∷ others) (rule ∷ rules) long same spelled at =
    let first = rule_written d k rule spelled.0 at in
    let here : metas_at d k ≡ metas = ap (λ j. get_or d.meta_names j []) (next-first k) ∙ same 0 in
    let rest = rules_written d (k + 1) others rules (omega arith) (λ i. ap (λ j. get_or d.meta_names j []) (next-rest k i) ∙ same (suc i)) spelled.1 first.end in
    record {
      end = rest.end;
      written = first.written ∷ rest.written;
      fits = (first.fits, rest.fits);
      says = ap₂ (λ q qs. q ∷ qs) (first.says ∙ ap (λ ns. unplaced_rule (raw_rule_of d ns rule)) here) rest.says;
      cut = any_then first.cut rest.cut;
    }
  where
    next-first : (k : ℕ) → k ≡ k + 0
    next-first k = omega arith

    next-rest : (k i : ℕ) → k + 1 + i ≡ k + suc i
    next-rest k i = omega arith

-- the canonical parts of the system are spelled as a text may have them
pub record IsSpelledSystem (d : SystemData) : Type 0 where
  pub sort_names : All IsName d.sort_names
  pub fun_names : All IsName d.fun_names
  pub kinds : All (IsSpelledOver d.sort_names) d.symbols.funs
  pub rules : AreSpelledRules d 0 d.rules
  pub long : length d.meta_names ≡ length d.rules

-- the text is cut into tokens that spell what says the canonical parts, but for places
pub record SystemWritten (d : SystemData) : Type 0 where
  pub written : WSystem
  pub fits : SystemFits written
  pub says : unplaced (said written) ≡ unplaced (canonical d)
  pub tokens : List Token
  pub cut : Cuts 0 (T.system_text d) tokens whole
  pub spelling : map W.placed tokens ≡ W.spelled written

pub system_written : (d : SystemData) → IsSpelledSystem d → SystemWritten d
system_written d spelled =
    let sorts = sorts_written d.sort_names spelled.sort_names 0 in
    let funs = funs_written d.sort_names d.fun_names d.symbols.funs spelled.fun_names spelled.kinds sorts.end in
    let rules = rules_written d 0 d.meta_names d.rules spelled.long (λ i. ap (λ j. get_or d.meta_names j []) (from-none i)) spelled.rules funs.end in
    let all = (any_then sorts.cut (any_then funs.cut rules.cut)).cut [] [] tt ended in
    record {
      written = record { sorts = sorts.written; funs = funs.written; rules = rules.written };
      fits = (funs.fits, rules.fits);
      says = λ i. record { sorts = sorts.says i; funs = funs.says i; rules = rules.says i };
      tokens = all.0;
      cut = all.1;
      spelling = all.2;
    }
  where
    from-none : (i : ℕ) → 0 + i ≡ i
    from-none i = omega arith
