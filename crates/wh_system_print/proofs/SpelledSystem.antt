-- What a well-made system declares and has in its rules is spelled as a text may have it.
use Rattle.std.proofs.Common.{◌≡◌, ℕ, suc, ◌+◌, ◌<◌, List, [], ◌∷◌, length, get_or, All, ap, sym, ◌∙◌, subst, arith}
use Rattle.std.proofs.lemmas.List.{length-map, get_or-map}
use Rattle.std.proofs.lemmas.List.Elements.{Contains-get_or}
use Rattle.wh_types.specs.Ty.{Ty, SortsBelow}
use Rattle.wh_terms.specs.Rules.{RewriteRule, IsWellMade}
use Rattle.wh_text.specs.Words.{IsName}
use Rattle.wh_system.specs.Systems.{SystemData}
use Rattle.wh_system.specs.WellMade.{IsTypeOver, IsWellMadeSystem}
use Rattle.wh_system.specs.CanonicalView.{names_of_rule}
use Rattle.wh_system_making.proofs.CanonicalBack.{HasNames, typed_named}
use Rattle.wh_system_print.proofs.CanonicalTypes.{type_spelled}
use Rattle.wh_system_print.proofs.CanonicalTerms.{AreNames, term_spelled}
use Rattle.wh_system_print.proofs.SpelledDeclarations.{IsSpelledOver}
use Rattle.wh_system_print.proofs.Lines.{IsSpelledRule, AreSpelledRules, IsSpelledSystem}

-- a type of the system is spelled as a text may have it
over : (d : SystemData) → IsWellMadeSystem d → (a : Ty) → IsTypeOver d.symbols.sorts a → IsSpelledOver d.sort_names a
over d w a is = type_spelled d.sort_names w.sort_names_spelled a 0 (subst (λ n. SortsBelow n a) (sym w.sorts_named) is.sorts_are_there) (let low = is.shallow in omega arith)

-- each rule has a list of names
long : (d : SystemData) → IsWellMadeSystem d → length d.meta_names ≡ length d.rules
long d w = sym (length-map d.meta_names length) ∙ ap length w.metas_named ∙ length-map d.rules (λ r. length r.metas)

-- with as many names as meta-variables
metas-long : (d : SystemData) → IsWellMadeSystem d → (k : ℕ) (e : RewriteRule) → k < length d.rules → length (get_or d.meta_names k []) ≡ length (get_or d.rules k e).metas
metas-long d w k e within =
    let same = long d w in
    let there : k < length d.meta_names = omega arith in
    sym (get_or-map length d.meta_names k [] 0 there) ∙ ap (λ counts. get_or counts k 0) w.metas_named ∙ get_or-map (λ r. length r.metas) d.rules k e 0 within

-- the rule number k
rule_spelled : (d : SystemData) → IsWellMadeSystem d → (k : ℕ) (e : RewriteRule) → k < length d.rules → IsSpelledRule d k (get_or d.rules k e)
rule_spelled d w k e within =
    let rule = get_or d.rules k e in
    let n = names_of_rule d k in
    let made : IsWellMade d.symbols rule = w.rules.each rule (Contains-get_or d.rules k e within) in
    let same = long d w in
    let metas : All IsName (get_or d.meta_names k []) = w.meta_names_spelled k [] (omega arith) in
    let names : AreNames n = record { sorts = w.sort_names_spelled; funs = w.fun_names_spelled; metas = metas } in
    let has : HasNames n d.symbols rule.metas = record { sorts = w.sorts_named; funs = w.symbols_named; metas = metas-long d w k e within } in
    let shallow = w.side_types_shallow k e within in
    let declared = w.meta_types k e within in
    record {
      names = metas;
      kinds = λ j m inside.
          record {
            args = λ i a there. over d w (get_or (get_or rule.metas j m).args i a) ((declared j m inside).args i a there);
            out = over d w (get_or rule.metas j m).out (declared j m inside).out;
          };
      left = term_spelled n names rule.left 0 0 (omega arith) (let few = made.left_fits.low in omega arith) made.left_closed (typed_named n has made.typed.1) shallow.0;
      right = term_spelled n names rule.right 0 0 (omega arith) (let few = made.right_fits.low in omega arith) made.right_closed (typed_named n has made.typed.2) shallow.1;
    }

-- the rules from number k on
rules_spelled : (d : SystemData) → IsWellMadeSystem d → (k : ℕ) (rules : List RewriteRule) → k + length rules ≡ length d.rules
    → ((i : ℕ) (e : RewriteRule) → get_or d.rules (k + i) e ≡ get_or rules i e) → AreSpelledRules d k rules
rules_spelled d w k [] long along = tt
rules_spelled d w k (rule ∷ rules) long along =
    let here : get_or d.rules k rule ≡ rule = ap (λ j. get_or d.rules j rule) (next-first k) ∙ along 0 rule in
    (subst (IsSpelledRule d k) here (rule_spelled d w k rule (omega arith)), rules_spelled d w (k + 1) rules (omega arith) (λ i e. ap (λ j. get_or d.rules j e) (next-rest k i) ∙ along (suc i) e))
  where
    next-first : (k : ℕ) → k ≡ k + 0
    next-first k = omega arith

    next-rest : (k i : ℕ) → k + 1 + i ≡ k + suc i
    next-rest k i = omega arith

-- all that a well-made system prints
pub system_spelled : (d : SystemData) → IsWellMadeSystem d → IsSpelledSystem d
system_spelled d w = record {
  sort_names = w.sort_names_spelled;
  fun_names = w.fun_names_spelled;
  kinds = λ k e within. over d w (get_or d.symbols.funs k e) (w.symbol_types k e within);
  rules = rules_spelled d w 0 d.rules (omega arith) (λ i e. ap (λ j. get_or d.rules j e) (from-none i));
  long = long d w;
}
  where
    from-none : (i : ℕ) → 0 + i ≡ i
    from-none i = omega arith
