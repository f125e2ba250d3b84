-- All that stands in a pair of a system has a name.
use Rattle.std.proofs.Common.{◌≡◌, ℕ, suc, ◌+◌, ◌-◌, ◌<◌, ◌≤◌, List, [], ◌∷◌, ◌++◌, length, map, take, reverse, get_or, All, Some, ⊎_elim, refl, sym, subst, arith}
use Rattle.std.specs.Prelude.{Contains, slice_get, true, false}
use Rattle.std.proofs.lemmas.List.{length-append, length-map, length-reverse, length-take, length-drop}
use Rattle.std.proofs.lemmas.List.Elements.{All-append, All-map, All-take, All-weaker, Contains-get_or, Contains-append_cases}
use Rattle.std.proofs.lemmas.Option.{slice_get-get_or}
use Rattle.wh_types.specs.Ty.{sort, arguments}
use Rattle.wh_terms.specs.Tree.{Tm, free}
use Rattle.wh_terms.specs.Substitution.{act}
use Rattle.wh_terms.specs.Rules.{RewriteRule}
use Rattle.wh_system.specs.Systems.{SystemData}
use Rattle.wh_system.specs.WellMade.{IsWellMadeSystem}
use Rattle.wh_system.specs.Canonical.{Names, IsNamedBelow}
use Rattle.wh_system.specs.CanonicalView.{names_of_rule}
use Rattle.wh_pairs.specs.PairData.{PairData}
use Rattle.wh_system_making.proofs.CanonicalBack.{rule_there, metas_there, side_named}
use Rattle.wh_pairs.specs.Spines.{symbol_of}
use Rattle.wh_pairs.specs.Calls.{Call, calls_of}
use Rattle.wh_pairs.specs.Candidates.{nullary, freed, numbered_from, missing_types, candidate, candidates_from, candidates}
use Rattle.wh_pairs.specs.Subsumption.{AreLeft, none_left, one_dropped, one_kept, ArePairs}
use Rattle.wh_pairs.proofs.KnownLemmas.{defined_call, takes_arguments}
use Rattle.wh_pairs.proofs.MemberLemmas.{none_there, at_head, behind, head_or_behind}
use Rattle.wh_system_print.specs.PairText.{fresh_names, names_of_pair}
use Rattle.wh_system_print.specs.Named.{IsNamedPair}
use Rattle.wh_system_print.proofs.RulePrinting.{metas_within}
use Rattle.wh_system_print.proofs.FreshNames.{length-fresh_names}
use Rattle.wh_system_print.proofs.NamedParts.{named-act, named-wide, named-freed, named-numbered, named-head, named-arguments, IsNamedCall, named-call}

-- the candidate of a call in the right side of a rule
module _ (d : SystemData) (w : IsWellMadeSystem d) (k : ℕ) (r : RewriteRule) (c : Call) (there : slice_get d.rules k ≡ Some r) (at : Contains (calls_of d.rules r) c) where
  abbrev own : List (List ℕ)
  own = get_or d.meta_names k []

  abbrev p : PairData
  p = candidate d.symbols k r c

  rule-within : k < length d.meta_names
  rule-within = metas_within d w k r there

  own-names : slice_get d.meta_names k ≡ Some own
  own-names = slice_get-get_or d.meta_names k [] rule-within

  own-length : length own ≡ length r.metas
  own-length = metas_there d w k r own there own-names

  pair-length : length p.metas ≡ length r.metas + (length c.binders + length (missing_types d.symbols c))
  pair-length =
      let fresh = reverse c.binders ++ missing_types d.symbols c in
      omega (arith, length-append r.metas (map nullary fresh), length-map fresh nullary, length-append (reverse c.binders) (missing_types d.symbols c), length-reverse c.binders)

  all-names : length (names_of_pair d p).metas ≡ length p.metas
  all-names =
      let n : ℕ = length p.metas - length own in
      omega (arith, length-append own (fresh_names 0 n), length-fresh_names 0 n, own-length, pair-length)

  wide : length own ≤ length (names_of_pair d p).metas
  wide = omega (arith, all-names, own-length, pair-length)

  call-named : IsNamedCall (names_of_rule d k) c
  call-named = named-call (names_of_rule d k) d.rules [] [] r.right [] c (λ v h. absurd (none_there v h)) (side_named d w k r true own there own-names) (λ j t l. absurd (omega arith)) at

  -- as many fresh meta-variables as arguments are missing
  lacking : c.need - length c.arguments ≤ length (missing_types d.symbols c)
  lacking =
      let kinds = arguments (get_or d.symbols.funs c.symbol (sort 0)) in
      let takes = takes_arguments d w c.symbol c.need (defined_call d.rules r c at) in
      omega (arith, length-drop (length c.arguments) (take c.need kinds), length-take c.need kinds, takes.enough)

  left-named : IsNamedBelow (names_of_pair d p) 0 r.left
  left-named = named-wide d.sort_names d.fun_names own (names_of_pair d p).metas wide r.left (side_named d w k r false own there own-names)

  freed-named : (t : Tm) → IsNamedBelow (names_of_rule d k) (length c.binders) t → IsNamedBelow (names_of_pair d p) 0 (act (freed (length r.metas) c.binders) free t)
  freed-named t l =
      named-act d.sort_names d.fun_names own (names_of_pair d p).metas wide (length c.binders) 0 (freed (length r.metas) c.binders) free t
      (named-freed (names_of_pair d p) (length r.metas) c.binders (omega (arith, all-names, pair-length))) (λ x a s. s) l

  right-named : All (IsNamedBelow (names_of_pair d p) 0) p.right
  right-named =
      let n : Names = names_of_pair d p in
      let given : List Tm = take c.need c.arguments in
      let first : ℕ = length r.metas + length c.binders in
      let count : ℕ = c.need - length c.arguments in
      All-append (IsNamedBelow n 0) (map (act (freed (length r.metas) c.binders) free) given) (numbered_from first count)
      (All-map (IsNamedBelow n 0) (act (freed (length r.metas) c.binders) free) given
      (All-weaker (IsNamedBelow (names_of_rule d k) (length c.binders)) (λ t. IsNamedBelow n 0 (act (freed (length r.metas) c.binders) free t)) freed-named given
      (All-take (IsNamedBelow (names_of_rule d k) (length c.binders)) c.need c.arguments call-named.arguments)))
      (named-numbered n first count (omega (arith, all-names, pair-length, lacking)))

  left-symbol : p.left_fun < length d.fun_names
  left-symbol =
      let headed = (rule_there d w k r there).headed in
      let n : Names = names_of_pair d p in
      let here : headed.0 < length d.fun_names = subst (IsNamedBelow n 0) headed.1 (named-head n 0 r.left left-named) in
      subst (λ t. symbol_of t < length d.fun_names) (sym headed.1) here

  right-symbol : c.symbol < length d.fun_names
  right-symbol = subst (λ n. c.symbol < n) (sym w.symbols_named) (takes_arguments d w c.symbol c.need (defined_call d.rules r c at)).known

  pub named-candidate : IsNamedPair d p
  named-candidate = record {
    rule = rule-within;
    own = omega (arith, own-length, pair-length);
    left_fun = left-symbol;
    left = named-arguments (names_of_pair d p) 0 r.left left-named;
    right_fun = right-symbol;
    right = right-named;
    conditions = λ j v l. call-named.conditions (get_or c.conditions j v) (Contains-get_or c.conditions j v l);
  }

-- the candidates of a system

named-of_rule : (d : SystemData) → IsWellMadeSystem d → (k : ℕ) (r : RewriteRule) → slice_get d.rules k ≡ Some r → (cs : List Call) → ((c : Call) → Contains cs c → Contains (calls_of d.rules r) c)
    → (p : PairData) → Contains (map (candidate d.symbols k r) cs) p → IsNamedPair d p
named-of_rule d w k r there [] among p at = absurd (none_there p at)
named-of_rule d w k r there (c ∷ cs) among p at =
    ⊎_elim (λ is. subst (IsNamedPair d) is (named-candidate d w k r c there (among c (at_head cs c)))) (λ h. named-of_rule d w k r there cs (λ e l. among e (behind cs c e l)) p h)
    (head_or_behind (map (candidate d.symbols k r) cs) (candidate d.symbols k r c) p at)

named-from : (d : SystemData) → IsWellMadeSystem d → (k : ℕ) (rs : List RewriteRule) → ((i : ℕ) (r : RewriteRule) → slice_get rs i ≡ Some r → slice_get d.rules (k + i) ≡ Some r)
    → (p : PairData) → Contains (candidates_from d.symbols d.rules k rs) p → IsNamedPair d p
named-from d w k [] there p at = absurd (none_there p at)
named-from d w k (r ∷ rs) there p at =
    let here : slice_get d.rules k ≡ Some r = subst (λ i. slice_get d.rules i ≡ Some r) (omega arith) (there 0 r refl) in
    let later : (i : ℕ) (s : RewriteRule) → slice_get rs i ≡ Some s → slice_get d.rules (k + 1 + i) ≡ Some s =
    λ i s e. subst (λ j. slice_get d.rules j ≡ Some s) (let same : k + suc i ≡ k + 1 + i = omega arith in same) (there (suc i) s e) in
    ⊎_elim (λ h. named-of_rule d w k r here (calls_of d.rules r) (λ c l. l) p h) (λ h. named-from d w (k + 1) rs later p h)
    (Contains-append_cases (map (candidate d.symbols k r) (calls_of d.rules r)) (candidates_from d.symbols d.rules (k + 1) rs) p at)

pub candidates_named : (d : SystemData) → IsWellMadeSystem d → (p : PairData) → Contains (candidates d.symbols d.rules) p → IsNamedPair d p
candidates_named d w p at = named-from d w 0 d.rules (λ i r e. subst (λ j. slice_get d.rules j ≡ Some r) (let same : i ≡ 0 + i = omega arith in same) e) p at

-- those that are left are among the candidates
pub left_among : (before after pairs : List PairData) → AreLeft before after pairs → (p : PairData) → Contains pairs p → Contains after p
left_among before after pairs none_left p at = at
left_among before after pairs (one_dropped {after = rest} {c = c} n l) p at = behind rest c p (left_among (c ∷ before) rest pairs l p at)
left_among before after pairs (one_kept {after = rest} {pairs = kept} {c = c} n l) p at =
    ⊎_elim (λ is. subst (Contains (c ∷ rest)) is (at_head rest c)) (λ h. behind rest c p (left_among (c ∷ before) rest kept l p h)) (head_or_behind kept c p at)

pub pairs_named : (d : SystemData) → IsWellMadeSystem d → (pairs : List PairData) → ArePairs (candidates d.symbols d.rules) pairs → (p : PairData) → Contains pairs p → IsNamedPair d p
pairs_named d w pairs left p at = candidates_named d w p (left_among [] (candidates d.symbols d.rules) pairs left p at)
