-- The filtered sides of rules and of pairs, by the extended ones.
use Rattle.std.proofs.Common.{◌≡◌, ℕ, ◌+◌, Bool, true, false, List, [], length, map, ap, subst, sym, ◌∙◌}
use Rattle.std.proofs.Math.Path.{subst₂}
use Rattle.wh_types.specs.Ty.{Ty}
use Rattle.wh_terms.specs.Tree.{Tm, tms_of}
use Rattle.wh_terms.specs.Typing.{Symbols, AllTyped}
use Rattle.wh_terms.specs.Rules.{RewriteRule, IsWellMade}
use Rattle.wh_terms.specs.Erase.{declared_metas, tm}
use Rattle.wh_terms.specs.declared.rule.MetaDecl.{MetaDecl}
use Rattle.wh_terms.specs.declared.term.Term.{Term}
use Rattle.wh_system.specs.CanonicalView.{side_of}
use Rattle.wh_pairs.specs.PairData.{PairData}
use Rattle.wh_polycheck.specs.Marks.{marked_types, head_of_side}
use Rattle.wh_order_extended.specs.Long.{long}
use Rattle.wh_order_extended.specs.ExtendedSides.{extended_side}
use Rattle.wh_order_extended.specs.Filtered.{sift}
use Rattle.wh_order_node.specs.Filterings.{FilteringData, filters_of, mark_among}
use Rattle.wh_order_node.specs.Ordering.{IsNarrow}
use Rattle.wh_order_sides.specs.declared.sides.WideSide.{WideSide}
use Rattle.wh_order_sides.specs.RuleSides.{IsWideSide}
use Rattle.wh_order_sides.specs.PairSides.{AreWholeArguments, list_of_side}
use Rattle.wh_order_trees.specs.declared.tree.Tree.{Tree}
use Rattle.wh_order.specs.TreeSides.{AreFilters, HasTypedCalls, IsTreeOf, IsTreeOfSide, IsTreeOfCall, extended_pair_side}
use Rattle.wh_order.specs.Kept.{HasProperMark, IsFiltered}
use Rattle.wh_order.specs.Sifted.{IsWhole, AreWhole, AreTreesOf, IsSifted, AreSifted}
use Rattle.wh_order.proofs.WholeLemmas.{whole_arguments, whole_side}
use Rattle.wh_order.proofs.SiftLemmas.{call_sifted}

module _ (S : Symbols) (rules : List RewriteRule) (D : FilteringData) (filters : AreFilters S rules D) where
  pub rule_sifted : (r : RewriteRule) (right : Bool) (w : WideSide) (ms : List MetaDecl) (t : Term) (u : Tree) → IsWellMade S r → IsWideSide S r (side_of right r) w
      → ms ≡ w.metas → t ≡ w.term → IsSifted D (declared_metas ms) (tm t) [] u
      → IsNarrow (extended_side S r (side_of right r)) × IsTreeOfSide S rules D r right u
  rule_sifted r right w ms t u made wide metas term sifted =
      let side : tm t ≡ extended_side S r (side_of right r) = ap tm term ∙ wide.same in
      let whole : IsWhole S 0 (tm t) = subst (IsWhole S 0) (sym side) (whole_side S r made right) in
      (wide.narrow, subst₂ (λ M (s : Tm). IsTreeOf S rules D M (sift (filters_of S D) s []) u) (ap declared_metas metas ∙ wide.metas) side (sifted S rules filters whole tt))

  typed_side : (p : PairData) (right : Bool) → HasTypedCalls S rules p → AllTyped S p.metas [] (tms_of (list_of_side p right)) (marked_types S rules (head_of_side p right))
  typed_side p true typed = typed.right
  typed_side p false typed = typed.left

  pub pair_sifted : (p : PairData) (right : Bool) (f : ℕ) (xs ys : List Term) (ms : List MetaDecl) (qs : List Tree) (u : Tree) → HasTypedCalls S rules p
      → AreWholeArguments S p.metas (head_of_side p right) (list_of_side p right) xs → declared_metas ms ≡ p.metas → ys ≡ xs → f ≡ head_of_side p right
      → AreSifted D (declared_metas ms) (map tm ys) qs
      → ((n : ℕ) (cs : List Ty) → HasProperMark D.marks f cs → length qs ≡ length cs → IsFiltered n (n + f) cs (mark_among D.marks f) qs u)
      → IsNarrow (extended_pair_side S p right) × IsTreeOfCall S rules D p right u
  pair_sifted p right f xs ys ms qs u typed wide metas items here sifted left =
      let ts : List Tm = map (long S p.metas []) (list_of_side p right) in
      let side : map tm ys ≡ ts = ap (map tm) items ∙ wide.same in
      let whole : AreWhole S (tms_of ts) = whole_arguments S p.metas (list_of_side p right) (marked_types S rules (head_of_side p right)) (typed_side p right typed) in
      let each : AreTreesOf S rules D p.metas (map (λ t. sift (filters_of S D) t []) ts) qs =
      subst₂ (λ M (l : List Tm). AreSifted D M l qs) metas side sifted S rules filters whole in
      let behind = subst (λ (g : ℕ). (n : ℕ) (cs : List Ty) → HasProperMark D.marks g cs → length qs ≡ length cs → IsFiltered n (n + g) cs (mark_among D.marks g) qs u) here left in
      (wide.narrow, call_sifted D p.metas S rules (head_of_side p right) (list_of_side p right) qs u filters (typed_side p right typed) each behind)
