-- The extended sides of a rule, by what the walk is given.
use Rattle.std.proofs.Common.{◌≡◌, ℕ, ◌++◌, ◌<◌, Bool, List, [], Result, Some, slice_get, length, get_or, ap, ap₂, subst, sym, ◌∙◌, arith}
use Rattle.std.proofs.lemmas.List.{length-map}
use Rattle.wh_types.specs.Ty.{Ty, arguments}
use Rattle.wh_types.specs.Limits.{greatest_size}
use Rattle.wh_types.specs.Outcome.{MatchOr}
use Rattle.wh_types.specs.declared.want.Or.{Or}
use Rattle.wh_terms.specs.Tree.{Tm, spine}
use Rattle.wh_terms.specs.Typing.{Symbols, Declared}
use Rattle.wh_terms.specs.Rules.{RewriteRule}
use Rattle.wh_terms.specs.Measures.{size}
use Rattle.wh_terms.specs.Erase.{declared_metas, rewrite_rule, rewrite_rules, tm}
use Rattle.wh_terms.specs.declared.rule.Rule.{Rule}
use Rattle.wh_terms.proofs.TypingLaws.{some_one}
use Rattle.wh_system.specs.CanonicalView.{side_of}
use Rattle.wh_pairs.proofs.ByPlace.{read_map}
use Rattle.wh_order_extended.specs.Kinds.{kind}
use Rattle.wh_order_extended.specs.Long.{long}
use Rattle.wh_order_extended.specs.ExtendedSides.{added, added_from, extended_metas, extended_side}
use Rattle.wh_order_sides.specs.declared.room.Built.{Built}
use Rattle.wh_order_sides.specs.declared.room.TooWide.{TooWide}
use Rattle.wh_order_sides.specs.declared.sides.WideSide.{WideSide}
use Rattle.wh_order_sides.specs.Room.{IsBuilt}
use Rattle.wh_order_sides.specs.RuleSides.{IsWideSide}

module _ (S : Symbols) (r : RewriteRule) (t : Tm) where
  pub metas_are : (M : List Declared) (a : Ty) → a ≡ kind S r.metas [] r.left → M ≡ r.metas ++ added (arguments a) → M ≡ extended_metas S r
  metas_are M a is more = more ∙ ap (λ b. r.metas ++ added (arguments b)) is

  side-is : (M : List Declared) (a : Ty) (first : ℕ) (w : Tm) → a ≡ kind S r.metas [] r.left → M ≡ r.metas ++ added (arguments a) → first ≡ length r.metas
      → w ≡ spine t (added_from first (arguments a)) → long S M [] w ≡ extended_side S r t
  side-is M a first w is more count whole =
      ap (λ L. long S L [] w) (metas_are M a is more)
      ∙ ap (long S (extended_metas S r) []) (whole ∙ ap₂ (λ n b. spine t (added_from n (arguments b))) count is)

  pub side_built : (M : List Declared) (a : Ty) (first : ℕ) (w : Tm) (b : Built) (u : WideSide) → a ≡ kind S r.metas [] r.left → M ≡ r.metas ++ added (arguments a)
      → first ≡ length r.metas → w ≡ spine t (added_from first (arguments a)) → IsBuilt greatest_size (long S M [] w) b → u.term ≡ b.term → declared_metas u.metas ≡ M
      → IsWideSide S r t u
  side_built M a first w b u is more count whole built same metas =
      let here = side-is M a first w is more count whole in
      record {
        same = ap tm same ∙ built.same ∙ here;
        metas = metas ∙ metas_are M a is more;
        narrow = omega (arith, built.left, ap size here);
      }

  pub side_wide : (M : List Declared) (a : Ty) (first : ℕ) (w : Tm) → a ≡ kind S r.metas [] r.left → M ≡ r.metas ++ added (arguments a) → first ≡ length r.metas
      → w ≡ spine t (added_from first (arguments a)) → greatest_size < size (long S M [] w) → greatest_size < size (extended_side S r t)
  side_wide M a first w is more count whole wide = omega (arith, wide, ap size (side-is M a first w is more count whole))

-- the rule at its number
pub rule_there : (xs : List Rule) (rules : List RewriteRule) (i : ℕ) (x : Rule) → rewrite_rules xs ≡ rules → i < length rules → x ≡ get_or xs i x
    → slice_get rules i ≡ Some (rewrite_rule x)
rule_there xs rules i x same within e =
    subst (λ (rs : List RewriteRule). slice_get rs i ≡ Some (rewrite_rule x)) same
    (read_map rewrite_rule xs i x (omega (arith, ap length same, length-map xs rewrite_rule)) e)

-- what is told of a side, where the rule and the symbols are found in the system
pub told_rule : (S T : Symbols) (rules : List RewriteRule) (i : ℕ) (q r : RewriteRule) (t : Tm) (right : Bool) (answer : Result WideSide (Or TooWide)) → S ≡ T
    → slice_get rules i ≡ Some q → slice_get rules i ≡ Some r → t ≡ side_of right q
    → MatchOr answer (IsWideSide S q t) (λ _. greatest_size < size (extended_side S q t))
    → MatchOr answer (IsWideSide T r (side_of right r)) (λ _. greatest_size < size (extended_side T r (side_of right r)))
told_rule S T rules i q r t right answer same at there side told =
    let is : q ≡ r = some_one (sym at ∙ there) in
    let here = subst (λ (u : Tm). MatchOr answer (IsWideSide S q u) (λ _. greatest_size < size (extended_side S q u))) side told in
    let found = subst (λ (p : RewriteRule). MatchOr answer (IsWideSide S p (side_of right p)) (λ _. greatest_size < size (extended_side S p (side_of right p)))) is here in
    subst (λ (X : Symbols). MatchOr answer (IsWideSide X r (side_of right r)) (λ _. greatest_size < size (extended_side X r (side_of right r)))) same found
