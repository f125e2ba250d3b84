-- The symbols and the meta-variables that a fault names are there.
use Rattle.std.proofs.Common.{◌≡◌, ℕ, zero, suc, ◌<◌, inl, inr, List, [], ◌∷◌, length, map, get_or, Some, slice_get, true, false, refl, sym, ap, subst, ◌∙◌}
use Rattle.std.proofs.lemmas.Option.{slice_get_within, get_or_from_slice_get}
use Rattle.wh_types.specs.Ty.{Ty}
use Rattle.wh_terms.specs.Tree.{Tm, Tms}
use Rattle.wh_terms.specs.Typing.{Symbols, Declared, Typed, typed_bound, typed_free, typed_fun, typed_meta, typed_lam, typed_app, AllTyped, typed_none, typed_more}
use Rattle.wh_terms.specs.Sight.{Occurs, OccursIn}
use Rattle.wh_terms.specs.Rules.{RewriteRule}
use Rattle.wh_system.specs.Systems.{SystemData}
use Rattle.wh_system.specs.WellMade.{IsWellMadeSystem}
use Rattle.wh_pairs.specs.PairData.{PairData}
use Rattle.wh_pairs.proofs.ByPlace.{remap, unmap}
use Rattle.wh_access.specs.Passing.{IsFirstBreakIn}
use Rattle.wh_access.proofs.MadeLemmas.{rule_made}
use Rattle.wh_graph.specs.declared.blocks.BlockFault.TheVariants as blocked
use Rattle.wh_subterm.specs.Projections.{Chosen}
use Rattle.wh_subterm.specs.SubtermRows.{IsFirstOf}
use Rattle.wh_subterm.specs.declared.projection.SubtermFault.TheVariants as projected
use Rattle.wh_cert.specs.Written as w
use Rattle.wh_cert.specs.Written.{Cert, yes, no}
use Rattle.wh_cert.specs.Interps.{Interp}
use Rattle.wh_no.specs.declared.fault.NoFault.{NoFault}
use Rattle.wh_no.specs.declared.fault.NoFault.TheVariants as refuted
use Rattle.wh_hopoly.specs.Evaluation.{Interpretation}
use Rattle.wh_poly.specs.declared.excess.Excess.{Excess}
use Rattle.wh_poly.specs.declared.excess.Excess.TheVariants.{Overflow, TooLarge}
use Rattle.wh_polycheck.specs.Marks.{Mark}
use Rattle.wh_polycheck.specs.declared.fault.CoverFault.TheVariants as moves
use Rattle.wh_polycheck.specs.Small.{Limits}
use Rattle.wh_usable.specs.declared.closed.NotClosed.TheVariants as not_closed
use Rattle.wh_poly_covering.specs.declared.fault.CoveringFault.TheVariants as covered
use Rattle.wh_poly_covering.specs.declared.fault.LineFault.TheVariants as line
use Rattle.wh_order_node.specs.Filterings.{MarkFilter}
use Rattle.wh_order_check.specs.declared.fault.OrderingFault.TheVariants as ordered
use Rattle.wh_proof.specs.Looked.{SayChoices, SayInterpretations, SayMarks, SayMarkFilters}
use Rattle.wh_proof.proofs.FilterLemmas.{as_many_filters}
use Rattle.wh_checker.specs.Faults.{IsNodeFault, IsFirstNodeFault, at_first, behind_first, at_node, in_excess, of_claim, IsFirstYesFault, rank_count, inaccessible, pair_count, in_node, IsFirstFault}
use Rattle.wh_checker.specs.Named.{HasSymbol, HasMeta, NamesAreThere}
use Rattle.wh_checker.specs.declared.rejected.NodeFault.{NodeFault}
use Rattle.wh_checker.specs.declared.rejected.NodeFault.TheVariants as fault
use Rattle.wh_checker.specs.declared.rejected.CheckFault.{CheckFault}
use Rattle.wh_checker.specs.declared.rejected.CheckFault.TheVariants as check

mutual
  -- a meta-variable that occurs in a typed tree is declared
  occurs_declared : {S : Symbols} {M : List Declared} {Γ : List Ty} {t : Tm} {a : Ty} (z : ℕ) → Typed S M Γ t a → Occurs z t → z < length M
  occurs_declared z (typed_bound e) o = absurd o
  occurs_declared z (typed_free e) o = absurd o
  occurs_declared z (typed_fun e) o = absurd o
  occurs_declared {M = M} z (typed_meta e ts out) (inl o) = subst (λ z. z < length M) o (slice_get_within M _ _ e)
  occurs_declared z (typed_meta e ts out) (inr o) = occurs_in_declared z ts o
  occurs_declared z (typed_lam s t) o = occurs_declared z t o
  occurs_declared z (typed_app t u) (inl o) = occurs_declared z t o
  occurs_declared z (typed_app t u) (inr o) = occurs_declared z u o

  occurs_in_declared : {S : Symbols} {M : List Declared} {Γ : List Ty} {ts : Tms} {bs : List Ty} (z : ℕ) → AllTyped S M Γ ts bs → OccursIn z ts → z < length M
  occurs_in_declared z typed_none o = absurd o
  occurs_in_declared z (typed_more t ts) (inl o) = occurs_declared z t o
  occurs_in_declared z (typed_more t ts) (inr o) = occurs_in_declared z ts o

-- a meta-variable that occurs in the right side of a rule has a name
pub used_there : (d : SystemData) (r z : ℕ) (rule : RewriteRule) → IsWellMadeSystem d → slice_get d.rules r ≡ Some rule → Occurs z rule.right → HasMeta d r z
used_there d r z rule made at occurs =
    let declared : z < length rule.metas = occurs_declared z (rule_made d r rule made at).typed.2 occurs in
    let count : slice_get (map length d.meta_names) r ≡ Some (length rule.metas) =
    ap (λ l. slice_get l r) made.metas_named ∙ remap (λ (u : RewriteRule). length u.metas) d.rules r rule at in
    let (names, there, long) = unmap length d.meta_names r (length rule.metas) count in
    let same : get_or d.meta_names r [] ≡ names = get_or_from_slice_get d.meta_names r names [] there in
    (slice_get_within d.rules r rule at, subst (λ (l : List (List ℕ)). z < length l) (sym same) (subst (λ n. z < n) (sym long) declared))

-- the rule and the meta-variable that break passing
break_there : (d : SystemData) (ranks : List ℕ) (r z : ℕ) → IsWellMadeSystem d → IsFirstBreakIn d ranks r z → HasMeta d r z
break_there d ranks r z made first =
    let (rule, at, occurs, not, least) = first.here in
    used_there d r z rule made at occurs

-- what lines say is of symbols that are there

chosen_there : (d : SystemData) (lines : List w.Arg) (args : List Chosen) (i : ℕ) (c : Chosen) → SayChoices d lines args
    → slice_get args i ≡ Some c → HasSymbol d c.symbol
chosen_there d (line ∷ lines) (a ∷ args) zero c says at =
    let same : a ≡ c = cc at in subst (λ (b : Chosen). HasSymbol d b.symbol) same (slice_get_within d.fun_names a.symbol line.name says.0.named)
chosen_there d (line ∷ lines) (a ∷ args) (suc i) c says at = chosen_there d lines args i c says.1 at
chosen_there d [] [] i c says at = absurd (cc at)
chosen_there d [] (a ∷ args) i c says at = absurd says
chosen_there d (line ∷ lines) [] i c says at = absurd says

mark_there : (d : SystemData) (lines : List Interp) (marks : List Mark) (i : ℕ) (m : Mark) → SayMarks d lines marks
    → slice_get marks i ≡ Some m → HasSymbol d m.symbol
mark_there d (line ∷ lines) (a ∷ marks) zero m says at =
    let same : a ≡ m = cc at in subst (λ (b : Mark). HasSymbol d b.symbol) same (slice_get_within d.fun_names a.symbol line.name says.0.named)
mark_there d (line ∷ lines) (a ∷ marks) (suc i) m says at = mark_there d lines marks i m says.1 at
mark_there d [] [] i m says at = absurd (cc at)
mark_there d [] (a ∷ marks) i m says at = absurd says
mark_there d (line ∷ lines) [] i m says at = absurd says

as_many : (names : List (List ℕ)) (kinds : List Ty) (lines : List Interp) (symbols : List Interpretation)
    → SayInterpretations names kinds lines symbols → length symbols ≡ length names
as_many [] [] [] [] says = refl
as_many (n ∷ names) (a ∷ kinds) (l ∷ lines) (s ∷ symbols) says = ap suc (as_many names kinds lines symbols says.3)
as_many [] [] [] (s ∷ symbols) says = absurd says
as_many [] [] (l ∷ lines) symbols says = absurd says
as_many [] (a ∷ kinds) lines symbols says = absurd says
as_many (n ∷ names) [] lines symbols says = absurd says
as_many (n ∷ names) (a ∷ kinds) [] symbols says = absurd says
as_many (n ∷ names) (a ∷ kinds) (l ∷ lines) [] says = absurd says

mark_filter_there : (d : SystemData) (lines : List w.Filtering) (marks : List MarkFilter) (i : ℕ) (m : MarkFilter) → SayMarkFilters d lines marks
    → slice_get marks i ≡ Some m → HasSymbol d m.symbol
mark_filter_there d (line ∷ lines) (a ∷ marks) zero m says at =
    let same : a ≡ m = cc at in
    subst (λ (b : MarkFilter). HasSymbol d b.symbol) same (slice_get_within d.fun_names a.symbol line.name says.0.named)
mark_filter_there d (line ∷ lines) (a ∷ marks) (suc i) m says at = mark_filter_there d lines marks i m says.1 at
mark_filter_there d [] [] i m says at = absurd (cc at)
mark_filter_there d [] (a ∷ marks) i m says at = absurd says
mark_filter_there d (line ∷ lines) [] i m says at = absurd says

-- the symbol of the first choice that P holds of
first_there : (d : SystemData) (lines : List w.Arg) (args : List Chosen) (P : Chosen → Type 0) (f : ℕ) → SayChoices d lines args
    → IsFirstOf P args f → HasSymbol d f
first_there d lines args P f says (i, c, at, is, holds, least) = subst (HasSymbol d) is (chosen_there d lines args i c says at)

-- what a fault names is there, if it names something
abbrev ItsNamesAreThere : SystemData → CheckFault → Type 0
ItsNamesAreThere d (check.Rejected r) = NamesAreThere d r
ItsNamesAreThere d (check.Overflow k) = Unit {0}
ItsNamesAreThere d (check.TooLarge k) = Unit {0}

excess_there : (d : SystemData) (k : ℕ) (e : Excess) → ItsNamesAreThere d (in_excess k e)
excess_there d k Overflow = tt
excess_there d k TooLarge = tt

node_there : (m : Limits) (d : SystemData) (ps : List PairData) (set : List ℕ) (k : ℕ) (l : w.Node) (f : NodeFault)
    → IsNodeFault m d ps set l f → ItsNamesAreThere d (at_node k f)
node_there m d ps set k l fault.NotEmpty is = tt
node_there m d ps set k l fault.NotOne is = tt
node_there m d ps set k l (fault.Loops a) is = tt
node_there m d ps set k l (fault.Blocks blocked.FewBlocks) is = tt
node_there m d ps set k l (fault.Blocks (blocked.NotPartition a)) is = tt
node_there m d ps set k l (fault.Blocks (blocked.BackEdge a b)) is = tt
node_there m d ps set k l (fault.Subterm projected.BadArgs) is = tt
node_there m d ps set k (w.subterm lines drop) (fault.Subterm (projected.NoProjection f)) (args, says, first) =
    first_there d lines args _ f says first.1
node_there m d ps set k (w.subterm lines drop) (fault.Subterm (projected.BadArgument f)) (args, says, first) =
    first_there d lines args _ f says first.2
node_there m d ps set k l (fault.Subterm projected.BadDrop) is = tt
node_there m d ps set k l (fault.Subterm (projected.NotDecreasing a)) is = tt
node_there m d ps set k l fault.BadUsable is = tt
node_there m d ps set k l fault.BadSymbols is = tt
node_there m d ps set k (w.interpretations usable funs lines rules pairs drop) (fault.Poly (covered.BadPolynomial f false)) (covers, R, say, first) =
    let (s, at, not, least) = first in
    subst (λ n. f < n) (as_many d.fun_names d.symbols.funs funs R.symbols say.0.0) (slice_get_within R.symbols f s at)
node_there m d ps set k (w.interpretations usable funs lines rules pairs drop) (fault.Poly (covered.BadPolynomial f true)) (covers, R, say, ready) =
    let (i, a, at, is, not, least) = ready.1 in
    subst (HasSymbol d) is (mark_there d lines R.marks i a say.0.1 at)
node_there m d ps set k l (fault.Poly covered.BadLines) is = tt
node_there m d ps set k l (fault.Poly covered.BadDrop) is = tt
node_there m d ps set k l (fault.Poly (covered.NotClosed (not_closed.Rule r))) is = tt
node_there m d ps set k l (fault.Poly (covered.NotClosed (not_closed.Pair a))) is = tt
node_there m d ps set k l (fault.Poly (covered.Rule r (line.Exceeds e))) is = excess_there d k e
node_there m d ps set k l (fault.Poly (covered.Rule r (line.Cover (moves.BadMove e)))) is = tt
node_there m d ps set k l (fault.Poly (covered.Rule r (line.Cover (moves.OverSpent i)))) is = tt
node_there m d ps set k l (fault.Poly (covered.Rule r (line.Cover (moves.NotCovered j)))) is = tt
node_there m d ps set k l (fault.Poly (covered.Rule r (line.Cover moves.NotStrict))) is = tt
node_there m d ps set k l (fault.Poly (covered.Pair a (line.Exceeds e))) is = excess_there d k e
node_there m d ps set k l (fault.Poly (covered.Pair a (line.Cover (moves.BadMove e)))) is = tt
node_there m d ps set k l (fault.Poly (covered.Pair a (line.Cover (moves.OverSpent i)))) is = tt
node_there m d ps set k l (fault.Poly (covered.Pair a (line.Cover (moves.NotCovered j)))) is = tt
node_there m d ps set k l (fault.Poly (covered.Pair a (line.Cover moves.NotStrict))) is = tt
node_there m d ps set k (w.order funs lines rules pairs drop) (fault.Order (ordered.BadFilter f false)) (D, say, first) =
    let (a, w, at, here, not, least) = first in
    subst (λ n. f < n) (as_many_filters d.fun_names funs D.symbols say.0.0) (slice_get_within D.symbols f w here)
node_there m d ps set k (w.order funs lines rules pairs drop) (fault.Order (ordered.BadFilter f true)) (D, say, ready) =
    let (i, a, at, is, not, least) = ready.1 in
    subst (HasSymbol d) is (mark_filter_there d lines D.marks i a say.0.1 at)
node_there m d ps set k l (fault.Order ordered.BadLines) is = tt
node_there m d ps set k l (fault.Order ordered.BadDrop) is = tt
node_there m d ps set k l (fault.Order (ordered.WideRule r)) is = tt
node_there m d ps set k l (fault.Order (ordered.WidePair a)) is = tt
node_there m d ps set k l (fault.Order (ordered.BadRule r e)) is = tt
node_there m d ps set k l (fault.Order (ordered.BadPair a e)) is = tt
node_there m d ps set k l (fault.Order (ordered.NotStrict a)) is = tt
node_there m d ps set k w.done (fault.Subterm (projected.NoProjection f)) is = absurd is
node_there m d ps set k w.alone (fault.Subterm (projected.NoProjection f)) is = absurd is
node_there m d ps set k (w.blocks parts) (fault.Subterm (projected.NoProjection f)) is = absurd is
node_there m d ps set k (w.interpretations usable funs lines rules pairs drop) (fault.Subterm (projected.NoProjection f)) is = absurd is
node_there m d ps set k (w.order funs lines rules pairs drop) (fault.Subterm (projected.NoProjection f)) is = absurd is
node_there m d ps set k w.done (fault.Subterm (projected.BadArgument f)) is = absurd is
node_there m d ps set k w.alone (fault.Subterm (projected.BadArgument f)) is = absurd is
node_there m d ps set k (w.blocks parts) (fault.Subterm (projected.BadArgument f)) is = absurd is
node_there m d ps set k (w.interpretations usable funs lines rules pairs drop) (fault.Subterm (projected.BadArgument f)) is = absurd is
node_there m d ps set k (w.order funs lines rules pairs drop) (fault.Subterm (projected.BadArgument f)) is = absurd is
node_there m d ps set k w.done (fault.Poly (covered.BadPolynomial f marked)) is = absurd is
node_there m d ps set k w.alone (fault.Poly (covered.BadPolynomial f marked)) is = absurd is
node_there m d ps set k (w.blocks parts) (fault.Poly (covered.BadPolynomial f marked)) is = absurd is
node_there m d ps set k (w.subterm lines drop) (fault.Poly (covered.BadPolynomial f marked)) is = absurd is
node_there m d ps set k (w.order funs lines rules pairs drop) (fault.Poly (covered.BadPolynomial f marked)) is = absurd is
node_there m d ps set k w.done (fault.Order (ordered.BadFilter f marked)) is = absurd is
node_there m d ps set k w.alone (fault.Order (ordered.BadFilter f marked)) is = absurd is
node_there m d ps set k (w.blocks parts) (fault.Order (ordered.BadFilter f marked)) is = absurd is
node_there m d ps set k (w.subterm lines drop) (fault.Order (ordered.BadFilter f marked)) is = absurd is
node_there m d ps set k (w.interpretations usable funs lines rules pairs drop) (fault.Order (ordered.BadFilter f marked)) is = absurd is

first_node_there : (m : Limits) (d : SystemData) (ps : List PairData) (n k : ℕ) (sets : List (List ℕ)) (lines : List w.Node) (f : NodeFault)
    → IsFirstNodeFault m d ps n sets lines k f → ItsNamesAreThere d (at_node k f)
first_node_there m d ps n k (set ∷ sets) (l ∷ lines) f (at_first is) = node_there m d ps set k l f is
first_node_there m d ps n k (set ∷ sets) (l ∷ lines) f (behind_first says leaves small rest) = first_node_there m d ps (suc n) k _ lines f rest
first_node_there m d ps n k [] lines f first = elim first [ ]
first_node_there m d ps n k (set ∷ sets) [] f first = elim first [ ]

yes_there : (m : Limits) (d : SystemData) (ps : List PairData) (ranks : List ℕ) (pairs : ℕ) (lines : List w.Node) (f : CheckFault)
    → IsWellMadeSystem d → IsFirstYesFault m d ps ranks pairs lines f → ItsNamesAreThere d f
yes_there m d ps ranks pairs lines f made (rank_count not) = tt
yes_there m d ps ranks pairs lines f made (inaccessible {r = r} {z = z} count first) = break_there d ranks r z made first
yes_there m d ps ranks pairs lines f made (pair_count count passing other) = tt
yes_there m d ps ranks pairs lines f made (in_node {k = k} {set = set} {f = g} count passing right whole first) =
    first_node_there m d ps 0 k (set ∷ []) lines g first

claim_there : (d : SystemData) (f : NoFault) → NamesAreThere d (of_claim f)
claim_there d refuted.NotATerm = tt
claim_there d refuted.NoStep = tt
claim_there d (refuted.StepFails i) = tt
claim_there d (refuted.TooBig i) = tt
claim_there d (refuted.BadPut i) = tt
claim_there d refuted.NoInstance = tt

pub fault_there : (m : Limits) (d : SystemData) (ps : List PairData) (c : Cert) (f : CheckFault) → IsWellMadeSystem d
    → IsFirstFault m d ps c f → ItsNamesAreThere d f
fault_there m d ps (yes version ranks pairs lines) f made first = yes_there m d ps ranks pairs lines f made first
fault_there m d ps (no t steps at puts) f made (e, is, first) = subst (ItsNamesAreThere d) (sym is) (claim_there d e)
