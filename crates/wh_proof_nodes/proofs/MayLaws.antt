-- A pair may follow another wherever values of its left side are reached from values of the other's right side.
use Rattle.std.proofs.Common.{◌≡◌, ℕ, zero, suc, List, [], ◌∷◌, Some, slice_get, refl, ap, sym, ◌∙◌, subst, subst₂}
use Rattle.wh_terms.specs.Tree.{Tm, tms_of}
use Rattle.wh_terms.specs.Typing.{Symbols}
use Rattle.wh_terms.specs.Value.{Body, Value, Values, of_more}
use Rattle.wh_terms.specs.Rules.{RewriteRule, AreWellMade}
use Rattle.wh_terms.specs.StepOver.{StepOver}
use Rattle.wh_terms.proofs.ValueLaws.{value_is}
use Rattle.wh_step.specs.Step.{Step}
use Rattle.wh_step.proofs.Instances.{Instance}
use Rattle.wh_step.proofs.RawStep.{RawStep, step_raw}
use Rattle.wh_step_laws.specs.Ends.{StepsIn}
use Rattle.wh_step_laws.proofs.SystemSteps.{instance_headed}
use Rattle.wh_pairs.specs.PairData.{PairData}
use Rattle.wh_graph.specs.May.{May}
use Rattle.wh_proof_calls.proofs.NeedLaws.{rule_need}
use Rattle.wh_proof_nodes.specs.Many.{Many}
use Rattle.wh_proof_nodes.proofs.ManyLaws.{many_at, many-map, steps_in-map}
use Rattle.wh_proof_nodes.proofs.RigidLaws.{NeedsArguments, clash_apart}

-- the values of a list, one by one
pub values_at : {g : ℕ → Body} (ps vs : List Tm) (i : ℕ) (p : Tm) → Values g (tms_of ps) (tms_of vs) → slice_get ps i ≡ Some p
    → (v : Tm) × (slice_get vs i ≡ Some v) × Value g p v
values_at [] vs i p are e = absurd (cc)
values_at (q ∷ ps) [] i p are e = elim are [ ]
values_at {g = g} (q ∷ ps) (v ∷ vs) zero p (of_more here rest) e = let same : q ≡ p = cc in (v, refl, subst (λ t. Value g t v) same here)
values_at (q ∷ ps) (v ∷ vs) (suc i) p (of_more here rest) e = values_at ps vs i p rest e

-- `May` is sound for R: where R leads, memberwise, from values of the right side of a pair to values of the left side of another
-- one with the same symbol, that pair may follow
abbrev pub MayIsSound : List RewriteRule → (Tm → Tm → Type 0) → Type 0
MayIsSound rules R =
    (a b : PairData) (g h : ℕ → Body) (us vs : List Tm) → a.right_fun ≡ b.left_fun → Values g (tms_of a.right) (tms_of us)
    → Values h (tms_of b.left) (tms_of vs) → Many (StepsIn R) us vs → May rules a b

may_sound-over : (rules : List RewriteRule) {R : Tm → Tm → Type 0} → NeedsArguments rules R → MayIsSound rules (StepOver R)
may_sound-over rules {R = R} needs a b g h us vs heads left right m = record {
  heads = heads;
  arguments = λ (i, q, p, at, also, clash).
      let (u, here, v) = values_at a.right us i q left at in
      let (w, there, x) = values_at b.left vs i p right also in
      clash_apart rules g h needs clash (subst₂ (Many (StepOver R)) (value_is v).1 (value_is x).1 (many_at i u w m here there));
}

-- the rules of a symbol apply to as many arguments as they need
instances_need : (S : Symbols) (rules : List RewriteRule) → AreWellMade S rules → NeedsArguments rules (Instance rules)
instances_need S rules made t u i =
    let h = instance_headed S rules made t u i in
    (h.symbol, h.here, rule_need rules made.even h.rule h.listed h.symbol h.left ∙ ap (λ n. Some n) (sym h.count))

-- `May` is sound for the steps on raw bodies, and so for the steps of the system

may_sound-raw : (S : Symbols) (rules : List RewriteRule) → AreWellMade S rules → MayIsSound rules (RawStep rules)
may_sound-raw S rules made = may_sound-over rules (instances_need S rules made)

pub may_sound-step : (S : Symbols) (rules : List RewriteRule) → AreWellMade S rules → MayIsSound rules (Step rules)
may_sound-step S rules made a b g h us vs heads left right m =
    may_sound-raw S rules made a b g h us vs heads left right (many-map (λ l k. steps_in-map (λ t u s. step_raw S made s)) m)
