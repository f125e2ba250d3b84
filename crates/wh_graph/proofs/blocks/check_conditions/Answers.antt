use Rattle.std.proofs.Common.{ℕ, Option, length, inl, inr, subst, arith}
use Rattle.std.proofs.lemmas.Bool.{cases_lt}
use Rattle.wh_graph.specs.Blocks.{AreFew, IsMisplaced}
use Rattle.wh_graph.specs.Least.{LeastOf}
use Rattle.wh_graph.proofs.TimesLemmas.{partition_from}
use Rattle.wh_graph.proofs.blocks.check_conditions.Goals as goal

pub returns-in-Some : goal.returns-in-Some
returns-in-Some c =
    let least = subst (λ (o : Option ℕ). LeastOf (IsMisplaced c.args.set.now c.args.blocks.now) o) c.in-Some.is c.first_misplaced.ensures in
    (λ few. cc (c.are_few.ensures.1 few, c.if-are_few.false), least.0, λ n less wrong. let le = least.1 n wrong in omega arith)

pub first_back_edge-requires-clause-partition : goal.first_back_edge-requires-clause-partition
first_back_edge-requires-clause-partition c =
    partition_from c.args.set.now c.args.blocks.now (subst (λ (o : Option ℕ). LeastOf (IsMisplaced c.args.set.now c.args.blocks.now) o) c.in_default.is c.first_misplaced.ensures)

pub returns-in-None : goal.returns-in-None
returns-in-None c =
    let right : (n : ℕ) → IsMisplaced c.args.set.now c.args.blocks.now n → ⊥ = subst (λ (o : Option ℕ). LeastOf (IsMisplaced c.args.set.now c.args.blocks.now) o) c.in_default.is c.first_misplaced.ensures in
    let enough : AreFew c.args.blocks.now → ⊥ = λ few. cc (c.are_few.ensures.1 few, c.if-are_few.false) in
    record {
      enough = elim (cases_lt (length c.args.blocks.now) 2) [ inl few ↦ absurd (enough (inl few)) | inr many ↦ many ];
      filled = λ empty. enough (inr empty);
      partition = partition_from c.args.set.now c.args.blocks.now right;
      ordered = λ i j a b less here there edge. c.in-None.ensures a b (i, j, less, here, there, edge);
    }
