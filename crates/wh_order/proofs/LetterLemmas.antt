-- The goals of the code stand for what letters ask for.
use Rattle.std.proofs.Common.{◌≡◌, ℕ, List, [], ◌∷◌, true, Option, Some, None, refl, ap, subst, sym}
use Rattle.std.specs.Global.{Vec}
use Rattle.wh_terms.specs.Tree.{Tm, bound, free, fun, meta, lam, app, tms_of, head}
use Rattle.wh_order_inference.specs.Inferences.{Letter}
use Rattle.wh_order_path.specs.Heads.{list_of}
use Rattle.wh_order_path.specs.Verdict.{Task, is_other_head, symbol_tasks}
use Rattle.wh_order_trees.specs.declared.tree.Tree.{Tree}
use Rattle.wh_order_trees.specs.Trees.{tree}
use Rattle.wh_order_trees.specs.TreeParts.{World, Over}
use Rattle.wh_order.specs.declared.goals.Goal.{Goal}
use Rattle.wh_order.specs.Claims.{HoldsGoals, MayStandFor, AreSymbolGoals}

-- what stands for the tasks, where these are told in another way
pub may : (n : ℕ) (w : World) (r : Option (Vec Goal)) (o p : Option (List Task)) → o ≡ p → MayStandFor n w r p → MayStandFor n w r o
may n w r o p e h = subst (MayStandFor n w r) (sym e) h

-- nothing is asked for
pub asks_nothing : (n : ℕ) (prec : ℕ → ℕ) (f from next : ℕ) (s t : Tree) (l : Letter) (place : ℕ)
    → ((w : World) → Over n w s → Over n w t → symbol_tasks w.symbols prec w.metas f from next (tree n s) (tree n t) l place (head (tree n t)) ≡ None)
    → AreSymbolGoals n prec f from next s t l place None
asks_nothing n prec f from next s t l place none w o u = may n w None _ None (none w o u) refl

-- the tasks are asked for
pub asks : (n : ℕ) (prec : ℕ → ℕ) (f from next : ℕ) (s t : Tree) (l : Letter) (place : ℕ) (r : Option (Vec Goal)) (ks : World → List Task)
    → ((w : World) → Over n w s → Over n w t → symbol_tasks w.symbols prec w.metas f from next (tree n s) (tree n t) l place (head (tree n t)) ≡ Some (ks w))
    → ((w : World) → Over n w s → Over n w t → HoldsGoals n w r (ks w)) → AreSymbolGoals n prec f from next s t l place r
asks n prec f from next s t l place r ks is holds w o u = may n w r _ (Some (ks w)) (is w o u) (holds w o u)

-- a tree that is no symbol and no application may stand at a head
pub other_head : (h : Tm) → ((f : ℕ) → h ≡ fun f → ⊥) → ((u v : Tm) → h ≡ app u v → ⊥) → is_other_head h ≡ true
other_head (bound i) no_fun no_app = refl
other_head (free x a) no_fun no_app = refl
other_head (fun f) no_fun no_app = absurd (no_fun f refl)
other_head (meta z ts) no_fun no_app = refl
other_head (lam a t) no_fun no_app = refl
other_head (app u v) no_fun no_app = absurd (no_app u v refl)

pub items_back : (ts : List Tm) → list_of (tms_of ts) ≡ ts
items_back [] = refl
items_back (t ∷ ts) = ap (λ (us : List Tm). t ∷ us) (items_back ts)
