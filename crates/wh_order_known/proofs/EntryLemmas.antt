-- Entries of the memo: what they say of goals.
use Rattle.std.proofs.Common.{◌≡◌, ℕ, ◌<◌, List, [], ◌∷◌, ◌++◌, length, get_or, All, Option, ap, ap₂, subst, sym, ◌∙◌}
use Rattle.std.proofs.lemmas.List.Elements.{All-get_or, All-push}
use Rattle.wh_terms.specs.Tree.{Tm}
use Rattle.wh_order_path.specs.Verdict as v
use Rattle.wh_order_path.specs.Verdict.{Task}
use Rattle.wh_order_node.specs.Filterings.{FilteringData}
use Rattle.wh_order_trees.specs.declared.tree.Tree.{Tree}
use Rattle.wh_order_trees.specs.Trees.{tree}
use Rattle.wh_order.specs.declared.goals.Goal.{Goal}
use Rattle.wh_order.specs.Precedences.{order_of}
use Rattle.wh_order.specs.Claims.{said, side_tree}
use Rattle.wh_order_known.specs.declared.entry.Entry.{Entry}
use Rattle.wh_order_known.specs.Least.{IsLeast, own, NotRefuted}
use Rattle.wh_order_known.specs.Ways.{IsShown}
use Rattle.wh_order_known.specs.Plain.{plain}
use Rattle.wh_order_known.specs.Counts.{IsLeastCount}
use Rattle.wh_order_known.specs.Entries.{IsExact, IsEntryFor}
use Rattle.wh_order_known.proofs.PlainLemmas.{alike_tree, alike_over}

abbrev task_with : v.Claim → ℕ → Tm → Tm → Task
task_with c next s t = record { claim = c; next = next; left = s; right = t }

same_task : (c d : v.Claim) (m n : ℕ) (s t p q : Tm) → c ≡ d → m ≡ n → s ≡ p → t ≡ q → task_with c m s t ≡ task_with d n p q
same_task c d m n s t p q e f g h = ap₂ (λ (x : v.Claim) (y : ℕ). task_with x y s t) e f ∙ ap₂ (λ (x y : Tm). task_with d n x y) g h

pub entry_says : (D : FilteringData) (e : Entry) (g : Goal) (room : ℕ) → IsExact D e → IsEntryFor e g room → IsLeastCount D room g e.count
entry_says D e g room exact fit w over =
    let k : Task = task_with (said e.claim) e.next (tree (length D.symbols) e.left) (tree (length D.symbols) e.right) in
    subst (λ (x : Task). IsLeast own (IsShown w.symbols (order_of D) w.metas room x) e.count)
    (same_task (said e.claim) (said g.claim) e.next g.next (tree (length D.symbols) e.left) (tree (length D.symbols) e.right) (tree (length D.symbols) (side_tree g.left)) (tree (length D.symbols) (side_tree g.right))
    (ap said fit.same_claim) fit.same_next (alike_tree (length D.symbols) e.left (side_tree g.left) fit.same_left) (alike_tree (length D.symbols) e.right (side_tree g.right) fit.same_right))
    (subst (λ (r : ℕ). IsLeast own (IsShown w.symbols (order_of D) w.metas r k) e.count) fit.same_room
    (exact w (alike_over (length D.symbols) w (side_tree g.left) e.left (sym fit.same_left) over.0) (alike_over (length D.symbols) w (side_tree g.right) e.right (sym fit.same_right) over.1)))

pub entry_of : (D : FilteringData) (g : Goal) (room : ℕ) (count : Option ℕ) (key before : ℕ) (l r : Tree) → IsLeastCount D room g count → plain l ≡ plain (side_tree g.left) → plain r ≡ plain (side_tree g.right)
    → IsExact D (record { claim = g.claim; next = g.next; left = l; right = r; room = room; count = count; key = key; before = before })
entry_of D g room count key before l r least e f w o p =
    subst (λ (x : Task). IsLeast own (IsShown w.symbols (order_of D) w.metas room x) count)
    (ap₂ (λ (x y : Tm). task_with (said g.claim) g.next x y) (sym (alike_tree (length D.symbols) l (side_tree g.left) e)) (sym (alike_tree (length D.symbols) r (side_tree g.right) f)))
    (least w (alike_over (length D.symbols) w l (side_tree g.left) e o, alike_over (length D.symbols) w r (side_tree g.right) f p))

-- an entry that is looked up
pub looked : (D : FilteringData) (es : List Entry) (g : Goal) (room i : ℕ) (e : Entry) → NotRefuted (All (IsExact D) es) → i < length es → e ≡ get_or es i e → IsEntryFor e g room
    → NotRefuted (IsLeastCount D room g e.count)
looked D es g room i e known within here fit =
    λ refuted. known (λ all. refuted (entry_says D e g room (subst (IsExact D) (sym here) (All-get_or (IsExact D) es i e within all)) fit))

-- one more entry
pub noted : (D : FilteringData) (g : Goal) (room : ℕ) (count : Option ℕ) (key before : ℕ) (l r : Tree) (old new : List Entry) → NotRefuted (All (IsExact D) old)
    → NotRefuted (IsLeastCount D room g count)
    → new ≡ old ++ record { claim = g.claim; next = g.next; left = l; right = r; room = room; count = count; key = key; before = before } ∷ []
    → plain l ≡ plain (side_tree g.left) → plain r ≡ plain (side_tree g.right) → NotRefuted (All (IsExact D) new)
noted D g room count key before l r old new known least is e f =
    let entry : Entry = record { claim = g.claim; next = g.next; left = l; right = r; room = room; count = count; key = key; before = before } in
    λ refuted. known (λ all. least (λ h. refuted
    (subst (All (IsExact D)) (sym is) (All-push (IsExact D) old entry all (entry_of D g room count key before l r h e f)))))
