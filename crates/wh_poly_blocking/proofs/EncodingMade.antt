-- The tables of a task are right.
use Rattle.std.proofs.Common.{◌≡◌, ℕ, ◌+◌, ◌<◌, ◌≤◌, List, length, map, get_or, ap, subst, ◌∙◌, arith}
use Rattle.wh_pairs.specs.Marked.{AreMarked}
use Rattle.wh_poly_space.specs.Space.{space_of}
use Rattle.wh_poly_guesses.specs.Tasks.{IsTaskOf}
use Rattle.wh_poly_guesses.specs.Uses.{AreAllUses}
use Rattle.wh_poly_guesses.specs.declared.uses.Uses.{Uses}
use Rattle.wh_poly_blocking.specs.Encodings.{task_in, scopes_for, IsEncoding}
use Rattle.wh_poly_blocking.specs.Numbers.{AreNumbers}
use Rattle.wh_poly_blocking.specs.Sizes.{first_of}
use Rattle.wh_poly_blocking.specs.declared.encoding.Encoding.{Encoding}
use Rattle.wh_poly_blocking.proofs.EncodingLemmas.{first_same, first_total, numbers_long, numbers_used, sizes_long}

pub encoding_is : (e : Encoding) (uses : List Uses) (rules : ℕ) → IsTaskOf e.task → AreMarked (task_in e).pairs (task_in e).set e.marked.now
    → e.sizes.items ≡ map (λ Γ. length (space_of Γ)) (scopes_for e)
    → length e.first_bits.items ≡ length e.sizes.items + 1
    → ((n : ℕ) → n ≤ length e.sizes.items → get_or e.first_bits.items n 0 ≡ first_of e.sizes.items n)
    → first_of e.sizes.items (length e.sizes.items) < 4294967296
    → AreAllUses (task_in e) e.marked.now uses → AreNumbers rules uses e.numbers.items → rules ≡ length (task_in e).covered → IsEncoding e
encoding_is e uses rules task marked sizes count each few are tables rules_are =
    let scopes = scopes_for e in
    let long = sizes_long scopes e.sizes.items sizes in
    let tables' : AreNumbers (length (task_in e).covered) uses e.numbers.items = subst (λ n. AreNumbers n uses e.numbers.items) rules_are tables in
    record {
      task = task;
      marked = marked;
      sizes = sizes;
      few = omega (arith, few, first_total scopes e.sizes.items sizes);
      count = omega (arith, count, long);
      firsts = λ n within. each n (omega (arith, within, long)) ∙ ap (λ l. first_of l n) sizes ∙ first_same scopes n;
      conditions = numbers_long (task_in e) e.marked.now uses e.numbers.items task.typed are tables';
      numbers = numbers_used (task_in e) e.marked.now uses e.numbers.items task.typed are tables';
    }
