-- The tables of the bits and of what is used.
use Rattle.std.proofs.Common.{◌≡◌, ℕ, zero, suc, ◌+◌, ◌-◌, ◌/◌, ◌<◌, ◌≤◌, inl, inr, if◌then◌else◌, List, ◌++◌, length, map, get_or, refl, ap, ap₂, sym, subst, ◌∙◌, arith}
use Rattle.std.specs.Global.{Vec}
use Rattle.std.proofs.lemmas.Bool.{cases_eq, ne_eqb}
use Rattle.std.proofs.lemmas.List.{length-map}
use Rattle.wh_types.specs.Ty.{Ty, arguments}
use Rattle.wh_types.specs.Erase.{ty, tys}
use Rattle.wh_types.specs.declared.simple_type.SimpleType.{SimpleType}
use Rattle.wh_system.specs.WellMade.{IsWellMadeSystem}
use Rattle.wh_pairs.specs.Marked.{AreMarked}
use Rattle.wh_pairs.proofs.ListLemmas.{map-map}
use Rattle.wh_reduction_pairs.specs.TaskData.{TaskData}
use Rattle.wh_polycheck.specs.Marks.{marked_types}
use Rattle.wh_poly_guesses.specs.Coefficients.{scopes_of}
use Rattle.wh_poly_guesses.specs.Tasks.{IsTaskOf}
use Rattle.wh_poly_guesses.specs.Uses.{AreAllUses}
use Rattle.wh_poly_guesses.specs.declared.uses.Uses.{Uses}
use Rattle.wh_poly_blocking.specs.Numbers.{AreNumbers}
use Rattle.wh_poly_blocking.proofs.EncodingLemmas.{numbers_long, numbers_used}
use Rattle.wh_order_space.specs.Space.{symbol_count}
use Rattle.wh_order_space.specs.Bits.{binary_length, first_bit}
use Rattle.wh_find_order.specs.Encodings.{system_in, task_in, scopes_for, bits_for, IsEncoding}
use Rattle.wh_order_space.specs.Spotted.{types_in}
use Rattle.wh_find_order.specs.declared.encoding.Encoding.{Encoding}
use Rattle.wh_find_order.proofs.SpaceLemmas.{count_is}

-- how many bits a number has, whatever it is known to be at most

length_none : (most : ℕ) → binary_length most 0 ≡ 0
length_none zero = refl
length_none (suc most) = refl

length_more : (most n : ℕ) → 0 < n → n ≤ suc most → binary_length (suc most) n ≡ suc (binary_length most (n / 2))
length_more most n some small = ap (λ b. if b then 0 else suc (binary_length most (n / 2))) (ne_eqb n 0 (λ none. omega (arith, none, some)))

length_enough : (most other n : ℕ) → n ≤ most → n ≤ other → binary_length most n ≡ binary_length other n
length_enough zero other n small also =
    let none : n ≡ 0 = omega (arith, small) in
    ap (binary_length 0) none ∙ sym (length_none other) ∙ ap (binary_length other) (sym none)
length_enough (suc most) zero n small also =
    let none : n ≡ 0 = omega (arith, also) in
    ap (binary_length (suc most)) none ∙ ap (binary_length 0) (sym none)
length_enough (suc most) (suc other) n small also = elim (cases_eq n 0) [
  | inl none ↦ ap (binary_length (suc most)) none ∙ ap (binary_length (suc other)) (sym none)
  | inr some ↦
      let less : n / 2 ≤ most = omega (arith, small, some) in
      let fewer : n / 2 ≤ other = omega (arith, also, some) in
      length_more most n (omega (arith, some)) small ∙ ap suc (length_enough most other (n / 2) less fewer)
      ∙ sym (length_more other n (omega (arith, some)) also)
]

-- half of what is left has one bit less
pub length_next : (all left : ℕ) → 0 < left → left ≤ all → binary_length all left ≡ suc (binary_length all (left / 2))
length_next zero left some small = absurd (omega (arith, some, small))
length_next (suc all) left some small =
    let less : left / 2 ≤ all = omega (arith, small, some) in
    length_more all left some small ∙ ap suc (length_enough all (suc all) (left / 2) less (omega (arith, less)))

pub length_end : (all left : ℕ) → left ≡ 0 → binary_length all left ≡ 0
length_end all left none = ap (binary_length all) none ∙ length_none all

-- the types of the arguments of all symbols, and then of the marked ones
pub scopes_are : (T : TaskData) (marked : List ℕ) (kinds : List SimpleType) (a b : List (List Ty)) → tys kinds ≡ T.symbols.funs
    → a ≡ map (λ kind. arguments (ty kind)) kinds → b ≡ a ++ map (marked_types T.symbols T.rules) marked → b ≡ scopes_of T marked
scopes_are T marked kinds a b funs first second =
    second ∙ ap (λ l. l ++ map (marked_types T.symbols T.rules) marked)
    (first ∙ sym (map-map arguments ty kinds) ∙ ap (map arguments) funs)

-- the tables of an encoding are right
pub encoding_is : (e : Encoding) (uses : List Uses) (rules : ℕ) → IsTaskOf e.task → IsWellMadeSystem (system_in e)
    → AreMarked (task_in e).pairs (task_in e).set e.marked.now → types_in e.scopes.items ≡ scopes_for e
    → e.precedence_bits ≡ binary_length (length e.scopes.items) (length e.scopes.items - 1) → e.precedence_bits < 32
    → length e.first_bits.items ≡ length e.scopes.items + 1
    → ((n : ℕ) → n ≤ length e.scopes.items → get_or e.first_bits.items n 0 ≡ first_bit e.precedence_bits (types_in e.scopes.items) n)
    → first_bit e.precedence_bits (types_in e.scopes.items) (length e.scopes.items) < 4294967296
    → AreAllUses (task_in e) e.marked.now uses → AreNumbers rules uses e.numbers.items → rules ≡ length (task_in e).covered → IsEncoding e
encoding_is e uses rules task made marked scopes precedence short count each few are tables rules_are =
    let long : length e.scopes.items ≡ length (scopes_for e) = sym (length-map e.scopes.items (λ (l : Vec SimpleType). tys l.items)) ∙ ap length scopes in
    let all : length e.scopes.items ≡ symbol_count (task_in e) e.marked.now = long ∙ count_is (task_in e) e.marked.now in
    let precedence' : e.precedence_bits ≡ bits_for e = precedence ∙ ap (λ n. binary_length n (n - 1)) all in
    let firsts : (n : ℕ) → first_bit e.precedence_bits (types_in e.scopes.items) n ≡ first_bit (bits_for e) (scopes_for e) n =
    λ n. ap₂ (λ b l. first_bit b l n) precedence' scopes in
    let tables' : AreNumbers (length (task_in e).covered) uses e.numbers.items = subst (λ n. AreNumbers n uses e.numbers.items) rules_are tables in
    record {
      task = task;
      made = made;
      marked = marked;
      scopes = scopes;
      precedence = precedence';
      short = subst (λ b. b < 32) precedence' short;
      few = let same = firsts (length e.scopes.items) in let last = ap (first_bit (bits_for e) (scopes_for e)) long in omega (arith, few, same, last);
      count = omega (arith, count, long);
      firsts = λ n within. each n (omega (arith, within, long)) ∙ firsts n;
      conditions = numbers_long (task_in e) e.marked.now uses e.numbers.items task.typed are tables';
      numbers = numbers_used (task_in e) e.marked.now uses e.numbers.items task.typed are tables';
    }
