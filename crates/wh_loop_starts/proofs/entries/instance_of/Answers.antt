-- What the walk finds is the instance, if there is one.
use Rattle.std.proofs.Common.{◌≡◌, None, sym, subst, rules}
use Rattle.std.proofs.Math.ListN.{replicate}
use Rattle.wh_terms.specs.Erase.{tm, symbols}
use Rattle.wh_terms.proofs.TypingLaws.{typed_term}
use Rattle.wh_no.specs.Entry.{entry_puts}
use Rattle.wh_loop_starts.specs.Meets.{HasUntyped, ArePutsOf, AreInstance, IsNoInstance}
use Rattle.wh_loop_starts.proofs.FillLemmas.{IsEmpty, empty_table, nothing_meets, untyped_meets, puts_meet}
use Rattle.wh_loop_starts.proofs.Outcomes.{answer_more}
use Rattle.wh_loop_starts.proofs.entries.instance_of.Goals as goal

pub meets-requires-clause-plain : goal.meets-requires-clause-plain
meets-requires-clause-plain c = typed_term (tm c.args.start.now) c.requires.typed.1

pub returns-then-meets : goal.returns-then-meets
returns-then-meets c =
    let S = symbols c.args.signature.now in
    let s = tm c.args.start.now in
    let w = tm c.args.part.now in
    let old = c.in_ok-table.table.items in
    let new = c.meets.new.table.items in
    let made : old ≡ replicate 32 None = c.in_ok-table.ensures.items_if_clones_equal (search rules) in
    let empty = subst IsEmpty (sym made) (empty_table 32) in
    let meeting = c.if-meets.ensures.told in
    let from = c.if-meets.ensures.from in
    let same = c.deref.ensures.value in
    answer_more c.typed_entries.result (HasUntyped S c.deref.result.now) (IsNoInstance S s w) (λ es. ArePutsOf S c.deref.result.now (entry_puts es.items)) (λ es. AreInstance S s w (entry_puts es.items)) c.typed_entries.ensures
    (λ ill. untyped_meets S s w old new c.requires empty meeting from (subst (HasUntyped S) same ill))
    (λ es are. puts_meet S s w old new (entry_puts es.items) c.requires empty meeting from (subst (λ l. ArePutsOf S l (entry_puts es.items)) same are))

pub returns : goal.returns
returns c =
    let old = c.in_ok-table.table.items in
    let made : old ≡ replicate 32 None = c.in_ok-table.ensures.items_if_clones_equal (search rules) in
    nothing_meets (symbols c.args.signature.now) (tm c.args.start.now) (tm c.args.part.now) old c.requires (subst IsEmpty (sym made) (empty_table 32)) c.if-meets.ensures.told
