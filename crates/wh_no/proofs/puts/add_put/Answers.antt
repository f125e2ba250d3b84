-- A line is right where it says a typed put and its number is above that of the line before.
use Rattle.std.proofs.Common.{◌≡◌, ◌+◌, ◌↔◌, ℕ, Bool, true, false, IsTrue, List, [], ◌∷◌, take, ap, sym, ◌∙◌, subst, arith, ⊎_elim}
use Rattle.std.proofs.lemmas.Bool.{cases_lt}
use Rattle.std.proofs.lemmas.List.{map-append}
use Rattle.std.proofs.lemmas.Option.{slice_get_within}
use Rattle.wh_terms.specs.declared.subst.SubstEntry.{SubstEntry}
use Rattle.wh_cert.specs.Said.{said_put}
use Rattle.wh_system.specs.SystemView.{system_data}
use Rattle.wh_no.specs.Entry.{entry_put, entry_puts, SaysTyped}
use Rattle.wh_no.specs.Faults.{AreRight, IsRightLine}
use Rattle.wh_no.proofs.PutLemmas.{right_next, right_line, bad_number, bad_meaning}
use Rattle.wh_no.proofs.SearchLemmas.{IsAboveLastEntry, above_puts, above_entries}
use Rattle.wh_no.proofs.puts.add_put.Goals as goal

-- what the test of the last number says, of the entries

refused : (answer : Bool) (es ds : List SubstEntry) (n : ℕ) → ds ≡ es → answer ≡ false → IsTrue answer ↔ IsAboveLastEntry ds n → IsAboveLastEntry es n → ⊥
refused answer es ds n same off h above = let so = h.1 (subst (λ l. IsAboveLastEntry l n) (sym same) above) in absurd (cc)

passed : (answer : Bool) (es ds : List SubstEntry) (n : ℕ) → ds ≡ es → answer ≡ true → IsTrue answer ↔ IsAboveLastEntry ds n → IsAboveLastEntry es n
passed answer es ds n same on h = subst (λ l. IsAboveLastEntry l n) same (h.0 on)

pub returns-then-not-is_above : goal.returns-then-not-is_above
returns-then-not-is_above c = λ lines here right.
    let d = system_data c.args.system.now in
    let put = c.args.put.now in
    let es = c.args.entries.now.items in
    let low = refused c.is_above.result es c.deref.result.now put.number c.deref.ensures.value c.if-not-is_above.true c.is_above.ensures in
    record {
      within = slice_get_within lines c.args.index (said_put put) here;
      before = right.each;
      bad = bad_number d lines c.args.index (said_put put) (entry_puts es) here right.stand.says (λ above. low (above_entries es put.number above));
    }

pub returns-in-None : goal.returns-in-None
returns-in-None c = λ lines here right.
    let d = system_data c.args.system.now in
    let put = c.args.put.now in
    let none = subst (SaysTyped d (said_put put)) c.in-None.is c.in_ok-entry.ensures in
    record {
      within = slice_get_within lines c.args.index (said_put put) here;
      before = right.each;
      bad = bad_meaning d lines c.args.index (said_put put) here none;
    }

pub returns : goal.returns
returns c = λ lines here right.
    let d = system_data c.args.system.now in
    let put = c.args.put.now in
    let es = c.args.entries.now.items in
    let e = c.in-Some.entry in
    let i = c.args.index in
    let said = subst (SaysTyped d (said_put put)) c.in-Some.is c.in_ok-entry.ensures in
    let above = above_puts es put.number (passed c.is_above.result es c.deref.result.now put.number c.deref.ensures.value c.if-not-is_above.false c.is_above.ensures) in
    let longer = ap entry_puts c.in_ok-push-in-Some.ensures.items ∙ map-append entry_put es (e ∷ []) in
    let next = right_next d lines i (said_put put) (entry_puts es) (entry_put e) here right.stand said.0 said.1 above in
    let this = right_line d lines i (said_put put) (entry_puts es) (entry_put e) here right.stand.says said.0 said.1 above in
    record {
      stand = subst (AreRight d (take (i + 1) lines)) (sym longer) next;
      each = λ j within.
          ⊎_elim (right.each j) (λ last. let same : i ≡ j = omega arith in subst (IsRightLine d lines) same this) (cases_lt j i);
    }
