use Rattle.std.proofs.Common.{rules, sym, ap, ◌∙◌}
use Rattle.std.proofs.lemmas.List.Quantifiers.{position-Some}
use Rattle.wh_io.specs.Memory.{ShelfState, file_named}
use Rattle.wh_io.proofs.NamedFiles.{is_named, none_named, placed, others, appended, appended_others}
use Rattle.wh_io.proofs.memory_shelf.MemoryShelf.add_file.Goals as goal

pub returns-in-Some-clause-ok : goal.returns-in-Some-clause-ok
returns-in-Some-clause-ok c =
    let name = c.args.name.now in
    let bytes = c.args.bytes.now in
    let files = c.self.inside.files.items in
    let place = rw c.deref.ensures.value at c.place_of.ensures in
    let at = position-Some (is_named name) files c.in-Some.place (name, bytes) (sym place ∙ c.in-Some.is) in
    record {
      placed =
          rw (c.in_ok-from_str.ensures.ok, c.in_ok-from_slice.ensures.items) (placed files name bytes c.in-Some.place (name, bytes) at.0 at.2);
      others = λ other differs.
          rw (c.in_ok-from_str.ensures.ok, c.in_ok-from_slice.ensures.items) (others files name bytes other c.in-Some.place (name, bytes) differs at.1 ∙ ap (λ (shelf : ShelfState). file_named shelf.files other) c.self.view_is);
      rest = search rules;
    }

pub returns-in_ok-push-in-None-clause-ok : goal.returns-in_ok-push-in-None-clause-ok
returns-in_ok-push-in-None-clause-ok c =
    let name = c.args.name.now in
    let bytes = c.args.bytes.now in
    let files = c.self.inside.files.items in
    let place = rw c.deref.ensures.value at c.place_of.ensures in
    let none = none_named files name (sym place ∙ c.in-None.is) in
    record {
      placed =
          rw (c.in_ok-push-in-None.ensures.items, c.in_ok-from_str.ensures.ok, c.in_ok-from_slice.ensures.items) (appended files name bytes none);
      others = λ other differs.
          rw (c.in_ok-push-in-None.ensures.items, c.in_ok-from_str.ensures.ok, c.in_ok-from_slice.ensures.items) (appended_others files name bytes other differs ∙ ap (λ (shelf : ShelfState). file_named shelf.files other) c.self.view_is);
      rest = search rules;
    }
