use Rattle.std.proofs.Common.{◌≡◌, ◌<◌, ◌≤◌, ◌^◌, ℕ, ◌+◌, ◌*◌, ◌∙◌, List, length, get_or, refl, arith}
use Rattle.wh_poly_blocking.specs.Sizes.{first_of}
use Rattle.wh_find_flat.proofs.BitsLemmas.{absent_at, absent_past, room_at, there, written_at}
use Rattle.wh_find_flat.proofs.bits.Bits.of_coefficient.Goals as goal
use Rattle.wh_find_flat.proofs.bits.Bits.of_coefficient.Goals.{else-number-len-via-then-number-len+else-place-index, else-number-len-via-else-number-len}

-- two bits more fit
fits : (sizes firsts : List ℕ) (n j size first : ℕ) → n < length sizes → length firsts ≡ length sizes + 1 → size ≡ get_or sizes n size → j < size
    → first ≡ get_or firsts n first → ((m : ℕ) → m ≤ length sizes → get_or firsts m 0 ≡ first_of sizes m)
    → (size ≡ get_or sizes n 0) × (first ≡ first_of sizes n)
fits sizes firsts n j size first h l s w f each =
    (s ∙ there sizes n size 0 h, f ∙ there firsts n first 0 (omega (arith, h, l)) ∙ each n (omega (arith, h)))

abbrev parts : goal.After-row_known-then-place-index-1 → Type 0
parts c = (c.index.result.now ≡ get_or c.args.self.now.sizes.items c.args.number 0) × (c.index-then-place-index.result.now ≡ first_of c.args.self.now.sizes.items c.args.number)

told : (c : goal.After-row_known-then-place-index-1) → parts c
told c =
    let l : length c.args.self.now.firsts.items ≡ length c.args.self.now.sizes.items + 1 = c.args.self.now.count in
    let h : c.args.number < length c.args.self.now.sizes.items = omega (arith, c.if-number-len.true, c.len.ensures) in
    fits c.args.self.now.sizes.items c.args.self.now.firsts.items c.args.number c.args.place c.index.result.now c.index-then-place-index.result.now
    h l c.index.ensures c.if-place-index.true c.index-then-place-index.ensures c.args.self.now.each

room : (c : goal.After-row_known-then-place-index-1) → c.index-then-place-index.result.now + 2 * c.args.place + 1 < 2 ^ 32
room c =
    let h : c.args.number < length c.args.self.now.sizes.items = omega (arith, c.if-number-len.true, c.len.ensures) in
    room_at c.args.self.now.sizes.items c.args.number c.args.place c.index.result.now c.index-then-place-index.result.now h (told c).0 c.if-place-index.true (told c).1 c.args.self.now.few

pub overflow_cast-result : goal.overflow_cast-result
overflow_cast-result c = omega (arith, room c)

pub overflow_mul-result : goal.overflow_mul-result
overflow_mul-result c = omega (arith, room c)

pub overflow_add-result : goal.overflow_add-result
overflow_add-result c = omega (arith, room c)

pub returns-then-place-index : goal.returns-then-place-index
returns-then-place-index c =
    let h : c.args.number < length c.args.self.now.sizes.items = omega (arith, c.if-number-len.true, c.len.ensures) in
    written_at c.args.self.now.sizes.items c.args.number c.args.place c.index.result.now c.index-then-place-index.result.now
    (c.index-then-place-index.result.now + 2 * c.args.place) h (told c).0 c.if-place-index.true (told c).1 refl

pub returns-else-number-len : goal.returns-else-number-len
returns-else-number-len c =
    elim c.else-number-len.branch [
      | else-number-len-via-then-number-len+else-place-index w ↦
          let h : c.args.number < length c.args.self.now.sizes.items = omega (arith, w.if-number-len.true, c.len.ensures) in
          absent_at c.args.self.now.sizes.items c.args.number c.args.place w.index.result.now h
          (w.index.ensures ∙ there c.args.self.now.sizes.items c.args.number w.index.result.now 0 h) w.if-place-index.false
      | else-number-len-via-else-number-len w ↦
          absent_past c.args.self.now.sizes.items c.args.number c.args.place (omega (arith, w.if-number-len.false, c.len.ensures))
    ]
