use Rattle.std.proofs.Common.{ℕ, ◌+◌, ◌*◌, ◌<◌, ◌≤◌, length, set, sym, ap, ◌∙◌, subst, mul-le-mul_right, arith}
use Rattle.types.specs.declared.kinds.Kind.{Kind}
use Rattle.types.specs.declared.kinds.Kind.TheVariants.{Boolean, Character, Integer}
use Rattle.meaning.specs.declared.layouts.Layout.{Layout}
use Rattle.meaning.specs.declared.places.Place.{Place}
use Rattle.meaning.specs.States.{Tables, table_of, slip_of}
use Rattle.meaning.specs.Works.{Ample}
use Rattle.meaning.proofs.Rows.{under_all}
use Rattle.statements.proofs.Ranging.{ranged_wide, element_below, each_stuck, each_disordered, each_over, each_takes}
use Rattle.tables.proofs.Reaching.{reach}
use Rattle.tables.specs.Lent.{held}
use Rattle.statements.proofs.each.advance.Goals as goal

-- row i is not behind the row at work
room_at : (W i row : ℕ) → i ≤ row → i * W ≤ row * W
room_at W i row h = mul-le-mul_right W h

long_enough : (p : Place) (a : ℕ) (t : Tables) → Ample p (length t.booleans) (length t.characters) (length t.integers) → a * p.width + p.width ≤ p.row * p.width → (k : Kind) → a * p.width + p.width ≤ length (table_of k t)
long_enough p a t h u Boolean = omega (arith, h.booleans)
long_enough p a t h u Character = omega (arith, h.characters)
long_enough p a t h u Integer = omega (arith, h.integers)

pub returns-then-not-is_ranged-clause-value : goal.returns-then-not-is_ranged-clause-value
returns-then-not-is_ranged-clause-value c s =
    let g = c.args in
    each_stuck g.frame.now.place s g.frame.now.slips.now (held g.frame.now.tables) g.i g.a g.end g.n c.in_ok-x.x c.in_ok-x.ensures.is c.fault.result c.fault.ensures c.if-not-is_ranged.ensures

pub list_in-list-requires : goal.list_in-list-requires
list_in-list-requires c =
    let W = c.args.frame.now.place.width in
    let wide = ranged_wide W c.in_ok-x.x c.in_ok-x.ensures.lawful (sym c.if-not-is_ranged.ensures) in
    let u = under_all W c.args.a c.args.frame.now.place.row (omega arith) in
    omega (arith, wide, u, c.requires.ample.integers)

pub returns-then-not-is_orderly-clause-value : goal.returns-then-not-is_orderly-clause-value
returns-then-not-is_orderly-clause-value c s =
    let g = c.args in
    each_disordered g.frame.now.place s g.frame.now.slips.now (held g.frame.now.tables) g.i g.a g.end g.n c.in_ok-x.x c.in_ok-x.ensures.is
    c.in_ok-x.ensures.lawful c.if-not-is_ranged.ensures c.list_in-list.result c.list_in-list.ensures c.fault-then-not-is_orderly.result c.fault-then-not-is_orderly.ensures c.if-not-is_orderly.ensures

pub returns-then-n-count-clause-value : goal.returns-then-n-count-clause-value
returns-then-n-count-clause-value c s =
    let g = c.args in
    each_over g.frame.now.place s g.frame.now.slips.now (held g.frame.now.tables) g.i g.a g.end g.n c.in_ok-x.x c.in_ok-x.ensures.is
    c.in_ok-x.ensures.lawful c.if-not-is_ranged.ensures c.list_in-list.result c.list_in-list.ensures c.if-not-is_orderly.ensures
    (subst (λ (m : ℕ). m ≤ g.n) c.count.ensures c.if-n-count.true) _ (ap (set g.frame.now.slips.now g.i) c.blank.ensures)

pub put_element-requires : goal.put_element-requires
put_element-requires c =
    let g = c.args in
    let W = g.frame.now.place.width in
    let wide = ranged_wide W c.in_ok-x.x c.in_ok-x.ensures.lawful (sym c.if-not-is_ranged.ensures) in
    let lt = subst (λ (m : ℕ). g.n < m) c.count.ensures c.if-n-count.false in
    let start = c.start_of-to.ensures in
    let u = under_all W g.a g.i c.requires.domain in
    let last = room_at W g.i g.frame.now.place.row c.requires.upto in
    record {
      below = element_below W g.frame.now.tables.integers.now g.a g.n c.in_ok-x.x c.in_ok-x.ensures.lawful c.list_in-list.result c.list_in-list.ensures c.start_of-to.result lt (omega (arith, u, start));
      within = reach c.args.frame.now.tables c.requires.ample (omega (arith, wide, last, start));
    }

pub returns-clause-value : goal.returns-clause-value
returns-clause-value c s =
    let g = c.args in
    let W = g.frame.now.place.width in
    let lt = subst (λ (m : ℕ). g.n < m) c.count.ensures c.if-n-count.false in
    let u = under_all W g.a g.frame.now.place.row (omega arith) in
    let t = held g.frame.now.tables in
    each_takes g.frame.now.place s g.frame.now.slips.now t g.i g.a g.end g.n c.in_ok-x.x c.in_ok-x.ensures.is
    c.in_ok-x.ensures.lawful c.if-not-is_ranged.ensures c.list_in-list.result c.list_in-list.ensures c.if-not-is_orderly.ensures
    lt (long_enough g.frame.now.place g.a t c.requires.ample u) c.start_of-to.result c.start_of-to.ensures _ (ap (set g.frame.now.slips.now g.i) (c.new.ensures ∙ ap (λ (f : Layout). slip_of f g.n) c.scalar.ensures)) _ c.put_element.ensures.value
