use Rattle.std.proofs.Common.{◌≡◌, ℕ, ◌+◌, ◌-◌, ◌<◌, length, take, drop, pos, ap, sym, ◌∙◌, arith, to_z-of_z, rules}
use Rattle.element.specs.Steps.{step_count, stepped}
use Rattle.element.proofs.Stepping.{step_within}
use Rattle.element.proofs.Writes.{write_first, written_whole, part_cells, length_cells, put_part}
use Rattle.picks.specs.Indices.{spanned, between}
use Rattle.picks.proofs.Indexing.{length_step_between, get_or_step_between}
use Rattle.picks.proofs.intervals.step_interval.Goals as goal

pub overflow_mul-k : goal.overflow_mul-k
overflow_mul-k c =
    let a = c.args in
    let low = c.ranges.low in
    let high = c.ranges.high in
    let size = simp to_z-of_z at c.span.ensures in
    let count = c.step_count.ensures ∙ ap (λ (m : ℕ). step_count m a.step) size in
    let long = ap length (part_cells a.table.now a.to c.step_count.result) ∙ length_cells a.table.now a.to c.step_count.result (omega (arith, count)) in
    let more : c.loop-k.k < step_count (spanned a.low a.high) a.step = omega (arith, count, long) in
    let within = step_within (spanned a.low a.high) a.step c.loop-k.k c.requires.some more in
    search rules

pub nth_between-requires : goal.nth_between-requires
nth_between-requires c =
    let a = c.args in
    let low = c.ranges.low in
    let high = c.ranges.high in
    let size = simp to_z-of_z at c.span.ensures in
    let count = c.step_count.ensures ∙ ap (λ (m : ℕ). step_count m a.step) size in
    let long = ap length (part_cells a.table.now a.to c.step_count.result) ∙ length_cells a.table.now a.to c.step_count.result (omega (arith, count)) in
    let more : c.loop-k.k < step_count (spanned a.low a.high) a.step = omega (arith, count, long) in
    simp to_z-of_z (step_within (spanned a.low a.high) a.step c.loop-k.k c.requires.some more)

pub loop-k-preserved : goal.loop-k-preserved
loop-k-preserved c =
    let a = c.args in
    let low = c.ranges.low in
    let high = c.ranges.high in
    let size = simp to_z-of_z at c.span.ensures in
    let count = c.step_count.ensures ∙ ap (λ (m : ℕ). step_count m a.step) size in
    let long = ap length (part_cells a.table.now a.to c.step_count.result) ∙ length_cells a.table.now a.to c.step_count.result (omega (arith, count)) in
    let more : c.loop-k.k < step_count (spanned a.low a.high) a.step = omega (arith, count, long) in
    let value = simp to_z-of_z at c.nth_between.ensures in
    search (rules, write_first, length_step_between, get_or_step_between)

pub returns : goal.returns
returns c =
    let a = c.args in
    let T = a.table.now in
    let low = c.ranges.low in
    let high = c.ranges.high in
    let size = simp to_z-of_z at c.span.ensures in
    let count = c.step_count.ensures ∙ ap (λ (m : ℕ). step_count m a.step) size in
    let n = c.step_count.result in
    let long = ap length (part_cells T a.to n) ∙ length_cells T a.to n (omega (arith, count)) in
    let new = stepped (pos 0) a.step (between a.low a.high) in
    let all : length new ≡ n = length_step_between a.low a.high a.step ∙ sym count in
    let done = simp to_z-of_z at c.loop-k.invariant in
    put_part T c.loop-k.target new a.to n (written_whole (take (a.to + n - a.to) (drop a.to T)) new c.loop-k.target c.loop-k.k done c.loop-k-test.false (all ∙ sym long)) all
