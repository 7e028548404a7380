use Rattle.std.proofs.Common.{ℕ, ◌+◌, List, length, get_or, take, drop, ℤ, pos, sym, ap, ◌∙◌, subst, arith}
use Rattle.element.specs.Cells.{cells}
use Rattle.element.specs.Operands.{along}
use Rattle.picks.specs.Indices.{indices_of, index_count, place_of, AllInside}
use Rattle.picks.specs.Stores.{stored}
use Rattle.picks.proofs.Indexing.{length_indices, still_above}
use Rattle.picks.proofs.Storing.{put_same, drop_above, length_stored, length_along, store_more, store_all}
use Rattle.element.proofs.Writes.{length_cells}
use Rattle.picks.proofs.stores.store_inside.Goals as goal

pub loop-k-init : goal.loop-k-init
loop-k-init g c = put_same c.args.table.now c.args.to c.args.have (omega arith)

-- the indices at this turn are those that were seen first
pub place-place-requires : goal.place-place-requires
place-place-requires g c =
    let a = c.args in
    let i = g.I.Integers in
    let T = a.table.now in
    let xs = cells T a.to a.have in
    let js = take c.loop-k.k (indices_of a.index (i.seen a.integers.now T)) in
    let vs = take c.loop-k.k (along g.E.Element.NULL T a.values (index_count a.index)) in
    let l = length_stored xs js vs ∙ length_cells T a.to a.have (omega arith) in
    let high = ap (drop (a.to + a.have)) c.loop-k.invariant ∙ drop_above T (stored xs js vs) a.to a.have l (omega arith) in
    let same = c.new.ensures ∙ still_above i.seen i.kept i.long a.integers.now a.index T c.loop-k.table (a.to + a.have) c.requires.indices high in
    let P : List ℤ → Type 0 = AllInside a.have in
    let n = ap length same ∙ length_indices a.index (i.seen a.integers.now T) c.requires.seen in
    record { inside = subst P (sym same) c.requires.inside; one = omega arith }

pub loop-k-preserved : goal.loop-k-preserved
loop-k-preserved g c =
    let a = c.args in
    let i = g.I.Integers in
    let T = a.table.now in
    let null = g.E.Element.NULL in
    let n = index_count a.index in
    let xs = cells T a.to a.have in
    let all = indices_of a.index (i.seen a.integers.now T) in
    let js = take c.loop-k.k all in
    let vs = take c.loop-k.k (along null T a.values n) in
    let l = length_stored xs js vs ∙ length_cells T a.to a.have (omega arith) in
    let high = ap (drop (a.to + a.have)) c.loop-k.invariant ∙ drop_above T (stored xs js vs) a.to a.have l (omega arith) in
    let same = c.new.ensures ∙ still_above i.seen i.kept i.long a.integers.now a.index T c.loop-k.table (a.to + a.have) c.requires.indices high in
    store_more null T c.loop-k.table a.to a.have n all a.values c.loop-k.k c.place-place.result c.index-table-place.result
    (length_indices a.index (i.seen a.integers.now T) c.requires.seen) (omega arith) c.requires.above c.requires.within
    (c.place-place.ensures.value ∙ ap (λ (zs : List ℤ). place_of (get_or zs c.loop-k.k (pos 0))) same) c.place-place.ensures.bound c.loop-k.invariant
    (c.index-table-place.is ∙ ap (λ (p : ℕ). get_or c.loop-k.table p c.index-table-place.result) c.place.ensures)

pub returns : goal.returns
returns g c =
    let a = c.args in
    let i = g.I.Integers in
    let T = a.table.now in
    let n = index_count a.index in
    store_all T c.loop-k.table a.to (cells T a.to a.have) (indices_of a.index (i.seen a.integers.now T)) (along g.E.Element.NULL T a.values n) n c.loop-k.k
    (length_indices a.index (i.seen a.integers.now T) c.requires.seen) (length_along g.E.Element.NULL T a.values n c.requires.within) (omega arith) c.loop-k.invariant
