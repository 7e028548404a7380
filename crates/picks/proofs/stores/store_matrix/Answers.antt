use Rattle.std.proofs.Common.{refl, to_z-of_z, arith, rules}
use Rattle.picks.proofs.Indexing.{placed, inside_bound}
use Rattle.picks.proofs.Picking.{guarded_ok}
use Rattle.picks.proofs.Storing.{cell_placed, both_inside, store_cell}
use Rattle.picks.proofs.stores.store_matrix.Goals as goal

pub overflow_add-value : goal.overflow_add-value
overflow_add-value g c =
    let fits-i = c.ranges.i in
    let fits-j = c.ranges.j in
    let h = cell_placed c.args.r c.args.s c.in_ok-row.row c.in_ok-column.column c.args.i c.args.j _ _ _ _ (simp to_z-of_z at c.place_among.ensures) c.in_ok-row.ensures.value (simp to_z-of_z at c.place_among-2.ensures) c.in_ok-column.ensures.value in
    search rules

pub overflow_add-value-2 : goal.overflow_add-value-2
overflow_add-value-2 g c =
    let fits-i = c.ranges.i in
    let fits-j = c.ranges.j in
    let h = cell_placed c.args.r c.args.s c.in_ok-row.row c.in_ok-column.column c.args.i c.args.j _ _ _ _ (simp to_z-of_z at c.place_among.ensures) c.in_ok-row.ensures.value (simp to_z-of_z at c.place_among-2.ensures) c.in_ok-column.ensures.value in
    search rules

pub offset_bounds-table-to : goal.offset_bounds-table-to
offset_bounds-table-to g c =
    let fits-i = c.ranges.i in
    let fits-j = c.ranges.j in
    let h = cell_placed c.args.r c.args.s c.in_ok-row.row c.in_ok-column.column c.args.i c.args.j _ _ _ _ (simp to_z-of_z at c.place_among.ensures) c.in_ok-row.ensures.value (simp to_z-of_z at c.place_among-2.ensures) c.in_ok-column.ensures.value in
    search rules

pub bounds-table-to : goal.bounds-table-to
bounds-table-to g c =
    let fits-i = c.ranges.i in
    let fits-j = c.ranges.j in
    let h = cell_placed c.args.r c.args.s c.in_ok-row.row c.in_ok-column.column c.args.i c.args.j _ _ _ _ (simp to_z-of_z at c.place_among.ensures) c.in_ok-row.ensures.value (simp to_z-of_z at c.place_among-2.ensures) c.in_ok-column.ensures.value in
    search rules

pub returns : goal.returns
returns g c =
    let a = c.args in
    let fits-i = c.ranges.i in
    let fits-j = c.ranges.j in
    let row = placed a.r a.i _ c.in_ok-row.row _ (simp to_z-of_z at c.place_among.ensures) c.in_ok-row.ensures.value in
    let column = placed a.s a.j _ c.in_ok-column.column _ (simp to_z-of_z at c.place_among-2.ensures) c.in_ok-column.ensures.value in
    guarded_ok _ _ _ _ _ (both_inside a.r a.s a.i a.j row.0 column.0) refl
    (store_cell a.table.now a.to a.r a.s c.in_ok-row.row c.in_ok-column.column a.i a.j a.value (omega (arith, row.1, inside_bound a.r a.i row.0)) (omega (arith, column.1, inside_bound a.s a.j column.0)) c.requires.within row.1 column.1)
