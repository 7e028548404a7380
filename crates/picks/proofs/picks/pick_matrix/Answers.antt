use Rattle.std.proofs.Common.{◌≡◌, ℕ, ◌*◌, List, ℤ, refl, sym, ap, ◌∙◌, arith, rules}
use Rattle.std.proofs.lemmas.List.{length-take-le}
use Rattle.element.specs.Cells.{put, cells}
use Rattle.element.proofs.Parts.{put_target, front_cells}
use Rattle.picks.specs.Indices.{indices_of, first_outside2}
use Rattle.picks.specs.Picks.{told, crossed}
use Rattle.picks.proofs.Indexing.{all_inside, still_front, front_count, front_below}
use Rattle.picks.proofs.Picking.{told_none, told_rows, told_columns, guarded_ok, guarded_told}
use Rattle.picks.proofs.picks.pick_matrix.Goals as goal

area_as : {h w m n : ℕ} → h ≡ m → w ≡ n → h * w ≡ m * n
area_as {h} {w} {m} {n} e f = ap (λ (k : ℕ). k * w) e ∙ ap (λ (k : ℕ). m * k) f

pub new-rows-requires : goal.new-rows-requires
new-rows-requires g c =
    let a = c.args in
    let T = a.table.now in
    let i = g.I.Integers in
    let s = c.split_at_mut-below in
    front_below i.seen i.kept i.long a.integers.now i.part a.rows T s.result.0.now a.to s.ensures.front_len c.requires.rows_below c.requires.rows_seen

pub new-columns-requires : goal.new-columns-requires
new-columns-requires g c =
    let a = c.args in
    let T = a.table.now in
    let i = g.I.Integers in
    let s = c.split_at_mut-below in
    front_below i.seen i.kept i.long a.integers.now i.part a.columns T s.result.0.now a.to s.ensures.front_len c.requires.columns_below c.requires.columns_seen

pub check-requires : goal.check-requires
check-requires g c =
    let a = c.args in
    let T = a.table.now in
    let i = g.I.Integers in
    let s = c.split_at_mut-below in
    let r = front_count i.seen i.kept i.long a.integers.now a.rows T s.result.0.now a.to c.new-rows.result c.new-rows.ensures c.requires.rows_below s.ensures.front c.requires.rows_seen in
    let n = front_count i.seen i.kept i.long a.integers.now a.columns T s.result.0.now a.to c.new-columns.result c.new-columns.ensures c.requires.columns_below s.ensures.front c.requires.columns_seen in
    omega arith

pub check-requires-2 : goal.check-requires-2
check-requires-2 g c =
    let a = c.args in
    let T = a.table.now in
    let i = g.I.Integers in
    let s = c.split_at_mut-below in
    let r = front_count i.seen i.kept i.long a.integers.now a.rows T s.result.0.now a.to c.new-rows.result c.new-rows.ensures c.requires.rows_below s.ensures.front c.requires.rows_seen in
    let n = front_count i.seen i.kept i.long a.integers.now a.columns T s.result.0.now a.to c.new-columns.result c.new-columns.ensures c.requires.columns_below s.ensures.front c.requires.columns_seen in
    omega arith

pub returns-in_err-check : goal.returns-in_err-check
returns-in_err-check g c =
    let a = c.args in
    let T = a.table.now in
    let i = g.I.Integers in
    let s = c.split_at_mut-below in
    let rows = c.new-rows.ensures ∙ still_front i.seen i.kept i.long a.integers.now a.rows T s.result.0.now a.to c.requires.rows_below s.ensures.front in
    let columns = c.new-columns.ensures ∙ still_front i.seen i.kept i.long a.integers.now a.columns T s.result.0.now a.to c.requires.columns_below s.ensures.front in
    let is = indices_of a.rows (i.seen a.integers.now T) in
    let said = told_rows a.r a.s c.new-rows.result c.new-columns.result _ c.in_err-check.ensures ∙ ap (λ (xs : List ℤ). told (first_outside2 a.r a.s xs c.new-columns.result)) rows ∙ ap (λ (xs : List ℤ). told (first_outside2 a.r a.s is xs)) columns in
    let kept = sym s.ensures.value in
    search (rules, guarded_told)

pub returns-in_err-check-2 : goal.returns-in_err-check-2
returns-in_err-check-2 g c =
    let a = c.args in
    let T = a.table.now in
    let i = g.I.Integers in
    let s = c.split_at_mut-below in
    let rows = c.new-rows.ensures ∙ still_front i.seen i.kept i.long a.integers.now a.rows T s.result.0.now a.to c.requires.rows_below s.ensures.front in
    let columns = c.new-columns.ensures ∙ still_front i.seen i.kept i.long a.integers.now a.columns T s.result.0.now a.to c.requires.columns_below s.ensures.front in
    let is = indices_of a.rows (i.seen a.integers.now T) in
    let said = told_columns a.r a.s c.new-rows.result c.new-columns.result c.count-height.result _ c.in_ok-check.ensures c.count-height.ensures c.in_err-check-2.ensures ∙ ap (λ (xs : List ℤ). told (first_outside2 a.r a.s xs c.new-columns.result)) rows ∙ ap (λ (xs : List ℤ). told (first_outside2 a.r a.s is xs)) columns in
    let kept = sym s.ensures.value in
    search (rules, guarded_told)

pub overflow_mul-target : goal.overflow_mul-target
overflow_mul-target g c =
    let a = c.args in
    let T = a.table.now in
    let i = g.I.Integers in
    let s = c.split_at_mut-below in
    let r = front_count i.seen i.kept i.long a.integers.now a.rows T s.result.0.now a.to c.new-rows.result c.new-rows.ensures c.requires.rows_below s.ensures.front c.requires.rows_seen in
    let n = front_count i.seen i.kept i.long a.integers.now a.columns T s.result.0.now a.to c.new-columns.result c.new-columns.ensures c.requires.columns_below s.ensures.front c.requires.columns_seen in
    let e = area_as (c.count-height.ensures ∙ r) (c.count-width.ensures ∙ n) in
    search rules

pub slice_bounds-target-end : goal.slice_bounds-target-end
slice_bounds-target-end g c =
    let a = c.args in
    let T = a.table.now in
    let i = g.I.Integers in
    let s = c.split_at_mut-below in
    let r = front_count i.seen i.kept i.long a.integers.now a.rows T s.result.0.now a.to c.new-rows.result c.new-rows.ensures c.requires.rows_below s.ensures.front c.requires.rows_seen in
    let n = front_count i.seen i.kept i.long a.integers.now a.columns T s.result.0.now a.to c.new-columns.result c.new-columns.ensures c.requires.columns_below s.ensures.front c.requires.columns_seen in
    let e = area_as (c.count-height.ensures ∙ r) (c.count-width.ensures ∙ n) in
    omega (arith, e)

pub slice_bounds-target-end-2 : goal.slice_bounds-target-end-2
slice_bounds-target-end-2 g c =
    let a = c.args in
    let T = a.table.now in
    let i = g.I.Integers in
    let s = c.split_at_mut-below in
    let r = front_count i.seen i.kept i.long a.integers.now a.rows T s.result.0.now a.to c.new-rows.result c.new-rows.ensures c.requires.rows_below s.ensures.front c.requires.rows_seen in
    let n = front_count i.seen i.kept i.long a.integers.now a.columns T s.result.0.now a.to c.new-columns.result c.new-columns.ensures c.requires.columns_below s.ensures.front c.requires.columns_seen in
    let e = area_as (c.count-height.ensures ∙ r) (c.count-width.ensures ∙ n) in
    sym (length-take-le (c.count-height.result * c.count-width.result) s.result.1.now (omega (arith, e)))

pub cross_inside-requires-clause-rows_inside : goal.cross_inside-requires-clause-rows_inside
cross_inside-requires-clause-rows_inside g c = all_inside 1 c.args.r c.new-rows.result (told_none _ c.in_ok-check.ensures)

pub cross_inside-requires-clause-columns_inside : goal.cross_inside-requires-clause-columns_inside
cross_inside-requires-clause-columns_inside g c = all_inside _ c.args.s c.new-columns.result (told_none _ c.in_ok-check-2.ensures)

pub cross_inside-requires-clause-alike : goal.cross_inside-requires-clause-alike
cross_inside-requires-clause-alike g c =
    let a = c.args in
    let T = a.table.now in
    let i = g.I.Integers in
    let s = c.split_at_mut-below in
    let r = front_count i.seen i.kept i.long a.integers.now a.rows T s.result.0.now a.to c.new-rows.result c.new-rows.ensures c.requires.rows_below s.ensures.front c.requires.rows_seen in
    let n = front_count i.seen i.kept i.long a.integers.now a.columns T s.result.0.now a.to c.new-columns.result c.new-columns.ensures c.requires.columns_below s.ensures.front c.requires.columns_seen in
    let e = area_as (c.count-height.ensures ∙ r) (c.count-width.ensures ∙ n) in
    length-take-le (c.count-height.result * c.count-width.result) s.result.1.now (omega (arith, e)) ∙ area_as c.count-height.ensures c.count-width.ensures

pub returns : goal.returns
returns g c =
    let a = c.args in
    let T = a.table.now in
    let i = g.I.Integers in
    let s = c.split_at_mut-below in
    let rows = c.new-rows.ensures ∙ still_front i.seen i.kept i.long a.integers.now a.rows T s.result.0.now a.to c.requires.rows_below s.ensures.front in
    let columns = c.new-columns.ensures ∙ still_front i.seen i.kept i.long a.integers.now a.columns T s.result.0.now a.to c.requires.columns_below s.ensures.front in
    let is = indices_of a.rows (i.seen a.integers.now T) in
    let r = front_count i.seen i.kept i.long a.integers.now a.rows T s.result.0.now a.to c.new-rows.result c.new-rows.ensures c.requires.rows_below s.ensures.front c.requires.rows_seen in
    let n = front_count i.seen i.kept i.long a.integers.now a.columns T s.result.0.now a.to c.new-columns.result c.new-columns.ensures c.requires.columns_below s.ensures.front c.requires.columns_seen in
    let e = area_as (c.count-height.ensures ∙ r) (c.count-width.ensures ∙ n) in
    let null = g.E.Element.NULL in
    let said = told_columns a.r a.s c.new-rows.result c.new-columns.result c.count-height.result _ c.in_ok-check.ensures c.count-height.ensures c.in_ok-check-2.ensures ∙ ap (λ (xs : List ℤ). told (first_outside2 a.r a.s xs c.new-columns.result)) rows ∙ ap (λ (xs : List ℤ). told (first_outside2 a.r a.s is xs)) columns in
    guarded_ok _ _ _ _ _ (told_none _ said) refl
    (put_target T s.result.0.now s.result.1.now a.to (c.count-height.result * c.count-width.result) s.ensures.front s.ensures.back (omega (arith, e)) c.cross_inside.new.target c.cross_inside.auto.target
    ∙ ap (put T a.to)
    (c.cross_inside.ensures
    ∙ ap (λ xs. crossed null a.s xs c.new-rows.result c.new-columns.result) (front_cells T s.result.0.now a.to a.from (a.r * a.s) s.ensures.front c.requires.below)
    ∙ ap (λ (xs : List ℤ). crossed null a.s (cells T a.from (a.r * a.s)) xs c.new-columns.result) rows
    ∙ ap (crossed null a.s (cells T a.from (a.r * a.s)) is) columns))
