use Rattle.std.proofs.Common.{◌<◌, ◌^◌, List, ℤ, pos, length, get_or, refl, sym, ap, ◌∙◌, arith, rules}
use Rattle.std.proofs.lemmas.List.{length-take-le}
use Rattle.element.specs.Cells.{put, cells}
use Rattle.element.proofs.Writes.{length_cells}
use Rattle.element.proofs.Parts.{put_target, front_cells}
use Rattle.picks.specs.Indices.{inside, first_outside}
use Rattle.picks.specs.Picks.{told, picked}
use Rattle.picks.proofs.Indexing.{all_inside, still_front, front_count, front_below}
use Rattle.picks.proofs.Picking.{told_none, guarded_ok, guarded_told}
use Rattle.picks.proofs.picks.pick.Goals as goal

pub new-list-requires : goal.new-list-requires
new-list-requires g c =
    let a = c.args in
    let T = a.table.now in
    let i = g.I.Integers in
    let s = c.split_at_mut-below in
    front_below i.seen i.kept i.long a.integers.now i.part a.index T s.result.0.now a.to s.ensures.front_len c.requires.indices c.requires.seen

pub check-requires : goal.check-requires
check-requires g c =
    let a = c.args in
    let T = a.table.now in
    let i = g.I.Integers in
    let s = c.split_at_mut-below in
    let all : length T < 2 ^ 64 = search rules in
    let n = front_count i.seen i.kept i.long a.integers.now a.index T s.result.0.now a.to c.new-list.result c.new-list.ensures c.requires.indices s.ensures.front c.requires.seen in
    omega arith

pub returns-in_err-check : goal.returns-in_err-check
returns-in_err-check g c =
    let a = c.args in
    let T = a.table.now in
    let i = g.I.Integers in
    let s = c.split_at_mut-below in
    let same = c.new-list.ensures ∙ still_front i.seen i.kept i.long a.integers.now a.index T s.result.0.now a.to c.requires.indices s.ensures.front in
    let said = c.in_err-check.ensures ∙ ap (λ (js : List ℤ). told (first_outside 1 a.have js)) same in
    let kept = sym s.ensures.value in
    search (rules, guarded_told)

pub slice_bounds-pick_inside-end-2 : goal.slice_bounds-pick_inside-end-2
slice_bounds-pick_inside-end-2 g c =
    let a = c.args in
    let T = a.table.now in
    let i = g.I.Integers in
    let s = c.split_at_mut-below in
    let n = front_count i.seen i.kept i.long a.integers.now a.index T s.result.0.now a.to c.new-list.result c.new-list.ensures c.requires.indices s.ensures.front c.requires.seen in
    omega arith

pub slice_bounds-pick_inside-end-3 : goal.slice_bounds-pick_inside-end-3
slice_bounds-pick_inside-end-3 g c =
    let a = c.args in
    let T = a.table.now in
    let i = g.I.Integers in
    let s = c.split_at_mut-below in
    let n = front_count i.seen i.kept i.long a.integers.now a.index T s.result.0.now a.to c.new-list.result c.new-list.ensures c.requires.indices s.ensures.front c.requires.seen in
    sym (length-take-le c.count.result s.result.1.now (omega arith))

pub pick_inside-requires : goal.pick_inside-requires
pick_inside-requires g c =
    let a = c.args in
    let T = a.table.now in
    let i = g.I.Integers in
    let s = c.split_at_mut-below in
    let n = front_count i.seen i.kept i.long a.integers.now a.index T s.result.0.now a.to c.new-list.result c.new-list.ensures c.requires.indices s.ensures.front c.requires.seen in
    let m = ap length (front_cells T s.result.0.now a.to a.from a.have s.ensures.front c.requires.below) ∙ length_cells T a.from a.have (omega arith) in
    record {
      inside = λ k h. ap (λ n. inside n (get_or c.new-list.result k (pos 0))) m ∙ all_inside 1 a.have c.new-list.result (told_none _ c.in_ok-check.ensures) k h;
      alike = length-take-le c.count.result s.result.1.now (omega arith) ∙ c.count.ensures;
    }

pub returns : goal.returns
returns g c =
    let a = c.args in
    let T = a.table.now in
    let i = g.I.Integers in
    let s = c.split_at_mut-below in
    let same = c.new-list.ensures ∙ still_front i.seen i.kept i.long a.integers.now a.index T s.result.0.now a.to c.requires.indices s.ensures.front in
    let n = front_count i.seen i.kept i.long a.integers.now a.index T s.result.0.now a.to c.new-list.result c.new-list.ensures c.requires.indices s.ensures.front c.requires.seen in
    let null = g.E.Element.NULL in
    guarded_ok _ _ _ _ _ (told_none _ (c.in_ok-check.ensures ∙ ap (λ (js : List ℤ). told (first_outside 1 a.have js)) same)) refl
    (put_target T s.result.0.now s.result.1.now a.to c.count.result s.ensures.front s.ensures.back (omega arith) c.pick_inside.new.target c.pick_inside.auto.target
    ∙ ap (put T a.to) (c.pick_inside.ensures ∙ ap (λ xs. picked null xs c.new-list.result) (front_cells T s.result.0.now a.to a.from a.have s.ensures.front c.requires.below) ∙ ap (picked null (cells T a.from a.have)) same))
