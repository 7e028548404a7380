use Rattle.std.proofs.Common.{◌≡◌, ◌+◌, ◌-◌, ap, ◌∙◌, map, length, take, drop, arith}
use Rattle.std.proofs.lemmas.List.{length-map}
use Rattle.std.proofs.lemmas.Slice.{put_mid-paste}
use Rattle.element.specs.Cells.{cells}
use Rattle.element.proofs.Writes.{length_cells}
use Rattle.elementwise.proofs.casts.cast.Goals as goal

pub returns : goal.returns
returns g c =
    let a = c.args in
    let S = a.source.now in
    let e : a.at + a.n - a.at ≡ a.n = omega arith in
    let new = map g.S.CastTo.casts (cells S a.at a.n) in
    let long : length new ≡ a.n = length-map (cells S a.at a.n) g.S.CastTo.casts ∙ length_cells S a.at a.n c.requires.below in
    put_mid-paste a.to (a.to + a.n - a.to) a.table.now c.map.new.target new (length new) (c.map.ensures ∙ ap (λ k. map g.S.CastTo.casts (take k (drop a.at S))) e) (omega arith) (omega arith)
