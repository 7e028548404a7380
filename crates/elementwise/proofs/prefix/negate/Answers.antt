use Rattle.std.proofs.Common.{ap, map}
use Rattle.arithmetic.specs.Exact.{negated}
use Rattle.elementwise.proofs.Collects.{made_as}
use Rattle.element.proofs.Parts.{front_cells}
use Rattle.elementwise.proofs.Parts.{wrote_part}
use Rattle.elementwise.proofs.prefix.negate.Goals as goal

pub returns : goal.returns
returns c =
    let a = c.args in
    let T = a.table.now in
    let s = c.split_at_mut-source in
    wrote_part T s.result.0.now s.result.1.now a.to a.n s.ensures.front s.ensures.back c.requires.within c.try_map.new.target c.try_map.auto.target _ _
    (made_as _ _ (ap (map negated) (front_cells T s.result.0.now a.to a.at a.n s.ensures.front c.requires.below)) c.try_map.ensures)
