use Rattle.std.proofs.Common.{ap, ◌∙◌, map, not as negation}
use Rattle.element.specs.Cells.{put}
use Rattle.element.proofs.Parts.{put_target, front_cells}
use Rattle.elementwise.proofs.prefix.not.Goals as goal

pub returns : goal.returns
returns c =
    let a = c.args in
    let T = a.table.now in
    let s = c.split_at_mut-source in
    put_target T s.result.0.now s.result.1.now a.to a.n s.ensures.front s.ensures.back c.requires.within c.map.new.target c.map.auto.target
    ∙ ap (put T a.to) (c.map.ensures ∙ ap (map negation) (front_cells T s.result.0.now a.to a.at a.n s.ensures.front c.requires.below))
