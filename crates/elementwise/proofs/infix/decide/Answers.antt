use Rattle.std.proofs.Common.{ap, ◌∙◌, false}
use Rattle.arithmetic.specs.Truths.{decided}
use Rattle.element.specs.Cells.{put}
use Rattle.element.proofs.Parts.{put_target}
use Rattle.elementwise.proofs.Parts.{pairs_part}
use Rattle.elementwise.proofs.infix.decide.Goals as goal

pub returns : goal.returns
returns c =
    let a = c.args in
    let T = a.table.now in
    let s = c.split_at_mut-source in
    put_target T s.result.0.now s.result.1.now a.to a.n s.ensures.front s.ensures.back c.requires.within c.combine.new.target c.combine.auto.target
    ∙ ap (put T a.to) (c.combine.ensures ∙ pairs_part T s.result.0.now s.result.1.now a.to a.n s.ensures.front s.ensures.back c.requires.within false (decided a.op) a.a a.b c.requires.left c.requires.right)
