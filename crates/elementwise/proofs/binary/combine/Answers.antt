use Rattle.std.proofs.Common.{length, ◌∙◌}
use Rattle.elementwise.proofs.Along.{along_two}
use Rattle.elementwise.proofs.binary.combine.Goals as goal

pub returns : goal.returns
returns g c =
    let a = c.args in
    c.make.ensures ∙ along_two g.S.Element.NULL a.source.now (g.F.Operator.gives a.op) a.a a.b (length a.target.now) c.requires.left c.requires.right
