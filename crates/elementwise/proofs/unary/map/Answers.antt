use Rattle.std.proofs.Common.{length, ◌∙◌}
use Rattle.elementwise.proofs.Along.{each_one}
use Rattle.elementwise.proofs.unary.map.Goals as goal

pub returns : goal.returns
returns g c =
    let a = c.args in
    c.make.ensures ∙ each_one g.S.Element.NULL a.source.now (g.F.Function.gives a.of) (length a.target.now) c.requires.alike
