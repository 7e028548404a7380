use Rattle.std.proofs.Common.{length}
use Rattle.elementwise.proofs.Along.{each_one}
use Rattle.elementwise.proofs.Collects.{made_as}
use Rattle.elementwise.proofs.unary.try_map.Goals as goal

pub returns : goal.returns
returns g c =
    let a = c.args in
    made_as c.try_make.result c.try_make.new.target (each_one g.S.Element.NULL a.source.now (g.F.Function.gives a.of) (length a.target.now) c.requires.alike) c.try_make.ensures
