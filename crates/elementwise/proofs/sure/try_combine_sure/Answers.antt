use Rattle.std.proofs.Common.{length, refl}
use Rattle.elementwise.proofs.Along.{place_below}
use Rattle.elementwise.proofs.Fitting.{made_values}
use Rattle.elementwise.proofs.sure.try_combine_sure.Goals as goal

pub write_values-requires : goal.write_values-requires
write_values-requires g c =
    let a = c.args in
    record { reads = λ k h. (place_below a.a _ k _ h c.requires.left, place_below a.b _ k _ h c.requires.right, c.all_fit.ensures c.if-all_fit.true k h) }

pub returns-then-all_fit : goal.returns-then-all_fit
returns-then-all_fit g c =
    let a = c.args in
    made_values a.source.now c.write_values.new.target (length a.target.now) (g.F.Sure.value a.op) a.a a.b (g.F.Operator.gives a.op) _ c.requires.left c.requires.right c.requires.same (c.all_fit.ensures c.if-all_fit.true) refl c.write_values.ensures
