use Rattle.std.proofs.Common.{length}
use Rattle.elementwise.proofs.Fitting.{reads_as}
use Rattle.elementwise.proofs.sure.write_values.Goals as goal

pub make-requires : goal.make-requires
make-requires g c = record { reads = reads_as (g.F.Sure.value c.args.op) c.args.source.now (length c.args.target.now) c.in-Run-Run.is-0 c.in-Run-Run.is-1 c.requires.reads }

pub make-requires-in-Run-Scalar : goal.make-requires-in-Run-Scalar
make-requires-in-Run-Scalar g c = record { reads = reads_as (g.F.Sure.value c.args.op) c.args.source.now (length c.args.target.now) c.in-Run-Scalar.is-0 c.in-Run-Scalar.is-1 c.requires.reads }
