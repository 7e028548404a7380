use Rattle.std.proofs.Common.{min, arith}
use Rattle.source_trials.proofs.Repeating.{behind_repeated}
use Rattle.source_trials.proofs.repeated.RepeatedSource.take.Goals as goal

pub returns : goal.returns
returns c =
    let s = c.args.self.now in
    record { value = c.peek-next.ensures; after = behind_repeated _ (min s.left 16777216) s.byte (omega arith) }
