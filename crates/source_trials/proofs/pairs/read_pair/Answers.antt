use Rattle.std.proofs.Common.{rules}
use Rattle.source.proofs.Chains.{took_more}
use Rattle.source_trials.proofs.pairs.read_pair.Goals as goal

pub returns : goal.returns
returns g c =
    let one = c.read-one.ensures in
    let two = c.read-two.ensures in
    record { one = one.told; two = search rules; took = took_more _ _ _ _ _ _ one.took two.took }
