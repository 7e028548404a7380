use Rattle.element.proofs.Writes.{put_one}
use Rattle.selections.proofs.equalities.write_truth.Goals as goal

pub returns : goal.returns
returns c = put_one c.args.booleans.now c.args.to c.args.truth c.requires
