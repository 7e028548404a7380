use Rattle.std.proofs.Common.{rules}
use Rattle.changes.proofs.Padding.{padded_written}
use Rattle.changes.proofs.moves.unfold_padded.Goals as goal

pub returns : goal.returns
returns c = search (rules, padded_written)
