use Rattle.std.proofs.Common.{rules}
use Rattle.element.proofs.Writes.{put_put, length_cells, padded_parts}
use Rattle.element.proofs.cells.resize.Goals as goal

pub returns : goal.returns
returns g c = search (rules, put_put, length_cells, padded_parts)
