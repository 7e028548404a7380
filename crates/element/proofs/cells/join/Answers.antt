use Rattle.std.proofs.Common.{rules}
use Rattle.element.proofs.Writes.{put_put, cells_below, length_cells}
use Rattle.element.proofs.cells.join.Goals as goal

pub returns : goal.returns
returns g c = search (rules, put_put, cells_below, length_cells)
