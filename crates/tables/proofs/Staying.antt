-- What a row that leaves the slips as they were shows of them.
use Rattle.std.proofs.Common.{◌≡◌}
use Rattle.tables.specs.declared.frames.Frame.{Frame}
use Rattle.tables.specs.Frames.{Stays}

pub same_slips : (f g : Frame) → Stays f g → g.slips.now ≡ f.slips.now
same_slips f g h = λ i. (h.slips i).now
