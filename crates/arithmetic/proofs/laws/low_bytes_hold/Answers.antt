use Rattle.arithmetic.proofs.LowBytes.{low_bytes}
use Rattle.arithmetic.proofs.laws.low_bytes_hold.Goals as goal

pub returns : goal.returns
returns c = low_bytes
