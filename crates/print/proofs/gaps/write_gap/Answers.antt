use Rattle.std.proofs.Common.{rules}
use Rattle.element.proofs.Writes.{put_one}
use Rattle.print.proofs.Spaces.{gap_later}
use Rattle.print.proofs.gaps.write_gap.Goals as goal

pub returns-clause-written : goal.returns-clause-written
returns-clause-written c = search (rules, put_one, gap_later)
