use Rattle.std.proofs.lemmas.List.{get_or_default}
use Rattle.checker.specs.Blocks.{past_end}
use Rattle.rows.proofs.working.line_of.Goals as goal

pub returns : goal.returns
returns c = get_or_default c.args.lines.now c.args.row _ past_end c.requires
