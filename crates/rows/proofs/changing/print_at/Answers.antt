use Rattle.std.proofs.Common.{subst}
use Rattle.meaning.specs.States.{Tables}
use Rattle.statements.specs.Frames.{InOutput, outputting}
use Rattle.tables.proofs.Reaching.{shown}
use Rattle.rows.proofs.changing.print_at.Goals as goal

pub print_row-requires : goal.print_row-requires
print_row-requires c = record { before = c.requires.before; width = c.requires.width; ample = shown c.shared.result c.args.frame.now.tables c.shared.ensures c.requires.ample }

pub returns-clause-row : goal.returns-clause-row
returns-clause-row c =
    let a = c.args in
    subst (λ (t : Tables). InOutput (outputting a.frame.now.place a.a) a.frame.now.slips.now t a.output.now.bytes.now a.output.now.printed c.print_row.result c.print_row.new.output.bytes.now c.print_row.new.output.printed) c.shared.ensures c.print_row.ensures.row
