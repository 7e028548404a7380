-- An end and a continue read the row that they go back to.
use Rattle.meaning.specs.States.{holding}
use Rattle.meaning.specs.Acts.{step}
use Rattle.statements.proofs.Turning.{reopens, domain_read, turns_back}
use Rattle.tables.specs.Lent.{held}
use Rattle.statements.proofs.control.control_row.Goals as goal

pub reopen-requires : goal.reopen-requires
reopen-requires c =
    let g = c.args in
    record {
      earlier = (reopens g.lines.now g.target g.control c.in-Continue.is g.frame.now.place.row c.requires.ready).earlier;
      domain = domain_read g.lines.now g.target g.control c.in-Continue.is g.frame.now.place.row _ c.requires.ready;
      slip = c.requires.slip;
      ample = c.requires.ample;
    }

pub returns-in-Continue-clause-value : goal.returns-in-Continue-clause-value
returns-in-Continue-clause-value c s =
    let g = c.args in
    turns_back g.lines.now g.target g.control c.in-Continue.is g.frame.now.place (holding s g.frame.now.slips.now (held g.frame.now.tables))
    (step c.reopen.result (holding s c.reopen.new.frame.slips.now (held c.reopen.new.frame.tables))) _ c.requires.ready (c.reopen.ensures.value s)
