use Rattle.std.proofs.Common.{rules}
use Rattle.element.proofs.Writes.{put_one}
use Rattle.element.proofs.booleans.BoolElement.write_text.Goals as goal
use Rattle.element.proofs.booleans.BoolElement.write_text.Goals.{then-self, else-self}

pub returns : goal.returns
returns c = elim c.if-self.branch [ then-self w ↦ search (rules, put_one) | else-self w ↦ search (rules, put_one) ]
