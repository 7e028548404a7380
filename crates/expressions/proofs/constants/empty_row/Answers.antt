use Rattle.std.proofs.Common.{true, None, ap, ◌∙◌}
use Rattle.meaning.specs.declared.layouts.Layout.{Layout}
use Rattle.meaning.specs.Works.{guards}
use Rattle.expressions.proofs.Building.{empty_made}
use Rattle.expressions.proofs.constants.empty_row.Goals as goal

pub returns : goal.returns
returns c t = empty_made c.args.place c.args.kind t c.guard.result (c.guard.ensures.is ∙ ap (λ (f : Layout). guards c.args.place true true None f true) c.vector.ensures)
