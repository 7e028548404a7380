use Rattle.std.proofs.Common.{◌==◌, ap, ◌∙◌}
use Rattle.std.specs.List.{list_any}
use Rattle.checker.proofs.Stacks.{held_any}
use Rattle.checker.proofs.opened.Blocks.contains.Goals as goal

pub returns : goal.returns
returns c =
    c.contains.ensures.value ∙ ap (list_any (λ v. v == c.args.row)) c.as_slice.ensures.value ∙ held_any c.args.row c.args.self.now.rows.items
