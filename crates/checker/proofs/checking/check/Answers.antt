use Rattle.std.proofs.Common.{vec_items, ap, ◌∙◌}
use Rattle.sheet.specs.Rooms.{rows_of}
use Rattle.checker.specs.Judge.{Accepted, Faulty}
use Rattle.checker.proofs.Drafts.{of_draft}
use Rattle.checker.proofs.Unique.{accepted_once, not_both}
use Rattle.checker.proofs.checking.check.Goals as goal

pub returns-in-Ok-clause-exact : goal.returns-in-Ok-clause-exact
returns-in-Ok-clause-exact c =
    let d = c.args.draft in
    let lines = vec_items c.check_rows.new.lines in
    let fine = of_draft (λ w t rows. Accepted w t rows lines) d c.head-head.result c.rows-2.result.now c.head-head.ensures c.rows-2.ensures c.in-Ok.ensures.verdict in
    λ more _ other. ap vec_items c.seal.ensures.lines ∙ accepted_once d.head.width d.head.result (rows_of d) lines more fine other

pub returns-in-Err-clause-exact : goal.returns-in-Err-clause-exact
returns-in-Err-clause-exact c =
    let d = c.args.draft in
    let lines = vec_items c.check_rows.new.lines in
    let fault = of_draft (λ w t rows. Faulty w t rows lines c.in-Err.broken.refusal c.in-Err.broken.row) d c.head-head.result c.rows-2.result.now c.head-head.ensures c.rows-2.ensures c.in-Err.ensures.verdict in
    λ more _ other. not_both d.head.width d.head.result (rows_of d) more lines c.in-Err.broken.refusal c.in-Err.broken.row other fault
