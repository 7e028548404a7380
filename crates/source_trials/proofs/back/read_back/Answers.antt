use Rattle.std.proofs.Common.{ap, ◌∙◌, append-nil}
use Rattle.std.proofs.lemmas.Int.{to_z-of_z}
use Rattle.source.specs.Lines.{line_of}
use Rattle.source.specs.Reads.{integer_read}
use Rattle.source_trials.proofs.ReadBack.{back}
use Rattle.source_trials.proofs.back.read_back.Goals as goal

pub returns-in-Ok : goal.returns-in-Ok
returns-in-Ok c =
    let z = c.args.reading in
    let fits = c.ranges.reading in
    let waits = simp to_z-of_z at c.in-Ok.ensures.1 in
    c.read.ensures.told ∙ ap integer_read (waits ∙ append-nil (line_of z)) ∙ back z fits.sfits
