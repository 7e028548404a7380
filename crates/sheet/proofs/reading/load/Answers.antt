use Rattle.sheet.proofs.RoundTrip.{again}
use Rattle.sheet.proofs.reading.load.Goals as goal

pub returns : goal.returns
returns c = record { cases = c.parse.ensures; again = λ note d short e. again c.args.file.now note d short e c.args.room (λ p. p.0) (λ p. p.1.now) c.parse.result c.parse.ensures }
