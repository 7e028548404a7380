use Rattle.std.proofs.Common.{◌≡◌, refl}
use Rattle.source.specs.declared.refusal.SourceRefusal.{SourceRefusal}
use Rattle.source.specs.declared.refusal.SourceRefusal.TheVariants.{TooLong}
use Rattle.source.specs.Refusals.{refusal_text}
use Rattle.source.proofs.refusal.SourceRefusal.text.Goals as goal

only : (r : SourceRefusal) → refusal_text TooLong ≡ refusal_text r
only TooLong = refl

pub returns : goal.returns
returns c = only c.args.self
