-- The number of a refusal, and its words.
use Rattle.std.specs.Prelude.{ℕ, List, codes}
use Rattle.source.specs.declared.refusal.SourceRefusal.{SourceRefusal}
use Rattle.source.specs.declared.refusal.SourceRefusal.TheVariants.{TooLong}

abbrev pub refusal_number : SourceRefusal → ℕ
refusal_number TooLong = 12

abbrev pub refusal_text : SourceRefusal → List ℕ
refusal_text TooLong = codes "more bytes or readings than a source may hold"
