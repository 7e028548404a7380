-- How a word comes to a boolean byte by byte.
use Rattle.std.specs.Prelude.{ℕ, Bool, Result, Err}
use Rattle.source.specs.declared.letter.Letter.{Letter}
use Rattle.source.specs.declared.letter.Letter.TheVariants.{Missing, One, Several}
use Rattle.source.specs.declared.state.Misread.{Misread}
use Rattle.source.specs.declared.state.Misread.TheVariants.{BadWord, Ended}
use Rattle.source.specs.Booleans.{letter}
use Rattle.source.specs.Reads.{judged}

abbrev pub joins : Letter → ℕ → Letter
joins Missing b = One b
joins (One c) b = Several
joins Several b = Several

abbrev pub truth : Letter → Result Bool Misread
truth Missing = Err Ended
truth (One b) = judged (letter b)
truth Several = Err BadWord
