-- The law of rows for a sheet that check accepts: only its operands need to be as noted.
use Rattle.std.specs.Prelude.{ℕ, ◌<◌, List, length}
use Rattle.sheet.specs.declared.row.Row.{Row as SheetRow}
use Rattle.types.specs.declared.typing.Typing.{Typing}
use Rattle.checker.specs.declared.line.Line.{Line}
use Rattle.checker.specs.Blocks.{at, typing_at}
use Rattle.checker.specs.Judge.{Accepted}
use Rattle.meaning.specs.States.{State, value_at}
use Rattle.meaning.specs.Acts.{Answer, Acts}
use Rattle.laws.specs.Fitting.{AllReady}
use Rattle.laws.specs.Reads.{reads}
use Rattle.laws.specs.Laws.{Roomy}
use Rattle.laws.specs.Keeps.{Leaves}

abbrev pub AcceptedSafe : Type 0
AcceptedSafe =
    (W line : ℕ) (head : Typing) (rows : List SheetRow) (lines : List Line) (s : State) (p : ℕ) (a : Answer) (t : State) →
    Accepted W head rows lines → Roomy W (length rows) s → p < length rows →
    AllReady W (typing_at lines) (value_at W s) (reads lines (at lines p).target (at lines p).instruction) →
    Acts W p line s head lines (at lines p).target (at lines p).instruction a t →
    Leaves W (length rows) (typing_at lines) p line s a t head lines (at lines p).target (at lines p).instruction
