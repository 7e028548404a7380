-- The state of a sheet at a row at work.
use Rattle.std.specs.Prelude.{ℕ, List}
use Rattle.meaning.specs.States.{State}
use Rattle.statements.specs.Frames.{state_of}
use Rattle.tables.specs.declared.frames.Frame.{Frame}
use Rattle.tables.specs.declared.intakes.Intake.{Intake}
use Rattle.tables.specs.declared.outputs.Output.{Output}
use Rattle.tables.specs.Lent.{held}

-- before the source's bytes that wait
abbrev pub state_at : Frame → Intake → List ℕ → Output → State
state_at f i waiting o = state_of i.taken i.stream f.slips.now (held f.tables) waiting o.bytes.now o.printed
