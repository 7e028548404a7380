-- What an expression row does to slips and tables, whatever the rest of the state holds.
use Rattle.std.specs.Prelude.{List}
use Rattle.source.specs.declared.state.StreamState.{StreamState}
use Rattle.instruction.specs.declared.instructions.Expression.{Expression as Make}
use Rattle.meaning.specs.declared.places.Place.{Place}
use Rattle.meaning.specs.declared.slips.Slip.{Slip}
use Rattle.meaning.specs.Expressions.{evaluated}
use Rattle.meaning.specs.States.{State, Tables, value_in, holding}
use Rattle.meaning.specs.Acts.{Answer, Evaluates}

abbrev pub Expresses : Place → Make → StreamState → List Slip → Tables → Answer → List Slip → Tables → Type 0
Expresses p e stream slips t a after u =
    (s : State) → Evaluates p.width p.row p.line (holding s slips t) (evaluated p.width (value_in p.width slips t) stream e) a (holding s after u)
