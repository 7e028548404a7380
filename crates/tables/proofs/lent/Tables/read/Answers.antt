use Rattle.std.proofs.Common.{[], ◌∷◌}
use Rattle.types.specs.declared.kinds.Kind.TheVariants.{Boolean, Integer}
use Rattle.meaning.specs.Reading.{reading}
use Rattle.tables.specs.Lent.{held}
use Rattle.tables.proofs.Changing.{changed_boolean, changed_character, changed_integer}
use Rattle.tables.proofs.Streaming.{state_told}
use Rattle.tables.proofs.lent.Tables.read.Goals as goal

pub returns-in-Boolean-clause-written : goal.returns-in-Boolean-clause-written
returns-in-Boolean-clause-written g c =
    let a = c.args in
    let bytes = g.S.Source.waiting a.source.now in
    changed_boolean a.kind (held a.self.now) a.to (λ k T. (reading k bytes).value ∷ []) c.in-Boolean.is c.read_cell.ensures.written

pub returns-in-Boolean-clause-told : goal.returns-in-Boolean-clause-told
returns-in-Boolean-clause-told g c = state_told c.args.kind Boolean (g.S.Source.waiting c.args.source.now) _ c.in-Boolean.is c.read_cell.ensures.told

pub returns-in-Character-clause-written : goal.returns-in-Character-clause-written
returns-in-Character-clause-written g c =
    let a = c.args in
    let bytes = g.S.Source.waiting a.source.now in
    changed_character a.kind (held a.self.now) a.to (λ k T. (reading k bytes).value ∷ []) c.in-Character.is c.read_cell-in-Character.ensures.written

pub returns-in-Integer-clause-written : goal.returns-in-Integer-clause-written
returns-in-Integer-clause-written g c =
    let a = c.args in
    let bytes = g.S.Source.waiting a.source.now in
    changed_integer a.kind (held a.self.now) a.to (λ k T. (reading k bytes).value ∷ []) c.in-Integer.is c.read_cell-in-Integer.ensures.written

pub returns-in-Integer-clause-told : goal.returns-in-Integer-clause-told
returns-in-Integer-clause-told g c = state_told c.args.kind Integer (g.S.Source.waiting c.args.source.now) _ c.in-Integer.is c.read_cell-in-Integer.ensures.told
