use Rattle.types.specs.declared.kinds.Kind.TheVariants.{Boolean, Character, Integer}
use Rattle.element.specs.Cells.{cells}
use Rattle.tables.specs.Lent.{held}
use Rattle.tables.proofs.Casting.{put_own, cast_boolean, cast_character, cast_integer}
use Rattle.tables.proofs.lent.Tables.cast.Goals as goal

pub returns-in-Boolean-to_kind-clause-value : goal.returns-in-Boolean-to_kind-clause-value
returns-in-Boolean-to_kind-clause-value c =
    let a = c.args in
    cast_boolean _ _ Boolean (held a.self.now) a.at a.to a.n c.in-Boolean.is c.in-Boolean-to_kind.is (put_own Boolean a.self.now.booleans.now (cells a.self.now.booleans.now a.at a.n) c.copy.new.table a.to c.copy.ensures)

pub returns-in-Character-to_kind-clause-value : goal.returns-in-Character-to_kind-clause-value
returns-in-Character-to_kind-clause-value c =
    let a = c.args in
    cast_character _ _ Boolean (held a.self.now) a.at a.to a.n c.in-Boolean.is c.in-Character-to_kind.is c.cast.ensures

pub returns-in-Integer-to_kind-clause-value : goal.returns-in-Integer-to_kind-clause-value
returns-in-Integer-to_kind-clause-value c =
    let a = c.args in
    cast_integer _ _ Boolean (held a.self.now) a.at a.to a.n c.in-Boolean.is c.in-Integer-to_kind.is c.cast-in-Integer-to_kind.ensures

pub returns-in-Boolean-to_kind-2-clause-value : goal.returns-in-Boolean-to_kind-2-clause-value
returns-in-Boolean-to_kind-2-clause-value c =
    let a = c.args in
    cast_boolean _ _ Character (held a.self.now) a.at a.to a.n c.in-Character.is c.in-Boolean-to_kind-2.is c.cast-in-Boolean-to_kind-2.ensures

pub returns-in-Character-to_kind-2-clause-value : goal.returns-in-Character-to_kind-2-clause-value
returns-in-Character-to_kind-2-clause-value c =
    let a = c.args in
    cast_character _ _ Character (held a.self.now) a.at a.to a.n c.in-Character.is c.in-Character-to_kind-2.is (put_own Character a.self.now.characters.now (cells a.self.now.characters.now a.at a.n) c.copy-in-Character-to_kind-2.new.table a.to c.copy-in-Character-to_kind-2.ensures)

pub returns-in-Integer-to_kind-2-clause-value : goal.returns-in-Integer-to_kind-2-clause-value
returns-in-Integer-to_kind-2-clause-value c =
    let a = c.args in
    cast_integer _ _ Character (held a.self.now) a.at a.to a.n c.in-Character.is c.in-Integer-to_kind-2.is c.cast-in-Integer-to_kind-2.ensures

pub returns-in-Boolean-to_kind-3-clause-value : goal.returns-in-Boolean-to_kind-3-clause-value
returns-in-Boolean-to_kind-3-clause-value c =
    let a = c.args in
    cast_boolean _ _ Integer (held a.self.now) a.at a.to a.n c.in-Integer.is c.in-Boolean-to_kind-3.is c.cast-in-Boolean-to_kind-3.ensures

pub returns-in-Character-to_kind-3-clause-value : goal.returns-in-Character-to_kind-3-clause-value
returns-in-Character-to_kind-3-clause-value c =
    let a = c.args in
    cast_character _ _ Integer (held a.self.now) a.at a.to a.n c.in-Integer.is c.in-Character-to_kind-3.is c.cast-in-Character-to_kind-3.ensures

pub returns-in-Integer-to_kind-3-clause-value : goal.returns-in-Integer-to_kind-3-clause-value
returns-in-Integer-to_kind-3-clause-value c =
    let a = c.args in
    cast_integer _ _ Integer (held a.self.now) a.at a.to a.n c.in-Integer.is c.in-Integer-to_kind-3.is (put_own Integer a.self.now.integers.now (cells a.self.now.integers.now a.at a.n) c.copy-in-Integer-to_kind-3.new.table a.to c.copy-in-Integer-to_kind-3.ensures)
