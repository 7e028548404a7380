use Rattle.std.proofs.Common.{suc, ◌+◌, ◌*◌, ◌%◌, ◌≤◌, arith}
use native.Mathlib.Nat.{mod-le}
use Rattle.std.proofs.lemmas.Nat.{mod_below}
use Rattle.element.proofs.Lines.{row_below}
use Rattle.elementwise.proofs.products.MatricesRuleI32ResultI32ArithmeticFault.cell.Goals as goal

pub overflow_add-column : goal.overflow_add-column
overflow_add-column c = record { fits = omega (arith, mod-le c.args.k c.args.self.now.columns) }

pub inner-requires : goal.inner-requires
inner-requires c =
    let m = c.args.self.now in
    record {
      row = c.requires.1;
      column =
          λ k h.
          let e : k * m.columns + suc (c.args.k % m.columns) ≤ m.middle * m.columns = row_below k m.middle m.columns _ h (mod_below c.args.k m.columns c.requires.0) in
          omega arith;
    }
