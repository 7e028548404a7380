use Rattle.std.proofs.Common.{pos}
use Rattle.elementwise.proofs.Parts.{wrote_pairs}
use Rattle.elementwise.proofs.infix.calculate.Goals as goal

pub returns-in-Add : goal.returns-in-Add
returns-in-Add c =
    let a = c.args in
    let s = c.split_at_mut-source in
    rw c.in-Add.is (wrote_pairs a.table.now s.result.0.now s.result.1.now a.to a.n s.ensures.front s.ensures.back c.requires.within (pos 0) _ a.a a.b _ _ c.try_combine_sure.auto.target c.requires.left c.requires.right c.try_combine_sure.ensures)

pub returns-in-Subtract : goal.returns-in-Subtract
returns-in-Subtract c =
    let a = c.args in
    let s = c.split_at_mut-source in
    rw c.in-Subtract.is (wrote_pairs a.table.now s.result.0.now s.result.1.now a.to a.n s.ensures.front s.ensures.back c.requires.within (pos 0) _ a.a a.b _ _ c.try_combine_sure-in-Subtract.auto.target c.requires.left c.requires.right c.try_combine_sure-in-Subtract.ensures)

pub returns-in-Multiply : goal.returns-in-Multiply
returns-in-Multiply c =
    let a = c.args in
    let s = c.split_at_mut-source in
    rw c.in-Multiply.is (wrote_pairs a.table.now s.result.0.now s.result.1.now a.to a.n s.ensures.front s.ensures.back c.requires.within (pos 0) _ a.a a.b _ _ c.try_combine.auto.target c.requires.left c.requires.right c.try_combine.ensures)

pub returns-in-Divide : goal.returns-in-Divide
returns-in-Divide c =
    let a = c.args in
    let s = c.split_at_mut-source in
    rw c.in-Divide.is (wrote_pairs a.table.now s.result.0.now s.result.1.now a.to a.n s.ensures.front s.ensures.back c.requires.within (pos 0) _ a.a a.b _ _ c.try_combine-in-Divide.auto.target c.requires.left c.requires.right c.try_combine-in-Divide.ensures)

pub returns-in-Remainder : goal.returns-in-Remainder
returns-in-Remainder c =
    let a = c.args in
    let s = c.split_at_mut-source in
    rw c.in-Remainder.is (wrote_pairs a.table.now s.result.0.now s.result.1.now a.to a.n s.ensures.front s.ensures.back c.requires.within (pos 0) _ a.a a.b _ _ c.try_combine-in-Remainder.auto.target c.requires.left c.requires.right c.try_combine-in-Remainder.ensures)

pub returns-in-Power : goal.returns-in-Power
returns-in-Power c =
    let a = c.args in
    let s = c.split_at_mut-source in
    rw c.in-Power.is (wrote_pairs a.table.now s.result.0.now s.result.1.now a.to a.n s.ensures.front s.ensures.back c.requires.within (pos 0) _ a.a a.b _ _ c.try_combine-in-Power.auto.target c.requires.left c.requires.right c.try_combine-in-Power.ensures)
