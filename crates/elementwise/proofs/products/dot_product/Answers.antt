use Rattle.std.proofs.Common.{Ok, Err, to_z-of_z, w32, SFits, rules}
use Rattle.std.proofs.lemmas.Result.{err_from_is_err_and}
use Rattle.elementwise.proofs.Matrices.{dot_named}
use Rattle.elementwise.proofs.products.dot_product.Goals as goal

pub returns-in_err-sum : goal.returns-in_err-sum
returns-in_err-sum c =
    let a = c.args in
    let p = err_from_is_err_and c.from_residual.result c.from_residual.ensures.1 in
    rw (p.1, p.2) (dot_named a.table.now a.a a.b a.n (Err _) c.requires.right c.in_err-sum.ensures)

pub returns : goal.returns
returns c =
    let a = c.args in
    let f : SFits w32 c.in_ok-sum.sum = search rules in
    simp to_z-of_z (dot_named a.table.now a.a a.b a.n (Ok c.in_ok-sum.sum) c.requires.right c.in_ok-sum.ensures)
