use Rattle.std.proofs.Common.{ℕ, ◌+◌, ◌*◌, ◌/◌, ◌%◌, ◌^◌, ◌<◌, ◌≤◌, List, ℤ, length, ap, ◌∙◌, le_refl, arith, rules}
use Rattle.std.proofs.lemmas.Nat.{div_below}
use Rattle.element.specs.Cells.{cells, tabulate}
use Rattle.elementwise.specs.Products.{dot, strided}
use Rattle.elementwise.proofs.Collects.{made_as}
use Rattle.element.proofs.Lines.{row_below}
use Rattle.elementwise.proofs.Grids.{some_columns}
use Rattle.elementwise.proofs.Matrices.{products_by_place}
use Rattle.element.proofs.Parts.{target_long}
use Rattle.elementwise.proofs.Parts.{wrote_part}
use Rattle.elementwise.proofs.products.matrix_product.Goals as goal

pub try_make-requires : goal.try_make-requires
try_make-requires c =
    let a = c.args in
    let s = c.split_at_mut-source in
    let all : length a.table.now < 2 ^ 64 = search rules in
    let n = target_long a.table.now s.result.0.now s.result.1.now a.to (a.rows * a.columns) s.ensures.front s.ensures.back c.requires.within in
    record {
      reads =
          λ k h.
          let h' : k < a.rows * a.columns = omega arith in
          let s : 0 < a.columns = some_columns a.rows a.columns k h' in
          let e : k / a.columns * a.middle + a.middle ≤ a.rows * a.middle = row_below (k / a.columns) a.rows a.middle a.middle (div_below k a.columns a.rows s h') (le_refl _) in
          (s, omega arith, omega arith, omega arith);
    }

pub returns : goal.returns
returns c =
    let a = c.args in
    let s = c.split_at_mut-source in
    let n = target_long a.table.now s.result.0.now s.result.1.now a.to (a.rows * a.columns) s.ensures.front s.ensures.back c.requires.within in
    let results = λ (xs : List ℤ) (n : ℕ). tabulate n (λ k. dot (cells xs (a.a + k / a.columns * a.middle) a.middle) (strided xs (a.b + k % a.columns) a.columns a.middle)) in
    wrote_part a.table.now s.result.0.now s.result.1.now a.to (a.rows * a.columns) s.ensures.front s.ensures.back c.requires.within c.try_make.new.target c.try_make.auto.target _ _
    (made_as _ _ (ap (results s.result.0.now) n ∙ ap (λ (xs : List ℤ). results xs (a.rows * a.columns)) s.ensures.front ∙ products_by_place a.table.now a.to a.a a.b a.rows a.middle a.columns c.requires.left c.requires.right) c.try_make.ensures)
