use Rattle.std.proofs.Common.{ℕ, ◌*◌, Bool, List, [], ◌∷◌, Ok, Result, sym, refl, ap, ◌∙◌}
use Rattle.arithmetic.specs.declared.faults.ElementFault.{ElementFault}
use Rattle.element.specs.Cells.{put}
use Rattle.meaning.specs.Expressions.{equated, says}
use Rattle.meaning.specs.States.{Tables, FreeAt, tables}
use Rattle.meaning.proofs.Shells.{refused_2, made_2, left_value}
use Rattle.selections.specs.Equalities.{same_at}
use Rattle.tables.proofs.Reaching.{shown}
use Rattle.selections.proofs.Equating.{equate_at, equal_cells}
use Rattle.tables.specs.Lent.{held}
use Rattle.selections.proofs.equalities.equate_row.Goals as goal

pub returns-in_err-form-clause-made : goal.returns-in_err-form-clause-made
returns-in_err-form-clause-made c =
    let p = c.args.view.now.place in
    let t = held c.args.tables.now in
    refused_2 p c.args.view.now.slips.now t c.from_residual-in_err-form.result c.in_err-form.field-0.0 c.from_residual-in_err-form.ensures.1
    c.args.a c.args.b (equated c.args.op) c.in_ok-x.x c.in_ok-y.y c.in_ok-x.ensures.is c.in_ok-y.ensures.is c.in_err-form.ensures

pub are_equal-same-requires : goal.are_equal-same-requires
are_equal-same-requires c =
    record {
      wide = c.requires.wide;
      left = c.requires.left;
      right = c.requires.right;
      left_lawful = c.in_ok-x.ensures.lawful;
      right_lawful = c.in_ok-y.ensures.lawful;
      ample = shown c.shared.result c.args.tables.now c.shared.ensures c.requires.ample;
    }

pub returns-clause-made : goal.returns-clause-made
returns-clause-made c =
    let p = c.args.view.now.place in
    let bs = c.args.tables.now.booleans.now in
    let cs = c.args.tables.now.characters.now in
    let is = c.args.tables.now.integers.now in
    let t = tables bs cs is in
    let x = c.in_ok-x.x in
    let y = c.in_ok-y.y in
    let lx = c.in_ok-x.ensures.lawful in
    let ly = c.in_ok-y.ensures.lawful in
    let form = c.in_ok-form.form in
    let g = c.in_ok-form.ensures in
    let ok : Bool → Result (List Bool) ElementFault = λ b. Ok (b ∷ []) in
    let e = equal_cells p c.args.op t c.args.a c.args.b x y form g lx ly c.requires.wide c.requires.left c.requires.ample in
    made_2 p c.args.view.now.slips.now t _ _ c.args.a c.args.b (equated c.args.op) x y c.in_ok-x.ensures.is c.in_ok-y.ensures.is
    (left_value p p.row (FreeAt p.width p.row) t _ (equate_at p c.args.op t c.args.a c.args.b x y form g lx ly) form (sym g) (c.says.result ∷ []) refl
    (ap ok (ap (says c.args.op) (e ∙ sym (c.are_equal-same.ensures ∙ ap (λ (s : Tables). same_at s x y (c.args.a * p.width) (c.args.b * p.width)) c.shared.ensures)) ∙ sym c.says.ensures))
    (ap (λ (ds : List Bool). tables ds cs is) (c.write_truth.ensures ∙ ap (λ (n : ℕ). put bs n (c.says.result ∷ [])) c.start_of.ensures)))
