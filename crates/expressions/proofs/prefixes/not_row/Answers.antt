use Rattle.std.proofs.Common.{Bool, not, List, [], map, Ok, Result, refl, ap, arith}
use Rattle.types.specs.declared.kinds.Kind.TheVariants.{Boolean}
use Rattle.arithmetic.specs.declared.faults.ElementFault.{ElementFault}
use Rattle.instruction.specs.declared.instructions.Prefix.TheVariants.{Not}
use Rattle.meaning.specs.Expressions.{prefixed}
use Rattle.meaning.specs.States.{tables, value_from}
use Rattle.meaning.proofs.Shells.{refused_1, made_1}
use Rattle.meaning.proofs.Rows.{within_small}
use Rattle.expressions.proofs.Prefixing.{own_cells, own_below}
use Rattle.expressions.proofs.Writing.{value_made}
use Rattle.expressions.proofs.prefixes.not_row.Goals as goal

pub returns-in_err-form : goal.returns-in_err-form
returns-in_err-form c cs is =
    refused_1 c.args.view.now.place c.args.view.now.slips.now (tables c.args.booleans.now cs is) c.from_residual-in_err-form.result c.in_err-form.field-0.0 c.from_residual-in_err-form.ensures.1
    c.args.a (prefixed Not) c.in_ok-x.x c.in_ok-x.ensures.is c.in_err-form.ensures.is

pub overflow_mul-form : goal.overflow_mul-form
overflow_mul-form c = let s = within_small c.args.view.now.place.width c.in_ok-form.form c.in_ok-form.ensures.within in omega (arith, s.elements)

pub not-requires : goal.not-requires
not-requires c =
    let p = c.args.view.now.place in
    let s = within_small p.width c.in_ok-form.form c.in_ok-form.ensures.within in
    record {
      below = own_below p Boolean (tables c.args.booleans.now [] []) c.args.a c.in_ok-x.x c.in_ok-form.form c.in_ok-form.ensures.is c.start_of-at.result c.start_of-to.result c.start_of-at.ensures c.start_of-to.ensures c.requires.before s.elements;
      within = omega (arith, s.elements, c.start_of-to.ensures, c.requires.ample);
    }

pub returns : goal.returns
returns c cs is =
    let p = c.args.view.now.place in
    let x = c.in_ok-x.x in
    let form = c.in_ok-form.form in
    let t = tables c.args.booleans.now cs is in
    let ok : List Bool → Result (List Bool) ElementFault = λ xs. Ok (map not xs) in
    let e = ap ok (own_cells p Boolean t c.args.a x form c.in_ok-form.ensures.is c.start_of-at.result c.start_of-at.ensures) in
    made_1 p c.args.view.now.slips.now t _ _ c.args.a (prefixed Not) x c.in_ok-x.ensures.is
    (value_made p t (prefixed Not (value_from p.width t c.args.a x)) form c.in_ok-form.ensures.is refl _ c.start_of-to.result _ e c.start_of-to.ensures c.not.ensures)
