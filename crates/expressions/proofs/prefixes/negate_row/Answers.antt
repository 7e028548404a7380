use Rattle.std.proofs.Common.{List, [], map, ℤ, refl, ap, arith}
use Rattle.types.specs.declared.kinds.Kind.TheVariants.{Integer}
use Rattle.arithmetic.specs.Exact.{negated}
use Rattle.instruction.specs.declared.instructions.Prefix.TheVariants.{Minus}
use Rattle.elementwise.specs.Results.{collected}
use Rattle.meaning.specs.Expressions.{prefixed}
use Rattle.meaning.specs.States.{tables, value_from}
use Rattle.meaning.proofs.Shells.{refused_1, made_1}
use Rattle.meaning.proofs.Rows.{within_small}
use Rattle.expressions.proofs.Prefixing.{own_cells, own_below}
use Rattle.expressions.proofs.Writing.{wrote_value, wrote_fault}
use Rattle.expressions.proofs.prefixes.negate_row.Goals as goal

pub returns-in_err-form : goal.returns-in_err-form
returns-in_err-form c bs cs =
    refused_1 c.args.view.now.place c.args.view.now.slips.now (tables bs cs c.args.integers.now) c.from_residual-in_err-form.result c.in_err-form.field-0.0 c.from_residual-in_err-form.ensures.1
    c.args.a (prefixed Minus) c.in_ok-x.x c.in_ok-x.ensures.is c.in_err-form.ensures.is

pub overflow_mul-form : goal.overflow_mul-form
overflow_mul-form c = let s = within_small c.args.view.now.place.width c.in_ok-form.form c.in_ok-form.ensures.within in omega (arith, s.elements)

pub negate-worked-requires : goal.negate-worked-requires
negate-worked-requires c =
    let p = c.args.view.now.place in
    let s = within_small p.width c.in_ok-form.form c.in_ok-form.ensures.within in
    record {
      below = own_below p Integer (tables [] [] c.args.integers.now) c.args.a c.in_ok-x.x c.in_ok-form.form c.in_ok-form.ensures.is c.start_of-at.result c.start_of-to.result c.start_of-at.ensures c.start_of-to.ensures c.requires.before s.elements;
      within = omega (arith, s.elements, c.start_of-to.ensures, c.requires.ample);
    }

pub returns-in_err-at_row : goal.returns-in_err-at_row
returns-in_err-at_row c bs cs =
    let p = c.args.view.now.place in
    let x = c.in_ok-x.x in
    let form = c.in_ok-form.form in
    let t = tables bs cs c.args.integers.now in
    let s = within_small p.width form c.in_ok-form.ensures.within in
    let e = ap (λ (xs : List ℤ). collected 1 (map negated xs)) (own_cells p Integer t c.args.a x form c.in_ok-form.ensures.is c.start_of-at.result c.start_of-at.ensures) in
    made_1 p c.args.view.now.slips.now t _ c.from_residual-in_err-at_row.result c.args.a (prefixed Minus) x c.in_ok-x.ensures.is
    (wrote_fault p t (prefixed Minus (value_from p.width t c.args.a x)) form c.in_ok-form.ensures.is refl _ e c.start_of-to.result _ c.start_of-to.ensures _ c.negate-worked.result c.negate-worked.ensures
    s.elements c.negate-worked.auto.table c.from_residual-in_err-at_row.result c.in_err-at_row.field-0.0 c.from_residual-in_err-at_row.ensures.1 c.in_err-at_row.ensures)

pub returns : goal.returns
returns c bs cs =
    let p = c.args.view.now.place in
    let x = c.in_ok-x.x in
    let form = c.in_ok-form.form in
    let t = tables bs cs c.args.integers.now in
    let e = ap (λ (xs : List ℤ). collected 1 (map negated xs)) (own_cells p Integer t c.args.a x form c.in_ok-form.ensures.is c.start_of-at.result c.start_of-at.ensures) in
    made_1 p c.args.view.now.slips.now t _ _ c.args.a (prefixed Minus) x c.in_ok-x.ensures.is
    (wrote_value p t (prefixed Minus (value_from p.width t c.args.a x)) form c.in_ok-form.ensures.is refl _ e c.start_of-to.result _ c.start_of-to.ensures _ c.negate-worked.result c.negate-worked.ensures
    c.in_ok-at_row.ensures)
