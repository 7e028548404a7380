use Rattle.std.proofs.Common.{rules, ℕ, ◌*◌, List, replicate, Ok, Result, refl, ap}
use Rattle.arithmetic.specs.declared.faults.ElementFault.{ElementFault}
use Rattle.meaning.specs.Changes.{nulls}
use Rattle.meaning.specs.Values.{Cell, null_of, area}
use Rattle.changes.proofs.Filling.{written, form_is}
use Rattle.tables.specs.Lent.{held}
use Rattle.changes.proofs.declares.declare_nulls.Goals as goal

pub returns : goal.returns
returns c =
    let p = c.args.place in
    let w = c.args.w in
    let form = c.in_ok-form.form in
    let t = held c.args.tables.now in
    let u = held c.fill_nulls.new.self in
    let e = ap area (form_is p p.row t t (nulls w) form c.in_ok-form.ensures.is) in
    let ok : ℕ → Result (List (Cell w.kind)) ElementFault = λ n. Ok (replicate n (null_of w.kind)) in
    record {
      filled = written p p.row t u (nulls w) form c.in_ok-form.ensures.is c.start_of-to.result c.start_of-to.ensures (λ k T. replicate (form.r * form.s) (null_of k)) refl (ap ok e) c.fill_nulls.ensures.value;
      within = c.in_ok-form.ensures.within;
      lent = search rules;
    }
