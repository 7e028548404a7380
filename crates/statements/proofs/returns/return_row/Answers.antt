use Rattle.statements.proofs.Branching.{return_stuck, return_sizes, return_value}
use Rattle.statements.proofs.returns.return_row.Goals as goal

pub returns-then-not-has_head_type : goal.returns-then-not-has_head_type
returns-then-not-has_head_type c s t =
    return_stuck c.args.view.now.place s c.args.view.now.slips.now t c.args.a c.in_ok-x.x c.in_ok-x.ensures.is c.args.head c.fault.result c.fault.ensures c.if-not-has_head_type.ensures

pub returns-then-not-has_head_sizes : goal.returns-then-not-has_head_sizes
returns-then-not-has_head_sizes c s t =
    return_sizes c.args.view.now.place s c.args.view.now.slips.now t c.args.a c.in_ok-x.x c.in_ok-x.ensures.is c.args.head c.fault-then-not-has_head_sizes.result c.fault-then-not-has_head_sizes.ensures
    c.if-not-has_head_type.ensures c.if-not-has_head_sizes.ensures

pub returns : goal.returns
returns c s t =
    return_value c.args.view.now.place s c.args.view.now.slips.now t c.args.a c.in_ok-x.x c.in_ok-x.ensures.is c.args.head c.if-not-has_head_type.ensures c.if-not-has_head_sizes.ensures
