use Rattle.std.proofs.Common.{◌∙◌, arith}
use Rattle.source.proofs.Spelling.{spell_more, spell_last, room}
use Rattle.source.proofs.line.push_decimal.Goals as goal

pub push-requires : goal.push-requires
push-requires c =
    let l = c.loop-left in
    omega (arith, c.requires, room c.args.number l.left c.args.stack.now.items l.stack.items (omega arith) (omega arith) l.invariant)

pub loop-left-preserved : goal.loop-left-preserved
loop-left-preserved c = spell_more c.loop-left.left _ _ (omega arith) (omega arith) c.push.ensures.items ∙ c.loop-left.invariant

pub push-requires-2 : goal.push-requires-2
push-requires-2 c =
    let l = c.loop-left in
    omega (arith, c.requires, room c.args.number l.left c.args.stack.now.items l.stack.items (omega arith) (omega arith) l.invariant)

pub returns : goal.returns
returns c =
    let l = c.loop-left in
    record {
      text = spell_last l.left _ _ (omega arith) c.push-2.ensures.items ∙ l.invariant;
      room = omega (arith, room c.args.number l.left c.args.stack.now.items l.stack.items (omega arith) (omega arith) l.invariant);
    }
