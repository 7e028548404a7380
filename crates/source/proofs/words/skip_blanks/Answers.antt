use Rattle.std.proofs.Common.{arith, rules}
use Rattle.source.proofs.Scanning.{skips_more, skipped_more, room, took_one}
use Rattle.source.proofs.words.skip_blanks.Goals as goal

pub loop-count-preserved : goal.loop-count-preserved
loop-count-preserved g c =
    let waits = g.S.Source.waiting in
    let here = c.loop-count in
    let one = c.in-Some.ensures in
    let fits = room (waits c.args.s.now) (waits here.s) (waits c.next_if.new.s) here.count c.in-Some.field-0 one.0 one.2 here.invariant.0.count here.invariant.0.short in (
      skipped_more _ _ _ _ _ one.0 one.2 here.invariant.0 (search rules),
      skips_more _ _ _ _ _ _ _ one.0 one.2 (took_one (waits here.s) (waits c.next_if.new.s) c.in-Some.field-0 one.0 one.2 here.count (omega (arith, fits))) here.invariant.1 (search rules),
    )
