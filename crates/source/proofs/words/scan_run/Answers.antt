use Rattle.std.proofs.Common.{◌+◌, arith, rules}
use Rattle.source.proofs.Scanning.{scans_more, scanned_more, room, took_one}
use Rattle.source.proofs.words.scan_run.Goals as goal

pub loop-byte-preserved : goal.loop-byte-preserved
loop-byte-preserved g c =
    let waits = g.S.Source.waiting in
    let word = c.loop-byte in
    let one = c.in-Some.ensures in
    let b = c.in-Some.byte in
    let fits = room (waits c.args.s.now) (waits word.s) (waits c.next_if.new.s) word.count b one.0 one.2 word.invariant.0.count word.invariant.0.short in (
      scanned_more (waits c.args.s.now) (waits word.s) (waits c.next_if.new.s) word.count b one.0 one.2 g.C.Scanner.after c.empty_word-scanner.result word.scanner c.push-scanner.result word.invariant.0 (search rules) c.push-scanner.ensures,
      scans_more (waits c.args.s.now) (waits word.s) (waits c.next_if.new.s) 0 word.count (word.count + 1) b one.0 one.2 (took_one (waits word.s) (waits c.next_if.new.s) b one.0 one.2 word.count (omega (arith, fits))) g.C.Scanner.after c.empty_word-scanner.result word.scanner c.push-scanner.result word.invariant.1 (search rules) c.push-scanner.ensures,
    )
