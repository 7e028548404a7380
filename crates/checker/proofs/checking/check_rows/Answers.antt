use Rattle.std.proofs.Common.{◌+◌, eqb, List, length, vec_items, sym, ap, ◌∙◌, arith}
use Rattle.std.proofs.lemmas.List.{get_or_read}
use Rattle.checker.specs.declared.line.Line.{Line}
use Rattle.instruction.specs.Forms.{form}
use Rattle.checker.specs.Judge.{no_row, judged_as, between}
use Rattle.checker.specs.Stack.{open_rows}
use Rattle.checker.proofs.Checks.{checking_more, checking_fault}
use Rattle.checker.proofs.Passes.{passes, nests_fits}
use Rattle.checker.proofs.checking.check_rows.Goals as goal

pub returns-in-Err : goal.returns-in-Err
returns-in-Err c =
    let told = sym c.in-Err.is ∙ c.judge.ensures ∙ ap (λ (ls : List Line). judged_as c.args.head.width c.args.head.result (eqb (c.loop-p.p + 1) (length c.args.rows.now)) ls c.loop-p.p (between c.loop-p.start c.loop-p.p) (open_rows c.loop-p.blocks) (form c.index-rows-p.result)) c.as_slice.ensures.value in
    record {
      verdict = checking_fault c.args.head.width c.args.head.result c.args.rows.now (vec_items c.loop-p.lines) (open_rows c.loop-p.blocks) c.loop-p.start c.loop-p.p c.index-rows-p.result c.in-Err.refusal
          c.loop-p.invariant.0 (get_or_read c.args.rows.now c.loop-p.p c.index-rows-p.result (omega arith) c.index-rows-p.is no_row) (omega arith) told;
      capacity = c.loop-p.invariant.1;
    }

pub advance-requires : goal.advance-requires
advance-requires c =
    let passed = passes c.args.head.width c.args.head.result (eqb (c.loop-p.p + 1) (length c.args.rows.now)) c.as_slice.result.now c.loop-p.p (between c.loop-p.start c.loop-p.p) (open_rows c.loop-p.blocks) (form c.index-rows-p.result) c.in-Ok.line (sym c.judge.ensures ∙ c.in-Ok.is) in
    nests_fits c.as_slice.result.now c.loop-p.p (open_rows c.loop-p.blocks) (eqb (c.loop-p.p + 1) (length c.args.rows.now)) c.in-Ok.line.instruction passed.nested

pub loop-p-preserved : goal.loop-p-preserved
loop-p-preserved c =
    let told = sym c.in-Ok.is ∙ c.judge.ensures ∙ ap (λ (ls : List Line). judged_as c.args.head.width c.args.head.result (eqb (c.loop-p.p + 1) (length c.args.rows.now)) ls c.loop-p.p (between c.loop-p.start c.loop-p.p) (open_rows c.loop-p.blocks) (form c.index-rows-p.result)) c.as_slice.ensures.value in (
      checking_more c.args.head.width c.args.head.result c.args.rows.now (vec_items c.loop-p.lines) (vec_items c.push_reserved.new.self) (open_rows c.loop-p.blocks) (open_rows c.advance.new.self) c.loop-p.start c.next_start-start.result c.loop-p.p c.index-rows-p.result c.in-Ok.line
          c.loop-p.invariant.0 (get_or_read c.args.rows.now c.loop-p.p c.index-rows-p.result (omega arith) c.index-rows-p.is no_row) told c.push_reserved.ensures.items c.advance.ensures c.next_start-start.ensures,
      c.push_reserved.ensures.capacity ∙ c.loop-p.invariant.1,
    )
