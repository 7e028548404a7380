-- What check shows of a sheet is what its rows ask: operands stand before, and a variable before the operands that it takes.
use Rattle.std.proofs.Common.{Some, None, ◌≡◌, ℕ, ◌<◌, ◌≤◌, true, List, [], ◌∷◌, length, ⊎_elim}
use Rattle.std.proofs.lemmas.Bool.{and_parts, cases_lt}
use Rattle.types.specs.declared.typing.Typing.{Typing}
use Rattle.instruction.specs.declared.instructions.Expression.{Expression as Make}
use Rattle.instruction.specs.declared.instructions.Expression.TheVariants as make
use Rattle.instruction.specs.declared.instructions.Change.{Change as Changes}
use Rattle.instruction.specs.declared.instructions.Change.TheVariants as change
use Rattle.instruction.specs.declared.instructions.Instruction.{Instruction}
use Rattle.instruction.specs.declared.instructions.Instruction.TheVariants.{Expression, Change, Control}
use Rattle.checker.specs.declared.line.Line.{Line}
use Rattle.checker.specs.Blocks.{operands, all, near, makes, declares}
use Rattle.checker.specs.Structure.{Structured, Visible, Ranging, says}
use Rattle.checker.proofs.Near.{near_tells}
use Rattle.laws.specs.Reads.{make_reads, AllUnder}
use Rattle.meaning.proofs.Shells.{never}
use Rattle.statements.proofs.Checked.{takes}
use Rattle.rows.specs.Changing.{Reaches}

declares_no_value : (i : Instruction) → declares i ≡ true → makes i ≡ true → ⊥
declares_no_value (Expression e) d m = never d
declares_no_value (Change c) d m = never m
declares_no_value (Control u) d m = never d

module _ (lines : List Line) (w : ℕ) (head : Typing) (sheet : Structured lines w head) (p : ℕ) (lt : p < length lines) where
  -- the rows that row p takes
  taken : (i : Instruction) → says lines p ≡ i → all (near lines p) (operands i) ≡ true
  taken = takes lines w head sheet p lt

  first : (a : ℕ) (cs : List ℕ) → all (near lines p) (a ∷ cs) ≡ true → near lines p a ≡ true
  first a cs h = (and_parts (near lines p a) (all (near lines p) cs) h).0

  rest : (a : ℕ) (cs : List ℕ) → all (near lines p) (a ∷ cs) ≡ true → all (near lines p) cs ≡ true
  rest a cs h = (and_parts (near lines p a) (all (near lines p) cs) h).1

  under : (a : ℕ) → near lines p a ≡ true → a < p
  under a h = (near_tells lines p a h).0

  -- a variable stands before each operand
  below : (v a : ℕ) → Visible lines v p → near lines p a ≡ true → v < a
  below v a seen h =
      ⊎_elim (λ (before : v < a). before)
      (λ (after : a ≤ v). absurd (declares_no_value (says lines v) seen.declared ((near_tells lines p a h).1 v after seen.before))) (cases_lt v a)

  pub reads_under : (e : Make) → says lines p ≡ Expression e → AllUnder p (make_reads e)
  reads_under (make.Literal k n) is = tt
  reads_under (make.Empty k) is = tt
  reads_under (make.Variable v) is = (⊎_elim (λ (seen : Visible lines v p). seen.before) (λ (ranging : Ranging lines v p). ranging.around.before) (sheet.read p v lt is), tt)
  reads_under (make.Prefix o a) is = let h = taken (Expression (make.Prefix o a)) is in (under a (first a [] h), tt)
  reads_under (make.Infix o a b) is = let h = taken (Expression (make.Infix o a b)) is in (under a (first a (b ∷ []) h), (under b (first b [] (rest a (b ∷ []) h)), tt))
  reads_under (make.Interval a b) is = let h = taken (Expression (make.Interval a b)) is in (under a (first a (b ∷ []) h), (under b (first b [] (rest a (b ∷ []) h)), tt))
  reads_under (make.Stack a b) is = let h = taken (Expression (make.Stack a b)) is in (under a (first a (b ∷ []) h), (under b (first b [] (rest a (b ∷ []) h)), tt))
  reads_under (make.Pick a b) is = let h = taken (Expression (make.Pick a b)) is in (under a (first a (b ∷ []) h), (under b (first b [] (rest a (b ∷ []) h)), tt))
  reads_under (make.PickTwo a b c) is =
      let h = taken (Expression (make.PickTwo a b c)) is in
      let k = rest a (b ∷ c ∷ []) h in
      (under a (first a (b ∷ c ∷ []) h), (under b (first b (c ∷ []) k), (under c (first c [] (rest b (c ∷ []) k)), tt)))
  reads_under (make.Measure m a) is = let h = taken (Expression (make.Measure m a)) is in (under a (first a [] h), tt)
  reads_under (make.Cast k a) is = let h = taken (Expression (make.Cast k a)) is in (under a (first a [] h), tt)
  reads_under (make.Resize a r s) is = let h = taken (Expression (make.Resize a r s)) is in (under a (first a [] h), tt)
  reads_under make.State is = tt

  pub reaches : (c : Changes) → says lines p ≡ Change c → Reaches p c
  reaches (change.Declare w None) is = tt
  reaches (change.Declare w (Some a)) is = under a (first a [] (taken (Change (change.Declare w (Some a))) is))
  reaches (change.Assign v a) is = let h = first a [] (taken (Change (change.Assign v a)) is) in (under a h, below v a (sheet.assigned p v a lt is) h)
  reaches (change.Store v b c) is =
      let h = taken (Change (change.Store v b c)) is in
      let hb = first b (c ∷ []) h in
      let hc = first c [] (rest b (c ∷ []) h) in
      let seen = sheet.stored p v b c lt is in
      (under b hb, under c hc, below v b seen hb, below v c seen hc)
  reaches (change.StoreTwo v b c d) is =
      let h = taken (Change (change.StoreTwo v b c d)) is in
      let k = rest b (c ∷ d ∷ []) h in
      (under b (first b (c ∷ d ∷ []) h), under c (first c (d ∷ []) k), under d (first d [] (rest c (d ∷ []) k)), (sheet.stored_two p v b c d lt is).before)
  reaches (change.Print a) is = under a (first a [] (taken (Change (change.Print a)) is))
  reaches (change.Read v) is = (sheet.filled p v lt is).before
  reaches (change.Return a) is = under a (first a [] (taken (Change (change.Return a)) is))
