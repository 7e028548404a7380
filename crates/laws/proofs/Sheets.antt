-- What check's acceptance gives for the law of rows: notes, rows that are read, written types.
use Rattle.std.proofs.Common.{◌≡◌, ℕ, ◌+◌, ◌<◌, ◌≤◌, Bool, true, false, cond, ◌||◌, eqb, ltb, leb, ◌⊎◌, List, [], ◌∷◌, length, get_or, take, Some, None, Option, sym, refl, ap, ◌∙◌, subst, inl, inr, ⊎_elim, arith}
use Rattle.std.specs.Option.{option_map}
use Rattle.std.proofs.lemmas.List.{get_or_past}
use Rattle.std.proofs.lemmas.Bool.{and_parts, ltb-true, cases_lt, cond_both}
use Rattle.sheet.specs.declared.row.Row.{Row as SheetRow}
use Rattle.types.specs.declared.kinds.Kind.{Kind}
use Rattle.types.specs.declared.kinds.Shape.{Shape}
use Rattle.types.specs.declared.typing.Typing.{Typing}
use Rattle.types.specs.Types.{Size, kind_of, shape_of, written}
use Rattle.types.specs.Typings.{typing, type_fits}
use Rattle.instruction.specs.declared.instructions.Expression.{Expression as Make}
use Rattle.instruction.specs.declared.instructions.Expression.TheVariants as make
use Rattle.instruction.specs.declared.instructions.Change.TheVariants as change
use Rattle.instruction.specs.declared.instructions.Control.{Control as Turn}
use Rattle.instruction.specs.declared.instructions.Control.TheVariants as control
use Rattle.instruction.specs.declared.instructions.Instruction.{Instruction}
use Rattle.instruction.specs.declared.instructions.Instruction.TheVariants.{Expression, Change, Control}
use Rattle.instruction.specs.Fields.{fields_of, plain}
use Rattle.instruction.specs.Forms.{start_of, declared, expression_of, statement_of, form}
use Rattle.checker.specs.declared.line.Line.{Line}
use Rattle.checker.specs.Blocks.{at, past_end, operands, all, near, below, makes, blocks}
use Rattle.checker.specs.Judge.{Accepted, no_row}
use Rattle.checker.specs.Structure.{Structured}
use Rattle.checker.proofs.Passes.{passes}
use Rattle.checker.proofs.Structures.{structured}
use Rattle.laws.specs.Reads.{reads, resume_reads, reopen_reads, AllUnder}
use Rattle.laws.specs.Keeps.{Noted, AllNoted, resumed, reopened, advanced, written_fits}
use Rattle.laws.specs.Accepted.{AcceptedSafe}
use Rattle.laws.proofs.Rows.{rows_safe}

-- ---- a row's fields are read only as instructions whose written types fit
abbrev Fine : Option Instruction → Type 0
Fine o = (i : Instruction) → o ≡ Some i → written_fits i ≡ true

fine_none : Fine None
fine_none i e = cc

fine_some : (x : Instruction) → written_fits x ≡ true → Fine (Some x)
fine_some x h i e = let same : x ≡ i = cc in ap written_fits (sym same) ∙ h

fine_cond : (b : Bool) (x y : Option Instruction) → Fine x → Fine y → Fine (cond b x y)
fine_cond true x y f g = f
fine_cond false x y f g = g

fine_expression : (o : Option Make) → Fine (option_map Expression o)
fine_expression None = fine_none
fine_expression (Some e) = fine_some (Expression e) refl

fine_declared : (o : Option Kind) (q : Option Shape) (r s : Size) (v : Option ℕ) → Fine (declared o q r s v)
fine_declared None q r s v = fine_none
fine_declared (Some k) None r s v = fine_none
fine_declared (Some k) (Some x) r s v = cond_both (type_fits k x r s) (Some (Change (change.Declare (typing k x r s) v))) None Fine (λ h. fine_some (Change (change.Declare (typing k x r s) v)) h) (λ _. fine_none)

-- a code picks one of these, or what the others pick
module _ (x : SheetRow) where
  abbrev Code : ℕ → Bool
  Code n = eqb x.code n

  fine_statement : Fine (statement_of x)
  fine_statement =
      fine_cond (Code 20) _ _ (fine_declared (kind_of x.c) (shape_of x.b) (written x.r) (written x.s) (start_of x.a)) (
      fine_cond (Code 21) _ _ (fine_some (Change (change.Assign x.a x.b)) refl) (
      fine_cond (Code 22) _ _ (fine_some (Change (change.Store x.a x.b x.c)) refl) (
      fine_cond (Code 23) _ _ (fine_some (Change (change.StoreTwo x.a x.b x.c x.d)) refl) (
      fine_cond (Code 24) _ _ (fine_some (Control (control.If x.a x.b)) refl) (
      fine_cond (Code 25) _ _ (fine_some (Control (control.Else x.b)) refl) (
      fine_cond (Code 26) _ _ (fine_some (Control (control.Loop x.b)) refl) (
      fine_cond (Code 27) _ _ (fine_some (Control (control.Each x.a x.b)) refl) (
      fine_cond (Code 28) _ _ (fine_some (Control (control.Test x.a)) refl) (
      fine_cond (Code 29) _ _ (fine_some (Control control.Break) refl) (
      fine_cond (Code 30) _ _ (fine_some (Control control.Continue) refl) (
      fine_cond (Code 31) _ _ (fine_some (Control (control.End x.b)) refl) (
      fine_cond (Code 32) _ _ (fine_some (Change (change.Print x.a)) refl) (
      fine_cond (Code 33) _ _ (fine_some (Change (change.Read x.a)) refl) (
      fine_cond (Code 34) _ _ (fine_some (Change (change.Return x.a)) refl) fine_none))))))))))))))

  fine_form : Fine (form x)
  fine_form =
      let said = option_map Expression (expression_of x) in
      fine_cond (plain (fields_of x.code) x) (cond (leb x.code 13) said (statement_of x)) None (fine_cond (leb x.code 13) said (statement_of x) (fine_expression (expression_of x)) fine_statement) fine_none

-- ---- rows that stand before p
near_under : (lines : List Line) (p n : ℕ) → p < n → (is : List ℕ) → all (near lines p) is ≡ true → AllUnder n is
near_under lines p n lt [] h = tt
near_under lines p n lt (i ∷ is) h =
    let both = and_parts (near lines p i) (all (near lines p) is) h in
    let under = ltb-true i p (and_parts (ltb i p) (below (λ j. ltb j i || makes (at lines j).instruction) p) both.0).0 in
    (omega arith, near_under lines p n lt is both.1)

module _ (W : ℕ) (head : Typing) (rows : List SheetRow) (lines : List Line) (ok : Accepted W head rows lines) where
  abbrev sheet : Structured lines W head
  sheet = structured W head rows lines ok

  among : (p : ℕ) → p < length rows → p < length lines
  among p lt = let l = ok.long in omega arith

  written_fits_by : (p : ℕ) → p < length rows → written_fits (at lines p).instruction ≡ true
  written_fits_by p lt =
      let passed = passes W head (eqb (p + 1) (length rows)) (take p lines) p (near (take p lines) p) (blocks (take p lines) p) (form (get_or rows p no_row)) (at lines p) (ok.lawful p lt) in
      fine_form (get_or rows p no_row) (at lines p).instruction passed.says

  noted : (i : ℕ) → i < length rows → Noted W head lines i
  noted i lt = sheet.typing i (among i lt)

  taken_as : (p : ℕ) (x : Instruction) → p < length rows → (at lines p).instruction ≡ x → all (near lines p) (operands x) ≡ true
  taken_as p x lt e = subst (λ (y : Instruction). all (near lines p) (operands y) ≡ true) e (sheet.taken p (among p lt))

  -- ---- the each row that an end or a continue takes on
  resumed_noted : (i : ℕ) (u : Turn) → Noted W head lines i → AllNoted W head lines (resumed i u)
  resumed_noted i (control.If a b) h = tt
  resumed_noted i (control.Else b) h = tt
  resumed_noted i (control.Loop b) h = tt
  resumed_noted i (control.Each a b) h = (h, tt)
  resumed_noted i (control.Test a) h = tt
  resumed_noted i control.Break h = tt
  resumed_noted i control.Continue h = tt
  resumed_noted i (control.End b) h = tt

  reopened_noted : (i : ℕ) (x : Instruction) → Noted W head lines i → AllNoted W head lines (reopened i x)
  reopened_noted i (Expression e) h = tt
  reopened_noted i (Change c) h = tt
  reopened_noted i (Control u) h = resumed_noted i u h

  advanced_noted : (target : ℕ) (x : Instruction) → (target < length rows) ⊎ (reopened target (at lines target).instruction ≡ []) → AllNoted W head lines (advanced lines target x)
  advanced_noted target (Expression e) f = tt
  advanced_noted target (Change c) f = tt
  advanced_noted target (Control (control.If a b)) f = tt
  advanced_noted target (Control (control.Else b)) f = tt
  advanced_noted target (Control (control.Loop b)) f = tt
  advanced_noted target (Control (control.Each a b)) f = tt
  advanced_noted target (Control (control.Test a)) f = tt
  advanced_noted target (Control control.Break) f = tt
  advanced_noted target (Control control.Continue) f =
      ⊎_elim (λ lt. reopened_noted target (at lines target).instruction (noted target lt)) (λ e. subst (AllNoted W head lines) (sym e) tt) f
  advanced_noted target (Control (control.End b)) f =
      ⊎_elim (λ lt. reopened_noted target (at lines target).instruction (noted target lt)) (λ e. subst (AllNoted W head lines) (sym e) tt) f

  opener_known : (target : ℕ) → (target < length rows) ⊎ (reopened target (at lines target).instruction ≡ [])
  opener_known target =
      ⊎_elim inl
      (λ past. let l = ok.long in let k : length lines ≤ target = omega arith in inr (ap (λ (x : Line). reopened target x.instruction) (get_or_past lines target past_end k)))
      (cases_lt target (length rows))

  -- ---- the rows that a row reads
  resume_under : (i : ℕ) (u : Turn) → i < length rows → (at lines i).instruction ≡ Control u → AllUnder (length rows) (resume_reads i u)
  resume_under i (control.If a b) lt e = tt
  resume_under i (control.Else b) lt e = tt
  resume_under i (control.Loop b) lt e = tt
  resume_under i (control.Each a b) lt e = (lt, near_under lines i (length rows) lt (a ∷ []) (taken_as i (Control (control.Each a b)) lt e))
  resume_under i (control.Test a) lt e = tt
  resume_under i control.Break lt e = tt
  resume_under i control.Continue lt e = tt
  resume_under i (control.End b) lt e = tt

  reopen_under : (i : ℕ) (x : Instruction) → i < length rows → (at lines i).instruction ≡ x → AllUnder (length rows) (reopen_reads i x)
  reopen_under i (Expression y) lt e = tt
  reopen_under i (Change c) lt e = tt
  reopen_under i (Control u) lt e = resume_under i u lt e

  reads_under : (p : ℕ) (x : Instruction) → p < length rows → (at lines p).instruction ≡ x → AllUnder (length rows) (reads lines (at lines p).target x)
  reads_under p (Expression (make.Literal k n)) lt e = tt
  reads_under p (Expression (make.Empty k)) lt e = tt
  reads_under p (Expression (make.Variable v)) lt e =
      ⊎_elim (λ seen. let under = seen.before in (omega arith, tt)) (λ around. let under = around.around.before in (omega arith, tt)) (sheet.read p v (among p lt) e)
  reads_under p (Expression (make.Prefix o a)) lt e = near_under lines p (length rows) lt (a ∷ []) (taken_as p (Expression (make.Prefix o a)) lt e)
  reads_under p (Expression (make.Infix o a b)) lt e = near_under lines p (length rows) lt (a ∷ b ∷ []) (taken_as p (Expression (make.Infix o a b)) lt e)
  reads_under p (Expression (make.Interval a b)) lt e = near_under lines p (length rows) lt (a ∷ b ∷ []) (taken_as p (Expression (make.Interval a b)) lt e)
  reads_under p (Expression (make.Stack a b)) lt e = near_under lines p (length rows) lt (a ∷ b ∷ []) (taken_as p (Expression (make.Stack a b)) lt e)
  reads_under p (Expression (make.Pick a b)) lt e = near_under lines p (length rows) lt (a ∷ b ∷ []) (taken_as p (Expression (make.Pick a b)) lt e)
  reads_under p (Expression (make.PickTwo a b c)) lt e = near_under lines p (length rows) lt (a ∷ b ∷ c ∷ []) (taken_as p (Expression (make.PickTwo a b c)) lt e)
  reads_under p (Expression (make.Measure m a)) lt e = near_under lines p (length rows) lt (a ∷ []) (taken_as p (Expression (make.Measure m a)) lt e)
  reads_under p (Expression (make.Cast k a)) lt e = near_under lines p (length rows) lt (a ∷ []) (taken_as p (Expression (make.Cast k a)) lt e)
  reads_under p (Expression (make.Resize a r s)) lt e = near_under lines p (length rows) lt (a ∷ []) (taken_as p (Expression (make.Resize a r s)) lt e)
  reads_under p (Expression make.State) lt e = tt
  reads_under p (Change (change.Declare t None)) lt e = tt
  reads_under p (Change (change.Declare t (Some a))) lt e = near_under lines p (length rows) lt (a ∷ []) (taken_as p (Change (change.Declare t (Some a))) lt e)
  reads_under p (Change (change.Assign i a)) lt e = let under = (sheet.assigned p i a (among p lt) e).before in (omega arith, near_under lines p (length rows) lt (a ∷ []) (taken_as p (Change (change.Assign i a)) lt e))
  reads_under p (Change (change.Store i b c)) lt e = let under = (sheet.stored p i b c (among p lt) e).before in (omega arith, near_under lines p (length rows) lt (b ∷ c ∷ []) (taken_as p (Change (change.Store i b c)) lt e))
  reads_under p (Change (change.StoreTwo i b c d)) lt e = let under = (sheet.stored_two p i b c d (among p lt) e).before in (omega arith, near_under lines p (length rows) lt (b ∷ c ∷ d ∷ []) (taken_as p (Change (change.StoreTwo i b c d)) lt e))
  reads_under p (Change (change.Print a)) lt e = near_under lines p (length rows) lt (a ∷ []) (taken_as p (Change (change.Print a)) lt e)
  reads_under p (Change (change.Read i)) lt e = let under = (sheet.filled p i (among p lt) e).before in (omega arith, tt)
  reads_under p (Change (change.Return a)) lt e = near_under lines p (length rows) lt (a ∷ []) (taken_as p (Change (change.Return a)) lt e)
  reads_under p (Control (control.If a b)) lt e = near_under lines p (length rows) lt (a ∷ []) (taken_as p (Control (control.If a b)) lt e)
  reads_under p (Control (control.Else b)) lt e = tt
  reads_under p (Control (control.Loop b)) lt e = tt
  reads_under p (Control (control.Each a b)) lt e = near_under lines p (length rows) lt (a ∷ []) (taken_as p (Control (control.Each a b)) lt e)
  reads_under p (Control (control.Test a)) lt e = near_under lines p (length rows) lt (a ∷ []) (taken_as p (Control (control.Test a)) lt e)
  reads_under p (Control control.Break) lt e = tt
  reads_under p (Control control.Continue) lt e =
      let under = (sheet.resumed p (among p lt) e).around.before in
      reopen_under (at lines p).target (at lines (at lines p).target).instruction (omega arith) refl
  reads_under p (Control (control.End b)) lt e =
      let closed = sheet.ended p b (among p lt) e in
      let under = closed.1 in
      let same = closed.3 in
      reopen_under (at lines p).target (at lines (at lines p).target).instruction (omega arith) refl

pub accepted_safe : AcceptedSafe
accepted_safe W line head rows lines s p a t ok roomy inside ready act =
    let x = (at lines p).instruction in
    let target = (at lines p).target in
    rows_safe W line head lines (length rows) s p a t roomy inside (reads_under W head rows lines ok p x inside refl) ready
    (noted W head rows lines ok p inside, advanced_noted W head rows lines ok target x (opener_known W head rows lines ok target)) (written_fits_by W head rows lines ok p inside) act
