-- What check shows of a whole sheet.
use Rattle.std.proofs.Common.{◌≡◌, ℕ, zero, suc, ◌+◌, ◌<◌, Bool, true, false, not, ◌&&◌, ◌||◌, eqb, ltb, ◌⊎◌, List, [], ◌∷◌, length, get_or, take, is_some, Some, None, Ok, Option, sym, refl, ap, ◌∙◌, subst, inl, inr, ⊎_elim, arith}
use Rattle.std.proofs.lemmas.Bool.{and_parts, and_from, or_cases, lt-ltb, ltb-true, eqb-true, eq-eqb, or_left}
use Rattle.sheet.specs.declared.row.Row.{Row}
use Rattle.types.specs.declared.typing.Typing.{Typing}
use Rattle.checker.specs.declared.line.Line.{Line}
use Rattle.instruction.specs.declared.instructions.Expression.{Expression as Make}
use Rattle.instruction.specs.declared.instructions.Expression.TheVariants as make
use Rattle.instruction.specs.declared.instructions.Change.{Change as Changes}
use Rattle.instruction.specs.declared.instructions.Change.TheVariants as change
use Rattle.instruction.specs.declared.instructions.Control.TheVariants as control
use Rattle.instruction.specs.declared.instructions.Instruction.{Instruction}
use Rattle.instruction.specs.declared.instructions.Instruction.TheVariants.{Expression, Change, Control}
use Rattle.rules.specs.Rules.{typed}
use Rattle.checker.specs.Blocks.{at, typing_of, typing_at, makes, operands, all, below, near, blocks, member, opener, closer, closes_block, nests, loop_among, row_of, declares, still_in, in_scope, in_each, ranges, make_scoped, change_scoped, scoped, target_of, returns, finishes}
use Rattle.instruction.specs.Forms.{form}
use Rattle.checker.specs.Judge.{no_row, Accepted}
use Rattle.checker.specs.Structure.{says, partner, Visible, Ranging, Looping, Structured}
use Rattle.checker.proofs.Near.{near_tells}
use Rattle.checker.proofs.Passes.{Passed}
use Rattle.checker.proofs.Typings.{make_names, change_names, names, typed_same}
use Rattle.checker.proofs.Intervals as blocked
use Rattle.checker.proofs.Intervals.{falling_member, blocks_falling, blocks_open, Falling}

below_same : (f g : ℕ → Bool) (p : ℕ) → ((i : ℕ) → i < p → f i ≡ g i) → below f p ≡ below g p
below_same f g zero h = refl
below_same f g (suc p) h =
    let here = h p (omega arith) in
    let rest = below_same f g p (λ i lt. h i (omega arith)) in
    λ i. here i && rest i

before : (ls : List Line) (p : ℕ) (cs : List ℕ) (v : ℕ) → in_scope ls p cs v ≡ true → (ltb v p && true) ≡ true
before ls p cs v h = and_from (ltb v p) true (and_parts (ltb v p) (declares (at ls v).instruction && still_in (at ls v).block cs) h).0 refl

make_before : (ls : List Line) (p : ℕ) (cs : List ℕ) → Falling p cs → (e : Make) → make_scoped ls p cs e ≡ true → all (λ v. ltb v p) (make_names e) ≡ true
make_before ls p cs f (make.Literal k n) h = refl
make_before ls p cs f (make.Empty k) h = refl
make_before ls p cs f (make.Variable v) h =
    ⊎_elim (λ s. before ls p cs v s)
    (λ e. and_from (ltb v p) true (lt-ltb v p (falling_member p v cs f (and_parts (ranges (at ls v).instruction) (member v cs) e).1)) refl)
    (or_cases (in_scope ls p cs v) (in_each ls cs v) h)
make_before ls p cs f (make.Prefix o a) h = refl
make_before ls p cs f (make.Infix o a b) h = refl
make_before ls p cs f (make.Interval a b) h = refl
make_before ls p cs f (make.Stack a b) h = refl
make_before ls p cs f (make.Pick a b) h = refl
make_before ls p cs f (make.PickTwo a b c) h = refl
make_before ls p cs f (make.Measure m a) h = refl
make_before ls p cs f (make.Cast k a) h = refl
make_before ls p cs f (make.Resize a r s) h = refl
make_before ls p cs f make.State h = refl

change_before : (ls : List Line) (p : ℕ) (cs : List ℕ) (s : Changes) → change_scoped ls p cs s ≡ true → all (λ v. ltb v p) (change_names s) ≡ true
change_before ls p cs (change.Declare t v) h = refl
change_before ls p cs (change.Assign v a) h = before ls p cs v h
change_before ls p cs (change.Store v b c) h = before ls p cs v h
change_before ls p cs (change.StoreTwo v b c d) h = before ls p cs v h
change_before ls p cs (change.Print a) h = refl
change_before ls p cs (change.Read v) h = before ls p cs v h
change_before ls p cs (change.Return a) h = refl

names_before : (ls : List Line) (p : ℕ) (cs : List ℕ) → Falling p cs → (i : Instruction) → scoped ls p cs i ≡ true → all (λ v. ltb v p) (names i) ≡ true
names_before ls p cs f (Expression e) h = make_before ls p cs f e h
names_before ls p cs f (Change s) h = change_before ls p cs s h
names_before ls p cs f (Control t) h = refl

some_of : (o : Option ℕ) → is_some o ≡ true → (b : ℕ) × (o ≡ Some b)
some_of None h = cc
some_of (Some b) h = (b, refl)

closed_by : (ls : List Line) (p b : ℕ) (cs : List ℕ) → closes_block ls p b cs ≡ true → (member b cs ≡ true) × (closer (at ls b).instruction ≡ p)
closed_by ls p b [] h = cc
closed_by ls p b (c ∷ cs) h =
    let both = and_parts (eqb b c) (eqb (closer (at ls c).instruction) p) h in
    let same = eqb-true b c both.0 in
    (or_left (eqb b c) (member b cs) both.0, ap (λ (x : ℕ). closer (at ls x).instruction) same ∙ eqb-true (closer (at ls c).instruction) p both.1)

last_finishes : (ls : List Line) (p : ℕ) (cs : List ℕ) (last : Bool) (i : Instruction) → last ≡ true → nests ls p cs last i ≡ true → finishes i ≡ true
last_finishes ls p cs true (Expression e) l k = cc
last_finishes ls p cs true (Change s) l k = (and_parts (returns s) (eqb (length cs) 0) k).0
last_finishes ls p cs true (Control t) l k = cc
last_finishes ls p cs false (Expression e) l k = cc
last_finishes ls p cs false (Change s) l k = cc
last_finishes ls p cs false (Control t) l k = cc

module _ (w : ℕ) (result : Typing) (rows : List Row) (lines : List Line) (ok : Accepted w result rows lines) where
  abbrev upto : ℕ → List Line
  upto p = take p lines

  abbrev held : ℕ → List ℕ
  held p = blocks (take p lines) p

  lower : (p : ℕ) → p < length lines → p < length rows
  lower p lt = let l = ok.long in omega arith

  near_front : (p a : ℕ) → near (upto p) p a ≡ near lines p a
  near_front p a =
      let e = below_same (λ i. ltb i a || makes (at (upto p) i).instruction) (λ i. ltb i a || makes (at lines i).instruction) p (λ j lt. ap (λ (x : Line). ltb j a || makes x.instruction) (blocked.front w result rows lines ok p j lt)) in
      λ i. ltb a p && e i

  passed : (p : ℕ) → (lt : p < length lines) → Passed w result (eqb (p + 1) (length rows)) (upto p) p (near (upto p) p) (held p) (form (get_or rows p no_row)) (at lines p)
  passed p lt = blocked.passed w result rows lines ok p (lower p lt)

  taken : (p : ℕ) → p < length lines → all (near lines p) (operands (says lines p)) ≡ true
  taken p lt = let e = near_front p in sym (λ i. all (λ a. e a i) (operands (says lines p))) ∙ (passed p lt).near_operands

  noted_front : (p a : ℕ) → a < p → typing_at (upto p) a ≡ typing_at lines a
  noted_front p a lt = ap (λ (x : Line). typing_of x.typing) (blocked.front w result rows lines ok p a lt)

  typing : (p : ℕ) → p < length lines → typed w result (typing_at lines) (says lines p) ≡ Ok (at lines p).typing
  typing p lt =
      sym (typed_same w result (typing_at (upto p)) (typing_at lines) (near (upto p) p) (λ v. ltb v p)
      (λ a h. noted_front p a (near_tells (upto p) p a h).0) (λ v h. noted_front p v (ltb-true v p h)) (says lines p)
      (passed p lt).near_operands (names_before (upto p) p (held p) (blocks_falling (upto p) p) (says lines p) (passed p lt).in_scope))
      ∙ (passed p lt).typing

  visible : (p v : ℕ) → p < length lines → in_scope (upto p) p (held p) v ≡ true → Visible lines v p
  visible p v lt h =
      let s = blocked.scope_holds w result rows lines ok v p (lower p lt) h in
      let vp = s.before in
      record { before = vp; declared = s.declared; around = λ c o k. let cv = k.before in record { before = omega arith; upto = s.holds c cv o k.upto } }

  scoped_as : (p : ℕ) (i : Instruction) → p < length lines → says lines p ≡ i → scoped (upto p) p (held p) i ≡ true
  scoped_as p i lt e = subst (λ (x : Instruction). scoped (upto p) p (held p) x ≡ true) e (passed p lt).in_scope

  nests_as : (p : ℕ) (i : Instruction) → p < length lines → says lines p ≡ i → nests (upto p) p (held p) (eqb (p + 1) (length rows)) i ≡ true
  nests_as p i lt e = subst (λ (x : Instruction). nests (upto p) p (held p) (eqb (p + 1) (length rows)) x ≡ true) e (passed p lt).nested

  leads_as : (p : ℕ) (i : Instruction) → p < length lines → says lines p ≡ i → (at lines p).target ≡ target_of (upto p) (held p) i
  leads_as p i lt e = (passed p lt).leads ∙ ap (target_of (upto p) (held p)) e

  read : (p v : ℕ) → p < length lines → says lines p ≡ Expression (make.Variable v) → Visible lines v p ⊎ Ranging lines v p
  read p v lt e =
      ⊎_elim (λ s. inl (visible p v lt s))
      (λ s. let r = blocked.each_holds w result rows lines ok v p (lower p lt) s in inr (record { ranging = r.1; around = record { before = r.0.before; upto = r.0.upto } }))
      (or_cases (in_scope (upto p) p (held p) v) (in_each (upto p) (held p) v) (scoped_as p (Expression (make.Variable v)) lt e))

  looping : (p b : ℕ) → p < length lines → loop_among (upto p) (held p) ≡ Some b → Looping lines b p
  looping p b lt h = let r = blocked.loop_holds w result rows lines ok b p (lower p lt) h in record { looping = r.1; around = record { before = r.0.before; upto = r.0.upto } }

  loop_of : (p : ℕ) → p < length lines → is_some (loop_among (upto p) (held p)) ≡ true → (at lines p).target ≡ closer (at (upto p) (row_of (loop_among (upto p) (held p)))).instruction → (b : ℕ) × Looping lines b p × ((at lines p).target ≡ partner lines b)
  loop_of p lt some leads =
      let s = some_of (loop_among (upto p) (held p)) some in
      let b = s.0 in
      let loop = looping p b lt s.1 in
      (b, loop, leads ∙ ap (λ (o : Option ℕ). closer (at (upto p) (row_of o)).instruction) s.1 ∙ ap (λ (x : Line). closer x.instruction) (blocked.front w result rows lines ok p b loop.around.before))

  pub structured : Structured lines w result
  structured = record {
    typing = λ p lt. typing p lt;
    taken = taken;
    read = read;
    assigned = λ p v a lt e. visible p v lt (scoped_as p (Change (change.Assign v a)) lt e);
    stored = λ p v b c lt e. visible p v lt (scoped_as p (Change (change.Store v b c)) lt e);
    stored_two = λ p v b c d lt e. visible p v lt (scoped_as p (Change (change.StoreTwo v b c d)) lt e);
    filled = λ p v lt e. visible p v lt (scoped_as p (Change (change.Read v)) lt e);
    later = λ b lt o. blocked.later w result rows lines ok b (lower b lt) o;
    inside = λ b lt o. let n = blocked.open_next w result rows lines ok b (lower b lt) o in let l = ok.long in let s = n.0 in let k = (blocked.closes w result rows lines ok (suc b) b (omega arith) n.1).inside in omega arith;
    shut = λ b lt o. blocked.shut w result rows lines ok b (lower b lt) o;
    nest = λ c b lt oc ob cb inside. blocked.nest w result rows lines ok c b cb (lower b lt) oc ob inside;
    tested = λ p a lt e. loop_of p lt (and_parts (not (eqb (p + 1) (length rows))) (is_some (loop_among (upto p) (held p))) (nests_as p (Control (control.Test a)) lt e)).1 (leads_as p (Control (control.Test a)) lt e);
    left = λ p lt e. loop_of p lt (and_parts (not (eqb (p + 1) (length rows))) (is_some (loop_among (upto p) (held p))) (nests_as p (Control control.Break) lt e)).1 (leads_as p (Control control.Break) lt e);
    resumed = λ p lt e.
        let s = some_of (loop_among (upto p) (held p)) (and_parts (not (eqb (p + 1) (length rows))) (is_some (loop_among (upto p) (held p))) (nests_as p (Control control.Continue) lt e)).1 in
        let t = leads_as p (Control control.Continue) lt e ∙ ap row_of s.1 in
        subst (λ (b : ℕ). Looping lines b p) (sym t) (looping p s.0 lt s.1);
    ended = λ p b lt e.
        let k = closed_by (upto p) p b (held p) (and_parts (not (eqb (p + 1) (length rows))) (closes_block (upto p) p b (held p)) (nests_as p (Control (control.End b)) lt e)).1 in
        let bp = falling_member p b (held p) (blocks_falling (upto p) p) k.0 in
        let same = blocked.front w result rows lines ok p b bp in (
          ap (λ (x : Line). opener x.instruction) (sym same) ∙ blocks_open (upto p) b p k.0,
          bp,
          ap (λ (x : Line). closer x.instruction) (sym same) ∙ k.1,
          leads_as p (Control (control.End b)) lt e,
        );
    final = λ p e. let l = ok.long in last_finishes (upto p) p (held p) (eqb (p + 1) (length rows)) (says lines p) (eq-eqb (p + 1) (length rows) (omega arith)) (passed p (omega arith)).nested;
  }
