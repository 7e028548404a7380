-- Progress and preservation: one lemma an effect, then what each row does with an outcome, then every row.
use Rattle.std.proofs.Common.{◌≡◌, ℕ, suc, ◌+◌, ◌-◌, ◌*◌, ◌<◌, ◌≤◌, Bool, true, false, cond, ◌&&◌, ◌||◌, ltb, leb, ◌⊎◌, List, [], ◌∷◌, length, drop, Some, Ok, Err, Option, sym, refl, ap, ◌∙◌, subst, inl, inr, arith, None}
use Rattle.std.proofs.lemmas.List.{length-set}
use Rattle.std.proofs.lemmas.Bool.{and_parts, leb-true, leb-false, cond-true, cond_both}
use Rattle.types.specs.declared.kinds.Kind.{Kind}
use Rattle.types.specs.declared.kinds.Kind.TheVariants.{Boolean, Character, Integer}
use Rattle.types.specs.declared.kinds.Shape.TheVariants.{Scalar, Vector, Interval}
use Rattle.types.specs.declared.typing.Typing.{Typing}
use Rattle.types.specs.Types.{same_shape, agree}
use Rattle.types.specs.Typings.{scalar, is, of, flat, alone, matches}
use Rattle.source.specs.Taking.{gone}
use Rattle.source.specs.Waiting.{behind}
use Rattle.source.specs.Words.{rest}
use Rattle.source.proofs.Cuts.{from_front}
use Rattle.fault.specs.declared.causes.Cause.{Cause}
use Rattle.fault.specs.declared.causes.Cause.TheVariants.{SizesDiffer, Disordered, NoRule}
use Rattle.instruction.specs.declared.instructions.Change.{Change as Changes}
use Rattle.instruction.specs.declared.instructions.Change.TheVariants as change
use Rattle.instruction.specs.declared.instructions.Control.{Control as Turn}
use Rattle.instruction.specs.declared.instructions.Control.TheVariants as control
use Rattle.instruction.specs.declared.instructions.Instruction.{Instruction}
use Rattle.instruction.specs.declared.instructions.Instruction.TheVariants.{Expression, Change, Control}
use Rattle.rules.specs.declared.refusal.Refusal.TheVariants.{Unfit, Sizes}
use Rattle.rules.specs.Rules.{unless, nothing, value as judged_as, start_rule, change_rule, return_rule, each_rule, condition_rule, turn_rule, typed}
use Rattle.checker.specs.declared.line.Line.{Line}
use Rattle.checker.specs.Blocks.{at, typing_of, typing_at}
use Rattle.checker.proofs.Passes.{unless_ok}
use Rattle.meaning.specs.declared.after.After.TheVariants.{Row, Return, Wait}
use Rattle.meaning.specs.declared.layouts.Layout.{Layout}
use Rattle.meaning.specs.Values.{scalar_of, fixed, within, lawful, Value, value_of, exactly, truth}
use Rattle.meaning.specs.Plans.{Outcome, gives, faults, outcome, with}
use Rattle.meaning.specs.Expressions.{in_order, count, by1, by2, by3, evaluated}
use Rattle.meaning.specs.Changes.{nulls, declared, assigned, stored_at, stored_at_two}
use Rattle.meaning.specs.Texts.{text}
use Rattle.meaning.specs.Reading.{reading, unread}
use Rattle.meaning.specs.States.{State, table_of, slip_at, layout_at, value_at, taking, refilled, blanked, printing, placed_in, blank_slip}
use Rattle.meaning.specs.Acts.{Answer, Step, step, goes, Turned, takes, over, fails, turned, element_at, fault_of, stops, stuck, onward, Failed as Faulted, Evaluates, declares, refills, begins, writes, prints, reads_into, reads as reads_of, returns, changes, branches, advances, again, resumes, reopens, turns, Acts}
use Rattle.laws.specs.Fitting.{Fits, Held, Ready, AllReady}
use Rattle.laws.specs.Reads.{reads, make_reads, start_reads, change_reads, resume_reads, reopen_reads, turn_reads, AllUnder}
use Rattle.laws.specs.Laws.{Whole, Roomy, WholeAt, AllWhole}
use Rattle.laws.specs.Keeps.{Made, Failed, Ended, Passed, Printed, Awaits, Filled, Returned, Makes, Branches, Advances, ChangeLeaves, ResumeLeaves, ReopenLeaves, TurnLeaves, Leaves, AllNoted, resumed, reopened, turn_advances, advanced, change_writes, written_fits, RowsSafe}
use Rattle.meaning.proofs.Rows.{kinds_equal}
use Rattle.laws.proofs.Layouts.{shape_same, scalar_same, scalar_lawful}
use Rattle.laws.proofs.Sizes.{agree_fits}
use Rattle.laws.proofs.Tables.{effects, found, under_all, lawful_area, table_length, valued_some, layout_kind}
use Rattle.laws.proofs.Wholes.{wholes, layout_of}
use Rattle.laws.proofs.Guards.{Calm, Safe}
use Rattle.laws.proofs.Keeping.{note_of, as_noted, Writes, expression_safe, nulls_safe, declare_safe, assign_safe, store_safe, store_two_safe}

with_some : (o : Option Value) (f : Value → Outcome) (v : Value) → o ≡ Some v → with o f ≡ f v
with_some o f v e = ap (λ (p : Option Value). with p f) e

-- ---- what an each takes
abbrev TurnSafe : ℕ → Typing → Turned → Type 0
TurnSafe W n (takes v) = Held W n v
TurnSafe W n over = Unit {0}
TurnSafe W n (fails c) = Calm c

each_safe : (W n : ℕ) (v : Value) (k : Typing) (m : Option Typing) → Held W k v → each_rule k ≡ Ok m → TurnSafe W (typing_of m) (turned (Some v) n)
each_safe W n v k m held h =
    as_noted W k v (λ (t : Typing). each_rule t ≡ Ok m → TurnSafe W (typing_of m) (turned (Some v) n)) held (λ R S o g.
    let listed = is Vector (exactly v) || is Interval (exactly v) in
    let note = scalar v.layout.kind in
    let both = unless_ok listed Unfit (judged_as note) m g in
    let same : Some note ≡ m = let e = both.1 in cc in
    let more = cond (ltb n (count v)) (takes (element_at v n)) over in
    let inner = cond (in_order v) more (fails Disordered) in
    subst (λ (x : Option Typing). TurnSafe W (typing_of x) (turned (Some v) n)) same
    (subst (TurnSafe W note) (sym (cond-true listed inner (fails NoRule) both.0))
    (cond_both (in_order v) more (fails Disordered) (TurnSafe W note)
    (λ _. cond_both (ltb n (count v)) (takes (element_at v n)) over (TurnSafe W note)
    (λ _. record { exists = scalar_lawful W v.layout v.layout.kind held.exists both.0; fits = record { kind = refl; shape = refl; r = refl; s = refl } })
    (λ _. tt))
    (λ _. omega arith)))) h

turned_whole : (v : Value) (n : ℕ) (x : Value) → turned (Some v) n ≡ takes x → Whole x
turned_whole v n x h = by (is Vector (exactly v) || is Interval (exactly v)) (in_order v) (ltb n (count v)) h
  where
    by : (a b c : Bool) → cond a (cond b (cond c (takes (element_at v n)) over) (fails Disordered)) (fails NoRule) ≡ takes x → Whole x
    by true true true h = let same : element_at v n ≡ x = cc in subst Whole same refl
    by true true false h = cc
    by true false c h = cc
    by false b c h = cc

-- ---- what a read leaves in the source
behind_front : (xs : List ℕ) → behind xs ≡ drop (gone xs (behind xs)) xs
behind_front [] = refl
behind_front (x ∷ xs) = let e : suc (length xs) - length xs ≡ 1 = omega arith in sym (ap (λ (k : ℕ). drop k (x ∷ xs)) e)

unread_front : (k : Kind) (xs : List ℕ) → unread k xs ≡ drop (gone xs (unread k xs)) xs
unread_front Boolean xs = from_front xs (rest xs) refl
unread_front Character xs = behind_front xs
unread_front Integer xs = from_front xs (rest xs) refl

module _ (W rows : ℕ) (notes : ℕ → Typing) (p line : ℕ) (s : State) (roomy : Roomy W rows s) (inside : p < rows) where
  -- the outcomes of a row, of its step
  abbrev StepMakes : ℕ → Step → Type 0
  StepMakes i x = Makes W rows notes p line s x.answer x.state i

  abbrev StepAdvances : ℕ → ℕ → Step → Type 0
  StepAdvances i e x = Advances W rows notes p line s x.answer x.state i e

  -- ---- one lemma an effect
  placed_room : (i : ℕ) (v : Value) → i < rows → lawful W v.layout ≡ true → Whole v → (k : Kind) → rows * W ≤ length (table_of k (placed_in W s.tables i v))
  placed_room i v under law whole k =
      let few = lawful_area W v.layout law in
      let all = under_all W i rows under in
      let here = roomy.cells v.layout.kind in
      let there = roomy.cells k in
      let same = table_length k v.layout.kind s.tables (i * W) v.elements (omega arith) in
      omega arith

  taking_made : (i : ℕ) (v : Value) (position q : ℕ) → i < rows → Held W (notes i) v → Whole v → Made W rows notes p line s (Ok (Row q)) (taking W s i v position) i q
  taking_made i v position q under held whole =
      let stands = effects.takes W rows s i v position roomy under held.exists whole in
      record {
        next = refl;
        own = (v, stands.own, held);
        others = stands.others;
        room = record { slips = (let fit = roomy.slips in simp length-set (omega arith)); cells = placed_room i v under held.exists whole };
        beside = record { waiting = refl; taken = refl; stream = refl; output = refl; printed = refl };
      }

  refilled_made : (i : ℕ) (a v : Value) (q : ℕ) → i < rows → value_at W s i ≡ Some a → v.layout ≡ a.layout → Held W (notes i) v → Whole v → Made W rows notes p line s (Ok (Row q)) (refilled W s i v) i q
  refilled_made i a v q under is same held whole =
      let stands = effects.refills W rows s i a v roomy under is same whole in
      record {
        next = refl;
        own = (v, stands.own, held);
        others = stands.others;
        room = record { slips = roomy.slips; cells = placed_room i v under held.exists whole };
        beside = record { waiting = refl; taken = refl; stream = refl; output = refl; printed = refl };
      }

  stopped_failed : (c : Cause) (element : ℕ) → Calm c → Failed W rows notes p line s (Err (fault_of W p line s c element)) s
  stopped_failed c element calm = record {
    fault = fault_of W p line s c element;
    answer = refl;
    of_row = refl;
    of_line = refl;
    low = calm.0;
    high = calm.1;
    others = λ j _. refl;
    room = roomy;
    beside = record { waiting = refl; taken = refl; stream = refl; output = refl; printed = refl };
  }

  blanked_ended : (i e : ℕ) → i < rows → Ended W rows notes p line s (Ok (Row (e + 1))) (blanked s i) i e
  blanked_ended i e under =
      let stands = effects.blanks W rows s i roomy under in
      record {
        next = refl;
        own = stands.own;
        others = stands.others;
        room = record { slips = (let fit = roomy.slips in simp length-set (omega arith)); cells = roomy.cells };
        beside = record { waiting = refl; taken = refl; stream = refl; output = refl; printed = refl };
      }

  faulted_failed : (c : Cause) (element : ℕ) (a : Answer) (t : State) → Calm c → Faulted W p line s c element a t → Failed W rows notes p line s a t
  faulted_failed c element a t calm h =
      let same = h.rest in
      let stands = effects.faults W rows s t p roomy inside same h.free in
      record {
        fault = fault_of W p line s c element;
        answer = h.answer;
        of_row = refl;
        of_line = refl;
        low = calm.0;
        high = calm.1;
        others = stands.others;
        room = record {
          slips = (let e : length t.slips ≡ length s.slips = ap (λ (u : State). length u.slips) same ∙ length-set s.slips p blank_slip in let fit = roomy.slips in omega arith);
          cells = λ k. (let e = (h.free k).long in let fit = roomy.cells k in omega arith);
        };
        beside = record {
          waiting = ap (λ (u : State). u.waiting) same;
          taken = ap (λ (u : State). u.taken) same;
          stream = ap (λ (u : State). u.stream) same;
          output = ap (λ (u : State). u.output) same;
          printed = ap (λ (u : State). u.printed) same;
        };
      }

  -- ---- rows, by what they do with an outcome
  evaluates_kept : (o : Outcome) (a : Answer) (t : State) → ((v : Value) → o ≡ gives v → Whole v) → Safe W (notes p) o → Evaluates W p line s o a t → Makes W rows notes p line s a t p
  evaluates_kept (gives v) a t whole safe h = subst (StepMakes p) (sym h) (inl (taking_made p v 0 (p + 1) inside safe (whole v refl)))
  evaluates_kept (faults c element) a t whole safe h = inr (faulted_failed c element a t safe h)

  declares_kept : (o : Outcome) → ((v : Value) → o ≡ gives v → Whole v) → Safe W (notes p) o → StepMakes p (declares W p line s o)
  declares_kept (gives v) whole safe = inl (taking_made p v 0 (p + 1) inside safe (whole v refl))
  declares_kept (faults c element) whole safe = inr (stopped_failed c element safe)

  refills_kept : (i : ℕ) (a : Value) (o : Outcome) → i < rows → value_at W s i ≡ Some a → ((v : Value) → o ≡ gives v → (v.layout ≡ a.layout) × Whole v) → Safe W (notes i) o → StepMakes i (refills W p line s i o)
  refills_kept i a (gives v) under is told safe = let both = told v refl in inl (refilled_made i a v (p + 1) under is both.0 safe both.1)
  refills_kept i a (faults c element) under is told safe = inr (stopped_failed c element safe)

  advances_kept : (i e n : ℕ) (r : Turned) → i < rows → ((v : Value) → r ≡ takes v → Whole v) → TurnSafe W (notes i) r → StepAdvances i e (advances W p line s i e n r)
  advances_kept i e n (takes v) under whole safe = inl (taking_made i v n (i + 1) under safe (whole v refl))
  advances_kept i e n over under whole safe = inr (inr (blanked_ended i e under))
  advances_kept i e n (fails c) under whole safe = inr (inl (stopped_failed c 0 safe))

  -- ---- operands are whole
  found_at : (i : ℕ) → i < rows → WholeAt W (value_at W s) i
  found_at i under v e = found W rows s roomy i v under e

  found_all : (is : List ℕ) → AllUnder rows is → AllWhole W (value_at W s) is
  found_all [] h = tt
  found_all (i ∷ is) h = (found_at i h.0, found_all is h.1)

  -- ---- conditions, print, read, return
  passes : (q : ℕ) → Passed W rows notes p line s (Ok (Row q)) s q
  passes q = record { next = refl; same = refl }

  branches_kept : (i q : ℕ) (m : Option Typing) → Ready W notes (value_at W s) i → condition_rule (notes i) ≡ Ok m → (let x = branches W p line s (value_at W s i) q in Branches W rows notes p line s x.answer x.state q)
  branches_kept i q m ready h =
      let v = ready.0 in
      let to = goes s (q + 1) in
      let Goal : Step → Type 0 = λ x. Branches W rows notes p line s x.answer x.state q in
      subst (λ (o : Option Value). Goal (branches W p line s o q)) (sym ready.1)
      (as_noted W (notes i) v (λ (t : Typing). condition_rule t ≡ Ok m → Goal (branches W p line s (Some v) q)) ready.2 (λ R S o g.
      let on = onward W p line s s in
      let has = (unless_ok (alone Boolean (exactly v)) Unfit nothing m g).0 in
      subst Goal (sym (cond-true (alone Boolean (exactly v)) (cond (truth v) on to) (stuck W p line s) has))
      (cond_both (truth v) on to Goal (λ _. inl (passes (p + 1))) (λ _. inr (passes (q + 1))))) h)

  prints_kept : (i : ℕ) (m : Option Typing) → Ready W notes (value_at W s) i → unless (flat (notes i)) Unfit nothing ≡ Ok m → (let x = prints W p line s (value_at W s i) in Printed W rows notes p line s x.answer x.state i ⊎ Awaits W rows notes p line s x.answer x.state i)
  prints_kept i m ready h =
      let v = ready.0 in
      let bytes = text v in
      let Goal : Step → Type 0 = λ x. Printed W rows notes p line s x.answer x.state i ⊎ Awaits W rows notes p line s x.answer x.state i in
      subst (λ (o : Option Value). Goal (prints W p line s o)) (sym ready.1)
      (as_noted W (notes i) v (λ (t : Typing). unless (flat t) Unfit nothing ≡ Ok m → Goal (prints W p line s (Some v))) ready.2 (λ R S o g.
      let has = (unless_ok (flat (exactly v)) Unfit nothing m g).0 in
      let fit = leb (s.printed + length bytes) (length s.output) in
      subst Goal (sym (cond-true (flat (exactly v)) (writes W p line s bytes) (stuck W p line s) has))
      (cond_both fit (onward W p line s (printing s bytes)) (step (Ok Wait) s) Goal
      (λ yes. inl (record { value = v; holds = ready.1; space = leb-true (s.printed + length bytes) (length s.output) yes; next = refl; state = refl }))
      (λ no'. inr (record { value = v; holds = ready.1; full = leb-false (s.printed + length bytes) (length s.output) no'; answer = refl; same = refl })))) h)

  reads_kept : (i : ℕ) (m : Option Typing) → i < rows → Ready W notes (value_at W s) i → unless (is Scalar (notes i)) Unfit nothing ≡ Ok m → (let x = reads_of W p line s i (value_at W s i) in Filled W rows notes p line s x.answer x.state i)
  reads_kept i m under ready h =
      let v = ready.0 in
      let k = v.layout.kind in
      let got = reading k s.waiting in
      let left = unread k s.waiting in
      let Goal : Step → Type 0 = λ x. Filled W rows notes p line s x.answer x.state i in
      let gone-from : is Scalar (exactly v) ≡ true → Goal (reads_into W p line s i k got left) = λ has.
      let law = (and_parts (fixed v.layout) (within W v.layout.r v.layout.s) ready.2.exists).0 in
      let new = value_of (scalar_of k) (got.value ∷ []) in
      let same : scalar_of k ≡ v.layout = scalar_same k v.layout.shape v.layout.r v.layout.s law has in
      let exists : lawful W (scalar_of k) ≡ true = ap (lawful W) same ∙ ready.2.exists in
      let fits : Fits (notes i) (scalar_of k) = subst (λ (f : Layout). Fits (notes i) f) (sym same) ready.2.fits in
      let made = refilled_made i v new (p + 1) under ready.1 same (record { exists = exists; fits = fits }) refl in
      let room = made.room in
      record {
        next = refl;
        own = made.own;
        others = made.others;
        room = record { slips = room.slips; cells = room.cells };
        took = record { front = unread_front k s.waiting; count = refl };
        output = refl;
        printed = refl;
      } in
      subst (λ (o : Option Value). Goal (reads_of W p line s i o)) (sym ready.1)
      (as_noted W (notes i) v (λ (t : Typing). unless (is Scalar t) Unfit nothing ≡ Ok m → Goal (reads_of W p line s i (Some v))) ready.2 (λ R S o g.
      let has = (unless_ok (is Scalar (exactly v)) Unfit nothing m g).0 in
      subst Goal (sym (cond-true (is Scalar (exactly v)) (reads_into W p line s i k got left) (stuck W p line s) has)) (gone-from has)) h)

  returns_kept : (head : Typing) (i : ℕ) (m : Option Typing) → Ready W notes (value_at W s) i → return_rule head (notes i) ≡ Ok m → (let x = returns W p line s head (value_at W s i) in Returned W rows notes p line s x.answer x.state head i ⊎ Failed W rows notes p line s x.answer x.state)
  returns_kept head i m ready h =
      let v = ready.0 in
      let f = v.layout in
      let Goal : Step → Type 0 = λ x. Returned W rows notes p line s x.answer x.state head i ⊎ Failed W rows notes p line s x.answer x.state in
      subst (λ (o : Option Value). Goal (returns W p line s head o)) (sym ready.1)
      (as_noted W (notes i) v (λ (t : Typing). return_rule head t ≡ Ok m → Goal (returns W p line s head (Some v))) ready.2 (λ R S o g.
      let test = of head.kind (exactly v) && same_shape head.shape f.shape in
      let fit = matches head (exactly v) in
      let yes' = step (Ok Return) s in
      let no' = stops W p line s SizesDiffer 0 in
      let has = (unless_ok test Unfit (unless (matches head (note_of v R S)) Sizes nothing) m g).0 in
      let both = and_parts (of head.kind (exactly v)) (same_shape head.shape f.shape) has in
      subst Goal (sym (cond-true test (cond fit yes' no') (stuck W p line s) has))
      (cond_both fit yes' no' Goal
      (λ yes.
      let sizes = and_parts (agree head.r (Some f.r)) (agree head.s (Some f.s)) yes in
      inl (record {
        value = v;
        holds = ready.1;
        answer = refl;
        same = refl;
        fits = record {
          kind = sym (kinds_equal head.kind f.kind both.0);
          shape = sym (shape_same head.shape f.shape both.1);
          r = agree_fits head.r f.r sizes.0;
          s = agree_fits head.s f.s sizes.1;
        };
      }))
      (λ _. inr (stopped_failed SizesDiffer 0 (omega arith))))) h)

  -- ---- each: its first element, and its next
  each_kept : (i a e n : ℕ) (m : Option Typing) → i < rows → typing_of m ≡ notes i → Ready W notes (value_at W s) a → each_rule (notes a) ≡ Ok m → StepAdvances i e (advances W p line s i e n (turned (value_at W s a) n))
  each_kept i a e n m under same ready h =
      let v = ready.0 in
      subst (λ (o : Option Value). StepAdvances i e (advances W p line s i e n (turned o n))) (sym ready.1)
      (advances_kept i e n (turned (Some v) n) under (turned_whole v n) (subst (λ (k : Typing). TurnSafe W k (turned (Some v) n)) same (each_safe W n v (notes a) m ready.2 h)))

  again_kept : (i a e : ℕ) (m : Option Typing) → i < rows → typing_of m ≡ notes i → Ready W notes (value_at W s) i → Ready W notes (value_at W s) a → each_rule (notes a) ≡ Ok m → StepAdvances i e (again W p line s i a e (slip_at s.slips i).kind)
  again_kept i a e m under same own ready h =
      let slip = slip_at s.slips i in
      let told = (valued_some W i s.tables (layout_at W s.slips i) own.0 own.1).0 in
      let held = layout_kind W slip slip.kind own.0.layout told in
      subst (λ (o : Option Kind). StepAdvances i e (again W p line s i a e o)) (sym held.1) (each_kept i a e (slip.position + 1) m under same ready h)

-- ---- every row
module _ (W line : ℕ) (head : Typing) (lines : List Line) (rows : ℕ) (s : State) (p : ℕ) (roomy : Roomy W rows s) (inside : p < rows) where
  abbrev notes : ℕ → Typing
  notes = typing_at lines

  abbrev own : Option Typing
  own = (at lines p).typing

  abbrev Hand : List ℕ → Type 0
  Hand is = AllUnder rows is × AllReady W notes (value_at W s) is

  begins_kept : (w : Typing) (v : Option ℕ) → Writes w → Hand (start_reads v) → start_rule W head notes w v ≡ Ok own → StepMakes W rows notes p line s roomy inside p (begins W p line s w v)
  begins_kept w None law hand h = declares_kept W rows notes p line s roomy inside (outcome W (nulls w)) (λ v o. wholes.nulls W w v o) (nulls_safe W w own law h)
  begins_kept w (Some a) law hand h =
      let ra = hand.1.0 in
      let e = with_some (value_at W s a) (λ v. outcome W (declared w v)) ra.0 ra.1 in
      subst (λ (o : Outcome). StepMakes W rows notes p line s roomy inside p (declares W p line s o)) (sym e)
      (declares_kept W rows notes p line s roomy inside (outcome W (declared w ra.0)) (λ v o. wholes.declares W w ra.0 v o) (declare_safe W w ra.0 (notes a) own law ra.2 h))

  assigns_kept : (i a : ℕ) → Hand (i ∷ a ∷ []) → change_rule W head notes (change.Assign i a) ≡ Ok own → StepMakes W rows notes p line s roomy inside i (changes W p line s head (change.Assign i a))
  assigns_kept i a hand h =
      let ri = hand.1.0 in
      let ra = hand.1.1.0 in
      let u = ri.0 in
      let wi = found W rows s roomy i u hand.0.0 ri.1 in
      let wa = found W rows s roomy a ra.0 hand.0.1.0 ra.1 in
      let e = with_some (value_at W s i) (λ u. by1 W (value_at W s) a (assigned u)) u ri.1 ∙ with_some (value_at W s a) (λ v. outcome W (assigned u v)) ra.0 ra.1 in
      subst (λ (o : Outcome). StepMakes W rows notes p line s roomy inside i (refills W p line s i o)) (sym e)
      (refills_kept W rows notes p line s roomy inside i u (outcome W (assigned u ra.0)) hand.0.0 ri.1
      (λ v o. (layout_of W (assigned u ra.0) v o, wholes.assigns W u ra.0 v wi.0 wi.1 wa.0 wa.1 o))
      (assign_safe W u ra.0 (notes i) (notes a) own ri.2 ra.2 h))

  stores_kept : (i b c : ℕ) → Hand (i ∷ b ∷ c ∷ []) → change_rule W head notes (change.Store i b c) ≡ Ok own → StepMakes W rows notes p line s roomy inside i (changes W p line s head (change.Store i b c))
  stores_kept i b c hand h =
      let ri = hand.1.0 in
      let rb = hand.1.1.0 in
      let rc = hand.1.1.1.0 in
      let u = ri.0 in
      let wi = found W rows s roomy i u hand.0.0 ri.1 in
      let e = with_some (value_at W s i) (λ u. by2 W (value_at W s) b c (stored_at u)) u ri.1
      ∙ with_some (value_at W s b) (λ v. by1 W (value_at W s) c (stored_at u v)) rb.0 rb.1
      ∙ with_some (value_at W s c) (λ w. outcome W (stored_at u rb.0 w)) rc.0 rc.1 in
      subst (λ (o : Outcome). StepMakes W rows notes p line s roomy inside i (refills W p line s i o)) (sym e)
      (refills_kept W rows notes p line s roomy inside i u (outcome W (stored_at u rb.0 rc.0)) hand.0.0 ri.1
      (λ v o. (layout_of W (stored_at u rb.0 rc.0) v o, wholes.stores W u rb.0 rc.0 v wi.1 o))
      (store_safe W u rb.0 rc.0 (notes i) (notes b) (notes c) own ri.2 rb.2 rc.2 h))

  stores_two_kept : (i b c d : ℕ) → Hand (i ∷ b ∷ c ∷ d ∷ []) → change_rule W head notes (change.StoreTwo i b c d) ≡ Ok own → StepMakes W rows notes p line s roomy inside i (changes W p line s head (change.StoreTwo i b c d))
  stores_two_kept i b c d hand h =
      let ri = hand.1.0 in
      let rb = hand.1.1.0 in
      let rc = hand.1.1.1.0 in
      let rd = hand.1.1.1.1.0 in
      let u = ri.0 in
      let wi = found W rows s roomy i u hand.0.0 ri.1 in
      let e = with_some (value_at W s i) (λ u. by3 W (value_at W s) b c d (stored_at_two u)) u ri.1
      ∙ with_some (value_at W s b) (λ v. by2 W (value_at W s) c d (stored_at_two u v)) rb.0 rb.1
      ∙ with_some (value_at W s c) (λ w. by1 W (value_at W s) d (stored_at_two u rb.0 w)) rc.0 rc.1
      ∙ with_some (value_at W s d) (λ x. outcome W (stored_at_two u rb.0 rc.0 x)) rd.0 rd.1 in
      subst (λ (o : Outcome). StepMakes W rows notes p line s roomy inside i (refills W p line s i o)) (sym e)
      (refills_kept W rows notes p line s roomy inside i u (outcome W (stored_at_two u rb.0 rc.0 rd.0)) hand.0.0 ri.1
      (λ v o. (layout_of W (stored_at_two u rb.0 rc.0 rd.0) v o, wholes.stores_two_whole W u rb.0 rc.0 rd.0 v wi.1 o))
      (store_two_safe W u rb.0 rc.0 rd.0 (notes i) (notes b) (notes c) (notes d) own ri.2 rb.2 rc.2 rd.2 h))

  change_kept : (c : Changes) → change_writes c ≡ true → Hand (change_reads c) → change_rule W head notes c ≡ Ok own → (let x = changes W p line s head c in ChangeLeaves W rows notes p line s x.answer x.state head c)
  change_kept (change.Declare w v) law hand h = begins_kept w v law hand h
  change_kept (change.Assign i a) law hand h = assigns_kept i a hand h
  change_kept (change.Store i b c) law hand h = stores_kept i b c hand h
  change_kept (change.StoreTwo i b c d) law hand h = stores_two_kept i b c d hand h
  change_kept (change.Print a) law hand h = prints_kept W rows notes p line s roomy inside a own hand.1.0 h
  change_kept (change.Read i) law hand h = reads_kept W rows notes p line s roomy inside i own hand.0.0 hand.1.0 h
  change_kept (change.Return a) law hand h = returns_kept W rows notes p line s roomy inside head a own hand.1.0 h

  -- end and continue, by the opener
  resume_kept : (i : ℕ) (u : Turn) → (at lines i).instruction ≡ Control u → Hand (resume_reads i u) → AllNoted W head lines (resumed i u) → (let x = resumes W p line s i u in ResumeLeaves W rows notes p line s x.answer x.state i u)
  resume_kept i (control.If a b) e hand h = record { next = refl; same = refl }
  resume_kept i (control.Else b) e hand h = record { next = refl; same = refl }
  resume_kept i (control.Loop b) e hand h = record { next = refl; same = refl }
  resume_kept i (control.Each a b) e hand h =
      again_kept W rows notes p line s roomy inside i a b (at lines i).typing hand.0.0 refl hand.1.0 hand.1.1.0 (ap (typed W head notes) (sym e) ∙ h.0)
  resume_kept i (control.Test a) e hand h = record { next = refl; same = refl }
  resume_kept i control.Break e hand h = record { next = refl; same = refl }
  resume_kept i control.Continue e hand h = record { next = refl; same = refl }
  resume_kept i (control.End b) e hand h = record { next = refl; same = refl }

  reopen_kept : (i : ℕ) (x : Instruction) → (at lines i).instruction ≡ x → Hand (reopen_reads i x) → AllNoted W head lines (reopened i x) → (let y = reopens W p line s i x in ReopenLeaves W rows notes p line s y.answer y.state i x)
  reopen_kept i (Expression e) same hand h = record { next = refl; same = refl }
  reopen_kept i (Change c) same hand h = record { next = refl; same = refl }
  reopen_kept i (Control u) same hand h = resume_kept i u same hand h

  turn_kept : (target : ℕ) (u : Turn) → Hand (turn_reads lines target u) → turn_rule W head notes u ≡ Ok own → AllNoted W head lines (turn_advances lines target u) → (let x = turns W p line s lines target u in TurnLeaves W rows notes p line s x.answer x.state lines target u)
  turn_kept target (control.If a b) hand h more = branches_kept W rows notes p line s roomy inside a target own hand.1.0 h
  turn_kept target (control.Else b) hand h more = record { next = refl; same = refl }
  turn_kept target (control.Loop b) hand h more = record { next = refl; same = refl }
  turn_kept target (control.Each a b) hand h more = each_kept W rows notes p line s roomy inside p a b 0 own inside refl hand.1.0 h
  turn_kept target (control.Test a) hand h more = branches_kept W rows notes p line s roomy inside a target own hand.1.0 h
  turn_kept target control.Break hand h more = record { next = refl; same = refl }
  turn_kept target control.Continue hand h more = reopen_kept target (at lines target).instruction refl hand more
  turn_kept target (control.End b) hand h more = reopen_kept target (at lines target).instruction refl hand more

  row_kept : (target : ℕ) (x : Instruction) (a : Answer) (t : State) → Hand (reads lines target x) → typed W head notes x ≡ Ok own → AllNoted W head lines (advanced lines target x) → written_fits x ≡ true
      → Acts W p line s head lines target x a t → Leaves W rows notes p line s a t head lines target x
  row_kept target (Expression e) a t hand h more law act =
      evaluates_kept W rows notes p line s roomy inside (evaluated W (value_at W s) s.stream e) a t
      (λ v o. wholes.expressions W s.stream (value_at W s) e v (found_all W rows notes p line s roomy inside (make_reads e) hand.0) o)
      (expression_safe W (value_at W s) notes head s.stream e own hand.1 h) act
  row_kept target (Change c) a t hand h more law act = subst (λ (x : Step). ChangeLeaves W rows notes p line s x.answer x.state head c) (sym act) (change_kept c law hand h)
  row_kept target (Control u) a t hand h more law act = subst (λ (x : Step). TurnLeaves W rows notes p line s x.answer x.state lines target u) (sym act) (turn_kept target u hand h more)

pub rows_safe : RowsSafe
rows_safe W line head lines rows s p a t roomy inside under ready noted law act =
    row_kept W line head lines rows s p roomy inside (at lines p).target (at lines p).instruction a t (under, ready) noted.0 noted.1 law act
