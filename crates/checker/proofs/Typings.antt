-- The typing of a row follows from the typings of the rows before it.
use Rattle.std.proofs.Common.{◌≡◌, ℕ, Bool, true, List, [], ◌∷◌, Option, Some, None, refl}
use Rattle.std.proofs.lemmas.Bool.{and_parts}
use Rattle.types.specs.declared.typing.Typing.{Typing}
use Rattle.rules.specs.declared.refusal.Refusal.TheVariants.{Unfit}
use Rattle.types.specs.declared.kinds.Shape.TheVariants.{Scalar}
use Rattle.instruction.specs.declared.instructions.Expression.{Expression as Make}
use Rattle.instruction.specs.declared.instructions.Expression.TheVariants as make
use Rattle.instruction.specs.declared.instructions.Change.{Change as Changes}
use Rattle.instruction.specs.declared.instructions.Change.TheVariants as change
use Rattle.instruction.specs.declared.instructions.Control.{Control as Turn}
use Rattle.instruction.specs.declared.instructions.Control.TheVariants as control
use Rattle.instruction.specs.declared.instructions.Instruction.{Instruction}
use Rattle.instruction.specs.declared.instructions.Instruction.TheVariants.{Expression, Change, Control}
use Rattle.rules.specs.Rules.{unless, nothing, value, prefix_rule, infix_rule, interval_rule, stack_rule, pick_rule, pick_two_rule, measure_rule, cast_rule, resize_rule, declare_rule, assign_rule, store_rule, store_two_rule, return_rule, each_rule, condition_rule, make_rule, start_rule, change_rule, turn_rule, typed}
use Rattle.types.specs.Typings.{flat, is}
use Rattle.checker.specs.Blocks.{all, start_operand, make_operands, change_operands, turn_operands, operands}

-- the variable that an instruction names, if it names one
abbrev pub make_names : Make → List ℕ
make_names (make.Literal k n) = []
make_names (make.Empty k) = []
make_names (make.Variable v) = v ∷ []
make_names (make.Prefix o a) = []
make_names (make.Infix o a b) = []
make_names (make.Interval a b) = []
make_names (make.Stack a b) = []
make_names (make.Pick a b) = []
make_names (make.PickTwo a b c) = []
make_names (make.Measure m a) = []
make_names (make.Cast k a) = []
make_names (make.Resize a r s) = []
make_names make.State = []

abbrev pub change_names : Changes → List ℕ
change_names (change.Declare t v) = []
change_names (change.Assign v a) = v ∷ []
change_names (change.Store v b c) = v ∷ []
change_names (change.StoreTwo v b c d) = v ∷ []
change_names (change.Print a) = []
change_names (change.Read v) = v ∷ []
change_names (change.Return a) = []

abbrev pub names : Instruction → List ℕ
names (Expression e) = make_names e
names (Change s) = change_names s
names (Control t) = []

module _ (w : ℕ) (result : Typing) (T T' : ℕ → Typing) (f g : ℕ → Bool) (near : (a : ℕ) → f a ≡ true → T a ≡ T' a) (seen : (v : ℕ) → g v ≡ true → T v ≡ T' v) where
  first : (h : ℕ → Bool) (a : ℕ) (xs : List ℕ) → all h (a ∷ xs) ≡ true → h a ≡ true
  first h a xs e = (and_parts (h a) (all h xs) e).0

  rest : (h : ℕ → Bool) (a : ℕ) (xs : List ℕ) → all h (a ∷ xs) ≡ true → all h xs ≡ true
  rest h a xs e = (and_parts (h a) (all h xs) e).1

  one : (a : ℕ) (xs : List ℕ) → all f (a ∷ xs) ≡ true → T a ≡ T' a
  one a xs e = near a (first f a xs e)

  two : (a b : ℕ) (xs : List ℕ) → all f (a ∷ b ∷ xs) ≡ true → T b ≡ T' b
  two a b xs e = one b xs (rest f a (b ∷ xs) e)

  three : (a b c : ℕ) (xs : List ℕ) → all f (a ∷ b ∷ c ∷ xs) ≡ true → T c ≡ T' c
  three a b c xs e = two b c xs (rest f a (b ∷ c ∷ xs) e)

  var : (v : ℕ) (xs : List ℕ) → all g (v ∷ xs) ≡ true → T v ≡ T' v
  var v xs e = seen v (first g v xs e)

  make_same : (e : Make) → all f (make_operands e) ≡ true → all g (make_names e) ≡ true → make_rule w result T e ≡ make_rule w result T' e
  make_same (make.Literal k n) h n' = refl
  make_same (make.Empty k) h n = refl
  make_same (make.Variable v) h n = let x = var v [] n in λ i. value (x i)
  make_same (make.Prefix o a) h n = let x = one a [] h in λ i. prefix_rule o (x i)
  make_same (make.Infix o a b) h n = let x = one a (b ∷ []) h in let y = two a b [] h in λ i. infix_rule w o (x i) (y i)
  make_same (make.Interval a b) h n = let x = one a (b ∷ []) h in let y = two a b [] h in λ i. interval_rule (x i) (y i)
  make_same (make.Stack a b) h n = let x = one a (b ∷ []) h in let y = two a b [] h in λ i. stack_rule w (x i) (y i)
  make_same (make.Pick a b) h n = let x = one a (b ∷ []) h in let y = two a b [] h in λ i. pick_rule (x i) (y i)
  make_same (make.PickTwo a b c) h n = let x = one a (b ∷ c ∷ []) h in let y = two a b (c ∷ []) h in let z = three a b c [] h in λ i. pick_two_rule w (x i) (y i) (z i)
  make_same (make.Measure m a) h n = let x = one a [] h in λ i. measure_rule m (x i)
  make_same (make.Cast k a) h n = let x = one a [] h in λ i. cast_rule k (x i)
  make_same (make.Resize a r s) h n = let x = one a [] h in λ i. resize_rule w r s (x i)
  make_same make.State h n = refl

  start_same : (t : Typing) (v : Option ℕ) → all f (start_operand v) ≡ true → start_rule w result T t v ≡ start_rule w result T' t v
  start_same t None h = refl
  start_same t (Some a) h = let x = one a [] h in λ i. declare_rule w t (x i)

  change_same : (s : Changes) → all f (change_operands s) ≡ true → all g (change_names s) ≡ true → change_rule w result T s ≡ change_rule w result T' s
  change_same (change.Declare t v) h n = start_same t v h
  change_same (change.Assign v a) h n = let x = var v [] n in let y = one a [] h in λ i. assign_rule (x i) (y i)
  change_same (change.Store v b c) h n = let x = var v [] n in let y = one b (c ∷ []) h in let z = two b c [] h in λ i. store_rule (x i) (y i) (z i)
  change_same (change.StoreTwo v b c d) h n = let x = var v [] n in let y = one b (c ∷ d ∷ []) h in let z = two b c (d ∷ []) h in let u = three b c d [] h in λ i. store_two_rule (x i) (y i) (z i) (u i)
  change_same (change.Print a) h n = let x = one a [] h in λ i. unless (flat (x i)) Unfit nothing
  change_same (change.Read v) h n = let x = var v [] n in λ i. unless (is Scalar (x i)) Unfit nothing
  change_same (change.Return a) h n = let x = one a [] h in λ i. return_rule result (x i)

  turn_same : (t : Turn) → all f (turn_operands t) ≡ true → turn_rule w result T t ≡ turn_rule w result T' t
  turn_same (control.If a b) h = let x = one a [] h in λ i. condition_rule (x i)
  turn_same (control.Else b) h = refl
  turn_same (control.Loop b) h = refl
  turn_same (control.Each a b) h = let x = one a [] h in λ i. each_rule (x i)
  turn_same (control.Test a) h = let x = one a [] h in λ i. condition_rule (x i)
  turn_same control.Break h = refl
  turn_same control.Continue h = refl
  turn_same (control.End b) h = refl

  pub typed_same : (x : Instruction) → all f (operands x) ≡ true → all g (names x) ≡ true → typed w result T x ≡ typed w result T' x
  typed_same (Expression e) h n = make_same e h n
  typed_same (Change s) h n = change_same s h n
  typed_same (Control t) h n = turn_same t h
