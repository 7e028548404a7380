-- A plan that is as check noted its row is safe, said once for every row; and what check's guards tell where they pass.
use Rattle.std.proofs.Common.{◌≡◌, ℕ, ◌≤◌, Bool, true, false, cond, List, Some, None, Ok, Err, Option, Result, sym, refl, subst, arith}
use Rattle.std.proofs.lemmas.Bool.{and_parts, and_from}
use Rattle.types.specs.declared.typing.Typing.{Typing}
use Rattle.types.specs.Types.{room}
use Rattle.arithmetic.specs.declared.faults.ArithmeticFault.{ArithmeticFault}
use Rattle.arithmetic.specs.declared.faults.ArithmeticFault.TheVariants.{Overflow, DivisorZero, NegativeExponent}
use Rattle.arithmetic.specs.declared.faults.ElementFault.{ElementFault}
use Rattle.arithmetic.specs.Faults.{number_of}
use Rattle.fault.specs.declared.causes.Cause.{Cause}
use Rattle.fault.specs.declared.causes.Cause.TheVariants.{SizesDiffer, Beyond, Disordered, NoRule}
use Rattle.fault.specs.Faults.{cause_number}
use Rattle.rules.specs.declared.refusal.Refusal.{Refusal}
use Rattle.rules.specs.declared.refusal.Refusal.TheVariants.{Sizes}
use Rattle.rules.specs.Rules.{Judged, unless as passing, value, sized}
use Rattle.checker.specs.Blocks.{typing_of}
use Rattle.checker.proofs.Passes.{unless_ok}
use Rattle.meaning.specs.declared.layouts.Layout.{Layout}
use Rattle.meaning.specs.Values.{Cell, fixed, within, lawful}
use Rattle.meaning.specs.Plans.{Plan, Outcome, gives, faults, outcome, unless, unless_outside, finished, count_fits, fits}
use Rattle.laws.specs.Fitting.{SizeFits, Fits, Held}

-- ---- outcomes
-- a fault 20 to 26
abbrev pub Calm : Cause → Type 0
Calm c = (20 ≤ cause_number c) × (cause_number c ≤ 26)

-- of a row that was noted as n: its value is as noted, or it met a fault 20 to 26
abbrev pub Safe : ℕ → Typing → Outcome → Type 0
Safe W n (gives v) = Held W n v
Safe W n (faults c element) = Calm c

-- a layout is as noted, its sizes where they agree
pub record Matched (n : Typing) (f : Layout) (agree : Bool) : Type 0 where
  pub kind : f.kind ≡ n.kind
  pub shape : f.shape ≡ n.shape
  pub r : agree ≡ true → SizeFits n.r f.r
  pub s : agree ≡ true → SizeFits n.s f.s

-- a plan is as its row was noted: it has a rule, and its result is as noted
pub record Met (n : Typing) (p : Plan) : Type 0 where
  pub ruled : p.ruled ≡ true
  pub exists : fixed p.layout ≡ true
  pub matched : Matched n p.layout p.agree

arithmetic_calm : (f : ArithmeticFault) → (20 ≤ number_of f) × (number_of f ≤ 26)
arithmetic_calm Overflow = omega arith
arithmetic_calm DivisorZero = omega arith
arithmetic_calm NegativeExponent = omega arith

module _ (W : ℕ) (n : Typing) where
  safe_unless : (ok : Bool) (c : Cause) (o : Outcome) → Calm c → (ok ≡ true → Safe W n o) → Safe W n (unless ok c o)
  safe_unless true c o calm h = h refl
  safe_unless false c o calm h = calm

  safe_outside : (k : Option ℕ) (o : Outcome) → Safe W n o → Safe W n (unless_outside k o)
  safe_outside None o h = h
  safe_outside (Some k) o h = omega arith

  safe_finished : (f : Layout) (r : Result (List (Cell f.kind)) ElementFault) → lawful W f ≡ true → Fits n f → Safe W n (finished f r)
  safe_finished f (Ok xs) exists as_noted = record { exists = exists; fits = as_noted }
  safe_finished f (Err e) exists as_noted = arithmetic_calm e.fault

  safe_ruled : (ok : Bool) (o : Outcome) → ok ≡ true → Safe W n o → Safe W n (unless ok NoRule o)
  safe_ruled ok o h s = subst (λ (b : Bool). Safe W n (unless b NoRule o)) (sym h) s

  -- progress and preservation for a row whose plan is as it was noted
  pub safe : (p : Plan) → Met n p → Safe W n (outcome W p)
  safe p m =
      let f = p.layout in
      let five = finished f p.elements in
      let four = unless_outside p.outside five in
      let three = unless p.agree SizesDiffer four in
      let near = fits W p.counted f in
      let two = unless near Beyond three in
      let one = unless p.ordered Disordered two in
      safe_ruled p.ruled one m.ruled
      (safe_unless p.ordered Disordered two (omega arith)
      (λ _. safe_unless near Beyond three (omega arith)
      (λ close. safe_unless p.agree SizesDiffer four (omega arith)
      (λ agree. safe_outside p.outside five (safe_finished f p.elements
      (and_from (fixed f) (within W f.r f.s) m.exists (and_parts (count_fits W p.counted) (within W f.r f.s) close).1)
      (record { kind = m.matched.kind; shape = m.matched.shape; r = m.matched.r agree; s = m.matched.s agree }))))))

-- ---- guards of check
-- where the rule passes, the plan is as the row is noted
abbrev pub Meets : Judged → Plan → Type 0
Meets j p = (m : Option Typing) → j ≡ Ok m → Met (typing_of m) p

pub meets_value : (n : Typing) (p : Plan) → Met n p → Meets (value n) p
meets_value n p met m h = let same : Some n ≡ m = cc in subst (λ (o : Option Typing). Met (typing_of o) p) same met

pub meets_unless : (b : Bool) (e : Refusal) (rest : Judged) (p : Plan) → (b ≡ true → Meets rest p) → Meets (passing b e rest) p
meets_unless b e rest p f m h = let both = unless_ok b e rest m h in f both.0 m both.1

pub meets_sized : (W : ℕ) (n : Typing) (p : Plan) → Met n p → Meets (sized W n) p
meets_sized W n p met = meets_unless (room W n.r n.s) Sizes (value n) p (λ _. meets_value n p met)

pub meets_cond : (b : Bool) (x y : Judged) (p : Plan) → (b ≡ true → Meets x p) → (b ≡ false → Meets y p) → Meets (cond b x y) p
meets_cond true x y p f g = f refl
meets_cond false x y p f g = g refl
