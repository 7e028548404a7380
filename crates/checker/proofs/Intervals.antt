-- In a lawful sheet a block is the rows from the one after its opener to the one that closes it.
use Rattle.std.proofs.Common.{◌≡◌, ℕ, zero, suc, ◌+◌, ◌-◌, ◌<◌, ◌≤◌, Bool, true, false, cond, not, ◌&&◌, eqb, ltb, ◌⊎◌, List, [], ◌∷◌, length, get_or, take, Some, None, Option, sym, refl, ap, ◌∙◌, subst, inl, inr, ⊎_elim, arith}
use Rattle.std.proofs.lemmas.List.{get_or-take}
use Rattle.std.proofs.lemmas.Bool.{and_parts, or_cases, or_left, or_right, eqb-true, eq-eqb, ltb-true, cases_lt}
use Rattle.sheet.specs.declared.row.Row.{Row}
use Rattle.types.specs.declared.typing.Typing.{Typing}
use Rattle.checker.specs.declared.line.Line.{Line}
use Rattle.instruction.specs.declared.instructions.Control.{Control as Turn}
use Rattle.instruction.specs.declared.instructions.Control.TheVariants as control
use Rattle.instruction.specs.declared.instructions.Instruction.{Instruction}
use Rattle.instruction.specs.declared.instructions.Instruction.TheVariants.{Expression, Change, Control}
use Rattle.instruction.specs.Forms.{form}
use Rattle.checker.specs.Blocks.{past_end, at, near, outer, turned, after, blocks, innermost, member, closer, turn_opens, opener, shuts, branches, turn_nests, returns, nests, declares, still_in, in_scope, ranges, in_each, loops, loop_among}
use Rattle.checker.specs.Judge.{no_row, Accepted}
use Rattle.checker.proofs.Passes.{Passed, passes}
use Rattle.checker.proofs.Checks.{blocks_same}

-- ---- stacks
-- falling, from below p
abbrev pub Falling : ℕ → List ℕ → Type 0
Falling p [] = Unit {0}
Falling p (c ∷ cs) = (c < p) × Falling c cs

falling_wider : (p q : ℕ) (cs : List ℕ) → p ≤ q → Falling p cs → Falling q cs
falling_wider p q [] le h = tt
falling_wider p q (c ∷ cs) le h = let l = h.0 in (omega arith, h.1)

falling_outer : (p : ℕ) (cs : List ℕ) → Falling p cs → Falling p (outer cs)
falling_outer p [] h = tt
falling_outer p (c ∷ cs) h = let l = h.0 in falling_wider c p cs (omega arith) h.1

pub falling_member : (p c : ℕ) (cs : List ℕ) → Falling p cs → member c cs ≡ true → c < p
falling_member p c [] f h = cc
falling_member p c (x ∷ xs) f h =
    let l = f.0 in
    ⊎_elim (λ e. let same = eqb-true c x e in omega arith) (λ m. let less = falling_member x c xs f.1 m in omega arith) (or_cases (eqb c x) (member c xs) h)

turned_falling : (t : Turn) (p : ℕ) (cs : List ℕ) → Falling p cs → Falling (suc p) (turned t p cs)
turned_falling (control.If a b) p cs f = (omega arith, f)
turned_falling (control.Else b) p cs f = (omega arith, falling_outer p cs f)
turned_falling (control.Loop b) p cs f = (omega arith, f)
turned_falling (control.Each a b) p cs f = (omega arith, f)
turned_falling (control.Test a) p cs f = falling_wider p (suc p) cs (omega arith) f
turned_falling control.Break p cs f = falling_wider p (suc p) cs (omega arith) f
turned_falling control.Continue p cs f = falling_wider p (suc p) cs (omega arith) f
turned_falling (control.End b) p cs f = falling_wider p (suc p) (outer cs) (omega arith) (falling_outer p cs f)

after_falling : (i : Instruction) (p : ℕ) (cs : List ℕ) → Falling p cs → Falling (suc p) (after i p cs)
after_falling (Expression e) p cs f = falling_wider p (suc p) cs (omega arith) f
after_falling (Change s) p cs f = falling_wider p (suc p) cs (omega arith) f
after_falling (Control t) p cs f = turned_falling t p cs f

pub blocks_falling : (lines : List Line) (p : ℕ) → Falling p (blocks lines p)
blocks_falling lines zero = tt
blocks_falling lines (suc p) = after_falling (at lines p).instruction p (blocks lines p) (blocks_falling lines p)

outer_member : (c : ℕ) (cs : List ℕ) → member c (outer cs) ≡ true → member c cs ≡ true
outer_member c [] h = h
outer_member c (x ∷ xs) h = or_right (eqb c x) (member c xs) h

-- an opener is open after its row
turned_opens : (t : Turn) (p : ℕ) (cs : List ℕ) → turn_opens t ≡ true → member p (turned t p cs) ≡ true
turned_opens (control.If a b) p cs h = or_left (eqb p p) (member p cs) (eq-eqb p p refl)
turned_opens (control.Else b) p cs h = or_left (eqb p p) (member p (outer cs)) (eq-eqb p p refl)
turned_opens (control.Loop b) p cs h = or_left (eqb p p) (member p cs) (eq-eqb p p refl)
turned_opens (control.Each a b) p cs h = or_left (eqb p p) (member p cs) (eq-eqb p p refl)
turned_opens (control.Test a) p cs h = cc
turned_opens control.Break p cs h = cc
turned_opens control.Continue p cs h = cc
turned_opens (control.End b) p cs h = cc

after_opens : (i : Instruction) (p : ℕ) (cs : List ℕ) → opener i ≡ true → member p (after i p cs) ≡ true
after_opens (Expression e) p cs h = cc
after_opens (Change s) p cs h = cc
after_opens (Control t) p cs h = turned_opens t p cs h

-- what is open after a row is the row itself, an opener, or was open before
pushed : (c p : ℕ) (cs : List ℕ) (b : Bool) → b ≡ true → member c (p ∷ cs) ≡ true → ((c ≡ p) × (b ≡ true)) ⊎ (member c cs ≡ true)
pushed c p cs b o h = ⊎_elim (λ e. inl (eqb-true c p e, o)) (λ m. inr m) (or_cases (eqb c p) (member c cs) h)

turned_member : (t : Turn) (c p : ℕ) (cs : List ℕ) → member c (turned t p cs) ≡ true → ((c ≡ p) × (turn_opens t ≡ true)) ⊎ (member c cs ≡ true)
turned_member (control.If a b) c p cs h = pushed c p cs true refl h
turned_member (control.Else b) c p cs h = ⊎_elim (λ x. inl x) (λ m. inr (outer_member c cs m)) (pushed c p (outer cs) true refl h)
turned_member (control.Loop b) c p cs h = pushed c p cs true refl h
turned_member (control.Each a b) c p cs h = pushed c p cs true refl h
turned_member (control.Test a) c p cs h = inr h
turned_member control.Break c p cs h = inr h
turned_member control.Continue c p cs h = inr h
turned_member (control.End b) c p cs h = inr (outer_member c cs h)

after_member : (i : Instruction) (c p : ℕ) (cs : List ℕ) → member c (after i p cs) ≡ true → ((c ≡ p) × (opener i ≡ true)) ⊎ (member c cs ≡ true)
after_member (Expression e) c p cs h = inr h
after_member (Change s) c p cs h = inr h
after_member (Control t) c p cs h = turned_member t c p cs h

pub blocks_open : (lines : List Line) (c p : ℕ) → member c (blocks lines p) ≡ true → opener (at lines c).instruction ≡ true
blocks_open lines c zero h = cc
blocks_open lines c (suc p) h =
    ⊎_elim (λ here. ap (λ (x : ℕ). opener (at lines x).instruction) here.0 ∙ here.1) (λ m. blocks_open lines c p m)
    (after_member (at lines p).instruction c p (blocks lines p) h)

-- a block that is closed at row p was the innermost, and names p
pub record Removed (lines : List Line) (p c : ℕ) (cs : List ℕ) (i : Instruction) : Type 0 where
  pub top : innermost cs ≡ Some c
  pub named : closer (at lines c).instruction ≡ p
  pub by : shuts i ≡ true

stays_turn : (lines : List Line) (p c : ℕ) (cs : List ℕ) (t : Turn) → turn_nests lines p cs t ≡ true → member c cs ≡ true → (member c (turned t p cs) ≡ true) ⊎ Removed lines p c cs (Control t)
stays_turn lines p c cs (control.If a b) k h = inl (or_right (eqb c p) (member c cs) h)
stays_turn lines p c [] (control.Else b) k h = cc
stays_turn lines p c (x ∷ xs) (control.Else b) k h =
    ⊎_elim
    (λ e.
    let same = eqb-true c x e in
    inr (record { top = ap (λ (y : ℕ). Some y) (sym same); named = ap (λ (y : ℕ). closer (at lines y).instruction) same ∙ eqb-true (closer (at lines x).instruction) p (and_parts (branches (at lines x).instruction) (eqb (closer (at lines x).instruction) p) k).1; by = refl }))
    (λ m. inl (or_right (eqb c p) (member c xs) m))
    (or_cases (eqb c x) (member c xs) h)
stays_turn lines p c cs (control.Loop b) k h = inl (or_right (eqb c p) (member c cs) h)
stays_turn lines p c cs (control.Each a b) k h = inl (or_right (eqb c p) (member c cs) h)
stays_turn lines p c cs (control.Test a) k h = inl h
stays_turn lines p c cs control.Break k h = inl h
stays_turn lines p c cs control.Continue k h = inl h
stays_turn lines p c [] (control.End b) k h = cc
stays_turn lines p c (x ∷ xs) (control.End b) k h =
    ⊎_elim
    (λ e.
    let same = eqb-true c x e in
    inr (record { top = ap (λ (y : ℕ). Some y) (sym same); named = ap (λ (y : ℕ). closer (at lines y).instruction) same ∙ eqb-true (closer (at lines x).instruction) p (and_parts (eqb b x) (eqb (closer (at lines x).instruction) p) k).1; by = refl }))
    (λ m. inl m)
    (or_cases (eqb c x) (member c xs) h)

stays : (lines : List Line) (p c : ℕ) (cs : List ℕ) (last : Bool) (i : Instruction) → nests lines p cs last i ≡ true → member c cs ≡ true → (member c (after i p cs) ≡ true) ⊎ Removed lines p c cs i
stays lines p c cs last (Expression e) k h = inl h
stays lines p c cs last (Change s) k h = inl h
stays lines p c cs last (Control t) k h = stays_turn lines p c cs t (and_parts (not last) (turn_nests lines p cs t) k).1 h

none_left : (cs : List ℕ) (c : ℕ) → length cs ≡ 0 → member c cs ≡ true → ⊥
none_left [] c e h = cc
none_left (x ∷ xs) c e h = omega arith

last_bare : (lines : List Line) (p : ℕ) (cs : List ℕ) (last : Bool) (i : Instruction) → last ≡ true → nests lines p cs last i ≡ true → (length cs ≡ 0) × (opener i ≡ false)
last_bare lines p cs true (Expression e) l k = cc
last_bare lines p cs true (Change s) l k = (eqb-true (length cs) 0 (and_parts (returns s) (eqb (length cs) 0) k).1, refl)
last_bare lines p cs true (Control t) l k = cc
last_bare lines p cs false (Expression e) l k = cc
last_bare lines p cs false (Change s) l k = cc
last_bare lines p cs false (Control t) l k = cc

some_same : (x y : ℕ) → ◌≡◌ {A = Option ℕ} (Some x) (Some y) → x ≡ y
some_same x y h = cc

top_most : (p c b : ℕ) (cs : List ℕ) → Falling p cs → innermost cs ≡ Some c → member b cs ≡ true → b ≤ c
top_most p c b [] f e h = cc
top_most p c b (x ∷ xs) f e h =
    let same = some_same x c e in
    ⊎_elim (λ q. let here = eqb-true b x q in omega arith) (λ m. let less = falling_member x b xs f.1 m in omega arith) (or_cases (eqb b x) (member b xs) h)

-- ---- a lawful sheet
module _ (w : ℕ) (result : Typing) (rows : List Row) (lines : List Line) (ok : Accepted w result rows lines) where
  count : ℕ
  count = length rows

  pub passed : (p : ℕ) → p < length rows → Passed w result (eqb (p + 1) (length rows)) (take p lines) p (near (take p lines) p) (blocks (take p lines) p) (form (get_or rows p no_row)) (at lines p)
  passed p lt = passes w result (eqb (p + 1) (length rows)) (take p lines) p (near (take p lines) p) (blocks (take p lines) p) (form (get_or rows p no_row)) (at lines p) (ok.lawful p lt)

  pub front : (p a : ℕ) → a < p → at (take p lines) a ≡ at lines a
  front p a lt = get_or-take p lines a past_end lt

  pub blocks_front : (p : ℕ) → blocks (take p lines) p ≡ blocks lines p
  blocks_front p = blocks_same (take p lines) lines p (λ a lt. front p a lt)

  nested : (p : ℕ) → p < length rows → nests (take p lines) p (blocks lines p) (eqb (p + 1) (length rows)) (at lines p).instruction ≡ true
  nested p lt = subst (λ (cs : List ℕ). nests (take p lines) p cs (eqb (p + 1) (length rows)) (at lines p).instruction ≡ true) (blocks_front p) (passed p lt).nested

  -- an open block stays open, or row p closes it
  pub goes_on : (p c : ℕ) → p < length rows → member c (blocks lines p) ≡ true → (member c (blocks lines (suc p)) ≡ true) ⊎ Removed lines p c (blocks lines p) (at lines p).instruction
  goes_on p c lt h =
      let less = falling_member p c (blocks lines p) (blocks_falling lines p) h in
      ⊎_elim (λ m. inl m)
      (λ r. inr (record { top = r.top; named = ap (λ (x : Line). closer x.instruction) (sym (front p c less)) ∙ r.named; by = r.by }))
      (stays (take p lines) p c (blocks lines p) (eqb (p + 1) (length rows)) (at lines p).instruction (nested p lt) h)

  at_last : (p : ℕ) → p + 1 ≡ length rows → (length (blocks lines p) ≡ 0) × (opener (at lines p).instruction ≡ false)
  at_last p e = last_bare (take p lines) p (blocks lines p) (eqb (p + 1) (length rows)) (at lines p).instruction (eq-eqb (p + 1) (length rows) e) (nested p (omega arith))

  -- an open block is closed at the row that it names
  pub record Closing (p c : ℕ) : Type 0 where
    pub later : p ≤ closer (at lines c).instruction
    pub inside : closer (at lines c).instruction + 1 < length rows
    pub gone : Removed lines (closer (at lines c).instruction) c (blocks lines (closer (at lines c).instruction)) (at lines (closer (at lines c).instruction)).instruction

  closes_in : (k p c : ℕ) → p + 1 + k ≡ length rows → member c (blocks lines p) ≡ true → Closing p c
  closes_in zero p c e h = absurd (none_left (blocks lines p) c (at_last p (omega arith)).0 h)
  closes_in (suc k) p c e h =
      ⊎_elim
      (λ m. let r = closes_in k (suc p) c (omega arith) m in let l = r.later in record { later = omega arith; inside = r.inside; gone = r.gone })
      (λ r.
      let n = r.named in
      record { later = omega arith; inside = omega arith; gone = subst (λ (q : ℕ). Removed lines q c (blocks lines q) (at lines q).instruction) (sym n) r })
      (goes_on p c (omega arith) h)

  pub closes : (p c : ℕ) → p < length rows → member c (blocks lines p) ≡ true → Closing p c
  closes p c lt h = let k = length rows - (p + 1) in closes_in (length rows - (p + 1)) p c (omega arith) h

  -- an opener, and the rows of its block
  pub open_next : (b : ℕ) → b < length rows → opener (at lines b).instruction ≡ true → (b + 1 < length rows) × (member b (blocks lines (suc b)) ≡ true)
  open_next b lt o = (
    ⊎_elim (λ less. less)
        (λ ge. let shut = (at_last b (omega arith)).1 in cc)
        (cases_lt (b + 1) (length rows)),
    after_opens (at lines b).instruction b (blocks lines b) o,
  )

  pub later : (b : ℕ) → b < length rows → opener (at lines b).instruction ≡ true → b < closer (at lines b).instruction
  later b lt o = let n = open_next b lt o in let l = n.0 in let k = (closes (suc b) b (omega arith) n.1).later in omega arith

  open_in : (k b : ℕ) → b < length rows → opener (at lines b).instruction ≡ true → suc b + k ≤ closer (at lines b).instruction → member b (blocks lines (suc b + k)) ≡ true
  open_in zero b lt o le = let e : suc b ≡ suc b + 0 = omega arith in subst (λ (q : ℕ). member b (blocks lines q) ≡ true) e (open_next b lt o).1
  open_in (suc k) b lt o le =
      let before = open_in k b lt o (omega arith) in
      let n = open_next b lt o in
      let l = n.0 in
      let far = (closes (suc b) b (omega arith) n.1).inside in
      let e : suc (suc b + k) ≡ suc b + suc k = omega arith in
      ⊎_elim (λ m. subst (λ (q : ℕ). member b (blocks lines q) ≡ true) e m) (λ r. let e = r.named in absurd (omega arith))
      (goes_on (suc b + k) b (omega arith) before)

  -- between its opener and the row that closes it a block is open
  pub open_within : (b p : ℕ) → b < length rows → opener (at lines b).instruction ≡ true → b < p → p ≤ closer (at lines b).instruction → member b (blocks lines p) ≡ true
  open_within b p lt o bp pc =
      let e : suc b + (p - suc b) ≡ p = omega arith in
      subst (λ (q : ℕ). member b (blocks lines q) ≡ true) e (open_in (p - suc b) b lt o (omega arith))

  -- blocks nest
  pub nest : (c b : ℕ) → c < b → b < length rows → opener (at lines c).instruction ≡ true → opener (at lines b).instruction ≡ true → b < closer (at lines c).instruction → closer (at lines b).instruction < closer (at lines c).instruction
  nest c b cb lt oc ob inside =
      ⊎_elim (λ less. less)
      (λ ge.
      let q = closer (at lines c).instruction in
      let opened = open_next c (omega arith) oc in
      let l = opened.0 in
      let gone = (closes (suc c) c (omega arith) opened.1).gone in
      let held = open_within b q lt ob inside ge in
      let le = top_most q c b (blocks lines q) (blocks_falling lines q) gone.top held in
      absurd (omega arith))
      (cases_lt (closer (at lines b).instruction) (closer (at lines c).instruction))

  -- the row that closes a block is an else or an end
  pub shut : (b : ℕ) → b < length rows → opener (at lines b).instruction ≡ true → shuts (at lines (closer (at lines b).instruction)).instruction ≡ true
  shut b lt o = let n = open_next b lt o in let l = n.0 in (closes (suc b) b (omega arith) n.1).gone.by

  -- ---- what the rows of a lawful sheet can read, by intervals
  -- a variable in scope: each block that holds its row holds row p
  scope_block : (v p c : ℕ) (o : Option ℕ) (cs : List ℕ) → v < p → p < length rows → cs ≡ blocks lines v → o ≡ innermost cs → still_in o (blocks lines p) ≡ true → member c cs ≡ true → p ≤ closer (at lines c).instruction
  scope_block v p c None [] vp lt is e k h = cc
  scope_block v p c None (x ∷ xs) vp lt is e k h = cc
  scope_block v p c (Some d) [] vp lt is e k h = cc
  scope_block v p c (Some d) (x ∷ xs) vp lt is e k h =
      let same = some_same d x e in
      let held : member x (blocks lines p) ≡ true = subst (λ (y : ℕ). member y (blocks lines p) ≡ true) same k in
      let far = (closes p x lt held).later in
      let fall = subst (λ (ys : List ℕ). Falling v ys) (sym is) (blocks_falling lines v) in
      let xv = fall.0 in
      ⊎_elim (λ q. let here = eqb-true c x q in subst (λ (y : ℕ). p ≤ closer (at lines y).instruction) (sym here) far)
      (λ m.
      let cx = falling_member x c xs fall.1 m in
      let in-v = subst (λ (ys : List ℕ). member c ys ≡ true) is h in
      let x-in-v : member x (blocks lines v) ≡ true = subst (λ (ys : List ℕ). member x ys ≡ true) is (or_left (eqb x x) (member x xs) (eq-eqb x x refl)) in
      let reach = (closes v c (omega arith) in-v).later in
      let out = nest c x cx (omega arith) (blocks_open lines c v in-v) (blocks_open lines x v x-in-v) (omega arith) in
      omega arith)
      (or_cases (eqb c x) (member c xs) h)

  pub record InScope (v p : ℕ) : Type 0 where
    pub before : v < p
    pub declared : declares (at lines v).instruction ≡ true
    pub holds : (c : ℕ) → c < v → opener (at lines c).instruction ≡ true → v ≤ closer (at lines c).instruction → p ≤ closer (at lines c).instruction

  pub scope_holds : (v p : ℕ) → p < length rows → in_scope (take p lines) p (blocks (take p lines) p) v ≡ true → InScope v p
  scope_holds v p lt h =
      let outside = and_parts (ltb v p) (declares (at (take p lines) v).instruction && still_in (at (take p lines) v).block (blocks (take p lines) p)) h in
      let inner = and_parts (declares (at (take p lines) v).instruction) (still_in (at (take p lines) v).block (blocks (take p lines) p)) outside.1 in
      let vp = ltb-true v p outside.0 in
      let same = front p v vp in
      let whole = sym same in
      let all = sym (blocks_front p) in
      let still : still_in (at lines v).block (blocks lines p) ≡ true = (λ i. still_in (whole i).block (all i)) ∙ inner.1 in
      let stands : (at lines v).block ≡ innermost (blocks lines v) = (passed v (omega arith)).stands ∙ ap innermost (blocks_front v) in
      record {
        before = vp;
        declared = ap (λ (x : Line). declares x.instruction) (sym same) ∙ inner.0;
        holds = λ c cv o vc. scope_block v p c (at lines v).block (blocks lines v) vp lt refl stands still (open_within c v (omega arith) o cv vc);
      }

  -- an each that is read, and the loop that a test, break or continue leaves: they hold row p
  pub record Within (b p : ℕ) : Type 0 where
    pub before : b < p
    pub upto : p ≤ closer (at lines b).instruction

  pub each_holds : (v p : ℕ) → p < length rows → in_each (take p lines) (blocks (take p lines) p) v ≡ true → Within v p × (ranges (at lines v).instruction ≡ true)
  each_holds v p lt h =
      let both = and_parts (ranges (at (take p lines) v).instruction) (member v (blocks (take p lines) p)) h in
      let held : member v (blocks lines p) ≡ true = subst (λ (cs : List ℕ). member v cs ≡ true) (blocks_front p) both.1 in
      let vp = falling_member p v (blocks lines p) (blocks_falling lines p) held in
      (record { before = vp; upto = (closes p v lt held).later }, ap (λ (x : Line). ranges x.instruction) (sym (front p v vp)) ∙ both.0)

  among : (ls : List Line) (c : ℕ) (cs : List ℕ) → loop_among ls cs ≡ Some c → (member c cs ≡ true) × (loops (at ls c).instruction ≡ true)
  among ls c [] h = cc
  among ls c (x ∷ xs) h = pick (loops (at ls x).instruction) refl h (among ls c xs)
    where
      pick : (b : Bool) → loops (at ls x).instruction ≡ b → cond b (Some x) (loop_among ls xs) ≡ Some c → (loop_among ls xs ≡ Some c → (member c xs ≡ true) × (loops (at ls c).instruction ≡ true)) → (member c (x ∷ xs) ≡ true) × (loops (at ls c).instruction ≡ true)
      pick true l e rest =
          let same = some_same x c e in
          (or_left (eqb c x) (member c xs) (eq-eqb c x (sym same)), ap (λ (y : ℕ). loops (at ls y).instruction) (sym same) ∙ l)
      pick false l e rest = let r = rest e in (or_right (eqb c x) (member c xs) r.0, r.1)

  pub loop_holds : (b p : ℕ) → p < length rows → loop_among (take p lines) (blocks (take p lines) p) ≡ Some b → Within b p × (loops (at lines b).instruction ≡ true)
  loop_holds b p lt h =
      let r = among (take p lines) b (blocks (take p lines) p) h in
      let held : member b (blocks lines p) ≡ true = subst (λ (cs : List ℕ). member b cs ≡ true) (blocks_front p) r.0 in
      let bp = falling_member p b (blocks lines p) (blocks_falling lines p) held in
      (record { before = bp; upto = (closes p b lt held).later }, ap (λ (x : Line). loops x.instruction) (sym (front p b bp)) ∙ r.1)
