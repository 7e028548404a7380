-- The loop over the rows.
use Rattle.std.proofs.Common.{◌≡◌, ℕ, zero, suc, ◌+◌, ◌<◌, ◌≤◌, cond, eqb, List, [], ◌∷◌, ◌++◌, length, get_or, take, Ok, Err, sym, refl, ap, ◌∙◌, subst, ⊎_elim, add-one, arith}
use Rattle.std.proofs.lemmas.List.{get_or_append_left, get_or_push, length_push, take-append-le, take_all}
use Rattle.std.proofs.lemmas.Bool.{cases_lt}
use Rattle.sheet.specs.declared.row.Row.{Row}
use Rattle.types.specs.declared.typing.Typing.{Typing}
use Rattle.rules.specs.declared.refusal.Refusal.{Refusal}
use Rattle.checker.specs.declared.line.Line.{Line}
use Rattle.instruction.specs.Forms.{form}
use Rattle.checker.specs.Blocks.{past_end, at, makes, after, blocks, near}
use Rattle.checker.specs.Judge.{judged_as, judge, no_row, between, LawfulTo, Accepted, Faulty}
use Rattle.checker.proofs.Near.{fresh, near_is}

-- blocks and fresh rows before p depend on the rows before p alone
pub blocks_same : (xs ys : List Line) (p : ℕ) → ((a : ℕ) → a < p → at xs a ≡ at ys a) → blocks xs p ≡ blocks ys p
blocks_same xs ys zero h = refl
blocks_same xs ys (suc p) h =
    let here = h p (omega arith) in
    let rest = blocks_same xs ys p (λ a lt. h a (omega arith)) in
    λ i. after (here i).instruction p (rest i)

pub fresh_same : (xs ys : List Line) (p : ℕ) → ((a : ℕ) → a < p → at xs a ≡ at ys a) → fresh xs p ≡ fresh ys p
fresh_same xs ys zero h = refl
fresh_same xs ys (suc p) h =
    let here = h p (omega arith) in
    let rest = fresh_same xs ys p (λ a lt. h a (omega arith)) in
    λ i. cond (makes (here i).instruction) (rest i) (suc p)

-- what the loop holds before row p
pub record Checking (w : ℕ) (result : Typing) (rows : List Row) (lines : List Line) (held : List ℕ) (start p : ℕ) : Type 0 where
  pub long : length lines ≡ p
  pub lawful : LawfulTo w result rows lines p
  pub opened : held ≡ blocks lines p
  pub begun : start ≡ fresh lines p

module _ (w : ℕ) (result : Typing) (rows : List Row) where
  pub checking_none : (held : List ℕ) (lines : List Line) → held ≡ [] → lines ≡ [] → Checking w result rows lines held 0 0
  checking_none held lines h e = record { long = ap length e; lawful = λ p lt. absurd (omega arith); opened = h; begun = refl }

  -- what the code asks is what the definition asks
  pub judged_is : (lines : List Line) (held : List ℕ) (start p : ℕ) (x : Row) → Checking w result rows lines held start p → x ≡ get_or rows p no_row → judged_as w result (eqb (p + 1) (length rows)) lines p (between start p) held (form x) ≡ judge w result rows lines p (get_or rows p no_row)
  judged_is lines held start p x k e =
      let placed : (a : ℕ) → between start p a ≡ near lines p a = λ a. ap (λ (n : ℕ). between n p a) k.begun ∙ sym (near_is lines p a) in
      let cs = k.opened in
      λ i. judged_as w result (eqb (p + 1) (length rows)) lines p (λ a. placed a i) (cs i) (form (e i))

  pub checking_more : (lines lines' : List Line) (held held' : List ℕ) (start start' p : ℕ) (x : Row) (line : Line) → Checking w result rows lines held start p → x ≡ get_or rows p no_row → Ok line ≡ judged_as w result (eqb (p + 1) (length rows)) lines p (between start p) held (form x) → lines' ≡ lines ++ line ∷ [] → held' ≡ after line.instruction p held → start' ≡ cond (makes line.instruction) start (p + 1) → Checking w result rows lines' held' start' (p + 1)
  checking_more lines lines' held held' start start' p x line k e ok is turned moved =
      subst (λ (ls : List Line). Checking w result rows ls held' start' (p + 1)) (sym is)
      (record { long = length_push lines line ∙ ap (λ (n : ℕ). n + 1) long; lawful = all; opened = opened; begun = begun })
    where
      long : length lines ≡ p
      long = k.long

      more : List Line
      more = lines ++ line ∷ []

      old : (a : ℕ) → a < p → at more a ≡ at lines a
      old a h = let l = long in get_or_append_left lines (line ∷ []) past_end a (omega arith)

      new : at more p ≡ line
      new = get_or_push lines line past_end p long

      front : (q : ℕ) → q ≤ p → take q more ≡ take q lines
      front q h = let l = long in take-append-le q lines (line ∷ []) (omega arith)

      passed : judge w result rows lines p (get_or rows p no_row) ≡ Ok line
      passed = sym (judged_is lines held start p x k e) ∙ sym ok

      all : LawfulTo w result rows more (p + 1)
      all q h =
          ⊎_elim
          (λ less. ap (λ (ls : List Line). judge w result rows ls q (get_or rows q no_row)) (front q (omega arith)) ∙ k.lawful q less ∙ ap (λ (y : Line). Ok y) (sym (old q less)))
          (λ ge.
          let same : q ≡ p = omega arith in
          let l = long in
          subst (λ (j : ℕ). judge w result rows (take j more) j (get_or rows j no_row) ≡ Ok (at more j)) (sym same)
          (ap (λ (ls : List Line). judge w result rows ls p (get_or rows p no_row)) (front p (omega arith) ∙ take_all p lines (omega arith)) ∙ passed ∙ ap (λ (y : Line). Ok y) (sym new)))
          (cases_lt q p)

      opened : held' ≡ blocks more (p + 1)
      opened =
          turned
          ∙ ap (after line.instruction p) (k.opened ∙ sym (blocks_same more lines p old))
          ∙ ap (λ (y : Line). after y.instruction p (blocks more p)) (sym new)
          ∙ ap (blocks more) (sym (add-one p))

      begun : start' ≡ fresh more (p + 1)
      begun =
          moved
          ∙ ap (λ (n : ℕ). cond (makes line.instruction) n (p + 1)) (k.begun ∙ sym (fresh_same more lines p old))
          ∙ ap (λ (n : ℕ). cond (makes line.instruction) (fresh more p) n) (add-one p)
          ∙ ap (λ (y : Line). cond (makes y.instruction) (fresh more p) (suc p)) (sym new)
          ∙ ap (fresh more) (sym (add-one p))

  pub checking_fault : (lines : List Line) (held : List ℕ) (start p : ℕ) (x : Row) (e : Refusal) → Checking w result rows lines held start p → x ≡ get_or rows p no_row → p < length rows → Err e ≡ judged_as w result (eqb (p + 1) (length rows)) lines p (between start p) held (form x) → Faulty w result rows lines e p
  checking_fault lines held start p x e k is lt err = record { inside = lt; long = k.long; lawful = k.lawful; breaks = sym (judged_is lines held start p x k is) ∙ sym err }

  pub checking_all : (lines : List Line) (held : List ℕ) (start p : ℕ) → Checking w result rows lines held start p → p ≡ length rows → Accepted w result rows lines
  checking_all lines held start p k e = record { long = k.long ∙ e; lawful = subst (λ (n : ℕ). LawfulTo w result rows lines n) e k.lawful }
