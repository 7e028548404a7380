-- Lawful rows have one list of lines, and a sheet is not both lawful and faulty.
use Rattle.std.proofs.Common.{◌≡◌, ℕ, zero, suc, ◌≤◌, true, List, length, get_or, take, is_ok, Ok, Err, Result, sym, refl, ap, ◌∙◌, subst, add-one, arith}
use Rattle.std.proofs.lemmas.List.{take_all, take_more_same}
use Rattle.sheet.specs.declared.row.Row.{Row}
use Rattle.types.specs.declared.typing.Typing.{Typing}
use Rattle.rules.specs.declared.refusal.Refusal.{Refusal}
use Rattle.checker.specs.declared.line.Line.{Line}
use Rattle.checker.specs.Blocks.{past_end, at}
use Rattle.checker.specs.Judge.{judge, no_row, LawfulTo, Accepted, Faulty, line_of, Lawful, Noted}

same_ok : (r : Result Line Refusal) (x y : Line) → r ≡ Ok x → r ≡ Ok y → x ≡ y
same_ok r x y p q = cc

no_both : (r : Result Line Refusal) (x : Line) (e : Refusal) → r ≡ Ok x → r ≡ Err e → ⊥
no_both r x e p q = cc

module _ (w : ℕ) (result : Typing) (rows : List Row) where
  lines_same : (xs ys : List Line) (n : ℕ) → n ≤ length xs → n ≤ length ys → LawfulTo w result rows xs n → LawfulTo w result rows ys n → take n xs ≡ take n ys
  lines_same xs ys zero lx ly hx hy = refl
  lines_same xs ys (suc n) lx ly hx hy =
      let rest = lines_same xs ys n (omega arith) (omega arith) (λ p lt. hx p (omega arith)) (λ p lt. hy p (omega arith)) in
      let mine = hx n (omega arith) in
      let yours = ap (λ (ls : List Line). judge w result rows ls n (get_or rows n no_row)) rest ∙ hy n (omega arith) in
      let here = same_ok (judge w result rows (take n xs) n (get_or rows n no_row)) (at xs n) (at ys n) mine yours in
      subst (λ (m : ℕ). take m xs ≡ take m ys) (add-one n) (take_more_same xs ys n past_end (omega arith) (omega arith) rest here)

  pub accepted_once : (xs ys : List Line) → Accepted w result rows xs → Accepted w result rows ys → xs ≡ ys
  accepted_once xs ys a b =
      let lx = a.long in
      let ly = b.long in
      sym (take_all (length rows) xs (omega arith)) ∙ lines_same xs ys (length rows) (omega arith) (omega arith) a.lawful b.lawful ∙ take_all (length rows) ys (omega arith)

  pub not_both : (xs ys : List Line) (e : Refusal) (q : ℕ) → Accepted w result rows xs → Faulty w result rows ys e q → ⊥
  not_both xs ys e q a f =
      let lx = a.long in
      let ly = f.long in
      let lt = f.inside in
      let front = lines_same xs ys q (omega arith) (omega arith) (λ p h. a.lawful p (omega arith)) f.lawful ∙ take_all q ys (omega arith) in
      no_both (judge w result rows (take q xs) q (get_or rows q no_row)) (at xs q) e (a.lawful q lt)
      (ap (λ (ls : List Line). judge w result rows ls q (get_or rows q no_row)) front ∙ f.breaks)

  pub accepted_lawful : (xs : List Line) → Accepted w result rows xs → Lawful w result rows xs
  accepted_lawful xs a p lt = ap is_ok (a.lawful p lt)

  pub accepted_noted : (xs : List Line) → Accepted w result rows xs → Noted w result rows xs
  accepted_noted xs a p lt = ap line_of (a.lawful p lt)

ok_line : (r : Result Line Refusal) (x : Line) → is_ok r ≡ true → line_of r ≡ x → r ≡ Ok x
ok_line (Ok y) x h e = ap (λ (z : Line). Ok z) e
ok_line (Err e) x h f = cc

-- what the ghost fields of a checked sheet say together
pub noted_accepted : (w : ℕ) (result : Typing) (rows : List Row) (xs : List Line) → length xs ≡ length rows → Lawful w result rows xs → Noted w result rows xs → Accepted w result rows xs
noted_accepted w result rows xs long lawful noted = record { long = long; lawful = λ p lt. ok_line (judge w result rows (take p xs) p (get_or rows p no_row)) (at xs p) (lawful p lt) (noted p lt) }
