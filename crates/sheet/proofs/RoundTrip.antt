-- A file that holds a sheet is read as that sheet.
use Rattle.std.proofs.Common.{◌≡◌, ℕ, ◌+◌, ◌*◌, ◌<◌, ◌≤◌, List, length, Ok, Err, Result, sym, refl, ap, ◌∙◌, subst, arith, MatchResult}
use Rattle.sheet.specs.Answers.{GivenBack, Loaded, Unloaded}
use Rattle.sheet.specs.Files.{encode, last_of, trailer_for, Laid, Marked, Same, Typed}
use Rattle.sheet.specs.Heads.{numbers_of}
use Rattle.sheet.specs.Rooms.{rows_of, space}
use Rattle.sheet.specs.declared.draft.Draft.{Draft}
use Rattle.sheet.specs.declared.refusal.Refusal.{Refusal}
use Rattle.sheet.specs.declared.refusal.Refusal.TheVariants.{NotASheet, BadLayout, BadHead, NoRoom}
use Rattle.sheet.specs.declared.refusal.Returned.{Returned}
use Rattle.sheet.specs.declared.room.Room.{Room}
use Rattle.sheet.proofs.Back.{file_length, last_back, same_note, same_numbers, same_rows}
use Rattle.sheet.proofs.Heads.{head_small, heads_same}

module _ (d : Draft) where
  pub some_rows : 1 ≤ length (rows_of d)
  some_rows = omega (arith, d.some, d.rows.ok.0)

  pub few_rows : length (rows_of d) ≤ 512
  few_rows = omega (arith, d.few, d.rows.ok.0)

module _ (file note : List ℕ) (d : Draft) (short : length note ≤ 4096) (e : file ≡ encode note d) where
  long : length file ≡ length (encode note d)
  long = ap length e

  whole_length : length (encode note d) ≡ length note + 20 * length (rows_of d) + 20
  whole_length = file_length note (numbers_of d.head) (rows_of d) short (few_rows d) (head_small d.head)

  last : last_of file ≡ trailer_for note (numbers_of d.head) (rows_of d)
  last = ap last_of e ∙ last_back note (numbers_of d.head) (rows_of d) short (few_rows d) (head_small d.head)

  pub marked : Marked file
  marked = record { long = omega (arith, long, whole_length); mark = ap (λ t. t.mark) last }

  pub laid : Laid (length file) (last_of file)
  laid = subst (Laid (length file)) (sym last) (record { short = short; some = some_rows d; few = few_rows d; whole = sym (long ∙ whole_length) })

  pub typed : Typed (last_of file)
  typed = (d.head, ap (λ t. t.head) (sym last))

  pub unique : (b : List ℕ) (c : Draft) → length b ≤ 4096 → file ≡ encode b c → (b ≡ note) × Same c d
  unique b c l f =
      let same = sym f ∙ e in
      let m = numbers_of c.head in
      let n = numbers_of d.head in
      let xs = rows_of c in
      let ys = rows_of d in (
        same_note b note m n xs ys l short (few_rows c) (few_rows d) (head_small c.head) (head_small d.head) same,
        record {
          head = heads_same c.head d.head (same_numbers b note m n xs ys l short (few_rows c) (few_rows d) (head_small c.head) (head_small d.head) same);
          rows = same_rows b note m n xs ys l short (few_rows c) (few_rows d) (head_small c.head) (head_small d.head) same;
        },
      )

  pub count : (last_of file).count ≡ length (rows_of d)
  count = ap (λ t. t.count) last

  only_room : (n : ℕ) (x : Refusal) → Unloaded file n x → (x ≡ NoRoom) × (n < length (rows_of d))
  only_room n NotASheet h = absurd (h marked)
  only_room n BadLayout h = absurd (h.1 laid)
  only_room n BadHead h = absurd (h.2 typed)
  only_room n NoRoom h = (refl, omega (arith, h.3, count))

  pub again : {X : Type 0} (m : Room) (draft : X → Draft) (text : X → List ℕ) (r : Result X Returned) → MatchResult r (λ p. Loaded file m (text p) (draft p)) (λ x. GivenBack m x (Unloaded file (space m))) → MatchResult r (λ p. (text p ≡ note) × Same (draft p) d) (λ x. (x.refusal ≡ NoRoom) × (space m < length (rows_of d)))
  again m draft text (Ok p) h = unique (text p) (draft p) h.short h.bytes
  again m draft text (Err x) h = only_room (space m) x.refusal h.why
