-- One byte more of the blanks in front, or of a word.
use Rattle.std.proofs.Common.{◌≡◌, ℕ, ◌+◌, ◌≤◌, true, false, List, [], ◌∷◌, length, drop, fold, Some, sym, ap, ◌∙◌, arith}
use Rattle.std.proofs.lemmas.Bool.{cond-true, cond-false}
use Rattle.source.specs.Taking.{gone, Took}
use Rattle.source.specs.Waiting.{first, behind}
use Rattle.source.specs.Words.{blank, after_blanks, run, after_run}
use Rattle.source.proofs.Chains.{took_more}

-- what waits begins with its first byte
starts : (ys zs : List ℕ) (b : ℕ) → first ys ≡ Some b → zs ≡ behind ys → ys ≡ b ∷ zs
starts [] zs b h e = cc
starts (y ∷ ys) zs b h e = cc

-- from xs to ys blanks were taken, and counted from n to m
pub record Skips (xs ys : List ℕ) (n m : ℕ) : Type 0 where
  pub waits : after_blanks ys ≡ after_blanks xs
  pub took : (ws : List ℕ) (k : ℕ) → Took ys ws m k → Took xs ws n k

-- from xs to ys bytes of a word were taken, and counted from n to m; they made s of r
pub record Scans {A : Type 0} (after : A → ℕ → A) (xs ys : List ℕ) (n m : ℕ) (r s : A) : Type 0 where
  pub value : fold after s (run ys) ≡ fold after r (run xs)
  pub waits : after_run ys ≡ after_run xs
  pub took : (ws : List ℕ) (k : ℕ) → Took ys ws m k → Took xs ws n k

-- from xs to ys n blanks were taken
pub record Skipped (xs ys : List ℕ) (n : ℕ) : Type 0 where
  pub waits : after_blanks ys ≡ after_blanks xs
  pub count : n + length ys ≡ length xs
  pub short : length xs ≤ 16777216

-- from xs to ys n bytes of a word were taken; they made s of r
pub record Scanned {A : Type 0} (after : A → ℕ → A) (xs ys : List ℕ) (n : ℕ) (r s : A) : Type 0 where
  pub value : fold after s (run ys) ≡ fold after r (run xs)
  pub waits : after_run ys ≡ after_run xs
  pub count : n + length ys ≡ length xs
  pub short : length xs ≤ 16777216

module _ (ys zs : List ℕ) (b : ℕ) (f : first ys ≡ Some b) (e : zs ≡ behind ys) where
  same_after_blanks : true ≡ blank b → after_blanks zs ≡ after_blanks ys
  same_after_blanks is = sym (ap after_blanks (starts ys zs b f e) ∙ cond-true (blank b) (after_blanks zs) (b ∷ zs) (sym is))

  same_after_run : blank b ≡ false → after_run zs ≡ after_run ys
  same_after_run not = sym (ap after_run (starts ys zs b f e) ∙ cond-false (blank b) (b ∷ zs) (after_run zs) not)

  same_value : {A : Type 0} (after : A → ℕ → A) (r s : A) → blank b ≡ false → s ≡ after r b → fold after s (run zs) ≡ fold after r (run ys)
  same_value after r s not a = ap (λ (x : _). fold after x (run zs)) a ∙ sym (ap (fold after r) (ap run (starts ys zs b f e) ∙ cond-false (blank b) [] (b ∷ run zs) not))

  -- one byte is taken and counted
  pub took_one : (n : ℕ) → n + 1 ≤ 4294967295 → Took ys zs n (n + 1)
  took_one n h =
      let here = starts ys zs b f e in
      let one : gone ys zs ≡ 1 = omega (arith, ap length here) in
      record { front = sym (ap (drop 1) here) ∙ ap (λ i. drop i ys) (sym one); count = omega (arith, one, h) }

module _ (xs ys zs : List ℕ) (n m k b : ℕ) (f : first ys ≡ Some b) (e : zs ≡ behind ys) (t : Took ys zs m k) where
  pub skips_more : Skips xs ys n m → true ≡ blank b → Skips xs zs n k
  skips_more h is =
      record {
        waits = same_after_blanks ys zs b f e is ∙ h.waits;
        took = λ ws l u. h.took ws l (took_more ys zs ws m k l t u);
      }

  pub scans_more : {A : Type 0} (after : A → ℕ → A) (q r s : A) → Scans after xs ys n m q r → blank b ≡ false → s ≡ after r b → Scans after xs zs n k q s
  scans_more after q r s h not a =
      record {
        value = same_value ys zs b f e after r s not a ∙ h.value;
        waits = same_after_run ys zs b f e not ∙ h.waits;
        took = λ ws l u. h.took ws l (took_more ys zs ws m k l t u);
      }

module _ (xs ys zs : List ℕ) (n b : ℕ) (f : first ys ≡ Some b) (e : zs ≡ behind ys) where
  pub skipped_more : Skipped xs ys n → true ≡ blank b → Skipped xs zs (n + 1)
  skipped_more h is =
      record {
        waits = same_after_blanks ys zs b f e is ∙ h.waits;
        count = omega (arith, h.count, ap length (starts ys zs b f e));
        short = h.short;
      }

  pub scanned_more : {A : Type 0} (after : A → ℕ → A) (q r s : A) → Scanned after xs ys n q r → blank b ≡ false → s ≡ after r b → Scanned after xs zs (n + 1) q s
  scanned_more after q r s h not a =
      record {
        value = same_value ys zs b f e after r s not a ∙ h.value;
        waits = same_after_run ys zs b f e not ∙ h.waits;
        count = omega (arith, h.count, ap length (starts ys zs b f e));
        short = h.short;
      }

  -- a byte more is still within what a source may have
  pub room : n + length ys ≡ length xs → length xs ≤ 16777216 → n + 1 ≤ 16777216
  room c h = omega (arith, ap length (starts ys zs b f e))
