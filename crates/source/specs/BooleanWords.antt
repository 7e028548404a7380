-- Byte by byte, a word comes to the boolean that it writes.
use Rattle.std.proofs.Common.{◌≡◌, ℕ, List, [], ◌∷◌, fold, refl, ap}
use Rattle.source.specs.declared.letter.Letter.TheVariants.{Missing, Several}
use Rattle.source.specs.Letters.{joins, truth}
use Rattle.source.specs.Reads.{boolean_told}

several : (cs : List ℕ) → fold joins Several cs ≡ Several
several [] = refl
several (c ∷ cs) = several cs

pub says : (w : List ℕ) → truth (fold joins Missing w) ≡ boolean_told w
says [] = refl
says (b ∷ []) = refl
says (b ∷ c ∷ cs) = ap truth (several cs)
