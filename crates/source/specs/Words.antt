-- The bytes that wait, cut into blanks, a word and the rest.
use Rattle.std.specs.Prelude.{◌≡◌, ℕ, Bool, cond, ◌||◌, List, [], ◌∷◌, ◌++◌, take, ◌==◌}

-- space, tab, line feed, carriage return
abbrev pub blank : ℕ → Bool
blank b = b == 32 || (b == 9 || (b == 10 || b == 13))

-- the blanks in front, and what follows them
abbrev pub blanks : List ℕ → List ℕ
blanks [] = []
blanks (b ∷ bs) = cond (blank b) (b ∷ blanks bs) []

abbrev pub after_blanks : List ℕ → List ℕ
after_blanks [] = []
after_blanks (b ∷ bs) = cond (blank b) (after_blanks bs) (b ∷ bs)

-- the bytes before the first blank, and what follows them
abbrev pub run : List ℕ → List ℕ
run [] = []
run (b ∷ bs) = cond (blank b) [] (b ∷ run bs)

abbrev pub after_run : List ℕ → List ℕ
after_run [] = []
after_run (b ∷ bs) = cond (blank b) (b ∷ bs) (after_run bs)

-- the next word, and what waits once it is read
abbrev pub word : List ℕ → List ℕ
word bs = run (after_blanks bs)

abbrev pub rest : List ℕ → List ℕ
rest bs = after_run (after_blanks bs)

-- blanks and a word were removed, and nothing else
abbrev pub Parted : List ℕ → List ℕ → Type 0
Parted before after = before ≡ blanks before ++ (word before ++ after)

-- the first byte was removed, if there was one
abbrev pub FirstParted : List ℕ → List ℕ → Type 0
FirstParted before after = before ≡ take 1 before ++ after
