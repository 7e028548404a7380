-- How long the lists of elements are.
use Rattle.std.proofs.Common.{◌≡◌, ℕ, zero, suc, ◌+◌, ◌*◌, List, [], ◌∷◌, ◌++◌, map, length, ℤ, Ok, Err, Result, sym, refl, ap, ◌∙◌, suc-mul, zero-mul, arith}
use Rattle.std.specs.List.{range_with_len}
use Rattle.std.proofs.lemmas.List.{length-append, length-map}
use Rattle.std.proofs.lemmas.List.FromFn.{length-map-range_with_len}
use Rattle.arithmetic.specs.declared.faults.ArithmeticFault.{ArithmeticFault}
use Rattle.element.specs.Cells.{tabulate, padded, joined, cells, rows_of}
use Rattle.element.specs.Matrices.{stacked}
use Rattle.element.proofs.Writes.{length_padded}
use Rattle.picks.specs.Indices.{place_of}
use Rattle.picks.specs.Picks.{picked, crossed}
use Rattle.elementwise.specs.Results.{map2, before, collected}

pub ok_length : {X E : Type 0} (ys : List X) (n : ℕ) → length ys ≡ n → (xs : List X) → ◌≡◌ {A = Result (List X) E} (Ok ys) (Ok xs) → length xs ≡ n
ok_length ys n l xs e = let same : ys ≡ xs = cc in ap length (sym same) ∙ l

before_ok : {X E : Type 0} (x : X) (r : Result (List X) E) (ys : List X) → before x r ≡ Ok ys → (xs : List X) × (r ≡ Ok xs) × (x ∷ xs ≡ ys)
before_ok x (Ok xs) ys h = (xs, refl, cc)
before_ok x (Err e) ys h = cc

pub length_collected : {X : Type 0} (k : ℕ) (rs : List (Result X ArithmeticFault)) (xs : List X) → collected k rs ≡ Ok xs → length xs ≡ length rs
length_collected k [] xs h = ok_length [] 0 refl xs h
length_collected k (Ok x ∷ rs) xs h =
    let b = before_ok x (collected (k + 1) rs) xs h in
    ap length (sym b.2) ∙ ap suc (length_collected (k + 1) rs b.0 b.1)
length_collected k (Err f ∷ rs) xs h = cc

pub length_map2 : {X Y Z : Type 0} (f : X → Y → Z) (xs : List X) (ys : List Y) (n : ℕ) → length xs ≡ n → length ys ≡ n → length (map2 f xs ys) ≡ n
length_map2 f [] ys n p q = p
length_map2 f (x ∷ xs) [] n p q = q
length_map2 f (x ∷ xs) (y ∷ ys) n p q = ap suc (length_map2 f xs ys (length xs) refl (omega arith)) ∙ p

pub length_tabulate : {X : Type 0} (n : ℕ) (f : ℕ → X) → length (tabulate n f) ≡ n
length_tabulate n f = length-map-range_with_len f 0 n

-- lists of c elements each, one after another
pub length_joined_map : {X Y : Type 0} (c : ℕ) (g : Y → List X) (ys : List Y) → ((y : Y) → length (g y) ≡ c) → length (joined (map g ys)) ≡ length ys * c
length_joined_map c g [] h = sym (zero-mul c)
length_joined_map c g (y ∷ ys) h = length-append (g y) (joined (map g ys)) ∙ omega (arith, h y, length_joined_map c g ys h, suc-mul (length ys) c)

joined_counting : {X : Type 0} (a n c : ℕ) (g : ℕ → List X) → ((i : ℕ) → length (g i) ≡ c) → length (joined (map g (range_with_len a n))) ≡ n * c
joined_counting a zero c g h = sym (zero-mul c)
joined_counting a (suc n) c g h = length-append (g a) (joined (map g (range_with_len (a + 1) n))) ∙ omega (arith, h a, joined_counting (a + 1) n c g h, suc-mul n c)

pub length_joined : {X : Type 0} (n c : ℕ) (g : ℕ → List X) → ((i : ℕ) → length (g i) ≡ c) → length (joined (tabulate n g)) ≡ n * c
length_joined n c g h = joined_counting 0 n c g h

pub length_crossed : {X : Type 0} (null : X) (s : ℕ) (xs : List X) (is js : List ℤ) → length (crossed null s xs is js) ≡ length is * length js
length_crossed null s xs is js = length_joined_map (length js) (λ i. picked null (cells xs (place_of i * s) s) js) is (λ i. length-map js _)

pub length_stacked : {X : Type 0} (null : X) (r s n : ℕ) (xs ys : List X) → length (stacked null n (rows_of r s xs) ys) ≡ (r + 1) * n
length_stacked null r s n xs ys =
    let rows = rows_of r s xs in
    length_joined_map n (padded null n) (rows ++ ys ∷ []) (λ zs. length_padded null n zs)
    ∙ ap (λ (m : ℕ). m * n) (length-append rows (ys ∷ []) ∙ ap (λ (m : ℕ). m + 1) (length_tabulate r (λ k. cells xs (k * s) s)))
