-- What a variable may take, by shapes: a value of its shape, a scalar, or an interval for a vector.
use Rattle.std.proofs.Common.{◌≡◌, ℕ, Bool, true, false, not, ◌&&◌, ◌||◌, List, sym, refl, ◌∙◌}
use Rattle.std.proofs.lemmas.Bool.{and_parts}
use Rattle.types.specs.declared.kinds.Kind.{Kind}
use Rattle.types.specs.declared.kinds.Kind.TheVariants.{Boolean, Character, Integer}
use Rattle.types.specs.declared.kinds.Shape.{Shape}
use Rattle.types.specs.declared.kinds.Shape.TheVariants.{Scalar, Vector, Matrix, Interval}
use Rattle.types.specs.declared.typing.Typing.{Typing}
use Rattle.types.specs.Types.{same_shape}
use Rattle.types.specs.Typings.{is, of}
use Rattle.rules.specs.Rules.{takes}
use Rattle.element.specs.Cells.{put}
use Rattle.meaning.specs.declared.layouts.Layout.{Layout}
use Rattle.meaning.specs.Values.{Cell, known, fixed, layout_of}
use Rattle.meaning.specs.States.{Tables, table_of, with_table}
use Rattle.meaning.specs.Works.{changed}
use Rattle.meaning.proofs.Shells.{never}
use Rattle.meaning.proofs.Rows.{kinds_equal}

interval_kind : (f : Layout) → fixed f ≡ true → is Interval (known f) ≡ true → Integer ≡ f.kind
interval_kind f h t = go f.kind f.shape f.r f.s h t
  where
    go : (k : Kind) (x : Shape) (r s : ℕ) → fixed (layout_of k x r s) ≡ true → same_shape Interval x ≡ true → Integer ≡ k
    go k Scalar r s h t = never t
    go k Vector r s h t = never t
    go k Matrix r s h t = never t
    go Boolean Interval r s h t = never h
    go Character Interval r s h t = never h
    go Integer Interval r s h t = refl

-- w takes y
module _ (w : Typing) (y : Layout) (h : takes w (known y) ≡ true) where
  abbrev shapes : (same_shape w.shape y.shape || ((is Scalar (known y) && (is Vector w || is Matrix w)) || (is Interval (known y) && is Vector w))) ≡ true
  shapes = (and_parts (of w.kind (known y)) _ h).1

  pub taken_kind : of w.kind (known y) ≡ true
  taken_kind = (and_parts (of w.kind (known y)) _ h).0

  module _ (other : same_shape w.shape y.shape ≡ false) where
    -- a scalar or an interval
    pub taken_list : not (is Matrix (known y)) ≡ true
    taken_list = go y.shape (same_shape w.shape y.shape) (is Vector w || is Matrix w) (is Vector w) other shapes
      where
        go : (x : Shape) (b c d : Bool) → b ≡ false → (b || ((same_shape Scalar x && c) || (same_shape Interval x && d))) ≡ true → not (same_shape Matrix x) ≡ true
        go Scalar b c d e h = refl
        go Vector b c d e h = refl
        go Interval b c d e h = refl
        go Matrix true c d e h = never (sym e)
        go Matrix false c d e h = never h

    module _ (many : is Scalar (known y) ≡ false) where
      pub taken_interval : (is Interval (known y) ≡ true) × (is Vector w ≡ true)
      taken_interval = go (same_shape w.shape y.shape) (is Scalar (known y)) (is Vector w || is Matrix w) (is Interval (known y)) (is Vector w) other many shapes
        where
          go : (b s c i v : Bool) → b ≡ false → s ≡ false → (b || ((s && c) || (i && v))) ≡ true → (i ≡ true) × (v ≡ true)
          go true s c i v e f h = never (sym e)
          go false true c i v e f h = never (sym f)
          go false false c true true e f h = (refl, refl)
          go false false c true false e f h = never h
          go false false c false v e f h = never h

      pub taken_integers : fixed y ≡ true → w.kind ≡ Integer
      taken_integers law = kinds_equal w.kind y.kind taken_kind ∙ sym (interval_kind y law taken_interval.0)

-- the same change, told otherwise
pub retold : (k : Kind) (t : Tables) (to to' : ℕ) (f g : (k : Kind) → List (Cell k) → List (Cell k)) → to ≡ to' → f k (table_of k t) ≡ g k (table_of k t) → changed k t to f ≡ changed k t to' g
retold k t to to' f g e h = λ i. with_table k t (put (table_of k t) (e i) (h i))
