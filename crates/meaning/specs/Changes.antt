-- What rows that declare, assign and store give to a variable.
use Rattle.std.specs.Prelude.{ℕ, ◌+◌, ◌*◌, Bool, true, cond, not, ◌&&◌, ◌||◌, List, [], ◌∷◌, replicate, Some, None, Ok, Option, ◌==◌, slice_index_or, slice_set}
use Rattle.types.specs.declared.kinds.Kind.TheVariants.{Integer}
use Rattle.types.specs.declared.kinds.Shape.TheVariants.{Scalar, Vector, Matrix}
use Rattle.types.specs.declared.typing.Typing.{Typing}
use Rattle.types.specs.Types.{same_shape, is_known, fits_in}
use Rattle.types.specs.Typings.{is, of, alone, index, matches}
use Rattle.rules.specs.Rules.{takes}
use Rattle.element.specs.Cells.{rows_of}
use Rattle.element.specs.Matrices.{resized}
use Rattle.picks.specs.Indices.{place_of, first_outside, first_outside2}
use Rattle.picks.specs.Stores.{stored}
use Rattle.meaning.specs.declared.layouts.Layout.{Layout}
use Rattle.meaning.specs.Values.{Cell, null_of, layout_of, area, Value, exactly, elements_of, first}
use Rattle.meaning.specs.Elements.{along}
use Rattle.meaning.specs.Plans.{Plan, simple}
use Rattle.meaning.specs.Expressions.{in_order, count, listing, size_or}

-- ---- declare: w is the written type
abbrev pub nulls : Typing → Plan
nulls w =
    simple (is_known w.r && is_known w.s) (layout_of w.kind w.shape (size_or w.r 0) (size_or w.s 0))
    (Ok (replicate (size_or w.r 0 * size_or w.s 0) (null_of w.kind)))

-- the value has the variable's shape: otherwise it is a scalar to spread, or an interval for a vector
abbrev pub alike : Typing → Value → Bool
alike w v = same_shape w.shape v.layout.shape

-- how many columns the value has for the variable, and its elements
abbrev pub columns_for : Typing → Value → ℕ
columns_for w v = cond (alike w v) v.layout.s (count v)

abbrev pub items_for : (w : Typing) → Value → List (Cell w.kind)
items_for w v = cond (alike w v) (elements_of w.kind v) (listing w.kind v)

-- an interval is counted only where it is taken apart
abbrev pub counted_for : Typing → Value → Option ℕ
counted_for w v = cond (alike w v) None (Some (count v))

abbrev pub declared_layout : Typing → Value → Layout
declared_layout w v = layout_of w.kind w.shape (size_or w.r v.layout.r) (size_or w.s (columns_for w v))

-- a scalar fills written sizes; any other value is padded with nulls, and may not be longer
abbrev pub declared : Typing → Value → Plan
declared w v =
    let fill = not (alike w v) && is Scalar (exactly v) in
    record {
      ruled = takes w (exactly v) && (not fill || (is_known w.r && is_known w.s));
      ordered = alike w v || in_order v;
      counted = counted_for w v;
      layout = declared_layout w v;
      agree = fill || (fits_in (Some v.layout.r) w.r && fits_in (Some (columns_for w v)) w.s);
      outside = None;
      elements = Ok (cond fill (replicate (area (declared_layout w v)) (slice_index_or (elements_of w.kind v) 0 (null_of w.kind))) (
          resized (null_of w.kind) (declared_layout w v).r (declared_layout w v).s (rows_of v.layout.r (columns_for w v) (items_for w v))));
    }

-- ---- assign: the variable's value, then what it takes; nothing is padded
abbrev pub assigned : Value → Value → Plan
assigned a v =
    let w = exactly a in
    record {
      ruled = takes w (exactly v);
      ordered = alike w v || in_order v;
      counted = counted_for w v;
      layout = a.layout;
      agree = cond (alike w v) (matches w (exactly v)) (is Scalar (exactly v) || count v == a.layout.s);
      outside = None;
      elements = Ok (cond (not (alike w v) && is Scalar (exactly v)) (replicate (area a.layout) (slice_index_or (elements_of a.layout.kind v) 0 (null_of a.layout.kind))) (items_for w v));
    }

-- ---- store
-- c into vector a at index b, left to right: one place takes a scalar, several a scalar or an equally long vector
abbrev pub stored_at : Value → Value → Value → Plan
stored_at a b c =
    record {
      ruled = is Vector (exactly a) && (index (exactly b) && (of a.layout.kind (exactly c) && (is Scalar (exactly c) || (is Vector (exactly c) && not (is Scalar (exactly b))))));
      ordered = in_order b;
      counted = Some (count b);
      layout = a.layout;
      agree = is Scalar (exactly c) || (count b == c.layout.s);
      outside = first_outside 1 a.layout.s (listing Integer b);
      elements = Ok (stored a.elements (listing Integer b) (along a.layout.kind (count b) c));
    }

-- scalar d into matrix a at row b and column c
abbrev pub stored_at_two : Value → Value → Value → Value → Plan
stored_at_two a b c d =
    record {
      ruled = is Matrix (exactly a) && (alone Integer (exactly b) && (alone Integer (exactly c) && alone a.layout.kind (exactly d)));
      ordered = true;
      counted = None;
      layout = a.layout;
      agree = true;
      outside = first_outside2 a.layout.r a.layout.s (first b ∷ []) (first c ∷ []);
      elements = Ok (slice_set a.elements (place_of (first b) * a.layout.s + place_of (first c)) (slice_index_or (elements_of a.layout.kind d) 0 (null_of a.layout.kind)));
    }
