-- The fields that a code names; each other field but the line is 0.
use Rattle.std.specs.Prelude.{ℕ, Bool, false, cond, ◌&&◌, ◌||◌, ℤ, pos, negsuc, ◌==◌}
use Rattle.sheet.specs.declared.row.Row.{Row}
use Rattle.instruction.specs.declared.fields.Fields.{Fields}
use Rattle.instruction.specs.declared.fields.Fields.TheVariants.{Nothing, A, B, AN, AB, AC, ABC, ABCD, ARS, ABCRS}

abbrev pub fields_of : ℕ → Fields
fields_of k =
    cond (k == 1) AN (
    cond (k == 2 || (k == 3 || (k == 28 || (k == 32 || (k == 33 || k == 34))))) A (
    cond (k == 4 || (k == 10 || k == 11)) AC (
    cond (k == 5 || (k == 9 || k == 22)) ABC (
    cond (k == 6 || (k == 7 || (k == 8 || (k == 21 || (k == 24 || k == 27))))) AB (
    cond (k == 25 || (k == 26 || k == 31)) B (
    cond (k == 12) ARS (
    cond (k == 20) ABCRS (
    cond (k == 23) ABCD Nothing))))))))

abbrev pub is_zero : ℤ → Bool
is_zero (pos n) = n == 0
is_zero (negsuc n) = false

abbrev pub plain : Fields → Row → Bool
plain Nothing x = x.a == 0 && (x.b == 0 && (x.c == 0 && (x.d == 0 && (x.r == 0 && (x.s == 0 && is_zero x.n)))))
plain A x = x.b == 0 && (x.c == 0 && (x.d == 0 && (x.r == 0 && (x.s == 0 && is_zero x.n))))
plain B x = x.a == 0 && (x.c == 0 && (x.d == 0 && (x.r == 0 && (x.s == 0 && is_zero x.n))))
plain AN x = x.b == 0 && (x.c == 0 && (x.d == 0 && (x.r == 0 && x.s == 0)))
plain AB x = x.c == 0 && (x.d == 0 && (x.r == 0 && (x.s == 0 && is_zero x.n)))
plain AC x = x.b == 0 && (x.d == 0 && (x.r == 0 && (x.s == 0 && is_zero x.n)))
plain ABC x = x.d == 0 && (x.r == 0 && (x.s == 0 && is_zero x.n))
plain ABCD x = x.r == 0 && (x.s == 0 && is_zero x.n)
plain ARS x = x.b == 0 && (x.c == 0 && (x.d == 0 && is_zero x.n))
plain ABCRS x = x.d == 0 && is_zero x.n
