-- The numbers of a page description: digits, and perhaps a point and more digits.
use Rattle.std.specs.Prelude.{ℕ, ◌+◌, ◌-◌, ◌*◌, Bool, cond, ◌&&◌, List, [], ◌∷◌, pos, Some, None, Option, ◌==◌, nat_le, Float}
use Rattle.std.specs.Float.{binary32}
use Rattle.std.specs.Float.Ieee.{div, of_int}
use Rattle.std.specs.Option.{option_map}
use Rattle.page_words.specs.declared.decimal.Decimal.{Decimal}
use Rattle.page_words.specs.declared.decimal.Decimal.TheVariants.{Empty, Whole, Point, Fraction}

abbrev pub and_then : {X Y : Type 0} → Option X → (X → Option Y) → Option Y
and_then None f = None
and_then (Some x) f = f x

abbrev pub is_digit : ℕ → Bool
is_digit b = nat_le 48 b && nat_le b 57

-- a digit goes on at the right; seven in all are the most
abbrev pub appended : ℕ → ℕ → Option ℕ
appended value digit = cond (nat_le value 999_999) (Some (value * 10 + digit)) None

-- six digits after the point are the most
abbrev pub with_digit : Decimal → ℕ → Option Decimal
with_digit Empty digit = Some (Whole digit)
with_digit (Whole value) digit = option_map Whole (appended value digit)
with_digit (Point value) digit = option_map (λ v. Fraction v 10) (appended value digit)
with_digit (Fraction value scale) digit = cond (nat_le scale 100_000) (option_map (λ v. Fraction v (scale * 10)) (appended value digit)) None

-- one point, after a digit; the next digit is still to come
abbrev pub with_point : Decimal → Option Decimal
with_point Empty = None
with_point (Whole value) = Some (Point value)
with_point (Point value) = None
with_point (Fraction value scale) = None

abbrev pub after : Decimal → ℕ → Option Decimal
after d b = cond (is_digit b) (with_digit d (b - 48)) (cond (b == 46) (with_point d) None)

abbrev pub after_all : Decimal → List ℕ → Option Decimal
after_all d [] = Some d
after_all d (b ∷ bs) = and_then (after d b) (λ e. after_all e bs)

-- the digits as one whole number, over the power of ten of those after the point, rounded once
abbrev pub quotient : ℕ → ℕ → Float
quotient value scale = div binary32 (of_int binary32 (pos value)) (of_int binary32 (pos scale))

abbrev pub number_read : Decimal → Option Float
number_read Empty = None
number_read (Whole value) = Some (quotient value 1)
number_read (Point value) = None
number_read (Fraction value scale) = Some (quotient value scale)

abbrev pub decimal : List ℕ → Option Float
decimal text = and_then (after_all Empty text) number_read
