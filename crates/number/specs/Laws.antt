-- The laws of f32 that contracts above rest on: sizes, order, signs, and sums that keep the order.
use Rattle.std.specs.Prelude.{◌≡◌, ℕ, ◌+◌, ◌*◌, ◌^◌, ◌<◌, ◌≤◌, true, false, not, T, ◌⊎◌, List, length, pos, from_bits, is_nan, Float}
use Rattle.std.specs.Float.Ieee.{le, neg, add, sub, mul, div, of_int, fits}
use Rattle.std.specs.Float.Ieee.Scale.{finite}
use Rattle.std.specs.Float.Ieee.Positive.{positive}
use Rattle.std.specs.Float.{float_zero, float_max, float_min, binary32}
use Rattle.number.specs.Limits.{limit, in_limits}
use Rattle.number.specs.Sizes.{Within, Bounded, AtLeast, Each, total}

-- a whole multiple of 2 ^ k that is a value of f32: the multiple has at most 24 binary digits, and the product is below 2 ^ 128
abbrev pub Holdable : ℕ → ℕ → Type 0
Holdable n k = (n < 2 ^ 24) × (n * 2 ^ k < 2 ^ 128)

-- A bound on the operands is a bound on the result, although the result is rounded.
pub record Sizes : Type 0 where
  pub wider : (i j n k : ℕ) (x : Float) → i * 2 ^ j ≤ n * 2 ^ k → Within i j x → Within n k x
  pub negated : (n k : ℕ) (x : Float) → Within n k x → Within n k (neg x)
  pub sums : (i j k : ℕ) (x y : Float) → Holdable (i + j) k → Within i k x → Within j k y → Within (i + j) k (add binary32 x y)
  pub differences : (i j k : ℕ) (x y : Float) → Holdable (i + j) k → Within i k x → Within j k y → Within (i + j) k (sub binary32 x y)
  pub products : (i j k l : ℕ) (x y : Float) → Holdable (i * j) (k + l) → Within i k x → Within j l y → Within (i * j) (k + l) (mul binary32 x y)
  pub quotients : (i j k : ℕ) (x y : Float) → Holdable i (k + j) → Within i k x → AtLeast j y → Within i (k + j) (div binary32 x y)
  pub shares : (i k n : ℕ) (x : Float) → Holdable i k → Within i k x → 0 < n → n ≤ 2 ^ 24 → Within i k (div binary32 x (of_int binary32 (pos n)))
  pub larger : (n k : ℕ) (x y : Float) → Within n k x → Within n k y → Within n k (float_max x y)
  pub smaller : (n k : ℕ) (x y : Float) → Within n k x → Within n k y → Within n k (float_min x y)
  pub sums_of_many : (k : ℕ) (xs : List Float) → Holdable (length xs) k → Each (Bounded k) xs → Within (length xs) k (total xs)

-- `le` orders all values but NaN, the two zeros alike; `float_max` is the least upper bound of two, `float_min` the greatest lower bound.
pub record Order : Type 0 where
  pub reflexive : (x : Float) → T (not (is_nan x)) → T (le x x)
  pub transitive : (x y z : Float) → T (le x y) → T (le y z) → T (le x z)
  pub total : (x y : Float) → T (not (is_nan x)) → T (not (is_nan y)) → T (le x y) ⊎ T (le y x)
  pub most_above_first : (x y : Float) → T (not (is_nan x)) → T (not (is_nan y)) → T (le x (float_max x y))
  pub most_above_second : (x y : Float) → T (not (is_nan x)) → T (not (is_nan y)) → T (le y (float_max x y))
  pub most_is_least : (x y z : Float) → T (le x z) → T (le y z) → T (le (float_max x y) z)
  pub least_below_first : (x y : Float) → T (not (is_nan x)) → T (not (is_nan y)) → T (le (float_min x y) x)
  pub least_below_second : (x y : Float) → T (not (is_nan x)) → T (not (is_nan y)) → T (le (float_min x y) y)
  pub least_is_greatest : (x y z : Float) → T (le z x) → T (le z y) → T (le z (float_min x y))

-- Which results are not below zero. A negative zero is not below zero.
pub record Signs : Type 0 where
  pub quotients : (x y : Float) → T (le float_zero x) → T (positive y) → T (le float_zero (div binary32 x y))
  pub sums : (x y : Float) → T (finite x) → T (finite y) → T (le float_zero x) → T (le float_zero y) → T (le float_zero (add binary32 x y))
  pub products : (x y : Float) → T (finite x) → T (finite y) → T (le float_zero x) → T (le float_zero y) → T (le float_zero (mul binary32 x y))
  pub differences : (x y : Float) → T (finite x) → T (finite y) → T (le y x) → T (le float_zero (sub binary32 x y))
  pub clipped : (x : Float) → T (le float_zero (float_max x float_zero))

-- Sums and differences keep the order; a sum with what is not below zero is no smaller than the other summand.
pub record Monotone : Type 0 where
  pub sums : (x y u v : Float) → T (finite x) → T (finite y) → T (finite u) → T (finite v) → T (le x u) → T (le y v) → T (le (add binary32 x y) (add binary32 u v))
  pub differences : (x y u v : Float) → T (finite x) → T (finite y) → T (finite u) → T (finite v) → T (le x u) → T (le v y) → T (le (sub binary32 x y) (sub binary32 u v))
  pub grows : (x y : Float) → T (fits binary32 x) → T (finite x) → T (finite y) → T (le float_zero y) → T (le x (add binary32 x y))

-- The test of the limits says exactly: finite, and at most 2 ^ 20 in magnitude. 1,048,576 passes, and 1,048,576.125, the next f32, does not.
pub record Limits : Type 0 where
  pub bounded : (x : Float) → T (in_limits x) → Bounded 20 x
  pub passes : (x : Float) → Bounded 20 x → T (in_limits x)
  pub at_the_limit : in_limits limit ≡ true
  pub past_the_limit : in_limits (from_bits binary32 0x4980_0001) ≡ false
