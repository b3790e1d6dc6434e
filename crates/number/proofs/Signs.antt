-- Which results are not below zero. A zero is not, whatever its sign.
use Rattle.std.proofs.Common.{◌≡◌, ℕ, ◌+◌, ◌-◌, ◌*◌, ◌<◌, ◌≤◌, Bool, true, false, cond, ◌||◌, T, eqb, ltb, ℤ, pos, sym, ap, ◌∙◌, subst, zero-le, le_trans, le_of_eq, mul-pos, not-le_of_lt, arith, eqb→eq, ltb→lt}
use lib.Ieee.{Float, nan, inf, fin, Format, unlike, up, down, round, sum, add, sub, mul, div, le, is_nan}
use lib.Ieee.Fits.{down_pos, up_pos}
use lib.Ieee.Scale.{finite}
use lib.Ieee.Positive.{positive}
use Rattle.std.specs.Float as Floats
use Rattle.std.specs.Float.{float_max}
use Rattle.std.proofs.num.Values.{round-zero}
use Rattle.number.proofs.Order.{le_in, le_out}
use Rattle.number.proofs.Sizes.{zero_le_round}

abbrev NotBelow : Float → Type 0
NotBelow x = T (le Floats.float_zero x)

zero_times : (i j : ℕ) → i ≡ 0 → i * j ≡ 0
zero_times i j q = ap (λ (z : ℕ). z * j) q ∙ omega arith

zero_le_zero : (s : Bool) → NotBelow (fin s 0 (pos 0))
zero_le_zero true = le_in false 0 (pos 0) true 0 (pos 0) (omega arith)
zero_le_zero false = le_in false 0 (pos 0) false 0 (pos 0) (omega arith)

-- a zero, whatever its sign, rounds to a zero
pub round_flat : (f : Format) (s : Bool) (a c : ℕ) → 0 < c → a ≡ 0 → round f s a c ≡ fin s 0 (pos 0)
round_flat f s a c C z = ap (λ (i : ℕ). round f s i c) z ∙ round-zero f s c C

zero_le_flat : (f : Format) (s : Bool) (a c : ℕ) → 0 < c → a ≡ 0 → NotBelow (round f s a c)
zero_le_flat f s a c C z = subst NotBelow (sym (round_flat f s a c C z)) (zero_le_zero s)

-- a negative value that is not below zero is a zero
flat : (m : ℕ) (e : ℤ) → NotBelow (fin true m e) → m * up e ≡ 0
flat m e h = omega (arith, le_out false 0 (pos 0) true m e h)

-- ---- quotients and products

pub div_sign : (f : Format) (x y : Float) → NotBelow x → T (positive y) → NotBelow (div f x y)
unfolding div
div_sign f nan y h p = unfold le in absurd h
div_sign f (inf s) nan h p = absurd p
div_sign f (inf s) (inf t) h p = absurd p
div_sign f (inf s) (fin true n d) h p = absurd p
div_sign f (inf true) (fin false n d) h p = unfold le in absurd h
div_sign f (inf false) (fin false n d) h p = unfold le in tt
div_sign f (fin s m e) nan h p = absurd p
div_sign f (fin s m e) (inf t) h p = absurd p
div_sign f (fin s m e) (fin true n d) h p = absurd p
div_sign f (fin s m e) (fin false n d) h p = go (eqb n 0) (eqb→eq n 0)
  where
    over : 0 < n * up d * down e
    over = mul-pos (mul-pos (ltb→lt 0 n p) (up_pos d)) (down_pos e)

    by : (t : Bool) → NotBelow (fin t m e) → NotBelow (round f (unlike t false) (m * up e * down d) (n * up d * down e))
    by true g = zero_le_flat f true (m * up e * down d) (n * up d * down e) over (zero_times (m * up e) (down d) (flat m e g))
    by false g = zero_le_round f (m * up e * down d) (n * up d * down e) over

    none : (i : ℕ) → i ≡ 0 → 0 < i → ⊥
    none i q r = omega arith

    go : (z : Bool) → (T z → n ≡ 0) → NotBelow (cond z (cond (eqb m 0) nan (inf (unlike s false))) (round f (unlike s false) (m * up e * down d) (n * up d * down e)))
    go true g = absurd (none n (g tt) (ltb→lt 0 n p))
    go false g = by s h

pub mul_sign : (f : Format) (x y : Float) → T (finite x) → T (finite y) → NotBelow x → NotBelow y → NotBelow (mul f x y)
unfolding mul
mul_sign f nan y p q h k = absurd p
mul_sign f (inf s) y p q h k = absurd p
mul_sign f (fin s m e) nan p q h k = absurd q
mul_sign f (fin s m e) (inf t) p q h k = absurd q
mul_sign f (fin false m e) (fin false n d) p q h k = zero_le_round f _ _ (mul-pos (down_pos e) (down_pos d))
mul_sign f (fin true m e) (fin true n d) p q h k = zero_le_round f _ _ (mul-pos (down_pos e) (down_pos d))
mul_sign f (fin true m e) (fin false n d) p q h k =
    zero_le_flat f true (m * up e * (n * up d)) (down e * down d) (mul-pos (down_pos e) (down_pos d)) (zero_times (m * up e) (n * up d) (flat m e h))
mul_sign f (fin false m e) (fin true n d) p q h k =
    zero_le_flat f true (m * up e * (n * up d)) (down e * down d) (mul-pos (down_pos e) (down_pos d)) (ap (λ (z : ℕ). m * up e * z) (flat n d k) ∙ omega arith)

-- ---- sums and differences

-- ±a + ±b, whose exact value is not below zero
sum_sign : (f : Format) (s : Bool) (a : ℕ) (t : Bool) (b c : ℕ) → 0 < c → (T s → T t → (a ≡ 0) × (b ≡ 0)) → (T s → a ≤ b) → (T t → b ≤ a) → NotBelow (sum f s a t b c)
unfolding sum
sum_sign f false a false b c C p q r = zero_le_round f (a + b) c C
sum_sign f true a true b c C p q r = let z = p tt tt in zero_le_flat f true (a + b) c C (omega arith)
sum_sign f false a true b c C p q r = go (ltb a b) (ltb→lt a b) (r tt)
  where
    go : (z : Bool) → (T z → a < b) → b ≤ a → NotBelow (cond z (round f true (b - a) c) (round f false (a - b) c))
    go true g h = absurd (not-le_of_lt (g tt) h)
    go false g h = zero_le_round f (a - b) c C
sum_sign f true a false b c C p q r = go (ltb a b) (ltb b a) (ltb→lt b a) (q tt)
  where
    go : (z w : Bool) → (T w → b < a) → a ≤ b → NotBelow (cond z (round f false (b - a) c) (round f w (a - b) c))
    go true w g h = zero_le_round f (b - a) c C
    go false true g h = absurd (not-le_of_lt (g tt) h)
    go false false g h = zero_le_round f (a - b) c C

pub add_sign : (f : Format) (x y : Float) → T (finite x) → T (finite y) → NotBelow x → NotBelow y → NotBelow (add f x y)
unfolding add
add_sign f nan y p q h k = absurd p
add_sign f (inf s) y p q h k = absurd p
add_sign f (fin s m e) nan p q h k = absurd q
add_sign f (fin s m e) (inf t) p q h k = absurd q
add_sign f (fin s m e) (fin t n d) p q h k =
    sum_sign f s (m * up e * down d) t (n * up d * down e) (down e * down d) (mul-pos (down_pos e) (down_pos d))
    (λ u v. (none s m e d u h, none t n d e v k)) (λ u. le_trans (le_of_eq (none s m e d u h)) zero-le) (λ v. le_trans (le_of_eq (none t n d e v k)) zero-le)
  where
    none : (r : Bool) (i : ℕ) (g l : ℤ) → T r → NotBelow (fin r i g) → i * up g * down l ≡ 0
    none true i g l u o = zero_times (i * up g) (down l) (flat i g o)
    none false i g l u o = absurd u

pub sub_sign : (f : Format) (x y : Float) → T (finite x) → T (finite y) → T (le y x) → NotBelow (sub f x y)
unfolding sub
sub_sign f nan y p q h = absurd p
sub_sign f (inf s) y p q h = absurd p
sub_sign f (fin s m e) nan p q h = absurd q
sub_sign f (fin s m e) (inf t) p q h = absurd q
sub_sign f (fin false m e) (fin false n d) p q h =
    sum_sign f false (m * up e * down d) true (n * up d * down e) (down e * down d) (mul-pos (down_pos e) (down_pos d)) (λ u v. absurd u) (λ u. absurd u) (λ v. omega (arith, le_out false n d false m e h))
sub_sign f (fin true m e) (fin true n d) p q h =
    sum_sign f true (m * up e * down d) false (n * up d * down e) (down e * down d) (mul-pos (down_pos e) (down_pos d)) (λ u v. absurd v) (λ u. omega (arith, le_out true n d true m e h)) (λ v. absurd v)
sub_sign f (fin false m e) (fin true n d) p q h =
    sum_sign f false (m * up e * down d) false (n * up d * down e) (down e * down d) (mul-pos (down_pos e) (down_pos d)) (λ u v. absurd u) (λ u. absurd u) (λ v. absurd v)
sub_sign f (fin true m e) (fin false n d) p q h =
    let o = le_out false n d true m e h in
    sum_sign f true (m * up e * down d) true (n * up d * down e) (down e * down d) (mul-pos (down_pos e) (down_pos d)) (λ u v. (omega arith, omega arith)) (λ u. omega arith) (λ v. omega arith)

-- ---- what is clipped at zero, a NaN included

pub most_zero : (x : Float) → NotBelow (float_max x Floats.float_zero)
unfolding is_nan
most_zero x = go (le Floats.float_zero x) (λ t. t)
  where
    go : (b : Bool) → (T b → NotBelow x) → NotBelow (cond (b || false) x Floats.float_zero)
    go true h = h tt
    go false h = zero_le_zero false
