-- The tests of a number against powers of two say exactly how large it is.
use Rattle.std.proofs.Common.{◌≡◌, ℕ, suc, ◌*◌, ◌^◌, ◌≤◌, true, false, T, pos, negsuc, sym, refl, subst, le_trans, le_of_eq, mul_comm, arith, lt→ltb}
use lib.Ieee.{Float, nan, inf, fin, binary32, up, down, neg, le, of_bits}
use lib.Ieee.Fits.{and_i, and_l, and_r, down_pos}
use lib.Ieee.Positive.{positive, first_pos}
use Rattle.number.specs.Limits.{limit, in_limits}
use Rattle.number.specs.Sizes.{Bounded, AtLeast}
use Rattle.number.proofs.Order.{le_in, le_out}

-- 2 ^ k and its negative
abbrev pub power : ℕ → Float
power k = fin false 1 (pos k)

abbrev pub minus_power : ℕ → Float
minus_power k = fin true 1 (pos k)

pub bounded_between : (k : ℕ) (x : Float) → T (le x (power k)) → T (le (minus_power k) x) → Bounded k x
bounded_between k nan h g = unfold le in absurd h
bounded_between k (inf true) h g = unfold le in absurd g
bounded_between k (inf false) h g = unfold le in absurd h
bounded_between k (fin false m e) h g = omega (arith, le_out false m e false 1 (pos k) h)
bounded_between k (fin true m e) h g = omega (arith, le_out true 1 (pos k) true m e g)

pub between_bounded : (k : ℕ) (x : Float) → Bounded k x → T (le x (power k)) × T (le (minus_power k) x)
between_bounded k nan b = absurd b
between_bounded k (inf s) b = absurd b
between_bounded k (fin false m e) b = (le_in false m e false 1 (pos k) (omega arith), le_in true 1 (pos k) false m e (omega arith))
between_bounded k (fin true m e) b = (le_in true m e false 1 (pos k) (omega arith), le_in true 1 (pos k) true m e (omega arith))

-- from 1 / 2 ^ (j + 1) to 2 ^ k: what may be divided by
pub ratio_between : (j k : ℕ) (x : Float) → T (le (fin false 1 (negsuc j)) x) → T (le x (power k)) → AtLeast (suc j) x × Bounded k x × T (positive x)
ratio_between j k nan h g = unfold le in absurd h
ratio_between j k (inf true) h g = unfold le in absurd h
ratio_between j k (inf false) h g = unfold le in absurd g
ratio_between j k (fin true m e) h g = absurd (omega (arith, le_out false 1 (negsuc j) true m e h, down_pos e))
ratio_between j k (fin false m e) h g =
    let low : down e ≤ 2 ^ suc j * (m * up e) = le_trans (omega (arith, le_out false 1 (negsuc j) false m e h)) (le_of_eq (mul_comm (m * up e) (2 ^ suc j))) in
    let high : m * up e ≤ 1 * 2 ^ k * down e = omega (arith, le_out false m e false 1 (pos k) g) in
    (low, high, lt→ltb 0 m (first_pos m (up e) (first_pos (m * up e) (2 ^ suc j) (le_trans (down_pos e) (le_trans low (le_of_eq (mul_comm (2 ^ suc j) (m * up e))))))))

-- ---- the limit

limit_is : limit ≡ power 20
unfolding of_bits
limit_is = refl

minus_limit_is : neg limit ≡ minus_power 20
unfolding of_bits neg
minus_limit_is = refl

pub limits_bounded : (x : Float) → T (in_limits x) → Bounded 20 x
limits_bounded x t =
    bounded_between 20 x (subst (λ (z : Float). T (le x z)) limit_is (and_l (le x limit) (le (neg limit) x) t))
    (subst (λ (z : Float). T (le z x)) minus_limit_is (and_r (le x limit) (le (neg limit) x) t))

pub bounded_limits : (x : Float) → Bounded 20 x → T (in_limits x)
bounded_limits x b =
    let h = between_bounded 20 x b in
    and_i (le x limit) (le (neg limit) x) (subst (λ (z : Float). T (le x z)) (sym limit_is) h.0) (subst (λ (z : Float). T (le z x)) (sym minus_limit_is) h.1)

-- 1,048,576 is in limits, and 1,048,576.125, the next f32, is not: by computation
pub limit_in : in_limits limit ≡ true
unfolding of_bits le neg
limit_in = refl

pub next_out : in_limits (of_bits binary32 0x4980_0001) ≡ false
unfolding of_bits le neg
next_out = refl
