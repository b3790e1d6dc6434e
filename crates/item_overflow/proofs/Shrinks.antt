-- A sum with what is not above zero is no larger: the other side of `add_grows`.
use Rattle.std.proofs.Common.{◌≡◌, ℕ, zero, suc, ◌*◌, Bool, true, false, not, T, ℤ, pos, sym, refl, ap, ◌∙◌, subst, mul-pos, zero-mul, arith, lit<}
use lib.Ieee.{Float, nan, inf, fin, Format, up, down, round, neg, sum, add, le, is_nan, fits}
use lib.Ieee.Fits.{up_pos}
use lib.Ieee.Scale.{finite}
use Rattle.std.specs.Float as Floats
use Rattle.std.specs.Float.Order.{le_refl, le_trans}
use Rattle.std.proofs.num.Values.{neg-round, round-zero, sum_with_zero}
use Rattle.number.proofs.Order.{le_in}
use Rattle.number.proofs.Monotone.{le_neg, add_mono}
use Rattle.number.proofs.Grows.{add_grows}

pub finite_number : (x : Float) → T (finite x) → T (not (is_nan x))
unfolding is_nan
finite_number nan h = absurd h
finite_number (inf s) h = absurd h
finite_number (fin s m e) h = tt

twice : (x : Float) → neg (neg x) ≡ x
unfolding neg
twice nan = refl
twice (inf true) = refl
twice (inf false) = refl
twice (fin true m e) = refl
twice (fin false m e) = refl

opposite_round : (f : Format) (s : Bool) (a c : ℕ) → neg (round f (not s) a c) ≡ round f s a c
opposite_round f true a c = neg-round f a c
opposite_round f false a c = ap neg (sym (neg-round f a c)) ∙ twice (round f false a c)

plus_zero : (f : Format) (s : Bool) (m : ℕ) (e : ℤ) → add f (fin s (suc m) e) Floats.float_zero ≡ round f s (suc m * up e * 1) (down e * 1)
unfolding add
plus_zero f s m e =
    ap (λ (z : ℕ). sum f s (suc m * up e * 1) false z (down e * 1)) (zero-mul (down e))
    ∙ sum_with_zero f s false (suc m * up e * 1) (down e * 1) (mul-pos (mul-pos (omega arith) (up_pos e)) (lit< tt))

zero_sum : (f : Format) → add f Floats.float_zero Floats.float_zero ≡ Floats.float_zero
unfolding add sum
zero_sum f = round-zero f false 1 (lit< tt)

number_le : (x : Float) → T (finite x) → T (le x x)
number_le x h = le_refl x (finite_number x h)

add_zero_le : (f : Format) (x : Float) → T (fits f x) → T (finite x) → T (le (add f x Floats.float_zero) x)
unfolding neg fits
add_zero_le f nan t h = absurd h
add_zero_le f (inf s) t h = absurd h
add_zero_le f (fin s zero e) t h =
    le_trans (add f (fin s 0 e) Floats.float_zero) (add f Floats.float_zero Floats.float_zero) (fin s 0 e)
    (add_mono f (fin s 0 e) Floats.float_zero Floats.float_zero Floats.float_zero tt tt tt tt (flat s e false (pos 0)) (number_le Floats.float_zero tt))
    (subst (λ (z : Float). T (le z (fin s 0 e))) (sym (zero_sum f)) (flat false (pos 0) s e))
  where
    flat : (a : Bool) (i : ℤ) (b : Bool) (j : ℤ) → T (le (fin a 0 i) (fin b 0 j))
    flat true i true j = le_in true 0 i true 0 j (omega arith)
    flat true i false j = le_in true 0 i false 0 j (omega arith)
    flat false i true j = le_in false 0 i true 0 j (omega arith)
    flat false i false j = le_in false 0 i false 0 j (omega arith)
add_zero_le f (fin s (suc m) e) t h = go s t
  where
    mirror : (r : Bool) → T (fits f (fin (not r) (suc m) e)) → T (le (neg (round f (not r) (suc m * up e * 1) (down e * 1))) (neg (fin (not r) (suc m) e)))
    mirror r u =
        le_neg (fin (not r) (suc m) e) (round f (not r) (suc m * up e * 1) (down e * 1))
        (subst (λ (z : Float). T (le (fin (not r) (suc m) e) z)) (plus_zero f (not r) m e) (add_grows f (fin (not r) (suc m) e) Floats.float_zero u tt tt (number_le Floats.float_zero tt)))

    go : (r : Bool) → T (fits f (fin r (suc m) e)) → T (le (add f (fin r (suc m) e) Floats.float_zero) (fin r (suc m) e))
    go true u = subst (λ (z : Float). T (le z (fin true (suc m) e))) (opposite_round f true _ _ ∙ sym (plus_zero f true m e)) (mirror true u)
    go false u = subst (λ (z : Float). T (le z (fin false (suc m) e))) (opposite_round f false _ _ ∙ sym (plus_zero f false m e)) (mirror false u)

pub add_shrinks : (f : Format) (x y : Float) → T (fits f x) → T (finite x) → T (finite y) → T (le y Floats.float_zero) → T (le (add f x y) x)
add_shrinks f x y t p q h =
    le_trans (add f x y) (add f x Floats.float_zero) x
    (add_mono f x y x Floats.float_zero p q p tt (number_le x p) h)
    (add_zero_le f x t p)
