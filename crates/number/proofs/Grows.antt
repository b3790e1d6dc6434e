-- A value that the format holds rounds to itself, so a sum with what is not below zero is no smaller.
use Rattle.std.proofs.Common.{◌≡◌, ℕ, zero, suc, ◌+◌, ◌-◌, ◌*◌, ◌%◌, ◌^◌, ◌<◌, ◌≤◌, Bool, true, false, ◌&&◌, T, eqb, ltb, leb, ℤ, pos, negsuc, sym, ap, ◌∙◌, subst, true≢false, le_trans, le_of_eq, le_of_suc-le-suc, mul-le-mul_right, mul_assoc, mul_comm, add-mul, mul-lt-mul_of_pos_right, mul-pos, lt_of_not-le, zero-mul, mul-one, not-le_of_lt, arith, lit<, ltb→lt, leb→le, pow_pos, pow-add}
use lib.Pow.{pow-lt}
use lib.Ieee.{Float, nan, inf, fin, Format, prec, emax, low, up, down, round, sum, add, le, fits}
use lib.Ieee.Fits.{down_pos, and_l, and_r}
use lib.Ieee.Exact.{HasValue, round_exact}
use lib.Ieee.Scale.{finite}
use Rattle.std.specs.Float as Floats
use Rattle.std.specs.Float.Order as order
use Rattle.number.proofs.Order.{pos_part, neg_part, le_in, le_out}
use Rattle.number.proofs.Monotone.{exact, times, round_signed_mono}

exponent : (a b : ℕ) → 2 ^ a ≤ 2 ^ b → a ≤ b
exponent a b h = le_of_suc-le-suc (lt_of_not-le (λ (g : suc b ≤ a). not-le_of_lt (pow-lt g) h))

back : (l k : ℕ) → k ≤ l → l - k + k ≡ l
back l k h = omega arith

-- a value that the format holds rounds to itself
own : (f : Format) (s : Bool) (m : ℕ) (e : ℤ) → T (fits f (fin s m e)) → HasValue (round f s (m * up e) (down e)) s (m * up e) (down e)
unfolding fits
own f s zero e t =
    round_exact f s (0 * up e) (down e) 0 0 (down_pos e) (pow_pos (prec f)) (pow_pos (low f + suc (emax f))) (ap (λ (z : ℕ). z * 2 ^ low f) (zero-mul (up e)) ∙ zero-mul (2 ^ low f) ∙ sym (zero-mul (down e)))
own f s (suc m) (pos k) t =
    let a : Bool = eqb (suc m % 2) 1 in
    let b : Bool = ltb (suc m) (2 ^ prec f) in
    let c : Bool = leb 1 (2 ^ low f) in
    let d : Bool = ltb (suc m * 2 ^ k) (2 ^ suc (emax f) * 1) in
    let small : suc m < 2 ^ prec f = ltb→lt (suc m) (2 ^ prec f) (and_r a b (and_l (a && b) c (and_l (a && b && c) d t))) in
    let top : suc m * 2 ^ k < 2 ^ suc (emax f) * 1 = ltb→lt _ _ (and_r (a && b && c) d t) in
    round_exact f s (suc m * 2 ^ k) 1 (suc m) (k + low f) (lit< tt) small
    (le_trans (le_of_eq (ap suc (ap (λ (z : ℕ). suc m * z) (pow-add 2 k (low f)) ∙ sym (mul_assoc (suc m) (2 ^ k) (2 ^ low f)))))
    (le_trans (mul-lt-mul_of_pos_right top (pow_pos (low f))) (le_of_eq (ap (λ (z : ℕ). z * 2 ^ low f) (mul-one (2 ^ suc (emax f))) ∙ mul_comm (2 ^ suc (emax f)) (2 ^ low f) ∙ sym (pow-add 2 (low f) (suc (emax f)))))))
    (mul_assoc (suc m) (2 ^ k) (2 ^ low f) ∙ ap (λ (z : ℕ). suc m * z) (sym (pow-add 2 k (low f))) ∙ sym (mul-one (suc m * 2 ^ (k + low f))))
own f s (suc m) (negsuc k) t =
    let a : Bool = eqb (suc m % 2) 1 in
    let b : Bool = ltb (suc m) (2 ^ prec f) in
    let c : Bool = leb (2 ^ suc k) (2 ^ low f) in
    let d : Bool = ltb (suc m * 1) (2 ^ suc (emax f) * 2 ^ suc k) in
    let small : suc m < 2 ^ prec f = ltb→lt (suc m) (2 ^ prec f) (and_r a b (and_l (a && b) c (and_l (a && b && c) d t))) in
    let fit : suc k ≤ low f = exponent (suc k) (low f) (leb→le _ _ (and_r (a && b) c (and_l (a && b && c) d t))) in
    let top : suc m * 1 < 2 ^ suc (emax f) * 2 ^ suc k = ltb→lt _ _ (and_r (a && b && c) d t) in
    let j = low f - suc k in
    let whole : 2 ^ j * 2 ^ suc k ≡ 2 ^ low f = sym (pow-add 2 j (suc k)) ∙ ap (λ (z : ℕ). 2 ^ z) (back (low f) (suc k) fit) in
    round_exact f s (suc m * 1) (2 ^ suc k) (suc m) j (pow_pos (suc k)) small
    (le_trans (le_of_eq (ap suc (ap (λ (z : ℕ). z * 2 ^ j) (sym (mul-one (suc m))))))
    (le_trans (mul-lt-mul_of_pos_right top (pow_pos j))
    (le_of_eq (mul_assoc (2 ^ suc (emax f)) (2 ^ suc k) (2 ^ j) ∙ ap (λ (z : ℕ). 2 ^ suc (emax f) * z) (mul_comm (2 ^ suc k) (2 ^ j) ∙ whole) ∙ mul_comm (2 ^ suc (emax f)) (2 ^ low f) ∙ sym (pow-add 2 (low f) (suc (emax f)))))))
    (ap (λ (z : ℕ). z * 2 ^ low f) (mul-one (suc m)) ∙ ap (λ (z : ℕ). suc m * z) (sym whole) ∙ sym (mul_assoc (suc m) (2 ^ j) (2 ^ suc k)))

-- two values of one sign and size
same_le : (s : Bool) (m : ℕ) (e : ℤ) (y : Float) → HasValue y s (m * up e) (down e) → T (le (fin s m e) y)
same_le s m e nan v = absurd v
same_le s m e (inf t) v = absurd v
same_le true m e (fin true n d) v = le_in true m e true n d (le_of_eq (omega (arith, v.1)))
same_le false m e (fin false n d) v = le_in false m e false n d (le_of_eq (omega (arith, v.1)))
same_le true m e (fin false n d) v = absurd (true≢false (sym v.0))
same_le false m e (fin true n d) v = absurd (true≢false v.0)

more : (pM mM pN mN pu mu e d : ℕ) → pM * d + pN * e + mu ≡ pu + mM * d + mN * e → mN ≤ pN → pM * (e * d) + mu * e ≤ pu * e + mM * (e * d)
more pM mM pN mN pu mu e d p h =
    let q : pM * d + mu ≤ pu + mM * d = omega (arith, mul-le-mul_right e h) in
    let r : (pM * d + mu) * e ≤ (pu + mM * d) * e = mul-le-mul_right e q in
    le_trans (le_of_eq (ap (λ (z : ℕ). z + mu * e) (ap (λ (z : ℕ). pM * z) (mul_comm e d) ∙ sym (mul_assoc pM d e)) ∙ sym (add-mul (pM * d) mu e)))
    (le_trans r (le_of_eq (add-mul pu (mM * d) e ∙ ap (λ (z : ℕ). pu * e + z) (mul_assoc mM d e ∙ ap (λ (z : ℕ). mM * z) (mul_comm d e)))))

pub add_grows : (f : Format) (x y : Float) → T (fits f x) → T (finite x) → T (finite y) → T (le Floats.float_zero y) → T (le x (add f x y))
unfolding add
add_grows f nan y t p q h = absurd p
add_grows f (inf s) y t p q h = absurd p
add_grows f (fin s m e) nan t p q h = absurd q
add_grows f (fin s m e) (inf w) t p q h = absurd q
add_grows f (fin s m e) (fin w n d) t p q h =
    let x = exact f s (m * up e * down d) w (n * up d * down e) (down e * down d) in
    let up_y : neg_part w (n * up d) ≤ pos_part w (n * up d) = omega (arith, le_out false 0 (pos 0) w n d h) in
    order.le_trans (fin s m e) (round f s (m * up e) (down e)) (sum f s (m * up e * down d) w (n * up d * down e) (down e * down d))
    (same_le s m e (round f s (m * up e) (down e)) (own f s m e t))
    (subst (λ (z : Float). T (le (round f s (m * up e) (down e)) z)) (sym x.is)
    (round_signed_mono f s (m * up e) (down e) x.sign x.size (down e * down d) (down_pos e) (mul-pos (down_pos e) (down_pos d))
    (more (pos_part s (m * up e)) (neg_part s (m * up e)) (pos_part w (n * up d)) (neg_part w (n * up d)) (pos_part x.sign x.size) (neg_part x.sign x.size) (down e) (down d)
    (rw (sym (times s (m * up e) (down d)).0, sym (times s (m * up e) (down d)).1, sym (times w (n * up d) (down e)).0, sym (times w (n * up d) (down e)).1) x.value)
    up_y)))
