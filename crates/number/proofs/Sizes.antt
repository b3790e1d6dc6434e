-- A number's size through each operation: a result is rounded once, rounding keeps the order, and n * 2 ^ k rounds to itself.
use Rattle.std.proofs.Common.{◌≡◌, ℕ, suc, ◌+◌, ◌-◌, ◌*◌, ◌^◌, ◌<◌, ◌≤◌, Bool, true, false, cond, ◌&&◌, T, eqb, ltb, List, [], ◌∷◌, length, pos, sym, ap, ◌∙◌, subst, true≢false, suc-le-suc, le_trans, le_of_eq, mul-le-mul_right, mul_assoc, mul_comm, mul-le-mul, mul-lt-mul_of_pos_right, mul-pos, one-mul, mul-one, le_of_mul-le-mul_right, arith, lit<, eqb→eq, pow_pos, pow-add}
use mathlib.Core.Bool.{beq}
use native.Mathlib.Nat.{mul-mul-mul_comm}
use lib.Ieee.{Float, nan, inf, fin, Format, binary32, prec, emax, low, unlike, up, down, round, neg, sum, add, sub, mul, div, le, of_int, of_bits}
use lib.Ieee.Fits.{down_pos}
use lib.Ieee.Exact.{HasValue, round_exact}
use lib.Ieee.Order.{round_mono}
use lib.Ieee.Back.{round_whole}
use lib.Ieee.Positive.{first_pos}
use Rattle.std.specs.Float as Floats
use Rattle.std.specs.Float.{float_max, float_min}
use Rattle.std.proofs.num.Values.{neg-round, round-zero}
use Rattle.number.specs.Sizes.{Within, AtLeast, Each, total_from, total}
use Rattle.number.proofs.Order.{cond_both, le_out}

-- ---- rounding

pub zero_le_round : (f : Format) (a c : ℕ) → 0 < c → T (le Floats.float_zero (round f false a c))
zero_le_round f a c C =
    subst (λ (x : Float). T (le x (round f false a c))) (round-zero f false 1 (lit< tt)) (round_mono f 0 1 a c (lit< tt) C (omega arith))

pub neg_within : (n k : ℕ) (x : Float) → Within n k x → Within n k (neg x)
unfolding neg
neg_within n k nan b = b
neg_within n k (inf s) b = b
neg_within n k (fin s m e) b = b

-- what lies between zero and a value is no larger
under : (n k : ℕ) (x y : Float) → T (le Floats.float_zero x) → HasValue y false (n * 2 ^ k) 1 → T (le x y) → Within n k x
under i k nan y p v h = unfold le in absurd h
under i k (inf true) y p v h = unfold le in absurd p
under i k (inf false) nan p v h = absurd v
under i k (inf false) (inf t) p v h = absurd v
under i k (inf false) (fin t n d) p v h = unfold le in absurd h
under i k (fin s m e) nan p v h = absurd v
under i k (fin s m e) (inf t) p v h = absurd v
under i k (fin s m e) (fin true n d) p v h = absurd (true≢false v.0)
under i k (fin true m e) (fin false n d) p v h = omega (arith, le_out false 0 (pos 0) true m e p)
under i k (fin false m e) (fin false n d) p v h =
    let a = le_out false m e false n d h in
    let b : n * up d ≡ i * 2 ^ k * down d = sym (mul-one (n * up d)) ∙ v.1 in
    let c : n * up d * down e ≡ i * 2 ^ k * down d * down e = ap (λ (z : ℕ). z * down e) b in
    le_of_mul-le-mul_right {k = down d} (omega arith) (down_pos d)

-- n * 2 ^ k is a value of the format
own_value : (f : Format) (n k : ℕ) → n < 2 ^ prec f → n * 2 ^ k < 2 ^ suc (emax f) → HasValue (round f false (n * 2 ^ k) 1) false (n * 2 ^ k) 1
own_value f n k h g =
    let e : n * 2 ^ (k + low f) ≡ n * 2 ^ k * 2 ^ low f = ap (λ (z : ℕ). n * z) (pow-add 2 k (low f)) ∙ sym (mul_assoc n (2 ^ k) (2 ^ low f)) in
    round_exact f false (n * 2 ^ k) 1 n (k + low f) (lit< tt) h
    (le_trans (le_of_eq (ap suc e)) (le_trans (mul-lt-mul_of_pos_right g (pow_pos (low f))) (le_of_eq (mul_comm (2 ^ suc (emax f)) (2 ^ low f) ∙ sym (pow-add 2 (low f) (suc (emax f)))))))
    (sym e ∙ sym (mul-one (n * 2 ^ (k + low f))))

upright_within : (f : Format) (n k a c : ℕ) → 0 < c → n < 2 ^ prec f → n * 2 ^ k < 2 ^ suc (emax f) → a ≤ n * 2 ^ k * c → Within n k (round f false a c)
upright_within f n k a c C h g l =
    under n k (round f false a c) (round f false (n * 2 ^ k) 1) (zero_le_round f a c C) (own_value f n k h g)
    (round_mono f a c (n * 2 ^ k) 1 C (lit< tt) (le_trans (le_of_eq (mul-one a)) l))

pub round_within : (f : Format) (s : Bool) (n k a c : ℕ) → 0 < c → n < 2 ^ prec f → n * 2 ^ k < 2 ^ suc (emax f) → a ≤ n * 2 ^ k * c → Within n k (round f s a c)
round_within f false n k a c C h g l = upright_within f n k a c C h g l
round_within f true n k a c C h g l = subst (Within n k) (neg-round f a c) (neg_within n k (round f false a c) (upright_within f n k a c C h g l))

-- ---- the operations

pub wider : (i j n k : ℕ) (x : Float) → i * 2 ^ j ≤ n * 2 ^ k → Within i j x → Within n k x
wider i j n k nan h b = b
wider i j n k (inf s) h b = b
wider i j n k (fin s m e) h b = le_trans b (mul-le-mul_right (down e) h)

sum_within : (f : Format) (n k : ℕ) (s : Bool) (a : ℕ) (t : Bool) (b c : ℕ) → 0 < c → n < 2 ^ prec f → n * 2 ^ k < 2 ^ suc (emax f)
    → a + b ≤ n * 2 ^ k * c → Within n k (sum f s a t b c)
unfolding sum
sum_within f n k s a t b c C h g l =
    cond_both (Within n k) (beq s t) (round f s (a + b) c) (cond (ltb a b) (round f t (b - a) c) (round f (s && ltb b a) (a - b) c))
    (round_within f s n k (a + b) c C h g l)
    (cond_both (Within n k) (ltb a b) (round f t (b - a) c) (round f (s && ltb b a) (a - b) c)
    (round_within f t n k (b - a) c C h g (le_trans (less b a) l))
    (round_within f (s && ltb b a) n k (a - b) c C h g (le_trans (fewer a b) l)))
  where
    less : (y x : ℕ) → y - x ≤ x + y
    less y x = omega arith

    fewer : (x y : ℕ) → x - y ≤ x + y
    fewer x y = omega arith

pub add_within : (f : Format) (i j k : ℕ) (x y : Float) → i + j < 2 ^ prec f → (i + j) * 2 ^ k < 2 ^ suc (emax f) → Within i k x → Within j k y → Within (i + j) k (add f x y)
unfolding add
add_within f i j k nan y h g b c = absurd b
add_within f i j k (inf s) y h g b c = absurd b
add_within f i j k (fin s m e) nan h g b c = absurd c
add_within f i j k (fin s m e) (inf t) h g b c = absurd c
add_within f i j k (fin s m e) (fin t n d) h g b c =
    let p = mul-le-mul_right (down d) b in
    let q = mul-le-mul_right (down e) c in
    sum_within f (i + j) k s (m * up e * down d) t (n * up d * down e) (down e * down d) (mul-pos (down_pos e) (down_pos d)) h g (omega arith)

pub sub_within : (f : Format) (i j k : ℕ) (x y : Float) → i + j < 2 ^ prec f → (i + j) * 2 ^ k < 2 ^ suc (emax f) → Within i k x → Within j k y → Within (i + j) k (sub f x y)
unfolding sub
sub_within f i j k x y h g b c = add_within f i j k x (neg y) h g b (neg_within j k y c)

pub mul_within : (f : Format) (i j k l : ℕ) (x y : Float) → i * j < 2 ^ prec f → i * j * 2 ^ (k + l) < 2 ^ suc (emax f) → Within i k x → Within j l y → Within (i * j) (k + l) (mul f x y)
unfolding mul
mul_within f i j k l nan y h g b c = absurd b
mul_within f i j k l (inf s) y h g b c = absurd b
mul_within f i j k l (fin s m e) nan h g b c = absurd c
mul_within f i j k l (fin s m e) (inf t) h g b c = absurd c
mul_within f i j k l (fin s m e) (fin t n d) h g b c =
    round_within f (unlike s t) (i * j) (k + l) (m * up e * (n * up d)) (down e * down d) (mul-pos (down_pos e) (down_pos d)) h g
    (le_trans (mul-le-mul b c) (le_of_eq (mul-mul-mul_comm (i * 2 ^ k) (down e) (j * 2 ^ l) (down d)
    ∙ ap (λ (z : ℕ). z * (down e * down d)) (mul-mul-mul_comm i (2 ^ k) j (2 ^ l) ∙ ap (λ (z : ℕ). i * j * z) (sym (pow-add 2 k l))))))

pub div_within : (f : Format) (i j k : ℕ) (x y : Float) → i < 2 ^ prec f → i * 2 ^ (k + j) < 2 ^ suc (emax f) → Within i k x → AtLeast j y → Within i (k + j) (div f x y)
unfolding div
div_within f i j k nan y h g b c = absurd b
div_within f i j k (inf s) y h g b c = absurd b
div_within f i j k (fin s m e) nan h g b c = absurd c
div_within f i j k (fin s m e) (inf t) h g b c = absurd c
div_within f i j k (fin s m e) (fin t n d) h g b c = go (eqb n 0) (eqb→eq n 0)
  where
    some : 0 < n * up d
    some = first_pos (n * up d) (2 ^ j) (le_trans (down_pos d) (le_trans c (le_of_eq (mul_comm (2 ^ j) (n * up d)))))

    none : (q : ℕ) → q ≡ 0 → 0 < q → ⊥
    none q z p = omega arith

    scaled : i * 2 ^ k * down e * (2 ^ j * (n * up d)) ≡ i * 2 ^ (k + j) * (n * up d * down e)
    scaled =
        mul-mul-mul_comm (i * 2 ^ k) (down e) (2 ^ j) (n * up d)
        ∙ (λ z. (mul_assoc i (2 ^ k) (2 ^ j) ∙ ap (λ (w : ℕ). i * w) (sym (pow-add 2 k j))) z * mul_comm (down e) (n * up d) z)

    go : (z : Bool) → (T z → n ≡ 0) → Within i (k + j) (cond z (cond (eqb m 0) nan (inf (unlike s t))) (round f (unlike s t) (m * up e * down d) (n * up d * down e)))
    go true z = absurd (none n (z tt) (first_pos n (up d) some))
    go false z = round_within f (unlike s t) i (k + j) (m * up e * down d) (n * up d * down e) (mul-pos some (down_pos e)) h g (le_trans (mul-le-mul b c) (le_of_eq scaled))

pub most_within : (n k : ℕ) (x y : Float) → Within n k x → Within n k y → Within n k (float_max x y)
most_within n k x y b c = cond_both (Within n k) _ x y b c

pub least_within : (n k : ℕ) (x y : Float) → Within n k x → Within n k y → Within n k (float_min x y)
least_within n k x y b c = cond_both (Within n k) _ x y b c

-- ---- a quotient by a count, and the sum of many

at_least_of_value : (x : Float) (n : ℕ) → 0 < n → HasValue x false n 1 → AtLeast 0 x
at_least_of_value nan n p v = v
at_least_of_value (inf s) n p v = v
at_least_of_value (fin s m e) n p v =
    le_trans (le_of_eq (sym (one-mul (down e)))) (le_trans (mul-le-mul_right (down e) p) (le_of_eq (sym v.1 ∙ mul-one (m * up e) ∙ sym (one-mul (m * up e)))))

pub count_at_least : (f : Format) (n : ℕ) → 0 < n → n ≤ 2 ^ prec f → AtLeast 0 (of_int f (pos n))
unfolding of_int
count_at_least f n p h = at_least_of_value (round f false n 1) n p (round_whole f false n h)

pub share_within : (f : Format) (i k n : ℕ) (x : Float) → i < 2 ^ prec f → i * 2 ^ k < 2 ^ suc (emax f) → Within i k x → 0 < n → n ≤ 2 ^ prec f → Within i k (div f x (of_int f (pos n)))
share_within f i k n x h g b p l =
    let z : k + 0 ≡ k = native.Mathlib.Nat.add-zero k in
    subst (λ (j : ℕ). Within i j (div f x (of_int f (pos n)))) z
    (div_within f i 0 k x (of_int f (pos n)) h (subst (λ (j : ℕ). i * 2 ^ j < 2 ^ suc (emax f)) (sym z) g) b (count_at_least f n p l))

pub zero_within : (n k : ℕ) → Within n k (of_bits binary32 0)
unfolding of_bits
zero_within n k = omega arith

pub total_within : (k i : ℕ) (x : Float) (ys : List Float) → i + length ys < 2 ^ 24 → (i + length ys) * 2 ^ k < 2 ^ 128 → Within i k x → Each (Within 1 k) ys → Within (i + length ys) k (total_from x ys)
total_within k i x [] h g b c = subst (λ (n : ℕ). Within n k x) (sym (native.Mathlib.Nat.add-zero i)) b
total_within k i x (y ∷ ys) h g b c =
    let e : i + 1 + length ys ≡ i + suc (length ys) = omega arith in
    let few : i + 1 < 2 ^ 24 = omega arith in
    let small : (i + 1) * 2 ^ k < 2 ^ 128 = le_trans (suc-le-suc (mul-le-mul_right (2 ^ k) (omega arith))) g in
    subst (λ (n : ℕ). Within n k (total_from (add binary32 x y) ys)) e
    (total_within k (i + 1) (add binary32 x y) ys (omega arith) (subst (λ (n : ℕ). n * 2 ^ k < 2 ^ 128) (sym e) g) (add_within binary32 i 1 k x y few small b c.0) c.1)

pub total_all : (k : ℕ) (xs : List Float) → length xs < 2 ^ 24 → length xs * 2 ^ k < 2 ^ 128 → Each (Within 1 k) xs → Within (length xs) k (total xs)
total_all k xs h g b =
    let e : 0 + length xs ≡ length xs = native.Mathlib.Nat.zero-add (length xs) in
    subst (λ (n : ℕ). Within n k (total xs)) e
    (total_within k 0 (of_bits binary32 0) xs (omega arith) (subst (λ (n : ℕ). n * 2 ^ k < 2 ^ 128) (sym e) g) (zero_within 0 k) b)
