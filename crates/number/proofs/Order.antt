-- The order of floats: as an order of whole numbers at finite values, total, with `float_max` the least upper bound and `float_min` the greatest lower one.
use Rattle.std.proofs.Common.{◌≡◌, ℕ, ◌+◌, ◌*◌, ◌<◌, ◌≤◌, Bool, true, false, cond, not, ◌&&◌, ◌||◌, T, eqb, ltb, ◌⊎◌, ℤ, sym, inl, inr, le_of_eq, le_of_lt, arith, eqb→eq, ltb→lt, nltb→le}
use lib.Ieee.{Float, fin, up, down, le, lt, is_nan}
use lib.Ieee.Fits.{and_i, and_l, and_r, eq→eqb}
use Rattle.std.specs.Float.{float_max, float_min}
use Rattle.std.specs.Float.Order.{le_refl, le_of_lt as le_of_lt_float, lt_of_not-le}

-- what holds of both holds of the one that a test chooses
pub cond_both : {X : Type 0} (P : X → Type 0) (b : Bool) (x y : X) → P x → P y → P (cond b x y)
cond_both P true x y p q = p
cond_both P false x y p q = q

-- ---- a finite value is its positive part less its negative one

abbrev pub pos_part : Bool → ℕ → ℕ
pos_part true a = 0
pos_part false a = a

abbrev pub neg_part : Bool → ℕ → ℕ
neg_part true a = a
neg_part false a = 0

-- a test of `<` or `=` as a fact, and back
pub at_most : (a b : ℕ) (e : Bool) → (T e → a ≡ b) → T (ltb a b || e) → a ≤ b
at_most a b e same = go (ltb a b) (ltb→lt a b)
  where
    go : (l : Bool) → (T l → a < b) → T (l || e) → a ≤ b
    go true h t = le_of_lt (h tt)
    go false h t = le_of_eq (same t)

tests_at_most : (a b : ℕ) (e : Bool) → (a ≡ b → T e) → a ≤ b → T (ltb a b || e)
tests_at_most a b e same h = go (ltb a b) (nltb→le a b)
  where
    go : (l : Bool) → (T (not l) → b ≤ a) → T (l || e)
    go true k = tt
    go false k = same (omega (arith, k tt))

equal : (a b : ℕ) (c : Bool) → T (eqb a b && c) → a ≡ b
equal a b c t = eqb→eq a b (and_l (eqb a b) c t)

tests_equal : (a b : ℕ) (c : Bool) → T c → a ≡ b → T (eqb a b && c)
tests_equal a b c t h = and_i (eqb a b) c (eq→eqb h) t

-- x ≤ y over the common denominator, each negative part on the other side
abbrev pub Across : Bool → ℕ → ℤ → Bool → ℕ → ℤ → Type 0
Across s m e t n d =
    pos_part s (m * up e) * down d + neg_part t (n * up d) * down e ≤ pos_part t (n * up d) * down e + neg_part s (m * up e) * down d

pub le_out : (s : Bool) (m : ℕ) (e : ℤ) (t : Bool) (n : ℕ) (d : ℤ) → T (le (fin s m e) (fin t n d)) → Across s m e t n d
unfolding le
le_out false m e false n d h =
    let a = m * up e * down d in
    let b = n * up d * down e in
    omega (arith, at_most a b (eqb a b && true) (equal a b true) h)
le_out true m e true n d h =
    let a = m * up e * down d in
    let b = n * up d * down e in
    omega (arith, at_most b a (eqb a b && true) (λ t. sym (equal a b true t)) h)
le_out true m e false n d h = omega arith
le_out false m e true n d h =
    let a = m * up e * down d in
    let b = n * up d * down e in
    omega (arith, equal a b (eqb a 0) h, eqb→eq a 0 (and_r (eqb a b) (eqb a 0) h))

pub le_in : (s : Bool) (m : ℕ) (e : ℤ) (t : Bool) (n : ℕ) (d : ℤ) → Across s m e t n d → T (le (fin s m e) (fin t n d))
unfolding le
le_in false m e false n d h =
    let a = m * up e * down d in
    let b = n * up d * down e in
    tests_at_most a b (eqb a b && true) (tests_equal a b true tt) (omega arith)
le_in true m e true n d h =
    let a = m * up e * down d in
    let b = n * up d * down e in
    tests_at_most b a (eqb a b && true) (λ q. tests_equal a b true tt (sym q)) (omega arith)
le_in true m e false n d h =
    let a = m * up e * down d in
    let b = n * up d * down e in
    tests_at_most 0 (a + b) (eqb a b && eqb a 0) (λ q. let z : a ≡ 0 = omega arith in tests_equal a b (eqb a 0) (eq→eqb z) (omega arith)) (omega arith)
le_in false m e true n d h =
    let a = m * up e * down d in
    let b = n * up d * down e in
    let z : a ≡ 0 = omega arith in
    tests_equal a b (eqb a 0) (eq→eqb z) (omega arith)

-- ---- two numbers are always ordered

pub le_total : (x y : Float) → T (not (is_nan x)) → T (not (is_nan y)) → T (le x y) ⊎ T (le y x)
le_total x y p q = go (le x y) (λ t. t) (lt_of_not-le x y p q)
  where
    go : (b : Bool) → (T b → T (le x y)) → (T (not b) → T (lt y x)) → T (le x y) ⊎ T (le y x)
    go true h k = inl (h tt)
    go false h k = inr (le_of_lt_float y x (k tt))

-- ---- the larger and the smaller of two

pub le_most_left : (x y : Float) → T (not (is_nan x)) → T (not (is_nan y)) → T (le x (float_max x y))
le_most_left x y p q = go (le y x) (is_nan y) (lt_of_not-le y x q p) q
  where
    go : (b n : Bool) → (T (not b) → T (lt x y)) → T (not n) → T (le x (cond (b || n) x y))
    go true n k h = le_refl x p
    go false true k h = absurd h
    go false false k h = le_of_lt_float x y (k tt)

pub le_most_right : (x y : Float) → T (not (is_nan x)) → T (not (is_nan y)) → T (le y (float_max x y))
le_most_right x y p q = go (le y x) (is_nan y) (λ t. t) q
  where
    go : (b n : Bool) → (T b → T (le y x)) → T (not n) → T (le y (cond (b || n) x y))
    go true n k h = k tt
    go false true k h = absurd h
    go false false k h = le_refl y q

pub most_least : (x y z : Float) → T (le x z) → T (le y z) → T (le (float_max x y) z)
most_least x y z p q = cond_both (λ w. T (le w z)) _ x y p q

pub least_le_left : (x y : Float) → T (not (is_nan x)) → T (not (is_nan y)) → T (le (float_min x y) x)
least_le_left x y p q = go (le x y) (is_nan y) (lt_of_not-le x y p q) q
  where
    go : (b n : Bool) → (T (not b) → T (lt y x)) → T (not n) → T (le (cond (b || n) x y) x)
    go true n k h = le_refl x p
    go false true k h = absurd h
    go false false k h = le_of_lt_float y x (k tt)

pub least_le_right : (x y : Float) → T (not (is_nan x)) → T (not (is_nan y)) → T (le (float_min x y) y)
least_le_right x y p q = go (le x y) (is_nan y) (λ t. t) q
  where
    go : (b n : Bool) → (T b → T (le x y)) → T (not n) → T (le (cond (b || n) x y) y)
    go true n k h = k tt
    go false true k h = absurd h
    go false false k h = le_refl y q

pub least_most : (x y z : Float) → T (le z x) → T (le z y) → T (le z (float_min x y))
least_most x y z p q = cond_both (λ w. T (le z w)) _ x y p q
