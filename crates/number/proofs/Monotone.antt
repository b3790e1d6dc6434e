-- Sums and differences of finite values keep the order, and a sum with what is not below zero is no smaller.
use Rattle.std.proofs.Common.{◌≡◌, ℕ, ◌+◌, ◌-◌, ◌*◌, ◌<◌, ◌≤◌, Bool, true, false, not, T, ltb, ℤ, pos, sym, refl, ap, ◌∙◌, subst, inl, inr, le_of_eq, mul-le-mul_right, mul_assoc, mul_comm, add-mul, eq-zero-or-pos, mul-pos, mul_left_comm, arith, ltb→lt, nltb→le}
use native.Mathlib.Nat as nat
use lib.Ieee.{Float, nan, inf, fin, Format, up, down, round, neg, sum, add, sub, le}
use lib.Ieee.Fits.{down_pos}
use lib.Ieee.Order.{round_mono}
use lib.Ieee.Scale.{finite}
use Rattle.std.specs.Float as Floats
use Rattle.std.proofs.num.Values.{neg-round}
use Rattle.std.specs.Float.Order.{le_trans}
use Rattle.number.proofs.Order.{pos_part, neg_part, le_in, le_out}
use Rattle.number.proofs.Sizes.{zero_le_round}
use Rattle.number.proofs.Signs.{round_flat}

-- ---- signs
turned : (s : Bool) (a : ℕ) → (pos_part (not s) a ≡ neg_part s a) × (neg_part (not s) a ≡ pos_part s a)
turned true a = (refl, refl)
turned false a = (refl, refl)

pub le_neg : (x y : Float) → T (le x y) → T (le (neg y) (neg x))
unfolding neg
le_neg nan y h = unfold le in absurd h
le_neg (inf s) nan h = unfold le in absurd h
le_neg (fin s m e) nan h = unfold le in absurd h
le_neg (inf true) (inf true) h = unfold le in tt
le_neg (inf true) (inf false) h = unfold le in tt
le_neg (inf false) (inf true) h = unfold le in absurd h
le_neg (inf false) (inf false) h = unfold le in tt
le_neg (inf true) (fin t n d) h = unfold le in tt
le_neg (inf false) (fin t n d) h = unfold le in absurd h
le_neg (fin s m e) (inf true) h = unfold le in absurd h
le_neg (fin s m e) (inf false) h = unfold le in tt
le_neg (fin s m e) (fin t n d) h =
    le_in (not t) n d (not s) m e
    (rw ((turned s (m * up e)).0, (turned s (m * up e)).1, (turned t (n * up d)).0, (turned t (n * up d)).1) (omega (arith, le_out s m e t n d h)))

across : (x y : Float) → T (le Floats.float_zero x) → T (le Floats.float_zero y) → T (le (neg x) y)
unfolding neg
across x y p q = le_trans (neg x) (fin true 0 (pos 0)) y (le_neg Floats.float_zero x p) (le_trans (fin true 0 (pos 0)) Floats.float_zero y (le_in true 0 (pos 0) false 0 (pos 0) (omega arith)) q)

-- ---- `round` at any sign
none : (a d : ℕ) → 0 < d → a * d ≤ 0 → a ≡ 0
none a d D h = elim (eq-zero-or-pos a) [ inl z ↦ z | inr p ↦ absurd (clash (a * d) (mul-pos p D) h) ]
  where
    clash : (i : ℕ) → 0 < i → i ≤ 0 → ⊥
    clash i p q = omega arith

pub round_signed_mono : (f : Format) (s : Bool) (a c : ℕ) (t : Bool) (b d : ℕ) → 0 < c → 0 < d
    → pos_part s a * d + neg_part t b * c ≤ pos_part t b * c + neg_part s a * d → T (le (round f s a c) (round f t b d))
round_signed_mono f false a c false b d C D h = round_mono f a c b d C D (omega arith)
round_signed_mono f true a c true b d C D h =
    subst (λ (x : Float). T (le x (round f true b d))) (neg-round f a c)
    (subst (λ (x : Float). T (le (neg (round f false a c)) x)) (neg-round f b d) (le_neg (round f false b d) (round f false a c) (round_mono f b d a c D C (omega arith))))
round_signed_mono f true a c false b d C D h =
    subst (λ (x : Float). T (le x (round f false b d))) (neg-round f a c) (across (round f false a c) (round f false b d) (zero_le_round f a c C) (zero_le_round f b d D))
round_signed_mono f false a c true b d C D h =
    subst (λ (x : Float). T (le x (round f true b d))) (sym (round_flat f false a c C (none a d D (omega arith))))
    (subst (λ (x : Float). T (le (fin false 0 (pos 0)) x)) (sym (round_flat f true b d D (none b c C (omega arith)))) (le_in false 0 (pos 0) true 0 (pos 0) (omega arith)))

-- ---- a sum is one `round` of the exact sum
pub record Exact (f : Format) (s : Bool) (a : ℕ) (t : Bool) (b c : ℕ) : Type 0 where
  pub sign : Bool
  pub size : ℕ
  pub is : sum f s a t b c ≡ round f sign size c
  pub value : pos_part s a + pos_part t b + neg_part sign size ≡ pos_part sign size + neg_part s a + neg_part t b

pub exact : (f : Format) (s : Bool) (a : ℕ) (t : Bool) (b c : ℕ) → Exact f s a t b c
unfolding sum
exact f true a true b c = record { sign = true; size = a + b; is = refl; value = omega arith }
exact f false a false b c = record { sign = false; size = a + b; is = refl; value = omega arith }
exact f true a false b c = go (ltb a b) (ltb b a) refl refl (ltb→lt a b) (nltb→le a b) (nltb→le b a)
  where
    go : (x y : Bool) → ltb a b ≡ x → ltb b a ≡ y → (T x → a < b) → (T (not x) → b ≤ a) → (T (not y) → a ≤ b) → Exact f true a false b c
    go true y p q h k l = record { sign = false; size = b - a; is = rw p refl; value = omega (arith, h tt) }
    go false true p q h k l = record { sign = true; size = a - b; is = rw (p, q) refl; value = omega (arith, k tt) }
    go false false p q h k l = record { sign = false; size = a - b; is = rw (p, q) refl; value = omega (arith, k tt, l tt) }
exact f false a true b c = go (ltb a b) refl (ltb→lt a b) (nltb→le a b)
  where
    go : (x : Bool) → ltb a b ≡ x → (T x → a < b) → (T (not x) → b ≤ a) → Exact f false a true b c
    go true p h k = record { sign = true; size = b - a; is = rw p refl; value = omega (arith, h tt) }
    go false p h k = record { sign = false; size = a - b; is = rw p refl; value = omega (arith, k tt) }

pub times : (s : Bool) (a d : ℕ) → (pos_part s (a * d) ≡ pos_part s a * d) × (neg_part s (a * d) ≡ neg_part s a * d)
times true a d = omega arith
times false a d = omega arith

-- the sum of three, each times z
spread : (x d y e w z : ℕ) → (x * d + y * e + w) * z ≡ x * (d * z) + y * (e * z) + w * z
spread x d y e w z = add-mul (x * d + y * e) w z ∙ ap (λ (i : ℕ). i + w * z) (add-mul (x * d) (y * e) z ∙ (λ i. mul_assoc x d z i + mul_assoc y e z i))

regroup : (x y w : ℕ) → w + x + y ≡ x + y + w
regroup x y w = omega arith

pair : (x g y e z : ℕ) → (x * g + y * e) * z ≡ x * (g * z) + y * (e * z)
pair x g y e z = add-mul (x * g) (y * e) z ∙ (λ i. mul_assoc x g z i + mul_assoc y e z i)

linear : (X1 X2 X3 X4 Y1 Y2 Y3 Y4 U M V N : ℕ) → X1 + X2 + M ≡ X3 + X4 + U → Y1 + Y2 + N ≡ Y3 + Y4 + V → X1 + Y3 ≤ Y1 + X3 → X2 + Y4 ≤ Y2 + X4 → U + N ≤ V + M
linear X1 X2 X3 X4 Y1 Y2 Y3 Y4 U M V N p q h l = omega arith

swap : (a b c d : ℕ) → a * (b * (c * d)) ≡ a * (c * (b * d))
swap a b c d = ap (λ (z : ℕ). a * z) (mul_left_comm b c d)

end : (a b c d : ℕ) → a * (b * (c * d)) ≡ a * (d * (b * c))
end a b c d = simp (mul_comm, mul_left_comm)

combine : (pu mu pv mv pa ma pc mc pb mb pd md e g d k : ℕ)
    → pa * d + pb * e + mu ≡ pu + ma * d + mb * e → pc * k + pd * g + mv ≡ pv + mc * k + md * g
    → pa * g + mc * e ≤ pc * e + ma * g → pb * k + md * d ≤ pd * d + mb * k
    → pu * (g * k) + mv * (e * d) ≤ pv * (e * d) + mu * (g * k)
combine pu mu pv mv pa ma pc mc pb mb pd md e g d k p q h l =
    linear (pa * (d * (g * k))) (pb * (e * (g * k))) (ma * (d * (g * k))) (mb * (e * (g * k))) (pc * (k * (e * d))) (pd * (g * (e * d))) (mc * (k * (e * d))) (md * (g * (e * d)))
    (pu * (g * k)) (mu * (g * k)) (pv * (e * d)) (mv * (e * d))
    (sym (spread pa d pb e mu (g * k)) ∙ ap (λ (z : ℕ). z * (g * k)) (p ∙ regroup (ma * d) (mb * e) pu) ∙ spread ma d mb e pu (g * k))
    (sym (spread pc k pd g mv (e * d)) ∙ ap (λ (z : ℕ). z * (e * d)) (q ∙ regroup (mc * k) (md * g) pv) ∙ spread mc k md g pv (e * d))
    (nat.le_trans (le_of_eq (λ i. sym (swap pa g d k) i + sym (end mc e d k) i)) (nat.le_trans (le_of_eq (sym (pair pa g mc e (d * k)))) (nat.le_trans (mul-le-mul_right (d * k) h) (nat.le_trans (le_of_eq (pair pc e ma g (d * k))) (le_of_eq (λ i. end pc e d k i + swap ma g d k i))))))
    (nat.le_trans (le_of_eq (λ i. sym (end' pb k e g) i + sym (tail md d e g) i)) (nat.le_trans (le_of_eq (sym (pair pb k md d (e * g)))) (nat.le_trans (mul-le-mul_right (e * g) l) (nat.le_trans (le_of_eq (pair pd d mb k (e * g))) (le_of_eq (λ i. tail pd d e g i + end' mb k e g i))))))
  where
    end' : (a k e g : ℕ) → a * (k * (e * g)) ≡ a * (e * (g * k))
    end' a k e g = simp (mul_comm, mul_left_comm)

    tail : (a d e g : ℕ) → a * (d * (e * g)) ≡ a * (g * (e * d))
    tail a d e g = simp (mul_comm, mul_left_comm)

fin_mono : (f : Format) (s : Bool) (m : ℕ) (e : ℤ) (t : Bool) (n : ℕ) (d : ℤ) (u : Bool) (i : ℕ) (g : ℤ) (v : Bool) (j : ℕ) (k : ℤ)
    → T (le (fin s m e) (fin u i g)) → T (le (fin t n d) (fin v j k)) → T (le (add f (fin s m e) (fin t n d)) (add f (fin u i g) (fin v j k)))
unfolding add
fin_mono f s m e t n d u i g v j k h l =
    let x = exact f s (m * up e * down d) t (n * up d * down e) (down e * down d) in
    let y = exact f u (i * up g * down k) v (j * up k * down g) (down g * down k) in
    subst (λ (z : Float). T (le z (sum f u (i * up g * down k) v (j * up k * down g) (down g * down k)))) (sym x.is)
    (subst (λ (z : Float). T (le (round f x.sign x.size (down e * down d)) z)) (sym y.is)
    (round_signed_mono f x.sign x.size (down e * down d) y.sign y.size (down g * down k) (mul-pos (down_pos e) (down_pos d)) (mul-pos (down_pos g) (down_pos k))
    (combine (pos_part x.sign x.size) (neg_part x.sign x.size) (pos_part y.sign y.size) (neg_part y.sign y.size)
    (pos_part s (m * up e)) (neg_part s (m * up e)) (pos_part u (i * up g)) (neg_part u (i * up g)) (pos_part t (n * up d)) (neg_part t (n * up d)) (pos_part v (j * up k)) (neg_part v (j * up k))
    (down e) (down g) (down d) (down k)
    (rw (sym (times s (m * up e) (down d)).0, sym (times s (m * up e) (down d)).1, sym (times t (n * up d) (down e)).0, sym (times t (n * up d) (down e)).1) x.value)
    (rw (sym (times u (i * up g) (down k)).0, sym (times u (i * up g) (down k)).1, sym (times v (j * up k) (down g)).0, sym (times v (j * up k) (down g)).1) y.value)
    (le_out s m e u i g h) (le_out t n d v j k l))))

pub add_mono : (f : Format) (x y u v : Float) → T (finite x) → T (finite y) → T (finite u) → T (finite v) → T (le x u) → T (le y v) → T (le (add f x y) (add f u v))
add_mono f nan y u v p q r o h l = absurd p
add_mono f (inf s) y u v p q r o h l = absurd p
add_mono f (fin s m e) nan u v p q r o h l = absurd q
add_mono f (fin s m e) (inf t) u v p q r o h l = absurd q
add_mono f (fin s m e) (fin t n d) nan v p q r o h l = absurd r
add_mono f (fin s m e) (fin t n d) (inf w) v p q r o h l = absurd r
add_mono f (fin s m e) (fin t n d) (fin w i g) nan p q r o h l = absurd o
add_mono f (fin s m e) (fin t n d) (fin w i g) (inf b) p q r o h l = absurd o
add_mono f (fin s m e) (fin t n d) (fin w i g) (fin b j k) p q r o h l = fin_mono f s m e t n d w i g b j k h l

neg_finite : (x : Float) → T (finite x) → T (finite (neg x))
unfolding neg
neg_finite nan p = p
neg_finite (inf s) p = p
neg_finite (fin s m e) p = p

pub sub_mono : (f : Format) (x y u v : Float) → T (finite x) → T (finite y) → T (finite u) → T (finite v) → T (le x u) → T (le v y) → T (le (sub f x y) (sub f u v))
unfolding sub
sub_mono f x y u v p q r o h l = add_mono f x (neg y) u (neg v) p (neg_finite y q) r (neg_finite v o) h (le_neg v y l)
