-- Along one axis a reach covers the side and the overflow that leaves it, and no more.
use Rattle.std.proofs.Common.{Bool, true, false, not, ◌||◌, T}
use lib.Ieee.{Float, binary32, of_bits, add, le, is_nan, fits}
use lib.Ieee.Scale.{finite}
use Rattle.std.specs.Float.{float_max, float_min}
use Rattle.std.specs.Float.Order.{le_refl, le_trans}
use Rattle.number.proofs.Order.{cond_both, le_most_left, le_most_right, least_le_left, least_le_right}
use Rattle.number.proofs.Monotone.{add_mono}
use Rattle.number.proofs.Grows.{add_grows}
use Rattle.geometry.specs.declared.Line.{Line}
use Rattle.style.specs.declared.modes.Overflow.{Overflow}
use Rattle.style.specs.declared.modes.Overflow.TheVariants.{Visible, Clip, Hidden, Scroll}
use Rattle.item_overflow.specs.ScrollableOverflow.{zero, from_to, reach}
use Rattle.item_overflow.specs.Laws.{leaves}
use Rattle.item_overflow.proofs.Shrinks.{finite_number, add_shrinks}
use Rattle.item_overflow.proofs.Finite.{FiniteLine}

-- from the edge x: the reach k of a side, with the overflow l that may leave it
pub record Along (x side : Float) (l k : Line Float) (out : Bool) : Type 0 where
  pub start : T (le (add binary32 x k.start) x)
  pub end : T (le (add binary32 x side) (add binary32 x k.end))
  pub covers_start : T out → T (le (add binary32 x k.start) (add binary32 x l.start))
  pub covers_end : T out → T (le (add binary32 x l.end) (add binary32 x k.end))
  pub latest_start : (a : Float) → T (le a x) → (T out → T (le a (add binary32 x l.start))) → T (le a (add binary32 x k.start))
  pub earliest_end : (b : Float) → T (le (add binary32 x side) b) → (T out → T (le (add binary32 x l.end) b)) → T (le (add binary32 x k.end) b)

module _ (x side : Float) (l : Line Float) (v : T (fits binary32 x)) (p : T (finite x)) (q : T (finite side)) (h : FiniteLine l) where
  same : (y : Float) → T (finite y) → T (le y y)
  same y f = le_refl y (finite_number y f)

  keeps_order : (y z : Float) → T (finite y) → T (finite z) → T (le y z) → T (le (add binary32 x y) (add binary32 x z))
  keeps_order y z f g k = add_mono binary32 x y x z p f p g (same x p) k

  from_zero : T (le x (add binary32 x zero))
  unfolding of_bits
  from_zero = add_grows binary32 x zero v p tt (same zero tt)

  plain : Along x side l (from_to zero side) false
  unfolding of_bits
  plain = record {
    start = add_shrinks binary32 x zero v p tt (same zero tt);
    end = keeps_order side side q q (same side q);
    covers_start = λ t. absurd t;
    covers_end = λ t. absurd t;
    latest_start = λ a i j. le_trans a x (add binary32 x zero) i from_zero;
    earliest_end = λ b i j. i;
  }

  visible : Along x side l (from_to (float_min zero l.start) (float_max side l.end)) true
  unfolding of_bits
  visible =
      let nz : T (not (is_nan zero)) = finite_number zero tt in
      let ns = finite_number l.start h.start in
      let ne = finite_number l.end h.end in
      let nq = finite_number side q in
      let fs : T (finite (float_min zero l.start)) = cond_both (λ (z : Float). T (finite z)) (le zero l.start || is_nan l.start) zero l.start tt h.start in
      let fe : T (finite (float_max side l.end)) = cond_both (λ (z : Float). T (finite z)) (le l.end side || is_nan l.end) side l.end q h.end in
      record {
        start = add_shrinks binary32 x (float_min zero l.start) v p fs (least_le_left zero l.start nz ns);
        end = keeps_order side (float_max side l.end) q fe (le_most_left side l.end nq ne);
        covers_start = λ t. keeps_order (float_min zero l.start) l.start fs h.start (least_le_right zero l.start nz ns);
        covers_end = λ t. keeps_order l.end (float_max side l.end) h.end fe (le_most_right side l.end nq ne);
        latest_start = λ a i j. cond_both (λ (z : Float). T (le a (add binary32 x z))) (le zero l.start || is_nan l.start) zero l.start (le_trans a x (add binary32 x zero) i from_zero) (j tt);
        earliest_end = λ b i j. cond_both (λ (z : Float). T (le (add binary32 x z) b)) (le l.end side || is_nan l.end) side l.end i (j tt);
      }

  pub along : (keeps : Bool) (o : Overflow) → Along x side l (reach keeps o side l) (leaves keeps o)
  along true o = plain
  along false Visible = visible
  along false Clip = plain
  along false Hidden = plain
  along false Scroll = plain
