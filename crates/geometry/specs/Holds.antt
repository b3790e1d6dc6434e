-- One rectangle in another, with its fields as edges, and the smallest one that holds two.
use Rattle.std.specs.Prelude.{not, T, ◌⊎◌, is_nan, Float}
use Rattle.std.specs.Float.Ieee.{le}
use Rattle.std.specs.Float.{float_max, float_min}
use Rattle.geometry.specs.declared.Point.{Point}
use Rattle.geometry.specs.declared.Rect.{Rect}

pub record Holds (outer inner : Rect Float) : Type 0 where
  pub left : T (le outer.left inner.left)
  pub right : T (le inner.right outer.right)
  pub top : T (le outer.top inner.top)
  pub bottom : T (le inner.bottom outer.bottom)

-- a point on an edge is held too
pub record HoldsPoint (r : Rect Float) (p : Point Float) : Type 0 where
  pub left : T (le r.left p.x)
  pub right : T (le p.x r.right)
  pub top : T (le r.top p.y)
  pub bottom : T (le p.y r.bottom)

-- no edge is a NaN
pub record WithoutNaN (r : Rect Float) : Type 0 where
  pub left : T (not (is_nan r.left))
  pub right : T (not (is_nan r.right))
  pub top : T (not (is_nan r.top))
  pub bottom : T (not (is_nan r.bottom))

abbrev pub union_of : Rect Float → Rect Float → Rect Float
union_of a b = record { left = float_min a.left b.left; right = float_max a.right b.right; top = float_min a.top b.top; bottom = float_max a.bottom b.bottom }

-- r holds a and b, every rectangle that holds them holds r, and no point of either is lost
pub record SmallestAround (a b r : Rect Float) : Type 0 where
  pub holds_first : WithoutNaN a → WithoutNaN b → Holds r a
  pub holds_second : WithoutNaN a → WithoutNaN b → Holds r b
  pub smallest : (outer : Rect Float) → Holds outer a → Holds outer b → Holds outer r
  pub points : WithoutNaN a → WithoutNaN b → (p : Point Float) → HoldsPoint a p ⊎ HoldsPoint b p → HoldsPoint r p
