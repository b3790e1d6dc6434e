-- The union of two rectangles holds both, and what holds both holds it.
use Rattle.std.proofs.Common.{◌⊎◌, inl, inr}
use lib.Ieee.{Float}
use Rattle.std.specs.Float.Order.{le_trans}
use Rattle.number.proofs.Order.{le_most_left, le_most_right, most_least, least_le_left, least_le_right, least_most}
use Rattle.geometry.specs.declared.Point.{Point}
use Rattle.geometry.specs.declared.Rect.{Rect}
use Rattle.geometry.specs.Holds.{Holds, HoldsPoint, WithoutNaN, union_of, SmallestAround}

holds_first : (a b : Rect Float) → WithoutNaN a → WithoutNaN b → Holds (union_of a b) a
holds_first a b p q = record {
  left = least_le_left a.left b.left p.left q.left;
  right = le_most_left a.right b.right p.right q.right;
  top = least_le_left a.top b.top p.top q.top;
  bottom = le_most_left a.bottom b.bottom p.bottom q.bottom;
}

holds_second : (a b : Rect Float) → WithoutNaN a → WithoutNaN b → Holds (union_of a b) b
holds_second a b p q = record {
  left = least_le_right a.left b.left p.left q.left;
  right = le_most_right a.right b.right p.right q.right;
  top = least_le_right a.top b.top p.top q.top;
  bottom = le_most_right a.bottom b.bottom p.bottom q.bottom;
}

smallest : (a b outer : Rect Float) → Holds outer a → Holds outer b → Holds outer (union_of a b)
smallest a b outer p q = record {
  left = least_most a.left b.left outer.left p.left q.left;
  right = most_least a.right b.right outer.right p.right q.right;
  top = least_most a.top b.top outer.top p.top q.top;
  bottom = most_least a.bottom b.bottom outer.bottom p.bottom q.bottom;
}

-- a rectangle holds each point of one that it holds
pub holds_points : (outer inner : Rect Float) (p : Point Float) → Holds outer inner → HoldsPoint inner p → HoldsPoint outer p
holds_points outer inner p h k = record {
  left = le_trans outer.left inner.left p.x h.left k.left;
  right = le_trans p.x inner.right outer.right k.right h.right;
  top = le_trans outer.top inner.top p.y h.top k.top;
  bottom = le_trans p.y inner.bottom outer.bottom k.bottom h.bottom;
}

either_points : (a b : Rect Float) → WithoutNaN a → WithoutNaN b → (p : Point Float) → HoldsPoint a p ⊎ HoldsPoint b p → HoldsPoint (union_of a b) p
either_points a b e d p (inl h) = holds_points (union_of a b) a p (holds_first a b e d) h
either_points a b e d p (inr h) = holds_points (union_of a b) b p (holds_second a b e d) h

pub union_smallest : (a b : Rect Float) → SmallestAround a b (union_of a b)
union_smallest a b = record {
  holds_first = holds_first a b;
  holds_second = holds_second a b;
  smallest = smallest a b;
  points = either_points a b;
}
