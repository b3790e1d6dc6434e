-- Axes and sides: what stands along an axis, and what is done side by side.
use Rattle.std.specs.Prelude.{Bool, ◌&&◌, Some, None, Option, from_bits, Float}
use Rattle.std.specs.Float.{binary32}
use Rattle.std.specs.Float.Ieee.{div, mul, lt}
use Rattle.geometry.specs.declared.AbsoluteAxis.{AbsoluteAxis}
use Rattle.geometry.specs.declared.AbsoluteAxis.TheVariants.{Horizontal, Vertical}
use Rattle.geometry.specs.declared.InBothAbsAxis.{InBothAbsAxis}
use Rattle.geometry.specs.declared.Line.{Line}
use Rattle.geometry.specs.declared.Rect.{Rect}
use Rattle.geometry.specs.declared.Size.{Size}

abbrev pub other_axis : AbsoluteAxis → AbsoluteAxis
other_axis Horizontal = Vertical
other_axis Vertical = Horizontal

-- what two axes have, along one of them
abbrev pub along : {A : Type 0} → AbsoluteAxis → InBothAbsAxis A → A
along Horizontal both = both.horizontal
along Vertical both = both.vertical

-- the extent of a size along an axis
abbrev pub extent : {A : Type 0} → AbsoluteAxis → Size A → A
extent Horizontal s = s.width
extent Vertical s = s.height

-- the two sides of a rectangle along an axis
abbrev pub sides : {A : Type 0} → AbsoluteAxis → Rect A → Line A
sides Horizontal r = record { start = r.left; end = r.right }
sides Vertical r = record { start = r.top; end = r.bottom }

-- f of the two widths, and of the two heights
abbrev pub zip_size : {A B C : Type 0} → (A → B → C) → Size A → Size B → Size C
zip_size f s t = record { width = f s.width t.width; height = f s.height t.height }

-- f of the three widths, and of the three heights
abbrev pub zip_three_sizes : {A B C D : Type 0} → (A → B → C → D) → Size A → Size B → Size C → Size D
zip_three_sizes f s t u = record { width = f s.width t.width u.width; height = f s.height t.height u.height }

-- f of the two rectangles, side by side
abbrev pub zip_rect : {A B C : Type 0} → (A → B → C) → Rect A → Rect B → Rect C
zip_rect f r t = record { left = f r.left t.left; right = f r.right t.right; top = f r.top t.top; bottom = f r.bottom t.bottom }

-- both extents are above zero
abbrev pub has_area : Size Float → Bool
has_area s = lt (from_bits binary32 0) s.width && lt (from_bits binary32 0) s.height

-- a missing side by the ratio of width to height, where the other one is there
abbrev pub by_ratio : Float → Option Float → Option Float → Size (Option Float)
by_ratio ratio (Some w) (Some h) = record { width = Some w; height = Some h }
by_ratio ratio (Some w) None = record { width = Some w; height = Some (div binary32 w ratio) }
by_ratio ratio None (Some h) = record { width = Some (mul binary32 h ratio); height = Some h }
by_ratio ratio None None = record { width = None; height = None }

abbrev pub with_aspect_ratio : Option Float → Size (Option Float) → Size (Option Float)
with_aspect_ratio None s = s
with_aspect_ratio (Some ratio) s = by_ratio ratio s.width s.height
