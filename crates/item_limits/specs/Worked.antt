-- Worked sides: numbers that were found by hand.
use Rattle.std.specs.Prelude.{ℕ, Bool, ◌&&◌, T, pos, Some, None, Option, Float}
use Rattle.std.specs.Float.{binary32}
use Rattle.std.specs.Float.Ieee.{eq, of_int}
use Rattle.geometry.specs.declared.Size.{Size}
use Rattle.item_limits.specs.declared.limits.SideLength.{SideLength}
use Rattle.item_limits.specs.declared.limits.Limits.{Limits}
use Rattle.item_limits.specs.declared.ratio_box.AspectRatio.{AspectRatio}
use Rattle.item_limits.specs.Limits.{limits_of, named_length, border_length, clamped}
use Rattle.item_limits.specs.RatioBoxes.{box_of_width, limited_box}

abbrev pub whole : ℕ → Float
whole n = of_int binary32 (pos n)

-- border-box, with no padding or border
abbrev pub limits : (min max : Option Float) → Limits
limits min max = limits_of min max (whole 0) (whole 0)

-- content-box, with so much padding and border
abbrev pub padded : ℕ → Limits
padded n = limits_of None None (whole n) (whole n)

-- twice as wide as high
abbrev pub double : (width height : Limits) → AspectRatio
double w h = record { ratio = whole 2; limits = record { width = w; height = h } }

abbrev pub is_box : Size SideLength → (width height : ℕ) → Bool
is_box b w h = eq b.width.border (whole w) && eq b.height.border (whole h)

pub record SidesWorked : Type 0 where
  pub minimum_above_maximum : T (eq (clamped (limits (Some (whole 80)) (Some (whole 60))) (named_length (whole 0) (whole 50))).border (whole 80))
  pub ratio_of_content_box : T (is_box (box_of_width (double (padded 10) (padded 0)) (border_length (whole 10) (whole 100))) 100 45)
  pub two_maxima : T (is_box (limited_box (double (limits None (Some (whole 60))) (limits None (Some (whole 15)))) (box_of_width (double (limits None None) (limits None None)) (border_length (whole 0) (whole 100)))) 30 15)
