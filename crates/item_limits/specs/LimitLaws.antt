-- What limits promise, in border boxes: which are in order, and what a length within them is.
use Rattle.std.specs.Prelude.{◌≡◌, not, T, Some, None, Option, is_nan, Float}
use Rattle.std.specs.Float.Ieee.{le}
use Rattle.item_limits.specs.declared.limits.SideLength.{SideLength}
use Rattle.item_limits.specs.declared.limits.Limits.{Limits}
use Rattle.item_limits.specs.Limits.{least, limits_of}

abbrev pub Number : Float → Type 0
Number x = T (not (is_nan x))

-- x is at most the maximum, where there is one
abbrev pub Below : Option SideLength → Float → Type 0
Below (Some max) x = T (le x max.border)
Below None x = Unit {0}

-- the minimum is not below padding and border, nor the maximum below the minimum
pub record Ordered (padding_border : Float) (l : Limits) : Type 0 where
  pub minimum_holds_padding_and_border : T (le padding_border (least l).border)
  pub maximum_holds_minimum : Below l.max (least l).border

-- x is in the limits l, whatever it was before: never below the minimum, nor below the padding and border that the limits were made with
pub record Held (l : Limits) (x : Float) : Type 0 where
  pub at_least_minimum : Number (least l).border → T (le (least l).border x)
  pub at_least_padding_and_border : (min max : Option Float) (padding_border adjustment : Float) → l ≡ limits_of min max padding_border adjustment → Number padding_border → T (le padding_border x)
  pub at_most_maximum : Below l.max (least l).border → Below l.max x

-- r is s held in the limits, and s itself where s is in them
pub record Fits (l : Limits) (s r : SideLength) : Type 0 where
  pub held : Held l r.border
  pub unchanged : T (le (least l).border s.border) → Below l.max s.border → r.border ≡ s.border
