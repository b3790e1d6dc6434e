-- A length that is clamped is held in its limits, and limits that a style makes are in order.
use Rattle.std.proofs.Common.{◌≡◌, T, Option, unwrap_or, sym, subst, arith}
use lib.Ieee.{Float, le}
use Rattle.std.specs.Float.{float_max, float_min}
use Rattle.std.specs.Float.Order.{le_refl, le_trans, le_right}
use Rattle.number.proofs.Order.{most_least}
use Rattle.item_limits.specs.declared.limits.SideLength.{SideLength}
use Rattle.item_limits.specs.declared.limits.Limits.{Limits}
use Rattle.item_limits.specs.Limits.{at_least, under, border_length, limit, least, limits_of, clamped}
use Rattle.item_limits.specs.LimitLaws.{Number, Below, Ordered, Held, Fits}

-- ---- the larger and the smaller of two, where only the second need be no NaN

pub above_second : (x y : Float) → Number y → T (le y (float_max x y))
above_second x y n = grind (arith, le_refl)

below_second : (x y : Float) → Number y → T (le (float_min x y) y)
below_second x y n = grind (arith, le_refl)

-- ---- limits that a style makes

-- what stands for a limit, where b stands for one that is not there
limit_above : (b : SideLength) (a : Float) (o : Option Float) → Number b.border → T (le b.border (unwrap_or (limit b a o) b).border)
limit_above b a o n = grind (arith, above_second, le_refl)

limit_below : (b : SideLength) (a : Float) (o : Option Float) → Number b.border → Below (limit b a o) b.border
limit_below b a o n = grind (arith, above_second)

pub limits_ordered : (min max : Option Float) (e a : Float) (l : Limits) → l ≡ limits_of min max e a → Number e → Ordered e l
limits_ordered min max e a l q n =
    let least_above : T (le e (least (limits_of min max e a)).border) = limit_above (border_length a e) a min n in
    subst (Ordered e) (sym q) (record {
      minimum_holds_padding_and_border = least_above;
      maximum_holds_minimum = limit_below (least (limits_of min max e a)) a max (le_right e (least (limits_of min max e a)).border least_above);
    })

-- ---- a length that is clamped

below_maximum : (o : Option SideLength) (m s : SideLength) → Below o m.border → Below o (at_least (under o s) m).border
below_maximum o m s p = grind (arith, most_least, below_second, le_right)

stays : (o : Option SideLength) (m s : SideLength) → T (le m.border s.border) → Below o s.border → (at_least (under o s) m).border ≡ s.border
stays o m s p q = grind arith

pub clamped_held : (l : Limits) (s : SideLength) → Held l (clamped l s).border
clamped_held l s = record {
  at_least_minimum = above_second (under l.max s).border (least l).border;
  at_least_padding_and_border = λ min max e a q n.
      let above : T (le e (least l).border) = (limits_ordered min max e a l q n).minimum_holds_padding_and_border in
      le_trans e (least l).border (clamped l s).border above (above_second (under l.max s).border (least l).border (le_right e (least l).border above));
  at_most_maximum = below_maximum l.max (least l) s;
}

pub clamped_fits : (l : Limits) (s r : SideLength) → r ≡ clamped l s → Fits l s r
clamped_fits l s r e = subst (Fits l s) (sym e) (record { held = clamped_held l s; unchanged = stays l.max (least l) s })
