-- The width of a limited box is held in its limits.
use Rattle.std.proofs.Common.{◌≡◌, Some, None, Option, sym, refl, subst}
use Rattle.geometry.specs.declared.Size.{Size}
use Rattle.item_limits.specs.declared.limits.SideLength.{SideLength}
use Rattle.item_limits.specs.declared.limits.Limits.{Limits}
use Rattle.item_limits.specs.declared.ratio_box.AspectRatio.{AspectRatio}
use Rattle.item_limits.specs.Limits.{at_least, under, least}
use Rattle.item_limits.specs.LimitLaws.{Held}
use Rattle.item_limits.specs.RatioBoxes.{box_of_width, under_box, limited_by_height, limited_box}
use Rattle.item_limits.proofs.Held.{clamped_held}

under_width : (a : AspectRatio) (o : Option SideLength) (b : Size SideLength) → (under_box (box_of_width a) o b).width ≡ under o b.width
under_width a (Some max) b = refl
under_width a None b = refl

pub limited_held : (a : AspectRatio) (b r : Size SideLength) → r ≡ limited_box a b → Held a.limits.width r.width.border
limited_held a b r e =
    let low : Size SideLength = limited_by_height a b in
    let limits : Limits = a.limits.width in
    let held : Held limits (limited_box a b).width.border =
    subst (λ (w : SideLength). Held limits (at_least w (least limits)).border) (sym (under_width a limits.max low)) (clamped_held limits low.width) in
    subst (λ (z : Size SideLength). Held limits z.width.border) (sym e) held
