-- What an item adds to its container's scrollable overflow area, per CSS Overflow 3, 2.2.
use Rattle.std.specs.Prelude.{Bool, cond, ◌&&◌, ◌||◌, from_bits, Float}
use Rattle.std.specs.Float.Ieee.{add, sub, le}
use Rattle.std.specs.Float.{float_max, float_min, binary32}
use Rattle.geometry.specs.Shapes.{sides}
use Rattle.geometry.specs.declared.AbsoluteAxis.TheVariants.{Horizontal, Vertical}
use Rattle.geometry.specs.declared.Line.{Line}
use Rattle.geometry.specs.declared.Point.{Point}
use Rattle.geometry.specs.declared.Rect.{Rect}
use Rattle.style.specs.Modes.{scroll_container}
use Rattle.style.specs.declared.alignment.Direction.{Direction}
use Rattle.style.specs.declared.alignment.Direction.TheVariants.{Ltr, Rtl}
use Rattle.style.specs.declared.modes.Overflow.{Overflow}
use Rattle.style.specs.declared.modes.Overflow.TheVariants.{Visible, Clip, Hidden, Scroll}
use Rattle.item_overflow.specs.declared.boxes.ContainerBox.{ContainerBox}
use Rattle.item_overflow.specs.declared.boxes.ItemBox.{ItemBox}

abbrev pub zero : Float
zero = from_bits binary32 0

abbrev pub nothing : Rect Float
nothing = record { left = zero; right = zero; top = zero; bottom = zero }

abbrev pub from_to : Float → Float → Line Float
from_to a b = record { start = a; end = b }

abbrev pub shifted : Float → Line Float → Line Float
shifted by l = from_to (add binary32 by l.start) (add binary32 by l.end)

-- seen from the other end of a side
abbrev pub mirrored : Float → Line Float → Line Float
mirrored side l = from_to (sub binary32 side l.end) (sub binary32 side l.start)

-- along the item's inline axis, as the container's inline axis runs
abbrev pub as_container : Direction → Direction → Float → Line Float → Line Float
as_container Ltr Ltr width l = l
as_container Ltr Rtl width l = mirrored width l
as_container Rtl Ltr width l = mirrored width l
as_container Rtl Rtl width l = l

abbrev pub inline_start : Direction → Rect Float → Float
inline_start Ltr border = border.left
inline_start Rtl border = border.right

-- the edge of the item's border box at the container's inline start, from that edge of the container's padding box
abbrev pub inline_corner : Direction → ContainerBox → ItemBox → Float
inline_corner Ltr container item = sub binary32 item.location.x container.border.left
inline_corner Rtl container item =
    sub binary32 (sub binary32 container.width (add binary32 item.location.x item.size.width)) container.border.right

-- the corner of the item's border box at the container's inline start and top, from that corner of the container's padding box
abbrev pub corner : ContainerBox → ItemBox → Point Float
corner container item = record { x = inline_corner container.direction container item; y = sub binary32 item.location.y container.border.top }

-- the item's scrollable overflow area, from the same corner of its own border box
abbrev pub inline_overflow : ContainerBox → ItemBox → Line Float
inline_overflow container item =
    as_container item.direction container.direction item.size.width
    (shifted (inline_start item.direction item.border) (sides Horizontal item.scrollable_overflow_rect))

abbrev pub block_overflow : ItemBox → Line Float
block_overflow item = shifted item.border.top (sides Vertical item.scrollable_overflow_rect)

-- no overflow leaves it in either axis: it can be scrolled to inside the item, or is contained
abbrev pub keeps_overflow : ItemBox → Bool
keeps_overflow item =
    scroll_container item.overflow.x || scroll_container item.overflow.y || (item.contain.layout || item.contain.paint)

-- how far a box reaches along an axis, from its start edge: over its side, and over its overflow where that is visible
abbrev pub visible_reach : Overflow → Float → Line Float → Line Float
visible_reach Visible side l = from_to (float_min zero l.start) (float_max side l.end)
visible_reach Clip side l = from_to zero side
visible_reach Hidden side l = from_to zero side
visible_reach Scroll side l = from_to zero side

abbrev pub reach : Bool → Overflow → Float → Line Float → Line Float
reach keeps overflow side l = cond keeps (from_to zero side) (visible_reach overflow side l)

abbrev pub inline_reach : ContainerBox → ItemBox → Line Float
inline_reach container item = reach (keeps_overflow item) item.overflow.x item.size.width (inline_overflow container item)

abbrev pub block_reach : ItemBox → Line Float
block_reach item = reach (keeps_overflow item) item.overflow.y item.size.height (block_overflow item)

-- two reaches from a corner
abbrev pub area_from : Point Float → Line Float → Line Float → Rect Float
area_from p inline block = record {
  left = add binary32 p.x inline.start;
  right = add binary32 p.x inline.end;
  top = add binary32 p.y block.start;
  bottom = add binary32 p.y block.end;
}

abbrev pub reached_area : ContainerBox → ItemBox → Rect Float
reached_area container item = area_from (corner container item) (inline_reach container item) (block_reach item)

abbrev pub is_empty : Line Float → Bool
is_empty l = le l.end l.start

-- wholly before the scroll origin in an axis: no scrolling brings it into view
abbrev pub unreachable : Rect Float → Bool
unreachable r = le r.right zero || le r.bottom zero

abbrev pub adds_nothing : ContainerBox → ItemBox → Bool
adds_nothing container item =
    (is_empty (inline_reach container item) || is_empty (block_reach item))
    || (container.is_scroll_container && unreachable (reached_area container item))

abbrev pub scrollable_overflow_contribution : ContainerBox → ItemBox → Rect Float
scrollable_overflow_contribution container item = cond (adds_nothing container item) nothing (reached_area container item)
