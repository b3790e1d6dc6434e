-- What every contribution keeps: it is nothing, or the smallest rectangle around the item's border box and the overflow that leaves it.
use Rattle.std.specs.Prelude.{◌≡◌, Bool, true, false, not, ◌&&◌, T, ◌⊎◌, Float}
use Rattle.std.specs.Float.{binary32}
use Rattle.std.specs.Float.Ieee.{add, le, lt}
use Rattle.number.specs.Sizes.{Bounded}
use Rattle.geometry.specs.Holds.{Holds}
use Rattle.geometry.specs.declared.Rect.{Rect}
use Rattle.style.specs.declared.modes.Overflow.{Overflow}
use Rattle.style.specs.declared.modes.Overflow.TheVariants.{Visible, Clip, Hidden, Scroll}
use Rattle.item_overflow.specs.declared.boxes.ContainerBox.{ContainerBox}
use Rattle.item_overflow.specs.declared.boxes.ItemBox.{ItemBox}
use Rattle.item_overflow.specs.ScrollableOverflow.{zero, nothing, corner, inline_overflow, block_overflow, keeps_overflow, area_from}

-- the item's border box, from the corner of the container's padding box at its inline start and top
abbrev pub border_box : ContainerBox → ItemBox → Rect Float
border_box container item = record {
  left = (corner container item).x;
  right = add binary32 (corner container item).x item.size.width;
  top = (corner container item).y;
  bottom = add binary32 (corner container item).y item.size.height;
}

-- the item's scrollable overflow area, from the same corner
abbrev pub overflow_area : ContainerBox → ItemBox → Rect Float
overflow_area container item = area_from (corner container item) (inline_overflow container item) (block_overflow item)

abbrev pub is_visible : Overflow → Bool
is_visible Visible = true
is_visible Clip = false
is_visible Hidden = false
is_visible Scroll = false

-- overflow leaves the box in an axis
abbrev pub leaves : Bool → Overflow → Bool
leaves keeps overflow = not keeps && is_visible overflow

abbrev pub leaves_inline : ItemBox → Bool
leaves_inline item = leaves (keeps_overflow item) item.overflow.x

abbrev pub leaves_block : ItemBox → Bool
leaves_block item = leaves (keeps_overflow item) item.overflow.y

-- the overflow area lies between the edges of `outer`, in each axis in which it leaves the item
pub record Covers (outer : Rect Float) (container : ContainerBox) (item : ItemBox) : Type 0 where
  pub left : T (leaves_inline item) → T (le outer.left (overflow_area container item).left)
  pub right : T (leaves_inline item) → T (le (overflow_area container item).right outer.right)
  pub top : T (leaves_block item) → T (le outer.top (overflow_area container item).top)
  pub bottom : T (leaves_block item) → T (le (overflow_area container item).bottom outer.bottom)

pub record SmallestReached (container : ContainerBox) (item : ItemBox) (r : Rect Float) : Type 0 where
  pub holds_border_box : Holds r (border_box container item)
  pub covers_overflow : Covers r container item
  pub smallest : (outer : Rect Float) → Holds outer (border_box container item) → Covers outer container item → Holds outer r
  pub reachable : T container.is_scroll_container → T (lt zero r.right) × T (lt zero r.bottom)

-- each side is at most 2 ^ 120 in magnitude, so that a few of them added stay finite
pub record ModerateSides (r : Rect Float) : Type 0 where
  pub left : Bounded 120 r.left
  pub right : Bounded 120 r.right
  pub top : Bounded 120 r.top
  pub bottom : Bounded 120 r.bottom

pub record Moderate (container : ContainerBox) (item : ItemBox) : Type 0 where
  pub container_width : Bounded 120 container.width
  pub container_border : ModerateSides container.border
  pub x : Bounded 120 item.location.x
  pub y : Bounded 120 item.location.y
  pub width : Bounded 120 item.size.width
  pub height : Bounded 120 item.size.height
  pub border : ModerateSides item.border
  pub overflow : ModerateSides item.scrollable_overflow_rect

abbrev pub Contributes : ContainerBox → ItemBox → Rect Float → Type 0
Contributes container item r = Moderate container item → (r ≡ nothing) ⊎ SmallestReached container item r
