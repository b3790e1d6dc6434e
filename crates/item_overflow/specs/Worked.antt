-- Worked contributions and baselines: for each, the edges found by hand.
use Rattle.std.specs.Prelude.{Bool, true, false, ◌&&◌, T, List, [], ◌∷◌, ℤ, pos, negsuc, Some, None, Option, Float}
use Rattle.std.specs.Float.{binary32}
use Rattle.std.specs.Float.Ieee.{eq, of_int}
use Rattle.geometry.specs.declared.Rect.{Rect}
use Rattle.style.specs.declared.alignment.Direction.{Direction}
use Rattle.style.specs.declared.alignment.Direction.TheVariants.{Ltr, Rtl}
use Rattle.style.specs.declared.modes.Overflow.{Overflow}
use Rattle.style.specs.declared.modes.Overflow.TheVariants.{Visible, Clip, Hidden, Scroll}
use Rattle.item_overflow.specs.declared.boxes.ContainerBox.{ContainerBox}
use Rattle.item_overflow.specs.declared.boxes.ItemBox.{ItemBox}
use Rattle.item_overflow.specs.ScrollableOverflow.{scrollable_overflow_contribution}
use Rattle.item_overflow.specs.Baselines.{child_first_baseline}

abbrev pub whole : ℤ → Float
whole = of_int binary32

abbrev pub edges : ℤ → ℤ → ℤ → ℤ → Rect Float
edges left right top bottom = record { left = whole left; right = whole right; top = whole top; bottom = whole bottom }

-- 300 wide, with borders of 10 at the left, 5 at the right and none above
abbrev pub container : Direction → Bool → ContainerBox
container direction scrolls =
    record { width = whole (pos 300); border = edges (pos 10) (pos 5) (pos 0) (pos 0); direction = direction; is_scroll_container = scrolls }

-- 20 high, at y 10, with borders of 10 at the left and 3 at the right; its overflow area is as high as it is
abbrev pub item : ℤ → ℤ → ℤ → ℤ → Overflow → Direction → ItemBox
item x width start end overflow direction = record {
  location = record { x = whole x; y = whole (pos 10) };
  size = record { width = whole width; height = whole (pos 20) };
  border = edges (pos 10) (pos 3) (pos 0) (pos 0);
  scrollable_overflow_rect = edges start end (pos 0) (pos 20);
  overflow = record { x = overflow; y = overflow };
  contain = record { layout = false; paint = false };
  direction = direction;
}

-- equal as numbers, so that the sign of a zero is free
abbrev pub same_edges : Rect Float → Rect Float → Bool
same_edges r t = eq r.left t.left && eq r.right t.right && eq r.top t.top && eq r.bottom t.bottom

abbrev pub adds : ContainerBox → ItemBox → Rect Float → Bool
adds c i r = same_edges (scrollable_overflow_contribution c i) r

abbrev pub same_baseline : Option Float → Option Float → Bool
same_baseline (Some a) (Some b) = eq a b
same_baseline (Some a) None = false
same_baseline None (Some b) = false
same_baseline None None = true

-- a baseline within 20 of height
abbrev pub answers : Option Float → Overflow → Option Float → Bool
answers baseline overflow r = same_baseline (child_first_baseline baseline (whole (pos 20)) overflow) r

abbrev pub cases : List Bool
cases =
    -- 40 by 20 from (-50, 10): before the scroll origin, which counts only where there is scrolling
    adds (container Ltr true) (item (negsuc 39) (pos 40) (pos 0) (pos 20) Visible Ltr) (edges (pos 0) (pos 0) (pos 0) (pos 0))
    ∷ adds (container Ltr false) (item (negsuc 39) (pos 40) (pos 0) (pos 20) Visible Ltr) (edges (negsuc 49) (negsuc 9) (pos 10) (pos 30))
    -- its right edge at the scroll origin, and one past it
    ∷ adds (container Ltr true) (item (negsuc 29) (pos 40) (pos 0) (pos 20) Visible Ltr) (edges (pos 0) (pos 0) (pos 0) (pos 0))
    ∷ adds (container Ltr true) (item (negsuc 28) (pos 40) (pos 0) (pos 20) Visible Ltr) (edges (negsuc 38) (pos 1) (pos 10) (pos 30))
    -- content 150 wide from the padding box of an item 100 wide
    ∷ adds (container Ltr true) (item (pos 10) (pos 100) (pos 0) (pos 150) Visible Ltr) (edges (pos 0) (pos 160) (pos 10) (pos 30))
    ∷ adds (container Ltr true) (item (pos 10) (pos 100) (pos 0) (pos 150) Hidden Ltr) (edges (pos 0) (pos 100) (pos 10) (pos 30))
    ∷ adds (container Ltr true) (item (pos 10) (pos 100) (pos 0) (pos 150) Clip Ltr) (edges (pos 0) (pos 100) (pos 10) (pos 30))
    -- from right to left: 100 - (3 + 150) is -53
    ∷ adds (container Ltr true) (item (pos 10) (pos 100) (pos 0) (pos 150) Visible Rtl) (edges (negsuc 52) (pos 100) (pos 10) (pos 30))
    -- in a container from right to left the corner is 300 - (60 + 100) - 5
    ∷ adds (container Rtl true) (item (pos 60) (pos 100) (pos 0) (pos 150) Visible Rtl) (edges (pos 135) (pos 288) (pos 10) (pos 30))
    ∷ adds (container Rtl true) (item (pos 60) (pos 100) (pos 0) (pos 150) Visible Ltr) (edges (pos 75) (pos 235) (pos 10) (pos 30))
    -- no width, but content before it: -40 to -10 from the padding box are -30 to 0 from the border box
    ∷ adds (container Ltr true) (item (pos 210) (pos 0) (negsuc 39) (negsuc 9) Visible Ltr) (edges (pos 170) (pos 200) (pos 10) (pos 30))
    ∷ adds (container Ltr true) (item (pos 210) (pos 0) (negsuc 39) (negsuc 9) Clip Ltr) (edges (pos 0) (pos 0) (pos 0) (pos 0))
    ∷ answers None Visible None
    ∷ answers (Some (whole (pos 30))) Clip (Some (whole (pos 30)))
    ∷ answers None Hidden (Some (whole (pos 20)))
    ∷ answers (Some (whole (pos 30))) Scroll (Some (whole (pos 20)))
    ∷ answers (Some (whole (negsuc 4))) Scroll (Some (whole (pos 0)))
    ∷ answers (Some (whole (pos 15))) Scroll (Some (whole (pos 15)))
    ∷ []

abbrev pub all_hold : List Bool → Bool
all_hold [] = true
all_hold (b ∷ bs) = b && all_hold bs

abbrev pub ContributionsHold : Type 0
ContributionsHold = T (all_hold cases)
