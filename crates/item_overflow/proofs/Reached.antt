-- A contribution is nothing, or the smallest rectangle around what the item reaches.
use Rattle.std.proofs.Common.{◌≡◌, Bool, true, false, cond, not, ◌&&◌, ◌||◌, T, ◌⊎◌, sym, refl, subst, inl, inr}
use lib.Ieee.{Float, binary32, of_bits, le, lt}
use lib.Ieee.Fits.{sub-fits}
use Rattle.std.specs.Float.Order.{le_right, lt_of_not-le}
use Rattle.geometry.specs.Holds.{Holds}
use Rattle.geometry.specs.declared.Rect.{Rect}
use Rattle.item_overflow.specs.declared.boxes.ContainerBox.{ContainerBox}
use Rattle.item_overflow.specs.declared.boxes.ItemBox.{ItemBox}
use Rattle.item_overflow.specs.ScrollableOverflow.{zero, nothing, corner, inline_overflow, block_overflow, keeps_overflow, inline_reach, block_reach, reached_area, is_empty, adds_nothing, scrollable_overflow_contribution}
use Rattle.item_overflow.specs.Laws.{border_box, leaves_inline, leaves_block, Covers, SmallestReached, Moderate, Contributes}
use Rattle.item_overflow.proofs.Shrinks.{finite_number}
use Rattle.item_overflow.proofs.Finite.{within_finite, inline_finite, block_finite, corner_x_finite, corner_y_finite, corner_x_fits}
use Rattle.item_overflow.proofs.Axes.{Along, along}

in_view : (empty scrolls x y : Bool) → T (not (empty || (scrolls && (x || y)))) → T scrolls → T (not x) × T (not y)
in_view true s x y h t = absurd h
in_view false false x y h t = absurd t
in_view false true true y h t = absurd h
in_view false true false true h t = absurd h
in_view false true false false h t = (tt, tt)

above_zero : (low x : Float) → T (le low x) → T (not (le x zero)) → T (lt zero x)
unfolding of_bits
above_zero low x k h = lt_of_not-le x zero (le_right low x k) (finite_number zero tt) h

module _ (c : ContainerBox) (i : ItemBox) (m : Moderate c i) where
  across : Along (corner c i).x i.size.width (inline_overflow c i) (inline_reach c i) (leaves_inline i)
  across =
      along (corner c i).x i.size.width (inline_overflow c i) (corner_x_fits c.direction c i) (corner_x_finite c i m c.direction)
      (within_finite 1 120 i.size.width m.width) (inline_finite c i m) (keeps_overflow i) i.overflow.x

  down : Along (corner c i).y i.size.height (block_overflow i) (block_reach i) (leaves_block i)
  down =
      along (corner c i).y i.size.height (block_overflow i) (sub-fits binary32 i.location.y c.border.top) (corner_y_finite c i m)
      (within_finite 1 120 i.size.height m.height) (block_finite c i m) (keeps_overflow i) i.overflow.y

  smallest : (outer : Rect Float) → Holds outer (border_box c i) → Covers outer c i → Holds outer (reached_area c i)
  smallest outer h k = record {
    left = across.latest_start outer.left h.left k.left;
    right = across.earliest_end outer.right h.right k.right;
    top = down.latest_start outer.top h.top k.top;
    bottom = down.earliest_end outer.bottom h.bottom k.bottom;
  }

  reached : (T c.is_scroll_container → T (not (le (reached_area c i).right zero)) × T (not (le (reached_area c i).bottom zero))) → SmallestReached c i (reached_area c i)
  reached v = record {
    holds_border_box = record { left = across.start; right = across.end; top = down.start; bottom = down.end };
    covers_overflow = record { left = across.covers_start; right = across.covers_end; top = down.covers_start; bottom = down.covers_end };
    smallest = smallest;
    reachable = λ t. (above_zero (border_box c i).right (reached_area c i).right across.end (v t).0, above_zero (border_box c i).bottom (reached_area c i).bottom down.end (v t).1);
  }

  choose : (b : Bool) → (T (not b) → T c.is_scroll_container → T (not (le (reached_area c i).right zero)) × T (not (le (reached_area c i).bottom zero)))
      → (cond b nothing (reached_area c i) ≡ nothing) ⊎ SmallestReached c i (cond b nothing (reached_area c i))
  choose true k = inl refl
  choose false k = inr (reached (k tt))

by_definition : (c : ContainerBox) (i : ItemBox) → Contributes c i (scrollable_overflow_contribution c i)
by_definition c i m =
    choose c i m (adds_nothing c i)
    (in_view (is_empty (inline_reach c i) || is_empty (block_reach i)) c.is_scroll_container (le (reached_area c i).right zero) (le (reached_area c i).bottom zero))

pub contributes : (c : ContainerBox) (i : ItemBox) (r : Rect Float) → r ≡ scrollable_overflow_contribution c i → Contributes c i r
contributes c i r e = subst (Contributes c i) (sym e) (by_definition c i)
