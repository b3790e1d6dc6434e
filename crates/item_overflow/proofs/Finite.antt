-- Of moderate boxes, the corner and the overflow are finite, and the corner is a value of f32.
use Rattle.std.proofs.Common.{ℕ, T, lit<}
use lib.Ieee.{Float, nan, inf, fin, binary32, add, sub, fits}
use lib.Ieee.Fits.{sub-fits}
use lib.Ieee.Scale.{finite}
use Rattle.number.specs.Sizes.{Within, Bounded}
use Rattle.number.proofs.Sizes.{add_within, sub_within}
use Rattle.geometry.specs.declared.Line.{Line}
use Rattle.style.specs.declared.alignment.Direction.{Direction}
use Rattle.style.specs.declared.alignment.Direction.TheVariants.{Ltr, Rtl}
use Rattle.item_overflow.specs.declared.boxes.ContainerBox.{ContainerBox}
use Rattle.item_overflow.specs.declared.boxes.ItemBox.{ItemBox}
use Rattle.item_overflow.specs.ScrollableOverflow.{shifted, mirrored, as_container, inline_start, inline_corner, inline_overflow, block_overflow}
use Rattle.item_overflow.specs.Laws.{Moderate}

pub within_finite : (n k : ℕ) (x : Float) → Within n k x → T (finite x)
within_finite n k nan h = absurd h
within_finite n k (inf s) h = absurd h
within_finite n k (fin s m e) h = tt

pub record FiniteLine (l : Line Float) : Type 0 where
  pub start : T (finite l.start)
  pub end : T (finite l.end)

pub record LineWithin (n : ℕ) (l : Line Float) : Type 0 where
  pub start : Within n 120 l.start
  pub end : Within n 120 l.end

finite_line : (n : ℕ) (l : Line Float) → LineWithin n l → FiniteLine l
finite_line n l h = record { start = within_finite n 120 l.start h.start; end = within_finite n 120 l.end h.end }

shifted_within : (by : Float) (l : Line Float) → Bounded 120 by → LineWithin 1 l → LineWithin 2 (shifted by l)
shifted_within by l b h = record {
  start = add_within binary32 1 1 120 by l.start (lit< tt) (lit< tt) b h.start;
  end = add_within binary32 1 1 120 by l.end (lit< tt) (lit< tt) b h.end;
}

mirrored_within : (side : Float) (l : Line Float) → Bounded 120 side → LineWithin 2 l → LineWithin 3 (mirrored side l)
mirrored_within side l b h = record {
  start = sub_within binary32 1 2 120 side l.end (lit< tt) (lit< tt) b h.end;
  end = sub_within binary32 1 2 120 side l.start (lit< tt) (lit< tt) b h.start;
}

either_way : (d e : Direction) (side : Float) (l : Line Float) → Bounded 120 side → LineWithin 2 l → FiniteLine (as_container d e side l)
either_way Ltr Ltr side l b h = finite_line 2 l h
either_way Ltr Rtl side l b h = finite_line 3 (mirrored side l) (mirrored_within side l b h)
either_way Rtl Ltr side l b h = finite_line 3 (mirrored side l) (mirrored_within side l b h)
either_way Rtl Rtl side l b h = finite_line 2 l h

module _ (c : ContainerBox) (i : ItemBox) (m : Moderate c i) where
  start_within : (d : Direction) → Bounded 120 (inline_start d i.border)
  start_within Ltr = m.border.left
  start_within Rtl = m.border.right

  pub inline_finite : FiniteLine (inline_overflow c i)
  inline_finite =
      either_way i.direction c.direction i.size.width _ m.width
      (shifted_within (inline_start i.direction i.border) _ (start_within i.direction) (record { start = m.overflow.left; end = m.overflow.right }))

  pub block_finite : FiniteLine (block_overflow i)
  block_finite = finite_line 2 (block_overflow i) (shifted_within i.border.top _ m.border.top (record { start = m.overflow.top; end = m.overflow.bottom }))

  pub corner_x_finite : (d : Direction) → T (finite (inline_corner d c i))
  corner_x_finite Ltr = within_finite 2 120 (inline_corner Ltr c i) (sub_within binary32 1 1 120 i.location.x c.border.left (lit< tt) (lit< tt) m.x m.container_border.left)
  corner_x_finite Rtl =
      within_finite 4 120 (inline_corner Rtl c i)
      (sub_within binary32 3 1 120 (sub binary32 c.width (add binary32 i.location.x i.size.width)) c.border.right (lit< tt) (lit< tt)
      (sub_within binary32 1 2 120 c.width (add binary32 i.location.x i.size.width) (lit< tt) (lit< tt) m.container_width
      (add_within binary32 1 1 120 i.location.x i.size.width (lit< tt) (lit< tt) m.x m.width))
      m.container_border.right)

  pub corner_y_finite : T (finite (sub binary32 i.location.y c.border.top))
  corner_y_finite = within_finite 2 120 (sub binary32 i.location.y c.border.top) (sub_within binary32 1 1 120 i.location.y c.border.top (lit< tt) (lit< tt) m.y m.container_border.top)

pub corner_x_fits : (d : Direction) (c : ContainerBox) (i : ItemBox) → T (fits binary32 (inline_corner d c i))
corner_x_fits Ltr c i = sub-fits binary32 i.location.x c.border.left
corner_x_fits Rtl c i = sub-fits binary32 (sub binary32 c.width (add binary32 i.location.x i.size.width)) c.border.right
