-- Worked places: an area from 0 to 100, and items in it.
use Rattle.std.specs.Prelude.{ℕ, Bool, true, ◌&&◌, T, List, [], ◌∷◌, ℤ, pos, negsuc, Some, None, Option, Float}
use Rattle.std.specs.Float.{binary32}
use Rattle.std.specs.Float.Ieee.{div, eq, of_int}
use Rattle.geometry.specs.declared.AbsoluteAxis.{AbsoluteAxis}
use Rattle.geometry.specs.declared.AbsoluteAxis.TheVariants.{Horizontal, Vertical}
use Rattle.geometry.specs.declared.Line.{Line}
use Rattle.style.specs.declared.alignment.AlignItemsKeyword.{AlignItemsKeyword}
use Rattle.style.specs.declared.alignment.AlignItemsKeyword.TheVariants.{Start, End, Center}
use Rattle.style.specs.declared.alignment.AlignmentSafety.{AlignmentSafety}
use Rattle.style.specs.declared.alignment.AlignmentSafety.TheVariants.{Default, Unsafe, Safe}
use Rattle.style.specs.declared.alignment.Direction.{Direction}
use Rattle.style.specs.declared.alignment.Direction.TheVariants.{Ltr, Rtl}
use Rattle.style.specs.declared.modes.Position.{Position}
use Rattle.style.specs.declared.modes.Position.TheVariants.{Static, Relative, Absolute}
use Rattle.item_placing.specs.Blocks.{zero, line, neither}
use Rattle.item_placing.specs.Margins.{two}
use Rattle.item_placing.specs.Offsets.{relative_offset}
use Rattle.item_placing.specs.Places.{placed}
use Rattle.item_placing.specs.declared.area_item.AreaItem.{AreaItem}

abbrev pub whole : ℤ → Float
whole = of_int binary32

abbrev pub half : ℤ → Float
half n = div binary32 (whole n) two

abbrev pub set : ℕ → ℕ → Line (Option Float)
set start end = line (Some (whole (pos start))) (Some (whole (pos end)))

abbrev pub item : (axis : AbsoluteAxis) → Direction → (size : ℕ) → AlignItemsKeyword → AlignmentSafety → Position → (inset margin : Line (Option Float)) → AreaItem
item axis direction size keyword safety position inset margin = record {
  area = line zero (whole (pos 100));
  alignment = record { keyword = keyword; safety = safety };
  size = whole (pos size);
  position = position;
  inset = inset;
  margin = margin;
  baseline_shim = zero;
  axis = axis;
  direction = direction;
}

-- the place and both margins are these; two zeros are equal
abbrev pub stands : AreaItem → (place start end : Float) → Bool
stands item place start end = (eq (placed item).0 place && eq (placed item).1.start start) && eq (placed item).1.end end

abbrev pub all : List Bool → Bool
all [] = true
all (b ∷ bs) = b && all bs

abbrev pub in_flow : List Bool
in_flow =
    stands (item Horizontal Ltr 40 Start Default Static neither neither) (whole (pos 30)) (whole (pos 30)) (whole (pos 30))
    ∷ stands (item Horizontal Ltr 120 End Default Static neither (set 0 0)) (whole (negsuc 19)) zero zero
    ∷ stands (item Horizontal Ltr 120 End Safe Static neither (set 0 0)) zero zero zero
    ∷ stands (item Horizontal Rtl 40 Start Default Static neither (set 5 7)) (whole (pos 53)) (whole (pos 5)) (whole (pos 7))
    ∷ stands (item Horizontal Ltr 40 Center Default Static neither (set 5 7)) (whole (pos 29)) (whole (pos 5)) (whole (pos 7))
    ∷ []

-- insets of 5 and 8 leave 87
abbrev pub out_of_flow : List Bool
out_of_flow =
    stands (item Horizontal Ltr 40 Start Default Absolute (set 5 8) neither) (half (pos 57)) (half (pos 47)) (half (pos 47))
    ∷ stands (item Vertical Ltr 140 Start Default Absolute (set 5 8) neither) (half (negsuc 42)) (half (negsuc 52)) (half (negsuc 52))
    ∷ stands (item Horizontal Rtl 140 Start Default Absolute (set 5 8) neither) (whole (negsuc 47)) (whole (negsuc 52)) zero
    ∷ stands (item Horizontal Ltr 40 End Default Absolute (set 5 8) (set 0 0)) (whole (pos 52)) zero zero
    ∷ stands (item Horizontal Ltr 140 End Default Absolute (set 5 8) (set 0 0)) (whole (pos 5)) zero zero
    ∷ stands (item Horizontal Ltr 140 End Unsafe Absolute (set 5 8) (set 0 0)) (whole (negsuc 47)) zero zero
    ∷ stands (item Horizontal Ltr 10 End Unsafe Absolute (set 70 60) (set 0 0)) (whole (pos 60)) zero zero
    ∷ stands (item Horizontal Ltr 40 Start Default Absolute neither neither) zero zero zero
    ∷ []

abbrev pub moves : List Bool
moves =
    eq (relative_offset Relative (set 5 8) Ltr) (whole (pos 5))
    ∷ eq (relative_offset Relative (set 5 8) Rtl) (whole (negsuc 7))
    ∷ eq (relative_offset Relative (line None (Some (whole (pos 8)))) Ltr) (whole (negsuc 7))
    ∷ eq (relative_offset Static (set 5 8) Ltr) zero
    ∷ []

pub record Worked : Type 0 where
  pub items_in_flow_stand : T (all in_flow)
  pub items_out_of_flow_stand : T (all out_of_flow)
  pub relative_items_move : T (all moves)
