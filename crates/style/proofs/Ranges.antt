-- The first value of a style that is out of its range: group by group, and what it says of every value.
use Rattle.std.proofs.Common.{◌≡◌, Bool, true, false, not, cond, T, List, [], ◌∷◌, ◌++◌, map, Some, None, Option, sym, refl, ap, ◌∙◌, lit<}
use Rattle.std.specs.List.{All}
use Rattle.std.specs.Bool.{then_some}
use Rattle.std.specs.Option.{option_map, option_or}
use Rattle.number.specs.Limits.{in_limits}
use Rattle.geometry.specs.Shapes.{extent}
use Rattle.std.proofs.lemmas.List.Folds.{find-append}
use Rattle.geometry.specs.declared.AbsoluteAxis.{AbsoluteAxis}
use Rattle.geometry.specs.declared.AbsoluteAxis.TheVariants.{Horizontal, Vertical}
use Rattle.style.specs.FirstFailing.{first_failing}
use Rattle.style.specs.Ranges.{ratio_in_range, if_any, length_percentage_in_range, length_percentage_auto_in_range, dimension_in_range, side_of, sides, axes}
use Rattle.style.specs.Ranges.{field_in_range, reading_order, first_out_of_range, NamesFirst}
use Rattle.style.specs.declared.style.Style.{Style}
use Rattle.style.specs.declared.range.Side.{Side}
use Rattle.style.specs.declared.range.Side.TheVariants.{Left, Right, Top, Bottom}
use Rattle.style.specs.declared.range.StyleField.{StyleField}
use Rattle.style.specs.declared.range.StyleField.TheVariants as field
use Rattle.style.proofs.FirstFailing.{renamed, none_fails, all_pass, named_first}

-- the first value out of range, value by value and then group by group
abbrev pub first_side : (Side → StyleField) → (Side → Bool) → Option StyleField
first_side name passes = option_map name (first_failing passes sides)

abbrev pub first_extent : (AbsoluteAxis → StyleField) → (AbsoluteAxis → Bool) → Option StyleField
first_extent name passes = option_map name (first_failing passes axes)

abbrev pub first_by_groups : Style → Option StyleField
first_by_groups s =
    option_or (option_or (option_or (option_or (option_or (option_or (option_or (option_or
    (then_some (not (in_limits s.scrollbar_width)) field.ScrollbarWidth)
    (then_some (not (if_any ratio_in_range s.aspect_ratio)) field.AspectRatio))
    (first_side field.Inset (λ side. length_percentage_auto_in_range (side_of s.inset side))))
    (first_side field.Padding (λ side. length_percentage_in_range (side_of s.padding side))))
    (first_side field.Border (λ side. length_percentage_in_range (side_of s.border side))))
    (first_extent field.Size (λ axis. dimension_in_range (extent axis s.size))))
    (first_extent field.MinSize (λ axis. dimension_in_range (extent axis s.min_size))))
    (first_extent field.MaxSize (λ axis. dimension_in_range (extent axis s.max_size))))
    (first_side field.Margin (λ side. length_percentage_auto_in_range (side_of s.margin side)))

-- a group at the end: what stands before it answers, or else the group does, in the words of the whole
grouped : {X Y : Type 0} (passes : Y → Bool) (f : X → Y) (xs : List X) (front : List Y) (answer : Option Y) → first_failing passes front ≡ answer
    → first_failing passes (front ++ map f xs) ≡ option_or answer (option_map f (first_failing (λ x. passes (f x)) xs))
grouped passes f xs front answer e =
    find-append (λ y. not (passes y)) front (map f xs) ∙ ap (λ r. option_or r (first_failing passes (map f xs))) e ∙ ap (option_or answer) (renamed passes f xs)

two_alone : {X : Type 0} (a b : Bool) (x y : X) → cond a (Some x) (cond b (Some y) None) ≡ option_or (then_some a x) (then_some b y)
two_alone true b x y = refl
two_alone false true x y = refl
two_alone false false x y = refl

-- the order of reading up to a group
abbrev to_inset : List StyleField
to_inset = field.ScrollbarWidth ∷ field.AspectRatio ∷ map field.Inset sides

abbrev to_padding : List StyleField
to_padding = to_inset ++ map field.Padding sides

abbrev to_border : List StyleField
to_border = to_padding ++ map field.Border sides

abbrev to_size : List StyleField
to_size = to_border ++ map field.Size axes

abbrev to_min_size : List StyleField
to_min_size = to_size ++ map field.MinSize axes

abbrev to_max_size : List StyleField
to_max_size = to_min_size ++ map field.MaxSize axes

by_groups : (s : Style) → first_out_of_range s ≡ first_by_groups s
unfolding first_out_of_range
by_groups s =
    let p : StyleField → Bool = field_in_range s in
    grouped p field.Margin sides to_max_size _
    (grouped p field.MaxSize axes to_min_size _
    (grouped p field.MinSize axes to_size _
    (grouped p field.Size axes to_border _
    (grouped p field.Border sides to_padding _
    (grouped p field.Padding sides to_inset _
    (grouped p field.Inset sides (field.ScrollbarWidth ∷ field.AspectRatio ∷ []) _
    (two_alone (not (p field.ScrollbarWidth)) (not (p field.AspectRatio)) field.ScrollbarWidth field.AspectRatio)))))))

-- the order of reading leaves out nothing
every_field : (passes : StyleField → Bool) → All (λ x. T (passes x)) reading_order → (f : StyleField) → T (passes f)
every_field passes h field.ScrollbarWidth = h 0 field.ScrollbarWidth (lit< tt)
every_field passes h field.AspectRatio = h 1 field.ScrollbarWidth (lit< tt)
every_field passes h (field.Inset Left) = h 2 field.ScrollbarWidth (lit< tt)
every_field passes h (field.Inset Right) = h 3 field.ScrollbarWidth (lit< tt)
every_field passes h (field.Inset Top) = h 4 field.ScrollbarWidth (lit< tt)
every_field passes h (field.Inset Bottom) = h 5 field.ScrollbarWidth (lit< tt)
every_field passes h (field.Padding Left) = h 6 field.ScrollbarWidth (lit< tt)
every_field passes h (field.Padding Right) = h 7 field.ScrollbarWidth (lit< tt)
every_field passes h (field.Padding Top) = h 8 field.ScrollbarWidth (lit< tt)
every_field passes h (field.Padding Bottom) = h 9 field.ScrollbarWidth (lit< tt)
every_field passes h (field.Border Left) = h 10 field.ScrollbarWidth (lit< tt)
every_field passes h (field.Border Right) = h 11 field.ScrollbarWidth (lit< tt)
every_field passes h (field.Border Top) = h 12 field.ScrollbarWidth (lit< tt)
every_field passes h (field.Border Bottom) = h 13 field.ScrollbarWidth (lit< tt)
every_field passes h (field.Size Horizontal) = h 14 field.ScrollbarWidth (lit< tt)
every_field passes h (field.Size Vertical) = h 15 field.ScrollbarWidth (lit< tt)
every_field passes h (field.MinSize Horizontal) = h 16 field.ScrollbarWidth (lit< tt)
every_field passes h (field.MinSize Vertical) = h 17 field.ScrollbarWidth (lit< tt)
every_field passes h (field.MaxSize Horizontal) = h 18 field.ScrollbarWidth (lit< tt)
every_field passes h (field.MaxSize Vertical) = h 19 field.ScrollbarWidth (lit< tt)
every_field passes h (field.Margin Left) = h 20 field.ScrollbarWidth (lit< tt)
every_field passes h (field.Margin Right) = h 21 field.ScrollbarWidth (lit< tt)
every_field passes h (field.Margin Top) = h 22 field.ScrollbarWidth (lit< tt)
every_field passes h (field.Margin Bottom) = h 23 field.ScrollbarWidth (lit< tt)

pub answered : (s : Style) (r : Option StyleField) → r ≡ first_by_groups s → record { value : r ≡ first_out_of_range s; law : NamesFirst s r }
unfolding first_out_of_range
answered s r e =
    let v : r ≡ first_out_of_range s = e ∙ sym (by_groups s) in
    record {
      value = v;
      law = record {
        none_is_out = λ n f. every_field (field_in_range s) (none_fails (field_in_range s) reading_order (sym v ∙ n)) f;
        all_are_in = λ h. v ∙ all_pass (field_in_range s) reading_order (λ k d _. h _);
        named_is_first = λ f n. named_first (field_in_range s) reading_order f (sym v ∙ n);
      };
    }
