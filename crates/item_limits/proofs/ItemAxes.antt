-- The stretch-fit size is not negative, and a side that fills the space is that size.
use Rattle.std.proofs.Common.{◌≡◌, Bool, true, false, cond, T, Some, None, Option, option_map, unwrap_or, refl, sym, subst}
use lib.Ieee.{Float, le, is_nan, of_bits}
use Rattle.std.specs.Option.{option_or}
use Rattle.style.specs.declared.alignment.AlignItemsKeyword.{AlignItemsKeyword}
use Rattle.style.specs.declared.alignment.AlignItemsKeyword.TheVariants as item
use Rattle.style.specs.Alignment.{no_safety}
use Rattle.item_limits.specs.declared.sizing_keyword.SizingKeywordResolution.{SizingKeywordResolution}
use Rattle.item_limits.specs.declared.sizing_keyword.SizingKeywordResolution.TheVariants.{Measure, Exact}
use Rattle.item_limits.specs.declared.item_axis.ItemAxis.{ItemAxis}
use Rattle.item_limits.specs.declared.item_axis.PreferredSize.{PreferredSize}
use Rattle.item_limits.specs.declared.item_axis.SideSizing.{SideSizing}
use Rattle.item_limits.specs.declared.item_axis.SideSizing.TheVariants.{Given, Stretched, Filled, Free}
use Rattle.item_limits.specs.SelfAlignment.{normal_fills}
use Rattle.item_limits.specs.SizingKeywords.{sizing_keyword_resolution}
use Rattle.item_limits.specs.Limits.{named_length}
use Rattle.item_limits.specs.LimitLaws.{Number}
use Rattle.item_limits.specs.ItemAxes.{zero, within, within_margins, stretch_fit_size, stretch_fit_side, can_fill, sizing_by_alignment, auto_sizing, sizing_of_keyword, keyword_sizing, side_sizing}
use Rattle.item_limits.specs.ItemAxisLaws.{Fills, Sized}
use Rattle.item_limits.proofs.Held.{above_second}

zero_number : Number zero
unfolding of_bits is_nan
zero_number = tt

pub stretch_fit_above : (a : ItemAxis) → T (le zero (stretch_fit_size a))
stretch_fit_above a = above_second (cond a.is_out_of_flow (within (within_margins a) a.inset) (within_margins a)) zero zero_number

pub not_negative : (a : ItemAxis) (x : Float) → x ≡ stretch_fit_size a → T (le zero x)
not_negative a x e = subst (λ (y : Float). T (le zero y)) (sym e) (stretch_fit_above a)

fills : (a : ItemAxis) → T (can_fill a) → Fills a (stretch_fit_side a)
fills a t = record { stretch_fit = refl; not_negative = stretch_fit_above a; nothing_auto = t }

by_test : (P : SideSizing → Type 0) (b : Bool) (x y : SideSizing) → (T b → P x) → (b ≡ false → P y) → P (cond b x y)
by_test P true x y p q = p tt
by_test P false x y p q = q refl

aligned_sized : (a : ItemAxis) → T (can_fill a) → (k : AlignItemsKeyword) → Sized a (sizing_by_alignment a k)
aligned_sized a t item.Normal =
    by_test (Sized a) (normal_fills a.axis a.is_out_of_flow a.is_replaced a.has_ratio) (Filled (stretch_fit_side a)) Free (λ _. fills a t) (λ _. tt)
aligned_sized a t item.Stretch =
    by_test (Sized a) a.is_out_of_flow (Filled (stretch_fit_side a)) (cond (no_safety a.alignment.safety) (Stretched (stretch_fit_side a)) Free) (λ _. fills a t) (λ in_flow.
    by_test (Sized a) (no_safety a.alignment.safety) (Stretched (stretch_fit_side a)) Free (λ _. (fills a t, in_flow)) (λ _. tt))
aligned_sized a t _ = tt

auto_sized : (a : ItemAxis) → Sized a (auto_sizing a)
auto_sized a = by_test (Sized a) (can_fill a) (sizing_by_alignment a a.alignment.keyword) Free (λ t. aligned_sized a t a.alignment.keyword) (λ _. tt)

sizing_of_keyword_sized : (a : ItemAxis) (k : SizingKeywordResolution) → Sized a (sizing_of_keyword a k)
sizing_of_keyword_sized a (Exact x) = tt
sizing_of_keyword_sized a (Measure space) = tt

keyword_sized : (a : ItemAxis) (o : Option SizingKeywordResolution) → Sized a (unwrap_or (option_map (sizing_of_keyword a) o) (auto_sizing a))
keyword_sized a (Some k) = sizing_of_keyword_sized a k
keyword_sized a None = auto_sized a

length_sized : (a : ItemAxis) (size : PreferredSize) (o : Option Float) → Sized a (unwrap_or (option_or (option_map (λ x. Given (named_length a.adjustment x)) o) (keyword_sizing a size)) (auto_sizing a))
length_sized a size (Some x) = tt
length_sized a size None = keyword_sized a (sizing_keyword_resolution size.style (Some (stretch_fit_size a)) size.fit_content_limit)

pub sized : (a : ItemAxis) (size : PreferredSize) (r : SideSizing) → r ≡ side_sizing a size → Sized a r
sized a size r e = subst (Sized a) (sym e) (length_sized a size size.length)
