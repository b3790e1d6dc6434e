-- The used sizes of an item are at least their minima, and take at most two measurements: each side that took one is there.
use Rattle.std.proofs.Common.{ℕ, ◌+◌, ◌≤◌, Bool, cond, not, ◌&&◌, T, is_some, IfOk, Some, None, Ok, Err, Option, Result, option_map, arith, lit≤}
use lib.Ieee.{Float, le}
use Rattle.std.specs.Float.Order.{le_trans, le_right}
use Rattle.geometry.specs.declared.Size.{Size}
use Rattle.style.specs.declared.length.AvailableSpace.{AvailableSpace}
use Rattle.tree.specs.Meaning.{Means}
use Rattle.tree.specs.declared.question.Question.{Question}
use Rattle.item_limits.specs.Limits.{border_length, under, least}
use Rattle.item_limits.specs.declared.limits.Limits.{Limits}
use Rattle.item_limits.specs.declared.limits.SideLength.{SideLength}
use Rattle.item_limits.specs.declared.ratio_box.AspectRatio.{AspectRatio}
use Rattle.item_limits.specs.declared.item_axis.SideSizing.{SideSizing}
use Rattle.item_limits.specs.declared.item_axis.SideSizing.TheVariants.{Given, Content, Stretched, Filled, Free}
use Rattle.item_limits.proofs.Held.{above_second}
use Rattle.item_questions.specs.Asking.{measured}
use Rattle.item_questions.specs.declared.fault.ItemFault.{ItemFault}
use Rattle.item_sizing.specs.Found.{Found, known, by_measuring, made_of, map_found, then_by}
use Rattle.item_sizing.specs.UsedSizes.{height_question, used_length, content_height, used_width_by, used_width, used_height_by, used_height, sizes_by_axis, given_height_first, box_by_height, box_by_sides, ratio_box, own_height, sizes_of_box, sizes_by_ratio, ratio_of, used_sizes_by, used_sizes}
use Rattle.item_sizing.specs.LaidOut.{wants_measuring}
use Rattle.item_sizing.specs.declared.sizing_item.SizingItem.{SizingItem}
use Rattle.item_sizing.specs.declared.used_sizes.UsedWidth.{UsedWidth}

-- ---- what a find takes

-- at most n measurements and l layouts, and P of the measurements and of what is found
pub record Takes {A : Type 0} (n l : ℕ) (P : ℕ → A → Type 0) (o : Found A) : Type 0 where
  pub measurements : o.measurements ≤ n
  pub layouts : o.layouts ≤ l
  pub makes : IfOk o.reply (P o.measurements)

pub makes_of : {A B : Type 0} (f : A → B) (P : A → Type 0) (Q : B → Type 0) (r : Result A ItemFault) → IfOk r P → ((a : A) → P a → Q (f a)) → IfOk (made_of f r) Q
makes_of f P Q (Err e) p q = tt
makes_of f P Q (Ok a) p q = q a p

pub always : {A : Type 0} (r : Result A ItemFault) → IfOk r (λ _. Unit {0})
always (Err e) = tt
always (Ok a) = tt

-- one measurement, and something made of it
measuring_takes : {A : Type 0} (P : ℕ → A → Type 0) (f : Size Float → A) (m : Means) (q : Question) → ((z : Size Float) → P 1 (f z)) → Takes 1 0 P (map_found f (by_measuring m q))
measuring_takes P f m q p = record {
  measurements = lit≤ tt;
  layouts = lit≤ tt;
  makes = makes_of f (λ _. Unit {0}) (P 1) (measured m q) (always (measured m q)) (λ z _. p z);
}

-- on with what was found, after k measurements and j layouts
pub then_takes : {A B : Type 0} (n l : ℕ) (P : A → Type 0) (Q : ℕ → B → Type 0) (k j : ℕ) (r : Result A ItemFault) (g : A → Found B)
    → k ≤ n → j ≤ l → IfOk r P
    → ((a : A) → P a → Takes n l Q (record { reply = (g a).reply; measurements = k + (g a).measurements; layouts = j + (g a).layouts }))
    → Takes n l Q (then_by k j r g)
then_takes n l P Q k j (Err e) g few still p q = record { measurements = few; layouts = still; makes = tt }
then_takes n l P Q k j (Ok a) g few still p q = q a p

-- ---- a side in its limits

-- a side that is settled is at least f
abbrev pub Above : Float → Option Float → Type 0
Above f None = Unit {0}
Above f (Some x) = T (le f x)

-- a side that is settled is at least what is at most its minimum
abbrev pub Over : Limits → Option Float → Type 0
Over l o = (f : Float) → T (le f (least l).border) → Above f o

used_over : (l : Limits) (s : SideLength) → Over l (Some (used_length l s))
used_over l s f h = le_trans f (least l).border (used_length l s) h (above_second (under l.max s).border (least l).border (le_right f (least l).border h))

used_over_if_any : (l : Limits) (o : Option SideLength) → Over l (option_map (used_length l) o)
used_over_if_any l None f h = tt
used_over_if_any l (Some s) f h = used_over l s f h

box_width_over : (l : Limits) (o : Option (Size SideLength)) → Over l (option_map (λ z. used_length l z.width) o)
box_width_over l None f h = tt
box_width_over l (Some z) f h = used_over l z.width f h

-- ---- how many questions

-- the measurements that a side accounts for
abbrev pub count : Option Float → ℕ
count (Some v) = 1
count None = 0

-- the measurement that is left to the layout
abbrev pub miss : SizingItem → Size (Option Float) → ℕ
miss i z = cond (wants_measuring i z) 1 0

miss_count : (o : Bool) (a b : Option Float) → count a + count b + cond (o && not (is_some a && is_some b)) 1 0 ≤ 2
miss_count o a b = grind arith

miss_one : (b : Bool) → cond b 1 0 ≤ 1
miss_one b = grind arith

-- a side took no more measurements than it accounts for, and is over its minimum
pub record Side (l : Limits) (k : ℕ) (o : Option Float) : Type 0 where
  pub counted : k ≤ count o
  pub over : Over l o

-- the measurement that is left to the layout is one of two, and both sides are over their minima
pub record Sides (i : SizingItem) (k : ℕ) (z : Size (Option Float)) : Type 0 where
  pub left : k + miss i z ≤ 2
  pub width : Over i.limits.width z.width
  pub height : Over i.limits.height z.height

used_side : (l : Limits) (s : SideLength) (k : ℕ) → k ≤ 1 → Side l k (Some (used_length l s))
used_side l s k h = record { counted = h; over = used_over l s }

no_side : (l : Limits) → Side l 0 None
no_side l = record { counted = lit≤ tt; over = λ f h. tt }

known_takes : {A : Type 0} (P : ℕ → A → Type 0) (a : A) → P 0 a → Takes 1 0 P (known a)
known_takes P a p = record { measurements = lit≤ tt; layouts = lit≤ tt; makes = p }

module _ (m : Means) (i : SizingItem) where
  -- ---- without a ratio

  abbrev Width : ℕ → UsedWidth → Type 0
  Width k w = Side i.limits.width k w.width

  abbrev Height : ℕ → Option Float → Type 0
  Height k h = Side i.limits.height k h

  width_takes : (v : SideSizing) → Takes 1 0 Width (used_width_by m i v)
  width_takes (Given w) = known_takes Width _ (used_side i.limits.width w 0 (lit≤ tt))
  width_takes (Stretched w) = known_takes Width _ (used_side i.limits.width w 0 (lit≤ tt))
  width_takes (Filled w) = known_takes Width _ (used_side i.limits.width w 0 (lit≤ tt))
  width_takes (Content a) = measuring_takes Width _ m _ (λ z. used_side i.limits.width (border_length i.limits.width.adjustment z.width) 1 (lit≤ tt))
  width_takes Free = known_takes Width _ (no_side i.limits.width)

  content_takes : (u : Option Float) (a : AvailableSpace) (o : Option Float) → Takes 1 0 Height (content_height m i u a o)
  content_takes u a (Some h) = known_takes Height _ (used_side i.limits.height (border_length i.limits.height.adjustment h) 0 (lit≤ tt))
  content_takes u a None = measuring_takes Height _ m (height_question i u a) (λ z. used_side i.limits.height (border_length i.limits.height.adjustment z.height) 1 (lit≤ tt))

  height_takes : (w : UsedWidth) (v : SideSizing) → Takes 1 0 Height (used_height_by m i w v)
  height_takes w (Given h) = known_takes Height _ (used_side i.limits.height h 0 (lit≤ tt))
  height_takes w (Stretched h) = known_takes Height _ (used_side i.limits.height h 0 (lit≤ tt))
  height_takes w (Filled h) = known_takes Height _ (used_side i.limits.height h 0 (lit≤ tt))
  height_takes w (Content a) = content_takes w.width a w.height_along
  height_takes w Free = known_takes Height _ (no_side i.limits.height)

  by_axis_takes : Takes 2 0 (Sides i) (sizes_by_axis m i)
  by_axis_takes =
      let first : Takes 1 0 Width (used_width m i) = width_takes i.sizing.width in
      let k : ℕ = (used_width m i).measurements in
      then_takes 2 0 (Width k) (Sides i) k (used_width m i).layouts (used_width m i).reply _ (omega arith) first.layouts first.makes (λ w p.
      let second : Takes 1 0 Height (used_height m i w) = height_takes w i.sizing.height in
      let j : ℕ = (used_height m i w).measurements in
      record {
        measurements = omega arith;
        layouts = omega arith;
        makes = makes_of _ (Height j) (Sides i (k + j)) (used_height m i w).reply second.makes (λ h q.
            record { left = omega (arith, p.counted, q.counted, miss_count i.is_out_of_flow w.width h); width = p.over; height = q.over });
      })

  -- ---- with a ratio: whatever the box is

  abbrev Any : ℕ → Option (Size SideLength) → Type 0
  Any k b = Unit {0}

  any_takes : (o : Found (Option (Size SideLength))) → o.measurements ≤ 1 → o.layouts ≤ 0 → Takes 1 0 Any o
  any_takes o k l = record { measurements = k; layouts = l; makes = always o.reply }

  by_height_takes : (r : AspectRatio) (h : SideSizing) → Takes 1 0 Any (box_by_height m i r h)
  by_height_takes r (Content a) = any_takes _ (lit≤ tt) (lit≤ tt)
  by_height_takes r _ = any_takes _ (lit≤ tt) (lit≤ tt)

  given_takes : (r : AspectRatio) (h : SideSizing) (o : Found (Option (Size SideLength))) → Takes 1 0 Any o → Takes 1 0 Any (given_height_first i r h o)
  given_takes r (Given h) o p = any_takes _ (lit≤ tt) (lit≤ tt)
  given_takes r _ o p = p

  box_takes : (r : AspectRatio) (w h : SideSizing) → Takes 1 0 Any (box_by_sides m i r w h)
  box_takes r (Content a) h = given_takes r h _ (any_takes _ (lit≤ tt) (lit≤ tt))
  box_takes r (Filled w) h = given_takes r h _ (any_takes _ (lit≤ tt) (lit≤ tt))
  box_takes r Free h = by_height_takes r h
  box_takes r _ h = any_takes _ (lit≤ tt) (lit≤ tt)

  by_ratio_takes : (r : AspectRatio) → Takes 2 0 (Sides i) (sizes_by_ratio m i r)
  by_ratio_takes r =
      let first : Takes 1 0 Any (ratio_box m i r) = box_takes r i.sizing.width i.sizing.height in
      let k : ℕ = (ratio_box m i r).measurements in
      record {
        measurements = omega arith;
        layouts = first.layouts;
        makes = makes_of (sizes_of_box i) (λ _. Unit {0}) (Sides i k) (ratio_box m i r).reply (always (ratio_box m i r).reply) (λ b _.
            record {
              left = omega (arith, miss_one (wants_measuring i (sizes_of_box i b)));
              width = box_width_over i.limits.width b;
              height = used_over_if_any i.limits.height (own_height i.sizing.height (option_map (λ z. z.height) b));
            });
      }

  used_by_takes : (o : Option Float) → Takes 2 0 (Sides i) (used_sizes_by m i o)
  used_by_takes None = by_axis_takes
  used_by_takes (Some q) = by_ratio_takes (ratio_of i q)

  pub used_sizes_take : Takes 2 0 (Sides i) (used_sizes m i)
  used_sizes_take = used_by_takes i.aspect_ratio
