-- An item that is laid out takes at most two measurements and one layout, and its final sizes are at least their minima.
use Rattle.std.proofs.Common.{◌≡◌, ℕ, Bool, true, false, cond, T, IfOk, Some, None, Ok, Err, Option, Result, unwrap_or, sym, subst, arith, lit≤}
use lib.Ieee.{Float, le}
use Rattle.std.specs.Float.Order.{le_trans, le_right}
use Rattle.geometry.specs.declared.Size.{Size}
use Rattle.tree.specs.Meaning.{Means}
use Rattle.item_limits.specs.Limits.{least}
use Rattle.item_limits.specs.declared.limits.SideLength.{SideLength}
use Rattle.item_limits.proofs.Held.{above_second}
use Rattle.item_questions.specs.Asking.{measured, laid_out}
use Rattle.item_questions.specs.declared.fault.ItemFault.{ItemFault}
use Rattle.item_sizing.specs.Found.{Found}
use Rattle.item_sizing.specs.UsedSizes.{used_sizes}
use Rattle.item_sizing.specs.LaidOut.{whole_question, max_width, max_height, under_max, held, answered, wants_measuring, filled, both_known, laid_out_at, laid_out_with, laid_out_item}
use Rattle.item_sizing.specs.SizingLaws.{NotBelow, Floor, Sized}
use Rattle.item_sizing.specs.declared.sizing_item.SizingItem.{SizingItem}
use Rattle.item_sizing.specs.declared.laid_out.LaidOutItem.{LaidOutItem}
use Rattle.item_sizing.proofs.UsedLaws.{Takes, Above, Over, Sides, miss, makes_of, always, then_takes, used_sizes_take}

held_above : (o : Option SideLength) (f g v : Float) → T (le f g) → T (le f (held o g v))
held_above o f g v h = le_trans f g (held o g v) h (above_second (under_max o v) g (le_right f g h))

side_above : (f w : Float) (o : Option Float) → Above f o → T (le f w) → T (le f (unwrap_or o w))
side_above f w (Some v) p q = p
side_above f w None p q = q

module _ (m : Means) (i : SizingItem) where
  abbrev Final : Size Float → Type 0
  Final z = (f : Size Float) → Floor i f → NotBelow f z

  abbrev FinalItem : ℕ → LaidOutItem → Type 0
  FinalItem k l = Final l.size

  answered_final : (z : Size Float) → Final (answered i z)
  answered_final z f fl = record {
    width = held_above (max_width i) f.width (least i.limits.width).border z.width fl.width;
    height = held_above (max_height i) f.height (least i.limits.height).border z.height fl.height;
  }

  filled_final : (s : Size (Option Float)) (z : Size Float) → Over i.limits.width s.width → Over i.limits.height s.height → Final (filled s (answered i z))
  filled_final s z w h f fl = record {
    width = side_above f.width (answered i z).width s.width (w f.width fl.width) (answered_final z f fl).width;
    height = side_above f.height (answered i z).height s.height (h f.height fl.height) (answered_final z f fl).height;
  }

  -- after k measurements
  laid_out_makes : (s : Size (Option Float)) (size_of : Size Float → Size Float) → ((z : Size Float) → Final (size_of z)) → IfOk (laid_out_at m i s size_of).reply (λ l. Final l.size)
  laid_out_makes s size_of p =
      makes_of _ (λ _. Unit {0}) (λ l. Final l.size) (laid_out m (whole_question i s)) (always (laid_out m (whole_question i s))) (λ l _. p l.size)

  either : (b : Bool) (x y : Found LaidOutItem) → Takes 1 1 FinalItem x → Takes 0 1 FinalItem y → Takes (cond b 1 0) 1 FinalItem (cond b x y)
  either true x y p q = p
  either false x y p q = q

  out_takes : (s : Size (Option Float)) → Over i.limits.width s.width → Over i.limits.height s.height → Takes (miss i s) 1 FinalItem (laid_out_with m i s)
  out_takes s w h =
      either (wants_measuring i s) _ _
      (then_takes 1 1 (λ _. Unit {0}) FinalItem 1 0 (measured m (whole_question i s)) _ (lit≤ tt) (lit≤ tt) (always (measured m (whole_question i s))) (λ z _.
      record { measurements = lit≤ tt; layouts = lit≤ tt; makes = laid_out_makes (both_known z) (λ _. answered i z) (λ _. answered_final z) }))
      (record { measurements = lit≤ tt; layouts = lit≤ tt; makes = laid_out_makes s (λ z. filled s (answered i z)) (λ z. filled_final s z w h) })

  whole_takes : Takes 2 1 FinalItem (laid_out_item m i)
  whole_takes =
      let used : Takes 2 0 (Sides i) (used_sizes m i) = used_sizes_take m i in
      let k : ℕ = (used_sizes m i).measurements in
      then_takes 2 1 (Sides i k) FinalItem k (used_sizes m i).layouts (used_sizes m i).reply (laid_out_with m i) used.measurements (omega arith) used.makes (λ s p.
      let out : Takes (miss i s) 1 FinalItem (laid_out_with m i s) = out_takes s p.width p.height in
      record { measurements = omega arith; layouts = omega arith; makes = out.makes })

  pub sized : (r : Result LaidOutItem ItemFault) → r ≡ (laid_out_item m i).reply → Sized m i r
  sized r e = record {
    at_most_two_measurements = whole_takes.measurements;
    at_most_one_layout = whole_takes.layouts;
    never_below_the_minimum = λ f fl.
        subst (λ (s : Result LaidOutItem ItemFault). IfOk s (λ l. NotBelow f l.size)) (sym e) (at_floor (laid_out_item m i).reply whole_takes.makes f fl);
  }
    where
      at_floor : (s : Result LaidOutItem ItemFault) → IfOk s (λ l. Final l.size) → (f : Size Float) → Floor i f → IfOk s (λ l. NotBelow f l.size)
      at_floor (Err x) p f fl = tt
      at_floor (Ok l) p f fl = p f fl
