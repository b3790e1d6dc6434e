-- The laws of an item that was placed, from the definition of its place.
use Rattle.std.proofs.Common.{◌≡◌, Bool, true, false, cond, ◌&&◌, T, Some, None, Option, sym, refl, ap, ◌∙◌, subst}
use lib.Ieee.{Float, binary32, add, sub, lt}
use lib.Ieee.Bits.{is_true}
use Rattle.std.proofs.Math.Bool.{and-false}
use Rattle.geometry.specs.declared.AbsoluteAxis.{AbsoluteAxis}
use Rattle.geometry.specs.declared.AbsoluteAxis.TheVariants.{Horizontal, Vertical}
use Rattle.geometry.specs.declared.Line.{Line}
use Rattle.style.specs.Alignment.{safe}
use Rattle.style.specs.Modes.{out_of_flow}
use Rattle.style.specs.declared.alignment.AlignItemsKeyword.{AlignItemsKeyword}
use Rattle.style.specs.declared.alignment.AlignItemsKeyword.TheVariants.{Normal, Start, End, FlexStart, FlexEnd, SelfStart, SelfEnd, Center, Baseline, Stretch}
use Rattle.style.specs.declared.alignment.AlignmentSafety.{AlignmentSafety}
use Rattle.style.specs.declared.alignment.AlignmentSafety.TheVariants.{Default, Unsafe, Safe}
use Rattle.style.specs.declared.alignment.Direction.{Direction}
use Rattle.style.specs.declared.alignment.Direction.TheVariants.{Ltr, Rtl}
use Rattle.style.specs.declared.modes.Position.{Position}
use Rattle.style.specs.declared.modes.Position.TheVariants.{Static, Relative, Absolute, Fixed, Sticky}
use Rattle.item_placing.specs.Edges.{start_edge, end_edge, aligned_edge, overflow_position}
use Rattle.item_placing.specs.Blocks.{zero, line, neither, area_size, both_set, shrunk, block_within, direction_of, counted_insets, insets_of, block_of}
use Rattle.item_placing.specs.Margins.{rest_of, taken, auto_space, halves, at_line_end, two_auto_margins, filled_margins, with_shim, used_margins}
use Rattle.item_placing.specs.Places.{overflows, edge_by_alignment, held_edge, edge_of, offset_at, placed}
use Rattle.item_placing.specs.Laws.{Meets, Uses, whole_area, left_over, with_insets, turned, opposite, Anywhere, InFlow, BesideAutoInset, BetweenInsets, Placed}
use Rattle.item_placing.specs.declared.area_item.AreaItem.{AreaItem}
use Rattle.item_placing.specs.declared.edge.Edge.{Edge}
use Rattle.item_placing.specs.declared.edge.Edge.TheVariants.{First, Last, Middle}
use Rattle.item_placing.proofs.AutoMargins.{not_below, never_below, equal_halves, halves_of_nothing, any_direction, vertical_direction}
use borrow.Author.Tests.{clash}

either : (b : Bool) (k : AlignItemsKeyword) → cond b k k ≡ k
either true k = refl
either false k = refl

own_safety : (s : AlignmentSafety) → overflow_position s false ≡ s
own_safety Default = refl
own_safety Unsafe = refl
own_safety Safe = refl

start_turns : (d : Direction) → start_edge (turned d) ≡ opposite (start_edge d)
start_turns Ltr = refl
start_turns Rtl = refl

end_turns : (d : Direction) → end_edge (turned d) ≡ opposite (end_edge d)
end_turns Ltr = refl
end_turns Rtl = refl

edge_turns : (k : AlignItemsKeyword) (d : Direction) → aligned_edge k (turned d) ≡ opposite (aligned_edge k d)
edge_turns Normal d = start_turns d
edge_turns Start d = start_turns d
edge_turns End d = end_turns d
edge_turns FlexStart d = start_turns d
edge_turns FlexEnd d = end_turns d
edge_turns SelfStart d = start_turns d
edge_turns SelfEnd d = end_turns d
edge_turns Center d = refl
edge_turns Baseline d = start_turns d
edge_turns Stretch d = start_turns d

-- p with another position, axis and direction
abbrev at : AreaItem → Position → AbsoluteAxis → Direction → AreaItem
at p q x d = record {
  area = p.area;
  alignment = p.alignment;
  size = p.size;
  position = q;
  inset = p.inset;
  margin = p.margin;
  baseline_shim = p.baseline_shim;
  axis = x;
  direction = d;
}

module _ (p : AreaItem) where
  meets : (e : Edge) (b : Line Float) → edge_of p ≡ e → block_of p ≡ b → Meets e b p (placed p)
  meets e b g h =
      ap (λ (w : Edge). add binary32 p.area.start (offset_at w (block_of p) p.size (used_margins p))) g
      ∙ ap (λ (w : Line Float). add binary32 p.area.start (offset_at e w p.size (used_margins p))) h

  -- the margins, where the space for automatic ones and the two that the style has are known
  uses : (s : Float) (a b : Option Float) → auto_space p ≡ s → p.margin ≡ line a b → Uses (filled_margins s p.axis p.direction a b) p (placed p)
  uses s a b h g =
      ap (λ (w : Float). with_shim p.baseline_shim (filled_margins w p.axis p.direction p.margin.start p.margin.end)) h
      ∙ ap (λ (l : Line (Option Float)). with_shim p.baseline_shim (filled_margins s p.axis p.direction l.start l.end)) g

  -- the edge, where its keyword and whether it gives way are known
  edge_is : (k : AlignItemsKeyword) (b : Bool) → p.alignment.keyword ≡ k → (safe (overflow_position p.alignment.safety (both_set (insets_of p))) && overflows p) ≡ b
      → edge_by_alignment p ≡ aligned_edge (cond b Start k) (direction_of p)
  edge_is k b g h =
      ap (λ (w : AlignItemsKeyword). aligned_edge (cond (safe (overflow_position p.alignment.safety (both_set (insets_of p))) && overflows p) Start w) (direction_of p)) g
      ∙ ap (λ (w : Bool). aligned_edge (cond w Start k) (direction_of p)) h

  start_is : p.alignment.keyword ≡ Start → edge_by_alignment p ≡ start_edge (direction_of p)
  start_is g =
      let b = safe (overflow_position p.alignment.safety (both_set (insets_of p))) && overflows p in
      edge_is Start b g refl ∙ ap (λ (w : AlignItemsKeyword). aligned_edge w (direction_of p)) (either b Start)

  anywhere : Anywhere p (placed p)
  anywhere = record {
    set_margins_are_kept = λ a b g. uses (auto_space p) (Some a) (Some b) refl g;
    no_direction_counts_vertically = λ e d. subst (λ (x : AbsoluteAxis). placed (at p p.position x d) ≡ placed (at p p.position x p.direction)) (sym e) (upright d);
  }
    where
      upright : (d : Direction) → placed (at p p.position Vertical d) ≡ placed (at p p.position Vertical p.direction)
      upright d =
          let q = at p p.position Vertical d in
          ap (λ (l : Line Float). (add binary32 p.area.start (offset_at (edge_of q) (block_of q) p.size (with_shim p.baseline_shim l)), with_shim p.baseline_shim l))
          (vertical_direction (auto_space q) d p.direction p.margin.start p.margin.end)

-- ---- in flow

module _ (p : AreaItem) where
  flow_insets : (q : Position) → out_of_flow q ≡ false → (i : Line (Option Float)) → placed (with_insets i (at p q p.axis p.direction)) ≡ placed (at p q p.axis p.direction)
  flow_insets Static o i = refl
  flow_insets Relative o i = refl
  flow_insets Absolute o i = absurd (clash (sym o))
  flow_insets Fixed o i = absurd (clash (sym o))
  flow_insets Sticky o i = refl

  shared_alike : (c : Direction) → used_margins (at p Static p.axis c) ≡ used_margins (at p Static p.axis p.direction)
  shared_alike c = ap (with_shim p.baseline_shim) (any_direction (left_over (at p Static p.axis c)) (never_below (rest_of (at p Static p.axis c))) p.axis c p.direction p.margin.start p.margin.end)

  same_margins : (q : Position) (c : Direction) → out_of_flow q ≡ false → used_margins (at p q p.axis c) ≡ used_margins (at p q p.axis p.direction)
  same_margins Static c o = shared_alike c
  same_margins Relative c o = shared_alike c
  same_margins Absolute c o = absurd (clash (sym o))
  same_margins Fixed c o = absurd (clash (sym o))
  same_margins Sticky c o = shared_alike c

  -- what counts in flow, in either direction
  abbrev flow_keyword : AlignItemsKeyword
  flow_keyword = cond (safe (overflow_position p.alignment.safety false) && overflows (at p Static Horizontal p.direction)) Start p.alignment.keyword

  other_edge : (q : Position) → out_of_flow q ≡ false → edge_of (at p q Horizontal (turned p.direction)) ≡ opposite (edge_of (at p q Horizontal p.direction))
  other_edge Static o = edge_turns flow_keyword p.direction
  other_edge Relative o = edge_turns flow_keyword p.direction
  other_edge Absolute o = absurd (clash (sym o))
  other_edge Fixed o = absurd (clash (sym o))
  other_edge Sticky o = edge_turns flow_keyword p.direction

module _ (p : AreaItem) (o : out_of_flow p.position ≡ false) where
  no_insets : insets_of p ≡ neither
  no_insets = ap (λ (b : Bool). counted_insets b p.inset) o

  flow_block : block_of p ≡ whole_area p
  flow_block = ap (λ (i : Line (Option Float)). block_within (area_size p.area) i (direction_of p)) no_insets

  flow_edge : edge_of p ≡ edge_by_alignment p
  flow_edge = ap (λ (i : Line (Option Float)). held_edge i.start i.end (edge_by_alignment p)) no_insets

  flow_space : auto_space p ≡ left_over p
  flow_space = ap (λ (b : Bool). taken b (both_set p.inset) (rest_of p)) o

  flow_safety : overflow_position p.alignment.safety (both_set (insets_of p)) ≡ p.alignment.safety
  flow_safety = ap (λ (i : Line (Option Float)). overflow_position p.alignment.safety (both_set i)) no_insets ∙ own_safety p.alignment.safety

  flow_way : (b : Bool) → (safe p.alignment.safety && overflows p) ≡ b → (safe (overflow_position p.alignment.safety (both_set (insets_of p))) && overflows p) ≡ b
  flow_way b h = ap (λ (s : AlignmentSafety). safe s && overflows p) flow_safety ∙ h

  flow_meets : (e : Edge) → edge_by_alignment p ≡ e → Meets e (whole_area p) p (placed p)
  flow_meets e g = meets p e (whole_area p) (flow_edge ∙ g) flow_block

  flow_uses : (a b : Option Float) → p.margin ≡ line a b → Uses (filled_margins (left_over p) p.axis p.direction a b) p (placed p)
  flow_uses a b g = uses p (left_over p) a b flow_space g

  in_flow : InFlow p (placed p)
  in_flow = record {
    start_stands_at_the_start = λ k. flow_meets (start_edge (direction_of p)) (start_is p k);
    end_stands_at_the_end = λ k h. flow_meets (end_edge (direction_of p)) (edge_is p End false k (flow_way false h));
    center_stands_in_the_middle = λ k h. flow_meets Middle (edge_is p Center false k (flow_way false h));
    safe_overflow_stands_at_the_start = λ s h. flow_meets (start_edge (direction_of p))
        (edge_is p p.alignment.keyword true refl (flow_way true (ap (λ (w : AlignmentSafety). safe w && overflows p) s ∙ is_true (overflows p) h)));
    two_auto_margins_halve_what_is_left = λ g. flow_uses None None g ∙ ap (with_shim p.baseline_shim) (equal_halves (left_over p) p.axis p.direction (never_below (rest_of p)));
    an_auto_start_margin_takes_what_is_left = λ b g. flow_uses None (Some b) g;
    an_auto_end_margin_takes_what_is_left = λ a g. flow_uses (Some a) None g;
    no_inset_counts = λ i. flow_insets p p.position o i;
    the_other_direction_has_the_same_margins = same_margins p p.position (turned p.direction) o;
    the_other_direction_has_the_opposite_edge = λ e.
        subst (λ (x : AbsoluteAxis). edge_of (at p p.position x (turned p.direction)) ≡ opposite (edge_of (at p p.position x p.direction))) (sym e) (other_edge p p.position o);
  }

-- ---- out of flow

module _ (p : AreaItem) (o : out_of_flow p.position ≡ true) where
  insets_are : (i : Line (Option Float)) → p.inset ≡ i → insets_of p ≡ i
  insets_are i g = ap (λ (b : Bool). counted_insets b p.inset) o ∙ g

  block_is : (i : Line (Option Float)) → p.inset ≡ i → block_of p ≡ block_within (area_size p.area) i (direction_of p)
  block_is i g = ap (λ (w : Line (Option Float)). block_within (area_size p.area) w (direction_of p)) (insets_are i g)

  held : (i : Line (Option Float)) → p.inset ≡ i → edge_of p ≡ held_edge i.start i.end (edge_by_alignment p)
  held i g = ap (λ (w : Line (Option Float)). held_edge w.start w.end (edge_by_alignment p)) (insets_are i g)

  space_is : (b : Bool) → both_set p.inset ≡ b → auto_space p ≡ taken true b (rest_of p)
  space_is b h = ap (λ (w : Bool). taken w (both_set p.inset) (rest_of p)) o ∙ ap (λ (w : Bool). taken true w (rest_of p)) h

  beside : BesideAutoInset p (placed p)
  beside = record {
    a_start_inset_holds_the_start = λ a g. meets p First (line a (area_size p.area)) (held (line (Some a) None) g) (block_is (line (Some a) None) g);
    an_end_inset_holds_the_end = λ b g. meets p Last (line zero (sub binary32 (area_size p.area) b)) (held (line None (Some b)) g) (block_is (line None (Some b)) g);
    auto_margins_take_nothing = λ h g. uses p zero None None (space_is false h) g ∙ ap (with_shim p.baseline_shim) (halves_of_nothing p.axis p.direction);
  }

module _ (p : AreaItem) (o : out_of_flow p.position ≡ true) (a b : Float) (i : p.inset ≡ line (Some a) (Some b)) where
  abbrev end : Float
  end = sub binary32 (area_size p.area) b

  between_block : lt end a ≡ false → block_of p ≡ line a end
  between_block h = block_is p o (line (Some a) (Some b)) i ∙ ap (λ (w : Bool). cond w (shrunk (direction_of p) (line a end)) (line a end)) h

  both : both_set (insets_of p) ≡ true
  both = ap both_set (insets_are p o (line (Some a) (Some b)) i)

  between_meets : lt end a ≡ false → (e : Edge) → edge_by_alignment p ≡ e → Meets e (line a end) p (placed p)
  between_meets h e g = meets p e (line a end) (held p o (line (Some a) (Some b)) i ∙ g) (between_block h)

  by_default : p.alignment.safety ≡ Default → T (overflows p) → (safe (overflow_position p.alignment.safety (both_set (insets_of p))) && overflows p) ≡ true
  by_default s h =
      ap (λ (w : AlignmentSafety). safe (overflow_position w (both_set (insets_of p))) && overflows p) s
      ∙ ap (λ (w : Bool). safe (overflow_position Default w) && overflows p) both
      ∙ is_true (overflows p) h

  shares : p.margin ≡ neither → Uses (two_auto_margins (rest_of p) p.axis p.direction) p (placed p)
  shares g = uses p (rest_of p) None None (space_is p o true (ap both_set i)) g

  between : lt end a ≡ false → BetweenInsets p a end (placed p)
  between h = record {
    start_stands_at_the_start = λ k. between_meets h (start_edge (direction_of p)) (start_is p k);
    end_stands_at_the_end = λ k n. between_meets h (end_edge (direction_of p))
        (edge_is p End false k (ap (λ (w : Bool). safe (overflow_position p.alignment.safety (both_set (insets_of p))) && w) n ∙ and-false (safe (overflow_position p.alignment.safety (both_set (insets_of p))))));
    unsafe_end_stands_at_the_end = λ k s. between_meets h (end_edge (direction_of p))
        (edge_is p End false k (ap (λ (w : AlignmentSafety). safe (overflow_position w (both_set (insets_of p))) && overflows p) s));
    overflow_stands_at_the_start_by_default = λ s n. between_meets h (start_edge (direction_of p)) (edge_is p p.alignment.keyword true refl (by_default s n));
    two_auto_margins_halve_what_is_left = λ g n. shares g ∙ ap (with_shim p.baseline_shim) (equal_halves (rest_of p) p.axis p.direction (not_below (rest_of p) n));
    vertically_they_halve_an_overflow_too = λ g x. shares g ∙ ap (λ (w : AbsoluteAxis). with_shim p.baseline_shim (two_auto_margins (rest_of p) w p.direction)) x;
    horizontally_an_overflow_is_at_the_line_end = λ g x n.
        shares g
        ∙ ap (λ (w : AbsoluteAxis). with_shim p.baseline_shim (two_auto_margins (rest_of p) w p.direction)) x
        ∙ ap (λ (w : Bool). with_shim p.baseline_shim (cond w (at_line_end p.direction (rest_of p)) (halves (rest_of p)))) (is_true (lt (rest_of p) zero) n);
  }

of_placed : (p : AreaItem) → Placed p (placed p)
of_placed p = record {
  anywhere = anywhere p;
  in_flow = in_flow p;
  beside_an_auto_inset = beside p;
  between_two_insets = λ o a b i h. between p o a b i h;
}

pub laws : (p : AreaItem) (r : Float × Line Float) → r ≡ placed p → Placed p r
laws p r e = subst (Placed p) (sym e) (of_placed p)
