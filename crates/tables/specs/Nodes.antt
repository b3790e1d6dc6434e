-- What a table of nodes says about a node: its first record, and the layout last stored for it.
use Rattle.std.specs.Prelude.{ℕ, cond, List, is_some, Some, None, Option, ◌==◌, nat_eq}
use Rattle.std.specs.List.{find}
use Rattle.std.specs.Option.{option_map, option_flatten}
use Rattle.tree.specs.declared.layout.Layout.{Layout}
use Rattle.tables.specs.declared.nodes.Slot.{Slot}

-- a record with nothing stored
abbrev pub new_slot : {R : Type 0} → R → Slot R
new_slot r = record { held = r; layout = None }

module _ {R : Type 0} (names : R → ℕ) (slots : List (Slot R)) where
  -- a node's first record counts
  abbrev pub slot_at : ℕ → Option (Slot R)
  slot_at n = find (λ s. nat_eq (names s.held) n) slots

  abbrev pub held_at : ℕ → Option R
  held_at n = option_map (λ s. s.held) (slot_at n)

  abbrev pub layout_at : ℕ → Option Layout
  layout_at n = option_flatten (option_map (λ s. s.layout) (slot_at n))

  -- the layouts once one is stored: a known node's is replaced, and for an unknown node nothing changes
  abbrev pub layouts_with : ℕ → Layout → ℕ → Option Layout
  layouts_with n l k = cond (is_some (held_at n)) (cond (k == n) (Some l) (layout_at k)) (layout_at k)
