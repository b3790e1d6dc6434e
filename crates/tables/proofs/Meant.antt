-- The meaning of a host that stands on a table of nodes: storing in the table is storing in the meaning.
use Rattle.std.proofs.Common.{◌≡◌, ℕ, cond, eqb, List, is_some, Some, Option, sym, ap, ◌∙◌}
use mathlib.Core.Path.{fun_ext}
use Rattle.tree.specs.Meaning.{Means, Meaning, with_stored}
use Rattle.tree.specs.declared.layout.Layout.{Layout}
use Rattle.tables.specs.Nodes.{held_at, layout_at, layouts_with}
use Rattle.tables.specs.declared.nodes.Slot.{Slot}

-- `means` tells what a host means by the records of its nodes
module _ {R : Type 0} (names : R → ℕ) (means : (ℕ → Option R) → Means) where
  abbrev meant : List (Slot R) → Meaning
  meant slots = record { means = means (held_at names slots); stored = layout_at names slots }

  pub meant_stored : ((held : ℕ → Option R) (n : ℕ) → (means held).has n ≡ is_some (held n)) → (slots after : List (Slot R)) (n : ℕ) (l : Layout) → held_at names after ≡ held_at names slots → layout_at names after ≡ layouts_with names slots n l → meant after ≡ with_stored (meant slots) n l
  meant_stored has slots after n l records layouts = λ i. record { means = means (records i); stored = (layouts ∙ fun_ext known) i }
    where
      known : (k : ℕ) → layouts_with names slots n l k ≡ (with_stored (meant slots) n l).stored k
      known k = ap (λ b. cond b (cond (eqb k n) (Some l) (layout_at names slots k)) (layout_at names slots k)) (sym (has (held_at names slots) n))
