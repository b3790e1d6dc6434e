-- What a host means, what it answers by that, and what a tally on top of it has counted.
use Rattle.std.specs.Prelude.{ℕ, zero, suc, ◌+◌, ◌-◌, ◌^◌, min, Bool, cond, Some, None, Err, Option, Result, ◌==◌, Float}
use Rattle.std.specs.Option.{ok_or}
use Rattle.geometry.specs.declared.Size.{Size}
use Rattle.style.specs.declared.style.Style.{Style}
use Rattle.tree.specs.declared.question.Question.{Question}
use Rattle.tree.specs.declared.layout.Layout.{Layout}
use Rattle.tree.specs.declared.layout.LayoutOutput.{LayoutOutput}
use Rattle.tree.specs.declared.layout.OofCandidate.{OofCandidate}
use Rattle.tree.specs.declared.fault.HostFault.{HostFault}
use Rattle.tree.specs.Faults.{unknown_node, no_answer}

-- what no call changes: the nodes, a style or none for each, a number for each calculation (handle and basis),
-- a size or none for each measurement, an output or none for each layout, a candidate or none for each layout and index
pub record Means : Type 0 where
  pub has : ℕ → Bool
  pub styles : ℕ → Option Style
  pub calculates : ℕ → Float → Float
  pub sizes : Question → Option (Size Float)
  pub outputs : Question → Option LayoutOutput
  pub candidates : Question → ℕ → Option OofCandidate

-- and the layout last stored for each node, if there is one
pub record Meaning : Type 0 where
  pub means : Means
  pub stored : ℕ → Option Layout

-- what is answered about a node: it is unknown, or there is no answer, or this
abbrev pub answers : {A : Type 0} → Means → ℕ → Option Question → Option A → Result A HostFault
answers m n q a = cond (m.has n) (ok_or a (no_answer n q)) (Err (unknown_node n q))

abbrev pub measures : Means → Question → Result (Size Float) HostFault
measures m q = answers m q.node (Some q) (m.sizes q)

abbrev pub lays_out : Means → Question → Result LayoutOutput HostFault
lays_out m q = answers m q.node (Some q) (m.outputs q)

abbrev pub fetches : Means → Question → ℕ → Result OofCandidate HostFault
fetches m q i = answers m q.node (Some q) (m.candidates q i)

-- a node without a style counts as unknown where its style is wanted
abbrev pub styles_at : Means → ℕ → Result Style HostFault
styles_at m n = cond (m.has n) (ok_or (m.styles n) (unknown_node n None)) (Err (unknown_node n None))

-- storing is accepted just where the node is known
abbrev pub stores : Means → ℕ → Result (Unit {0}) HostFault
stores m n = answers m n None (Some tt)

abbrev pub reads : Meaning → ℕ → Result Layout HostFault
reads m n = answers m.means n None (m.stored n)

-- the meaning once a layout is stored: a known node's layout is replaced; for an unknown node nothing changes
abbrev pub with_stored : Meaning → ℕ → Layout → Meaning
with_stored m n l = record {
  means = m.means;
  stored = λ k. cond (m.means.has n) (cond (k == n) (Some l) (m.stored k)) (m.stored k);
}

-- the questions that have gone through a tally
pub record Counts : Type 0 where
  pub measurements : ℕ
  pub layouts : ℕ

abbrev pub counts_of : ℕ → ℕ → Counts
counts_of a b = record { measurements = a; layouts = b }

-- k more, one by one, and never past the largest u32
abbrev pub up : ℕ → ℕ → ℕ
up n zero = n
up n (suc k) = up (min (n + 1) (2 ^ 32 - 1)) k

-- the counts of a tally on top, where there is one, after a measurements and b layouts
abbrev pub raise : ℕ → ℕ → Option Counts → Option Counts
raise a b None = None
raise a b (Some c) = Some (record { measurements = up c.measurements a; layouts = up c.layouts b })
