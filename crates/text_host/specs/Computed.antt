-- What a text host means, by its texts: a node's first text answers, and nothing but a size is told of it.
use Rattle.std.specs.Prelude.{ℕ, List, [], ◌∷◌, ◌++◌, is_some, None, Option, from_bits, Float}
use Rattle.std.specs.Float.{binary32}
use Rattle.std.specs.Option.{option_map, option_flatten}
use Rattle.geometry.specs.declared.Rect.{Rect}
use Rattle.geometry.specs.declared.Size.{Size}
use Rattle.tables.specs.Nodes.{new_slot, held_at, layout_at}
use Rattle.tables.specs.declared.nodes.Slot.{Slot}
use Rattle.tree.specs.Meaning.{Means, Meaning}
use Rattle.tree.specs.declared.layout.LayoutOutput.{LayoutOutput}
use Rattle.text_host.specs.Texts.{text_size}
use Rattle.text_host.specs.declared.text.TextRecord.{TextRecord}

-- each text has a place for the layout last stored for its node
abbrev pub with_text : List (Slot TextRecord) → TextRecord → List (Slot TextRecord)
with_text texts t = texts ++ new_slot t ∷ []

-- nothing is asked of the texts: every text host is in order
abbrev pub InOrder : List (Slot TextRecord) → Type 0
InOrder texts = Unit {0}

-- a node's first text counts
abbrev pub text_at : List (Slot TextRecord) → ℕ → Option TextRecord
text_at = held_at (λ t. t.node)

abbrev pub no_rect : Rect Float
no_rect = record { left = from_bits binary32 0; right = from_bits binary32 0; top = from_bits binary32 0; bottom = from_bits binary32 0 }

-- a layout of that size, with nothing that overflows, no baseline and no candidates
abbrev pub output_of : Size Float → LayoutOutput
output_of s = record { size = s; scrollable_overflow_rect = no_rect; first_baseline = None; candidate_count = 0 }

-- what the texts mean, by the text of each node
abbrev pub computed_by : (ℕ → Option TextRecord) → Means
computed_by text = record {
  has = λ n. is_some (text n);
  styles = λ n. option_map (λ t. t.style) (text n);
  calculates = λ handle basis. from_bits binary32 0;
  sizes = λ q. option_flatten (option_map (λ t. text_size t q) (text q.node));
  outputs = λ q. option_map output_of (option_flatten (option_map (λ t. text_size t q) (text q.node)));
  candidates = λ q i. None;
}

abbrev pub computed_means : List (Slot TextRecord) → Means
computed_means texts = computed_by (text_at texts)

abbrev pub computed : List (Slot TextRecord) → Meaning
computed texts = record { means = computed_means texts; stored = layout_at (λ t. t.node) texts }
