-- What a recorded host means, by its tables: the first record that is for a question answers it.
use Rattle.std.specs.Prelude.{ℕ, [], ◌∷◌, ◌++◌, is_some, vec_items, Option, from_bits, Float}
use Rattle.std.specs.Float.{binary32}
use Rattle.std.specs.List.{find}
use Rattle.std.specs.Option.{option_map, unwrap_or, option_flatten}
use Rattle.tables.specs.Nodes.{new_slot, held_at, layout_at}
use Rattle.tree.specs.Meaning.{Means, Meaning}
use Rattle.recorded_host.specs.Records.{measurement_for, layout_for, candidate_for, calc_for}
use Rattle.recorded_host.specs.declared.records.NodeRecord.{NodeRecord}
use Rattle.recorded_host.specs.declared.records.MeasurementRecord.{MeasurementRecord}
use Rattle.recorded_host.specs.declared.records.LayoutRecord.{LayoutRecord}
use Rattle.recorded_host.specs.declared.records.CandidateRecord.{CandidateRecord}
use Rattle.recorded_host.specs.declared.records.CalcRecord.{CalcRecord}
use Rattle.recorded_host.specs.declared.host.RecordedHost.TheInside.{Inside}
use Rattle.recorded_host.specs.Tables.{Tables}

abbrev pub tables_of : Inside → Tables
tables_of h = record {
  nodes = h.nodes;
  measurements = vec_items h.measurements;
  layouts = vec_items h.layouts;
  candidates = vec_items h.candidates;
  calcs = vec_items h.calcs;
}

-- nothing is asked of the tables: every recorded host is in order
abbrev pub InOrder : Tables → Type 0
InOrder t = Unit {0}

-- a node's first record counts
abbrev pub node_record : Tables → ℕ → Option NodeRecord
node_record t = held_at (λ r. r.node) t.nodes

abbrev pub calc_at : Tables → ℕ → Float → Option Float
calc_at t handle basis = option_map (λ r. r.number) (find (calc_for handle basis) t.calcs)

-- what the tables mean, by the record of each node; a calculation without a record is 0
abbrev pub recorded_by : Tables → (ℕ → Option NodeRecord) → Means
recorded_by t node = record {
  has = λ n. is_some (node n);
  styles = λ n. option_flatten (option_map (λ r. r.style) (node n));
  calculates = λ handle basis. unwrap_or (calc_at t handle basis) (from_bits binary32 0);
  sizes = λ q. option_map (λ r. r.size) (find (measurement_for q) t.measurements);
  outputs = λ q. option_map (λ r. r.output) (find (layout_for q) t.layouts);
  candidates = λ q i. option_map (λ r. r.candidate) (find (candidate_for q i) t.candidates);
}

abbrev pub recorded_means : Tables → Means
recorded_means t = recorded_by t (node_record t)

abbrev pub recorded : Tables → Meaning
recorded t = record { means = recorded_means t; stored = layout_at (λ r. r.node) t.nodes }

abbrev pub no_tables : Tables
no_tables = record { nodes = []; measurements = []; layouts = []; candidates = []; calcs = [] }

abbrev pub with_node : Tables → NodeRecord → Tables
with_node t r = record t { nodes = t.nodes ++ new_slot r ∷ [] }

abbrev pub with_measurement : Tables → MeasurementRecord → Tables
with_measurement t r = record t { measurements = t.measurements ++ r ∷ [] }

abbrev pub with_layout : Tables → LayoutRecord → Tables
with_layout t r = record t { layouts = t.layouts ++ r ∷ [] }

abbrev pub with_candidate : Tables → CandidateRecord → Tables
with_candidate t r = record t { candidates = t.candidates ++ r ∷ [] }

abbrev pub with_calc : Tables → CalcRecord → Tables
with_calc t r = record t { calcs = t.calcs ++ r ∷ [] }
