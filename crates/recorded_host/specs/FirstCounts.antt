-- The first record counts: one that is added answers only where there was no answer.
use Rattle.std.specs.Prelude.{◌≡◌, ℕ, ◌==◌, Float}
use Rattle.std.specs.Option.{option_or}
use Rattle.std.specs.Bool.{then_some}
use Rattle.tree.specs.declared.question.Question.{Question}
use Rattle.recorded_host.specs.Records.{measurement_for, layout_for, candidate_for, calc_for}
use Rattle.recorded_host.specs.Tables.{Tables}
use Rattle.recorded_host.specs.Recorded.{node_record, calc_at, recorded_means, with_node, with_measurement, with_layout, with_candidate, with_calc}
use Rattle.recorded_host.specs.declared.records.NodeRecord.{NodeRecord}
use Rattle.recorded_host.specs.declared.records.MeasurementRecord.{MeasurementRecord}
use Rattle.recorded_host.specs.declared.records.LayoutRecord.{LayoutRecord}
use Rattle.recorded_host.specs.declared.records.CandidateRecord.{CandidateRecord}
use Rattle.recorded_host.specs.declared.records.CalcRecord.{CalcRecord}

pub record FirstCounts (t : Tables) : Type 0 where
  pub nodes : (r : NodeRecord) (n : ℕ) → node_record (with_node t r) n ≡ option_or (node_record t n) (then_some (r.node == n) r)
  pub measurements : (r : MeasurementRecord) (q : Question) → (recorded_means (with_measurement t r)).sizes q ≡ option_or ((recorded_means t).sizes q) (then_some (measurement_for q r) r.size)
  pub layouts : (r : LayoutRecord) (q : Question) → (recorded_means (with_layout t r)).outputs q ≡ option_or ((recorded_means t).outputs q) (then_some (layout_for q r) r.output)
  pub candidates : (r : CandidateRecord) (q : Question) (i : ℕ) → (recorded_means (with_candidate t r)).candidates q i ≡ option_or ((recorded_means t).candidates q i) (then_some (candidate_for q i r) r.candidate)
  pub calcs : (r : CalcRecord) (handle : ℕ) (basis : Float) → calc_at (with_calc t r) handle basis ≡ option_or (calc_at t handle basis) (then_some (calc_for handle basis r) r.number)
