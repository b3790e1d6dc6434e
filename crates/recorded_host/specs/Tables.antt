-- The tables of a recorded host.
use Rattle.std.specs.Prelude.{List}
use Rattle.tables.specs.declared.nodes.Slot.{Slot}
use Rattle.recorded_host.specs.declared.records.NodeRecord.{NodeRecord}
use Rattle.recorded_host.specs.declared.records.MeasurementRecord.{MeasurementRecord}
use Rattle.recorded_host.specs.declared.records.LayoutRecord.{LayoutRecord}
use Rattle.recorded_host.specs.declared.records.CandidateRecord.{CandidateRecord}
use Rattle.recorded_host.specs.declared.records.CalcRecord.{CalcRecord}

-- each node record has a place for the layout last stored for its node
pub record Tables : Type 0 where
  pub nodes : List (Slot NodeRecord)
  pub measurements : List MeasurementRecord
  pub layouts : List LayoutRecord
  pub candidates : List CandidateRecord
  pub calcs : List CalcRecord
