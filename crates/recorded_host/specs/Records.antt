-- Which record is for which question: equal in every bit, and without NaN.
use Rattle.std.specs.Prelude.{ℕ, Bool, ◌&&◌, ◌==◌, Float}
use Rattle.tree.specs.Bits.{same_f32, is_number}
use Rattle.tree.specs.Questions.{answers_for}
use Rattle.tree.specs.declared.question.Question.{Question}
use Rattle.recorded_host.specs.declared.records.MeasurementRecord.{MeasurementRecord}
use Rattle.recorded_host.specs.declared.records.LayoutRecord.{LayoutRecord}
use Rattle.recorded_host.specs.declared.records.CandidateRecord.{CandidateRecord}
use Rattle.recorded_host.specs.declared.records.CalcRecord.{CalcRecord}

abbrev pub measurement_for : Question → MeasurementRecord → Bool
measurement_for q r = answers_for r.question q

abbrev pub layout_for : Question → LayoutRecord → Bool
layout_for q r = answers_for r.question q

abbrev pub candidate_for : Question → ℕ → CandidateRecord → Bool
candidate_for q i r = r.index == i && answers_for r.question q

abbrev pub calc_for : ℕ → Float → CalcRecord → Bool
calc_for handle basis r = r.handle == handle && (same_f32 r.basis basis && is_number basis)
