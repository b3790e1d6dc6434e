-- Why an item cannot be placed, and the number of each reason: 11 where the host did not answer, 12 where a number is out of limits or range.
use Rattle.std.specs.Prelude.{ℕ}
use Rattle.item_lengths.specs.declared.CalcOutOfLimits as lengths
use Rattle.tree.specs.declared.fault.HostFault.{HostFault}
use Rattle.item_questions.specs.declared.fault.ItemFault.{ItemFault}
use Rattle.item_questions.specs.declared.fault.ItemFault.TheVariants.{Host, StyleOutOfRange, CalcOutOfLimits, SizeOutOfLimits, LayoutOutOfLimits, CandidateOutOfLimits}

abbrev pub fault_number : ItemFault → ℕ
fault_number (Host f) = 11
fault_number (StyleOutOfRange f) = 12
fault_number (CalcOutOfLimits h) = 12
fault_number SizeOutOfLimits = 12
fault_number LayoutOutOfLimits = 12
fault_number (CandidateOutOfLimits i) = 12

-- what becomes of a fault from below
abbrev pub from_host : HostFault → ItemFault
from_host f = Host f

abbrev pub from_calc : lengths.CalcOutOfLimits → ItemFault
from_calc f = CalcOutOfLimits f.handle
