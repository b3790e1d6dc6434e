-- The faults of a host: the number of each reason, the two faults about a node and a question, and how they are printed.
use Rattle.std.specs.Prelude.{ℕ, List, ◌++◌, codes, Option}
use Rattle.std.specs.Fmt.{decimal}
use Rattle.tree.specs.declared.question.Question.{Question}
use Rattle.tree.specs.declared.fault.HostReason.{HostReason}
use Rattle.tree.specs.declared.fault.HostReason.TheVariants.{UnknownNode, NoAnswer}
use Rattle.tree.specs.declared.fault.HostFault.{HostFault}

abbrev pub reason_number : HostReason → ℕ
reason_number UnknownNode = 1
reason_number NoAnswer = 2

abbrev pub unknown_node : ℕ → Option Question → HostFault
unknown_node n q = record { reason = UnknownNode; node = n; question = q }

abbrev pub no_answer : ℕ → Option Question → HostFault
no_answer n q = record { reason = NoAnswer; node = n; question = q }

abbrev pub reason_text : HostReason → List ℕ
reason_text r = codes "reason " ++ decimal (reason_number r)

abbrev pub fault_text : HostFault → List ℕ
fault_text f = reason_text f.reason ++ (codes " at node " ++ decimal f.node)
