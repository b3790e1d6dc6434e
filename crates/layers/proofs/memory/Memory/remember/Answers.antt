use Rattle.std.proofs.Common.{◌≡◌, List, ap, ◌∙◌, arith}
use Rattle.std.proofs.lemmas.Grind.{common_steps}
use Rattle.layers.specs.declared.memory.Remembered.{Remembered}
use Rattle.layers.specs.Remembering.{recalled, remembering}
use Rattle.layers.proofs.Newest.{newest_recalled}
use Rattle.layers.proofs.memory.Memory.remember.Goals as goal

pub returns-then-is_free_of_nan-clause-last : goal.returns-then-is_free_of_nan-clause-last
returns-then-is_free_of_nan-clause-last c =
    let es = c.args.self.now in
    let list : c.push_back.new.self.items ≡ remembering es c.args.question c.args.size = grind (arith, common_steps) in
    λ none numbers. ap (λ (l : List Remembered). recalled l c.args.question) list ∙ newest_recalled es c.args.question c.args.size none numbers
