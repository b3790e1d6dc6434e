use Rattle.std.proofs.Common.{◌≡◌, Bool, true, false, cond, eqb, List, [], ◌∷◌, ◌++◌, Some, None, Option, refl, ap, ◌∙◌}
use Rattle.std.proofs.lemmas.List.Folds.{find-append}
use Rattle.std.specs.Bool.{then_some}
use Rattle.std.specs.List.{find}
use Rattle.std.specs.Option.{option_map, option_or}
use Rattle.tables.specs.Nodes.{new_slot}
use Rattle.recorded_host.specs.Records.{measurement_for, layout_for, candidate_for, calc_for}
use Rattle.recorded_host.proofs.laws.first_record_counts.Goals as goal

-- one more at the end counts where none before it passes
find_added : {A B : Type 0} (test : A → Bool) (f : A → B) (xs : List A) (y : A) → option_map f (find test (xs ++ y ∷ [])) ≡ option_or (option_map f (find test xs)) (then_some (test y) (f y))
find_added {A = A} test f xs y = ap (option_map f) (find-append test xs (y ∷ [])) ∙ go (find test xs) (test y)
  where
    go : (o : Option A) (b : Bool) → option_map f (option_or o (cond b (Some y) None)) ≡ option_or (option_map f o) (then_some b (f y))
    go (Some x) b = refl
    go None true = refl
    go None false = refl

pub returns : goal.returns
returns c = λ t. record {
  nodes = λ r n. find_added (λ s. eqb s.held.node n) (λ s. s.held) t.nodes (new_slot r);
  measurements = λ r q. find_added (measurement_for q) (λ r. r.size) t.measurements r;
  layouts = λ r q. find_added (layout_for q) (λ r. r.output) t.layouts r;
  candidates = λ r q i. find_added (candidate_for q i) (λ r. r.candidate) t.candidates r;
  calcs = λ r handle basis. find_added (calc_for handle basis) (λ r. r.number) t.calcs r;
}
