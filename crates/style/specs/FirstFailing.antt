-- The first of a list that fails a test.
use Rattle.std.specs.Prelude.{◌≡◌, Bool, false, not, T, List, ◌∷◌, ◌++◌, Option}
use Rattle.std.specs.List.{find, All}

abbrev pub first_failing : {X : Type 0} → (X → Bool) → List X → Option X
first_failing passes xs = find (λ x. not (passes x)) xs

-- some that pass, then x, which does not, then the rest
pub record FailsFirst {X : Type 0} (passes : X → Bool) (xs : List X) (x : X) : Type 0 where
  pub before : List X
  pub after : List X
  pub order : xs ≡ before ++ (x ∷ after)
  pub all_before_pass : All (λ y. T (passes y)) before
  pub fails : passes x ≡ false
