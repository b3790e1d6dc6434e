-- The first of a list that fails a test: under other names, and what it says of the whole list.
use Rattle.std.proofs.Common.{◌≡◌, Bool, true, false, not, cond, T, List, [], ◌∷◌, map, Some, None, refl, ap, arith}
use Rattle.std.specs.List.{All}
use Rattle.std.specs.Option.{option_map}
use Rattle.std.proofs.lemmas.List.Elements.{All-nil, All-cons, All-head, All-tail}
use Rattle.style.specs.FirstFailing.{first_failing, FailsFirst}

pub renamed : {X Y : Type 0} (passes : Y → Bool) (f : X → Y) (xs : List X)
    → first_failing passes (map f xs) ≡ option_map f (first_failing (λ x. passes (f x)) xs)
renamed passes f [] = refl
renamed passes f (x ∷ xs) = let h = renamed passes f xs in grind arith

passes_when : {X : Type 0} (passes : X → Bool) (x : X) → passes x ≡ true → T (passes x)
passes_when passes x e = rw e tt

pub none_fails : {X : Type 0} (passes : X → Bool) (xs : List X) → first_failing passes xs ≡ None → All (λ x. T (passes x)) xs
none_fails passes [] e = All-nil (λ x. T (passes x))
none_fails passes (x ∷ xs) e =
    let here : passes x ≡ true = grind arith in
    let rest : first_failing passes xs ≡ None = grind arith in
    All-cons (λ y. T (passes y)) x xs (passes_when passes x here) (none_fails passes xs rest)

pub all_pass : {X : Type 0} (passes : X → Bool) (xs : List X) → All (λ x. T (passes x)) xs → first_failing passes xs ≡ None
all_pass passes [] h = refl
all_pass passes (x ∷ xs) h =
    let here = All-head (λ y. T (passes y)) x xs h in
    let rest = all_pass passes xs (All-tail (λ y. T (passes y)) x xs h) in
    grind arith

-- what holds of a list holds with one more that passes in front
one_more : {X : Type 0} (passes : X → Bool) (x y : X) (xs : List X) → T (passes x) → FailsFirst passes xs y → FailsFirst passes (x ∷ xs) y
one_more passes x y xs t h =
    record {
      before = x ∷ h.before;
      after = h.after;
      order = ap (λ zs. x ∷ zs) h.order;
      all_before_pass = All-cons (λ z. T (passes z)) x h.before t h.all_before_pass;
      fails = h.fails;
    }

pub named_first : {X : Type 0} (passes : X → Bool) (xs : List X) (y : X) → first_failing passes xs ≡ Some y → FailsFirst passes xs y
named_first passes [] y e = cc
named_first passes (x ∷ xs) y e = at_head (passes x) refl (named_first passes xs y) e
  where
    at_head : (b : Bool) → passes x ≡ b → (first_failing passes xs ≡ Some y → FailsFirst passes xs y)
        → cond (not b) (Some x) (first_failing passes xs) ≡ Some y → FailsFirst passes (x ∷ xs) y
    at_head true p rest h = one_more passes x y xs (rw p tt) (rest h)
    at_head false p rest h =
        let same : x ≡ y = cc in
        record { before = []; after = xs; order = ap (λ z. z ∷ xs) same; all_before_pass = All-nil (λ z. T (passes z)); fails = rw (← same) p }
