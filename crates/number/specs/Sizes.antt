-- How large a number is: bounds on its magnitude, and the sum of many.
use Rattle.std.specs.Prelude.{ℕ, ◌*◌, ◌^◌, ◌≤◌, List, [], ◌∷◌, from_bits, Float}
use Rattle.std.specs.Float.{nan, inf, fin, binary32}
use Rattle.std.specs.Float.Ieee.{up, down, add}

-- x is finite, and at most n * 2 ^ k in magnitude
abbrev pub Within : ℕ → ℕ → Float → Type 0
Within n k nan = ⊥
Within n k (inf s) = ⊥
Within n k (fin s m e) = m * up e ≤ n * 2 ^ k * down e

-- x is finite, and at most 2 ^ k in magnitude
abbrev pub Bounded : ℕ → Float → Type 0
Bounded k x = Within 1 k x

-- x is finite, and at least 1 / 2 ^ j in magnitude
abbrev pub AtLeast : ℕ → Float → Type 0
AtLeast j nan = ⊥
AtLeast j (inf s) = ⊥
AtLeast j (fin s m e) = down e ≤ 2 ^ j * (m * up e)

-- what holds of each number of a list
abbrev pub Each : (Float → Type 0) → List Float → Type 0
Each P [] = Unit {0}
Each P (x ∷ xs) = P x × Each P xs

-- x and then each number of a list, added in turn, each sum rounded once
abbrev pub total_from : Float → List Float → Float
total_from x [] = x
total_from x (y ∷ ys) = total_from (add binary32 x y) ys

abbrev pub total : List Float → Float
total = total_from (from_bits binary32 0)
