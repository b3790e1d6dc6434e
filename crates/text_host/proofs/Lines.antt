-- A quotient that is rounded up is the fewest that are enough.
use Rattle.std.proofs.Common.{ℕ, ◌+◌, ◌*◌, ◌<◌, ◌≤◌, lt_of_mul-lt-mul_right, add-mul, arith}
use Rattle.std.proofs.lemmas.Grind.{div_ceil_times}
use Rattle.text_host.specs.Texts.{lines_in}

pub fewest : (a c : ℕ) → 0 < c → (n : ℕ) → a ≤ n * c → lines_in a c ≤ n
fewest a c h n holds =
    let above = (div_ceil_times a c h).1 in
    let more = add-mul n 1 c in
    let p : lines_in a c < n + 1 = lt_of_mul-lt-mul_right c (omega (arith, above, more)) in
    omega (arith, p)
