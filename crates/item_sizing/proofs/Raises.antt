-- Two rounds of questions raise a tally as both together do.
use Rattle.std.proofs.Common.{◌≡◌, ℕ, zero, suc, ◌+◌, ◌-◌, ◌^◌, min, Some, None, Option, sym, refl, ap, ◌∙◌, suc-add, zero-add}
use Rattle.tree.specs.Meaning.{Counts, up, raise}

up_up : (a n b : ℕ) → up (up n a) b ≡ up n (a + b)
up_up zero n b = ap (up n) (sym (zero-add b))
up_up (suc a) n b = up_up a (min (n + 1) (2 ^ 32 - 1)) b ∙ ap (up n) (sym (suc-add a b))

pub raise_raise : (a b c d : ℕ) (t : Option Counts) → raise c d (raise a b t) ≡ raise (a + c) (b + d) t
raise_raise a b c d None = refl
raise_raise a b c d (Some k) = λ i. Some (record { measurements = up_up a k.measurements c i; layouts = up_up b k.layouts d i })
