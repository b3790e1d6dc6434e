-- Automatic margins: what they are where the space is not below 0, is 0, or is not for them.
use Rattle.std.proofs.Common.{◌≡◌, Bool, true, false, cond, ◌||◌, T, Some, None, Option, sym, refl, ap, ◌∙◌}
use lib.Ieee.{Float, of_bits, div, le, lt, is_nan}
use Rattle.std.proofs.lemmas.Bool.{false_from_ne_true}
use Rattle.std.proofs.lemmas.Float.{T_from_true}
use Rattle.std.specs.Float.{float_max}
use Rattle.std.specs.Float.Order.{lt_of_lt_of_le, lt_irrefl}
use Rattle.geometry.specs.declared.AbsoluteAxis.{AbsoluteAxis}
use Rattle.geometry.specs.declared.AbsoluteAxis.TheVariants.{Horizontal, Vertical}
use Rattle.style.specs.declared.alignment.Direction.{Direction}
use Rattle.item_placing.specs.Blocks.{zero, line}
use Rattle.item_placing.specs.Margins.{halves, at_line_end, two_auto_margins, filled_margins}
use borrow.Author.Tests.{clash}

pub not_below : (x : Float) → T (le zero x) → lt x zero ≡ false
not_below x h = false_from_ne_true (lt x zero) (λ l. lt_irrefl x (lt_of_lt_of_le x zero x (T_from_true (lt x zero) l) h))

zero_number : is_nan zero ≡ false
unfolding is_nan of_bits
zero_number = refl

-- what is at least zero is not below it
pub never_below : (x : Float) → lt (float_max x zero) zero ≡ false
never_below x = false_from_ne_true (lt (float_max x zero) zero) (λ e. go (le zero x) (is_nan zero) zero_number (λ t. t) (T_from_true (lt (float_max x zero) zero) e))
  where
    go : (c n : Bool) → n ≡ false → (T c → T (le zero x)) → T (lt (cond (c || n) x zero) zero) → ⊥
    go true n z f h = lt_irrefl x (lt_of_lt_of_le x zero x h (f tt))
    go false true z f h = clash (sym z)
    go false false z f h = lt_irrefl zero h

pub equal_halves : (s : Float) (x : AbsoluteAxis) (d : Direction) → lt s zero ≡ false → two_auto_margins s x d ≡ halves s
equal_halves s Horizontal d h = ap (λ (b : Bool). cond b (at_line_end d s) (halves s)) h
equal_halves s Vertical d h = refl

zero_halves : halves zero ≡ line zero zero
unfolding div of_bits
zero_halves = refl

zero_not_below : lt zero zero ≡ false
zero_not_below = false_from_ne_true (lt zero zero) (λ e. lt_irrefl zero (T_from_true (lt zero zero) e))

pub halves_of_nothing : (x : AbsoluteAxis) (d : Direction) → two_auto_margins zero x d ≡ line zero zero
halves_of_nothing x d = equal_halves zero x d zero_not_below ∙ zero_halves

-- a space that is not below 0 is shared alike in both directions
pub any_direction : (s : Float) → lt s zero ≡ false → (x : AbsoluteAxis) (c d : Direction) (a b : Option Float) → filled_margins s x c a b ≡ filled_margins s x d a b
any_direction s h x c d (Some a) (Some b) = refl
any_direction s h x c d (Some a) None = refl
any_direction s h x c d None (Some b) = refl
any_direction s h x c d None None = equal_halves s x c h ∙ sym (equal_halves s x d h)

pub vertical_direction : (s : Float) (c d : Direction) (a b : Option Float) → filled_margins s Vertical c a b ≡ filled_margins s Vertical d a b
vertical_direction s c d (Some a) (Some b) = refl
vertical_direction s c d (Some a) None = refl
vertical_direction s c d None (Some b) = refl
vertical_direction s c d None None = refl
