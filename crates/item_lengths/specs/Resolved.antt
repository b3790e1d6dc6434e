-- What the lengths of a style come to against a basis: px as they are, a percentage of the basis, a calculation by the host.
use Rattle.std.specs.Prelude.{ℕ, cond, Some, None, Ok, Err, Option, Result, Float}
use Rattle.std.specs.Float.{binary32}
use Rattle.std.specs.Float.Ieee.{mul}
use Rattle.geometry.specs.declared.Rect.{Rect}
use Rattle.geometry.specs.declared.Size.{Size}
use Rattle.number.specs.Limits.{in_limits}
use Rattle.number.specs.Zeros.{without_zero_sign}
use Rattle.style.specs.declared.length.LengthPercentage.{LengthPercentage}
use Rattle.style.specs.declared.length.LengthPercentage.TheVariants as lp
use Rattle.style.specs.declared.length.LengthPercentageAuto.{LengthPercentageAuto}
use Rattle.style.specs.declared.length.LengthPercentageAuto.TheVariants as lpa
use Rattle.style.specs.declared.length.Dimension.{Dimension}
use Rattle.style.specs.declared.length.Dimension.TheVariants as dim
use Rattle.item_lengths.specs.declared.CalcOutOfLimits.{CalcOutOfLimits}

-- what a host makes of a calculation: its handle and the basis
abbrev pub Calculation : Type 0
Calculation = ℕ → Float → Float

abbrev pub percentage : Float → Float → Float
percentage basis fraction = mul binary32 basis fraction

abbrev pub out_of_limits : ℕ → CalcOutOfLimits
out_of_limits handle = record { handle = handle }

-- a calculation's result is taken if it is in limits; the basis goes to the host without a zero's sign
abbrev pub calculated : Calculation → ℕ → Float → Result Float CalcOutOfLimits
calculated calc handle basis =
    cond (in_limits (calc handle (without_zero_sign basis))) (Ok (calc handle (without_zero_sign basis))) (Err (out_of_limits handle))

abbrev pub present : Result Float CalcOutOfLimits → Result (Option Float) CalcOutOfLimits
present (Ok x) = Ok (Some x)
present (Err e) = Err e

-- padding and border
abbrev pub length_percentage : Calculation → LengthPercentage → Float → Result Float CalcOutOfLimits
length_percentage calc (lp.Px x) basis = Ok x
length_percentage calc (lp.Percent f) basis = Ok (percentage basis f)
length_percentage calc (lp.Calc h) basis = calculated calc h basis

-- margins and insets: auto is absent
abbrev pub length_percentage_auto : Calculation → LengthPercentageAuto → Float → Result (Option Float) CalcOutOfLimits
length_percentage_auto calc lpa.Auto basis = Ok None
length_percentage_auto calc (lpa.Length length) basis = present (length_percentage calc length basis)

-- sizes: a keyword is no definite size, and is absent
abbrev pub dimension : Calculation → Dimension → Float → Result (Option Float) CalcOutOfLimits
dimension calc dim.Auto basis = Ok None
dimension calc dim.Content basis = Ok None
dimension calc (dim.Length length) basis = present (length_percentage calc length basis)
dimension calc dim.MinContent basis = Ok None
dimension calc dim.MaxContent basis = Ok None
dimension calc dim.Stretch basis = Ok None
dimension calc dim.FitContent basis = Ok None
dimension calc (dim.FitContentFunction length) basis = Ok None

-- the argument of `fit-content(..)`
abbrev pub fit_content_argument : Calculation → Dimension → Float → Result (Option Float) CalcOutOfLimits
fit_content_argument calc dim.Auto basis = Ok None
fit_content_argument calc dim.Content basis = Ok None
fit_content_argument calc (dim.Length length) basis = Ok None
fit_content_argument calc dim.MinContent basis = Ok None
fit_content_argument calc dim.MaxContent basis = Ok None
fit_content_argument calc dim.Stretch basis = Ok None
fit_content_argument calc dim.FitContent basis = Ok None
fit_content_argument calc (dim.FitContentFunction length) basis = present (length_percentage calc length basis)

-- ---- several lengths, in the order of reading, up to the first that fails

abbrev pub and_then : {A B E : Type 0} → Result A E → (A → Result B E) → Result B E
and_then (Ok x) f = f x
and_then (Err e) f = Err e

-- left and right against the width, top and bottom against the height
abbrev pub resolved_rect : {L O E : Type 0} → (L → Float → Result O E) → Rect L → Size Float → Result (Rect O) E
resolved_rect f r basis =
    and_then (f r.left basis.width) (λ left.
    and_then (f r.right basis.width) (λ right.
    and_then (f r.top basis.height) (λ top.
    and_then (f r.bottom basis.height) (λ bottom.
    Ok (record { left = left; right = right; top = top; bottom = bottom })))))

abbrev pub resolved_size : {L O E : Type 0} → (L → Float → Result O E) → Size L → Size Float → Result (Size O) E
resolved_size f s basis =
    and_then (f s.width basis.width) (λ width.
    and_then (f s.height basis.height) (λ height.
    Ok (record { width = width; height = height })))
