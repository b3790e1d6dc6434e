-- What each sizing keyword resolves to.
use Rattle.std.specs.Prelude.{Some, None, Option, Float}
use Rattle.style.specs.declared.length.Dimension.{Dimension}
use Rattle.style.specs.declared.length.Dimension.TheVariants as size
use Rattle.style.specs.declared.length.LengthPercentage.TheVariants as lp
use Rattle.style.specs.declared.length.AvailableSpace.TheVariants as space
use Rattle.item_limits.specs.declared.sizing_keyword.SizingKeywordResolution.{SizingKeywordResolution}
use Rattle.item_limits.specs.declared.sizing_keyword.SizingKeywordResolution.TheVariants.{Measure, Exact}

-- measured in this space, where it is known
abbrev pub measured_within : Option Float → Option SizingKeywordResolution
measured_within (Some x) = Some (Measure (space.Definite x))
measured_within None = None

abbrev pub exactly : Option Float → Option SizingKeywordResolution
exactly (Some x) = Some (Exact x)
exactly None = None

abbrev pub sizing_keyword_resolution : Dimension → (stretch_fit limit : Option Float) → Option SizingKeywordResolution
sizing_keyword_resolution size.Auto stretch_fit limit = None
sizing_keyword_resolution size.Content stretch_fit limit = None
sizing_keyword_resolution (size.Length length) stretch_fit limit = None
sizing_keyword_resolution size.MinContent stretch_fit limit = Some (Measure space.MinContent)
sizing_keyword_resolution size.MaxContent stretch_fit limit = Some (Measure space.MaxContent)
sizing_keyword_resolution size.Stretch stretch_fit limit = exactly stretch_fit
sizing_keyword_resolution size.FitContent stretch_fit limit = measured_within stretch_fit
sizing_keyword_resolution (size.FitContentFunction (lp.Px x)) stretch_fit limit = measured_within (Some x)
sizing_keyword_resolution (size.FitContentFunction (lp.Percent x)) stretch_fit limit = measured_within limit
sizing_keyword_resolution (size.FitContentFunction (lp.Calc handle)) stretch_fit limit = measured_within limit
