-- A test of every number: of what is made of numbers.
use Rattle.std.specs.Prelude.{Bool, true, ◌&&◌, Some, None, Option, Float}
use Rattle.geometry.specs.declared.Line.{Line}
use Rattle.geometry.specs.declared.Rect.{Rect}
use Rattle.geometry.specs.declared.Size.{Size}
use Rattle.style.specs.declared.length.AvailableSpace.{AvailableSpace}
use Rattle.style.specs.declared.length.AvailableSpace.TheVariants.{Definite, MinContent, MaxContent}
use Rattle.tree.specs.declared.layout.LayoutOutput.{LayoutOutput}
use Rattle.tree.specs.declared.layout.OofCandidate.{OofCandidate}

-- what is not there passes
abbrev pub every_option : {A : Type 0} → (A → Bool) → Option A → Bool
every_option test None = true
every_option test (Some a) = test a

abbrev pub every_space : (Float → Bool) → AvailableSpace → Bool
every_space test (Definite x) = test x
every_space test MinContent = true
every_space test MaxContent = true

-- both extents
abbrev pub every_size : {A : Type 0} → (A → Bool) → Size A → Bool
every_size test a = test a.width && test a.height

-- all four sides
abbrev pub every_rect : {A : Type 0} → (A → Bool) → Rect A → Bool
every_rect test r = test r.left && test r.right && test r.top && test r.bottom

-- both ends
abbrev pub every_line : {A : Type 0} → (A → Bool) → Line A → Bool
every_line test l = test l.start && test l.end

abbrev pub every_layout : (Float → Bool) → LayoutOutput → Bool
every_layout test l = every_size test l.size && every_rect test l.scrollable_overflow_rect && every_option test l.first_baseline

-- the areas of its static position, along both axes
abbrev pub every_candidate : (Float → Bool) → OofCandidate → Bool
every_candidate test c = every_line test c.static_position.x.area && every_line test c.static_position.y.area
