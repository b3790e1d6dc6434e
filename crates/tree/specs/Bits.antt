-- Equality in every bit: of a number, and of what is made of numbers.
use Rattle.std.specs.Prelude.{Bool, true, false, not, ◌&&◌, Some, None, Option, ◌==◌, is_nan, to_bits, Float}
use Rattle.std.specs.Float.{binary32}
use Rattle.geometry.specs.declared.Size.{Size}
use Rattle.style.specs.declared.length.AvailableSpace.{AvailableSpace}
use Rattle.style.specs.declared.length.AvailableSpace.TheVariants.{Definite, MinContent, MaxContent}

-- the bits are the same; every NaN has the same bits here, and the two zeros have not
abbrev pub same_f32 : Float → Float → Bool
same_f32 a b = to_bits binary32 a == to_bits binary32 b

abbrev pub is_number : Float → Bool
is_number x = not (is_nan x)

abbrev pub same_option : {A : Type 0} → (A → A → Bool) → Option A → Option A → Bool
same_option same None None = true
same_option same None (Some b) = false
same_option same (Some a) None = false
same_option same (Some a) (Some b) = same a b

abbrev pub same_space : AvailableSpace → AvailableSpace → Bool
same_space (Definite a) (Definite b) = same_f32 a b
same_space (Definite a) MinContent = false
same_space (Definite a) MaxContent = false
same_space MinContent (Definite b) = false
same_space MinContent MinContent = true
same_space MinContent MaxContent = false
same_space MaxContent (Definite b) = false
same_space MaxContent MinContent = false
same_space MaxContent MaxContent = true

abbrev pub same_size : {A : Type 0} → (A → A → Bool) → Size A → Size A → Bool
same_size same a b = same a.width b.width && same a.height b.height
