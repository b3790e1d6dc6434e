-- The library's two words for a finite number agree.
use Rattle.std.proofs.Common.{◌≡◌, refl}
use lib.Ieee.{Float, nan, inf, fin}
use lib.Ieee.Scale.{finite}
use Rattle.std.specs.Float as floats

pub finite_is : (x : Float) → floats.float_is_finite x ≡ finite x
unfolding floats.float_is_finite
finite_is nan = refl
finite_is (inf s) = refl
finite_is (fin s m e) = refl
