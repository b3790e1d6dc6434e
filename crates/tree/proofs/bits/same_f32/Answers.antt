use Rattle.std.proofs.Common.{T, sym, ap, ◌∙◌, subst, eqb-true}
use lib.Ieee.{binary32, fits, of_bits}
use lib.Ieee.Bits.{of_bits-to_bits}
use Rattle.tree.proofs.bits.same_f32.Goals as goal

-- a number that fits is made from its own bits again
pub returns-clause-same : goal.returns-clause-same
returns-clause-same c = λ e.
    let fits-a : T (fits binary32 c.args.a) = subst T (sym c.well_formed.0.1) tt in
    let fits-b : T (fits binary32 c.args.b) = subst T (sym c.well_formed.1.0.1) tt in
    sym (of_bits-to_bits binary32 c.args.a fits-a)
    ∙ ap (of_bits binary32) (sym c.f32_to_bits_with_nan.ensures ∙ eqb-true _ _ e ∙ c.f32_to_bits_with_nan-2.ensures)
    ∙ of_bits-to_bits binary32 c.args.b fits-b
