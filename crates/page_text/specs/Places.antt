-- A place of a container: what a declaration fills it with, and how it answers.
use Rattle.std.specs.Prelude.{Some, None, Ok, Err, Option, Result}
use Rattle.page_text.specs.declared.read_error.Expected.{Expected}
use Rattle.page_text.specs.declared.read_error.Expected.TheVariants as expected

-- a place keeps what was said first
abbrev pub filled : {X : Type 0} → Option X → Option X → Option X
filled None read = read
filled (Some x) read = Some x

-- nothing is read into a place, or something is for the first time, or for a second
abbrev pub filling : {X : Type 0} → Option X → Option X → Expected → Result (Unit {0}) Expected
filling place None e = Err e
filling None (Some x) e = Ok tt
filling (Some y) (Some x) e = Err expected.SecondTime
