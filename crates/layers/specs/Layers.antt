-- The rules of the layers: what a measurement by way of a cache leaves behind, and what a tally has counted.
use Rattle.std.specs.Prelude.{◌≡◌, true, cond, List, is_some, Some, Ok, Option, Result, Float}
use Rattle.geometry.specs.declared.Size.{Size}
use Rattle.tree.specs.declared.question.Question.{Question}
use Rattle.tree.specs.declared.fault.HostFault.{HostFault}
use Rattle.tree.specs.Bits.{is_number}
use Rattle.tree.specs.Questions.{every_number}
use Rattle.tree.specs.Meaning.{Meaning, Counts, counts_of, raise}
use Rattle.layers.specs.Remembering.{recalled, after_measuring, AllRight}
use Rattle.layers.specs.declared.memory.Remembered.{Remembered}
use Rattle.layers.specs.declared.cache.Cache.{Cache}
use Rattle.layers.specs.declared.tally.Tally.{Tally}

abbrev pub entries_of : {H : Type 0} → Cache H → List Remembered
entries_of c = c.memory

-- each remembered answer is the one of the host below
abbrev pub RemembersRightly : {H : Type 0} → (H → Meaning) → Cache H → Type 0
RemembersRightly meaning c = AllRight (meaning c.below).means (entries_of c)

abbrev pub counted : {H : Type 0} → Tally H → Option Counts
counted t = Some (counts_of t.measurements t.layouts)

-- A measurement by way of a cache: what is remembered then; a hit leaves cache and host below as they were; otherwise the host below is asked
-- once; and an answered question without NaN is remembered with its answer.
pub record Cached {H : Type 0} (tallied : H → Option Counts) (before after : Cache H) (q : Question) (r : Result (Size Float) HostFault) : Type 0 where
  pub remembers : entries_of after ≡ after_measuring (entries_of before) q (recalled (entries_of before) q) r
  pub hit : is_some (recalled (entries_of before) q) ≡ true → after ≡ before
  pub asks : tallied after.below ≡ cond (is_some (recalled (entries_of before) q)) (tallied before.below) (raise 1 0 (tallied before.below))
  pub last : (s : Size Float) → r ≡ Ok s → every_number is_number q ≡ true → recalled (entries_of after) q ≡ Some s
