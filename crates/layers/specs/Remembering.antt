-- What a cache remembers: measurements that were answered, the oldest first, 64 at most.
use Rattle.std.specs.Prelude.{◌≡◌, cond, List, [], ◌∷◌, ◌++◌, length, drop, Some, None, Ok, Err, Option, Result, nat_lt, Float}
use Rattle.std.specs.List.{AllByRecursion, find}
use Rattle.std.specs.Option.{option_map}
use Rattle.geometry.specs.declared.Size.{Size}
use Rattle.tree.specs.declared.question.Question.{Question}
use Rattle.tree.specs.declared.fault.HostFault.{HostFault}
use Rattle.tree.specs.Bits.{is_number}
use Rattle.tree.specs.Questions.{every_number, answers_for}
use Rattle.tree.specs.Meaning.{Means, measures}
use Rattle.layers.specs.declared.memory.Remembered.{Remembered}

-- the answer to the first measurement that answers for a question
abbrev pub recalled : List Remembered → Question → Option (Size Float)
recalled es q = option_map (λ e. e.size) (find (λ e. answers_for e.question q) es)

abbrev pub measurement : Question → Size Float → Remembered
measurement q s = record { question = q; size = s }

-- a place is free: where all 64 are taken, the oldest gives way
abbrev pub with_room : List Remembered → List Remembered
with_room es = cond (nat_lt (length es) 64) es (drop 1 es)

-- one more, the newest last
abbrev pub with_newest : List Remembered → Remembered → List Remembered
with_newest es e = with_room es ++ e ∷ []

-- once a question was answered: one with a NaN is not remembered
abbrev pub remembering : List Remembered → Question → Size Float → List Remembered
remembering es q s = cond (every_number is_number q) (with_newest es (measurement q s)) es

-- once the host below has answered: a fault is not remembered
abbrev pub after_answer : List Remembered → Question → Result (Size Float) HostFault → List Remembered
after_answer es q (Ok s) = remembering es q s
after_answer es q (Err f) = es

-- once a question was measured by way of the cache: on a hit all stays as it was
abbrev pub after_measuring : List Remembered → Question → Option (Size Float) → Result (Size Float) HostFault → List Remembered
after_measuring es q (Some s) r = es
after_measuring es q None r = after_answer es q r

-- a remembered answer is the one of the host below
abbrev pub Right : Means → Remembered → Type 0
Right m e = measures m e.question ≡ Ok e.size

abbrev pub AllRight : Means → List Remembered → Type 0
AllRight m es = AllByRecursion (Right m) es
