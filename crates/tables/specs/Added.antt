-- What adding a record does.
use Rattle.std.specs.Prelude.{◌≡◌, Ok, Err, Result}
use Rattle.std.specs.declared.alloc.AllocFailed.{AllocFailed}

-- What there was before becomes what there is with the record; or else, for want of memory, the record is given back, and nothing changes.
abbrev pub Added : {R T : Type 0} → Result (Unit {0}) (AllocFailed R) → R → (before with_it after : T) → Type 0
Added (Ok done) r before with_it after = after ≡ with_it
Added (Err refused) r before with_it after = (refused.value ≡ r) × (after ≡ before)
