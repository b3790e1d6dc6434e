-- What a place holds keeps its range.
use Rattle.std.proofs.Common.{◌≡◌, IfSome, Some, None, Option, unwrap_or, sym, subst}
use Rattle.page_text.specs.Places.{filled}

pub still : {X : Type 0} (P : X → Type 0) (place read filled_place : Option X) → filled_place ≡ filled place read → IfSome place P → IfSome read P → IfSome filled_place P
still P None read new e h k = subst (λ o. IfSome o P) (sym e) k
still P (Some x) read new e h k = subst (λ o. IfSome o P) (sym e) h

pub found_or : {X : Type 0} (P : X → Type 0) (place : Option X) (d : X) → IfSome place P → P d → P (unwrap_or place d)
found_or P None d h k = k
found_or P (Some x) d h k = h
