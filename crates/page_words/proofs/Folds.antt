-- `try_fold` over the bytes of a text reads them one after another.
use Rattle.std.proofs.Common.{◌≡◌, ℕ, List, [], ◌∷◌, length, Some, None, Option, sym, refl, ap, ◌∙◌, subst}
use Rattle.std.specs.Option.{MatchOption}
use Rattle.std.specs.Fn.{Mut, Called}
use Rattle.std.specs.List.{FoldsTo}
use Rattle.std.specs.ControlFlow.{continue_value}
use Rattle.std.specs.Iterator.{YieldsThen, TryFoldTurn, TryFoldsItems}
use Rattle.std.specs.Str.Iter.{bytes_rest, bytes_steps}
use Rattle.std.specs.declared.str.Bytes.{Bytes}
use Rattle.page_words.specs.Decimals.{and_then, after, after_all, number_read, decimal}
use Rattle.page_words.specs.declared.decimal.Decimal.{Decimal}
use Rattle.page_words.specs.declared.decimal.Decimal.TheVariants.{Empty}

none_left : (d : Decimal) (bs : List ℕ) → length bs ≡ 0 → after_all d bs ≡ Some d
none_left d [] h = refl
none_left d (b ∷ bs) h = cc

one_more : (d : Decimal) (b : ℕ) (bs cs : List ℕ) (o : Option Decimal) → bs ≡ b ∷ cs → after d b ≡ o → after_all d bs ≡ and_then o (λ e. after_all e cs)
one_more d b bs cs o h k = ap (after_all d) h ∙ ap (λ p. and_then p (λ e. after_all e cs)) k

module _ {F : Type 0} (E : Type 0) (g : Mut F (Decimal × (ℕ × Unit {0})) (Option Decimal))
    (reads : (f h : F) (d : Decimal) (b : ℕ) (v : Option Decimal) → Called g f (d, (b, tt)) v h → v ≡ after d b) where
  go : (xs : List ℕ) (o : Option ℕ) (s u : Bytes) (f h : F) (d e : Decimal) (r : Option Decimal)
      → YieldsThen bytes_steps s xs o u → FoldsTo {P = F × Decimal} (TryFoldTurn g (λ v c. v ≡ continue_value {B = E} c)) (f, d) xs (h, e)
      → MatchOption o (r ≡ Some e) (λ x. (v : Option Decimal) × (k : F) × (b : E) × Called g h (e, (x, tt)) v k × (v ≡ None) × (r ≡ None))
      → r ≡ after_all d (bytes_rest s)
  go [] None s u f h d e r y c m =
      m ∙ ap (λ (p : F × Decimal). Some p.1) (sym c) ∙ sym (none_left d (bytes_rest s) (subst (λ t. length (bytes_rest t) ≡ 0) (sym y.1) y.2.0))
  go [] (Some x) s u f h d e r y c m =
      m.5
      ∙ sym (one_more d x (bytes_rest s) (bytes_rest u) None (ap bytes_rest y.1 ∙ y.2) (ap (λ (p : F × Decimal). after p.1 x) c ∙ sym (reads h m.1 e x m.0 m.3) ∙ m.4))
  go (x ∷ xs) o s u f h d e r y c m =
      go xs o y.1.0 u c.0.0 h c.0.1 e r (y.0, y.1.2, y.2) c.2 m
      ∙ sym (one_more d x (bytes_rest s) (bytes_rest y.1.0) (Some c.0.1) y.1.1 (sym (reads f c.0.0 d x c.1.0 c.1.1) ∙ c.1.2))

  pub folded : (text : List ℕ) (s u : Bytes) (f : F) (r : Option Decimal) → bytes_rest s ≡ text
      → TryFoldsItems bytes_steps g (λ v c. v ≡ continue_value {B = E} c) (λ b v. v ≡ None) s f Empty r u → and_then r number_read ≡ decimal text
  folded text s u f r k h = ap (λ o. and_then o number_read) (go h.0 h.1 s u f h.2 Empty h.3 r h.4 h.5 h.6 ∙ ap (after_all Empty) k)
