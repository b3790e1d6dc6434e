-- What a table of nodes says once a layout is stored in the first slot of a node.
use Rattle.std.proofs.Common.{◌≡◌, ℕ, ◌<◌, ◌≤◌, Bool, true, false, cond, eqb, eqb-true, eq-eqb, List, length, get_or, set, is_some, Some, None, Ok, Err, Result, sym, refl, ap, ◌∙◌, subst, arith}
use mathlib.Core.Path.{fun_ext}
use Rattle.std.proofs.lemmas.Bool.Decides.{nat_tests}
use Rattle.std.proofs.lemmas.List.Folds.{find_at, find-set, find_past}
use Rattle.std.proofs.lemmas.List.Sums.{passes_at_first}
use Rattle.std.proofs.lemmas.Option.{slice_get-get_or, slice_get_past}
use Rattle.std.specs.List.{find, position, position_or_len, slice_get}
use Rattle.std.specs.Option.{option_map, option_flatten}
use Rattle.tree.specs.declared.fault.HostFault.{HostFault}
use Rattle.tree.specs.declared.layout.Layout.{Layout}
use Rattle.tables.specs.Nodes.{held_at, layout_at, layouts_with}
use Rattle.tables.specs.declared.nodes.Slot.{Slot}

-- the place i is that of the first that passes
pub record FirstAt {A : Type 0} (test : A → Bool) (xs : List A) (i : ℕ) : Type 0 where
  pub inside : i < length xs
  pub first : i ≡ position_or_len test xs

module _ {A : Type 0} (test : A → Bool) (xs : List A) where
  pub first_at : (i : ℕ) → position test xs ≡ Some i → FirstAt test xs i
  first_at i e = record { inside = grind (arith, nat_tests); first = grind (arith, nat_tests) }

  pub none_found : position test xs ≡ None → find test xs ≡ None
  none_found e = let past : length xs ≤ position_or_len test xs = grind (arith, nat_tests) in find_at test xs ∙ slice_get_past xs _ past

module _ {R : Type 0} (names : R → ℕ) where
  abbrev pub of_node : ℕ → Slot R → Bool
  of_node n s = eqb (names s.held) n

  abbrev filled : Layout → Slot R → Slot R
  filled l s = record { held = s.held; layout = Some l }

  -- what storing leaves: the answer, whatever the fault is, the records, and the layouts
  pub record Stored (slots after : List (Slot R)) (n : ℕ) (l : Layout) (r : Result (Unit {0}) HostFault) (f : HostFault) : Type 0 where
    pub answer : r ≡ cond (is_some (held_at names slots n)) (Ok tt) (Err f)
    pub records : held_at names after ≡ held_at names slots
    pub layouts : layout_at names after ≡ layouts_with names slots n l

  -- the slot s stands at i, the first place of the node
  module _ (slots : List (Slot R)) (n i : ℕ) (s : Slot R) (l : Layout) (at : FirstAt (of_node n) slots i) (is : s ≡ get_or slots i s) where
    found : find (of_node n) slots ≡ Some s
    found =
        find_at (of_node n) slots
        ∙ ap (slice_get slots) (sym at.first)
        ∙ slice_get-get_or slots i s at.inside
        ∙ ap (λ x. Some x) (sym is)

    named : names s.held ≡ n
    named =
        eqb-true (names s.held) n
        (ap (of_node n) (is ∙ ap (λ j. get_or slots j s) at.first)
        ∙ passes_at_first (of_node n) slots s (subst (λ j. j < length slots) at.first at.inside))

    -- the first of each other node stays as it was
    refound : (k : ℕ) → find (of_node k) (set slots i (filled l s)) ≡ cond (eqb k n) (Some (filled l s)) (find (of_node k) slots)
    refound k = go (eqb k n) refl
      where
        go : (b : Bool) → eqb k n ≡ b → find (of_node k) (set slots i (filled l s)) ≡ cond b (Some (filled l s)) (find (of_node k) slots)
        go true e = rw (eqb-true k n e) (find-set (of_node n) slots i (filled l s) at.first at.inside (eq-eqb (names s.held) n named))
        go false e =
            let same = named in
            let other : eqb (names s.held) k ≡ false = grind (arith, nat_tests) in
            find_past (of_node k) slots i (filled l s) s (ap (of_node k) (sym is) ∙ other) other

    record_stays : (k : ℕ) → held_at names (set slots i (filled l s)) k ≡ held_at names slots k
    record_stays k = ap (option_map (λ s. s.held)) (refound k) ∙ go (eqb k n) refl
      where
        go : (b : Bool) → eqb k n ≡ b → option_map (λ s. s.held) (cond b (Some (filled l s)) (find (of_node k) slots)) ≡ held_at names slots k
        go true e = rw (eqb-true k n e) (ap (option_map (λ s. s.held)) (sym found))
        go false e = refl

    layout_is : (k : ℕ) → layout_at names (set slots i (filled l s)) k ≡ layouts_with names slots n l k
    layout_is k =
        ap (λ o. option_flatten (option_map (λ s. s.layout) o)) (refound k)
        ∙ go (eqb k n)
        ∙ sym (ap (λ o. cond (is_some (option_map (λ s. s.held) o)) (cond (eqb k n) (Some l) (layout_at names slots k)) (layout_at names slots k)) found)
      where
        go : (b : Bool) → option_flatten (option_map (λ s. s.layout) (cond b (Some (filled l s)) (find (of_node k) slots))) ≡ cond b (Some l) (layout_at names slots k)
        go true = refl
        go false = refl

    pub stored : (f : HostFault) → Stored slots (set slots i (filled l s)) n l (Ok tt) f
    stored f = record {
      answer = ap (λ o. cond (is_some (option_map (λ s. s.held) o)) (Ok tt) (Err f)) (sym found);
      records = fun_ext record_stays;
      layouts = fun_ext layout_is;
    }

  pub missed : (slots : List (Slot R)) (n : ℕ) (l : Layout) (f : HostFault) → position (of_node n) slots ≡ None → Stored slots slots n l (Err f) f
  missed slots n l f e =
      let none = none_found (of_node n) slots e in
      record {
        answer = ap (λ o. cond (is_some (option_map (λ s. s.held) o)) (Ok tt) (Err f)) (sym none);
        records = refl;
        layouts = fun_ext (λ k. sym (ap (λ o. cond (is_some (option_map (λ s. s.held) o)) (cond (eqb k n) (Some l) (layout_at names slots k)) (layout_at names slots k)) none));
      }
