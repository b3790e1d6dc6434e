-- One measurement more: the newest is recalled.
use Rattle.std.proofs.Common.{◌≡◌, Bool, true, false, cond, ltb, List, [], ◌∷◌, ◌++◌, length, drop, Some, None, Option, refl, ap, ◌∙◌, eq-eqb}
use lib.Ieee.{Float, binary32, to_bits}
use Rattle.std.specs.List.{find}
use Rattle.std.specs.Option.{option_map, option_or}
use Rattle.std.proofs.lemmas.Bool.{and_from, cond_both}
use Rattle.std.proofs.lemmas.List.Folds.{find-append}
use Rattle.geometry.specs.declared.Size.{Size}
use Rattle.style.specs.declared.length.AvailableSpace.{AvailableSpace}
use Rattle.style.specs.declared.length.AvailableSpace.TheVariants.{Definite, MinContent, MaxContent}
use Rattle.style.specs.declared.modes.SizingMode.{SizingMode}
use Rattle.style.specs.declared.modes.SizingMode.TheVariants.{ContentSize, InherentSize}
use Rattle.style.specs.declared.modes.RequestedAxis.{RequestedAxis}
use Rattle.style.specs.declared.modes.RequestedAxis.TheVariants.{Horizontal, Vertical, Both}
use Rattle.tree.specs.declared.question.Question.{Question}
use Rattle.tree.specs.Bits.{same_f32, same_option, same_space, is_number}
use Rattle.tree.specs.Questions.{same_mode, same_axis, same_question, every_number, answers_for}
use Rattle.layers.specs.declared.memory.Remembered.{Remembered}
use Rattle.layers.specs.Remembering.{recalled, measurement, with_room, with_newest, remembering}

-- a question is equal to itself in every bit --

f32_itself : (x : Float) → same_f32 x x ≡ true
f32_itself x = eq-eqb (to_bits binary32 x) (to_bits binary32 x) refl

option_itself : (o : Option Float) → same_option same_f32 o o ≡ true
option_itself None = refl
option_itself (Some x) = f32_itself x

space_itself : (a : AvailableSpace) → same_space a a ≡ true
space_itself (Definite x) = f32_itself x
space_itself MinContent = refl
space_itself MaxContent = refl

mode_itself : (a : SizingMode) → same_mode a a ≡ true
mode_itself ContentSize = refl
mode_itself InherentSize = refl

axis_itself : (a : RequestedAxis) → same_axis a a ≡ true
axis_itself Horizontal = refl
axis_itself Vertical = refl
axis_itself Both = refl

question_itself : (q : Question) → same_question q q ≡ true
question_itself q =
    and_from _ _ (eq-eqb q.node q.node refl)
    (and_from _ _ (and_from _ _ (option_itself q.known_dimensions.width) (option_itself q.known_dimensions.height))
    (and_from _ _ (and_from _ _ (option_itself q.parent_size.width) (option_itself q.parent_size.height))
    (and_from _ _ (and_from _ _ (space_itself q.available_space.width) (space_itself q.available_space.height))
    (and_from _ _ (mode_itself q.sizing_mode) (axis_itself q.axis)))))

-- the newest is recalled, where none before it answers --

none_mapped : (o : Option Remembered) → option_map (λ e. e.size) o ≡ None → o ≡ None
none_mapped None n = refl
none_mapped (Some e) n = cc

none_later : (test : Remembered → Bool) (es : List Remembered) → find test es ≡ None → find test (drop 1 es) ≡ None
none_later test [] n = n
none_later test (e ∷ es) n = go (test e) n
  where
    go : (b : Bool) → cond b (Some e) (find test es) ≡ None → find test es ≡ None
    go true n = cc
    go false n = n

abbrev answering : Question → Remembered → Bool
answering q e = answers_for e.question q

-- none of these answers, and the last does
last_found : (es : List Remembered) (e : Remembered) (q : Question) → find (answering q) es ≡ None → answering q e ≡ true → find (answering q) (es ++ e ∷ []) ≡ Some e
last_found es e q none answers =
    find-append (answering q) es (e ∷ []) ∙ ap (λ o. option_or o (find (answering q) (e ∷ []))) none ∙ ap (λ b. cond b (Some e) None) answers

pub newest_recalled : (es : List Remembered) (q : Question) (s : Size Float) → recalled es q ≡ None → every_number is_number q ≡ true → recalled (remembering es q s) q ≡ Some s
newest_recalled es q s none numbers =
    let nothing = none_mapped (find (answering q) es) none in
    let room = cond_both (ltb (length es) 64) es (drop 1 es) (λ l. find (answering q) l ≡ None) (λ _. nothing) (λ _. none_later (answering q) es nothing) in
    let itself = and_from _ _ (question_itself q) numbers in
    ap (λ b. recalled (cond b (with_newest es (measurement q s)) es) q) numbers ∙ ap (option_map (λ e. e.size)) (last_found (with_room es) (measurement q s) q room itself)
