-- What is found by asking a host: a reply, and how many questions it took.
use Rattle.std.specs.Prelude.{◌≡◌, ℕ, ◌+◌, Ok, Err, Result, Float}
use Rattle.geometry.specs.declared.Size.{Size}
use Rattle.tree.specs.Meaning.{Means, raise}
use Rattle.tree.specs.declared.layout.LayoutOutput.{LayoutOutput}
use Rattle.tree.specs.declared.question.Question.{Question}
use Rattle.tree.specs.declared.traits.LayoutPartialTree.{Ghosts}
use Rattle.item_questions.specs.Asking.{measured, laid_out, Asked}
use Rattle.item_questions.specs.declared.fault.ItemFault.{ItemFault}

pub record Found (A : Type 0) : Type 0 where
  pub reply : Result A ItemFault
  pub measurements : ℕ
  pub layouts : ℕ

-- known without asking
abbrev pub known : {A : Type 0} → A → Found A
known a = record { reply = Ok a; measurements = 0; layouts = 0 }

abbrev pub by_measuring : Means → Question → Found (Size Float)
by_measuring m q = record { reply = measured m q; measurements = 1; layouts = 0 }

abbrev pub by_laying_out : Means → Question → Found LayoutOutput
by_laying_out m q = record { reply = laid_out m q; measurements = 0; layouts = 1 }

-- something made of what was found
abbrev pub made_of : {A B : Type 0} → (A → B) → Result A ItemFault → Result B ItemFault
made_of f (Err e) = Err e
made_of f (Ok a) = Ok (f a)

abbrev pub map_found : {A B : Type 0} → (A → B) → Found A → Found B
map_found f o = record { reply = made_of f o.reply; measurements = o.measurements; layouts = o.layouts }

-- on with what was found
abbrev pub then_by : {A B : Type 0} → ℕ → ℕ → Result A ItemFault → (A → Found B) → Found B
then_by k l (Err f) g = record { reply = Err f; measurements = k; layouts = l }
then_by k l (Ok a) g = record { reply = (g a).reply; measurements = k + (g a).measurements; layouts = l + (g a).layouts }

abbrev pub then_found : {A B : Type 0} → Found A → (A → Found B) → Found B
then_found o g = then_by o.measurements o.layouts o.reply g

-- a call finds this: its reply, from a host that was asked just these questions
pub record Finds {H A : Type 0} (host : Ghosts H) (before after : H) (o : Found A) (r : Result A ItemFault) : Type 0 where
  pub reply : r ≡ o.reply
  pub asked : Asked host before after (raise o.measurements o.layouts)
