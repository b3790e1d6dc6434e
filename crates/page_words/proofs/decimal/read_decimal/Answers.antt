use Rattle.std.proofs.Common.{rules}
use Rattle.page_words.proofs.Folds.{folded}
use Rattle.page_words.proofs.decimal.read_decimal.Goals as goal

pub returns-in_err-try_fold : goal.returns-in_err-try_fold
returns-in_err-try_fold c =
    let read = folded _ _ (λ f h d b v k. search rules) _ _ _ _ _ c.bytes.ensures.rest c.try_fold.ensures.ran in search rules

pub returns : goal.returns
returns c = let read = folded _ _ (λ f h d b v k. search rules) _ _ _ _ _ c.bytes.ensures.rest c.try_fold.ensures.ran in search rules
