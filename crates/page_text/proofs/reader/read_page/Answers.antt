use Rattle.std.proofs.Common.{◌≡◌, Ok, Err, Result, MatchResult, IfOk, sym, ◌∙◌, subst}
use Rattle.std.specs.Result.{IsErrAnd}
use Rattle.page_text.specs.Pages.{PageInRange}
use Rattle.page_text.proofs.Ranges.{finished_in_range}
use Rattle.page_text.proofs.reader.read_page.Goals as goal

-- `map_err` leaves an `Ok` as it is
kept : {T E D : Type 0} (r : Result T E) (s : Result T D) (x : T) (Post : E → D → Type 0)
    → MatchResult r (λ y. s ≡ Ok y) (λ e. IsErrAnd s (Post e)) → s ≡ Ok x → r ≡ Ok x
kept (Ok y) s x Post h k = cc
kept (Err e) s x Post h k = absurd (subst (λ t. IsErrAnd t (Post e)) k h)

pub returns : goal.returns
returns c =
    let page = kept c.finish.result c.map_err-2.result c.in_ok-page.page _ c.map_err-2.ensures.cases c.in_ok-page.was in
    subst (λ r. IfOk r PageInRange) (sym c.finish.ensures ∙ page) (finished_in_range c.loop-i.draft)
