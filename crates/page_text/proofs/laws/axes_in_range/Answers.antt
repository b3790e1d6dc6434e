use Rattle.page_text.proofs.Ranges.{axes_law}
use Rattle.page_text.proofs.laws.axes_in_range.Goals as goal

pub returns : goal.returns
returns c = axes_law
