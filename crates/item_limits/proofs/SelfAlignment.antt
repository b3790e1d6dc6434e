-- An alignment in the words of the container has no self-relative keyword, and is otherwise kept.
use Rattle.std.proofs.Common.{◌≡◌, Bool, true, false, not, T, refl, sym, subst}
use Rattle.style.specs.Alignment.{AlignItems}
use Rattle.style.specs.declared.alignment.AlignItemsKeyword.{AlignItemsKeyword}
use Rattle.style.specs.declared.alignment.AlignItemsKeyword.TheVariants as item
use Rattle.style.specs.declared.alignment.Direction.{Direction}
use Rattle.style.specs.Alignment.{keyword_along, runs_along, self_relative}
use Rattle.item_limits.specs.SelfAlignment.{self_relative_keyword, ContainerRelative}

resolved : (b : Bool) (k : AlignItemsKeyword) → T (not (self_relative_keyword (keyword_along b k)))
resolved true item.SelfStart = tt
resolved false item.SelfStart = tt
resolved true item.SelfEnd = tt
resolved false item.SelfEnd = tt
resolved b _ = tt

kept : (b : Bool) (k : AlignItemsKeyword) → T (not (self_relative_keyword k)) → keyword_along b k ≡ k
kept b item.SelfStart q = absurd q
kept b item.SelfEnd q = absurd q
kept b _ q = refl

pub container_relative : (a : AlignItems) (own container : Direction) (inline : Bool) (r : AlignItems) → r ≡ self_relative a own container inline → ContainerRelative a r
container_relative a own container inline r e = subst (ContainerRelative a) (sym e) (record {
  not_self_relative = resolved (runs_along own container inline) a.keyword;
  keyword_kept = kept (runs_along own container inline) a.keyword;
  overflow_position_kept = refl;
})
