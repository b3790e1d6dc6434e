-- The range of a draft is that of its page, and that of the page's axes.
use Rattle.std.proofs.Common.{◌≡◌, ℕ, ◌%◌, Bool, true, false, cond, ◌&&◌, T, eqb, List, [], ◌∷◌, IfSome, IfOk, Some, None, Ok, Err, vec_len, Option, refl, rules}
use lib.Ieee.{Float, binary32, le, of_bits}
use Rattle.std.specs.List.{AllByRecursion}
use Rattle.number.specs.Limits.{in_limits}
use Rattle.number.specs.Sizes.{Each}
use Rattle.tracks.specs.Tracks.{base_sizes}
use Rattle.tracks.specs.declared.grid_track.GridTrack.{GridTrack}
use Rattle.page_words.specs.WrittenSizes.{size_in_range}
use Rattle.page_text.specs.Containers.{no_sides, stretched, with_size, with_width, ContainerInRange}
use Rattle.page_text.specs.Ranges.{SizeInRange, SidesInRange, Aligns}
use Rattle.page_text.specs.WrittenTracks.{TrackInRange}
use Rattle.page_text.specs.Pages.{with_tracks, draft_finished, PageInRange}
use Rattle.page_text.specs.PageLaws.{AxesInRange}
use Rattle.page_text.specs.declared.container_text.ContainerText.{ContainerText}
use Rattle.page_text.specs.declared.read_error.Expected.TheVariants as expected
use Rattle.page_text.specs.declared.draft.Draft.{Draft}
use Rattle.page_text.proofs.Places.{found_or}

zero_in_range : T (size_in_range (of_bits binary32 0))
unfolding of_bits le lib.Ieee.neg
zero_in_range = tt

no_sides_in_range : SidesInRange no_sides
no_sides_in_range = record { left_side = zero_in_range; right_side = zero_in_range; top_side = zero_in_range; bottom_side = zero_in_range }

sized_in_range : (t : ContainerText) (w h : Float) → SizeInRange w → SizeInRange h → ContainerInRange (with_size t w h)
sized_in_range t w h a b = record {
  content_width = a;
  content_height = b;
  padding_sides = found_or SidesInRange t.padding no_sides t.padding_said no_sides_in_range;
  border_sides = found_or SidesInRange t.border no_sides t.border_said no_sides_in_range;
  columns_align = found_or Aligns t.justify_content stretched t.columns_said tt;
  rows_align = found_or Aligns t.align_content stretched t.rows_said tt;
}

-- what stands behind four tests
after_tests : {X E : Type 0} (P : X → Type 0) (a b c d : Bool) (e f g h : E) (x : X) → (c ≡ false → d ≡ false → P x)
    → IfOk (cond a (Err e) (cond b (Err f) (cond c (Err g) (cond d (Err h) (Ok x))))) P
after_tests P true b c d e f g h x k = tt
after_tests P false true c d e f g h x k = tt
after_tests P false false true d e f g h x k = tt
after_tests P false false false true e f g h x k = tt
after_tests P false false false false e f g h x k = k refl refl

odd : (n : ℕ) → eqb (n % 2) 0 ≡ false → n % 2 ≡ 1
odd n h = search rules

pub finished_in_range : (d : Draft) → IfOk (draft_finished d) PageInRange
finished_in_range d = go d.container.width d.container.height d.container.width_said d.container.height_said
  where
    go : (w h : Option Float) → IfSome w SizeInRange → IfSome h SizeInRange → IfOk (with_tracks d (with_width d.container w h)) PageInRange
    go None h a b = tt
    go (Some w) None a b = tt
    go (Some w) (Some h) a b =
        after_tests PageInRange (eqb (vec_len d.columns) 0) (eqb (vec_len d.rows) 0) (eqb (vec_len d.columns % 2) 0) (eqb (vec_len d.rows % 2) 0)
        expected.Columns expected.Rows expected.OddColumns expected.OddRows
        (record { container = with_size d.container w h; columns = d.columns; rows = d.rows }) (λ c r. record {
          container_range = sized_in_range d.container w h a b;
          columns_range = d.columns_so_far;
          rows_range = d.rows_so_far;
          odd_columns = odd (vec_len d.columns) c;
          odd_rows = odd (vec_len d.rows) r;
        })

both_second : (a b : Bool) → T (a && b) → T b
both_second true b h = h
both_second false b h = absurd h

limited : (x : Float) → SizeInRange x → T (in_limits x)
limited x h = both_second (le (of_bits binary32 0) x) (in_limits x) h

sizes_limited : (ts : List GridTrack) → AllByRecursion TrackInRange ts → Each (λ x. T (in_limits x)) (base_sizes ts)
sizes_limited [] h = tt
sizes_limited (t ∷ ts) h = (limited t.base_size h.0.track_size, sizes_limited ts h.1)

pub axes_law : AxesInRange
axes_law = record {
  columns = λ p k. record {
    few = k.columns_range.few;
    content_size = limited _ k.container_range.content_width;
    padding_start = limited _ k.container_range.padding_sides.left_side;
    border_start = limited _ k.container_range.border_sides.left_side;
    sizes = sizes_limited _ k.columns_range.each;
  };
  rows = λ p k. record {
    few = k.rows_range.few;
    content_size = limited _ k.container_range.content_height;
    padding_start = limited _ k.container_range.padding_sides.top_side;
    border_start = limited _ k.container_range.border_sides.top_side;
    sizes = sizes_limited _ k.rows_range.each;
  };
}
