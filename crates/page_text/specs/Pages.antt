-- A page as it is read: what makes it whole, and the range of its numbers.
use Rattle.std.specs.Prelude.{◌≡◌, ℕ, ◌%◌, ◌≤◌, cond, List, Ok, Err, vec_items, vec_len, codes, Result, OnOk, ◌==◌, ◌≢◌}
use Rattle.page_text.specs.Containers.{container_finished, ContainerInRange}
use Rattle.page_text.specs.WrittenTracks.{TracksInRange, GoesOn}
use Rattle.page_text.specs.declared.page_description.ContainerDescription.{ContainerDescription}
use Rattle.page_text.specs.declared.page_description.PageDescription.{PageDescription}
use Rattle.page_text.specs.declared.read_error.Expected.{Expected}
use Rattle.page_text.specs.declared.read_error.Expected.TheVariants as expected
use Rattle.page_text.specs.declared.read_error.ReadFault.{ReadFault}
use Rattle.page_text.specs.declared.read_error.ReadFault.TheVariants.{Unreadable, OutOfMemory}
use Rattle.page_text.specs.declared.draft.Draft.{Draft}

-- ---- a statement

-- the statement of a line, with the rest of the line, made e of the draft d, and r is the answer: it changes what it names, and no other part
pub record Stated (statement rest : List ℕ) (d e : Draft) (r : Result (Unit {0}) ReadFault) : Type 0 where
  pub container_alone : statement ≡ codes "container" → (e.columns ≡ d.columns) × (e.rows ≡ d.rows)
  pub columns_alone : statement ≡ codes "columns" → (e.container ≡ d.container) × (e.rows ≡ d.rows)
  pub rows_alone : statement ≡ codes "rows" → (e.container ≡ d.container) × (e.columns ≡ d.columns)
  pub columns_go_on : statement ≡ codes "columns" → OnOk r (GoesOn rest (vec_items d.columns) (vec_items e.columns))
  pub rows_go_on : statement ≡ codes "rows" → OnOk r (GoesOn rest (vec_items d.rows) (vec_items e.rows))
  pub nothing_else : statement ≢ codes "container" → statement ≢ codes "columns" → statement ≢ codes "rows" → e ≡ d

-- ---- the end of the description

abbrev pub with_tracks : Draft → Result ContainerDescription Expected → Result PageDescription Expected
with_tracks d (Err e) = Err e
with_tracks d (Ok c) =
    cond (vec_len d.columns == 0) (Err expected.Columns) (
    cond (vec_len d.rows == 0) (Err expected.Rows) (
    cond (vec_len d.columns % 2 == 0) (Err expected.OddColumns) (
    cond (vec_len d.rows % 2 == 0) (Err expected.OddRows) (
    Ok (record { container = c; columns = d.columns; rows = d.rows })))))

-- what is missing, or the page
abbrev pub draft_finished : Draft → Result PageDescription Expected
draft_finished d = with_tracks d (container_finished d.container)

-- ---- ranges

-- a page that was read: every number in range, each axis with a gutter, and then a track and a gutter each
pub record PageInRange (p : PageDescription) : Type 0 where
  pub container_range : ContainerInRange p.container
  pub columns_range : TracksInRange (vec_items p.columns)
  pub rows_range : TracksInRange (vec_items p.rows)
  pub odd_columns : vec_len p.columns % 2 ≡ 1
  pub odd_rows : vec_len p.rows % 2 ≡ 1

-- ---- refusals

-- an unreadable page is refused at a line
abbrev pub AtLine : ℕ → ReadFault → Type 0
AtLine line (Unreadable e) = e.line ≡ line
AtLine line OutOfMemory = Unit {0}

-- lines are counted from 1
abbrev pub AtSomeLine : ReadFault → Type 0
AtSomeLine (Unreadable e) = 1 ≤ e.line
AtSomeLine OutOfMemory = Unit {0}
