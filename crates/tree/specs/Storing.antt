-- Storing is local.
use Rattle.std.specs.Prelude.{◌≡◌, ℕ, true, false, Ok, ◌≢◌}
use Rattle.tree.specs.declared.layout.Layout.{Layout}
use Rattle.tree.specs.Meaning.{Meaning, stores, reads, with_stored}

-- What is stored for a known node is accepted and read back there, every other node reads as it did, and nothing else changes.
pub record Storing (m : Meaning) (n : ℕ) (l : Layout) : Type 0 where
  pub accepted : m.means.has n ≡ true → stores m.means n ≡ Ok tt
  pub read_back : m.means.has n ≡ true → reads (with_stored m n l) n ≡ Ok l
  pub others_stay : (k : ℕ) → k ≢ n → reads (with_stored m n l) k ≡ reads m k
  pub means_stay : (with_stored m n l).means ≡ m.means
  pub unknown_stays : m.means.has n ≡ false → with_stored m n l ≡ m
