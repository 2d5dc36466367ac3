-- How the promise of a search in the constant table speaks.
use Rattle.std.specs.Prelude.{List, ℕ, nat_eq}
use Rattle.std.proofs.Common.{Bor}
use Rattle.std.specs.List.{find}
use Rattle.std.specs.Option.{option_map}
use Rattle.std.specs.Cmp.Lexicographic.{pointwise}
use Rattle.bench.specs.Words.{Option, Key}

-- The key of the first row that has the name.
unfoldable pub key_in : List ℕ → List (Bor (List ℕ) × Key) → Option Key
key_in name rows = option_map (λ row. row.1) (find (λ row. pointwise nat_eq name row.0.now) rows)
