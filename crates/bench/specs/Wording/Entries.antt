-- How the promise of writing entries speaks.
use Rattle.std.specs.Prelude.{List, ℕ, ◌+◌, length}
use Rattle.std.specs.List.{flat_map, sum_by}
use Rattle.std.proofs.Common.{Bor}
use Rattle.gap.specs.Rules.Fields.{entry}

-- Words and numbers as entries, one behind the other, and the most room that these can take.
abbrev pub entries_of : List (Bor (List ℕ) × ℕ) → List ℕ
entries_of entries = flat_map (λ e. entry e.0.now e.1) entries

abbrev pub room_of : List (Bor (List ℕ) × ℕ) → ℕ
room_of entries = sum_by (λ e. length e.0.now + 21) entries
