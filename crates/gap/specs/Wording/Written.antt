-- How the promises of writers speak: a run put into a lent store, and the place behind it.
use Rattle.std.specs.Prelude.{◌≡◌, ◌≤◌, List, ℕ, ◌+◌, length}
use Rattle.gap.specs.Rules.Sequence.{patch}

-- The run stands in the store from place `at` on, whatever else the store held is as it was, and `next` is the place behind the run.
pub record Wrote (at : ℕ) (run old : List ℕ) (next : ℕ) (new : List ℕ) : Type 0 where
  pub fits : at + length run ≤ length old
  pub place : next ≡ at + length run
  pub bytes : new ≡ patch at run old
