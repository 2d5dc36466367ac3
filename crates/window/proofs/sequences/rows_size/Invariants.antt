-- `rows_size` adds the sizes of the named rows, one a turn: before turn i, those of the first i.
use mathlib.Core.Path.{◌≡◌}
use Prim.Native.Nat.{◌≤◌}
use Rattle.window.specs.Wording.Writing.{rows_size}
use Rattle.window.proofs.sequences.rows_size.Given as goal

abbrev pub invariant-loop-i : goal.invariant-loop-i
invariant-loop-i l = (l.i ≤ l.i-end) × (l.size ≡ rows_size l.w l.i l.fn.u.first)
