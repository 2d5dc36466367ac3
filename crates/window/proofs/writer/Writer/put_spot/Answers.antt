-- `Writer::put_spot` writes ESC `[`, a number, `;`, a number and `H`, one behind the other.
use mathlib.Core.Path.{◌≡◌, ap, ◌∙◌}
use mathlib.Core.List.{List, [], ◌∷◌, ◌++◌, append_assoc}
use Prim.Native.Nat.{ℕ, ◌+◌, ◌≤◌}
use native.Mathlib.Omega.{arith}
use lib.ListN.{length, length-append}
use Rattle.gap.specs.Rules.Decimal.{decimal}
use Rattle.window.specs.Rules.Sequences.{sent_spot}
use Rattle.window.specs.declared.writer.Writer.{Writer}
use Rattle.window.specs.Wording.Writing.{filled}
use Rattle.window.proofs.Laws.Sequences.{length-spot}
use Rattle.window.proofs.Laws.Writer.{Filled, filled-none, room-behind, filled-more}
use Rattle.window.proofs.writer.Writer.put_spot.Goals as goal

-- What is written up to each step, that it fits, and that the writer is filled with it then.
module _ (t : Writer) (row column : ℕ) (room : t.at + length (sent_spot row column) ≤ length t.out.now) where
  abbrev to_row : List ℕ
  to_row = (27 ∷ 91 ∷ []) ++ decimal row

  abbrev to_column : List ℕ
  to_column = (to_row ++ (59 ∷ [])) ++ decimal column

  fits₂ : t.at + length to_row ≤ length t.out.now
  fits₂ = omega (arith, length-spot row column, length-append (27 ∷ 91 ∷ []) (decimal row))

  fits₃ : t.at + length (to_row ++ (59 ∷ [])) ≤ length t.out.now
  fits₃ = omega (arith, length-spot row column, length-append (27 ∷ 91 ∷ []) (decimal row), length-append to_row (59 ∷ []))

  fits₄ : t.at + length to_column ≤ length t.out.now
  fits₄ =
      omega (
        arith,
        length-spot row column,
        length-append (27 ∷ 91 ∷ []) (decimal row),
        length-append to_row (59 ∷ []),
        length-append (to_row ++ (59 ∷ [])) (decimal column),
      )

  whole : to_column ++ (72 ∷ []) ≡ sent_spot row column
  unfolding sent_spot
  whole = simp append_assoc

  fits₅ : t.at + length (to_column ++ (72 ∷ [])) ≤ length t.out.now
  fits₅ =
      omega (
        arith,
        length-spot row column,
        length-append (27 ∷ 91 ∷ []) (decimal row),
        length-append to_row (59 ∷ []),
        length-append (to_row ++ (59 ∷ [])) (decimal column),
        length-append to_column (72 ∷ []),
      )

  step₁ : {u : Writer} → u ≡ filled t (27 ∷ 91 ∷ []) → Filled t (27 ∷ 91 ∷ []) u
  step₁ e = filled-more (filled-none t (omega arith)) (27 ∷ 91 ∷ []) (omega (arith, length-spot row column)) e

pub returns : goal.returns
returns c =
    let t = c.args.self.now in
    let first = step₁ t c.args.row c.args.column c.requires c.put.ensures in
    let second = filled-more first _ (fits₂ t c.args.row c.args.column c.requires) c.put_number.ensures in
    let third = filled-more second _ (fits₃ t c.args.row c.args.column c.requires) c.put-2.ensures in
    let fourth = filled-more third _ (fits₄ t c.args.row c.args.column c.requires) c.put_number-2.ensures in
    let fifth = filled-more fourth _ (fits₅ t c.args.row c.args.column c.requires) c.put-3.ensures in
    fifth.same ∙ ap (filled t) (whole t c.args.row c.args.column c.requires)

pub put-requires : goal.put-requires
put-requires c = omega (arith, length-spot c.args.row c.args.column)

pub put_number-requires : goal.put_number-requires
put_number-requires c =
    let t = c.args.self.now in
    room-behind (step₁ t c.args.row c.args.column c.requires c.put.ensures) _ (fits₂ t c.args.row c.args.column c.requires)

pub put-requires-2 : goal.put-requires-2
put-requires-2 c =
    let t = c.args.self.now in
    let first = step₁ t c.args.row c.args.column c.requires c.put.ensures in
    let second = filled-more first _ (fits₂ t c.args.row c.args.column c.requires) c.put_number.ensures in
    room-behind second _ (fits₃ t c.args.row c.args.column c.requires)

pub put_number-requires-2 : goal.put_number-requires-2
put_number-requires-2 c =
    let t = c.args.self.now in
    let first = step₁ t c.args.row c.args.column c.requires c.put.ensures in
    let second = filled-more first _ (fits₂ t c.args.row c.args.column c.requires) c.put_number.ensures in
    let third = filled-more second _ (fits₃ t c.args.row c.args.column c.requires) c.put-2.ensures in
    room-behind third _ (fits₄ t c.args.row c.args.column c.requires)

pub put-requires-3 : goal.put-requires-3
put-requires-3 c =
    let t = c.args.self.now in
    let first = step₁ t c.args.row c.args.column c.requires c.put.ensures in
    let second = filled-more first _ (fits₂ t c.args.row c.args.column c.requires) c.put_number.ensures in
    let third = filled-more second _ (fits₃ t c.args.row c.args.column c.requires) c.put-2.ensures in
    let fourth = filled-more third _ (fits₄ t c.args.row c.args.column c.requires) c.put_number-2.ensures in
    room-behind fourth _ (fits₅ t c.args.row c.args.column c.requires)
