-- Laws of spots: which are visible, where the policy puts the offsets, and the spot of the virtual text's cursor.
use mathlib.Core.Path.{◌≡◌, refl}
use mathlib.Core.List.{List, ◌∷◌, ◌++◌}
use Prim.Native.Nat.{ℕ, suc, ◌+◌, ◌≤◌}
use native.Mathlib.Nat.{zero-mul}
use native.Mathlib.Numerals.{add-one}
use native.Mathlib.Omega.{arith}
use lib.ListN.{take}
use lib.Seq.{take-take}
use Rattle.gap.specs.Rules.Sequence.{part}
use Rattle.gap.specs.Rules.Doc.{Doc}
use Rattle.gap.specs.Rules.Lines.{newline, newlines, since_after, since}
use Rattle.gap.specs.Rules.Layout.{ungap}
use Rattle.gap.proofs.Laws.Lines.{newlines-append, since-append}
use Rattle.editor.specs.Rules.Bytes.{quarter_of}
use Rattle.window.specs.Words.{Lengths, Main, Quoted, Frame}
use Rattle.window.specs.declared.Spot.{Spot}
use Rattle.window.specs.Rules.Window.{virtual_in, visible, policy}
use Rattle.window.specs.Wording.Calls.{spot_in, visible_at, policy_at, virtual_held_in}

-- At a document's own spot, visibility and policy are those of the definitions.
pub visible-spot : (f : Frame) (d : Doc) → visible_at f (spot_in d) ≡ visible f d
unfolding visible
visible-spot f d = refl

pub policy-spot : (f : Frame) (d : Doc) → policy_at f (spot_in d) ≡ policy f d
unfolding policy
policy-spot f d = refl

-- Rows and columns of what stands left of the cursor in a quotation: of the document's text l, and of the quotation's text q behind
-- its line break and its mark.
module _ (l q : List ℕ) where
  pub quoted-row : suc (newlines (l ++ (newline ∷ 62 ∷ q))) ≡ newlines l + newlines q + 2
  unfolding newlines
  quoted-row = omega (arith, newlines-append l (newline ∷ 62 ∷ q))

  pub quoted-column : since (l ++ (newline ∷ 62 ∷ q)) ≡ since_after 1 q
  unfolding since_after
  quoted-column = since-append 0 l (newline ∷ 62 ∷ q)

-- The quotation's quarter is the front of the side store.
pub first-quarter : (size : ℕ) (side : List ℕ) → quarter_of size 0 side ≡ take size side
unfolding part
first-quarter size side = rw zero-mul

-- The spot of the virtual text's cursor, counted in the stores.
module _ (Q : ℕ) (n : Lengths) (text side : List ℕ) where
  pub main-spot : {above column : ℕ} → n.mode ≡ Main → above ≡ newlines (take n.main.l text)
      → column ≡ since (take n.main.l text)
      → ◌≡◌ {A = Spot} (record { row = above + 1; column = column }) (spot_in (virtual_held_in Q n text side))
  unfolding virtual_in ungap
  main-spot mode rows columns = rw (mode, rows, columns, add-one)

  pub quoted-spot : {above within column : ℕ} → n.quoted.l ≤ Q → n.mode ≡ Quoted
      → above ≡ newlines (take n.main.l text) → within ≡ newlines (take n.quoted.l side)
      → column ≡ since_after 1 (take n.quoted.l side)
      → ◌≡◌ {A = Spot} (record { row = above + within + 2; column = column }) (spot_in (virtual_held_in Q n text side))
  unfolding virtual_in ungap
  quoted-spot fits mode above within columns =
      rw (mode, above, within, columns, first-quarter, take-take n.quoted.l Q side fits, quoted-row, quoted-column)
