-- 001's PLACE THEOREM (section 1.3) in its true form: the start has to be such a place. The form without that, as 001 prints it, is
-- refuted below.
use Rattle.std.proofs.Common.{Option, Some, None}
use mathlib.Core.Path.{◌≡◌, refl, sym, ap, ◌∙◌}
use mathlib.Core.Logic.{◌↔◌}
use mathlib.Core.Bool.{Bool, true}
use mathlib.Core.List.{[], ◌∷◌, append-nil}
use Prim.Native.Nat.{ℕ, ◌+◌, ◌-◌, ◌≤◌}
use native.Mathlib.Omega.{arith}
use lib.Dec.{eqb}
use lib.ListN.{length-take, length-drop}
use Rattle.gap.specs.declared.Direction.{Direction}
use Rattle.gap.specs.declared.Direction.TheVariants.{Left, Right}
use Rattle.gap.specs.Rules.Doc.{Doc, content, room, move, delete, times, splice}
use Rattle.gap.specs.Rules.Nearest.{nearest, distance, LeastMoves}
use Rattle.gap.specs.Rules.Lines.{newline, since, since_after}
use Rattle.gap.proofs.Laws.Doc.{opposite, times-add, room-moves, room-behind, content-moves, moves-back}
use Rattle.gap.proofs.Laws.Doc.{deletions-behind, deletions-left, deletions-right}
use Rattle.gap.proofs.Theorems.Distance.{distance_least}

-- 001's `to`: as many single actions as the distance is. Where no such place is reachable, the document stays.
abbrev pub repeated : (Doc → Doc) → Option ℕ → Doc → Doc
repeated action (Some n) d = times action n d
repeated action None d = d

abbrev pub to : (Direction → Doc → Doc) → Direction → (Doc → Bool) → Doc → Doc
to action way place d = repeated (action way) (distance way place d) d

-- Whatever the place, n moves are undone by n moves back, and n deletions are n moves and n deletions back, where there is room
-- (moves-back and deletions-behind of Laws/Doc). Here m of n moves are taken back.
partly-back : (way : Direction) (m n : ℕ) (d : Doc) → m ≤ n → n ≤ room way d
    → times (move (opposite way)) m (times (move way) n d) ≡ times (move way) (n - m) d
partly-back way m n d fewer fits =
    let parts : n ≡ (n - m) + m = omega arith in
    let rest : m ≤ room way (times (move way) (n - m) d) = omega (arith, room-moves way (n - m) d) in
    ap (λ k. times (move (opposite way)) m (times (move way) k d)) parts
    ∙ ap (times (move (opposite way)) m) (times-add (move way) (n - m) m d)
    ∙ moves-back way m (times (move way) (n - m) d) rest

-- n deletions take n from the room in their direction, and leave the other side as it is.
room-deleted : (way : Direction) (n : ℕ) (d : Doc) → room way (times (delete way) n d) ≡ room way d - n
unfolding splice
room-deleted Left n d = rw deletions-left (simp (append-nil, length-take) (omega arith))
room-deleted Right n d = rw deletions-right (length-drop n d.r)

room-kept : (way : Direction) (n : ℕ) (d : Doc) → room (opposite way) (times (delete way) n d) ≡ room (opposite way) d
unfolding splice
room-kept Left n d = rw deletions-left
room-kept Right n d = rw deletions-right (simp (append-nil, length-take) (omega arith))

reached : (action : Direction → Doc → Doc) (way : Direction) (place : Doc → Bool) (d : Doc) (n : ℕ)
    → distance way place d ≡ Some n → to action way place d ≡ times (action way) n d
reached action way place d n e = ap (λ s. repeated (action way) s d) e

-- For a document from which the place can be reached, in n moves.
module _ (way : Direction) (place : Doc → Bool) (d : Doc) (n : ℕ) (there : distance way place d ≡ Some n) where
  least : LeastMoves way place d n
  least = (distance_least way place d n).0 there

  gone : to move way place d ≡ times (move way) n d
  gone = reached move way place d n there

  -- The distance back is the distance there, if the start is such a place.
  pub distance_back : place d ≡ true → distance (opposite way) place (times (move way) n d) ≡ Some n
  distance_back start =
      (distance_least (opposite way) place (times (move way) n d) n).1 (record {
        above = least.above;
        within = omega (arith, room-behind way n d least.within);
        reaches = ap place (moves-back way n d least.within) ∙ start;
        smaller = λ m above below.
            ap place (partly-back way m n d (omega arith) least.within) ∙ least.smaller (n - m) (omega arith) (omega arith);
      })

  -- Going there and back leads to the start if the start is such a place, and only then.
  pub there_and_back : (to move (opposite way) place (to move way place d) ≡ d) ↔ (place d ≡ true)
  there_and_back = (λ e. only_if _ refl (sym (ap (to move (opposite way) place) gone) ∙ e), if)
    where
      if : place d ≡ true → to move (opposite way) place (to move way place d) ≡ d
      if start =
          ap (to move (opposite way) place) gone
          ∙ reached move (opposite way) place (times (move way) n d) n (distance_back start)
          ∙ moves-back way n d least.within

      only_if : (s : Option ℕ) → distance (opposite way) place (times (move way) n d) ≡ s
          → repeated (move (opposite way)) s (times (move way) n d) ≡ d → place d ≡ true
      only_if (Some m) back e = ap place (sym e) ∙ ((distance_least (opposite way) place (times (move way) n d) m).0 back).reaches
      only_if None back e = absurd (omega (arith, ap (room way) e, room-moves way n d, least.above, least.within))

  -- Going there and deleting back to the nearest such place is deleting that far if the start is such a place, and only then.
  pub deletion-back : (to delete (opposite way) place (to move way place d) ≡ to delete way place d) ↔ (place d ≡ true)
  deletion-back = (λ e. only_if _ refl (sym (ap (to delete (opposite way) place) gone) ∙ e ∙ away), if)
    where
      away : to delete way place d ≡ times (delete way) n d
      away = reached delete way place d n there

      if : place d ≡ true → to delete (opposite way) place (to move way place d) ≡ to delete way place d
      if start =
          ap (to delete (opposite way) place) gone
          ∙ reached delete (opposite way) place (times (move way) n d) n (distance_back start)
          ∙ deletions-behind way n d least.within
          ∙ sym away

      -- As many bytes are gone on either way, so the way back has n steps.
      only_if : (s : Option ℕ) → distance (opposite way) place (times (move way) n d) ≡ s
          → repeated (delete (opposite way)) s (times (move way) n d) ≡ times (delete way) n d → place d ≡ true
      only_if (Some m) back e =
          let there-again = (distance_least (opposite way) place (times (move way) n d) m).0 back in
          let behind = room-behind way n d least.within in
          let as_many : m ≡ n =
          omega (arith, ap (room (opposite way)) e, room-deleted (opposite way) m (times (move way) n d), room-kept way n d, there-again.within) in
          ap place (sym (moves-back way n d least.within) ∙ ap (λ k. times (move (opposite way)) k (times (move way) n d)) (sym as_many))
          ∙ there-again.reaches
      only_if None back e =
          absurd (omega (arith, ap (room (opposite way)) e, room-behind way n d least.within, room-kept way n d, least.above))

-- Going to a place keeps the content.
pub content-to : (way : Direction) (place : Doc → Bool) (d : Doc) → content (to move way place d) ≡ content d
content-to way place d = kept (distance way place d)
  where
    kept : (s : Option ℕ) → content (repeated (move way) s d) ≡ content d
    kept (Some n) = content-moves way n d
    kept None = refl

-- The counterexample. A line beginning has nothing or a newline on the left; a|b↵ stands inside a line.
abbrev pub line_beginning : Doc → Bool
line_beginning d = eqb (since d.l) 0

abbrev pub inside_line : Doc
inside_line = record { l = 97 ∷ []; r = 98 ∷ newline ∷ [] }

-- To the right there is a line beginning after 2 moves; back from there the nearest is 3 moves away.
pub two-there : distance Right line_beginning inside_line ≡ Some 2
unfolding distance nearest times move since_after
two-there = refl

pub three_back : distance Left line_beginning (times (move Right) 2 inside_line) ≡ Some 3
unfolding distance nearest times move since_after
three_back = refl

-- So what 001 prints, which asks nothing of the start, does not hold: neither for moves nor for deletions.
pub printed-moves-fail : ¬ ((way : Direction) (place : Doc → Bool) (d : Doc) (n : ℕ) → distance way place d ≡ Some n
    → to move (opposite way) place (to move way place d) ≡ d)
unfolding distance nearest times move since_after
printed-moves-fail claim = omega (arith, ap (room Left) (claim Right line_beginning inside_line 2 two-there))

pub printed-deletions-fail : ¬ ((way : Direction) (place : Doc → Bool) (d : Doc) (n : ℕ) → distance way place d ≡ Some n
    → to delete (opposite way) place (to move way place d) ≡ to delete way place d)
unfolding distance nearest times move delete since_after
printed-deletions-fail claim = omega (arith, ap (room Left) (claim Right line_beginning inside_line 2 two-there))
