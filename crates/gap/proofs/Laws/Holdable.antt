-- Laws of what a store can hold: every change of a document keeps it, as long as the finished text fits.
use mathlib.Core.Path.{◌≡◌, refl}
use mathlib.Core.Bool.{true}
use mathlib.Core.List.{List, [], ◌++◌}
use Prim.Native.Nat.{ℕ, ◌+◌, ◌-◌, ◌≤◌}
use native.Mathlib.Omega.{arith}
use lib.ListN.{length, take, drop, length-append, length-take, length-drop}
use Rattle.gap.specs.Words.{Direction, Left, Right}
use Rattle.gap.specs.Rules.Sequence.{every}
use Rattle.gap.specs.Rules.Doc.{Doc, empty, content, move, delete, times, passed, splice, removed}
use Rattle.gap.specs.Rules.Layout.{allowed, Holdable}
use Rattle.gap.proofs.Laws.Sequence.{every-both, every-left, every-right, every_take, every_drop}
use Rattle.gap.proofs.Laws.Doc.{deletions-left, deletions-right, content-moves}

pub empty-holdable : (size : ℕ) → Holdable size empty
unfolding every
empty-holdable size = record { fits = omega arith; bytes = refl }

-- What can be held is a matter of the content: where the cursor stands does not count.
holdable : (size : ℕ) (d : Doc) → length (content d) ≤ size → every allowed (content d) ≡ true → Holdable size d
holdable size d fits bytes = record { fits = omega (arith, length-append d.l d.r); bytes = bytes }

pub content-fits : (size : ℕ) (d : Doc) → Holdable size d → length (content d) ≤ size
content-fits size d h = omega (arith, length-append d.l d.r, h.fits)

-- How long a text is after one change around its cursor.
pub length-splice : (a b : ℕ) (x d : Doc)
    → length (content (splice a b x d)) ≡ (length d.l - a) + length x.l + (length x.r + (length d.r - b))
unfolding splice
length-splice a b x d = simp (length-append, length-take, length-drop) (omega arith)

-- A change that puts allowed bytes in keeps the bytes allowed.
allowed-splice : (a b : ℕ) (x d : Doc) → every allowed (content x) ≡ true → every allowed (content d) ≡ true
    → every allowed (content (splice a b x d)) ≡ true
unfolding splice
allowed-splice a b x d new old =
    every-both allowed (take (length d.l - a) d.l ++ x.l) (x.r ++ drop b d.r)
    (every-both allowed (take (length d.l - a) d.l) x.l
    (every_take allowed (length d.l - a) d.l (every-left allowed d.l d.r old))
    (every-left allowed x.l x.r new))
    (every-both allowed x.r (drop b d.r)
    (every-right allowed x.l x.r new)
    (every_drop allowed b d.r (every-right allowed d.l d.r old)))

-- A change keeps what can be held if the finished text fits.
pub splice-holdable : (size a b : ℕ) (x d : Doc) → every allowed (content x) ≡ true → Holdable size d
    → length (content (splice a b x d)) ≤ size → Holdable size (splice a b x d)
splice-holdable size a b x d new h fits =
    holdable size (splice a b x d) fits (allowed-splice a b x d new h.bytes)

-- Taking away always fits.
less-holdable : (size a b : ℕ) (d : Doc) → Holdable size d → Holdable size (splice a b empty d)
unfolding every
less-holdable size a b d h =
    splice-holdable size a b empty d refl h (omega (arith, length-splice a b empty d, h.fits))

pub deletions-holdable : (size n : ℕ) (way : Direction) (d : Doc) → Holdable size d → Holdable size (times (delete way) n d)
deletions-holdable size n Left d h = rw deletions-left (less-holdable size n 0 d h)
deletions-holdable size n Right d h = rw deletions-right (less-holdable size 0 n d h)

pub moves-holdable : (size n : ℕ) (way : Direction) (d : Doc) → Holdable size d → Holdable size (times (move way) n d)
moves-holdable size n way d h =
    holdable size (times (move way) n d) (rw content-moves (content-fits size d h)) (rw content-moves h.bytes)

-- A text left of the cursor alone, or right of it alone.
pub left-holdable : (size : ℕ) (s : List ℕ) → length s ≤ size → every allowed s ≡ true → Holdable size (record { l = s; r = [] })
unfolding every
left-holdable size s fits bytes = record { fits = omega arith; bytes = every-both allowed s [] bytes refl }

pub right-holdable : (size : ℕ) (s : List ℕ) → length s ≤ size → every allowed s ≡ true → Holdable size (record { l = []; r = s })
right-holdable size s fits bytes = record { fits = omega arith; bytes = bytes }

-- What a deletion removes is part of the text.
pub removed-holdable : (size n : ℕ) (way : Direction) (d : Doc) → Holdable size d → Holdable size (removed way n d)
unfolding removed passed
removed-holdable size n Left d h =
    left-holdable size (drop (length d.l - n) d.l) (simp length-drop (omega (arith, h.fits)))
    (every_drop allowed (length d.l - n) d.l (every-left allowed d.l d.r h.bytes))
removed-holdable size n Right d h =
    right-holdable size (take n d.r) (simp length-take (omega (arith, h.fits)))
    (every_take allowed n d.r (every-right allowed d.l d.r h.bytes))
