-- The mark, and how it goes through a change of the document. (02, M-101: the mark.)
use Rattle.std.specs.Prelude.{Bool, true, cond, ℕ, ◌+◌, ◌-◌, eqb, leb, ltb, length, Option, Some, None}
use Rattle.editor.specs.Words.{Direction, Left, Right}
use Rattle.gap.specs.Rules.Doc.{Doc, empty}

-- From a position on so many bytes are removed, and then so many inserted there. Up to that position the mark stays, so that what is inserted
-- at it goes after it; inside the stretch, with text removed on both sides of it, it is taken away; at the stretch's right end it stays, which is
-- then where the stretch began; behind the stretch it moves by as many bytes. (02, M-101. DECISIONS C7 to C10.)
unfoldable pub mark_through : ℕ → ℕ → ℕ → Option ℕ → Option ℕ
mark_through from gone come None = None
mark_through from gone come (Some m) =
    cond (leb m from) (Some m) (cond (ltb m (from + gone)) None (cond (eqb m (from + gone)) (Some from) (Some (m - gone + come))))

-- A change of the document is one splice: so many bytes before the cursor go and so many behind it, and a pair comes around it.
pub record Change : Type 0 where
  pub before : ℕ
  pub behind : ℕ
  pub put : Doc

abbrev pub unchanged : Change
unchanged = record { before = 0; behind = 0; put = empty }

abbrev pub putting : Doc → Change
putting x = record { before = 0; behind = 0; put = x }

abbrev pub taking : Direction → ℕ → Change
taking Left n = record { before = n; behind = 0; put = empty }
taking Right n = record { before = 0; behind = n; put = empty }

-- The mark through that: the stretch removed ends or begins at the cursor, or lies around it.
abbrev pub mark_changed : Change → Doc → Option ℕ → Option ℕ
mark_changed c d mark =
    mark_through (length d.l - c.before) (c.before + c.behind) (length c.put.l + length c.put.r) mark

-- Which way a mark lies from a cursor with l bytes before it, and how many bytes stand between.
abbrev pub way_to : ℕ → ℕ → Direction
way_to m l = cond (leb m l) Left Right

abbrev pub far_to : ℕ → ℕ → ℕ
far_to m l = cond (leb m l) (l - m) (m - l)

-- A mark within a document of n bytes; both of its ends are positions of it. (DECISIONS C18.)
abbrev pub mark_within : ℕ → Option ℕ → Bool
mark_within n None = true
mark_within n (Some m) = leb m n
