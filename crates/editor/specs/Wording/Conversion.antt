-- How the promise of the conversion speaks: each quarter is put into a longer one.
use Rattle.std.specs.Prelude.{List, ◌++◌, ℕ, ◌-◌, length}
use Rattle.gap.specs.Rules.Sequence.{patch, zeros}
use Rattle.gap.specs.Rules.Doc.{Doc}
use Rattle.gap.specs.Rules.Layout.{gapped, ungap}
use Rattle.editor.specs.Rules.Bytes.{quarter_of}

-- Two texts put at the two ends of a store's first Q bytes; the rest stays.
abbrev pub spread : ℕ → Doc → List ℕ → List ℕ
spread Q d side = patch (Q - length d.r) d.r (patch 0 d.l side)

-- A pair store in a longer one: its bytes, and zeros behind them.
abbrev pub longer : ℕ → List ℕ → List ℕ
longer Q s = s ++ zeros (Q - length s)

-- The four quarters: the quotation's text goes to the two ends of its quarter, the others keep their place at the front.
abbrev pub lengthened : (O Q l r : ℕ) → List ℕ → List ℕ
lengthened O Q l r side =
    gapped Q (ungap l r (quarter_of O 0 side))
    ++ (longer Q (quarter_of O 1 side) ++ (longer Q (quarter_of O 2 side) ++ longer Q (quarter_of O 3 side)))
