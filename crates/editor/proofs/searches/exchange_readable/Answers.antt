-- `exchange_readable` looks at four runs: what stands before the cursor, the two halves of what is put in, and what stands behind the pattern.
use mathlib.Core.Path.{sym, ◌∙◌}
use native.Mathlib.Omega.{arith}
use Rattle.gap.specs.Wording.Views.{seen}
use Rattle.editor.specs.Rules.LongLines.{longest_line}
use Rattle.editor.specs.Rules.Bytes.{quarter, plain_of}
use Rattle.editor.proofs.Laws.Fitting.{fitting}
use Rattle.editor.proofs.Laws.ReplaceLines.{pattern-inside, sides_fit, readable-unmatched, runs-small, readable-matched}
use Rattle.editor.proofs.searches.exchange_readable.Goals as goal

pub returns-then-not-here : goal.returns-then-not-here
unfolding plain_of
returns-then-not-here c = λ text recall held sound is. readable-unmatched _ _ sound _ is (sym c.requires.5 ∙ c.if-not-here.true)

pub replacing-put-requires : goal.replacing-put-requires
replacing-put-requires c = let fit = fitting quarter _ _ c.requires.3 in record { side_len = fit.side; fits = (fit.replacement, fit.quotation) }

pub slice_bounds-runs_fit-count : goal.slice_bounds-runs_fit-count
unfolding seen
slice_bounds-runs_fit-count c = pattern-inside _ _ c.requires.3 _ c.requires.4 (sym c.requires.5 ∙ c.if-not-here.false)

pub slice_bounds-runs_fit-start : goal.slice_bounds-runs_fit-start
unfolding seen
slice_bounds-runs_fit-start c = pattern-inside _ _ c.requires.3 _ c.requires.4 (sym c.requires.5 ∙ c.if-not-here.false)

pub runs_fit-requires : goal.runs_fit-requires
unfolding seen longest_line
runs_fit-requires c =
    record {
      front_value = sides_fit _ _ c.requires.3 _ c.requires.4;
      y_len_bound = omega (arith, runs-small _ _ c.requires.3 _ c.requires.4 c.replacing-put.ensures);
    }

pub returns : goal.returns
unfolding seen longest_line plain_of
returns c =
    λ text recall held sound is. c.runs_fit.ensures
    ∙ readable-matched _ _ sound _ is c.replacing-put.ensures (sym c.requires.5 ∙ c.if-not-here.false)
