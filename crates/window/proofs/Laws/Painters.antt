-- Laws of a painter's steps: the screen that it holds and its window stay the same.
use mathlib.Core.Path.{◌≡◌, refl, sym, ap, ◌∙◌}
use Rattle.window.specs.declared.painter.Painter.{Painter}
use Rattle.window.specs.Wording.Painter.{Sheet, sheet_of, with_sheet}

-- A painter after some steps: it is the first one but for its sheet.
pub record After (first t : Painter) : Type 0 where
  pub same : t ≡ with_sheet first (sheet_of t)

pub after-none : (t : Painter) → After t t
after-none t = record { same = refl }

module _ {first t : Painter} (so_far : After first t) where
  pub same-frame : t.frame ≡ first.frame
  same-frame = ap (λ q. q.frame) so_far.same

  pub after-step : {u : Painter} {p : Sheet} → u ≡ with_sheet t p → After first u
  after-step {u} {p} step =
      record { same = step ∙ ap (λ q. with_sheet q p) so_far.same ∙ ap (λ q. with_sheet first (sheet_of q)) (sym step) }

  -- The steps together are one.
  pub after-all : {p : Sheet} → sheet_of t ≡ p → t ≡ with_sheet first p
  after-all e = so_far.same ∙ ap (with_sheet first) e
