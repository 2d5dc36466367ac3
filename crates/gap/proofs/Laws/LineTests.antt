-- The tests for longer lines as code runs them, part by part: of two runs put into a text, and of the document in a gap store.
use mathlib.Core.Path.{◌≡◌, refl, sym, ap, ap₂, ◌∙◌}
use mathlib.Core.Bool.{Bool, true, false, ◌&&◌}
use mathlib.Core.List.{List, ◌++◌}
use Prim.Native.Nat.{ℕ, ◌+◌, ◌-◌, ◌≤◌}
use lib.Dec.{leb}
use lib.ListN.{length, take, drop}
use Rattle.std.proofs.lemmas.Bool.{and_left}
use Rattle.gap.specs.Rules.Doc.{content}
use Rattle.gap.specs.Rules.Layout.{ungap, sound_gap}
use Rattle.gap.specs.Rules.Lines.{since_after, since}
use Rattle.gap.specs.Rules.Fields.{line_of}
use Rattle.gap.specs.Rules.LineLimits.{lines_fit}
use Rattle.gap.specs.Wording.LinesAfter.{lines_fit_after}
use Rattle.gap.proofs.Laws.Runs.{tail_of, tail-lent}
use Rattle.gap.proofs.Laws.Layout.{is-gap}
use Rattle.gap.proofs.Laws.LineLimits.{after_nothing, fit_append, fit-runs}

passes-here : (ok rest : Bool) → ok ≡ true → rest ≡ (ok && rest)
passes-here ok rest passes = sym (ap (λ t. t && rest) passes)

-- Each run is tested with what the line before it has come to; the line behind them is tested last.
module _ (limit : ℕ) (front x y behind : List ℕ) (fits : (lines_fit limit front ≡ true) × (lines_fit limit behind ≡ true)) where
  runs_as : {at_x at_y at : ℕ} {ok-x ok-y ok : Bool} → at_x ≡ since front → ok-x ≡ lines_fit_after limit at_x x
      → at_y ≡ since_after at_x x → ok-y ≡ lines_fit_after limit at_y y
      → at ≡ since_after at_y y → ok ≡ leb (at + length (line_of behind)) limit
      → (ok-x && (ok-y && ok)) ≡ lines_fit limit (front ++ (x ++ (y ++ behind)))
  runs_as p tested-x q tested-y e tested =
      rw (tested, e, tested-y, q, tested-x, p) (sym (fit-runs limit front x y behind fits.0 fits.1))

  module _ {at_x : ℕ} {ok-x : Bool} (p : at_x ≡ since front) (tested-x : ok-x ≡ lines_fit_after limit at_x x) where
    pub runs-first : ok-x ≡ false → false ≡ lines_fit limit (front ++ (x ++ (y ++ behind)))
    runs-first fails = sym (and_left ok-x _ fails) ∙ runs_as p tested-x refl refl refl refl

    module _ (passes-x : ok-x ≡ true) {at_y : ℕ} {ok-y : Bool} (q : at_y ≡ since_after at_x x) (tested-y : ok-y ≡ lines_fit_after limit at_y y) where
      pub runs-second : ok-y ≡ false → false ≡ lines_fit limit (front ++ (x ++ (y ++ behind)))
      runs-second fails = sym (and_left ok-y _ fails) ∙ passes-here ok-x _ passes-x ∙ runs_as p tested-x q tested-y refl refl

      pub runs_last : ok-y ≡ true → {at : ℕ} {ok : Bool} → at ≡ since_after at_y y → ok ≡ leb (at + length (line_of behind)) limit
          → ok ≡ lines_fit limit (front ++ (x ++ (y ++ behind)))
      runs_last passes e tested = passes-here ok-y _ passes ∙ passes-here ok-x _ passes-x ∙ runs_as p tested-x q tested-y e tested

-- The lengths of a store that has passed its test fit.
pub document-fits : (l r : ℕ) (s : List ℕ) {sound : Bool} → sound ≡ sound_gap l r s → sound ≡ true → l + r ≤ length s
document-fits l r s {sound} tested passes = (is-gap l r s (sym tested ∙ passes)).fits

-- The lines of a sound store are looked at in the text at the front, and then in the one at the back.
module _ (limit l r : ℕ) (s : List ℕ) {sound : Bool} (tested : sound ≡ sound_gap l r s) where
  module _ (passes : sound ≡ true) {ok-l : Bool} (tested-l : ok-l ≡ lines_fit_after limit 0 (take l s)) where
    whole : {ok-r : Bool} → ok-r ≡ lines_fit_after limit (since (take l s)) (drop (length s - r) s)
        → (sound && (ok-l && ok-r)) ≡ (sound_gap l r s && lines_fit limit (content (ungap l r s)))
    unfolding ungap
    whole tested-r =
        ap₂ ◌&&◌ tested
        (ap₂ ◌&&◌ (tested-l ∙ after_nothing limit (take l s)) tested-r ∙ sym (fit_append limit (take l s) (drop (length s - r) s)))

    pub document-left : ok-l ≡ false → false ≡ (sound_gap l r s && lines_fit limit (content (ungap l r s)))
    document-left fails = sym (and_left ok-l _ fails) ∙ passes-here sound _ passes ∙ whole refl

    pub document-right : ok-l ≡ true → {at start : ℕ} {ok-r : Bool} → at ≡ since (take l s) → start ≡ length s - r
        → ok-r ≡ lines_fit_after limit at (tail_of start s)
        → ok-r ≡ (sound_gap l r s && lines_fit limit (content (ungap l r s)))
    document-right passes-l {at} {start} e place tested-r =
        let same : lines_fit_after limit at (tail_of start s) ≡ lines_fit_after limit (since (take l s)) (drop (length s - r) s) =
        ap₂ (lines_fit_after limit) e (tail-lent start s ∙ ap (λ k. drop k s) place) in
        passes-here ok-l _ passes-l ∙ passes-here sound _ passes ∙ whole (tested-r ∙ same)
