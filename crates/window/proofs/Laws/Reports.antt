-- What a key reports, and the text that it leaves: by the side on which it acts and by what its search answers.
use Rattle.std.proofs.Common.{Option, Some, None}
use mathlib.Core.Path.{◌≡◌, refl, sym, ap, ◌∙◌}
use mathlib.Core.Logic.{◌↔◌}
use mathlib.Core.Bool.{Bool, true, false, cond, false≢true}
use mathlib.Core.List.{append-nil}
use Prim.Native.Nat.{ℕ, suc, ◌-◌, ◌≤◌}
use native.Mathlib.Nat.{sub-zero}
use native.Mathlib.Omega.{arith}
use lib.ListN.{length, take, drop_of_length-le}
use lib.Seq.{take-length}
use Rattle.gap.specs.Rules.Doc.{Doc, empty, times, passed, splice}
use Rattle.gap.specs.Rules.Lines.{newlines}
use Rattle.gap.specs.Rules.Nearest.{distance}
use Rattle.gap.proofs.Laws.Doc.{deletions-right}
use Rattle.gap.proofs.Theorems.Distance.{distance_least, distance-nowhere}
use Rattle.editor.specs.Rules.Plain.{Side, Plain, quiet, rang, went, reporting}
use Rattle.editor.specs.Rules.Passages.{lines_passed, with_lines, passage_to}
use Rattle.editor.specs.Rules.Keys.{carried, side_of, with_side, with_pattern, matches, with_replacement, substituted}
use Rattle.editor.specs.declared.Passage.{Passage}
use Rattle.window.specs.Words.{Direction, Left, Right, Action, Move, Delete, Mode, Main, Quoted, Report}
use Rattle.editor.proofs.Theorems.LinesCrossed.{moved-left, moved-right, deleted-left, deleted-right}
use Rattle.window.specs.Rules.Window.{virtual_in, row_of, virtual}
use Rattle.window.specs.Rules.Core.{Called}
use Rattle.window.specs.Wording.Demands.{StepsTo, text_in, pattern_in, singly, Crosses, RowsApart}

-- The text of the side on which the mode acts.
pub side-text : (mode : Mode) (p : Plain) → (side_of mode p).text ≡ text_in mode p
side-text Main p = refl
side-text Quoted p = refl

pub mode-with : (mode : Mode) (side : Side) (p : Plain) → (with_side mode side p).mode ≡ p.mode
mode-with Main side p = refl
mode-with Quoted side p = refl

-- A search is for the pattern that the mode says.
pub sought : (mode : Mode) (p : Plain) → (with_pattern mode p).pattern ≡ pattern_in mode p
unfolding with_pattern
sought Main p = refl
sought Quoted p = refl

pub pattern-mode : (mode : Mode) (p : Plain) → p.mode ≡ mode → (with_pattern mode p).mode ≡ Main
unfolding with_pattern
pattern-mode Main p e = e
pattern-mode Quoted p e = refl

either : (a b : Plain) (test : Bool) → (cond test (reporting quiet a) (reporting rang b)).report ≡ cond test quiet rang
either a b true = refl
either a b false = refl

-- REPLACE looks for the stored pattern in the document, whatever the mode gives as replacement.
pub replaced-told : (mode : Mode) (p : Plain)
    → (substituted (with_replacement mode p)).report ≡ cond (matches p.pattern p.main.text) quiet rang
unfolding substituted with_replacement
replaced-told Main p = either _ _ (matches p.pattern p.main.text)
replaced-told Quoted p = either _ _ (matches p.pattern p.main.text)

-- ---- What a search makes a key report

abbrev pub told : Option Passage → Report
told (Some passage) = went passage.steps passage.lines
told None = rang

module _ (way : Direction) (d : Doc) where
  told-went : (answer : Option ℕ) (n : ℕ) → (told (with_lines way d answer) ≡ went n (lines_passed way n d)) ↔ (answer ≡ Some n)
  unfolding with_lines
  told-went (Some m) n = (λ e. ap (λ report. Some report.steps) e, λ e. ap (λ answer. told (with_lines way d answer)) e)
  told-went None n = (
    λ e. absurd (false≢true (sym (ap (λ report. report.bell) e))),
    λ e. ap (λ answer. told (with_lines way d answer)) e,
  )

  told-rang : (answer : Option ℕ) → (told (with_lines way d answer) ≡ rang) ↔ (answer ≡ None)
  unfolding with_lines
  told-rang (Some m) = (
    λ e. absurd (false≢true (ap (λ report. report.bell) e)),
    λ e. ap (λ answer. told (with_lines way d answer)) e,
  )
  told-rang None = (λ e. refl, λ e. refl)

pub carried-told : (action : Action) (way : Direction) (passage : Option Passage) (s : Side) → (carried action way passage s).report ≡ told passage
unfolding carried
carried-told Move way (Some passage) s = refl
carried-told Move way None s = refl
carried-told Delete way (Some passage) s = refl
carried-told Delete way None s = refl

-- An accepted call that reports so has the distance as its steps.
pub told-steps : (way : Direction) (place : Doc → Bool) (d : Doc) (o : Called) → o.answer.code ≡ 0
    → o.answer.report ≡ told (passage_to way place d) → StepsTo way place d o
unfolding passage_to
told-steps way place d o accepts report =
    record {
      steps = λ n. (
        λ (_, e). (distance_least way place d n).0 ((told-went way d (distance way place d) n).0 (sym report ∙ e)),
        λ least. (accepts, report ∙ (told-went way d (distance way place d) n).1 ((distance_least way place d n).1 least)),
      );
      bell = (
        λ (_, e). (distance-nowhere way place d).0 ((told-rang way d (distance way place d)).0 (sym report ∙ e)),
        λ none. (accepts, report ∙ (told-rang way d (distance way place d)).1 ((distance-nowhere way place d).1 none)),
      );
    }

-- The text that a key on one side leaves is that many single steps away; with the bell none.
pub carried-text : (action : Action) (way : Direction) (passage : Option Passage) (s : Side)
    → (carried action way passage s).state.text ≡ times (singly action way) (carried action way passage s).report.steps s.text
unfolding carried times
carried-text Move way (Some passage) s = refl
carried-text Move way None s = refl
carried-text Delete way (Some passage) s = refl
carried-text Delete way None s = refl

-- ---- Lines

-- With the bell there are no lines, as there are none in 0 steps.
told-lines : (way : Direction) (d : Doc) (answer : Option ℕ)
    → (told (with_lines way d answer)).lines ≡ lines_passed way (told (with_lines way d answer)).steps d
unfolding with_lines passed newlines
told-lines way d (Some n) = refl
told-lines Left d None =
    let whole : length d.l ≤ length d.l - 0 = omega arith in ap newlines (sym (drop_of_length-le d.l whole))
told-lines Right d None = refl

pub reported-lines : (way : Direction) (place : Doc → Bool) (d : Doc) {report : Report} → report ≡ told (passage_to way place d)
    → report.lines ≡ lines_passed way report.steps d
unfolding passage_to
reported-lines way place d e =
    ap (λ r. r.lines) e ∙ (told-lines way d (distance way place d) ∙ ap (λ r. lines_passed way r.steps d) (sym e))

kept-left : (n : ℕ) (d : Doc) → (splice 0 n empty d).l ≡ d.l
unfolding splice
kept-left n d = let whole : take (length d.l - 0) d.l ≡ d.l = simp (sub-zero, take-length) in append-nil _ ∙ whole

-- What n single steps cross, and what becomes of the cursor's row.
pub steps-cross : (action : Action) (way : Direction) (n : ℕ) (d : Doc) → Crosses action way d (times (singly action way) n d) (lines_passed way n d)
steps-cross Move Left n d = moved-left n d
steps-cross Move Right n d = moved-right n d
steps-cross Delete Left n d = deleted-left n d
steps-cross Delete Right n d = deleted-right n d

pub steps_apart : (action : Action) (way : Direction) (n : ℕ) (d : Doc)
    → RowsApart action way (row_of d) (row_of (times (singly action way) n d)) (lines_passed way n d)
steps_apart Move Left n d = omega (arith, moved-left n d)
steps_apart Move Right n d = omega (arith, moved-right n d)
steps_apart Delete Left n d = omega (arith, deleted-left n d)
steps_apart Delete Right n d = ap row_of (deletions-right n d) ∙ ap (λ l. suc (newlines l)) (kept-left n d)

-- In MAIN the row is that of the document's cursor.
pub main-row : (p : Plain) → p.mode ≡ Main → row_of (virtual p) ≡ row_of p.main.text
unfolding virtual_in
main-row p e = ap (λ mode. row_of (virtual_in mode p.main.text p.quoted.text)) e

pub main-text : (p : Plain) → p.mode ≡ Main → text_in p.mode p ≡ p.main.text
main-text p e = ap (λ mode. text_in mode p) e
