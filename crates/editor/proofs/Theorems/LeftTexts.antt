-- What a key leaves of the text left of the document's cursor: that text grows at its end, or it is cut there; lines that the key reports are
-- the newlines that came or went. So the cursor's row after a key follows from its row before. (02, M-104.)
use Rattle.std.proofs.Common.{Option, Some, None}
use mathlib.Core.Path.{◌≡◌, refl, sym, ap, ◌∙◌}
use mathlib.Core.Bool.{Bool, true, false, cond}
use mathlib.Core.List.{List, [], ◌++◌, append-nil}
use Prim.Native.Nat.{ℕ, ◌+◌, ◌-◌, ◌≤◌, ◌<◌}
use native.Mathlib.Nat.{sub-zero}
use native.Mathlib.Omega.{arith}
use lib.ListN.{length, take, length-append, length-take}
use lib.Seq.{take-length, take_all, take-append_seam}
use Rattle.gap.specs.Rules.Doc.{Doc, delete, times, splice}
use Rattle.gap.specs.Rules.Lines.{newlines}
use Rattle.gap.specs.Rules.Nearest.{distance}
use Rattle.gap.proofs.Laws.Doc.{moves-left, moves-right, deletions-left, deletions-right}
use Rattle.editor.specs.Words.{Direction, Left, Right, Action, Move, Delete, Mode, Main, Quoted}
use Rattle.editor.specs.Words.{Key, Insert, Function, Recall, Quote, Find, Replace, Mark, Cut, Paste, Newline, Tab}
use Rattle.editor.specs.Rules.Places.{is_at}
use Rattle.editor.specs.Rules.Passages.{with_lines, passage_to}
use Rattle.editor.specs.Rules.Plain.{Side, Plain, quiet, rang, Did, reporting}
use Rattle.editor.specs.Rules.Indents.{inserted_run, newlined, tabbed}
use Rattle.editor.specs.Rules.Keys.{inserted, carried, function, recalled, side_of, with_side, on_side, quoted, with_pattern, matches, searched, found}
use Rattle.editor.specs.Rules.Keys.{with_replacement, exchanged, substituted, replaced, marked_here, pasted, acted, pressed}
use Rattle.gap.proofs.Laws.Tests.{clash}
use Rattle.editor.specs.Wording.Marks.{cuts}
use Rattle.editor.proofs.Theorems.LinesCrossed.{moved-left, moved-right, deleted-left}

pub record LeftKept (d e : Doc) (lines : ℕ) : Type 0 where
  pub grown : length d.l ≤ length e.l → take (length d.l) e.l ≡ d.l
  pub gained : length d.l < length e.l → 1 ≤ lines → newlines e.l ≡ newlines d.l + lines
  pub cut : length e.l < length d.l → newlines d.l ≡ newlines e.l + lines

module _ {d e : Doc} {lines : ℕ} where
  extended : (x : List ℕ) → e.l ≡ d.l ++ x → (length d.l < length e.l → 1 ≤ lines → newlines e.l ≡ newlines d.l + lines)
      → LeftKept d e lines
  extended x same gained =
      record {
        grown = λ _. ap (take (length d.l)) same ∙ take-append_seam d.l x;
        gained = gained;
        cut = λ short. absurd (omega (arith, short, ap length same, length-append d.l x));
      }

  stayed : e.l ≡ d.l → LeftKept d e lines
  stayed same = extended [] (same ∙ sym (append-nil d.l)) (λ more some. absurd (omega (arith, more, ap length same)))

  shortened : (n : ℕ) → e.l ≡ take (length d.l - n) d.l → newlines d.l ≡ newlines e.l + lines → LeftKept d e lines
  shortened n same counted =
      record {
        grown = λ long.
            let all : length d.l ≤ length d.l - n = omega (arith, long, ap length same, length-take (length d.l - n) d.l) in
            ap (take (length d.l)) (same ∙ take_all (length d.l - n) d.l all) ∙ take-length d.l;
        gained = λ more some. absurd (omega (arith, more, ap length same, length-take (length d.l - n) d.l));
        cut = λ _. counted;
      }

-- A key that inserts reports no lines.
inserted-left : {d e : Doc} (x : List ℕ) → e.l ≡ d.l ++ x → LeftKept d e 0
inserted-left x same = extended x same (λ more some. absurd (omega (arith, some)))

-- A change that takes nothing from the left puts its own left half at the end.
splice-left : (b : ℕ) (x d : Doc) → (splice 0 b x d).l ≡ d.l ++ x.l
unfolding splice
splice-left b x d =
    let whole : take (length d.l - 0) d.l ≡ d.l = simp (sub-zero, take-length) in
    ap (λ s. s ++ x.l) whole

taken-left : (n : ℕ) (d : Doc) → (times (delete Left) n d).l ≡ take (length d.l - n) d.l
unfolding splice
taken-left n d = ap (λ e. e.l) (deletions-left n d) ∙ append-nil _

-- ---- Keys on one side

carried-left : (action : Action) (way : Direction) (s : Side) (answer : Option ℕ)
    → let did = carried action way (with_lines way s.text answer) s in LeftKept s.text did.state.text did.report.lines
unfolding carried with_lines
carried-left Move Left s (Some n) = shortened n (ap (λ e. e.l) (moves-left n s.text)) (moved-left n s.text)
carried-left Move Right s (Some n) =
    extended (take n s.text.r) (ap (λ e. e.l) (moves-right n s.text)) (λ more some. moved-right n s.text)
carried-left Delete Left s (Some n) = shortened n (taken-left n s.text) (deleted-left n s.text)
carried-left Delete Right s (Some n) =
    stayed (ap (λ e. e.l) (deletions-right n s.text) ∙ (splice-left n _ s.text ∙ append-nil s.text.l))
carried-left Move Left s None = stayed refl
carried-left Move Right s None = stayed refl
carried-left Delete Left s None = stayed refl
carried-left Delete Right s None = stayed refl

moved-so : (action : Action) (way : Direction) (place : Doc → Bool) (s : Side)
    → let did = carried action way (passage_to way place s.text) s in LeftKept s.text did.state.text did.report.lines
unfolding passage_to
moved-so action way place s = carried-left action way s (distance way place s.text)

on-side-left : (edit : Side → Did Side) → ((s : Side) → LeftKept s.text (edit s).state.text (edit s).report.lines) → (p : Plain)
    → LeftKept p.main.text (on_side edit p).state.main.text (on_side edit p).report.lines
unfolding on_side
on-side-left edit law p = go p.mode
  where
    go : (mode : Mode) → LeftKept p.main.text (with_side mode (edit (side_of mode p)).state p).main.text (edit (side_of mode p)).report.lines
    go Main = law p.main
    go Quoted = stayed refl

-- ---- Searches and REPLACE

found_left : (way : Direction) (mode : Mode) (p : Plain)
    → let did = searched way (with_pattern mode p) in LeftKept p.main.text did.state.main.text did.report.lines
unfolding searched with_pattern
found_left way Main p = moved-so Move way (matches p.pattern) p.main
found_left way Quoted p = moved-so Move way (matches (with_pattern Quoted p).pattern) p.main

exchanged-left : (q : Plain) (test : Bool)
    → let did = cond test (reporting quiet (with_side Main (exchanged q) q)) (reporting rang q) in
    LeftKept q.main.text did.state.main.text did.report.lines
unfolding exchanged
exchanged-left q true = inserted-left q.replacement.l (splice-left _ q.replacement q.main.text)
exchanged-left q false = stayed refl

replaced-left : (mode : Mode) (p : Plain)
    → let did = substituted (with_replacement mode p) in LeftKept p.main.text did.state.main.text did.report.lines
unfolding substituted with_replacement
replaced-left Main p = exchanged-left p (matches p.pattern p.main.text)
replaced-left Quoted p = exchanged-left (with_replacement Quoted p) (matches p.pattern p.main.text)

-- ---- Every key

-- CUT alone reports no lines of what it takes.
pub left-kept : (k : Key) (p : Plain) → cuts k ≡ false
    → LeftKept p.main.text (pressed k p).state.main.text (pressed k p).report.lines
unfolding pressed acted inserted function recalled quoted found replaced marked_here pasted newlined tabbed inserted_run
left-kept (Insert b) p other = on-side-left (inserted b) (λ s. inserted-left _ (splice-left 0 _ s.text)) p
left-kept (Function action way place) p other = on-side-left (function action way place) (moved-so action way (is_at place way)) p
left-kept Recall p other = on-side-left recalled (λ s. inserted-left s.recall.l (splice-left 0 s.recall s.text)) p
left-kept Quote p other = stayed refl
left-kept (Find way) p other = found_left way p.mode p
left-kept Replace p other = replaced-left p.mode p
left-kept Mark p other = stayed refl
left-kept Cut p other = clash refl other
left-kept Paste p other = inserted-left p.held.l (splice-left 0 p.held p.main.text)
left-kept Newline p other = on-side-left newlined (λ s. inserted-left _ (splice-left 0 _ s.text)) p
left-kept Tab p other = on-side-left tabbed (λ s. inserted-left _ (splice-left 0 _ s.text)) p
