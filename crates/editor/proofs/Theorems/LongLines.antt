-- No line longer than the reader takes (02, M-106): in every session no line of the document is, and which keys are refused as LINE. That LINE is
-- given exactly where the finished document would have such a line, after FULL: refused-line in proofs/Theorems/Refusals.
use Rattle.std.proofs.Common.{Some}
use mathlib.Core.Path.{◌≡◌, refl, sym, ap, ◌∙◌}
use mathlib.Core.Logic.{◌↔◌, ⊎_elim}
use mathlib.Core.Bool.{true, false}
use mathlib.Core.List.{[], ◌∷◌}
use Prim.Native.Nat.{ℕ, ◌+◌, ◌-◌, ◌%◌, ◌≤◌, ◌<◌}
use native.Mathlib.Omega.{arith}
use borrow.Author.Tests.{leb-false, lt-leb}
use lib.ListN.{length, get_or}
use Rattle.gap.specs.Rules.Doc.{content, delete, times, splice}
use Rattle.gap.specs.Rules.Lines.{newline, since, lines}
use Rattle.gap.specs.Rules.Fields.{line_of}
use Rattle.gap.specs.Rules.Indents.{space, spaces, current_line, indent}
use Rattle.gap.specs.Rules.Layout.{allowed}
use Rattle.gap.specs.Rules.LineLimits.{lines_fit}
use Rattle.gap.proofs.Laws.Tests.{decided, clash}
use Rattle.gap.proofs.Laws.Indents.{spaces-suc, leading-fits, length-current}
use Rattle.gap.proofs.Theorems.LineLimits.{every-line-fits}
use Rattle.editor.specs.Words.{Direction, Move, Delete, Place, Mode, Main, Quoted}
use Rattle.editor.specs.Words.{Key, Insert, Function, Recall, Quote, Find, Mark, Cut, Newline, Tab}
use Rattle.editor.specs.declared.Edit.{Edit}
use Rattle.editor.specs.declared.Edit.TheVariants as edits
use Rattle.editor.specs.Rules.Refusals.{FULL, LINE}
use Rattle.editor.specs.Rules.Plain.{Side, Plain, Did, refused}
use Rattle.editor.specs.Rules.LongLines.{longest_line, readable}
use Rattle.editor.specs.Rules.Places.{is_at}
use Rattle.editor.specs.Rules.Passages.{passage_to}
use Rattle.editor.specs.Rules.Marks.{way_to, far_to}
use Rattle.editor.specs.Rules.Indents.{leftward, inserted_run, newlined, tabbed}
use Rattle.editor.specs.Rules.Keys.{is_main, sound_function, sound_key, inserted, carried, function, side_of, with_side, on_side}
use Rattle.editor.specs.Rules.Keys.{marked_here, cut_to, acted, pressed, fits, key, after, Unsound, Exceeds, LongLine}
use Rattle.editor.specs.Rules.Bytes.{SoundTexts}
use Rattle.editor.specs.Wording.Promise.{editing}
use Rattle.editor.proofs.Laws.Outcomes.{full-refused, line_refused}
use Rattle.editor.proofs.Laws.States.{function-fits, moved_lines, quoted-sound, found-sound}
use Rattle.editor.proofs.Laws.MarkedStates.{cut_fits}
use Rattle.editor.proofs.Laws.Keeps.{fits-acted, lines-acted}
use Rattle.editor.proofs.Laws.Splices.{spaced-lines, broken-fits, deleted-long}
use Rattle.editor.proofs.Theorems.Refusals.{refused_full}

-- In every session the reader takes every line of the document. (02, M-106: a session needs it too.)
pub session-lines : (T Q : ℕ) (p : Plain) → SoundTexts T Q p → (i : ℕ) → length (get_or (lines (content p.main.text)) i []) ≤ 1024
unfolding longest_line
session-lines T Q p sound = (every-line-fits longest_line (content p.main.text)).0 sound.lines

-- FULL comes before LINE, whatever the lines are.
pub full-before-line : (T Q : ℕ) (k : Key) (p : Plain) → ¬ Unsound p.mode k → Exceeds T Q (pressed k p).state → LongLine (pressed k p).state
    → key T Q k p ≡ refused FULL
full-before-line T Q k p good over long = (refused_full T Q k p).1 (good, over)

-- A key that is refused leaves everything as it was, recall text, held pair and mark with it.
pub line-leaves : (T Q : ℕ) (k : Key) (p : Plain) → key T Q k p ≡ refused LINE → after p (key T Q k p) ≡ p
line-leaves T Q k p e = ap (after p) e

-- The edits as keys.
abbrev pub key_of : Edit → Key
key_of (edits.Insert b) = Insert b
key_of (edits.Function action way place) = Function action way place
key_of edits.Recall = Recall
key_of edits.Newline = Newline
key_of edits.Tab = Tab

module _ (T Q : ℕ) (p : Plain) (sound : SoundTexts T Q p) where
  -- ---- Keys that are never refused as LINE

  never-line : (k : Key) → readable longest_line (acted k p).state ≡ true → ¬ (key T Q k p ≡ refused LINE)
  never-line k fit e = clash (lines-acted k p ∙ fit) ((line_refused T Q k p).0 e).2

  -- Moves, QUOTE, searches and MARK leave the lines as they are.
  pub move-never-line : (way : Direction) (place : Place) → ¬ (key T Q (Function Move way place) p ≡ refused LINE)
  unfolding acted on_side function
  move-never-line way place = never-line (Function Move way place) (go p.mode)
    where
      go : (mode : Mode)
          → readable longest_line (with_side mode (carried Move way (passage_to way (is_at place way) (side_of mode p).text) (side_of mode p)).state p) ≡ true
      go Main = moved_lines way (passage_to way (is_at place way) p.main.text) p.main ∙ sound.lines
      go Quoted = sound.lines

  pub quote-never-line : ¬ (key T Q Quote p ≡ refused LINE)
  unfolding acted
  quote-never-line = never-line Quote (quoted-sound T Q p sound).lines

  pub find-never-line : (way : Direction) → ¬ (key T Q (Find way) p ≡ refused LINE)
  unfolding acted
  find-never-line way = never-line (Find way) (found-sound T Q way p sound).lines

  pub mark-never-line : ¬ (key T Q Mark p ≡ refused LINE)
  unfolding acted marked_here
  mark-never-line = never-line Mark sound.lines

  -- Every edit of a quotation does: the quotation has no such limit, and the document with the quotation in it is not looked at.
  quoted-lines : (edit : Side → Did Side) → p.mode ≡ Quoted → readable longest_line (on_side edit p).state ≡ true
  unfolding on_side
  quoted-lines edit quoted = go p.mode quoted
    where
      go : (mode : Mode) → mode ≡ Quoted → readable longest_line (with_side mode (edit (side_of mode p)).state p) ≡ true
      go Main e = clash refl (ap is_main e)
      go Quoted e = sound.lines

  acted-so : (e : Edit) → acted (key_of e) p ≡ on_side (editing e) p
  unfolding acted
  acted-so (edits.Insert b) = refl
  acted-so (edits.Function action way place) = refl
  acted-so edits.Recall = refl
  acted-so edits.Newline = refl
  acted-so edits.Tab = refl

  pub quoted-never-line : (e : Edit) → p.mode ≡ Quoted → ¬ (key T Q (key_of e) p ≡ refused LINE)
  quoted-never-line e quoted =
      never-line (key_of e) (ap (λ did. readable longest_line did.state) (acted-so e) ∙ quoted-lines (editing e) quoted)

  -- A line that is broken becomes no longer, also where leading spaces are carried on.
  broken-lines : (edit : Side → Did Side) → readable longest_line (with_side Main (edit p.main).state p) ≡ true
      → readable longest_line (on_side edit p).state ≡ true
  unfolding on_side
  broken-lines edit fit = go p.mode
    where
      go : (mode : Mode) → readable longest_line (with_side mode (edit (side_of mode p)).state p) ≡ true
      go Main = fit
      go Quoted = sound.lines

  pub newline-never-line : ¬ (key T Q Newline p ≡ refused LINE)
  unfolding acted newlined inserted_run indent
  newline-never-line =
      let l = p.main.text.l in
      never-line Newline (broken-lines newlined
      (broken-fits longest_line (indent l) p.main.text sound.lines (omega (arith, leading-fits (current_line l), length-current l))))

  pub insert-newline-never-line : ¬ (key T Q (Insert newline) p ≡ refused LINE)
  unfolding acted inserted spaces
  insert-newline-never-line =
      never-line (Insert newline) (broken-lines (inserted newline) (broken-fits longest_line 0 p.main.text sound.lines (omega arith)))

  -- ---- Insertions, and deletions that join lines

  line-when : (k : Key) → sound_key p.mode k ≡ true → fits T Q (acted k p).state ≡ true
      → (key T Q k p ≡ refused LINE) ↔ (readable longest_line (acted k p).state ≡ false)
  line-when k ok room = (
    λ e. sym (lines-acted k p) ∙ ((line_refused T Q k p).0 e).2,
    λ long. (line_refused T Q k p).1 (ok, fits-acted T Q k p ∙ room, lines-acted k p ∙ long),
  )

  main-lines : (edit : Side → Did Side) → p.mode ≡ Main
      → readable longest_line (on_side edit p).state ≡ readable longest_line (with_side Main (edit p.main).state p)
  unfolding on_side
  main-lines edit main = go p.mode main
    where
      go : (mode : Mode) → mode ≡ Main
          → readable longest_line (with_side mode (edit (side_of mode p)).state p) ≡ readable longest_line (with_side Main (edit p.main).state p)
      go Main e = refl
      go Quoted e = clash (ap is_main e) refl

  line-unless-full : (k : Key) → sound_key p.mode k ≡ true → ¬ (key T Q k p ≡ refused FULL)
      → (key T Q k p ≡ refused LINE) ↔ (readable longest_line (acted k p).state ≡ false)
  line-unless-full k ok not_full =
      line-when k ok
      (⊎_elim (λ t. t) (λ t. absurd (not_full ((full-refused T Q k p).1 (ok, fits-acted T Q k p ∙ t)))) (decided (fits T Q (acted k p).state)))

  -- An insertion in the document that has room is refused as LINE exactly where its line would have one byte too many; so is TAB with its spaces.
  spaced-line : (k : Key) (edit : Side → Did Side) (b n : ℕ) → acted k p ≡ on_side edit p → p.mode ≡ Main → sound_key p.mode k ≡ true
      → ¬ (key T Q k p ≡ refused FULL) → ¬ (b ≡ newline) → (edit p.main).state.text ≡ splice 0 0 (leftward (b ∷ spaces n)) p.main.text
      → (key T Q k p ≡ refused LINE) ↔ (longest_line < since p.main.text.l + (1 + n) + length (line_of p.main.text.r))
  spaced-line k edit b n so main ok not_full other puts =
      let when = line-unless-full k ok not_full in
      let in-line = ap (λ did. readable longest_line did.state) so
      ∙ (main-lines edit main
      ∙ (ap (λ d. lines_fit longest_line (content d)) puts ∙ spaced-lines longest_line b n p.main.text sound.lines other)) in (
        λ e. leb-false _ _ (sym in-line ∙ when.0 e),
        λ long. when.1 (in-line ∙ lt-leb _ _ long),
      )

  pub insert-line : (b : ℕ) → p.mode ≡ Main → allowed b ≡ true → ¬ (b ≡ newline) → ¬ (key T Q (Insert b) p ≡ refused FULL)
      → (key T Q (Insert b) p ≡ refused LINE) ↔ (longest_line < since p.main.text.l + 1 + length (line_of p.main.text.r))
  unfolding acted sound_key inserted spaces
  insert-line b main ok other not_full = spaced-line (Insert b) (inserted b) b 0 refl main ok not_full other refl

  pub tab-line : p.mode ≡ Main → ¬ (key T Q Tab p ≡ refused FULL)
      → let column = since p.main.text.l in
      (key T Q Tab p ≡ refused LINE) ↔ (longest_line < column + (8 - column % 8) + length (line_of p.main.text.r))
  unfolding acted sound_key tabbed inserted_run
  tab-line main not_full =
      let column = since p.main.text.l in
      let more : 1 + (7 - column % 8) ≡ 8 - column % 8 = omega arith in
      let run = ap spaces (sym more) ∙ spaces-suc (7 - column % 8) in
      rw (← more)
      (spaced-line Tab tabbed space (7 - column % 8) refl main refl not_full (λ e. absurd (omega (arith, e)))
      (ap (λ run. splice 0 0 (leftward run) p.main.text) run))

  -- A deletion in the document is refused as LINE exactly where the line that it joins is too long.
  pub delete-line : (way : Direction) (place : Place) (d crossed : ℕ) → p.mode ≡ Main → sound_function Delete way place ≡ true
      → passage_to way (is_at place way) p.main.text ≡ Some (record { steps = d; lines = crossed })
      → let left = times (delete way) d p.main.text in
      (key T Q (Function Delete way place) p ≡ refused LINE) ↔ (longest_line < since left.l + length (line_of left.r))
  unfolding acted sound_key function carried
  delete-line way place d crossed main ok found =
      let when = line-when (Function Delete way place) ok (function-fits T Q Delete way place p sound) in
      let joins = deleted-long longest_line way d p.main.text sound.lines in
      let left = main-lines (function Delete way place) main
      ∙ ap (λ passage. readable longest_line (with_side Main (carried Delete way passage p.main).state p)) found in (
        λ e. joins.0 (sym left ∙ when.0 e),
        λ long. when.1 (left ∙ joins.1 long),
      )

  -- So is CUT, between cursor and mark.
  pub cut_line : (m : ℕ) → p.mode ≡ Main → p.mark ≡ Some m
      → let l = length p.main.text.l in
      let left = times (delete (way_to m l)) (far_to m l) p.main.text in
      (key T Q Cut p ≡ refused LINE) ↔ (longest_line < since left.l + length (line_of left.r))
  unfolding acted sound_key cut_to carried
  cut_line m main at =
      let l = length p.main.text.l in
      let when = line-when Cut (ap is_main main) (cut_fits T Q p.mark p sound) in
      let joins = deleted-long longest_line (way_to m l) (far_to m l) p.main.text sound.lines in
      let left = ap (λ mark. readable longest_line (cut_to mark p).state) at in (
        λ e. joins.0 (sym left ∙ when.0 e),
        λ long. when.1 (left ∙ joins.1 long),
      )
