-- NEWLINE and TAB: what they insert, where the cursor is then, and what they report. (02, M-105; 001, Appendix 2.) When they are refused as FULL:
-- newline-full and tab-full in Theorems/Refusals.
use mathlib.Core.Path.{◌≡◌, refl, sym, ap, ap₂, ◌∙◌}
use mathlib.Core.Bool.{true, false}
use mathlib.Core.List.{List, [], ◌∷◌, ◌++◌, append_assoc, append-nil}
use Prim.Native.Nat.{ℕ, ◌+◌, ◌-◌, ◌%◌, ◌≤◌, ◌<◌}
use native.Mathlib.Nat.{add-zero}
use native.Mathlib.Omega.{arith}
use lib.Dec.{eqb}
use lib.ListN.{length, drop, length-append}
use lib.Seq.{drop-append_seam}
use Rattle.gap.specs.Rules.Sequence.{every}
use Rattle.gap.specs.Rules.Strings.{bytes}
use Rattle.gap.specs.Rules.Doc.{content, move, times}
use Rattle.gap.specs.Rules.Nearest.{nearest}
use Rattle.gap.specs.Rules.Lines.{newline, since_after, since, lines}
use Rattle.gap.specs.Rules.Indents.{space, spaces, leading, current_line, indent}
use Rattle.gap.specs.Tables.Written.{marked, marked_after}
use Rattle.gap.proofs.Laws.Tests.{clash}
use Rattle.gap.proofs.Laws.Doc.{insertions}
use Rattle.gap.proofs.Laws.Lines.{last_line, earlier_lines, lines-append, length_last}
use Rattle.gap.proofs.Theorems.Flatten.{flatten, flatten-lines}
use Rattle.gap.proofs.Laws.Indents.{length-spaces, spaces-unbroken, spaces-lead, leading-all, length-current, since-newline, current-newline, since-longer}
use Rattle.editor.specs.Words.{Mode, Main, Key, Newline, Tab}
use Rattle.editor.specs.Rules.Places.{line_beginning, word}
use Rattle.editor.specs.Rules.Marks.{putting, mark_through}
use Rattle.editor.specs.Rules.Plain.{Side, Plain, went}
use Rattle.editor.specs.Rules.Indents.{leftward, inserted_run, indented_line, newlined, spaces_to_tab, tabbed}
use Rattle.editor.specs.Rules.Keys.{sound_key, side_of, on_side, acted, of_document, change_of, pressed, Unsound}
use Rattle.editor.specs.Tables.IndentPins.{max0, margin}
use Rattle.editor.proofs.Laws.Marks.{marks}
use Rattle.editor.proofs.Laws.Room.{length-put}
use Rattle.editor.proofs.Laws.States.{side-with}
use Rattle.editor.proofs.Laws.MarkedStates.{side-marked}
use Rattle.editor.proofs.Theorems.Refusals.{key-unsound}
use Rattle.editor.proofs.Theorems.Marks.{put-mark}

-- ---- The current line

-- The text of some lines, each with the newline behind it.
ended : List (List ℕ) → List ℕ
ended [] = []
ended (s ∷ rest) = s ++ (newline ∷ ended rest)

flatten-last : (front : List (List ℕ)) (last : List ℕ) → flatten (front ++ (last ∷ [])) ≡ ended front ++ last
unfolding flatten ended
flatten-last [] last = refl
flatten-last (s ∷ []) last = sym (append_assoc s (newline ∷ []) last)
flatten-last (s ∷ (t ∷ rest)) last =
    ap (λ x. s ++ (newline ∷ x)) (flatten-last (t ∷ rest) last) ∙ sym (append_assoc s (newline ∷ ended (t ∷ rest)) last)

-- It is the last of the lines of what stands left of the cursor.
pub current-is-last : (l : List ℕ) → current_line l ≡ last_line l
unfolding lines
current-is-last l =
    let cut : lines l ≡ earlier_lines l ++ (last_line l ∷ []) =
    ap lines (sym (append-nil l)) ∙ (lines-append l [] ∙ ap (λ x. earlier_lines l ++ (x ∷ [])) (append-nil (last_line l))) in
    let whole : l ≡ ended (earlier_lines l) ++ last_line l =
    sym (flatten-lines l) ∙ (ap flatten cut ∙ flatten-last (earlier_lines l) (last_line l)) in
    let place : length l - since l ≡ length (ended (earlier_lines l)) =
    omega (arith, ap length whole, length-append (ended (earlier_lines l)) (last_line l), length_last l) in
    ap₂ (λ k t. drop k t) place whole ∙ drop-append_seam (ended (earlier_lines l)) (last_line l)

-- ---- NEWLINE

module _ (s : Side) where
  abbrev l : List ℕ
  l = s.text.l

  -- 001, Appendix 2, in prose: a newline character goes in, followed by spaces; nothing else changes.
  pub newline-inserts : (newlined s).state.text ≡ record { l = l ++ indented_line s.text; r = s.text.r }
  unfolding newlined inserted_run
  newline-inserts = insertions (leftward (indented_line s.text)) s.text

  abbrev behind : List ℕ
  behind = (newlined s).state.text.l

  behind-so : behind ≡ l ++ indented_line s.text
  behind-so = ap (λ d. d.l) newline-inserts

  -- The new line begins with exactly the spaces counted: left of the cursor it has those and nothing else.
  pub new_line : current_line behind ≡ spaces (indent l)
  new_line = ap current_line behind-so ∙ current-newline l (spaces (indent l)) (spaces-unbroken (indent l))

  -- So many make the margin the same as on the previous line.
  pub same-margin : indent behind ≡ indent l
  unfolding indent
  same-margin = ap leading new_line ∙ spaces-lead (indent l)

  -- The cursor stands behind them.
  pub newline-column : since behind ≡ indent l
  newline-column = ap since behind-so ∙ (since-newline l (spaces (indent l)) (spaces-unbroken (indent l)) ∙ length-spaces (indent l))

  -- Where nothing but spaces stood left of it on its line, its column stays the same.
  pub column-stays : every (λ b. eqb b space) (current_line l) ≡ true → since behind ≡ since l
  unfolding indent
  column-stays only = newline-column ∙ (leading-all (current_line l) only ∙ length-current l)

-- ---- The formula of 001

-- At foo| the formula of Appendix 2 gives 3 where its prose gives 0; the prose decides. (02, M-105.)
pub formula-at-foo : margin (marked "foo|") ≡ 3
unfolding bytes move times nearest line_beginning word max0 marked_after
formula-at-foo = refl

pub prose-at-foo : indent (marked "foo|").l ≡ 0
unfolding bytes since_after leading indent marked_after
prose-at-foo = refl

-- ---- TAB

-- The next column that is a multiple of eight: there is none between.
pub record NextColumn (c n : ℕ) : Type 0 where
  pub multiple : n % 8 ≡ 0
  pub beyond : c < n
  pub next : (m : ℕ) → m % 8 ≡ 0 → c < m → n ≤ m

module _ (s : Side) where
  pub tab-inserts : (tabbed s).state.text ≡ record { l = s.text.l ++ spaces_to_tab s.text; r = s.text.r }
  unfolding tabbed inserted_run
  tab-inserts = insertions (leftward (spaces_to_tab s.text)) s.text

  pub tab-column : NextColumn (since s.text.l) (since (tabbed s).state.text.l)
  tab-column =
      let c = since s.text.l in
      let k = 8 - c % 8 in
      let there : since (tabbed s).state.text.l ≡ c + k =
      ap (λ d. since d.l) tab-inserts ∙ (since-longer s.text.l (spaces k) (spaces-unbroken k) ∙ ap (λ n. c + n) (length-spaces k)) in
      rw there (record { multiple = omega arith; beyond = omega arith; next = λ m even above. omega (arith, even, above) })

  -- 1 to 8 bytes go in.
  pub tab-bytes : (1 ≤ length (spaces_to_tab s.text)) × (length (spaces_to_tab s.text) ≤ 8)
  tab-bytes = rw length-spaces (omega arith, omega arith)

-- ---- Both, as keys

-- The steps are the bytes inserted.
pub run-steps : (run : List ℕ) (s : Side)
    → let did = inserted_run run s in length (content did.state.text) ≡ length (content s.text) + did.report.steps
unfolding inserted_run
run-steps run s = length-put (leftward run) s.text ∙ ap (λ t. length (content s.text) + length t) (append-nil run)

-- Neither is ever refused as KEY.
pub newline-sound : (mode : Mode) → ¬ Unsound mode Newline
unfolding sound_key
newline-sound mode bad = clash refl ((key-unsound mode Newline).1 bad)

pub tab-sound : (mode : Mode) → ¬ Unsound mode Tab
unfolding sound_key
tab-sound mode bad = clash refl ((key-unsound mode Tab).1 bad)

module _ (p : Plain) where
  abbrev here : Side
  here = side_of p.mode p

  -- The mode's side behind the key.
  pub newline-behind : side_of p.mode (pressed Newline p).state ≡ (newlined here).state
  unfolding pressed acted on_side
  newline-behind = side-marked p.mode _ (on_side newlined p).state ∙ side-with p.mode (newlined here).state p

  pub tab-behind : side_of p.mode (pressed Tab p).state ≡ (tabbed here).state
  unfolding pressed acted on_side
  tab-behind = side-marked p.mode _ (on_side tabbed p).state ∙ side-with p.mode (tabbed here).state p

  -- They report the bytes inserted as steps, no lines and no bell, and keep the recall text.
  pub newline-reports : (pressed Newline p).report ≡ went (1 + indent here.text.l) 0
  unfolding pressed acted on_side newlined inserted_run
  newline-reports = let long : length (indented_line here.text) ≡ 1 + indent here.text.l = omega (arith, length-spaces (indent here.text.l)) in
      ap (λ n. went n 0) long

  pub tab-reports : (pressed Tab p).report ≡ went (8 - since here.text.l % 8) 0
  unfolding pressed acted on_side tabbed inserted_run
  tab-reports = ap (λ n. went n 0) (length-spaces (8 - since here.text.l % 8))

  pub newline-recall : (side_of p.mode (pressed Newline p).state).recall ≡ here.recall
  unfolding newlined inserted_run
  newline-recall = ap (λ s. s.recall) newline-behind

  pub tab-recall : (side_of p.mode (pressed Tab p).state).recall ≡ here.recall
  unfolding tabbed inserted_run
  tab-recall = ap (λ s. s.recall) tab-behind

  -- The mark follows, as through any insertion. (02, M-101.)
  module _ (main : p.mode ≡ Main) where
    run-mark : (k : Key) (run : List ℕ) → marks k ≡ false → change_of k p (acted k p) ≡ of_document p.mode (putting (leftward run))
        → (pressed k p).state.mark ≡ mark_through (length p.main.text.l) 0 (length run) p.mark
    run-mark k run other same =
        put-mark p k (leftward run) other (same ∙ ap (λ m. of_document m (putting (leftward run))) main)
        ∙ ap (λ come. mark_through (length p.main.text.l) 0 come p.mark) (add-zero (length run))

    pub newline-mark : (pressed Newline p).state.mark
        ≡ mark_through (length p.main.text.l) 0 (length (indented_line p.main.text)) p.mark
    unfolding change_of
    newline-mark = run-mark Newline (indented_line p.main.text) refl refl

    pub tab-mark : (pressed Tab p).state.mark ≡ mark_through (length p.main.text.l) 0 (length (spaces_to_tab p.main.text)) p.mark
    unfolding change_of
    tab-mark = run-mark Tab (spaces_to_tab p.main.text) refl refl
