-- REPLACE on record and stores: its test of lines, made before anything is written, is LINE of the plain editor exactly.
use mathlib.Core.Path.{◌≡◌, refl, sym, ap, ◌∙◌}
use mathlib.Core.Bool.{true, false}
use mathlib.Core.List.{◌++◌, append_assoc}
use Prim.Native.Nat.{ℕ, ◌+◌, ◌^◌, ◌≤◌, ◌<◌}
use native.Mathlib.Nat.{sub-zero}
use native.Mathlib.Omega.{arith}
use lib.ListN.{length, drop}
use lib.Seq.{take-length}
use Rattle.gap.specs.Rules.Doc.{Doc, content, splice}
use Rattle.gap.specs.Rules.Layout.{ungap}
use Rattle.gap.specs.Rules.LineLimits.{lines_fit}
use Rattle.gap.proofs.Laws.Tests.{cond-true, cond-false}
use Rattle.gap.proofs.Laws.Runs.{tail_of, tail-lent}
use Rattle.gap.proofs.Laws.LineLimits.{fit-left, fit-right, fit-drop}
use Rattle.editor.specs.Words.{Mode, Main, Quoted, Lengths}
use Rattle.editor.specs.Rules.Plain.{Plain, Did}
use Rattle.editor.specs.Rules.LongLines.{longest_line, readable}
use Rattle.editor.specs.Rules.Keys.{matches, with_replacement, exchanged, substituted, replaced}
use Rattle.editor.specs.Rules.Bytes.{Stores, quarter, plain_of, SoundTexts}
use Rattle.editor.specs.Wording.Promise.{Sound, replacing}
use Rattle.editor.proofs.Laws.Session.{measured}
use Rattle.editor.proofs.Laws.Encoding.{session-encoded}
use Rattle.editor.proofs.Laws.Fitting.{Sized, sizes, fitting}
use Rattle.editor.proofs.Laws.FindReplace.{pattern-stands}

-- A text in which the pair x took the place of k bytes behind the cursor, as four runs.
exchanged-runs : (k : ℕ) (x d : Doc) → content (splice 0 k x d) ≡ d.l ++ (x.l ++ (x.r ++ drop k d.r))
unfolding splice
exchanged-runs k x d = rw (sub-zero, take-length, append_assoc)

-- A quotation that becomes the replacement leaves document and pattern alone.
same-unmatched : (mode : Mode) (p : Plain) → matches p.pattern p.main.text ≡ false
    → readable longest_line (substituted (with_replacement mode p)).state ≡ readable longest_line p
unfolding with_replacement substituted
same-unmatched Main p unmatched = ap (λ (did : Did Plain). readable longest_line did.state) (cond-false _ _ unmatched)
same-unmatched Quoted p unmatched = ap (λ (did : Did Plain). readable longest_line did.state) (cond-false _ _ unmatched)

same-matched : (mode : Mode) (p : Plain) → matches p.pattern p.main.text ≡ true
    → readable longest_line (substituted (with_replacement mode p)).state
    ≡ lines_fit longest_line (content (splice 0 (length p.pattern) (with_replacement mode p).replacement p.main.text))
unfolding with_replacement substituted exchanged
same-matched Main p matched = ap (λ (did : Did Plain). readable longest_line did.state) (cond-true _ _ matched)
same-matched Quoted p matched = ap (λ (did : Did Plain). readable longest_line did.state) (cond-true _ _ matched)

-- What is put in fits a quarter.
put_fits : (T Q : ℕ) (mode : Mode) (p : Plain) → SoundTexts T Q p
    → length (with_replacement mode p).replacement.l + length (with_replacement mode p).replacement.r ≤ Q
unfolding with_replacement
put_fits T Q Main p sound = sound.replacement.fits
put_fits T Q Quoted p sound = sound.quotation.fits

module _ (n : Lengths) (b : Stores) (sound : Sound quarter n b) (d : Doc) (is : d ≡ ungap n.main.l n.main.r b.text) where
  abbrev p : Plain
  p = plain_of quarter n b

  texts : SoundTexts (length b.text) quarter p
  texts = (session-encoded quarter n b sound.tabled sound.ok).sound.texts

  held : Sized n p
  held = sizes quarter n b sound

  document : d ≡ p.main.text
  unfolding plain_of
  document = is

  lines : lines_fit longest_line (content d) ≡ true
  lines = ap (λ d. lines_fit longest_line (content d)) document ∙ texts.lines

  pub pattern-inside : matches p.pattern d ≡ true → n.pl ≤ length d.r
  pattern-inside match =
      let right : length d.r ≡ n.main.r = ap (λ (d : Doc). length d.r) document ∙ held.right in
      rw right (pattern-stands quarter n b sound (rw document at match))

  -- Neither side of the document has a longer line, nor what stands behind the pattern.
  pub sides_fit : (lines_fit longest_line d.l ≡ true) × (lines_fit longest_line (tail_of n.pl d.r) ≡ true)
  sides_fit = (
    fit-left longest_line d.l d.r lines,
    ap (lines_fit longest_line) (tail-lent n.pl d.r) ∙ fit-drop longest_line n.pl d.r (fit-right longest_line d.l d.r lines),
  )

  -- Where the pattern does not stand, the document stays.
  pub readable-unmatched : matches p.pattern d ≡ false → true ≡ readable longest_line (replaced p).state
  unfolding replaced
  readable-unmatched unmatched = sym (same-unmatched p.mode p (rw document at unmatched) ∙ texts.lines)

  module _ {x : Doc} (put : x ≡ replacing n.mode n b.side) where
    by_mode : (mode : Mode) → replacing mode n b.side ≡ (with_replacement mode p).replacement
    unfolding plain_of with_replacement
    by_mode Main = refl
    by_mode Quoted = refl

    put-so : x ≡ (with_replacement p.mode p).replacement
    unfolding plain_of
    put-so = put ∙ by_mode n.mode

    -- No more is read than three stores have.
    pub runs-small : length d.l + (length x.l + length x.r) < 2 ^ 64
    unfolding quarter
    runs-small =
        let known = measured quarter b sound.tabled in
        let fits : length x.l + length x.r ≤ quarter = rw put-so (put_fits _ quarter p.mode p texts) in
        let front : length d.l ≡ n.main.l = ap (λ (d : Doc). length d.l) document ∙ held.left in
        omega (arith, known.high, (fitting quarter n b sound).document, fits, front)

    -- Where it stands, the code looks at four runs.
    pub readable-matched : matches p.pattern d ≡ true
        → lines_fit longest_line (d.l ++ (x.l ++ (x.r ++ tail_of n.pl d.r))) ≡ readable longest_line (replaced p).state
    unfolding replaced
    readable-matched matched =
        ap (λ rest. lines_fit longest_line (d.l ++ (x.l ++ (x.r ++ rest)))) (tail-lent n.pl d.r)
        ∙ ap (lines_fit longest_line) (sym (exchanged-runs n.pl x d))
        ∙ (λ i. lines_fit longest_line (content (splice 0 (sym held.pattern i) (put-so i) (document i))))
        ∙ sym (same-matched p.mode p (rw document at matched))
