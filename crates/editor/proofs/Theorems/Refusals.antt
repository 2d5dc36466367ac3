-- Refusals of the plain editor (01, table of refusals; 02, M-106): KEY, FULL and LINE exactly when the table says, and no others. Then FULL key by
-- key: room that a key gives back is free for it. LINE key by key: proofs/Theorems/LongLines.
use mathlib.Core.Path.{◌≡◌, refl, ap, subst, ◌∙◌}
use mathlib.Core.Logic.Iff
use mathlib.Core.Logic.{◌⊎◌, inl, inr, ⊎_elim, ◌↔◌}
use mathlib.Core.Bool.{true, false}
use mathlib.Core.List.{List, [], ◌∷◌, append-nil}
use Prim.Native.Nat.{ℕ, ◌+◌, ◌-◌, ◌%◌, ◌<◌}
use native.Mathlib.Omega.{arith}
use lib.ListN.{length}
use Rattle.gap.specs.Rules.Doc.{Doc, content, splice}
use Rattle.gap.specs.Rules.Lines.{since}
use Rattle.gap.specs.Rules.Indents.{indent}
use Rattle.gap.specs.Rules.Layout.{allowed}
use Rattle.gap.proofs.Laws.Indents.{length-spaces}
use Rattle.gap.proofs.Laws.Tests.{clash}
use Rattle.editor.specs.Words.{Direction, Left, Right, Action, Move, Delete, Mode, Main, Quoted}
use Rattle.editor.specs.Words.{Place, Character, Word, LineBeginning, LineEnding, Document}
use Rattle.editor.specs.Words.{Key, Insert, Function, Recall, Quote, Find, Replace, Mark, Cut, Paste, Newline, Tab}
use Rattle.editor.specs.Rules.Refusals.{KEY, FULL, LINE}
use Rattle.editor.specs.Rules.Plain.{Side, Plain, Did, refused, done}
use Rattle.editor.specs.Rules.Keys.{Unsound, not_allowed, left_to_ending, right_to_beginning, mark_in_quoted, cut_in_quoted, paste_in_quoted, Exceeds, LongLine}
use Rattle.editor.specs.Rules.Indents.{leftward, inserted_run, indented_line, newlined, spaces_to_tab, tabbed}
use Rattle.editor.specs.Rules.Keys.{sound_function, sound_key, inserted, recalled, side_of, on_side}
use Rattle.editor.specs.Rules.Keys.{matches, with_replacement, substituted, replaced, marked_here, pasted, acted, pressed, fits, key}
use Rattle.editor.proofs.Laws.Room.{holds, fits_not, fits-within, keeps-within, on-side-exceeds, length-put, substituted-exceeds}
use Rattle.editor.proofs.Laws.LongLines.{readable-not, readable-within}
use Rattle.editor.proofs.Laws.Outcomes.{key-refused, full-refused, line_refused, accepted, refusal-number}
use Rattle.editor.specs.Rules.Bytes.{SoundTexts}
use Rattle.editor.proofs.Laws.Keeps.{fits-acted}
use Rattle.editor.proofs.Laws.MarkedStates.{marked-sound, cut_fits}
use Rattle.editor.proofs.Laws.States.{limit, sound-fits, function-fits, quoted-sound, found-sound, with-replacement-sound}

unsound-function : (action : Action) (way : Direction) (place : Place) → sound_function action way place ≡ false
    → {mode : Mode} → Unsound mode (Function action way place)
unsound-function Move way place e = clash refl e
unsound-function Delete Left Character e = clash refl e
unsound-function Delete Left Word e = clash refl e
unsound-function Delete Left LineBeginning e = clash refl e
unsound-function Delete Left LineEnding e = left_to_ending
unsound-function Delete Left Document e = clash refl e
unsound-function Delete Right Character e = clash refl e
unsound-function Delete Right Word e = clash refl e
unsound-function Delete Right LineBeginning e = right_to_beginning
unsound-function Delete Right LineEnding e = clash refl e
unsound-function Delete Right Document e = clash refl e

unsound : (mode : Mode) (k : Key) → sound_key mode k ≡ false → Unsound mode k
unfolding sound_key
unsound mode (Insert b) e = not_allowed e
unsound mode (Function action way place) e = unsound-function action way place e
unsound mode Recall e = clash refl e
unsound mode Quote e = clash refl e
unsound mode (Find way) e = clash refl e
unsound mode Replace e = clash refl e
unsound Main Mark e = clash refl e
unsound Quoted Mark e = mark_in_quoted
unsound Main Cut e = clash refl e
unsound Quoted Cut e = cut_in_quoted
unsound Main Paste e = clash refl e
unsound Quoted Paste e = paste_in_quoted
unsound mode Newline e = clash refl e
unsound mode Tab e = clash refl e

unsound-fails : (mode : Mode) (k : Key) → Unsound mode k → sound_key mode k ≡ false
unfolding sound_key
unsound-fails mode k (not_allowed e) = e
unsound-fails mode k left_to_ending = refl
unsound-fails mode k right_to_beginning = refl
unsound-fails mode k mark_in_quoted = refl
unsound-fails mode k cut_in_quoted = refl
unsound-fails mode k paste_in_quoted = refl

pub key-unsound : (mode : Mode) (k : Key) → (sound_key mode k ≡ false) ↔ Unsound mode k
key-unsound mode k = (unsound mode k, unsound-fails mode k)

key-sound : (mode : Mode) (k : Key) → (sound_key mode k ≡ true) ↔ (¬ Unsound mode k)
key-sound mode k = holds (sound_key mode k) (key-unsound mode k)

module _ (T Q : ℕ) (k : Key) (p : Plain) where
  -- KEY, FULL and LINE exactly when the table says, in this order.
  pub refused-key : (key T Q k p ≡ refused KEY) ↔ Unsound p.mode k
  refused-key = Iff.trans (key-refused T Q k p) (key-unsound p.mode k)

  pub refused_full : (key T Q k p ≡ refused FULL) ↔ ((¬ Unsound p.mode k) × Exceeds T Q (pressed k p).state)
  refused_full = Iff.trans (full-refused T Q k p) (Iff.and (key-sound p.mode k) (fits_not T Q (pressed k p).state))

  pub refused-line : (key T Q k p ≡ refused LINE) ↔ ((¬ Unsound p.mode k) × (¬ Exceeds T Q (pressed k p).state) × LongLine (pressed k p).state)
  refused-line =
      let after = (pressed k p).state in (
        λ e. let (ok, room, long) = (line_refused T Q k p).0 e in ((key-sound p.mode k).0 ok, (fits-within T Q after).0 room, (readable-not after).0 long),
        λ (good, within, long). (line_refused T Q k p).1 ((key-sound p.mode k).1 good, (fits-within T Q after).1 within, (readable-not after).1 long),
      )

  -- There is no other refusal: the number is KEY, FULL or LINE, and a key that gets none of them is done.
  pub refused-number : (n : ℕ) → key T Q k p ≡ refused n → (n ≡ KEY) ⊎ ((n ≡ FULL) ⊎ (n ≡ LINE))
  refused-number n e = refusal-number T Q k p n e

  pub done-otherwise : (key T Q k p ≡ done (pressed k p))
      ↔ ((¬ Unsound p.mode k) × (¬ Exceeds T Q (pressed k p).state) × (¬ LongLine (pressed k p).state))
  done-otherwise = (
    λ e. let (ok, room, lines, same) = (accepted T Q k p (pressed k p)).0 e in
        ((key-sound p.mode k).0 ok, (fits-within T Q (pressed k p).state).0 room, (readable-within (pressed k p).state).0 lines),
    λ (good, within, short). (accepted T Q k p (pressed k p)).1
        ((key-sound p.mode k).1 good, (fits-within T Q (pressed k p).state).1 within, (readable-within (pressed k p).state).1 short, refl),
  )

-- For a sound key only the finished texts count.
full-when : (T Q : ℕ) (k : Key) (p : Plain) → sound_key p.mode k ≡ true → (key T Q k p ≡ refused FULL) ↔ Exceeds T Q (pressed k p).state
full-when T Q k p ok = (λ e. ((refused_full T Q k p).0 e).1, λ over. (refused_full T Q k p).1 ((key-sound p.mode k).0 ok, over))

module _ (T Q : ℕ) (p : Plain) (sound : SoundTexts T Q p) where
  never-full : (k : Key) → fits T Q (acted k p).state ≡ true → ¬ (key T Q k p ≡ refused FULL)
  never-full k room e = clash (fits-acted T Q k p ∙ room) ((full-refused T Q k p).0 e).1

  -- Moves, deletions, QUOTE, FIND and UPFIND are never refused as FULL.
  pub function-never-full : (action : Action) (way : Direction) (place : Place) → ¬ (key T Q (Function action way place) p ≡ refused FULL)
  unfolding acted
  function-never-full action way place = never-full (Function action way place) (function-fits T Q action way place p sound)

  pub quote-never-full : ¬ (key T Q Quote p ≡ refused FULL)
  unfolding acted
  quote-never-full = never-full Quote (sound-fits T Q _ (quoted-sound T Q p sound))

  pub find-never-full : (way : Direction) → ¬ (key T Q (Find way) p ≡ refused FULL)
  unfolding acted
  find-never-full way = never-full (Find way) (sound-fits T Q _ (found-sound T Q way p sound))

  -- MARK and CUT never either. (02, M-101: FULL for PASTE alone.)
  pub mark-never-full : ¬ (key T Q Mark p ≡ refused FULL)
  unfolding acted marked_here
  mark-never-full = never-full Mark (sound-fits T Q _ (marked-sound T Q _ p sound))

  pub cut-never-full : ¬ (key T Q Cut p ≡ refused FULL)
  unfolding acted
  cut-never-full = never-full Cut (cut_fits T Q p.mark p sound)

  -- An edit that puts x around the cursor wants room for x.
  put_full : let s = side_of p.mode p in
      (x : Doc) (edit : Side → Did Side) → (edit s).state.text ≡ splice 0 0 x s.text
      → Exceeds T Q (on_side edit p).state ↔ (limit T Q p.mode < length (content s.text) + length (content x))
  put_full x edit puts = rw (← length-put, ← puts) (on-side-exceeds T Q edit p sound)

  -- An insertion wants one byte of room, in MAIN in the document and in QUOTED in the quotation.
  pub insert-full : let s = side_of p.mode p in
      (b : ℕ) → allowed b ≡ true → (key T Q (Insert b) p ≡ refused FULL) ↔ (limit T Q p.mode < length (content s.text) + 1)
  unfolding pressed acted sound_key inserted
  insert-full b ok = Iff.trans (full-when T Q (Insert b) p ok) (put_full (record { l = b ∷ []; r = [] }) (inserted b) refl)

  -- RECALL wants room for the whole pair.
  pub recall-full : let s = side_of p.mode p in
      (key T Q Recall p ≡ refused FULL) ↔ (limit T Q p.mode < length (content s.text) + length (content s.recall))
  unfolding pressed acted sound_key recalled
  recall-full = Iff.trans (full-when T Q Recall p refl) (put_full (side_of p.mode p).recall recalled refl)

  -- NEWLINE and TAB want room for all that they put in. (02, M-105.)
  run-full : let s = side_of p.mode p in
      (run : List ℕ) (edit : Side → Did Side) → (edit s).state.text ≡ splice 0 0 (leftward run) s.text
      → Exceeds T Q (on_side edit p).state ↔ (limit T Q p.mode < length (content s.text) + length run)
  run-full run edit puts =
      subst (λ k. Exceeds T Q (on_side edit p).state ↔ (limit T Q p.mode < length (content (side_of p.mode p).text) + k))
      (ap length (append-nil run)) (put_full (leftward run) edit puts)

  pub newline-full : let s = side_of p.mode p in
      (key T Q Newline p ≡ refused FULL) ↔ (limit T Q p.mode < length (content s.text) + (1 + indent s.text.l))
  unfolding pressed acted sound_key newlined inserted_run
  newline-full =
      let s = side_of p.mode p in
      let long : length (indented_line s.text) ≡ 1 + indent s.text.l = omega (arith, length-spaces (indent s.text.l)) in
      rw (← long) (Iff.trans (full-when T Q Newline p refl) (run-full (indented_line s.text) newlined refl))

  pub tab-full : let s = side_of p.mode p in
      (key T Q Tab p ≡ refused FULL) ↔ (limit T Q p.mode < length (content s.text) + (8 - since s.text.l % 8))
  unfolding pressed acted sound_key tabbed inserted_run
  tab-full =
      let s = side_of p.mode p in
      rw length-spaces at (Iff.trans (full-when T Q Tab p refl) (run-full (spaces_to_tab s.text) tabbed refl))

  -- PASTE wants room for the whole held pair, in MAIN; in QUOTED it is no key.
  pub paste-full : p.mode ≡ Main → (key T Q Paste p ≡ refused FULL) ↔ (T < length (content p.main.text) + length (content p.held))
  unfolding pressed acted sound_key pasted recalled
  paste-full main =
      Iff.trans (full-when T Q Paste p (rw main)) (
        ⊎_elim (λ over. rw (length-put p.held p.main.text) at over) (λ over. absurd (keeps-within T Q p sound (inr over))),
        λ over. inl (rw (length-put p.held p.main.text) over),
      )

  -- REPLACE gives the pattern's room back before the replacement takes its own. In QUOTED the quotation is the replacement.
  pub replace-full : let q = with_replacement p.mode p in
      matches q.pattern q.main.text ≡ true
      → (key T Q Replace p ≡ refused FULL)
      ↔ (T < length (content q.main.text) - length q.pattern + length (content q.replacement))
  unfolding pressed acted sound_key replaced
  replace-full match =
      Iff.trans (full-when T Q Replace p refl)
      (substituted-exceeds T Q (with_replacement p.mode p) (with-replacement-sound T Q p.mode p sound) match)

  -- Without a match it is never refused as FULL.
  pub replace-unmatched : let q = with_replacement p.mode p in
      matches q.pattern q.main.text ≡ false → ¬ (key T Q Replace p ≡ refused FULL)
  unfolding acted replaced substituted
  replace-unmatched match = never-full Replace (rw match (sound-fits T Q _ (with-replacement-sound T Q p.mode p sound)))
