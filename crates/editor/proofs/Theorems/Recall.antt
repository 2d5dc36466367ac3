-- RECALL straight after a deletion restores text and cursor where the deletion found its place, and puts the older recall text in where it
-- rang (01, recall text; 02, M-103). Moves and searches keep the content.
use Rattle.std.proofs.Common.{Option, Some, None}
use mathlib.Core.Path.{◌≡◌, refl, sym, ap, subst, subst⁻¹, ◌∙◌}
use mathlib.Core.Logic.{◌↔◌}
use mathlib.Core.Bool.{true, false≢true}
use mathlib.Core.List.{[], ◌∷◌}
use Prim.Native.Nat.{ℕ, ◌≤◌}
use native.Mathlib.Omega.{arith}
use lib.ListN.{length}
use Rattle.gap.specs.Rules.Sequence.{every}
use Rattle.gap.specs.Rules.Doc.{Doc, content, move, delete, times, passed, splice, removed}
use Rattle.gap.specs.Rules.Lines.{newlines, lines}
use Rattle.gap.specs.Rules.LineLimits.{none_longer, lines_fit}
use Rattle.gap.specs.Rules.Nearest.{nearest, distance}
use Rattle.gap.proofs.Laws.Tests.{clash}
use Rattle.gap.proofs.Laws.Doc.{insertions}
use Rattle.editor.specs.Words.{Direction, Left, Right, Passage, Action, Move, Delete, Place, Character, Mode, Main, Quoted}
use Rattle.editor.specs.Words.{Function, Recall, Find}
use Rattle.editor.specs.Rules.Refusals.{FULL, LINE}
use Rattle.editor.specs.Rules.LongLines.{longest_line, readable}
use Rattle.editor.specs.Rules.Places.{is_at}
use Rattle.editor.specs.Rules.Passages.{with_lines, passage_to}
use Rattle.editor.specs.Rules.Plain.{Side, Plain, opening, quiet, rang, Did, reporting, within, refused, done}
use Rattle.editor.specs.Rules.Keys.{sound_key, carried, function, recalled, side_of, with_side, on_side, with_pattern, matches, searched, found}
use Rattle.editor.specs.Rules.Marks.{putting, taking, mark_through, mark_changed}
use Rattle.editor.specs.Rules.Keys.{with_mark, of_document, change_of, acted, pressed, fits, bounded, key, after, keys, Unsound, Exceeds, LongLine}
use Rattle.editor.specs.Rules.Bytes.{SoundPlain}
use Rattle.editor.specs.Wording.Recalling.{with_recall, recall_put_in}
use Rattle.editor.proofs.Laws.Outcomes.{accepted}
use Rattle.editor.proofs.Laws.States.{side-with, same-document, on-side-twice, sound-fits}
use Rattle.editor.proofs.Laws.MarkedStates.{fits-marked}
use Rattle.editor.proofs.Laws.MarkedStates.{side-marked, on-side-mark, on-side-marked}
use Rattle.editor.proofs.Laws.Changes.{put_back, moved-content}
use Rattle.editor.proofs.Laws.Marks.{through-nothing}
use Rattle.editor.proofs.Theorems.Refusals.{key-unsound, refused_full, refused-line, done-otherwise}
use Rattle.editor.proofs.Theorems.Sessions.{opening-sound, keys-keep}

-- ---- The bell

-- A function key that rings has found no place, and text and recall text stay as they were. (02, M-103: in QUOTED too.)
carried-rings : (action : Action) (way : Direction) (passage : Option Passage) (s : Side) → (carried action way passage s).report.bell ≡ true
    → (carried action way passage s).state ≡ s
unfolding carried
carried-rings Move way (Some passage) s bell = absurd (false≢true bell)
carried-rings Move way None s bell = refl
carried-rings Delete way (Some passage) s bell = absurd (false≢true bell)
carried-rings Delete way None s bell = refl

same-side : (mode : Mode) (p : Plain) → with_side mode (side_of mode p) p ≡ p
same-side Main p = refl
same-side Quoted p = refl

rings-stays : (action : Action) (way : Direction) (place : Place) (p : Plain) → (on_side (function action way place) p).report.bell ≡ true
    → (on_side (function action way place) p).state ≡ p
unfolding on_side function
rings-stays action way place p rung =
    let s = side_of p.mode p in
    ap (λ s. with_side p.mode s p) (carried-rings action way (passage_to way (is_at place way) s.text) s rung) ∙ same-side p.mode p

-- It reports no steps, so that the mark goes through no change.
rings-no-steps : (action : Action) (way : Direction) (passage : Option Passage) (s : Side) → (carried action way passage s).report.bell ≡ true
    → (carried action way passage s).report.steps ≡ 0
unfolding carried
rings-no-steps Move way (Some passage) s bell = absurd (false≢true bell)
rings-no-steps Move way None s bell = refl
rings-no-steps Delete way (Some passage) s bell = absurd (false≢true bell)
rings-no-steps Delete way None s bell = refl

nothing-taken : (mode : Mode) (way : Direction) (d : Doc) (mark : Option ℕ) → mark_changed (of_document mode (taking way 0)) d mark ≡ mark
nothing-taken Main Left d mark = through-nothing _ mark
nothing-taken Main Right d mark = through-nothing _ mark
nothing-taken Quoted way d mark = through-nothing _ mark

rings-marked : (action : Action) (way : Direction) (place : Place) (p : Plain) → (on_side (function action way place) p).report.bell ≡ true
    → mark_changed (change_of (Function action way place) p (on_side (function action way place) p)) p.main.text p.mark ≡ p.mark
unfolding change_of on_side function
rings-marked Move way place p rung = through-nothing _ p.mark
rings-marked Delete way place p rung =
    let s = side_of p.mode p in
    rw (rings-no-steps Delete way (passage_to way (is_at place way) s.text) s rung) (nothing-taken p.mode way p.main.text p.mark)

pub function-rings : (T Q : ℕ) (action : Action) (way : Direction) (place : Place) (p : Plain) (did : Did Plain)
    → key T Q (Function action way place) p ≡ done did → did.report.bell ≡ true → did.state ≡ p
unfolding pressed acted
function-rings T Q action way place p did e bell =
    let (ok, room, lines, same) = (accepted T Q (Function action way place) p did).0 e in
    let acted = on_side (function action way place) p in
    let rung = ap (λ d. d.report.bell) same ∙ bell in
    let stays = rings-stays action way place p rung in
    ap (λ d. d.state) (sym same)
    ∙ ((λ i. with_mark (mark_changed (change_of (Function action way place) p acted) p.main.text (stays i).mark) (stays i))
    ∙ ap (λ mark. with_mark mark p) (rings-marked action way place p rung))

-- What RECALL does anyhow.
pub recall-does : (p : Plain) → pressed Recall p ≡ reporting quiet (recall_put_in p)
unfolding pressed acted change_of recalled on_side
recall-does p =
    let s = side_of p.mode p in
    let change = of_document p.mode (putting p.main.recall) in
    λ i. reporting quiet
    (with_mark (mark_changed change p.main.text (on-side-mark recalled p i))
    (with_side p.mode (record { text = insertions s.recall s.text i; recall = s.recall }) p))

pub recall-sound : (mode : Mode) → ¬ Unsound mode Recall
unfolding sound_key
recall-sound mode bad = clash refl ((key-unsound mode Recall).1 bad)

pub recall-refused : (T Q : ℕ) (p : Plain) → (key T Q Recall p ≡ refused FULL) ↔ Exceeds T Q (recall_put_in p)
recall-refused T Q p =
    let so = ap (λ d. d.state) (recall-does p) in (
      λ e. subst (Exceeds T Q) so ((refused_full T Q Recall p).0 e).1,
      λ over. (refused_full T Q Recall p).1 (recall-sound p.mode, subst⁻¹ (Exceeds T Q) so over),
    )

pub recall-done : (T Q : ℕ) (p : Plain)
    → (key T Q Recall p ≡ done (reporting quiet (recall_put_in p))) ↔ ((¬ Exceeds T Q (recall_put_in p)) × (¬ LongLine (recall_put_in p)))
recall-done T Q p =
    let so = ap (λ d. d.state) (recall-does p) in (
      λ e. let (good, within, short) = (done-otherwise T Q Recall p).0 (e ∙ ap done (sym (recall-does p))) in
          (λ over. within (subst⁻¹ (Exceeds T Q) so over), λ long. short (subst⁻¹ LongLine so long)),
      λ (within, short). (done-otherwise T Q Recall p).1
          (recall-sound p.mode, λ over. within (subst (Exceeds T Q) so over), λ long. short (subst LongLine so long)) ∙ ap done (recall-does p),
    )

pub recall-long : (T Q : ℕ) (p : Plain) → (key T Q Recall p ≡ refused LINE) ↔ ((¬ Exceeds T Q (recall_put_in p)) × LongLine (recall_put_in p))
recall-long T Q p =
    let so = ap (λ d. d.state) (recall-does p) in (
      λ e. let (good, within, long) = (refused-line T Q Recall p).0 e in (λ over. within (subst⁻¹ (Exceeds T Q) so over), subst LongLine so long),
      λ (within, long). (refused-line T Q Recall p).1 (recall-sound p.mode, λ over. within (subst (Exceeds T Q) so over), subst⁻¹ LongLine so long),
    )

-- ---- A deletion that found its place

-- RECALL straight after it: the text is as it was, cursor included, and the recall text is what the deletion made it.
recall-carried : (way : Direction) (passage : Option Passage) (s : Side) → 1 ≤ (carried Delete way passage s).report.steps
    → recalled (carried Delete way passage s).state ≡ reporting quiet (record { text = s.text; recall = (carried Delete way passage s).state.recall })
unfolding recalled carried
recall-carried way (Some passage) s some = λ i. reporting quiet (record { text = put_back way passage.steps s.text i; recall = removed way passage.steps s.text })
recall-carried way None s some = absurd (omega (arith, some))

pub recall-after-deletion : (way : Direction) (place : Place) (s : Side) → 1 ≤ (function Delete way place s).report.steps
    → recalled (function Delete way place s).state
    ≡ reporting quiet (record { text = s.text; recall = (function Delete way place s).state.recall })
unfolding function
recall-after-deletion way place s some = recall-carried way (passage_to way (is_at place way) s.text) s some

lines-with-recall : (recall : Doc) (p : Plain) → readable longest_line (with_recall recall p) ≡ readable longest_line p
lines-with-recall recall p = go p.mode
  where
    go : (mode : Mode) → readable longest_line (with_side mode (record { text = (side_of mode p).text; recall = recall }) p) ≡ readable longest_line p
    go Main = refl
    go Quoted = refl

fits-with-recall : (T Q : ℕ) (recall : Doc) (p : Plain) → fits T Q (with_recall recall p) ≡ fits T Q p
unfolding fits
fits-with-recall T Q recall p = go p.mode
  where
    go : (mode : Mode) → fits T Q (with_side mode (record { text = (side_of mode p).text; recall = recall }) p) ≡ fits T Q p
    go Main = refl
    go Quoted = refl

recalled-state : (way : Direction) (place : Place) (p : Plain)
    → let after = on_side (function Delete way place) p in 1 ≤ after.report.steps
    → on_side recalled after.state ≡ reporting quiet (with_recall (side_of p.mode after.state).recall p)
unfolding on_side
recalled-state way place p some =
    let s = side_of p.mode p in
    rw (side-with p.mode (function Delete way place s).state p)
    (on-side-twice (function Delete way place) recalled p
    ∙ ap (λ d. within (λ s. with_side p.mode s p) d) (recall-after-deletion way place s some))

-- RECALL after that, whatever mark there is: its own change moves the mark on.
recalled-marked : (mark : Option ℕ) (way : Direction) (place : Place) (p : Plain)
    → let after = on_side (function Delete way place) p in
    let q = with_mark mark after.state in 1 ≤ after.report.steps
    → pressed Recall q ≡ reporting quiet (with_mark (recall_put_in q).mark (with_recall (side_of p.mode after.state).recall p))
unfolding pressed acted change_of
recalled-marked mark way place p some =
    let q = with_mark mark (on_side (function Delete way place) p).state in
    let change = of_document q.mode (putting q.main.recall) in
    let back = on-side-marked recalled mark (on_side (function Delete way place) p).state ∙ ap (within (with_mark mark)) (recalled-state way place p some) in
    λ i. within (with_mark (mark_changed change q.main.text (on-side-mark recalled q i))) (back i)

module _ (T Q : ℕ) (way : Direction) (place : Place) (p : Plain) (did : Did Plain) (e : key T Q (Function Delete way place) p ≡ done did) where
  -- The same at the level of keys, in a session: where the deletion reported steps above 0, RECALL is not refused, and it leads back to the
  -- text and cursor before the deletion. Only the recall text is another, that of the deletion, and the mark is where the two changes lead it.
  pub recall-restores : SoundPlain T Q p → 1 ≤ did.report.steps
      → key T Q Recall did.state
      ≡ done (reporting quiet (with_mark (recall_put_in did.state).mark (with_recall (side_of p.mode did.state).recall p)))
  unfolding pressed acted sound_key
  recall-restores sound some =
      let (ok, room, lines, same) = (accepted T Q (Function Delete way place) p did).0 e in
      let after = on_side (function Delete way place) p in
      let mark = mark_changed (change_of (Function Delete way place) p after) p.main.text after.state.mark in
      let q = with_mark mark after.state in
      let recall = (side_of p.mode after.state).recall in
      let back = recalled-marked mark way place p (rw (← same) at some) in
      rw (← same, side-marked p.mode mark after.state)
      ((accepted T Q Recall q (reporting quiet (with_mark (recall_put_in q).mark (with_recall recall p)))).1 (
        refl,
        ap (λ d. fits T Q d.state) back ∙ (fits-marked T Q _ (with_recall recall p) ∙ (fits-with-recall T Q recall p ∙ sound-fits T Q p sound.texts)),
        ap (λ d. readable longest_line d.state) back ∙ (lines-with-recall recall p ∙ sound.texts.lines),
        back,
      ))

  -- With the bell it does what it would have done before the deletion: the older recall text goes in, or it is refused as FULL, which is
  -- exactly when the finished text would not fit, or as LINE.
  pub recall-older-refused : did.report.bell ≡ true → (key T Q Recall did.state ≡ refused FULL) ↔ Exceeds T Q (recall_put_in p)
  recall-older-refused bell = rw (function-rings T Q Delete way place p did e bell) (recall-refused T Q p)

  pub recall-older-long : did.report.bell ≡ true → (key T Q Recall did.state ≡ refused LINE) ↔ ((¬ Exceeds T Q (recall_put_in p)) × LongLine (recall_put_in p))
  recall-older-long bell = rw (function-rings T Q Delete way place p did e bell) (recall-long T Q p)

  pub recall-older-done : did.report.bell ≡ true
      → (key T Q Recall did.state ≡ done (reporting quiet (recall_put_in p))) ↔ ((¬ Exceeds T Q (recall_put_in p)) × (¬ LongLine (recall_put_in p)))
  recall-older-done bell = rw (function-rings T Q Delete way place p did e bell) (recall-done T Q p)

-- Without the steps this is false, and was true before M-103. At a| a deletion to the right takes the a away; one to the left then rings, and
-- RECALL puts the a back.
abbrev taken : Plain
taken = keys 1 1 (Function Delete Right Character ∷ []) (opening (97 ∷ []))

pub restores-not-always : ¬ ((T Q : ℕ) (way : Direction) (place : Place) (p : Plain) (did : Did Plain) → SoundPlain T Q p
    → key T Q (Function Delete way place) p ≡ done did
    → key T Q Recall did.state
    ≡ done (reporting quiet (with_mark (recall_put_in did.state).mark (with_recall (side_of p.mode did.state).recall p))))
unfolding every move delete times passed removed splice nearest distance newlines with_lines passage_to is_at sound_key carried function
    recalled on_side acted change_of mark_through pressed lines_fit none_longer lines longest_line fits bounded key keys
restores-not-always claim =
    let sound = keys-keep 1 1 (Function Delete Right Character ∷ []) (opening (97 ∷ [])) (opening-sound 1 1 1 (97 ∷ []) (omega arith) refl refl) in
    omega (arith, ap (λ o. length (content (after taken o).main.text)) (claim 1 1 Left Character taken (reporting rang taken) sound refl))

-- Moves keep the content of the text that they act on.
pub move-keeps : (T Q : ℕ) (way : Direction) (place : Place) (p : Plain) (did : Did Plain)
    → key T Q (Function Move way place) p ≡ done did
    → content (side_of p.mode did.state).text ≡ content (side_of p.mode p).text
unfolding pressed acted on_side function
move-keeps T Q way place p did e =
    let (ok, room, lines, same) = (accepted T Q (Function Move way place) p did).0 e in
    let s = side_of p.mode p in
    rw (← same, side-marked p.mode _ (with_side p.mode (function Move way place s).state p), side-with p.mode (function Move way place s).state p)
    (moved-content way (passage_to way (is_at place way) s.text) s)

-- Searches keep that of the document.
pub find-keeps : (T Q : ℕ) (way : Direction) (p : Plain) (did : Did Plain) → key T Q (Find way) p ≡ done did
    → content did.state.main.text ≡ content p.main.text
unfolding pressed acted found searched
find-keeps T Q way p did e =
    let (ok, room, lines, same) = (accepted T Q (Find way) p did).0 e in
    let q = with_pattern p.mode p in
    rw (← same)
    (moved-content way (passage_to way (matches q.pattern) q.main.text) q.main
    ∙ ap (λ s. content s.text) (same-document p.mode p))
