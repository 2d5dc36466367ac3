-- Steps and bell on every session: of moves and deletions, in MAIN and in QUOTED, the distance to the place; of FIND and UPFIND the
-- distance to the nearest match. With them the lines crossed. (01, plain editor: distance, search. 02, M-104.)
use mathlib.Core.Path.{◌≡◌, refl, sym, ap, ap₂, subst⁻¹, ◌∙◌}
use mathlib.Core.Logic.{◌≢◌}
use mathlib.Core.Bool.{cond}
use Prim.Native.Nat.{ℕ, ◌≤◌}
use Rattle.gap.specs.Rules.Doc.{move, times}
use Rattle.gap.proofs.Laws.Tests.{clash}
use Rattle.editor.specs.Rules.Refusals.{FULL, LINE}
use Rattle.editor.specs.Rules.Places.{is_at}
use Rattle.editor.specs.Rules.Passages.{lines_passed, passage_to}
use Rattle.editor.specs.Rules.Plain.{Plain, quiet, rang, refused}
use Rattle.editor.specs.Rules.Keys.{sound_key, inserted, function, recalled, side_of, with_side, on_side, quoted, with_pattern, matches, searched, found}
use Rattle.editor.specs.Rules.Keys.{replaced, marked_here, pasted, acted, pressed, key, after, Unsound, Exceeds}
use Rattle.editor.specs.Rules.Bytes.{quarter, SoundTexts}
use Rattle.editor.proofs.Laws.States.{side-with, same-document}
use Rattle.editor.proofs.Laws.MarkedStates.{side-marked}
use Rattle.editor.proofs.Theorems.LinesCrossed.{lines-within}
use Rattle.editor.proofs.Theorems.Refusals.{key-unsound, refused_full, refused-line, function-never-full, find-never-full}
use Rattle.editor.proofs.Theorems.LongLines.{move-never-line, find-never-line}
use Rattle.window.specs.Words.{Direction, Action, Move, Place, Mode, Main, Session, Key, Insert, Function, Recall, Quote, Find, Replace, Mark, Paste}
use Rattle.window.specs.Rules.Window.{row_of, virtual}
use Rattle.window.specs.Rules.Core.{Lent, T, held, shown, finished, keyed}
use Rattle.window.specs.Wording.Demands.{OnSession, StepsTo, text_in, pattern_in, singly, Crosses, RowsApart}
use Rattle.window.proofs.Laws.Views.{session-view}
use Rattle.window.proofs.Laws.Reports.{side-text, sought, replaced-told, told, carried-told, told-steps, carried-text}
use Rattle.window.proofs.Laws.Reports.{mode-with, pattern-mode, reported-lines, steps-cross, steps_apart, main-row, main-text}
use Rattle.window.proofs.Theorems.Sessions.{session-keyed, key-follows}
use Rattle.window.proofs.Theorems.KeyDoes.{key-plain, key-outcome, keyed-does}

find-sound : (mode : Mode) (way : Direction) → ¬ Unsound mode (Find way)
unfolding sound_key
find-sound mode way bad = clash refl ((key-unsound mode (Find way)).1 bad)

module _ (s : Session) (b : Lent) (on : OnSession s b) where
  abbrev state : Plain
  state = held s b.stores

  sound : SoundTexts (T b.stores) quarter state
  sound = (session-view s b on.fit on.ok).good.sound.texts

  -- A key that gets neither KEY nor FULL nor LINE is accepted, and reports and leaves what the plain editor does.
  short-accepted : (k : Key) → ¬ Unsound state.mode k → ¬ (key (T b.stores) quarter k state ≡ refused FULL)
      → ¬ (key (T b.stores) quarter k state ≡ refused LINE) → (keyed s k b).answer.code ≡ 0
  short-accepted k good short fits =
      let within : ¬ Exceeds (T b.stores) quarter (pressed k state).state =
      λ over. short ((refused_full (T b.stores) quarter k state).1 (good, over)) in
      (keyed-does s k b).accepted.1 (on, good, within, λ long. fits ((refused-line (T b.stores) quarter k state).1 (good, within, long)))

  -- A call says LINE where the plain editor does.
  line-said : (k : Key) → (keyed s k b).answer.code ≢ LINE → ¬ (key (T b.stores) quarter k state ≡ refused LINE)
  unfolding finished
  line-said k other e = other (ap (λ o. o.answer.code) (session-keyed s k b on.fit on.ok ∙ ap (finished s b) e))

  -- A move never gets it. (02, M-106.)
  pub move-fits : (way : Direction) (place : Place) → (keyed s (Function Move way place) b).answer.code ≢ LINE
  move-fits way place e =
      let (plain-on, good, within, long) = (keyed-does s (Function Move way place) b).line.0 e in
      move-never-line (T b.stores) quarter state sound way place
      ((refused-line (T b.stores) quarter (Function Move way place) state).1 (good, within, long))

  module _ (k : Key) (accepts : (keyed s k b).answer.code ≡ 0) where
    key-reports : (keyed s k b).answer.report ≡ (pressed k state).report
    unfolding finished shown
    key-reports = ap (λ o. o.answer.report) (key-outcome s k b accepts)

    key-leads : held (keyed s k b).session (keyed s k b).lent.stores ≡ (pressed k state).state
    key-leads = (key-follows s k b on.fit on.ok).holds ∙ ap (after state) (key-plain s k b accepts)

  -- A move or deletion, of the document in MAIN and of the quotation in QUOTED, that is not one of the two that get KEY, and no deletion that
  -- joins two lines to one that is too long.
  module _ (action : Action) (way : Direction) (place : Place) (good : ¬ Unsound state.mode (Function action way place))
      (fits : (keyed s (Function action way place) b).answer.code ≢ LINE) where
    abbrev function-key : Key
    function-key = Function action way place

    pub function-accepted : (keyed s (Function action way place) b).answer.code ≡ 0
    function-accepted =
        short-accepted function-key good (function-never-full (T b.stores) quarter state sound action way place) (line-said function-key fits)

    function-told : (keyed s function-key b).answer.report ≡ told (passage_to way (is_at place way) (text_in state.mode state))
    unfolding pressed acted on_side function
    function-told =
        key-reports function-key function-accepted
        ∙ carried-told action way _ (side_of state.mode state)
        ∙ ap (λ d. told (passage_to way (is_at place way) d)) (side-text state.mode state)

    -- Its steps are the distance to the place; the bell rings exactly when there is none.
    pub function-steps : StepsTo way (is_at place way) (text_in state.mode state) (keyed s (Function action way place) b)
    function-steps = told-steps way (is_at place way) (text_in state.mode state) (keyed s function-key b) function-accepted function-told

    -- And the text that it leaves is that many single steps away.
    pub function-text : let o = keyed s (Function action way place) b in
        text_in state.mode (held o.session o.lent.stores) ≡ times (singly action way) o.answer.report.steps (text_in state.mode state)
    unfolding pressed acted on_side function
    function-text =
        let side = side_of state.mode state in
        ap (text_in state.mode) (key-leads function-key function-accepted)
        ∙ sym (side-text state.mode _)
        ∙ ap (λ t. t.text) (side-marked state.mode _ (with_side state.mode (function action way place side).state state))
        ∙ ap (λ t. t.text) (side-with state.mode (function action way place side).state state)
        ∙ carried-text action way _ side
        ∙ ap₂ (times (singly action way)) (ap (λ r. r.steps) (sym (key-reports function-key function-accepted))) (side-text state.mode state)

    -- Its lines are the newlines that it crossed, and never more than its steps. (02, M-104.)
    function-counted : let report = (keyed s (Function action way place) b).answer.report in
        report.lines ≡ lines_passed way report.steps (text_in state.mode state)
    function-counted = reported-lines way (is_at place way) (text_in state.mode state) function-told

    pub function-crosses : let o = keyed s (Function action way place) b in
        Crosses action way (text_in state.mode state) (text_in state.mode (held o.session o.lent.stores)) o.answer.report.lines
    function-crosses =
        let d = text_in state.mode state in
        let report = (keyed s function-key b).answer.report in
        subst⁻¹ (λ e. Crosses action way d e report.lines) function-text
        (subst⁻¹ (Crosses action way d (times (singly action way) report.steps d)) function-counted (steps-cross action way report.steps d))

    pub function-lines : let report = (keyed s (Function action way place) b).answer.report in report.lines ≤ report.steps
    function-lines =
        subst⁻¹ (λ n. n ≤ (keyed s function-key b).answer.report.steps) function-counted
        (lines-within way (keyed s function-key b).answer.report.steps (text_in state.mode state))

    -- In MAIN the cursor's row changes by so many, up or down.
    kept-mode : (held (keyed s function-key b).session (keyed s function-key b).lent.stores).mode ≡ state.mode
    unfolding pressed acted on_side
    kept-mode =
        ap (λ p. p.mode) (key-leads function-key function-accepted)
        ∙ mode-with state.mode (function action way place (side_of state.mode state)).state state

    pub function-rows : let o = keyed s (Function action way place) b in state.mode ≡ Main
        → RowsApart action way (row_of (virtual state)) (row_of (virtual (held o.session o.lent.stores))) o.answer.report.lines
    function-rows main =
        let o = keyed s function-key b in
        let later = held o.session o.lent.stores in
        let d = text_in state.mode state in
        let report = o.answer.report in
        let before = main-row state main ∙ ap row_of (sym (main-text state main)) in
        let stays = kept-mode ∙ main in
        let after = main-row later stays ∙ ap row_of (sym (ap (λ mode. text_in mode later) main) ∙ function-text) in
        subst⁻¹ (λ row. RowsApart action way row (row_of (virtual later)) report.lines) before
        (subst⁻¹ (λ row. RowsApart action way (row_of d) row report.lines) after
        (subst⁻¹ (RowsApart action way (row_of d) (row_of (times (singly action way) report.steps d))) function-counted
        (steps_apart action way report.steps d)))

  -- FIND and UPFIND, in QUOTED with the quotation as the new pattern: the distance is to the nearest match in the document.
  module _ (way : Direction) where
    pub find-accepted : (keyed s (Find way) b).answer.code ≡ 0
    find-accepted =
        short-accepted (Find way) (find-sound state.mode way) (find-never-full (T b.stores) quarter state sound way)
        (find-never-line (T b.stores) quarter state sound way)

    find-told : (keyed s (Find way) b).answer.report ≡ told (passage_to way (matches (pattern_in state.mode state)) state.main.text)
    unfolding pressed acted found searched
    find-told =
        key-reports (Find way) find-accepted
        ∙ carried-told Move way _ (with_pattern state.mode state).main
        ∙ ap₂ (λ pattern d. told (passage_to way (matches pattern) d)) (sought state.mode state) (ap (λ t. t.text) (same-document state.mode state))

    pub find-steps : StepsTo way (matches (pattern_in state.mode state)) state.main.text (keyed s (Find way) b)
    find-steps = told-steps way (matches (pattern_in state.mode state)) state.main.text (keyed s (Find way) b) find-accepted find-told

    pub find-text : let o = keyed s (Find way) b in
        (held o.session o.lent.stores).main.text ≡ times (move way) o.answer.report.steps state.main.text
    unfolding pressed acted found searched
    find-text =
        let side = (with_pattern state.mode state).main in
        ap (λ p. p.main.text) (key-leads (Find way) find-accepted)
        ∙ carried-text Move way _ side
        ∙ ap₂ (times (move way)) (ap (λ r. r.steps) (sym (key-reports (Find way) find-accepted))) (ap (λ t. t.text) (same-document state.mode state))

    find-counted : let report = (keyed s (Find way) b).answer.report in report.lines ≡ lines_passed way report.steps state.main.text
    find-counted = reported-lines way (matches (pattern_in state.mode state)) state.main.text find-told

    pub find-crosses : let o = keyed s (Find way) b in
        Crosses Move way state.main.text (held o.session o.lent.stores).main.text o.answer.report.lines
    find-crosses =
        let d = state.main.text in
        let report = (keyed s (Find way) b).answer.report in
        subst⁻¹ (λ e. Crosses Move way d e report.lines) find-text
        (subst⁻¹ (Crosses Move way d (times (move way) report.steps d)) find-counted (steps-cross Move way report.steps d))

    pub find-lines : let report = (keyed s (Find way) b).answer.report in report.lines ≤ report.steps
    find-lines =
        subst⁻¹ (λ n. n ≤ (keyed s (Find way) b).answer.report.steps) find-counted
        (lines-within way (keyed s (Find way) b).answer.report.steps state.main.text)

    -- After a search the mode is MAIN; from MAIN on the rows are so many apart.
    found-mode : (held (keyed s (Find way) b).session (keyed s (Find way) b).lent.stores).mode ≡ Main
    unfolding pressed acted found searched
    found-mode = ap (λ p. p.mode) (key-leads (Find way) find-accepted) ∙ pattern-mode state.mode state refl

    pub find-rows : let o = keyed s (Find way) b in state.mode ≡ Main
        → RowsApart Move way (row_of (virtual state)) (row_of (virtual (held o.session o.lent.stores))) o.answer.report.lines
    find-rows main =
        let o = keyed s (Find way) b in
        let later = held o.session o.lent.stores in
        let d = state.main.text in
        let report = o.answer.report in
        subst⁻¹ (λ row. RowsApart Move way row (row_of (virtual later)) report.lines) (main-row state main)
        (subst⁻¹ (λ row. RowsApart Move way (row_of d) row report.lines) (main-row later found-mode ∙ ap row_of find-text)
        (subst⁻¹ (RowsApart Move way (row_of d) (row_of (times (move way) report.steps d))) find-counted (steps_apart Move way report.steps d)))

  -- INSERT, RECALL, QUOTE, MARK and PASTE report 0 steps, 0 lines and no bell, and so does REPLACE at a match. Elsewhere REPLACE reports 0 steps, 0 lines
  -- and the bell.
  pub insert-quiet : (byte : ℕ) → (keyed s (Insert byte) b).answer.code ≡ 0 → (keyed s (Insert byte) b).answer.report ≡ quiet
  unfolding pressed acted on_side inserted
  insert-quiet byte accepts = key-reports (Insert byte) accepts

  pub recall-quiet : (keyed s Recall b).answer.code ≡ 0 → (keyed s Recall b).answer.report ≡ quiet
  unfolding pressed acted on_side recalled
  recall-quiet accepts = key-reports Recall accepts

  pub quote-quiet : (keyed s Quote b).answer.code ≡ 0 → (keyed s Quote b).answer.report ≡ quiet
  unfolding pressed acted quoted
  quote-quiet accepts = key-reports Quote accepts

  pub mark-quiet : (keyed s Mark b).answer.code ≡ 0 → (keyed s Mark b).answer.report ≡ quiet
  unfolding pressed acted marked_here
  mark-quiet accepts = key-reports Mark accepts

  pub paste-quiet : (keyed s Paste b).answer.code ≡ 0 → (keyed s Paste b).answer.report ≡ quiet
  unfolding pressed acted pasted recalled
  paste-quiet accepts = key-reports Paste accepts

  pub replace-reports : (keyed s Replace b).answer.code ≡ 0
      → (keyed s Replace b).answer.report ≡ cond (matches state.pattern state.main.text) quiet rang
  unfolding pressed acted replaced
  replace-reports accepts = key-reports Replace accepts ∙ replaced-told state.mode state
