-- The search and the substitution on record and stores: what the code does on the document's side is what the plain editor says.
use Rattle.std.proofs.Common.{Option}
use mathlib.Core.Path.{◌≡◌, refl, sym, ap, ◌∙◌}
use mathlib.Core.Bool.{Bool, true, false}
use mathlib.Core.List.{List, ◌++◌}
use Prim.Native.Nat.{ℕ, ◌+◌, ◌-◌, ◌*◌, ◌≤◌}
use native.Mathlib.Nat.{zero-add}
use native.Mathlib.Omega.{arith}
use borrow.Author.Tests.{leb-true}
use lib.ListN.{length, take, drop, length-append, length-take, length-drop}
use lib.Seq.{take-take}
use Rattle.gap.specs.Rules.Sequence.{part, zeros}
use Rattle.gap.specs.Rules.Doc.{Doc, empty, content, splice}
use Rattle.gap.specs.Rules.LineLimits.{lines_fit}
use Rattle.gap.specs.Rules.Layout.{gapped, paired, ungap, unpair, IsGap}
use Rattle.gap.proofs.Laws.Tests.{and_left, cond-true, cond-false}
use Rattle.gap.proofs.Laws.Compared.{begins-fits}
use Rattle.gap.proofs.Laws.Doc.{splice-twice}
use Rattle.gap.proofs.Laws.Layout.{length-gapped, ungap-gapped}
use Rattle.gap.proofs.Laws.Moves.{gap_is}
use Rattle.editor.specs.Words.{Direction, Passage, Move, Main, Sizes, Lengths, Report}
use Rattle.editor.specs.Wording.Promise.{SideReply}
use Rattle.editor.specs.Rules.Bytes.{EditorReply}
use Rattle.editor.specs.Rules.Plain.{Side, Plain, quiet, rang, Did, reporting, within, done}
use Rattle.editor.specs.Rules.Passages.{passage_to}
use Rattle.editor.specs.Rules.LongLines.{longest_line, readable}
use Rattle.editor.specs.Rules.Keys.{carried, with_side, matches, searched, exchanged, substituted, fits, bounded}
use Rattle.editor.specs.Rules.Bytes.{Stores, quarter, sizes_of, plain_of, edited_to, SoundTexts}
use Rattle.editor.specs.Wording.Promise.{Sound, stores, done_reply, written, EditsSide, reply_of, SubstitutesUnheld}
use Rattle.editor.proofs.Laws.States.{sound-fits, searched-sound}
use Rattle.editor.proofs.Laws.Outcomes.{bounded-done}
use Rattle.editor.proofs.Laws.SideEdits.{landed, not-did}
use Rattle.editor.proofs.Laws.Replies.{on-side, landed as all-landed}
use Rattle.editor.proofs.Laws.Encoding.{session-encoded}
use Rattle.editor.proofs.Laws.Fitting.{Sized, sizes, fitting}

-- A store in which the first k bytes right of the cursor were dropped.
module _ (T k l r : ℕ) (d : Doc) (left : length d.l ≡ l) (right : length d.r ≡ r) (fits : l + r ≤ T)
    (s : List ℕ) (store : s ≡ gapped T (splice 0 k empty d)) where
  left-kept : length (splice 0 k empty d).l ≡ l
  unfolding splice
  left-kept = simp (length-append, length-take, left) (omega arith)

  right-less : length (splice 0 k empty d).r ≡ r - k
  unfolding splice
  right-less = simp (length-drop, right)

  less-fits : length (splice 0 k empty d).l + length (splice 0 k empty d).r ≤ T
  less-fits = rw (left-kept, right-less) (omega arith)

  dropped-gap : IsGap l (r - k) s
  dropped-gap = rw (store, ← left-kept, ← right-less) (gap_is T (splice 0 k empty d) less-fits)

  exchanged-text : (x : Doc) → gapped (length s) (splice 0 0 x (ungap l (r - k) s)) ≡ gapped T (splice 0 k x d)
  exchanged-text x =
      let same : length s ≡ T = rw store (length-gapped T (splice 0 k empty d) less-fits) in
      rw (same, store, ← left-kept, ← right-less, ungap-gapped T (splice 0 k empty d) less-fits, splice-twice)

-- What is known where the pattern stands right of the cursor and the finished text fits.
pub record Exchangeable (n : Lengths) (T : ℕ) : Type 0 where
  pub stands : n.pl ≤ n.main.r
  pub room : n.main.l + n.xl + (n.main.r - n.pl + n.xr) ≤ T

-- The document's sizes after that.
abbrev exchanged_by : Lengths → Sizes
exchanged_by n = record { l = n.main.l + n.xl; r = n.main.r - n.pl + n.xr; rl = 0; rr = n.pl }

module _ (Q : ℕ) (n : Lengths) (b : Stores) (sound : Sound Q n b) where
  abbrev p : Plain
  p = plain_of Q n b

  abbrev T : ℕ
  T = length b.text

  held : Sized n p
  held = sizes Q n b sound

  sound-held : SoundTexts T Q p
  sound-held = (session-encoded Q n b sound.tabled sound.ok).sound.texts

  -- The pattern and the replacement's store, as the code lends them.
  abbrev pattern_lent : List ℕ
  pattern_lent = take (2 * Q + n.pl - 2 * Q) (drop (2 * Q) b.side)

  abbrev replacement_lent : List ℕ
  replacement_lent = take (4 * Q - 3 * Q) (drop (3 * Q) b.side)

  pub pattern-lent : pattern_lent ≡ p.pattern
  unfolding plain_of unpair part
  pattern-lent =
      let e : 2 * Q + n.pl - 2 * Q ≡ n.pl = omega arith in
      rw e (sym (take-take n.pl Q (drop (2 * Q) b.side) (fitting Q n b sound).pattern))

  replacement-lent : unpair n.xl n.xr replacement_lent ≡ p.replacement
  unfolding plain_of part
  replacement-lent = let e : 4 * Q - 3 * Q ≡ Q = omega arith in rw e

  -- A key on the document's side that has room and leaves no line too long is done.
  main-done : (did : Did Side) (whole : Did Plain) → within (λ s. with_side Main s p) did ≡ whole → fits T Q whole.state ≡ true
      → readable longest_line whole.state ≡ true → (t : SideReply) (reply : EditorReply) (text recall : List ℕ) → reply ≡ reply_of Main n t
      → record { reply = t; text = text; recall = recall } ≡ written longest_line n.main b.text b.recall did
      → record { reply = reply; stores = stores text recall b.held b.side } ≡ edited_to Q n b (done whole)
  main-done did whole same room lines t reply text recall e turns =
      (λ i. record { reply = e i; stores = stores text recall b.held b.side }) ∙ all-landed Q n b sound Main did t text recall turns
      ∙ ap (λ did. edited_to Q n b (bounded T Q did)) same ∙ ap (edited_to Q n b) (bounded-done T Q whole room lines)

  -- ---- The search

  module _ (way : Direction) (answer found : Option Passage)
      (is : answer ≡ passage_to way (matches pattern_lent) (ungap n.main.l n.main.r b.text)) (told : answer ≡ found) where
    -- The passage that the code found, nowhere or so many bytes away, is the definition's.
    found_as : within (λ s. with_side Main s p) (carried Move way found p.main) ≡ searched way p
    unfolding searched plain_of
    found_as = rw (← told, is, pattern-lent)

    pub search-done : (t : SideReply) (reply : EditorReply) (text recall : List ℕ) → reply ≡ reply_of Main n t
        → EditsSide longest_line t n.main (carried Move way found) b.text b.recall text recall
        → record { reply = reply; stores = stores text recall b.held b.side } ≡ edited_to Q n b (done (searched way p))
    unfolding plain_of
    search-done t reply text recall e turns =
        let after = searched-sound T Q way p sound-held in
        main-done (carried Move way found p.main) (searched way p) found_as (sound-fits T Q _ after) after.lines t reply text recall e turns

  -- ---- The substitution

  pub pattern-stands : matches p.pattern p.main.text ≡ true → n.pl ≤ n.main.r
  pattern-stands match = omega (arith, begins-fits p.pattern p.main.text.r match, held.pattern, held.right)

  -- Where the pattern does not stand right of the cursor there is only the bell.
  pub substitute-rings : matches p.pattern p.main.text ≡ false
      → {reply : EditorReply} {report : Report} → reply ≡ record { code = 0; report = report; lengths = n } → report ≡ rang
      → record { reply = reply; stores = b } ≡ edited_to Q n b (done (substituted p))
  unfolding substituted plain_of
  substitute-rings no-match {reply} e said =
      let same : reporting rang p ≡ substituted p = sym (cond-false _ _ no-match) in
      let room = ap (λ did. fits T Q did.state) (sym same) ∙ sound-fits T Q p sound-held in
      let lines = ap (λ did. readable longest_line did.state) (sym same) ∙ sound-held.lines in
      main-done (reporting rang p.main) (substituted p) same room lines (done_reply rang n.main) reply b.text b.recall
      (e ∙ λ i. record { code = 0; report = said i; lengths = n })
      (not-did (on-side Q n b sound Main) refl refl)

  -- The pattern is dropped, the replacement goes in around the cursor, and the pattern is all that the recall store then holds.
  module _ (dropped : List ℕ) (less : dropped ≡ gapped T (splice 0 n.pl empty (ungap n.main.l n.main.r b.text))) where
    pub pattern-dropped : IsGap n.main.l (n.main.r - n.pl) dropped
    unfolding plain_of
    pattern-dropped = dropped-gap T _ _ _ p.main.text held.left held.right (fitting Q n b sound).document dropped less

    replacement-placed :
        gapped (length dropped)
        (splice 0 0 (unpair n.xl n.xr replacement_lent) (ungap n.main.l (n.main.r - n.pl) dropped))
        ≡ gapped T (exchanged p).text
    unfolding plain_of exchanged
    replacement-placed =
        rw replacement-lent
        (exchanged-text T _ _ _ p.main.text held.left held.right (fitting Q n b sound).document dropped less p.replacement
        ∙ ap (λ k. gapped T (splice 0 k p.replacement p.main.text)) (sym held.pattern))

  pattern-recalled : pattern_lent ++ zeros (length b.recall - length pattern_lent) ≡ paired (length b.recall) (exchanged p).recall
  unfolding exchanged paired
  pattern-recalled = rw (pattern-lent, zero-add)

  exchanged-left : length (exchanged p).text.l ≡ n.main.l + n.xl
  unfolding exchanged splice
  exchanged-left = simp (length-append, length-take, held.left, held.first) (omega arith)

  exchanged-right : length (exchanged p).text.r ≡ n.main.r - n.pl + n.xr
  unfolding exchanged splice
  exchanged-right = simp (length-append, length-drop, held.right, held.second, held.pattern) (omega arith)

  exchanged-sizes : exchanged_by n ≡ sizes_of (exchanged p)
  unfolding exchanged
  exchanged-sizes = λ i. record { l = sym exchanged-left i; r = sym exchanged-right i; rl = 0; rr = sym held.pattern i }

  module _ (match : matches p.pattern p.main.text ≡ true) (room : fits T Q (substituted p).state ≡ true)
      (lines : readable longest_line (substituted p).state ≡ true) where
    exchanged-as : reporting quiet (with_side Main (exchanged p) p) ≡ substituted p
    unfolding substituted
    exchanged-as = sym (cond-true _ _ match)

    exchanged-fits : length (exchanged p).text.l + length (exchanged p).text.r ≤ T
    unfolding fits
    exchanged-fits =
        rw (← length-append) (leb-true _ _ (and_left _ _ (ap (λ did. fits T Q did.state) exchanged-as ∙ room)))

    exchanged-lines : lines_fit longest_line (content (exchanged p).text) ≡ true
    exchanged-lines = ap (λ did. readable longest_line did.state) exchanged-as ∙ lines

    pub exchangeable : Exchangeable n T
    exchangeable = record { stands = pattern-stands match; room = rw (exchanged-left, exchanged-right) at exchanged-fits }

    pub substitute-done : (dropped text recall : List ℕ) (reply : EditorReply)
        → dropped ≡ gapped T (splice 0 n.pl empty (ungap n.main.l n.main.r b.text))
        → text ≡ gapped (length dropped)
        (splice 0 0 (unpair n.xl n.xr replacement_lent) (ungap n.main.l (n.main.r - n.pl) dropped))
        → recall ≡ pattern_lent ++ zeros (length b.recall - length pattern_lent)
        → {t : SideReply} {report : Report} → reply ≡ reply_of Main n t → t ≡ done_reply report (exchanged_by n) → report ≡ quiet
        → record { reply = reply; stores = stores text recall b.held b.side } ≡ edited_to Q n b (done (substituted p))
    substitute-done dropped text recall reply less e f lifted answer said =
        main-done (reporting quiet (exchanged p)) (substituted p) exchanged-as room lines _ reply text recall lifted
        (landed longest_line n.main b.text b.recall (reporting quiet (exchanged p)) answer said exchanged-fits exchanged-lines exchanged-sizes
        (e ∙ replacement-placed dropped less) (f ∙ pattern-recalled))

-- What is known before a substitution says so much where the pattern stands.
pub exchange-known : {here : Bool} {n : Lengths} {text recall side : List ℕ} → SubstitutesUnheld here n text recall side → here ≡ true
    → Exchangeable n (length text)
exchange-known asked here = exchangeable quarter _ _ asked.1 (sym asked.2.known ∙ here) asked.2.room asked.2.lines
