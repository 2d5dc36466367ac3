-- Replies to keys: what a session gives each of its sides, and what a key on one side is on all four stores.
use mathlib.Core.Path.{◌≡◌, refl, sym, ap, ◌∙◌}
use mathlib.Core.Logic.{⊎_elim}
use mathlib.Core.Bool.{Bool, true, false, cond, and-true}
use mathlib.Core.List.{List, ◌++◌, append_assoc}
use Prim.Native.Nat.{ℕ, ◌*◌, ◌≤◌}
use native.Mathlib.Omega.{arith}
use lib.Dec.{leb}
use lib.ListN.{length, drop, length-append}
use lib.Seq.{drop_at}
use borrow.Author.Tests.{le-leb, ne_eqb}
use Rattle.gap.specs.Rules.Sequence.{patch, zeros}
use Rattle.gap.specs.Rules.Doc.{empty, content}
use Rattle.gap.specs.Rules.Layout.{gapped, paired}
use Rattle.gap.specs.Rules.LineLimits.{lines_fit}
use Rattle.gap.proofs.Laws.Tests.{decided, cond-true, cond-false}
use Rattle.gap.proofs.Laws.LineLimits.{fit-short}
use Rattle.gap.proofs.Laws.Layout.{length-gapped, length-paired, is-gap, is-pair}
use Rattle.editor.specs.Words.{Mode, Main, Quoted, Sizes, Lengths, Report}
use Rattle.editor.specs.Rules.Bytes.{EditorReply}
use Rattle.editor.specs.declared.refusals.Refusal.{Refusal}
use Rattle.editor.specs.Rules.Refusals.{FULL, LINE, number}
use Rattle.editor.specs.Rules.Plain.{Side, empty_side, Plain, quiet, Did, within, refused, done}
use Rattle.editor.specs.Rules.LongLines.{longest_line, readable}
use Rattle.editor.specs.Rules.Keys.{side_of, with_side, on_side, other_mode, quoted, fits, bounded}
use Rattle.editor.specs.Rules.Bytes.{Stores, Edited, quarter_of, alone, sizes_of, plain_of, lengths_of, stores_of, unedited, edited_to, SoundTexts, Encoded}
use Rattle.editor.specs.Wording.Promise.{OnSide, SideReply, side_held, SideEdited, written, EditsSide, Sound, stores, cleared, refused_reply, sized_in, reply_of}
use Rattle.gap.proofs.Laws.Holdable.{content-fits}
use Rattle.editor.proofs.Laws.Quarters.{length-quarter}
use Rattle.editor.proofs.Laws.Quotation.{two-quarters, quotation-cleared}
use Rattle.editor.proofs.Laws.Refusals.{numbered}
use Rattle.editor.proofs.Laws.Session.{measured, passed}
use Rattle.editor.proofs.Laws.Encoding.{session-encoded}
use Rattle.editor.proofs.Laws.States.{limit, line_limit, fits-side, quoted-sound}
use Rattle.editor.proofs.Laws.Outcomes.{bounded-sound}

-- The lengths and the two stores of the side that a mode names.
abbrev pub sizes_at : Mode → Lengths → Sizes
sizes_at Main n = n.main
sizes_at Quoted n = n.quoted

abbrev pub text_at : ℕ → Mode → Stores → List ℕ
text_at Q Main b = b.text
text_at Q Quoted b = quarter_of Q 0 b.side

abbrev pub recall_at : ℕ → Mode → Stores → List ℕ
recall_at Q Main b = b.recall
recall_at Q Quoted b = quarter_of Q 1 b.side

-- The stores with another text and another recall text on that side.
abbrev pub placed : ℕ → Mode → List ℕ → List ℕ → Stores → Stores
placed Q Main text recall b = stores text recall b.held b.side
placed Q Quoted text recall b = stores b.text b.recall b.held (text ++ (recall ++ drop (2 * Q) b.side))

placed_same : (Q : ℕ) (m : Mode) (b : Stores) → placed Q m (text_at Q m b) (recall_at Q m b) b ≡ b
placed_same Q Main b = refl
placed_same Q Quoted b = ap (stores b.text b.recall b.held) (two-quarters Q b.side)

-- Stores that differ in the quotation's two quarters only.
quotation-placed : (Q : ℕ) (b : Stores) (then : List ℕ) → drop (2 * Q) then ≡ drop (2 * Q) b.side
    → stores b.text b.recall b.held then ≡ placed Q Quoted (quarter_of Q 0 then) (quarter_of Q 1 then) b
quotation-placed Q b then e =
    sym (placed_same Q Quoted (stores b.text b.recall b.held then))
    ∙ ap (λ rest. stores b.text b.recall b.held (quarter_of Q 0 then ++ (quarter_of Q 1 then ++ rest))) e

-- The pattern and the replacement stand behind the quotation's two quarters.
behind-quotation : (T Q : ℕ) (p : Plain) → SoundTexts T Q p
    → drop (2 * Q) (stores_of T Q p).side ≡ paired Q (alone p.pattern) ++ paired Q p.replacement
unfolding stores_of
behind-quotation T Q p sound =
    let text = gapped Q p.quoted.text in
    let recall = paired Q p.quoted.recall in
    let one = length-gapped Q p.quoted.text sound.quotation.fits in
    let other = length-paired Q p.quoted.recall sound.its_recall.fits in
    ap (drop (2 * Q)) (sym (append_assoc text recall _)) ∙ drop_at (text ++ recall) _ (2 * Q) (rw length-append (omega arith))

-- A sound state with another side: its encoding, when it fits, and its lengths.
module _ (T Q : ℕ) (s : Side) (p : Plain) (sound : SoundTexts T Q p) where
  placed-with : (m : Mode) → placed Q m (gapped (limit T Q m) s.text) (paired (limit T Q m) s.recall) (stores_of T Q p)
      ≡ stores_of T Q (with_side m s p)
  unfolding stores_of
  placed-with Main = refl
  placed-with Quoted =
      ap (λ rest. stores (gapped T p.main.text) (paired T p.main.recall) (paired T p.held) (gapped Q s.text ++ (paired Q s.recall ++ rest)))
      (behind-quotation T Q p sound)

  fits-with : (m : Mode) → leb (length (content s.text)) (limit T Q m) ≡ fits T Q (with_side m s p)
  unfolding fits
  fits-with Main = rw (le-leb _ _ (content-fits Q p.quoted.text sound.quotation), and-true)
  fits-with Quoted = rw (le-leb _ _ (content-fits T p.main.text sound.text))

  -- The lines of the side are the document's; or they are the quotation's, which are short, and the document's are as they were.
  lines-with : (m : Mode) → fits T Q (with_side m s p) ≡ true → lines_fit (line_limit Q m) (content s.text) ≡ readable longest_line (with_side m s p)
  lines-with Main room = refl
  lines-with Quoted room = fit-short Q (content s.text) (fits-side T Q Quoted (with_side Quoted s p) room) ∙ sym sound.lines

-- What is refused on one side is refused on the whole layer.
pub lifted-refused : (m : Mode) (n : Lengths) (sizes : Sizes) (e : Refusal) → unedited (number e) n ≡ reply_of m n (refused_reply (number e) sizes)
lifted-refused m n sizes e = sym (cond-false _ _ (ne_eqb _ _ (numbered e)))

sized-with : (m : Mode) (s : Side) (p : Plain) → sized_in m (sizes_of s) (lengths_of p) ≡ lengths_of (with_side m s p)
unfolding lengths_of
sized-with Main s p = refl
sized-with Quoted s p = refl

module _ (Q : ℕ) (n : Lengths) (b : Stores) (sound : Sound Q n b) where
  abbrev T : ℕ
  T = length b.text

  -- The plain state held, of which record and stores are the encoding.
  abbrev p : Plain
  p = plain_of Q n b

  encoded : Encoded Q n b
  encoded = session-encoded Q n b sound.tabled sound.ok

  quarter-long : (i : ℕ) → i ≤ 3 → length (quarter_of Q i b.side) ≡ Q
  quarter-long i h = length-quarter Q 3 i b.side (measured Q b sound.tabled).side h

  -- Either side has what a key on it asks.
  pub on-side : (m : Mode) → OnSide (line_limit Q m) (sizes_at m n) (text_at Q m b) (recall_at Q m b)
  unfolding plain_of
  on-side Main =
      let tests = passed Q n b sound.ok in
      record {
        gap = is-gap _ _ _ tests.text;
        pair = is-pair _ _ _ tests.recall;
        same = (measured Q b sound.tabled).recall;
        lines = tests.lines;
      }
  on-side Quoted =
      let tests = passed Q n b sound.ok in
      record {
        gap = is-gap _ _ _ tests.quotation;
        pair = is-pair _ _ _ tests.its_recall;
        same = quarter-long 1 (omega arith) ∙ sym (quarter-long 0 (omega arith));
        lines = fit-short Q _ (content-fits Q p.quoted.text encoded.sound.texts.quotation);
      }

  length-text : (m : Mode) → length (text_at Q m b) ≡ limit T Q m
  length-text Main = refl
  length-text Quoted = quarter-long 0 (omega arith)

  length-recall : (m : Mode) → length (recall_at Q m b) ≡ limit T Q m
  length-recall m = (on-side m).same ∙ length-text m

  -- What a key on a side answers, as an answer on all four stores.
  answer : Mode → SideEdited → Edited
  answer m t = record { reply = reply_of m n t.reply; stores = placed Q m t.text t.recall b }

  module _ (m : Mode) (did : Did Side) where
    -- The side that it leaves, and all of it.
    abbrev left : Side
    left = did.state

    abbrev all : Did Plain
    all = within (λ s. with_side m s p) did

    lengths-with : sized_in m (sizes_of left) n ≡ lengths_of all.state
    lengths-with = ap (sized_in m (sizes_of left)) (sym encoded.lengths) ∙ sized-with m left p

    stores-with : placed Q m (gapped (length (text_at Q m b)) left.text) (paired (length (recall_at Q m b)) left.recall) b
        ≡ stores_of T Q all.state
    stores-with =
        (λ i. placed Q m (gapped (length-text m i) left.text) (paired (length-recall m i) left.recall) (sym encoded.stores i))
        ∙ placed-with T Q left p encoded.sound.texts m

    abbrev given : SideEdited
    given = written (line_limit Q m) (sizes_at m n) (text_at Q m b) (recall_at Q m b) did

    room-asked : leb (length (content left.text)) (length (text_at Q m b)) ≡ fits T Q all.state
    room-asked = ap (leb (length (content left.text))) (length-text m) ∙ fits-with T Q left p encoded.sound.texts m

    answered-full : fits T Q all.state ≡ false → answer m given ≡ edited_to Q n b (refused FULL)
    unfolding written answer
    answered-full room = ap (answer m) (cond-false _ _ (room-asked ∙ room)) ∙ λ i. record { reply = unedited FULL n; stores = placed_same Q m b i }

    answered : fits T Q all.state ≡ true → (lines : Bool) → lines_fit (line_limit Q m) (content left.text) ≡ lines
        → answer m given ≡ edited_to Q n b (cond lines (done all) (refused LINE))
    unfolding written answer
    answered room true fit = ap (answer m) (cond-true _ _ (room-asked ∙ room) ∙ cond-true _ _ fit) ∙ λ i. record {
      reply = record { code = 0; report = did.report; lengths = lengths-with i };
      stores = stores-with i;
    }
    answered room false fit =
        ap (answer m) (cond-true _ _ (room-asked ∙ room) ∙ cond-false _ _ fit) ∙ λ i. record { reply = unedited LINE n; stores = placed_same Q m b i }

    -- A key on a side, done or refused, is that key on all four stores: the side that it leaves alone fits anyway, and so do its lines.
    pub landed : (t : SideReply) (text recall : List ℕ) → record { reply = t; text = text; recall = recall } ≡ given
        → record { reply = reply_of m n t; stores = placed Q m text recall b } ≡ edited_to Q n b (bounded T Q (within (λ s. with_side m s p) did))
    unfolding answer bounded
    landed t text recall e =
        ap (answer m) e
        ∙ ⊎_elim
        (λ room. answered room _ (lines-with T Q left p encoded.sound.texts m room) ∙ ap (edited_to Q n b) (sym (cond-true _ _ room)))
        (λ room. answered-full room ∙ ap (edited_to Q n b) (sym (cond-false _ _ room)))
        (decided (fits T Q all.state))

  side-held : (m : Mode) → side_held (sizes_at m n) (text_at Q m b) (recall_at Q m b) ≡ side_of m p
  unfolding plain_of
  side-held Main = refl
  side-held Quoted = refl

  -- So a key on the mode's side does what the plain editor says.
  pub on-mode : (m : Mode) (edit : Side → Did Side) (r : EditorReply) (t : SideReply) (text recall : List ℕ)
      → n.mode ≡ m → r ≡ reply_of n.mode n t → EditsSide (line_limit Q m) t (sizes_at m n) edit (text_at Q m b) (recall_at Q m b) text recall
      → record { reply = r; stores = placed Q m text recall b } ≡ edited_to Q n b (bounded T Q (on_side edit p))
  unfolding plain_of on_side
  on-mode m edit r t text recall mode reply turns =
      let outcome : Mode → Side → Edited = λ m s. edited_to Q n b (bounded T Q (within (λ s. with_side m s p) (edit s))) in
      (λ i. record { reply = (reply ∙ ap (λ m. reply_of m n t) mode) i; stores = placed Q m text recall b })
      ∙ landed m (edit (side_held (sizes_at m n) (text_at Q m b) (recall_at Q m b))) t text recall turns
      ∙ ap (outcome m) (side-held m)
      ∙ ap (λ m. outcome m (side_of m p)) (sym mode)

  -- The same on the quotation's side, whose two quarters lie in the side store.
  pub on-quotation : (edit : Side → Did Side) (r : EditorReply) (t : SideReply) (side : List ℕ)
      → n.mode ≡ Quoted → r ≡ reply_of n.mode n t
      → EditsSide Q t n.quoted edit (quarter_of Q 0 b.side) (quarter_of Q 1 b.side) (quarter_of Q 0 side) (quarter_of Q 1 side)
      → drop (2 * Q) side ≡ drop (2 * Q) b.side
      → record { reply = r; stores = stores b.text b.recall b.held side } ≡ edited_to Q n b (bounded T Q (on_side edit p))
  on-quotation edit r t side mode reply turns rest =
      (λ i. record { reply = r; stores = quotation-placed Q b side rest i })
      ∙ on-mode Quoted edit r t (quarter_of Q 0 side) (quarter_of Q 1 side) mode reply turns

  -- QUOTE: both of the quotation's quarters become free.
  pub quote-done : {r : EditorReply} {report : Report} {m : Lengths} (side : List ℕ) → r ≡ record { code = 0; report = report; lengths = m }
      → report ≡ quiet → m ≡ cleared (other_mode n.mode) n → side ≡ patch 0 (zeros (2 * Q)) b.side
      → record { reply = r; stores = stores b.text b.recall b.held side } ≡ edited_to Q n b (bounded T Q (quoted p))
  unfolding quoted lengths_of stores_of
  quote-done side replied said taken freed =
      let lengths = taken ∙ ap (λ n. cleared (other_mode n.mode) n) (sym encoded.lengths) in
      let then : stores b.text b.recall b.held side ≡ stores_of T Q (quoted p).state =
      ap (stores b.text b.recall b.held) (freed ∙ quotation-cleared Q b.side)
      ∙ ap (placed Q Quoted (gapped Q empty) (paired Q empty)) (sym encoded.stores)
      ∙ placed-with T Q empty_side p encoded.sound.texts Quoted in
      (λ i. record { reply = (replied ∙ λ i. record { code = 0; report = said i; lengths = lengths i }) i; stores = then i })
      ∙ ap (edited_to Q n b) (sym (bounded-sound T Q (quoted p) (quoted-sound T Q p encoded.sound.texts)))
