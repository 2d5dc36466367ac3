-- MARK, CUT and PASTE on record and stores: the document with the held text's store in the place of the recall text's, and the mark.
use Rattle.std.proofs.Common.{Option, Some, None}
use mathlib.Core.Path.{◌≡◌, sym, ap, ◌∙◌}
use mathlib.Core.Logic.{⊎_elim}
use mathlib.Core.Bool.{true, false, and-true}
use mathlib.Core.List.{List}
use Prim.Native.Nat.{ℕ, ◌+◌, ◌-◌, ◌≤◌, ◌<◌}
use lib.Dec.{leb}
use lib.ListN.{length}
use native.Mathlib.Omega.{arith}
use borrow.Author.Tests.{le-leb, lt-leb, leb-true, leb-false, ne_eqb}
use Rattle.gap.specs.Rules.Doc.{content}
use Rattle.gap.specs.Rules.Layout.{gapped, paired}
use Rattle.gap.proofs.Laws.Tests.{decided, cond-true, cond-false}
use Rattle.gap.proofs.Laws.Layout.{is-gap, is-pair}
use Rattle.gap.proofs.Laws.Holdable.{content-fits}
use Rattle.editor.specs.Words.{Direction, Delete, Sizes, Lengths, Report}
use Rattle.editor.specs.declared.refusals.Refusal.{Refusal}
use Rattle.editor.specs.Rules.Refusals.{FULL, LINE, number}
use Rattle.editor.specs.Rules.Plain.{Side, Plain, holding, quiet, rang, Did, reporting, within, refused, done}
use Rattle.editor.specs.Rules.LongLines.{longest_line, readable}
use Rattle.editor.specs.Rules.Marks.{mark_within, way_to, far_to}
use Rattle.editor.specs.Rules.Keys.{carried, recalled, with_mark, marked_here, with_holding, cut_to, cut, pasted, fits, bounded}
use Rattle.editor.specs.Rules.Bytes.{Stores, EditorReply, Edited, sizes_of, holding_sizes, plain_of, lengths_of, stores_of, unedited, edited_to, Encoded}
use Rattle.editor.specs.Wording.Promise.{OnSide, SideReply, SideEdited, refused_reply, written, EditsSide, Sound, stores}
use Rattle.editor.specs.Wording.Marks.{marked_at, held_in, held_reply}
use Rattle.editor.proofs.Laws.Refusals.{numbered}
use Rattle.editor.proofs.Laws.Session.{measured, passed}
use Rattle.editor.proofs.Laws.Encoding.{session-encoded}
use Rattle.editor.proofs.Laws.Fitting.{sizes}
use Rattle.editor.proofs.Laws.Outcomes.{bounded-done, bounded-full, bounded-long, bounded-sound}
use Rattle.editor.proofs.Laws.MarkedStates.{marked-sound, fits-marked}

-- The test of a mark, without a sum that could wrap.
pub mark-before : (m l r : ℕ) → m ≤ l → true ≡ leb m (l + r)
mark-before m l r h = sym (le-leb m (l + r) (omega (arith, h)))

pub mark-beyond : (m l r : ℕ) → l < m → leb (m - l) r ≡ leb m (l + r)
mark-beyond m l r over =
    ⊎_elim
    (λ t. let fit : m ≤ l + r = omega (arith, leb-true (m - l) r t) in t ∙ sym (le-leb m (l + r) fit))
    (λ t. let beyond : l + r < m = omega (arith, leb-false (m - l) r t) in t ∙ sym (lt-leb m (l + r) beyond))
    (decided (leb (m - l) r))

-- What is refused on one side is refused on the whole layer.
pub held-refused : (n : Lengths) (mark : Option ℕ) (sizes : Sizes) (e : Refusal) → unedited (number e) n ≡ held_reply n mark (refused_reply (number e) sizes)
held-refused n mark m e = sym (cond-false _ _ (ne_eqb _ _ (numbered e)))

module _ (Q : ℕ) (n : Lengths) (b : Stores) (sound : Sound Q n b) where
  abbrev p : Plain
  p = plain_of Q n b

  abbrev T : ℕ
  T = length b.text

  encoded : Encoded Q n b
  encoded = session-encoded Q n b sound.tabled sound.ok

  -- What a session gives CUT and PASTE.
  pub on-holding : OnSide longest_line (holding_sizes n) b.text b.held
  on-holding =
      let tests = passed Q n b sound.ok in
      record { gap = is-gap _ _ _ tests.text; pair = is-pair _ _ _ tests.held; same = (measured Q b sound.tabled).held; lines = tests.lines }

  pub mark-inside : mark_within (n.main.l + n.main.r) n.mark ≡ true
  mark-inside = (passed Q n b sound.ok).mark

  left-long : length p.main.text.l ≡ n.main.l
  left-long = (sizes Q n b sound).left

  -- ---- Only the mark is another

  marked-done : (mark : Option ℕ) (report : Report)
      → record { reply = record { code = 0; report = report; lengths = marked_at mark n }; stores = b }
      ≡ edited_to Q n b (bounded T Q (reporting report (with_mark mark p)))
  unfolding lengths_of stores_of
  marked-done mark report =
      (λ i. record {
        reply = record { code = 0; report = report; lengths = marked_at mark (sym encoded.lengths i) };
        stores = sym encoded.stores i;
      })
      ∙ ap (edited_to Q n b) (sym (bounded-sound T Q (reporting report (with_mark mark p)) (marked-sound T Q mark p encoded.sound.texts)))

  -- MARK.
  pub mark-done : {r : EditorReply} {report : Report} {m : Lengths} → r ≡ record { code = 0; report = report; lengths = m } → report ≡ quiet
      → m ≡ marked_at (Some n.main.l) n → record { reply = r; stores = b } ≡ edited_to Q n b (bounded T Q (marked_here p))
  unfolding marked_here
  mark-done replied said lengths =
      (λ i. record { reply = (replied ∙ λ i. record { code = 0; report = said i; lengths = lengths i }) i; stores = b })
      ∙ (marked-done (Some n.main.l) quiet ∙ ap (λ l. edited_to Q n b (bounded T Q (reporting quiet (with_mark (Some l) p)))) (sym left-long))

  -- CUT without a mark.
  pub cut-rings : {r : EditorReply} {report : Report} → r ≡ record { code = 0; report = report; lengths = n } → report ≡ rang
      → n.mark ≡ None → record { reply = r; stores = b } ≡ edited_to Q n b (bounded T Q (cut p))
  unfolding cut_to plain_of
  cut-rings replied said none =
      (λ i. record { reply = (replied ∙ λ i. record { code = 0; report = said i; lengths = n }) i; stores = b })
      ∙ (marked-done n.mark rang ∙ ap (λ mark. edited_to Q n b (bounded T Q (cut_to mark p))) (sym none))

  -- ---- The document and the held text

  module _ (did : Did Side) where
    abbrev left : Side
    left = did.state

    room-asked : leb (length (content left.text)) T ≡ fits T Q (with_holding left p)
    unfolding fits
    room-asked = rw (le-leb _ _ (content-fits Q p.quoted.text encoded.sound.texts.quotation), and-true)

    -- What a key on that side gives, with any mark if it is done.
    module _ (mark : Option ℕ) where
      abbrev given : SideEdited
      given = written longest_line (holding_sizes n) b.text b.held did

      answer : SideEdited → Edited
      answer s = record { reply = held_reply n mark s.reply; stores = stores s.text b.recall s.recall b.side }

      abbrev all : Did Plain
      all = within (λ s. with_mark mark (with_holding s p)) did

      -- One that has room and leaves no line too long is done.
      holding-done : fits T Q (with_holding left p) ≡ true → readable longest_line (with_holding left p) ≡ true → answer given ≡ edited_to Q n b (done all)
      unfolding written lengths_of stores_of answer
      holding-done room lines =
          let known = measured Q b sound.tabled in
          ap answer (cond-true _ _ (room-asked ∙ room) ∙ cond-true _ _ lines)
          ∙ λ i. record {
            reply = record { code = 0; report = did.report; lengths = held_in (sizes_of left) (marked_at mark (sym encoded.lengths i)) };
            stores = stores (gapped T left.text) (sym encoded.stores i).recall (paired (known.held i) left.recall) (sym encoded.stores i).side;
          }

      -- Any other is refused, as FULL before LINE.
      holding-full : fits T Q (with_holding left p) ≡ false → answer given ≡ edited_to Q n b (refused FULL)
      unfolding written answer
      holding-full room = ap answer (cond-false _ _ (room-asked ∙ room))

      holding-long : fits T Q (with_holding left p) ≡ true → readable longest_line (with_holding left p) ≡ false → answer given ≡ edited_to Q n b (refused LINE)
      unfolding written answer
      holding-long room long = ap answer (cond-true _ _ (room-asked ∙ room) ∙ cond-false _ _ long)

      holding-bounded : {t : SideReply} {text held : List ℕ} → record { reply = t; text = text; recall = held } ≡ given
          → record { reply = held_reply n mark t; stores = stores text b.recall held b.side } ≡ edited_to Q n b (bounded T Q all)
      unfolding answer
      holding-bounded e =
          let room-so = fits-marked T Q mark (with_holding left p) in
          ap answer e
          ∙ ⊎_elim
          (λ room. ⊎_elim
          (λ lines. holding-done room lines ∙ ap (edited_to Q n b) (sym (bounded-done T Q all (room-so ∙ room) lines)))
          (λ long. holding-long room long ∙ ap (edited_to Q n b) (sym (bounded-long T Q all (room-so ∙ room) long)))
          (decided (readable longest_line (with_holding left p))))
          (λ room. holding-full room ∙ ap (edited_to Q n b) (sym (bounded-full T Q all (room-so ∙ room))))
          (decided (fits T Q (with_holding left p)))

  -- PASTE.
  pub paste-done : {r : EditorReply} {t : SideReply} {text held : List ℕ} → r ≡ held_reply n n.mark t
      → EditsSide longest_line t (holding_sizes n) recalled b.text b.held text held
      → record { reply = r; stores = stores text b.recall held b.side } ≡ edited_to Q n b (bounded T Q (pasted p))
  unfolding pasted plain_of
  paste-done {t = t} {text} {held} replied turns =
      (λ i. record { reply = replied i; stores = stores text b.recall held b.side })
      ∙ holding-bounded (recalled (holding p)) n.mark turns

  -- CUT, once the way to the mark and the bytes between are known.
  pub cut-done : (m : ℕ) (way : Direction) (d : ℕ) → n.mark ≡ Some m → way ≡ way_to m n.main.l → d ≡ far_to m n.main.l
      → {r : EditorReply} {t : SideReply} {text held : List ℕ} → r ≡ held_reply n None t
      → EditsSide longest_line t (holding_sizes n) (carried Delete way (Some (record { steps = d; lines = 0 }))) b.text b.held text held
      → record { reply = r; stores = stores text b.recall held b.side } ≡ edited_to Q n b (bounded T Q (cut p))
  unfolding cut_to plain_of
  cut-done m way d at is far {text = text} {held} replied turns =
      let l = length p.main.text.l in
      let act : Did Side = carried Delete (way_to m l) (Some (record { steps = far_to m l; lines = 0 })) (holding p) in
      let way-so = is ∙ ap (way_to m) (sym left-long) in
      let far-so = far ∙ ap (far_to m) (sym left-long) in
      let acted : carried Delete way (Some (record { steps = d; lines = 0 })) (holding p) ≡ act = λ i. carried Delete (way-so i) (Some (record { steps = far-so i; lines = 0 })) (holding p) in
      (λ i. record { reply = replied i; stores = stores text b.recall held b.side })
      ∙ (holding-bounded act None (turns ∙ ap (written longest_line (holding_sizes n) b.text b.held) acted)
      ∙ ap (λ mark. edited_to Q n b (bounded T Q (cut_to mark p))) (sym at))
