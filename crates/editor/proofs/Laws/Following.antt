-- The mark on record and stores: a key's change in numbers is its change of the plain state, and the reply with the mark moved is the reply that
-- the plain editor says.
use Rattle.std.proofs.Common.{Option, Some, None}
use mathlib.Core.Path.{◌≡◌, refl, sym, ap, subst, ◌∙◌}
use mathlib.Core.Logic.{⊎_elim}
use mathlib.Core.Bool.{Bool, true, false, cond}
use mathlib.Core.List.{List, [], ◌∷◌}
use Prim.Native.Nat.{ℕ, ◌+◌, ◌≤◌}
use native.Mathlib.Nat.{add-zero}
use native.Mathlib.Omega.{arith}
use lib.ListN.{length}
use borrow.Author.Tests.{leb-true, le-leb}
use Rattle.gap.proofs.Laws.Tests.{decided, clash, cond-true}
use Rattle.gap.specs.Rules.Doc.{Doc}
use Rattle.editor.specs.Words.{Direction, Left, Right, Move, Delete, Mode, Main, Quoted, Lengths, Exchange}
use Rattle.editor.specs.Words.{Key, Insert, Function, Recall, Quote, Find, Replace, Mark, Cut, Paste, Newline, Tab}
use Rattle.editor.specs.Rules.Bytes.{EditorReply}
use Rattle.editor.specs.Rules.Refusals.{FULL, LINE}
use Rattle.editor.specs.Rules.LongLines.{longest_line, readable}
use Rattle.editor.specs.Rules.Plain.{Plain, Did, refused, done}
use Rattle.editor.specs.Rules.Marks.{Change, unchanged, putting, taking, mark_through, mark_changed, mark_within}
use Rattle.editor.specs.Rules.Indents.{leftward, inserted_run, indented_line, newlined, spaces_to_tab, tabbed}
use Rattle.editor.specs.Rules.Keys.{sound_key, side_of, on_side, of_document, change_of, cut_to, acted, pressed, fits, bounded, key}
use Rattle.editor.specs.Rules.Bytes.{Stores, Edited, plain_of, lengths_of, stores_of, edited_to, SoundTexts, Encoded}
use Rattle.editor.specs.Wording.Promise.{Sound}
use Rattle.editor.specs.Wording.Marks.{nothing, coming, going, in_document, exchange_of, cuts, mark_exchanged, mark_of, marked_at, followed_reply}
use Rattle.editor.specs.Wording.Marks.{Moderate, Followable}
use Rattle.editor.proofs.Laws.Session.{measured}
use Rattle.editor.proofs.Laws.Encoding.{session-encoded}
use Rattle.editor.proofs.Laws.Outcomes.{bounded-done, bounded-full, bounded-long}
use Rattle.editor.proofs.Laws.Keeps.{acted-sound, fits-acted, lines-acted}
use Rattle.editor.proofs.Laws.Changes.{size, change-within}
use Rattle.editor.proofs.Laws.Marks.{cut-mark, acted-mark-within, size-changed}

-- A change in numbers.
abbrev in_numbers : Change → Exchange
in_numbers c = record { before = c.before; behind = c.behind; come = length c.put.l + length c.put.r }

in-mode : (mode : Mode) (c : Change) → in_document mode (in_numbers c) ≡ in_numbers (of_document mode c)
in-mode Main c = refl
in-mode Quoted c = refl

deleted-so : (mode : Mode) (way : Direction) (n : ℕ) → in_document mode (going way n) ≡ in_numbers (of_document mode (taking way n))
deleted-so Main Left n = refl
deleted-so Main Right n = refl
deleted-so Quoted way n = refl

-- NEWLINE and TAB report the bytes that come.
run-so : (mode : Mode) (run : Doc → List ℕ) (p : Plain)
    → in_document mode (coming (length (run (side_of mode p).text))) ≡ in_numbers (of_document mode (putting (leftward (run p.main.text))))
run-so Main run p = ap coming (sym (add-zero (length (run p.main.text))))
run-so Quoted run p = refl

-- What a key other than CUT changes, by the lengths before and behind it.
abbrev exchange_by : Key → Plain → Exchange
exchange_by k p = exchange_of k (lengths_of p) (acted k p).report (lengths_of (acted k p).state)

exchange-so : (k : Key) (p : Plain) → cuts k ≡ false → exchange_by k p ≡ in_numbers (change_of k p (acted k p))
unfolding acted exchange_of change_of lengths_of on_side newlined tabbed inserted_run
exchange-so (Insert b) p other = in-mode p.mode (putting (record { l = b ∷ []; r = [] }))
exchange-so (Function Move way place) p other = refl
exchange-so (Function Delete way place) p other = deleted-so p.mode way (acted (Function Delete way place) p).report.steps
exchange-so Recall p other = in-mode p.mode (putting p.main.recall)
exchange-so Quote p other = refl
exchange-so (Find way) p other = refl
exchange-so Replace p other = go (acted Replace p).report.bell
  where
    exchange : Change
    exchange = let q = (acted Replace p).state in record { before = 0; behind = length q.pattern; put = q.replacement }

    go : (bell : Bool) → cond bell nothing (in_numbers exchange) ≡ in_numbers (cond bell unchanged exchange)
    go true = refl
    go false = refl
exchange-so Mark p other = refl
exchange-so Cut p other = clash refl other
exchange-so Paste p other = refl
exchange-so Newline p other = run-so p.mode indented_line p
exchange-so Tab p other = run-so p.mode spaces_to_tab p

-- For CUT nothing is changed in numbers.
cut-nothing : (k : Key) (p : Plain) → cuts k ≡ true → exchange_by k p ≡ nothing
unfolding exchange_of
cut-nothing (Insert b) p cut = clash cut refl
cut-nothing (Function action way place) p cut = clash cut refl
cut-nothing Recall p cut = clash cut refl
cut-nothing Quote p cut = clash cut refl
cut-nothing (Find way) p cut = clash cut refl
cut-nothing Replace p cut = clash cut refl
cut-nothing Mark p cut = clash cut refl
cut-nothing Cut p cut = refl
cut-nothing Paste p cut = clash cut refl
cut-nothing Newline p cut = clash cut refl
cut-nothing Tab p cut = clash cut refl

-- So the mark goes the same way. CUT leaves none to go.
mark-by : (k : Key) (p : Plain) → cuts k ≡ false
    → let did = acted k p in
    mark_of k (lengths_of p) did.report (lengths_of did.state) ≡ mark_changed (change_of k p did) p.main.text did.state.mark
unfolding lengths_of
mark-by k p other = ap (λ e. mark_exchanged e (length p.main.text.l) (acted k p).state.mark) (exchange-so k p other)

none-through : (from gone come from' gone' come' : ℕ) (mark : Option ℕ) → mark ≡ None
    → mark_through from gone come mark ≡ mark_through from' gone' come' mark
unfolding mark_through
none-through from gone come from' gone' come' mark none = rw none

pub mark-so : (k : Key) (p : Plain)
    → let did = acted k p in
    mark_of k (lengths_of p) did.report (lengths_of did.state) ≡ mark_changed (change_of k p did) p.main.text did.state.mark
unfolding acted lengths_of
mark-so (Insert b) p = mark-by (Insert b) p refl
mark-so (Function action way place) p = mark-by (Function action way place) p refl
mark-so Recall p = mark-by Recall p refl
mark-so Quote p = mark-by Quote p refl
mark-so (Find way) p = mark-by (Find way) p refl
mark-so Replace p = mark-by Replace p refl
mark-so Mark p = mark-by Mark p refl
mark-so Cut p = none-through _ _ _ _ _ _ (cut_to p.mark p).state.mark (cut-mark p.mark p refl)
mark-so Paste p = mark-by Paste p refl
mark-so Newline p = mark-by Newline p refl
mark-so Tab p = mark-by Tab p refl

-- ---- Nothing is longer than a store

-- Whatever comes is part of the finished document.
come-within : (T Q : ℕ) (k : Key) (p : Plain) → T ≤ 65536 → mark_within (size p.main.text) p.mark ≡ true → SoundTexts T Q (acted k p).state
    → size (change_of k p (acted k p)).put ≤ 65536
come-within T Q k p large inside after = omega (arith, large, size-changed k p inside, after.text.fits)

within_more : (n m : ℕ) (mark : Option ℕ) → n ≤ m → mark_within n mark ≡ true → mark_within m mark ≡ true
within_more n m None order e = refl
within_more n m (Some i) order e = le-leb i m (omega (arith, order, leb-true i n e))

pub position-within : (n m : ℕ) (mark : Option ℕ) → mark ≡ Some m → mark_within n mark ≡ true → m ≤ n
position-within n m mark at e = leb-true m n (subst (λ mark. mark_within n mark ≡ true) at e)

-- ---- A key's reply, once the mark has gone through its change

module _ (Q : ℕ) (n : Lengths) (b : Stores) (sound : Sound Q n b) (k : Key) (ok : sound_key n.mode k ≡ true) where
  abbrev p : Plain
  p = plain_of Q n b

  abbrev T : ℕ
  T = length b.text

  abbrev did : Did Plain
  did = acted k p

  encoded : Encoded Q n b
  encoded = session-encoded Q n b sound.tabled sound.ok

  key-bounded : key T Q k p ≡ bounded T Q (pressed k p)
  unfolding key plain_of
  key-bounded = cond-true _ _ ok

  -- It is done, or refused as FULL or as LINE, as it would be without the mark.
  module _ {r : EditorReply} {c : Stores} (e : record { reply = r; stores = c } ≡ edited_to Q n b (bounded T Q (acted k p))) where
    -- Refused without the mark, it is refused with it: the reply as it is.
    same-refusal : (code : ℕ) → bounded T Q did ≡ refused code → bounded T Q (pressed k p) ≡ refused code
        → record { reply = r; stores = c } ≡ edited_to Q n b (key T Q k p)
    same-refusal code one other = e ∙ ap (edited_to Q n b) (one ∙ sym (key-bounded ∙ other))

    -- A refused key: the reply as it is.
    pub refused-same : ¬ (r.code ≡ 0) → record { reply = r; stores = c } ≡ edited_to Q n b (key T Q k p)
    refused-same not_done =
        ⊎_elim
        (λ room. ⊎_elim
        (λ lines. absurd (not_done (ap (λ a. a.reply.code) (e ∙ ap (edited_to Q n b) (bounded-done T Q did room lines)))))
        (λ long. same-refusal LINE (bounded-long T Q did room long)
        (bounded-long T Q (pressed k p) (fits-acted T Q k p ∙ room) (lines-acted k p ∙ long)))
        (decided (readable longest_line did.state)))
        (λ room. same-refusal FULL (bounded-full T Q did room) (bounded-full T Q (pressed k p) (fits-acted T Q k p ∙ room)))
        (decided (fits T Q did.state))

    module _ (none : r.code ≡ 0) where
      -- A key that is done has room, and leaves no line too long.
      not-refused : (code : ℕ) → 1 ≤ code → ¬ (bounded T Q did ≡ refused code)
      not-refused code some so = absurd (omega (arith, some, sym none ∙ ap (λ a. a.reply.code) (e ∙ ap (edited_to Q n b) so)))

      has_room : fits T Q did.state ≡ true
      has_room = ⊎_elim (λ t. t) (λ t. absurd (not-refused FULL (omega arith) (bounded-full T Q did t))) (decided (fits T Q did.state))

      fits-lines : readable longest_line did.state ≡ true
      fits-lines =
          ⊎_elim (λ t. t) (λ t. absurd (not-refused LINE (omega arith) (bounded-long T Q did has_room t))) (decided (readable longest_line did.state))

      done-so : record { reply = r; stores = c } ≡ edited_to Q n b (done did)
      done-so = e ∙ ap (edited_to Q n b) (bounded-done T Q did has_room fits-lines)

      pressed-so : key T Q k p ≡ done (pressed k p)
      pressed-so = key-bounded ∙ bounded-done T Q (pressed k p) (fits-acted T Q k p ∙ has_room) (lines-acted k p ∙ fits-lines)

      -- The reply with the mark where the change leaves it.
      pub done-followed : record { reply = followed_reply k n r; stores = c } ≡ edited_to Q n b (key T Q k p)
      unfolding pressed lengths_of stores_of
      done-followed =
          let so = encoded.lengths in
          ap (λ (a : Edited). record { reply = followed_reply k n a.reply; stores = a.stores }) done-so
          ∙ ((λ i. record {
            reply = record {
              code = 0;
              report = did.report;
              lengths = marked_at ((ap (λ m. mark_of k m did.report (lengths_of did.state)) (sym so) ∙ mark-so k p) i) (lengths_of did.state);
            };
            stores = stores_of T Q did.state;
          })
          ∙ ap (edited_to Q n b) (sym pressed-so))

      after-sound : SoundTexts T Q did.state
      unfolding plain_of
      after-sound = acted-sound T Q k p ok has_room fits-lines encoded.sound.texts

      -- Nothing of it is longer than a store.
      moderate-by : (e : Exchange) → e ≡ in_numbers (change_of k p did) → Moderate e (length p.main.text.l) did.state.mark
      moderate-by e so =
          let known = measured Q b sound.tabled in
          let texts = encoded.sound.texts in
          let takes = change-within k p encoded.sound.mark in
          rw so
          (record {
            before = takes.before;
            left = omega (arith, texts.text.fits, known.high);
            behind = omega (arith, takes.behind, texts.text.fits, known.high);
            come = come-within T Q k p known.high encoded.sound.mark after-sound;
            position = within_more _ 65536 did.state.mark (omega (arith, texts.text.fits, known.high)) (acted-mark-within k p encoded.sound.mark);
          })

      moderate-cut : Moderate nothing (length p.main.text.l) did.state.mark
      moderate-cut =
          let known = measured Q b sound.tabled in
          let texts = encoded.sound.texts in
          record {
            before = omega arith;
            left = omega (arith, texts.text.fits, known.high);
            behind = omega arith;
            come = omega arith;
            position = within_more _ 65536 did.state.mark (omega (arith, texts.text.fits, known.high)) (acted-mark-within k p encoded.sound.mark);
          }

      moderate : Moderate (exchange_by k p) (length p.main.text.l) did.state.mark
      moderate =
          ⊎_elim (λ t. subst (λ e. Moderate e (length p.main.text.l) did.state.mark) (sym (cut-nothing k p t)) moderate-cut)
          (λ t. moderate-by (exchange_by k p) (exchange-so k p t))
          (decided (cuts k))

      pub can-follow : Q ≤ 65536 → Followable k n r
      unfolding lengths_of
      can-follow small =
          let known = measured Q b sound.tabled in
          let texts = encoded.sound.texts in
          let so = encoded.lengths in
          let reply = ap (λ (a : Edited). a.reply) done-so in
          record {
            recall = subst (λ m. m.main.rl + m.main.rr ≤ 65536) so (omega (arith, texts.recall.fits, known.high));
            held = subst (λ m. m.hl + m.hr ≤ 65536) so (omega (arith, texts.held.fits, known.high));
            replacement = subst (λ a. a.lengths.xl + a.lengths.xr ≤ 65536) (sym reply) (omega (arith, after-sound.replacement.fits, small));
            moderate =
                subst (λ a. Moderate (exchange_of k n a.report a.lengths) n.main.l a.lengths.mark) (sym reply)
                (subst (λ m. Moderate (exchange_of k m did.report (lengths_of did.state)) m.main.l did.state.mark) so moderate);
          }
