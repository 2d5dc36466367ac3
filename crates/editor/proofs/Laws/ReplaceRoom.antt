-- REPLACE on record and stores: its test of room, made before anything is written, is FULL of the plain editor exactly.
use mathlib.Core.Path.{◌≡◌, refl, sym, ap, ◌∙◌}
use mathlib.Core.Logic.{⊎_elim}
use mathlib.Core.Bool.{Bool, true, false, not, ◌||◌, true≢false, false≢true}
use lib.Dec.{leb}
use borrow.Author.Tests.{le-leb, lt-leb, leb-true, leb-false}
use Prim.Native.Nat.{ℕ, ◌+◌, ◌-◌, ◌*◌, ◌<◌, ◌≤◌}
use native.Mathlib.Omega.{arith}
use lib.ListN.{length, take, drop, length-append}
use lib.Seq.{drop_at}
use Rattle.gap.specs.Rules.Sequence.{begins}
use Rattle.gap.specs.Rules.Doc.{content}
use Rattle.gap.specs.Rules.Layout.{ungap}
use Rattle.gap.proofs.Laws.Tests.{decided, cond-false}
use Rattle.editor.specs.Words.{Mode, Main, Quoted, Lengths}
use Rattle.editor.specs.Rules.Refusals.{FULL, LINE}
use Rattle.editor.specs.Rules.LongLines.{longest_line, readable}
use Rattle.editor.specs.Rules.Plain.{Plain, Did}
use Rattle.editor.specs.Rules.Keys.{matches, with_replacement, substituted, replaced, fits, bounded}
use Rattle.editor.specs.Rules.Bytes.{Stores, plain_of, unedited, edited_to, SoundTexts, Encoded}
use Rattle.editor.specs.Rules.Bytes.{EditorReply}
use Rattle.editor.specs.Wording.Promise.{Sound, replacement_taken}
use Rattle.editor.proofs.Laws.HandedOver.{Holds}
use Rattle.editor.proofs.Laws.Fitting.{Sized, sizes, Fitting}
use Rattle.editor.proofs.Laws.FindReplace.{pattern-lent}
use Rattle.editor.proofs.Laws.Encoding.{session-encoded}
use Rattle.editor.proofs.Laws.Outcomes.{bounded-full, bounded-long}
use Rattle.editor.proofs.Laws.Room.{fits_not, fits-within, substituted-exceeds}
use Rattle.editor.proofs.Laws.States.{sound-fits, with-replacement-sound}

-- How many bytes REPLACE puts in: the replacement, which in QUOTED is the quotation.
abbrev placed_size : Mode → Lengths → ℕ
placed_size mode n = (replacement_taken mode n).xl + (replacement_taken mode n).xr

-- A quotation that becomes the replacement leaves document and pattern alone.
same-match : (mode : Mode) (p : Plain)
    → matches (with_replacement mode p).pattern (with_replacement mode p).main.text ≡ matches p.pattern p.main.text
unfolding with_replacement
same-match Main p = refl
same-match Quoted p = refl

-- How long REPLACE at a match leaves the document.
abbrev finished : Plain → ℕ
finished p = length (content p.main.text) - length p.pattern + length (content p.replacement)

finished-size : {n : Lengths} (mode : Mode) (p : Plain) → Sized n p
    → finished (with_replacement mode p) ≡ n.main.l + n.main.r - n.pl + placed_size mode n
unfolding with_replacement
finished-size Main p held = simp length-append (omega arith)
finished-size Quoted p held = simp length-append (omega arith)

-- A quotation that becomes the replacement fits as the quotation does, and leaves document and pattern.
pub taken-fits : (Q : ℕ) (n m : Lengths) {b : Stores} → m ≡ replacement_taken n.mode n → Fitting Q n b
    → (m.main.l + m.main.r ≤ length b.text) × (m.xl + m.xr ≤ Q)
taken-fits Q n m {b} e fit = rw e (go n.mode)
  where
    go : (mode : Mode) → let m = replacement_taken mode n in (m.main.l + m.main.r ≤ length b.text) × (m.xl + m.xr ≤ Q)
    go Main = (fit.document, fit.replacement)
    go Quoted = (fit.document, fit.quotation)

pub taken-stands : (n m : Lengths) → m ≡ replacement_taken n.mode n → n.pl ≤ n.main.r → m.pl ≤ m.main.r
taken-stands n m e stands = rw e (go n.mode)
  where
    go : (mode : Mode) → (replacement_taken mode n).pl ≤ (replacement_taken mode n).main.r
    go Main = stands
    go Quoted = stands

same-document : (mode : Mode) (n m : Lengths) → m ≡ replacement_taken mode n
    → m.main.l + m.main.r - m.pl + (m.xl + m.xr) ≡ n.main.l + n.main.r - n.pl + placed_size mode n
same-document Main n m e = rw e
same-document Quoted n m e = rw e

-- The same test without a sum that could wrap.
pub same_test : (more used size : ℕ) → used ≤ size → leb more (size - used) ≡ leb (used + more) size
same_test more used size h =
    ⊎_elim
    (λ e. let fit : used + more ≤ size = omega (arith, leb-true more (size - used) e) in e ∙ sym (le-leb (used + more) size fit))
    (λ e. let over : size < used + more = omega (arith, leb-false more (size - used) e) in e ∙ sym (lt-leb (used + more) size over))
    (decided (leb more (size - used)))

-- What the test of room tells where it fails, and where it passes.
no_room : (here : Bool) (finished T : ℕ) → (not here || leb finished T) ≡ false → (here ≡ true) × (T < finished)
no_room true finished T e = (refl, leb-false _ _ e)
no_room false finished T e = (cc, absurd (true≢false e))

room : (here : Bool) (finished T : ℕ) → (not here || leb finished T) ≡ true → here ≡ true → finished ≤ T
room true finished T e h = leb-true _ _ e
room false finished T e h = absurd (false≢true h)

module _ (Q : ℕ) (n : Lengths) (b : Stores) (sound : Sound Q n b) where
  abbrev p : Plain
  p = plain_of Q n b

  abbrev T : ℕ
  T = length b.text

  encoded : Encoded Q n b
  encoded = session-encoded Q n b sound.tabled sound.ok

  held : Sized n p
  held = sizes Q n b sound

  -- Whether the pattern stands at the cursor, as the code asks.
  pub stands_here : (here : Bool)
      → here ≡ begins (take (2 * Q + n.pl - 2 * Q) (drop (2 * Q) b.side))
      (drop n.main.l (content (ungap n.main.l n.main.r b.text)))
      → here ≡ matches p.pattern p.main.text
  unfolding plain_of
  stands_here here e =
      e ∙ rw (pattern-lent Q n b sound, drop_at p.main.text.l p.main.text.r n.main.l held.left)

  -- The test of room: where the pattern stands, the document with the replacement in its place fits.
  module _ {here : Bool} (known : here ≡ matches p.pattern p.main.text) (m : Lengths) (taken : m ≡ replacement_taken n.mode n)
      {ok : Bool} (tested : ok ≡ (not here || leb (m.main.l + m.main.r - m.pl + (m.xl + m.xr)) T)) where
    finished_as : finished (with_replacement p.mode p) ≡ m.main.l + m.main.r - m.pl + (m.xl + m.xr)
    unfolding plain_of
    finished_as = finished-size n.mode p held ∙ sym (same-document n.mode n m taken)

    as-known : matches (with_replacement p.mode p).pattern (with_replacement p.mode p).main.text ≡ here
    as-known = same-match p.mode p ∙ sym known

    abbrev next : Plain
    next = with_replacement p.mode p

    next-sound : SoundTexts T Q next
    next-sound = with-replacement-sound T Q p.mode p encoded.sound.texts

    -- It fails exactly where FULL is due.
    pub replace-refused : ok ≡ false → {reply : EditorReply} → reply ≡ unedited FULL n
        → record { reply = reply; stores = b } ≡ edited_to Q n b (bounded T Q (replaced p))
    unfolding replaced
    replace-refused failed e =
        let (match, over) = no_room here _ _ (sym tested ∙ failed) in
        let exceeds = (substituted-exceeds T Q next next-sound (as-known ∙ match)).1 (rw finished_as over) in
        (λ i. record { reply = e i; stores = b })
        ∙ ap (edited_to Q n b) (sym (bounded-full T Q (substituted next) ((fits_not T Q (substituted next).state).1 exceeds)))

    pub replace-fits : ok ≡ true → fits T Q (replaced p).state ≡ true
    unfolding replaced substituted
    replace-fits passed =
        ⊎_elim
        (λ e. (fits-within T Q (substituted next).state).1 (λ exceeds.
        let over = (substituted-exceeds T Q next next-sound (as-known ∙ e)).0 exceeds in
        let fit : m.main.l + m.main.r - m.pl + (m.xl + m.xr) ≤ T = room here _ _ (sym tested ∙ passed) e in
        omega (arith, over, finished_as, fit)))
        (λ e. ap (λ (did : Did Plain). fits T Q did.state) (cond-false _ _ (as-known ∙ e)) ∙ sound-fits T Q next next-sound)
        (decided here)

    -- Where it passes, and a line of the finished document would be too long, LINE is due.
    pub replace-long : ok ≡ true → readable longest_line (replaced p).state ≡ false → {reply : EditorReply} → reply ≡ unedited LINE n
        → record { reply = reply; stores = b } ≡ edited_to Q n b (bounded T Q (replaced p))
    replace-long passed long e =
        (λ i. record { reply = e i; stores = b }) ∙ ap (edited_to Q n b) (sym (bounded-long T Q (replaced p) (replace-fits passed) long))

    -- What a substitution asks of the plain state handed over.
    pub replace-substitutes : ok ≡ true → readable longest_line (replaced p).state ≡ true
        → {m : Lengths} {c : Stores} → Holds Q (with_replacement p.mode p) m c
        → (here ≡ matches (plain_of Q m c).pattern (plain_of Q m c).main.text) × (fits T Q (substituted (plain_of Q m c)).state ≡ true)
        × (readable longest_line (substituted (plain_of Q m c)).state ≡ true)
    unfolding replaced
    replace-substitutes passed lines h = rw h.plain (sym as-known, replace-fits passed, lines)
