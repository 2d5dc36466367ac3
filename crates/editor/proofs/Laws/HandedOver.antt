-- A quotation that is handed over becomes the pattern or the replacement: its text goes into that quarter as a pair, its own two
-- quarters become free, and record and stores are then the encoding of the plain state that the definition says.
use mathlib.Core.Path.{◌≡◌, refl, sym, ap, ◌∙◌}
use mathlib.Core.Bool.{true}
use mathlib.Core.List.{List, [], ◌++◌, append_assoc, append-nil}
use Prim.Native.Nat.{ℕ, ◌+◌, ◌-◌, ◌*◌, ◌≤◌}
use native.Mathlib.Nat.{zero-mul}
use native.Mathlib.Omega.{arith}
use lib.ListN.{length, take, drop, length-append, length-drop, take-append-drop}
use lib.Seq.{length-take-le, take-take}
use Rattle.gap.specs.Rules.Sequence.{part, patch, zeros}
use Rattle.gap.specs.Rules.Doc.{Doc, empty, content}
use Rattle.gap.specs.Rules.Layout.{gapped, paired, ungap}
use borrow.Rule.Slice.PartMut.{mid_of, put_mid}
use Rattle.gap.proofs.Laws.Sequence.{length_part, length-zeros}
use Rattle.gap.proofs.Laws.Runs.{patch-middle}
use Rattle.gap.proofs.Laws.Layout.{length-gapped, length-paired}
use Rattle.editor.specs.Words.{Direction, Mode, Main, Quoted, Lengths}
use Rattle.editor.specs.Rules.Plain.{Plain, Did, done}
use Rattle.editor.specs.Rules.LongLines.{longest_line, readable}
use Rattle.editor.specs.Rules.Keys.{with_pattern, searched, found, with_replacement, substituted, replaced, fits, bounded}
use Rattle.editor.specs.Rules.Bytes.{Stores, Edited, quarter_of, alone, lengths_of, stores_of, plain_of, edited_to, SoundTexts, SoundPlain, Encoded, no_sizes}
use Rattle.editor.specs.Wording.Promise.{Sound, stores, pattern_taken, replacement_taken, handed}
use Rattle.editor.proofs.Laws.Quotation.{no-quotation}
use Rattle.editor.proofs.Laws.Session.{measured}
use Rattle.editor.proofs.Laws.Encoding.{plain-of-encoded, encoded-ok, encoded-sized, session-encoded}
use Rattle.editor.proofs.Laws.Outcomes.{bounded-done}
use Rattle.editor.proofs.Laws.States.{sound-fits, with-pattern-sound, found-sound, with-replacement-sound}

-- The run takes the place of y, and the front becomes free.
placed-behind : (front x y z run : List ℕ) (k at : ℕ) → length front ≡ k → k + length x ≡ at → length y ≡ length run
    → patch 0 (zeros k) (patch at run (front ++ (x ++ (y ++ z)))) ≡ zeros k ++ (x ++ (run ++ z))
placed-behind front x y z run k at e f g =
    let place : length (front ++ x) ≡ at = rw length-append (omega arith) in
    ap (λ s. patch 0 (zeros k) (patch at run s)) (sym (append_assoc front x (y ++ z)))
    ∙ ap (patch 0 (zeros k)) (patch-middle (front ++ x) y z run at place g ∙ append_assoc front x (run ++ z))
    ∙ patch-middle [] front (x ++ (run ++ z)) (zeros k) 0 refl (e ∙ sym (length-zeros k))

-- What `give_quotation` does, call by call: the side store is parted behind the quotation's two quarters, the quotation is given to a quarter of
-- the rest as a pair, and its own two are cleared.
pub quotation-given : (Q l r at : ℕ) (side own others freed given : List ℕ) → length side ≡ 4 * Q → 2 * Q ≤ at → at + Q ≤ 4 * Q
    → own ≡ take (2 * Q) side → others ≡ drop (2 * Q) side
    → given ≡ paired (length (mid_of (at - 2 * Q) (at - 2 * Q + Q - (at - 2 * Q)) others)) (ungap l r (take Q own))
    → length given ≡ length (mid_of (at - 2 * Q) (at - 2 * Q + Q - (at - 2 * Q)) others) → freed ≡ zeros (length own)
    → freed ++ put_mid (at - 2 * Q) (at - 2 * Q + Q - (at - 2 * Q)) others given
    ≡ patch 0 (zeros (2 * Q)) (patch at (paired Q (ungap l r (quarter_of Q 0 side))) side)
unfolding part
quotation-given Q l r at side own others freed given long behind fits front rest pair same cleared =
    let from : ℕ = at - 2 * Q in
    let k : from + Q - from ≡ Q = omega arith in
    let own-long : length own ≡ 2 * Q = ap length front ∙ length-take-le (2 * Q) side (omega arith) in
    let rest-long : length others ≡ 2 * Q = ap length rest ∙ length-drop (2 * Q) side ∙ omega arith in
    let x : List ℕ = take from others in
    let y : List ℕ = take Q (drop from others) in
    let z : List ℕ = drop Q (drop from others) in
    let x-long : length x ≡ from = length-take-le from others (omega arith) in
    let y-long : length y ≡ Q = length_part from Q others (omega arith) in
    let mid-long : length (mid_of from (from + Q - from) others) ≡ Q = ap (λ n. length (take n (drop from others))) k ∙ y-long in
    let text : take Q own ≡ take Q side = ap (take Q) front ∙ take-take Q (2 * Q) side (omega arith) in
    let paired-so : given ≡ paired Q (ungap l r (take Q side)) = pair ∙ λ i. paired (mid-long i) (ungap l r (text i)) in
    let pieces : x ++ (y ++ z) ≡ others = ap (λ t. x ++ t) (take-append-drop Q (drop from others)) ∙ take-append-drop from others in
    let whole : own ++ (x ++ (y ++ z)) ≡ side = (λ i. front i ++ (pieces ∙ rest) i) ∙ take-append-drop (2 * Q) side in
    (λ i. (cleared ∙ ap zeros own-long) i ++ put_mid from (k i) others given)
    ∙ sym (placed-behind own x y z given (2 * Q) at own-long (omega arith) (y-long ∙ sym (same ∙ mid-long)))
    ∙ (λ i. patch 0 (zeros (2 * Q)) (patch at (paired-so i) (whole i)))
    ∙ rw zero-mul

-- A pair store of a quotation and one of its content alone have the same bytes.
same-pair : (Q : ℕ) (d : Doc) → paired Q (alone (content d)) ≡ paired Q d
unfolding paired
same-pair Q d =
    let e : Q - (length (d.l ++ d.r) + 0) ≡ Q - (length d.l + length d.r) = rw length-append (omega arith) in
    rw (e, append_assoc)

-- The side store of a plain state, in which the quotation's text takes the place of y and the quotation is cleared.
handed-side : (Q at : ℕ) (d recall : Doc) (x y z : List ℕ) → length d.l + length d.r ≤ Q → length recall.l + length recall.r ≤ Q
    → 2 * Q + length x ≡ at → length y ≡ Q
    → patch 0 (zeros (2 * Q)) (patch at (paired Q d) (gapped Q d ++ (paired Q recall ++ (x ++ (y ++ z)))))
    ≡ gapped Q empty ++ (paired Q empty ++ (x ++ (paired Q d ++ z)))
handed-side Q at d recall x y z fits recall-fits place size =
    let own : List ℕ = gapped Q d ++ paired Q recall in
    let long : length own ≡ 2 * Q = rw (length-append, length-gapped Q d fits, length-paired Q recall recall-fits) (omega arith) in
    ap (λ s. patch 0 (zeros (2 * Q)) (patch at (paired Q d) s)) (sym (append_assoc (gapped Q d) (paired Q recall) (x ++ (y ++ z))))
    ∙ placed-behind own x y z (paired Q d) (2 * Q) at long place (size ∙ sym (length-paired Q d fits))
    ∙ no-quotation Q (x ++ (paired Q d ++ z))

-- Stores in which a quotation was handed over to the quarter at a place.
abbrev handed_over : ℕ → ℕ → Doc → Stores → Stores
handed_over Q at d b = stores b.text b.recall b.held (patch 0 (zeros (2 * Q)) (patch at (paired Q d) b.side))

-- Those of a plain state become the stores of the state in which the quotation is the pattern, or the replacement.
module _ (T Q : ℕ) (p : Plain) (s : SoundTexts T Q p) where
  pattern-length : length (paired Q (alone p.pattern)) ≡ Q
  pattern-length = length-paired Q (alone p.pattern) s.pattern.fits

  pattern-given : stores_of T Q (with_pattern Quoted p) ≡ handed_over Q (2 * Q) p.quoted.text (stores_of T Q p)
  unfolding stores_of with_pattern
  pattern-given =
      ap (λ side. stores (stores_of T Q p).text (stores_of T Q p).recall (stores_of T Q p).held side)
      (ap (λ run. gapped Q empty ++ (paired Q empty ++ (run ++ paired Q p.replacement))) (same-pair Q p.quoted.text)
      ∙ sym (handed-side Q (2 * Q) p.quoted.text p.quoted.recall [] (paired Q (alone p.pattern)) (paired Q p.replacement)
      s.quotation.fits s.its_recall.fits (omega arith) pattern-length))

  replacement-given : stores_of T Q (with_replacement Quoted p) ≡ handed_over Q (3 * Q) p.quoted.text (stores_of T Q p)
  unfolding stores_of with_replacement
  replacement-given =
      let place : 2 * Q + length (paired Q (alone p.pattern)) ≡ 3 * Q = rw pattern-length (omega arith) in
      ap (λ side. stores (stores_of T Q p).text (stores_of T Q p).recall (stores_of T Q p).held side)
      (simp append-nil at
      (sym (handed-side Q (3 * Q) p.quoted.text p.quoted.recall (paired Q (alone p.pattern)) (paired Q p.replacement) []
      s.quotation.fits s.its_recall.fits place (length-paired Q p.replacement s.replacement.fits))))

-- Record and stores pass for a session, and hold this plain state.
pub record Holds (Q : ℕ) (p : Plain) (n : Lengths) (b : Stores) : Type 0 where
  pub sound : Sound Q n b
  pub plain : plain_of Q n b ≡ p

-- The encoding of a plain state does.
encoded-holds : (T Q : ℕ) (p : Plain) (n : Lengths) (b : Stores) → 1 ≤ T → T ≤ 65536 → SoundPlain T Q p
    → lengths_of p ≡ n → stores_of T Q p ≡ b → Holds Q p n b
encoded-holds T Q p n b low high s e f =
    rw (← e, ← f)
    record {
      sound = record { tabled = encoded-sized T Q p low high s.texts; ok = encoded-ok T Q p s.texts s.mark };
      plain = plain-of-encoded T Q p s.texts;
    }

module _ (Q : ℕ) (n : Lengths) (b : Stores) (sound : Sound Q n b) where
  abbrev p : Plain
  p = plain_of Q n b

  abbrev T : ℕ
  T = length b.text

  -- The quotation handed over to the quarter at a place, as the code reads it.
  abbrev side_given : ℕ → List ℕ
  side_given at = (handed_over Q at (ungap n.quoted.l n.quoted.r (quarter_of Q 0 b.side)) b).side

  encoded : Encoded Q n b
  encoded = session-encoded Q n b sound.tabled sound.ok

  handed-holds : (at : ℕ) (q : Plain) (m : Lengths) (side : List ℕ) → SoundPlain T Q q → lengths_of q ≡ m
      → stores_of T Q q ≡ handed_over Q at p.quoted.text (stores_of T Q p) → side ≡ side_given at
      → Holds Q q m (stores b.text b.recall b.held side)
  unfolding plain_of
  handed-holds at q m side s e f here =
      let known = measured Q b sound.tabled in
      rw here
      (encoded-holds T Q q m (handed_over Q at p.quoted.text b) known.low known.high s e
      (f ∙ ap (handed_over Q at p.quoted.text) encoded.stores))

  kept : {m : Lengths} {side : List ℕ} → m ≡ n → side ≡ b.side → Holds Q p m (stores b.text b.recall b.held side)
  kept e here = rw (e, here) (record { sound = sound; plain = refl })

  -- In QUOTED the quotation becomes the pattern, or the replacement; in MAIN everything stays.
  pattern-in : (mode : Mode) {m : Lengths} {side : List ℕ} → n.mode ≡ mode → m ≡ pattern_taken mode n
      → side ≡ handed Q mode n.quoted (2 * Q) b.side → Holds Q (with_pattern mode p) m (stores b.text b.recall b.held side)
  unfolding with_pattern lengths_of
  pattern-in Main mode e here = kept e here
  pattern-in Quoted {m} {side} mode e here =
      let same = encoded.lengths in
      let whole = length-append p.quoted.text.l p.quoted.text.r ∙ (λ i. (same i).quoted.l + (same i).quoted.r) in
      let lengths : lengths_of (with_pattern Quoted p) ≡ pattern_taken Quoted n = λ i. record {
        main = (same i).main;
        quoted = no_sizes;
        xl = (same i).xl;
        xr = (same i).xr;
        pl = whole i;
        mode = Main;
        hl = (same i).hl;
        hr = (same i).hr;
        mark = (same i).mark;
      } in
      handed-holds (2 * Q) (with_pattern Quoted p) m side
      (record { texts = with-pattern-sound T Q Quoted p encoded.sound.texts; mark = encoded.sound.mark })
      (lengths ∙ sym e)
      (pattern-given T Q p encoded.sound.texts) here

  replacement-in : (mode : Mode) {m : Lengths} {side : List ℕ} → n.mode ≡ mode → m ≡ replacement_taken mode n
      → side ≡ handed Q mode n.quoted (3 * Q) b.side → Holds Q (with_replacement mode p) m (stores b.text b.recall b.held side)
  unfolding with_replacement lengths_of
  replacement-in Main mode e here = kept e here
  replacement-in Quoted {m} {side} mode e here =
      let same = encoded.lengths in
      let lengths : lengths_of (with_replacement Quoted p) ≡ replacement_taken Quoted n = λ i. record {
        main = (same i).main;
        quoted = no_sizes;
        xl = (same i).quoted.l;
        xr = (same i).quoted.r;
        pl = (same i).pl;
        mode = Main;
        hl = (same i).hl;
        hr = (same i).hr;
        mark = (same i).mark;
      } in
      handed-holds (3 * Q) (with_replacement Quoted p) m side
      (record { texts = with-replacement-sound T Q Quoted p encoded.sound.texts; mark = encoded.sound.mark }) (lengths ∙ sym e)
      (replacement-given T Q p encoded.sound.texts) here

  pub pattern-holds : {m : Lengths} {side : List ℕ} → m ≡ pattern_taken n.mode n → side ≡ handed Q n.mode n.quoted (2 * Q) b.side
      → Holds Q (with_pattern p.mode p) m (stores b.text b.recall b.held side)
  unfolding plain_of
  pattern-holds e here = pattern-in n.mode refl e here

  pub replacement-holds : {m : Lengths} {side : List ℕ} → m ≡ replacement_taken n.mode n
      → side ≡ handed Q n.mode n.quoted (3 * Q) b.side → Holds Q (with_replacement p.mode p) m (stores b.text b.recall b.held side)
  unfolding plain_of
  replacement-holds e here = replacement-in n.mode refl e here

  -- A key that is done on the record and stores handed over is done on those before: nothing of what it was given is left then.
  module _ {q : Plain} {m : Lengths} {side : List ℕ} (h : Holds Q q m (stores b.text b.recall b.held side)) where
    abbrev after : (Plain → Did Plain) → Edited
    after act = edited_to Q m (stores b.text b.recall b.held side) (done (act (plain_of Q m (stores b.text b.recall b.held side))))

    handed-done : (act : Plain → Did Plain) → fits T Q (act q).state ≡ true → readable longest_line (act q).state ≡ true
        → after act ≡ edited_to Q n b (bounded T Q (act q))
    handed-done act room lines = ap (λ q. edited_to Q n b (done (act q))) h.plain ∙ ap (edited_to Q n b) (sym (bounded-done T Q (act q) room lines))

  -- So FIND is a search once the quotation is the pattern, and always has room; REPLACE is a substitution once it is the replacement.
  pub find-done : {m : Lengths} {side : List ℕ} → Holds Q (with_pattern p.mode p) m (stores b.text b.recall b.held side)
      → (way : Direction)
      → edited_to Q m (stores b.text b.recall b.held side) (done (searched way (plain_of Q m (stores b.text b.recall b.held side))))
      ≡ edited_to Q n b (bounded T Q (found way p))
  unfolding found
  find-done h way =
      let after = found-sound T Q way p encoded.sound.texts in
      handed-done h (searched way) (sound-fits T Q _ after) after.lines

  pub replace-done : {m : Lengths} {side : List ℕ} → Holds Q (with_replacement p.mode p) m (stores b.text b.recall b.held side)
      → fits T Q (replaced p).state ≡ true → readable longest_line (replaced p).state ≡ true
      → edited_to Q m (stores b.text b.recall b.held side) (done (substituted (plain_of Q m (stores b.text b.recall b.held side))))
      ≡ edited_to Q n b (bounded T Q (replaced p))
  unfolding replaced
  replace-done h room lines = handed-done h substituted room lines
