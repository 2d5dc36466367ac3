-- Quarters put into longer ones: what the copies leave, that it is the encoding of the same plain state, and that this passes for a session.
use mathlib.Core.Path.{◌≡◌, refl, sym, ap, ◌∙◌}
use mathlib.Core.Bool.{true}
use mathlib.Core.List.{List, [], ◌++◌, append_assoc, append-nil}
use Prim.Native.Nat.{ℕ, ◌+◌, ◌-◌, ◌*◌, ◌≤◌}
use native.Mathlib.Omega.{arith}
use lib.ListN.{length, take, drop, length-append, length-drop}
use lib.Seq.{take_all}
use Rattle.gap.specs.Rules.Sequence.{patch, zeros}
use Rattle.gap.specs.Rules.Doc.{Doc}
use Rattle.gap.specs.Rules.Layout.{gapped, paired, ungap, unpair, sound_pair, Holdable}
use Rattle.gap.proofs.Laws.Sequence.{length-zeros}
use Rattle.gap.proofs.Laws.Runs.{zeros-both, patch-middle}
use Rattle.gap.proofs.Laws.Layout.{length-gapped, sound-pair, length-left, length-right}
use Rattle.editor.specs.Words.{Lengths}
use Rattle.editor.specs.Rules.Plain.{Plain}
use Rattle.editor.specs.Rules.Bytes.{Stores, quarter, quarter_of, sized, plain_of, lengths_of, stores_of, editor_ok, SoundPlain}
use Rattle.editor.specs.Rules.Conversion.{old_quarter, converted_side, converted_stores}
use Rattle.editor.specs.Wording.Promise.{Sound}
use Rattle.editor.specs.Wording.Conversion.{spread, longer, lengthened}
use Rattle.editor.proofs.Laws.Quarters.{length-quarter, lent-first}
use Rattle.editor.proofs.Laws.Session.{measured, passed}
use Rattle.editor.proofs.Laws.Encoding.{plain-of-encoded, encoded-ok, encoded-sized, session-encoded}

-- An old quarter is no longer than a new one.
pub old-shorter : old_quarter ≤ quarter
unfolding old_quarter quarter
old-shorter = omega arith

-- ---- The copies

-- A run put at the front of a quarter of zeros.
put-longer : (Q at : ℕ) (front run rest : List ℕ) → length front ≡ at → length run ≤ Q
    → patch at run (front ++ (zeros Q ++ rest)) ≡ front ++ (longer Q run ++ rest)
put-longer Q at front run rest place fits =
    let split : zeros Q ≡ zeros (length run) ++ zeros (Q - length run) =
    let e : Q ≡ length run + (Q - length run) = omega arith in
    ap zeros e ∙ sym (zeros-both (length run) (Q - length run)) in
    ap (λ z. patch at run (front ++ (z ++ rest))) split
    ∙ ap (λ z. patch at run (front ++ z)) (append_assoc (zeros (length run)) (zeros (Q - length run)) rest)
    ∙ patch-middle front (zeros (length run)) (zeros (Q - length run) ++ rest) run at place (length-zeros (length run))
    ∙ ap (front ++◌) (sym (append_assoc run (zeros (Q - length run)) rest))

-- Two texts put at the two ends of one.
put-gap : (Q : ℕ) (d : Doc) (rest : List ℕ) → length d.l + length d.r ≤ Q
    → spread Q d (zeros Q ++ rest) ≡ gapped Q d ++ rest
unfolding gapped
put-gap Q d rest fits =
    let l = length d.l in
    let r = length d.r in
    let free = Q - (l + r) in
    let split : zeros (Q - l) ≡ zeros free ++ zeros r =
    let e : Q - l ≡ free + r = omega arith in
    ap zeros e ∙ sym (zeros-both free r) in
    let place : length (d.l ++ zeros free) ≡ Q - r = rw (length-append, length-zeros) (omega arith) in
    ap (patch (Q - r) d.r) (put-longer Q 0 [] d.l rest refl (omega arith))
    ∙ ap (λ z. patch (Q - r) d.r ((d.l ++ z) ++ rest)) split
    ∙ ap (λ z. patch (Q - r) d.r (z ++ rest)) (sym (append_assoc d.l (zeros free) (zeros r)))
    ∙ ap (patch (Q - r) d.r) (append_assoc (d.l ++ zeros free) (zeros r) rest)
    ∙ patch-middle (d.l ++ zeros free) (zeros r) rest d.r (Q - r) place (length-zeros r)
    ∙ sym (append_assoc (d.l ++ zeros free) d.r rest)
    ∙ ap (◌++ rest) (append_assoc d.l (zeros free) d.r)

length-longer : (Q : ℕ) (s : List ℕ) → length s ≤ Q → length (longer Q s) ≡ Q
length-longer Q s fits = rw (length-append, length-zeros) (omega arith)

-- Four quarters of zeros, one behind the other.
four-zeros : (Q : ℕ) → zeros (4 * Q) ≡ zeros Q ++ (zeros Q ++ (zeros Q ++ (zeros Q ++ [])))
unfolding zeros
four-zeros Q =
    let e : 4 * Q ≡ Q + (Q + (Q + (Q + 0))) = omega arith in
    ap zeros e ∙ sym (zeros-both Q (Q + (Q + (Q + 0))))
    ∙ ap (zeros Q ++◌) (sym (zeros-both Q (Q + (Q + 0))) ∙ ap (zeros Q ++◌) (sym (zeros-both Q (Q + 0)) ∙ ap (zeros Q ++◌) (sym (zeros-both Q 0))))

-- All copies: a gap store and three runs, each into its quarter.
put_all : (Q : ℕ) (d : Doc) (a b c : List ℕ) → length d.l + length d.r ≤ Q → length a ≤ Q → length b ≤ Q → length c ≤ Q
    → patch (3 * Q) c (patch (2 * Q) b (patch (1 * Q) a (spread Q d (zeros (4 * Q)))))
    ≡ gapped Q d ++ (longer Q a ++ (longer Q b ++ longer Q c))
put_all Q d a b c fits fa fb fc =
    let g = gapped Q d in
    let long : length g ≡ Q = length-gapped Q d fits in
    let z1 = zeros Q ++ [] in
    let z2 = zeros Q ++ z1 in
    let two : length (g ++ longer Q a) ≡ 2 * Q = rw (length-append, long, length-longer Q a fa) (omega arith) in
    let three : length ((g ++ longer Q a) ++ longer Q b) ≡ 3 * Q = rw (length-append, two, length-longer Q b fb) (omega arith) in
    ap (λ s. patch (3 * Q) c (patch (2 * Q) b (patch (1 * Q) a s))) (ap (spread Q d) (four-zeros Q) ∙ put-gap Q d (zeros Q ++ z2) fits)
    ∙ ap (λ s. patch (3 * Q) c (patch (2 * Q) b s)) (put-longer Q (1 * Q) g a z2 (omega arith) fa ∙ sym (append_assoc g (longer Q a) z2))
    ∙ ap (patch (3 * Q) c) (put-longer Q (2 * Q) (g ++ longer Q a) b z1 two fb ∙ sym (append_assoc (g ++ longer Q a) (longer Q b) z1))
    ∙ put-longer Q (3 * Q) ((g ++ longer Q a) ++ longer Q b) c [] three fc
    ∙ append_assoc (g ++ longer Q a) (longer Q b) (longer Q c ++ [])
    ∙ append_assoc g (longer Q a) (longer Q b ++ (longer Q c ++ []))
    ∙ ap (λ s. g ++ (longer Q a ++ (longer Q b ++ s))) (append-nil (longer Q c))

-- What `lengthen_quotation` leaves, copy by copy.
pub quotation-spread : (O Q l r : ℕ) (old side : List ℕ) → length old ≡ 4 * O → l + r ≤ O → {s1 s2 : List ℕ}
    → s1 ≡ patch 0 (take l (take O old)) side
    → s2 ≡ patch (Q - r) (take (length (take O old) - (O - r)) (drop (O - r) (take O old))) s1
    → s2 ≡ spread Q (ungap l r (quarter_of O 0 old)) side
unfolding ungap
quotation-spread O Q l r old side long fits e1 e2 =
    let q = quarter_of O 0 old in
    let size : O ≡ length q = sym (length-quarter O 3 0 old long (omega arith)) in
    let on-right : r ≡ length (ungap l r q).r = sym (length-right l r q (omega arith)) in
    let left_so = ap (take l) (lent-first O old) in
    let behind = drop (O - r) (take O old) in
    let right_so = take_all (length (take O old) - (O - r)) behind (rw length-drop (omega arith)) ∙ λ i. drop (size i - r) (lent-first O old i) in
    e2 ∙ λ i. patch (Q - on-right i) (right_so i) ((e1 ∙ ap (λ run. patch 0 run side) left_so) i)

-- A store of which every byte is made free.
all-freed : (n : ℕ) (s : List ℕ) → length s ≡ n → patch 0 (zeros n) s ≡ zeros n
all-freed n s long =
    ap (patch 0 (zeros n)) (sym (append-nil s)) ∙ patch-middle [] s [] (zeros n) 0 refl (long ∙ sym (length-zeros n)) ∙ append-nil (zeros n)

-- What `lengthen` leaves.
pub quarters-lengthened : (O Q l r : ℕ) (old side : List ℕ) → length old ≡ 4 * O → length side ≡ 4 * Q → O ≤ Q → l + r ≤ O → {s0 s1 s2 s3 s4 : List ℕ}
    → s0 ≡ patch 0 (zeros (4 * Q)) side → s1 ≡ spread Q (ungap l r (quarter_of O 0 old)) s0
    → s2 ≡ patch (1 * Q) (quarter_of O 1 old) s1 → s3 ≡ patch (2 * Q) (quarter_of O 2 old) s2 → s4 ≡ patch (3 * Q) (quarter_of O 3 old) s3
    → s4 ≡ lengthened O Q l r old
quarters-lengthened O Q l r old side long whole more fits e0 e1 e2 e3 e4 =
    let d = ungap l r (quarter_of O 0 old) in
    let size : length (quarter_of O 0 old) ≡ O = length-quarter O 3 0 old long (omega arith) in
    let on-left : length d.l ≡ l = length-left l r (quarter_of O 0 old) (omega arith) in
    let on-right : length d.r ≡ r = length-right l r (quarter_of O 0 old) (omega arith) in
    let short : (i : ℕ) → i ≤ 3 → length (quarter_of O i old) ≤ Q = λ i h. omega (arith, length-quarter O 3 i old long h) in
    e4
    ∙ ap (patch (3 * Q) (quarter_of O 3 old))
    (e3 ∙ ap (patch (2 * Q) (quarter_of O 2 old)) (e2 ∙ ap (patch (1 * Q) (quarter_of O 1 old)) (e1 ∙ ap (spread Q d) (e0 ∙ all-freed (4 * Q) side whole))))
    ∙ put_all Q d _ _ _ (omega arith) (short 1 (omega arith)) (short 2 (omega arith)) (short 3 (omega arith))

-- ---- The same plain state

paired-longer : (O Q : ℕ) (d : Doc) → length d.l + length d.r ≤ O → O ≤ Q → paired O d ++ zeros (Q - O) ≡ paired Q d
unfolding paired
paired-longer O Q d fits more =
    let used = length d.l + length d.r in
    let e : O - used + (Q - O) ≡ Q - used = omega arith in
    append_assoc d.l (d.r ++ zeros (O - used)) (zeros (Q - O))
    ∙ ap (d.l ++◌) (append_assoc d.r (zeros (O - used)) (zeros (Q - O)) ∙ ap (d.r ++◌) (zeros-both (O - used) (Q - O) ∙ ap zeros e))

-- A sound pair store in a longer one holds the same pair.
pair-longer : (Q l r : ℕ) (s : List ℕ) → length s ≤ Q → sound_pair l r s ≡ true → longer Q s ≡ paired Q (unpair l r s)
pair-longer Q l r s more ok =
    let (known, holds) = sound-pair l r s ok in
    ap (◌++ zeros (Q - length s)) (sym holds) ∙ paired-longer (length s) Q (unpair l r s) known.held.fits more

longer-holdable : (O Q : ℕ) {d : Doc} → O ≤ Q → Holdable O d → Holdable Q d
longer-holdable O Q more h = record { fits = omega (arith, h.fits); bytes = h.bytes }

-- What is sound in quarters is sound in longer ones.
pub longer-sound : (T O Q : ℕ) (p : Plain) → O ≤ Q → SoundPlain T O p → SoundPlain T Q p
longer-sound T O Q p more s =
    let t = s.texts in
    record {
      texts = record {
        text = t.text;
        recall = t.recall;
        quotation = longer-holdable O Q more t.quotation;
        its_recall = longer-holdable O Q more t.its_recall;
        pattern = longer-holdable O Q more t.pattern;
        replacement = longer-holdable O Q more t.replacement;
        held = t.held;
        half = t.half;
        its_half = t.its_half;
        held_half = t.held_half;
        mode = t.mode;
        lines = t.lines;
      };
      mark = s.mark;
    }

module _ (O Q : ℕ) (n : Lengths) (b : Stores) (more : O ≤ Q) (sound : Sound O n b) where
  abbrev p : Plain
  p = plain_of O n b

  abbrev T : ℕ
  T = length b.text

  -- Quarters put into longer ones are the quarters of the plain state that they held.
  pub lengthened-converts : lengthened O Q n.quoted.l n.quoted.r b.side ≡ converted_side O Q n b
  unfolding plain_of stores_of unpair
  lengthened-converts =
      let tests = passed O n b sound.ok in
      let sizes = measured O b sound.tabled in
      let short : (i : ℕ) → i ≤ 3 → length (quarter_of O i b.side) ≤ Q = λ i h. omega (arith, length-quarter O 3 i b.side sizes.side h) in
      let recall = pair-longer Q n.quoted.rl n.quoted.rr (quarter_of O 1 b.side) (short 1 (omega arith)) tests.its_recall in
      let pattern = pair-longer Q n.pl 0 (quarter_of O 2 b.side) (short 2 (omega arith)) tests.pattern in
      let replacement = pair-longer Q n.xl n.xr (quarter_of O 3 b.side) (short 3 (omega arith)) tests.replacement in
      λ i. gapped Q (ungap n.quoted.l n.quoted.r (quarter_of O 0 b.side)) ++ (recall i ++ (pattern i ++ replacement i))

  encoded : (lengths_of p ≡ n) × (converted_stores O Q n b ≡ stores_of T Q p)
  unfolding stores_of
  encoded =
      let e = session-encoded O n b sound.tabled sound.ok in
      let same = sym e.stores in (
        e.lengths,
        λ i. record { text = (same i).text; recall = (same i).recall; held = (same i).held; side = converted_side O Q n b },
      )

  plain-sound : SoundPlain T Q p
  plain-sound = longer-sound T O Q p more (session-encoded O n b sound.tabled sound.ok).sound

  -- The converted stores hold it with the same record, and pass for a session's.
  pub converted-plain : plain_of Q n (converted_stores O Q n b) ≡ p
  converted-plain = (λ i. plain_of Q (sym encoded.0 i) (encoded.1 i)) ∙ plain-of-encoded T Q p plain-sound.texts

  pub converted-sound : Sound Q n (converted_stores O Q n b)
  converted-sound =
      let sizes = measured O b sound.tabled in
      record {
        tabled = ap (sized Q) encoded.1 ∙ encoded-sized T Q p sizes.low sizes.high plain-sound.texts;
        ok = (λ i. editor_ok Q (sym encoded.0 i) (encoded.1 i)) ∙ encoded-ok T Q p plain-sound.texts plain-sound.mark;
      }
