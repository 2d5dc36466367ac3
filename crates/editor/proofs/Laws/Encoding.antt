-- Writing a plain state down as record and stores, and reading it back.
use mathlib.Core.Path.{◌≡◌, refl, sym, ap, ◌∙◌}
use mathlib.Core.Bool.{true}
use mathlib.Core.List.{List, ◌++◌}
use Prim.Native.Nat.{ℕ, ◌+◌, ◌≤◌}
use native.Mathlib.Omega.{arith}
use lib.ListN.{length}
use Rattle.gap.specs.Rules.Doc.{content}
use Rattle.gap.specs.Rules.LineLimits.{lines_fit}
use Rattle.gap.specs.Rules.Layout.{gapped, paired, ungap, unpair, sound_gap, sound_pair}
use Rattle.gap.proofs.Laws.Layout.{Encodes, length-gapped, length-paired, ungap-gapped, unpair-paired}
use Rattle.gap.proofs.Laws.Layout.{gap-sound, pair-sound, sound-gap, sound-pair}
use Rattle.editor.specs.Words.{Sizes, Lengths}
use Rattle.editor.specs.Rules.Plain.{Side, Plain, holding}
use Rattle.editor.specs.Rules.LongLines.{longest_line}
use Rattle.editor.specs.Rules.Marks.{mark_within}
use Rattle.editor.specs.Rules.Bytes.{Stores, sized, quarter_of, alone, sizes_of, plain_of, lengths_of, stores_of, editor_ok, one_half}
use Rattle.editor.specs.Rules.Bytes.{unquoted, holding_sizes, SoundTexts, Encoded}
use Rattle.editor.proofs.Laws.Quarters.{quarters_of, length-quarter, joined-quarters, length-side, encoded-quarter}
use Rattle.editor.proofs.Laws.Session.{measured, measured-sized, passed, passed_ok}

module _ (T Q : ℕ) (p : Plain) (s : SoundTexts T Q p) where
  quarter : (i : ℕ) → i ≤ 3 → quarter_of Q i (stores_of T Q p).side ≡ quarters_of Q p i
  quarter = encoded-quarter T Q p s

  -- Decoding an encoded state gives it back.
  pub plain-of-encoded : plain_of Q (lengths_of p) (stores_of T Q p) ≡ p
  unfolding plain_of lengths_of stores_of
  plain-of-encoded = λ i. record {
    main = record {
      text = ungap-gapped T p.main.text s.text.fits i;
      recall = unpair-paired T p.main.recall s.recall.fits i;
    };
    quoted = record {
      text = (ap (ungap _ _) (quarter 0 (omega arith)) ∙ ungap-gapped Q p.quoted.text s.quotation.fits) i;
      recall = (ap (unpair _ _) (quarter 1 (omega arith)) ∙ unpair-paired Q p.quoted.recall s.its_recall.fits) i;
    };
    pattern = ((ap (unpair _ _) (quarter 2 (omega arith)) ∙ unpair-paired Q (alone p.pattern) s.pattern.fits) i).l;
    replacement = (ap (unpair _ _) (quarter 3 (omega arith)) ∙ unpair-paired Q p.replacement s.replacement.fits) i;
    mode = p.mode;
    held = unpair-paired T p.held s.held.fits i;
    mark = p.mark;
  }

  -- The encoding of a sound plain state passes the session test.
  pub encoded-ok : mark_within (length p.main.text.l + length p.main.text.r) p.mark ≡ true → editor_ok Q (lengths_of p) (stores_of T Q p) ≡ true
  unfolding lengths_of stores_of
  encoded-ok mark = passed_ok Q (lengths_of p) (stores_of T Q p) record {
    text = gap-sound T p.main.text s.text;
    lines = ap (λ d. lines_fit longest_line (content d)) (ungap-gapped T p.main.text s.text.fits) ∙ s.lines;
    recall = pair-sound T p.main.recall s.recall;
    quotation = ap (sound_gap _ _) (quarter 0 (omega arith)) ∙ gap-sound Q p.quoted.text s.quotation;
    its_recall = ap (sound_pair _ _) (quarter 1 (omega arith)) ∙ pair-sound Q p.quoted.recall s.its_recall;
    pattern = ap (sound_pair _ _) (quarter 2 (omega arith)) ∙ pair-sound Q (alone p.pattern) s.pattern;
    replacement = ap (sound_pair _ _) (quarter 3 (omega arith)) ∙ pair-sound Q p.replacement s.replacement;
    held = pair-sound T p.held s.held;
    mark = mark;
    half = s.half;
    its_half = s.its_half;
    held_half = s.held_half;
    mode = s.mode;
  }

-- The encoding passes the test of sizes as well, for a T that the stores may have.
pub encoded-sized : (T Q : ℕ) (p : Plain) → 1 ≤ T → T ≤ 65536 → SoundTexts T Q p → sized Q (stores_of T Q p) ≡ true
unfolding stores_of
encoded-sized T Q p low high s =
    let text : length (gapped T p.main.text) ≡ T = length-gapped T p.main.text s.text.fits in
    measured-sized Q (stores_of T Q p) record {
      low = omega arith;
      high = omega arith;
      recall = length-paired T p.main.recall s.recall.fits ∙ sym text;
      held = length-paired T p.held s.held.fits ∙ sym text;
      side = length-side T Q p s;
    }

-- A sound store whose length is known.
module _ {size : ℕ} (l r : ℕ) (s : List ℕ) (known : length s ≡ size) where
  gap-held : sound_gap l r s ≡ true → Encodes size l r (ungap l r s) × (gapped size (ungap l r s) ≡ s)
  gap-held e = rw (← known) (sound-gap l r s e)

  pair_held : sound_pair l r s ≡ true → Encodes size l r (unpair l r s) × (paired size (unpair l r s) ≡ s)
  pair_held e = rw (← known) (sound-pair l r s e)

-- The lengths of a side whose texts have the lengths of a record.
same-sizes : {size : ℕ} (n : Sizes) (s : Side) → Encodes size n.l n.r s.text → Encodes size n.rl n.rr s.recall
    → sizes_of s ≡ n
same-sizes n s text recall = λ i. record { l = text.left i; r = text.right i; rl = recall.left i; rr = recall.right i }

pub session-encoded : (Q : ℕ) (n : Lengths) (b : Stores) → sized Q b ≡ true → editor_ok Q n b ≡ true → Encoded Q n b
unfolding plain_of lengths_of stores_of unpair
session-encoded Q n b size ok =
    let m = measured Q b size in
    let t = passed Q n b ok in
    let known : (i : ℕ) → i ≤ 3 → length (quarter_of Q i b.side) ≡ Q = λ i h. length-quarter Q 3 i b.side m.side h in
    let text = gap-held n.main.l n.main.r b.text refl t.text in
    let recall = pair_held n.main.rl n.main.rr b.recall m.recall t.recall in
    let quotation = gap-held n.quoted.l n.quoted.r (quarter_of Q 0 b.side) (known 0 (omega arith)) t.quotation in
    let its_recall = pair_held n.quoted.rl n.quoted.rr (quarter_of Q 1 b.side) (known 1 (omega arith)) t.its_recall in
    let pattern = pair_held n.pl 0 (quarter_of Q 2 b.side) (known 2 (omega arith)) t.pattern in
    let replacement = pair_held n.xl n.xr (quarter_of Q 3 b.side) (known 3 (omega arith)) t.replacement in
    let held = pair_held n.hl n.hr b.held m.held t.held in
    let main = same-sizes n.main (plain_of Q n b).main text.0 recall.0 in
    let quoted = same-sizes n.quoted (plain_of Q n b).quoted quotation.0 its_recall.0 in
    let holds = same-sizes (holding_sizes n) (holding (plain_of Q n b)) text.0 held.0 in
    record {
      sound = record {
        texts = record {
          text = text.0.held;
          recall = recall.0.held;
          quotation = quotation.0.held;
          its_recall = its_recall.0.held;
          pattern = pattern.0.held;
          replacement = replacement.0.held;
          held = held.0.held;
          half = ap one_half main ∙ t.half;
          its_half = ap one_half quoted ∙ t.its_half;
          held_half = ap one_half holds ∙ t.held_half;
          mode = ap (unquoted n.mode) quoted ∙ t.mode;
          lines = t.lines;
        };
        mark = ap (λ s. mark_within (s.l + s.r) n.mark) main ∙ t.mark;
      };
      lengths = λ i. record {
        main = main i;
        quoted = quoted i;
        xl = replacement.0.left i;
        xr = replacement.0.right i;
        pl = pattern.0.left i;
        mode = n.mode;
        hl = held.0.left i;
        hr = held.0.right i;
        mark = n.mark;
      };
      stores = λ i. record {
        text = text.1 i;
        recall = recall.1 i;
        held = held.1 i;
        side = ((λ j. quotation.1 j ++ (its_recall.1 j ++ (pattern.1 j ++ replacement.1 j))) ∙ joined-quarters Q 3 b.side m.side) i;
      };
    }
