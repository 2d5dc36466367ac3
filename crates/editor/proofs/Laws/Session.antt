-- The test of sizes and the session test, each taken apart into what it asks, and put together again.
use mathlib.Core.Path.{◌≡◌}
use mathlib.Core.Bool.{Bool, true, ◌&&◌}
use Prim.Native.Nat.{ℕ, ◌+◌, ◌*◌, ◌≤◌}
use lib.Dec.{leb, eqb}
use lib.ListN.{length}
use borrow.Author.Tests.{leb-true, le-leb, eqb-true, eq-eqb}
use Rattle.gap.specs.Rules.Doc.{content}
use Rattle.gap.specs.Rules.Layout.{ungap, sound_gap, sound_pair}
use Rattle.gap.specs.Rules.LineLimits.{lines_fit}
use Rattle.gap.proofs.Laws.Tests.{and_left, and_right, and_both}
use Rattle.editor.specs.Words.{Lengths}
use Rattle.editor.specs.Rules.Bytes.{Stores, sized, quarter_of, one_half, holding_sizes, unquoted, editor_ok}
use Rattle.editor.specs.Rules.LongLines.{longest_line}
use Rattle.editor.specs.Rules.Marks.{mark_within}

-- What the test of sizes asks.
pub record Measured (Q : ℕ) (b : Stores) : Type 0 where
  pub low : 1 ≤ length b.text
  pub high : length b.text ≤ 65536
  pub recall : length b.recall ≡ length b.text
  pub held : length b.held ≡ length b.text
  pub side : length b.side ≡ 4 * Q

-- What the session test asks, test by test, under the names that SoundTexts and SoundPlain have for them.
pub record Passed (Q : ℕ) (n : Lengths) (b : Stores) : Type 0 where
  pub text : sound_gap n.main.l n.main.r b.text ≡ true
  pub lines : lines_fit longest_line (content (ungap n.main.l n.main.r b.text)) ≡ true
  pub recall : sound_pair n.main.rl n.main.rr b.recall ≡ true
  pub quotation : sound_gap n.quoted.l n.quoted.r (quarter_of Q 0 b.side) ≡ true
  pub its_recall : sound_pair n.quoted.rl n.quoted.rr (quarter_of Q 1 b.side) ≡ true
  pub pattern : sound_pair n.pl 0 (quarter_of Q 2 b.side) ≡ true
  pub replacement : sound_pair n.xl n.xr (quarter_of Q 3 b.side) ≡ true
  pub held : sound_pair n.hl n.hr b.held ≡ true
  pub mark : mark_within (n.main.l + n.main.r) n.mark ≡ true
  pub half : one_half n.main ≡ true
  pub its_half : one_half n.quoted ≡ true
  pub held_half : one_half (holding_sizes n) ≡ true
  pub mode : unquoted n.mode n.quoted ≡ true

-- Two tests and the others behind them.
split : (a b others : Bool) → ((a && b) && others) ≡ true → (a ≡ true) × (b ≡ true) × (others ≡ true)
split a b others e = (and_left a b (and_left (a && b) others e), and_right a b (and_left (a && b) others e), and_right (a && b) others e)

module _ (Q : ℕ) (b : Stores) where
  pub measured : sized Q b ≡ true → Measured Q b
  unfolding sized
  measured e =
      let (low, high, others) = split (leb 1 (length b.text)) _ _ e in
      let (recall, held, side) = split (eqb (length b.recall) (length b.text)) _ _ others in
      record {
        low = leb-true _ _ low;
        high = leb-true _ _ high;
        recall = eqb-true _ _ recall;
        held = eqb-true _ _ held;
        side = eqb-true _ _ side;
      }

  pub measured-sized : Measured Q b → sized Q b ≡ true
  unfolding sized
  measured-sized m =
      and_both (and_both (le-leb _ _ m.low) (le-leb _ _ m.high))
      (and_both (and_both (eq-eqb _ _ m.recall) (eq-eqb _ _ m.held)) (eq-eqb _ _ m.side))

module _ (Q : ℕ) (n : Lengths) (b : Stores) where
  pub passed : editor_ok Q n b ≡ true → Passed Q n b
  unfolding editor_ok
  passed e =
      let lines : Bool = lines_fit longest_line (content (ungap n.main.l n.main.r b.text)) in
      let (document, recall, quoted) = split (sound_gap n.main.l n.main.r b.text && lines) _ _ e in
      let (quotation, its_recall, pairs) = split (sound_gap n.quoted.l n.quoted.r (quarter_of Q 0 b.side)) _ _ quoted in
      let (pattern, replacement, rest) = split (sound_pair n.pl 0 (quarter_of Q 2 b.side)) _ _ pairs in
      let (held, mark, halves) = split (sound_pair n.hl n.hr b.held) _ _ rest in
      let (half, its_half, others) = split (one_half n.main) _ _ halves in
      record {
        text = and_left (sound_gap n.main.l n.main.r b.text) lines document;
        lines = and_right (sound_gap n.main.l n.main.r b.text) lines document;
        recall = recall;
        quotation = quotation;
        its_recall = its_recall;
        pattern = pattern;
        replacement = replacement;
        held = held;
        mark = mark;
        half = half;
        its_half = its_half;
        held_half = and_left (one_half (holding_sizes n)) _ others;
        mode = and_right (one_half (holding_sizes n)) _ others;
      }

  pub passed_ok : Passed Q n b → editor_ok Q n b ≡ true
  unfolding editor_ok
  passed_ok t =
      and_both (and_both (and_both t.text t.lines) t.recall)
      (and_both (and_both t.quotation t.its_recall)
      (and_both (and_both t.pattern t.replacement)
      (and_both (and_both t.held t.mark)
      (and_both (and_both t.half t.its_half) (and_both t.held_half t.mode)))))
