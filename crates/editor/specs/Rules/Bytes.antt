-- The plain state as record and stores: writing it down, reading it back, and the session test without the window's part.
-- T is the length of the text store, Q that of a quarter of the side store.
use Rattle.editor.specs.Words.{Mode, Main, Quoted, Sizes, Lengths, Report}
use Rattle.std.specs.Prelude.{◌≡◌, List, [], ◌++◌, Bool, true, ◌&&◌, ◌||◌, ℕ, ◌*◌, eqb, ◌+◌, leb, length, None}
use Rattle.gap.specs.Rules.Sequence.{part}
use Rattle.gap.specs.Rules.Doc.{Doc, content}
use Rattle.gap.specs.Rules.LineLimits.{lines_fit}
use Rattle.gap.specs.Rules.Layout.{gapped, paired, ungap, unpair, sound_gap, sound_pair, Holdable}
use Rattle.editor.specs.Rules.Plain.{Side, Plain, holding, quiet, Outcome, refused, done}
use Rattle.editor.specs.Rules.LongLines.{longest_line, readable}
use Rattle.editor.specs.Rules.Marks.{mark_within}

-- The stores that the editor works on; the screen is the window's.
pub record Stores : Type 0 where
  pub text : List ℕ
  pub recall : List ℕ
  pub held : List ℕ
  pub side : List ℕ

-- 01, stores: the length of a quarter. (02, M-109: 1,024.)
unfoldable pub quarter : ℕ
quarter = 1024

-- The lengths that the four stores must have. (01, table of stores. 02, M-101: a fifth store of length T, the screen being the other.)
unfoldable pub sized : ℕ → Stores → Bool
sized Q b =
    (leb 1 (length b.text) && leb (length b.text) 65536)
    && ((eqb (length b.recall) (length b.text) && eqb (length b.held) (length b.text)) && eqb (length b.side) (4 * Q))

-- Quarter i of the side store: quotation 0, its recall text 1, pattern 2, replacement 3. (01, stores: side.)
abbrev pub quarter_of : ℕ → ℕ → List ℕ → List ℕ
quarter_of Q i side = part (i * Q) Q side

-- The pattern is laid out as a pair that has no right half. (01, stores: pattern.)
abbrev pub alone : List ℕ → Doc
alone pattern = record { l = pattern; r = [] }

-- Reading: the plain state that record and stores hold.
unfoldable pub plain_of : ℕ → Lengths → Stores → Plain
plain_of Q n b =
    record {
      main = record { text = ungap n.main.l n.main.r b.text; recall = unpair n.main.rl n.main.rr b.recall };
      quoted =
          record {
            text = ungap n.quoted.l n.quoted.r (quarter_of Q 0 b.side);
            recall = unpair n.quoted.rl n.quoted.rr (quarter_of Q 1 b.side);
          };
      pattern = (unpair n.pl 0 (quarter_of Q 2 b.side)).l;
      replacement = unpair n.xl n.xr (quarter_of Q 3 b.side);
      mode = n.mode;
      held = unpair n.hl n.hr b.held;
      mark = n.mark;
    }

-- Writing: the record's lengths, and the bytes. Nothing but the plain state, T and Q enters. (01, stores: same bytes.)
abbrev pub sizes_of : Side → Sizes
sizes_of s =
    record { l = length s.text.l; r = length s.text.r; rl = length s.recall.l; rr = length s.recall.r }

unfoldable pub lengths_of : Plain → Lengths
lengths_of p =
    record {
      main = sizes_of p.main;
      quoted = sizes_of p.quoted;
      xl = length p.replacement.l;
      xr = length p.replacement.r;
      pl = length p.pattern;
      mode = p.mode;
      hl = length p.held.l;
      hr = length p.held.r;
      mark = p.mark;
    }

-- A side with nothing in it, and the lengths of a newly opened text of n bytes.
abbrev pub no_sizes : Sizes
no_sizes = record { l = 0; r = 0; rl = 0; rr = 0 }

abbrev pub opening_lengths : ℕ → Lengths
opening_lengths n =
    record {
      main = record { l = 0; r = n; rl = 0; rr = 0 };
      quoted = no_sizes;
      xl = 0;
      xr = 0;
      pl = 0;
      mode = Main;
      hl = 0;
      hr = 0;
      mark = None;
    }

unfoldable pub stores_of : ℕ → ℕ → Plain → Stores
stores_of T Q p =
    record {
      text = gapped T p.main.text;
      recall = paired T p.main.recall;
      held = paired T p.held;
      side =
          gapped Q p.quoted.text
          ++ (paired Q p.quoted.recall ++ (paired Q (alone p.pattern) ++ paired Q p.replacement));
    }

-- The sizes of the document with the held pair in the place of its recall text.
abbrev pub holding_sizes : Lengths → Sizes
holding_sizes n = record { l = n.main.l; r = n.main.r; rl = n.hl; rr = n.hr }

-- A recall text lies on one side only. (01, session: recall pair.)
abbrev pub one_half : Sizes → Bool
one_half n = eqb n.rl 0 || eqb n.rr 0

-- Without QUOTED there is no quotation. (01, session: mode MAIN.)
abbrev pub unquoted : Mode → Sizes → Bool
unquoted Main n = (eqb n.l 0 && eqb n.r 0) && (eqb n.rl 0 && eqb n.rr 0)
unquoted Quoted n = true

-- All that a session asks but for the cursor on the screen. A replacement may have both halves. (01, session. DECISIONS B20. 02, M-101: the
-- held pair under the recall pair's rule, and the mark within the document. M-106: a session needs it too, of the document's lines.)
unfoldable pub editor_ok : ℕ → Lengths → Stores → Bool
editor_ok Q n b =
    ((sound_gap n.main.l n.main.r b.text && lines_fit longest_line (content (ungap n.main.l n.main.r b.text)))
    && sound_pair n.main.rl n.main.rr b.recall)
    && ((sound_gap n.quoted.l n.quoted.r (quarter_of Q 0 b.side) && sound_pair n.quoted.rl n.quoted.rr (quarter_of Q 1 b.side))
    && ((sound_pair n.pl 0 (quarter_of Q 2 b.side) && sound_pair n.xl n.xr (quarter_of Q 3 b.side))
    && ((sound_pair n.hl n.hr b.held && mark_within (n.main.l + n.main.r) n.mark)
    && ((one_half n.main && one_half n.quoted) && (one_half (holding_sizes n) && unquoted n.mode n.quoted)))))

-- What this layer's key call replies: 0 or a refusal's number, its report, and the lengths now.
pub record EditorReply : Type 0 where
  pub code : ℕ
  pub report : Report
  pub lengths : Lengths

-- What it gives: its reply and the stores.
pub record Edited : Type 0 where
  pub reply : EditorReply
  pub stores : Stores

-- Refused, it gives back what it was given. (01, refusals: what a refusal leaves.)
abbrev pub unedited : ℕ → Lengths → EditorReply
unedited code n = record { code = code; report = quiet; lengths = n }

abbrev pub edited_to : ℕ → Lengths → Stores → Outcome → Edited
edited_to Q n b (refused code) = record { reply = unedited code n; stores = b }
edited_to Q n b (done did) =
    record {
      reply = record { code = 0; report = did.report; lengths = lengths_of did.state };
      stores = stores_of (length b.text) Q did.state;
    }

-- What makes the texts of a plain state a session's: each fits its store with allowed bytes, of each recall pair and of the held pair one half is
-- empty, and in MAIN there is no quotation; the reader takes every line of the document. (01, session. 02, M-101, M-106.)
pub record SoundTexts (T Q : ℕ) (p : Plain) : Type 0 where
  pub text : Holdable T p.main.text
  pub recall : Holdable T p.main.recall
  pub quotation : Holdable Q p.quoted.text
  pub its_recall : Holdable Q p.quoted.recall
  pub pattern : Holdable Q (alone p.pattern)
  pub replacement : Holdable Q p.replacement
  pub held : Holdable T p.held
  pub half : one_half (sizes_of p.main) ≡ true
  pub its_half : one_half (sizes_of p.quoted) ≡ true
  pub held_half : one_half (sizes_of (holding p)) ≡ true
  pub mode : unquoted p.mode (sizes_of p.quoted) ≡ true
  pub lines : readable longest_line p ≡ true

-- And what makes it a session's plain state: the mark lies within the document besides.
pub record SoundPlain (T Q : ℕ) (p : Plain) : Type 0 where
  pub texts : SoundTexts T Q p
  pub mark : mark_within (length p.main.text.l + length p.main.text.r) p.mark ≡ true

-- Record and stores that pass the session test hold a sound plain state, and are its encoding.
pub record Encoded (Q : ℕ) (n : Lengths) (b : Stores) : Type 0 where
  pub sound : SoundPlain (length b.text) Q (plain_of Q n b)
  pub lengths : lengths_of (plain_of Q n b) ≡ n
  pub stores : stores_of (length b.text) Q (plain_of Q n b) ≡ b
