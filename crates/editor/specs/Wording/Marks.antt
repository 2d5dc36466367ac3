-- How the promises of the functions about the mark speak: the record with another mark or held text, and what a key changes, in numbers. Laws
-- alone use `held_reply`.
use Rattle.std.specs.Prelude.{◌≡◌, ◌≤◌, Bool, true, false, cond, ℕ, ◌+◌, ◌-◌, eqb, Option}
use Rattle.editor.specs.Words.{Direction, Left, Right, Mode, Main, Quoted, Move, Delete}
use Rattle.editor.specs.Words.{Key, Insert, Function, Recall, Quote, Find, Replace, Mark, Cut, Paste, Newline, Tab}
use Rattle.editor.specs.Words.{Sizes, Lengths, Report, Exchange}
use Rattle.editor.specs.Rules.Marks.{mark_through, mark_within}
use Rattle.editor.specs.Rules.Bytes.{EditorReply, unedited}
use Rattle.editor.specs.Wording.Promise.{SideReply}

-- The lengths with another mark; and with the sizes that a key left of the document with the held pair in the place of its recall text.
abbrev pub marked_at : Option ℕ → Lengths → Lengths
marked_at mark n =
    record {
      main = n.main;
      quoted = n.quoted;
      xl = n.xl;
      xr = n.xr;
      pl = n.pl;
      mode = n.mode;
      hl = n.hl;
      hr = n.hr;
      mark = mark;
    }

abbrev pub held_in : Sizes → Lengths → Lengths
held_in m n =
    record {
      main = record { l = m.l; r = m.r; rl = n.main.rl; rr = n.main.rr };
      quoted = n.quoted;
      xl = n.xl;
      xr = n.xr;
      pl = n.pl;
      mode = n.mode;
      hl = m.rl;
      hr = m.rr;
      mark = n.mark;
    }

-- The reply of such a key: refused, or done with a mark.
abbrev pub held_reply : Lengths → Option ℕ → SideReply → EditorReply
held_reply n mark t =
    cond (eqb t.code 0) (record { code = 0; report = t.report; lengths = held_in t.sizes (marked_at mark n) }) (unedited t.code n)

-- What a key changes of the document, by the lengths before it, its report and the lengths behind it (change_of in Rules/Keys). CUT leaves no mark
-- that could move.
abbrev pub nothing : Exchange
nothing = record { before = 0; behind = 0; come = 0 }

abbrev pub coming : ℕ → Exchange
coming n = record { before = 0; behind = 0; come = n }

abbrev pub going : Direction → ℕ → Exchange
going Left n = record { before = n; behind = 0; come = 0 }
going Right n = record { before = 0; behind = n; come = 0 }

abbrev pub in_document : Mode → Exchange → Exchange
in_document Main e = e
in_document Quoted e = nothing

unfoldable pub exchange_of : Key → Lengths → Report → Lengths → Exchange
exchange_of (Insert b) n report m = in_document n.mode (coming 1)
exchange_of (Function Move way place) n report m = nothing
exchange_of (Function Delete way place) n report m = in_document n.mode (going way report.steps)
exchange_of Recall n report m = in_document n.mode (coming (n.main.rl + n.main.rr))
exchange_of Quote n report m = nothing
exchange_of (Find way) n report m = nothing
exchange_of Replace n report m = cond report.bell nothing (record { before = 0; behind = m.pl; come = m.xl + m.xr })
exchange_of Mark n report m = nothing
exchange_of Cut n report m = nothing
exchange_of Paste n report m = coming (n.hl + n.hr)
exchange_of Newline n report m = in_document n.mode (coming report.steps)
exchange_of Tab n report m = in_document n.mode (coming report.steps)

-- CUT is the one key that reports no lines of what it takes from before the cursor.
abbrev pub cuts : Key → Bool
cuts (Insert b) = false
cuts (Function action way place) = false
cuts Recall = false
cuts Quote = false
cuts (Find way) = false
cuts Replace = false
cuts Mark = false
cuts Cut = true
cuts Paste = false
cuts Newline = false
cuts Tab = false

-- The mark through it, and a key's reply with that mark.
abbrev pub mark_exchanged : Exchange → ℕ → Option ℕ → Option ℕ
mark_exchanged e l mark = mark_through (l - e.before) (e.before + e.behind) e.come mark

abbrev pub mark_of : Key → Lengths → Report → Lengths → Option ℕ
mark_of k n report m = mark_exchanged (exchange_of k n report m) n.main.l m.mark

abbrev pub followed_reply : Key → Lengths → EditorReply → EditorReply
followed_reply k n r =
    record { code = 0; report = r.report; lengths = marked_at (mark_of k n r.report r.lengths) r.lengths }

-- No sum wraps: nothing of it is longer than a store.
pub record Moderate (e : Exchange) (l : ℕ) (mark : Option ℕ) : Type 0 where
  pub before : e.before ≤ l
  pub left : l ≤ 65536
  pub behind : e.behind ≤ 65536
  pub come : e.come ≤ 65536
  pub position : mark_within 65536 mark ≡ true

pub record Followable (k : Key) (n : Lengths) (r : EditorReply) : Type 0 where
  pub recall : n.main.rl + n.main.rr ≤ 65536
  pub held : n.hl + n.hr ≤ 65536
  pub replacement : r.lengths.xl + r.lengths.xr ≤ 65536
  pub moderate : Moderate (exchange_of k n r.report r.lengths) n.main.l r.lengths.mark
