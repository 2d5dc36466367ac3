-- How the promises of this layer's functions speak: what they ask of lent stores, and their outcome as one value. Laws alone use `reply_of`.
use Rattle.std.specs.Prelude.{◌≡◌, ◌≤◌, List, [], ◌∷◌, Bool, true, cond, ℕ, ◌+◌, ◌-◌, ◌*◌, eqb, leb, length, take, Option, Some, None, Result, Ok, Err}
use Rattle.editor.specs.Words.{Direction, Left, Right}
use Rattle.editor.specs.Words.{Mode, Main, Quoted, Sizes, Lengths, Report}
use Rattle.gap.specs.Rules.Sequence.{patch, zeros}
use Rattle.gap.specs.Rules.Checks.{Check, check, unless}
use Rattle.gap.specs.Rules.Doc.{Doc, content, room}
use Rattle.gap.specs.Rules.LineLimits.{lines_fit}
use Rattle.gap.specs.Rules.Layout.{gapped, paired, ungap, unpair, IsGap, IsPair}
use Rattle.editor.specs.declared.Edit.{Edit}
use Rattle.editor.specs.declared.Edit.TheVariants as edits
use Rattle.editor.specs.declared.SideDone.{SideDone}
use Rattle.editor.specs.declared.EditorDone.{EditorDone}
use Rattle.editor.specs.declared.refusals.Refusal.{Refusal}
use Rattle.editor.specs.Rules.Refusals.{FULL, LINE, number}
use Rattle.editor.specs.Rules.Plain.{Side, Plain, opening, quiet, Did, Outcome}
use Rattle.editor.specs.Rules.LongLines.{longest_line, readable}
use Rattle.editor.specs.Rules.Indents.{newlined, tabbed}
use Rattle.editor.specs.Rules.Keys.{inserted, function, recalled, matches, substituted, replaced, fits}
use Rattle.editor.specs.Rules.Bytes.{Stores, EditorReply, quarter, quarter_of, sized, sizes_of, plain_of, lengths_of, stores_of, editor_ok, unedited, edited_to, no_sizes}

-- ---- One side

-- How many moves there are by the sizes, and the sizes after d of them.
abbrev pub room_of : Direction → Sizes → ℕ
room_of Left n = n.l
room_of Right n = n.r

-- A distance that was found is within the room.
abbrev pub InRoom : Option ℕ → Direction → Doc → Type 0
InRoom answer way d = (n : ℕ) → answer ≡ Some n → n ≤ room way d

abbrev pub moved_by : Direction → ℕ → Sizes → Sizes
moved_by Left d n = record { l = n.l - d; r = n.r + d; rl = n.rl; rr = n.rr }
moved_by Right d n = record { l = n.l + d; r = n.r - d; rl = n.rl; rr = n.rr }

-- The sizes after d deletions.
abbrev pub deleted_by : Direction → ℕ → Sizes → Sizes
deleted_by Left d n = record { l = n.l - d; r = n.r; rl = d; rr = 0 }
deleted_by Right d n = record { l = n.l; r = n.r - d; rl = 0; rr = d }

-- Two stores of one length hold a side with these sizes, and no line of its text is longer than a limit.
pub record OnSide (limit : ℕ) (n : Sizes) (text recall : List ℕ) : Type 0 where
  pub gap : IsGap n.l n.r text
  pub pair : IsPair n.rl n.rr recall
  pub same : length recall ≡ length text
  pub lines : lines_fit limit (content (ungap n.l n.r text)) ≡ true

-- Each half of a text by itself has no line longer than a limit.
pub record HalvesFit (limit : ℕ) (d : Doc) : Type 0 where
  pub before : lines_fit limit d.l ≡ true
  pub behind : lines_fit limit d.r ≡ true

abbrev pub side_held : Sizes → List ℕ → List ℕ → Side
side_held n text recall = record { text = ungap n.l n.r text; recall = unpair n.rl n.rr recall }

-- What a key on one side replies: 0 or a refusal's number, its report, and the sizes now.
pub record SideReply : Type 0 where
  pub code : ℕ
  pub report : Report
  pub sizes : Sizes

-- The replies of a key that is refused with a number, and of one that is done.
abbrev pub refused_reply : ℕ → Sizes → SideReply
refused_reply code n = record { code = code; report = quiet; sizes = n }

abbrev pub done_reply : Report → Sizes → SideReply
done_reply report m = record { code = 0; report = report; sizes = m }

-- What the code answers, as such a reply; refused, the sizes are those from before.
abbrev pub side_done : SideDone → SideReply
side_done t = done_reply t.report t.sizes

abbrev pub side_reply : Sizes → Result SideDone Refusal → SideReply
side_reply n (Ok t) = side_done t
side_reply n (Err e) = refused_reply (number e) n

-- What a key on one side gives: its reply and the two stores.
pub record SideEdited : Type 0 where
  pub reply : SideReply
  pub text : List ℕ
  pub recall : List ℕ

-- What the finished text of a side is asked, in order: that it does not exceed its store, and that no line is longer than a limit.
abbrev pub side_checks : ℕ → List ℕ → Doc → List Check
side_checks limit text d = check FULL (leb (length (content d)) (length text)) ∷ check LINE (lines_fit limit (content d)) ∷ []

-- The edit's outcome written down, or everything as it was where a check fails.
unfoldable pub written : ℕ → Sizes → List ℕ → List ℕ → Did Side → SideEdited
written limit n text recall did =
    unless (side_checks limit text did.state.text) (λ code. record { reply = refused_reply code n; text = text; recall = recall })
    (record {
      reply = done_reply did.report (sizes_of did.state);
      text = gapped (length text) did.state.text;
      recall = paired (length recall) did.state.recall;
    })

-- A function on one side does what the plain edit does: its reply and both stores are determined.
abbrev pub EditsSide : ℕ → SideReply → Sizes → (Side → Did Side) → (text recall text_then recall_then : List ℕ) → Type 0
EditsSide limit t n edit text recall text_then recall_then =
    record { reply = t; text = text_then; recall = recall_then } ≡ written limit n text recall (edit (side_held n text recall))

-- One that is lent the text alone does the same, whatever recall text the side has: that stays.
abbrev pub EditsText : ℕ → SideReply → Sizes → (Side → Did Side) → (text text_then : List ℕ) → Type 0
EditsText limit t n edit text text_then = (recall : List ℕ) → OnSide limit n text recall → EditsSide limit t n edit text recall text_then recall

-- What each edit does on a side.
abbrev pub editing : Edit → Side → Did Side
editing (edits.Insert b) s = inserted b s
editing (edits.Function action way place) s = function action way place s
editing edits.Recall s = recalled s
editing edits.Newline s = newlined s
editing edits.Tab s = tabbed s

-- ---- All four stores

-- Stores as tabled that hold a session's part.
pub record Sound (Q : ℕ) (n : Lengths) (b : Stores) : Type 0 where
  pub tabled : sized Q b ≡ true
  pub ok : editor_ok Q n b ≡ true

abbrev pub stores : List ℕ → List ℕ → List ℕ → List ℕ → Stores
stores text recall held side = record { text = text; recall = recall; held = held; side = side }

-- What the code answers, as a reply of the whole layer; refused, the lengths are those from before.
abbrev pub editor_done : EditorDone → EditorReply
editor_done r = record { code = 0; report = r.report; lengths = r.lengths }

abbrev pub editor_reply : Lengths → Result EditorDone Refusal → EditorReply
editor_reply n (Ok r) = editor_done r
editor_reply n (Err e) = unedited (number e) n

-- A function on the four stores does what the plain editor says of a text store of T bytes: its reply and all four stores are
-- determined.
abbrev pub Edits : EditorReply → Lengths → (ℕ → Plain → Outcome) → Stores → Stores → Type 0
Edits r n outcome b then =
    record { reply = r; stores = then } ≡ edited_to quarter n b (outcome (length b.text) (plain_of quarter n b))

-- One that is not lent the held text's store does the same, whatever that holds: it stays. What it asks is asked with some held text.
abbrev pub SoundUnheld : Lengths → (text recall side : List ℕ) → Type 0
SoundUnheld n text recall side = (held : List ℕ) × Sound quarter n (stores text recall held side)

abbrev pub EditsUnheld : EditorReply → Lengths → (ℕ → Plain → Outcome) → (text recall side text_then recall_then side_then : List ℕ) → Type 0
EditsUnheld r n outcome text recall side text_then recall_then side_then =
    (held : List ℕ) → Sound quarter n (stores text recall held side)
    → Edits r n outcome (stores text recall held side) (stores text_then recall_then held side_then)

-- One that is lent no store at all.
abbrev pub EditsAny : EditorReply → Lengths → (ℕ → Plain → Outcome) → Type 0
EditsAny r n outcome = (b : Stores) → Sound quarter n b → Edits r n outcome b b

-- One that is lent text and held text alone.
abbrev pub EditsHeld : EditorReply → Lengths → (ℕ → Plain → Outcome) → (text held text_then held_then : List ℕ) → Type 0
EditsHeld r n outcome text held text_then held_then =
    (recall side : List ℕ) → Sound quarter n (stores text recall held side)
    → Edits r n outcome (stores text recall held side) (stores text_then recall held_then side)

-- One that is lent text and side store alone.
abbrev pub EditsTexts : EditorReply → Lengths → (ℕ → Plain → Outcome) → (text side text_then side_then : List ℕ) → Type 0
EditsTexts r n outcome text side text_then side_then = (recall : List ℕ) → EditsUnheld r n outcome text recall side text_then recall side_then

-- And one that is lent the side store alone.
abbrev pub EditsQuotation : EditorReply → Lengths → (ℕ → Plain → Outcome) → (side side_then : List ℕ) → Type 0
EditsQuotation r n outcome side side_then = (text : List ℕ) → EditsTexts r n outcome text side text side_then

-- Lengths and stores newly opened are those of the plain state that an opening gives.
pub record Opens (m : Lengths) (n : ℕ) (b then : Stores) : Type 0 where
  pub lengths : m ≡ lengths_of (opening (take n b.text))
  pub stores : then ≡ stores_of (length b.text) quarter (opening (take n b.text))

-- ---- The record

-- The lengths without a quotation, in another mode; and once the quotation, if there is one, has become the pattern or the
-- replacement.
abbrev pub cleared : Mode → Lengths → Lengths
cleared mode n =
    record {
      main = n.main;
      quoted = no_sizes;
      xl = n.xl;
      xr = n.xr;
      pl = n.pl;
      mode = mode;
      hl = n.hl;
      hr = n.hr;
      mark = n.mark;
    }

abbrev pub pattern_taken : Mode → Lengths → Lengths
pattern_taken Main n = n
pattern_taken Quoted n =
    record {
      main = n.main;
      quoted = no_sizes;
      xl = n.xl;
      xr = n.xr;
      pl = n.quoted.l + n.quoted.r;
      mode = Main;
      hl = n.hl;
      hr = n.hr;
      mark = n.mark;
    }

abbrev pub replacement_taken : Mode → Lengths → Lengths
replacement_taken Main n = n
replacement_taken Quoted n =
    record {
      main = n.main;
      quoted = no_sizes;
      xl = n.quoted.l;
      xr = n.quoted.r;
      pl = n.pl;
      mode = Main;
      hl = n.hl;
      hr = n.hr;
      mark = n.mark;
    }

-- What a key on a side makes of the lengths: refused, or its sizes put in.
abbrev pub sized_in : Mode → Sizes → Lengths → Lengths
sized_in Main m n =
    record {
      main = m;
      quoted = n.quoted;
      xl = n.xl;
      xr = n.xr;
      pl = n.pl;
      mode = n.mode;
      hl = n.hl;
      hr = n.hr;
      mark = n.mark;
    }
sized_in Quoted m n =
    record {
      main = n.main;
      quoted = m;
      xl = n.xl;
      xr = n.xr;
      pl = n.pl;
      mode = n.mode;
      hl = n.hl;
      hr = n.hr;
      mark = n.mark;
    }

abbrev pub reply_of : Mode → Lengths → SideReply → EditorReply
reply_of mode n t =
    cond (eqb t.code 0) (record { code = 0; report = t.report; lengths = sized_in mode t.sizes n }) (unedited t.code n)

-- ---- Searches and quotations

-- Text and side store as a search asks for them.
pub record Searchable (n : Lengths) (text side : List ℕ) : Type 0 where
  pub document : IsGap n.main.l n.main.r text
  pub pattern : n.pl ≤ quarter
  pub quotation : n.quoted.l + n.quoted.r ≤ quarter
  pub quarters : length side ≡ 4 * quarter

-- The side store once the quotation, if there is one, was given to the quarter at a place: its text stands there as a pair, and both of
-- its own quarters are free.
abbrev pub handed : ℕ → Mode → Sizes → ℕ → List ℕ → List ℕ
handed Q Main n at side = side
handed Q Quoted n at side =
    patch 0 (zeros (2 * Q)) (patch at (paired Q (ungap n.l n.r (quarter_of Q 0 side))) side)

-- What is known before a substitution: whether the pattern stands here, that the finished text fits, and that its lines do.
pub record Substitutes (here : Bool) (T : ℕ) (p : Plain) : Type 0 where
  pub known : here ≡ matches p.pattern p.main.text
  pub room : fits T quarter (substituted p).state ≡ true
  pub lines : readable longest_line (substituted p).state ≡ true

abbrev pub SubstitutesUnheld : Bool → Lengths → (text recall side : List ℕ) → Type 0
SubstitutesUnheld here n text recall side =
    (held : List ℕ) × Sound quarter n (stores text recall held side) × Substitutes here (length text) (plain_of quarter n (stores text recall held side))

-- What REPLACE puts in, where it lies.
abbrev pub replacing : Mode → Lengths → List ℕ → Doc
replacing Main n side = unpair n.xl n.xr (quarter_of quarter 3 side)
replacing Quoted n side = ungap n.quoted.l n.quoted.r (quarter_of quarter 0 side)

-- What is known before REPLACE's test of lines; and its answer. Of the stores a text is meant of which d is the document, and any recall text and
-- held text.
abbrev pub Exchanges : Bool → Lengths → Doc → (side : List ℕ) → Type 0
Exchanges here n d side =
    (text : List ℕ) × (recall : List ℕ) × (held : List ℕ) × Sound quarter n (stores text recall held side)
    × (d ≡ ungap n.main.l n.main.r text)
    × (here ≡ matches (plain_of quarter n (stores text recall held side)).pattern d)

abbrev pub ReadableExchanged : Bool → Lengths → Doc → (side : List ℕ) → Type 0
ReadableExchanged ok n d side =
    (text recall held : List ℕ) → Sound quarter n (stores text recall held side) → d ≡ ungap n.main.l n.main.r text
    → ok ≡ readable longest_line (replaced (plain_of quarter n (stores text recall held side))).state

-- The distance over all of a text of n bytes.
abbrev pub whole_of : ℕ → Option ℕ
whole_of n = cond (leb 1 n) (Some n) None
