-- The keys on the plain state. (01, plain editor, from the function keys on.)
use Rattle.gap.specs.Rules.Checks.{Check, check, unless}
use Rattle.editor.specs.Words.{Direction, Left, Right, Passage, Action, Move, Delete, Mode, Main, Quoted}
use Rattle.editor.specs.Words.{Place, Character, Word, LineBeginning, LineEnding, Document}
use Rattle.editor.specs.Words.{Key, Insert, Function, Recall, Quote, Find, Replace, Mark, Cut, Paste, Newline, Tab}
use Rattle.std.specs.Prelude.{◌≡◌, ◌⊎◌, ◌<◌, get_or, List, [], ◌∷◌, Bool, true, false, ◌&&◌, cond, ℕ, leb, length, Option, Some, None}
use Rattle.gap.specs.Rules.Sequence.{begins}
use Rattle.gap.specs.Rules.Doc.{Doc, content, move, delete, times, removed, splice}
use Rattle.gap.specs.Rules.Lines.{lines}
use Rattle.gap.specs.Rules.Layout.{allowed}
use Rattle.editor.specs.Rules.Places.{is_at}
use Rattle.editor.specs.Rules.Passages.{passage_to}
use Rattle.editor.specs.Rules.Marks.{Change, unchanged, putting, taking, mark_changed, way_to, far_to}
use Rattle.editor.specs.Rules.Plain.{Side, empty_side, Plain, holding, quiet, rang, went, Did, reporting, within, Outcome, refused, done}
use Rattle.editor.specs.Rules.LongLines.{longest_line, readable}
use Rattle.editor.specs.Rules.Indents.{leftward, indented_line, newlined, spaces_to_tab, tabbed}
use Rattle.editor.specs.Rules.Refusals.{KEY, FULL, LINE}

-- Of the twenty function keys two are never carried out. (01, refusals: KEY.)
abbrev pub sound_function : Action → Direction → Place → Bool
sound_function Move way place = true
sound_function Delete Left Character = true
sound_function Delete Left Word = true
sound_function Delete Left LineBeginning = true
sound_function Delete Left LineEnding = false
sound_function Delete Left Document = true
sound_function Delete Right Character = true
sound_function Delete Right Word = true
sound_function Delete Right LineBeginning = false
sound_function Delete Right LineEnding = true
sound_function Delete Right Document = true

-- MARK, CUT and PASTE are for the document alone. (02, M-101: KEY for these three in QUOTED.)
abbrev pub is_main : Mode → Bool
is_main Main = true
is_main Quoted = false

-- An insert must be of an allowed byte; all other keys of 01 are sound. (01, refusals: KEY.)
unfoldable pub sound_key : Mode → Key → Bool
sound_key mode (Insert b) = allowed b
sound_key mode (Function action way place) = sound_function action way place
sound_key mode Recall = true
sound_key mode Quote = true
sound_key mode (Find way) = true
sound_key mode Replace = true
sound_key mode Mark = is_main mode
sound_key mode Cut = is_main mode
sound_key mode Paste = is_main mode
sound_key mode Newline = true
sound_key mode Tab = true

-- ---- Keys on one side

-- The byte goes in before the cursor. (01, plain editor: insertion.)
unfoldable pub inserted : ℕ → Side → Did Side
inserted b s = reporting quiet (record { text = splice 0 0 (record { l = b ∷ []; r = [] }) s.text; recall = s.recall })

-- A function key at its distance: that many single steps, reported with the newlines that they pass. A deletion leaves what it took as recall
-- text; a move leaves the recall text alone. Where there is no place it rings, and text and recall text stay. (01, plain editor: distance, recall text. 02, M-103:
-- with the bell, in place of 01's empty pair; M-104: lines. DECISIONS B4, B30.)
unfoldable pub carried : Action → Direction → Option Passage → Side → Did Side
carried Move way (Some passage) s =
    reporting (went passage.steps passage.lines) (record { text = times (move way) passage.steps s.text; recall = s.recall })
carried Move way None s = reporting rang s
carried Delete way (Some passage) s =
    reporting (went passage.steps passage.lines)
    (record { text = times (delete way) passage.steps s.text; recall = removed way passage.steps s.text })
carried Delete way None s = reporting rang s

unfoldable pub function : Action → Direction → Place → Side → Did Side
function action way place s = carried action way (passage_to way (is_at place way) s.text) s

-- The recall pair goes in around the cursor, and stays for the next time. (01, plain editor: RECALL.)
unfoldable pub recalled : Side → Did Side
recalled s = reporting quiet (record { text = splice 0 0 s.recall s.text; recall = s.recall })

-- The mode says which side these keys act on. (01, plain editor: QUOTED.)
abbrev pub side_of : Mode → Plain → Side
side_of Main p = p.main
side_of Quoted p = p.quoted

abbrev pub with_side : Mode → Side → Plain → Plain
with_side Main s p =
    record {
      main = s;
      quoted = p.quoted;
      pattern = p.pattern;
      replacement = p.replacement;
      mode = p.mode;
      held = p.held;
      mark = p.mark;
    }
with_side Quoted s p =
    record {
      main = p.main;
      quoted = s;
      pattern = p.pattern;
      replacement = p.replacement;
      mode = p.mode;
      held = p.held;
      mark = p.mark;
    }

unfoldable pub on_side : (Side → Did Side) → Plain → Did Plain
on_side edit p = within (λ s. with_side p.mode s p) (edit (side_of p.mode p))

-- ---- Keys about the quotation

-- QUOTE goes over to the other mode, with an empty quotation and recall text on either way. (01, plain editor: QUOTE.)
abbrev pub other_mode : Mode → Mode
other_mode Main = Quoted
other_mode Quoted = Main

unfoldable pub quoted : Plain → Did Plain
quoted p =
    reporting quiet
    (record {
      main = p.main;
      quoted = empty_side;
      pattern = p.pattern;
      replacement = p.replacement;
      mode = other_mode p.mode;
      held = p.held;
      mark = p.mark;
    })

-- A quotation that ends in FIND or UPFIND becomes the pattern, wherever its cursor is; then it is cleared and the mode is MAIN.
-- (01, plain editor: FIND. DECISIONS B8.)
unfoldable pub with_pattern : Mode → Plain → Plain
with_pattern Main p = p
with_pattern Quoted p =
    record {
      main = p.main;
      quoted = empty_side;
      pattern = content p.quoted.text;
      replacement = p.replacement;
      mode = Main;
      held = p.held;
      mark = p.mark;
    }

-- Where the pattern lies right behind the cursor.
abbrev pub matches : List ℕ → Doc → Bool
matches pattern d = begins pattern d.r

-- A search is a move of the document's cursor to the nearest match that is not here. (01, plain editor: search.)
unfoldable pub searched : Direction → Plain → Did Plain
searched way p =
    within (λ s. with_side Main s p) (carried Move way (passage_to way (matches p.pattern) p.main.text) p.main)

unfoldable pub found : Direction → Plain → Did Plain
found way p = searched way (with_pattern p.mode p)

-- A quotation that ends in REPLACE becomes the replacement, cut at its cursor; then as above. (01, plain editor: REPLACE.)
unfoldable pub with_replacement : Mode → Plain → Plain
with_replacement Main p = p
with_replacement Quoted p =
    record {
      main = p.main;
      quoted = empty_side;
      pattern = p.pattern;
      replacement = p.quoted.text;
      mode = Main;
      held = p.held;
      mark = p.mark;
    }

-- At a match the pattern is exchanged for the replacement and becomes the recall text, to the right. Elsewhere the bell, and the
-- document's side stays; what the quotation gave is kept all the same. (01, plain editor: REPLACE. DECISIONS B7.)
unfoldable pub exchanged : Plain → Side
exchanged p =
    record {
      text = splice 0 (length p.pattern) p.replacement p.main.text;
      recall = record { l = []; r = p.pattern };
    }

unfoldable pub substituted : Plain → Did Plain
substituted p = cond (matches p.pattern p.main.text) (reporting quiet (with_side Main (exchanged p) p)) (reporting rang p)

unfoldable pub replaced : Plain → Did Plain
replaced p = substituted (with_replacement p.mode p)

-- ---- Keys about the mark

abbrev pub with_mark : Option ℕ → Plain → Plain
with_mark mark p =
    record {
      main = p.main;
      quoted = p.quoted;
      pattern = p.pattern;
      replacement = p.replacement;
      mode = p.mode;
      held = p.held;
      mark = mark;
    }

-- MARK sets the mark at the cursor. (02, M-101.)
unfoldable pub marked_here : Plain → Did Plain
marked_here p = reporting quiet (with_mark (Some (length p.main.text.l)) p)

-- The document with another text and another held pair; the recall text stays.
abbrev pub with_holding : Side → Plain → Plain
with_holding s p =
    record {
      main = record { text = s.text; recall = p.main.recall };
      quoted = p.quoted;
      pattern = p.pattern;
      replacement = p.replacement;
      mode = p.mode;
      held = s.recall;
      mark = p.mark;
    }

-- CUT is the deletion of the bytes between cursor and mark, held in the place of recall text, and drops the mark. It reports their number and no
-- lines. Without a mark there is the bell, and nothing else. (02, M-101. DECISIONS C11, C12, C16.)
unfoldable pub cut_to : Option ℕ → Plain → Did Plain
cut_to None p = reporting rang p
cut_to (Some m) p =
    let l = length p.main.text.l in
    within (λ s. with_mark None (with_holding s p)) (carried Delete (way_to m l) (Some (record { steps = far_to m l; lines = 0 })) (holding p))

abbrev pub cut : Plain → Did Plain
cut p = cut_to p.mark p

-- PASTE puts the held pair in around the cursor, as RECALL does with the recall pair; it stays held. (02, M-101. DECISIONS C13.)
unfoldable pub pasted : Plain → Did Plain
pasted p = within (λ s. with_holding s p) (recalled (holding p))

-- ---- A key

-- What each key does where there is room for it, but for the mark.
unfoldable pub acted : Key → Plain → Did Plain
acted (Insert b) p = on_side (inserted b) p
acted (Function action way place) p = on_side (function action way place) p
acted Recall p = on_side recalled p
acted Quote p = quoted p
acted (Find way) p = found way p
acted Replace p = replaced p
acted Mark p = marked_here p
acted Cut p = cut p
acted Paste p = pasted p
acted Newline p = on_side newlined p
acted Tab p = on_side tabbed p

-- What each key changes of the document: an edit in QUOTED nothing, a move or a search nothing, a deletion the bytes that it reports, REPLACE
-- without a match nothing. That the text behind a key is this change of the text before it: text-changed in proofs/Theorems/Marks.
abbrev pub of_document : Mode → Change → Change
of_document Main c = c
of_document Quoted c = unchanged

abbrev pub cutting : Option ℕ → ℕ → Change
cutting None l = unchanged
cutting (Some m) l = taking (way_to m l) (far_to m l)

unfoldable pub change_of : Key → Plain → Did Plain → Change
change_of (Insert b) p did = of_document p.mode (putting (record { l = b ∷ []; r = [] }))
change_of (Function Move way place) p did = unchanged
change_of (Function Delete way place) p did = of_document p.mode (taking way did.report.steps)
change_of Recall p did = of_document p.mode (putting p.main.recall)
change_of Quote p did = unchanged
change_of (Find way) p did = unchanged
change_of Replace p did =
    cond did.report.bell unchanged
    (record { before = 0; behind = length did.state.pattern; put = did.state.replacement })
change_of Mark p did = unchanged
change_of Cut p did = cutting p.mark (length p.main.text.l)
change_of Paste p did = putting p.held
change_of Newline p did = of_document p.mode (putting (leftward (indented_line p.main.text)))
change_of Tab p did = of_document p.mode (putting (leftward (spaces_to_tab p.main.text)))

-- The mark goes through that change. (02, M-101: one rule for every key.)
abbrev pub followed : Key → Plain → Did Plain → Did Plain
followed k p did = within (with_mark (mark_changed (change_of k p did) p.main.text did.state.mark)) did

unfoldable pub pressed : Key → Plain → Did Plain
pressed k p = followed k p (acted k p)

-- Room: the document has T bytes, the quotation Q. It is asked of the finished texts, so what a key gives back counts.
-- (01, refusals: FULL. DECISIONS B12, B15.)
unfoldable pub fits : ℕ → ℕ → Plain → Bool
fits T Q p = leb (length (content p.main.text)) T && leb (length (content p.quoted.text)) Q

-- What the finished texts are asked, in order. (02, M-106: for a key after FULL.)
abbrev pub finished_checks : ℕ → ℕ → Plain → List Check
finished_checks T Q p = check FULL (fits T Q p) ∷ check LINE (readable longest_line p) ∷ []

unfoldable pub bounded : ℕ → ℕ → Did Plain → Outcome
bounded T Q did = unless (finished_checks T Q did.state) refused (done did)

-- KEY before anything of the key itself. (01, refusals: order.)
unfoldable pub key : ℕ → ℕ → Key → Plain → Outcome
key T Q k p = unless (check KEY (sound_key p.mode k) ∷ []) refused (bounded T Q (pressed k p))

-- A list of keys; a refused one leaves the state as it was.
abbrev pub after : Plain → Outcome → Plain
after p (refused n) = p
after p (done did) = did.state

unfoldable pub keys : ℕ → ℕ → List Key → Plain → Plain
keys T Q [] p = p
keys T Q (k ∷ ks) p = keys T Q ks (after p (key T Q k p))

-- ---- The refusals in words

-- 01, KEY: an insert of a byte that is not allowed, a deletion left to a line ending, a deletion right to a line beginning. 02, M-101: MARK, CUT
-- and PASTE in QUOTED.
pub data Unsound : Mode → Key → Type 0 where
  not_allowed : {mode : Mode} {b : ℕ} → allowed b ≡ false → Unsound mode (Insert b)
  left_to_ending : {mode : Mode} → Unsound mode (Function Delete Left LineEnding)
  right_to_beginning : {mode : Mode} → Unsound mode (Function Delete Right LineBeginning)
  mark_in_quoted : Unsound Quoted Mark
  cut_in_quoted : Unsound Quoted Cut
  paste_in_quoted : Unsound Quoted Paste

-- 01, FULL: the finished document would exceed T, or the finished quotation Q.
abbrev pub Exceeds : ℕ → ℕ → Plain → Type 0
Exceeds T Q p = (T < length (content p.main.text)) ⊎ (Q < length (content p.quoted.text))

-- 02, M-106, LINE: the finished document would have a line of more than 1,024 bytes, the line with this index.
abbrev pub LongLine : Plain → Type 0
LongLine p = (i : ℕ) × (longest_line < length (get_or (lines (content p.main.text)) i []))
