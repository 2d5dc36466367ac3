-- The edges that document 01 marks with P, as one table. Each row opens a text on bytes, brings the cursor to its mark by moves,
-- presses the keys, and states facts about the last call. proofs/Theorems/Edges shows that the definitions give each of them. Behind it, in
-- the same form, what the change requests tell of.
use Rattle.std.specs.Prelude.{List, [], ◌∷◌, ◌++◌, map, Bool, true, false, ◌&&◌, ℕ, zero, suc, ◌-◌, ◌*◌, eqb, length, take}
use Rattle.window.specs.Words.{Left, Right, Move, Delete, Character, Word, LineBeginning, LineEnding, Document}
use Rattle.window.specs.Words.{Key, Insert, Function, Recall, Quote, Find, Replace, Mark, Cut, Paste}
use Prim.Native.String.{String}
use Rattle.gap.specs.Rules.Sequence.{same_bytes, zeros}
use Rattle.gap.specs.Rules.Strings.{bytes}
use Rattle.gap.specs.Rules.Doc.{content}
use Rattle.gap.specs.Tables.Written.{marked, same_bool, is_doc}
use Rattle.editor.specs.Rules.Bytes.{quarter}
use Rattle.editor.specs.Tables.KeyExamples.{quoting}
use Rattle.window.specs.Rules.Rows.{screen_row}
use Rattle.window.specs.Rules.Core.{Called, held, opened, keyed}

-- What a row states of the last call.
pub data Fact : Type 0 where
  Code : ℕ → Fact
  Steps : ℕ → Fact
  Bell : Bool → Fact
  Text : String → Fact
  Offset : ℕ → Fact
  Offsets : ℕ → ℕ → Fact
  Cursor : ℕ → ℕ → Fact
  Named : ℕ → ℕ → Fact
  Shows : ℕ → String → Fact

pub record Edge : Type 0 where
  pub T : ℕ
  pub H : ℕ
  pub W : ℕ
  pub at : String
  pub keys : List Key
  pub facts : List Fact

-- 01, edges: unless given, T = H = W = 16.
abbrev pub usual : String → List Key → List Fact → Edge
usual at keys facts = record { T = 16; H = 16; W = 16; at = at; keys = keys; facts = facts }

-- The key call again and again, with record and stores handed on untouched.
unfoldable pub pressing : List Key → Called → Called
pressing [] o = o
pressing (k ∷ ks) o = pressing ks (keyed o.session k o.lent)

-- n moves to the right by character, before the keys of a row.
unfoldable pub moving : ℕ → List Key → List Key
moving zero ks = ks
moving (suc n) ks = Function Move Right Character ∷ moving n ks

unfoldable pub outcome : Edge → Called
outcome e =
    let d = marked e.at in
    let text = content d in
    pressing (moving (length d.l) e.keys)
    (opened (length text) e.H e.W
    (record {
      stores =
          record { text = text ++ zeros (e.T - length text); recall = zeros e.T; held = zeros e.T; side = zeros (4 * quarter) };
      screen = zeros (e.H * e.W);
    }))

unfoldable pub holds : Called → Fact → Bool
holds o (Code n) = eqb o.answer.code n
holds o (Steps n) = eqb o.answer.report.steps n
holds o (Bell b) = same_bool o.answer.report.bell b
holds o (Text s) = is_doc (held o.session o.lent.stores).main.text s
holds o (Offset c) = eqb o.session.frame.c c
holds o (Offsets r c) = eqb o.session.frame.r r && eqb o.session.frame.c c
holds o (Cursor row column) = eqb o.answer.row row && eqb o.answer.column column
holds o (Named first last) = eqb o.answer.first first && eqb o.answer.last last
holds o (Shows i s) = same_bytes (screen_row o.session.frame.w i o.lent.screen) (bytes s)

unfoldable pub all_hold : Called → List Fact → Bool
all_hold o [] = true
all_hold o (fact ∷ facts) = holds o fact && all_hold o facts

-- The whole table computes to true.
unfoldable pub right : List Edge → Bool
right [] = true
right (e ∷ es) = all_hold (outcome e) e.facts && right es

-- Keys of the edges.
abbrev pub right_word : Key
right_word = Function Move Right Word

abbrev pub find_foo : List Key
find_foo = quoting "FOO" (Find Right)

abbrev pub replace_baz : List Key
replace_baz = find_foo ++ quoting "BAZ" Replace

-- P4 says any move: each of the ten.
abbrev pub moves : List Key
moves =
    map (Function Move Left) (Character ∷ Word ∷ LineBeginning ∷ LineEnding ∷ Document ∷ [])
    ++ map (Function Move Right) (Character ∷ Word ∷ LineBeginning ∷ LineEnding ∷ Document ∷ [])

-- P1 to P12, in document 01's order.
abbrev pub edges : List Edge
edges =
    usual "her| hand is" (right_word ∷ []) (Code 0 ∷ Text "her |hand is" ∷ Steps 1 ∷ Bell false ∷ [])
    ∷ usual "her| hand is" (right_word ∷ right_word ∷ []) (Code 0 ∷ Text "her hand |is" ∷ Steps 5 ∷ Bell false ∷ [])
    ∷ usual "her| hand is" (right_word ∷ right_word ∷ right_word ∷ []) (Code 0 ∷ Text "her hand |is" ∷ Steps 0 ∷ Bell true ∷ [])
    ∷ (map (λ k. usual "|" (k ∷ []) (Code 0 ∷ Text "|" ∷ Steps 0 ∷ Bell true ∷ [])) moves
    ++ (record { T = 4; H = 16; W = 16; at = "abc|"; keys = Insert 100 ∷ []; facts = Code 0 ∷ Text "abcd|" ∷ [] }
    ∷ record { T = 4; H = 16; W = 16; at = "abcd|"; keys = Insert 101 ∷ []; facts = Code 6 ∷ Text "abcd|" ∷ [] }
    ∷ record {
      T = 5;
      H = 16;
      W = 16;
      at = "ab cd|";
      keys = Function Delete Left Word ∷ Insert 120 ∷ Recall ∷ [];
      facts = Code 6 ∷ Text "ab x|" ∷ [];
    }
    ∷ usual "|FOO FOO" find_foo (Code 0 ∷ Text "FOO |FOO" ∷ Steps 4 ∷ Bell false ∷ [])
    ∷ usual "|FOO FOO" replace_baz (Code 0 ∷ Text "FOO BAZ|" ∷ Steps 0 ∷ Bell false ∷ [])
    ∷ usual "|FOO FOO" (replace_baz ++ (Recall ∷ [])) (Code 0 ∷ Text "FOO BAZ|FOO" ∷ Steps 0 ∷ Bell false ∷ [])
    ∷ record { T = 16; H = 16; W = 4; at = "abc|de"; keys = Function Move Right Character ∷ []; facts = Code 0 ∷ Text "abcd|e" ∷ Offset 0 ∷ Cursor 1 4 ∷ [] }
    ∷ record { T = 16; H = 16; W = 4; at = "abcd|e"; keys = Function Move Right Character ∷ []; facts = Code 0 ∷ Text "abcde|" ∷ Offset 1 ∷ Cursor 1 4 ∷ [] }
    ∷ record {
      T = 16;
      H = 2;
      W = 4;
      at = "a|b";
      keys = Quote ∷ [];
      facts = Code 0 ∷ Shows 1 "a   " ∷ Shows 2 ">   " ∷ Cursor 2 1 ∷ Named 1 2 ∷ [];
    }
    ∷ []))

-- What the change requests tell of, in the same form. M-103: an operator deleted a series, pressed delete-word once more at the top of the
-- deck, and RECALL gave nothing; now it gives the series back.
abbrev pub delete_series : List Key
delete_series = Function Delete Left Document ∷ Function Delete Left Word ∷ []

-- M-101: operators move whole blocks of observations between series. Here the block of two lines goes behind the third.
abbrev pub move_block : List Key
move_block = Mark ∷ Function Move Left Document ∷ Cut ∷ Function Move Right Document ∷ Paste ∷ []

abbrev pub requested : List Edge
requested =
    usual "1 2 3\n|4 5" delete_series (Code 0 ∷ Text "|4 5" ∷ Steps 0 ∷ Bell true ∷ [])
    ∷ usual "1 2 3\n|4 5" (delete_series ++ (Recall ∷ [])) (Code 0 ∷ Text "1 2 3\n|4 5" ∷ Steps 0 ∷ Bell false ∷ [])
    ∷ usual "1 2\n3\n|4 5\n" move_block (Code 0 ∷ Text "4 5\n|1 2\n3\n" ∷ Steps 0 ∷ Bell false ∷ Cursor 2 0 ∷ Shows 2 "1 2             " ∷ [])
    ∷ usual "1 2\n3\n|4 5\n" (take 3 move_block) (Code 0 ∷ Text "|4 5\n" ∷ Steps 6 ∷ Bell false ∷ Cursor 1 0 ∷ Named 1 3 ∷ [])
    ∷ []
