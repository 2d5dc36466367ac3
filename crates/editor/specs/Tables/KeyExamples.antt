-- Examples of keys: the cursor stands at the bar, the keys are pressed, and facts are stated of the last one.
-- proofs/Theorems/Pins computes them on the plain state, and the window layer's Pins on bytes.
use Rattle.std.specs.Prelude.{map, List, [], ◌∷◌, ◌++◌, Bool, true, false, ◌&&◌, cond, ℕ, suc, ◌-◌, eqb, length, Option, Some, None}
use Prim.Native.Char.{code}
use Prim.Native.String.{String}
use Rattle.editor.specs.Words.{Left, Right, Place, Character}
use Rattle.editor.specs.Words.{Move, Delete, Key, Insert, Function, Quote, Mark, Mode, Main, Quoted, Report}
use Rattle.gap.specs.Rules.Strings.{bytes}
use Rattle.gap.specs.Rules.Doc.{Doc, empty, times}
use Rattle.gap.specs.Tables.Written.{marked, is_bytes, is_doc, same_bool}
use Rattle.editor.specs.Rules.Plain.{Plain, empty_side, quiet, Outcome, refused, done}
use Rattle.editor.specs.Rules.Keys.{key}
use Rattle.editor.specs.Rules.Bytes.{quarter}

-- What is seen of a key: 0 or a refusal's number, its report, and the state behind it.
pub record Seen : Type 0 where
  pub code : ℕ
  pub report : Report
  pub state : Plain

-- What is stated of it: refused with a number; or accepted with so many steps over no newline, with steps over so many, or with the bell;
-- then texts and pairs, each written with `|` at its cursor or cut, and the mode. Stands states the document's text and its mark, written with
-- `^`, which is no byte of the text either; without `^` it states that there is no mark.
pub data KeyFact : Type 0 where
  Refused : ℕ → KeyFact
  Goes : ℕ → KeyFact
  Crosses : ℕ → ℕ → KeyFact
  Rings : KeyFact
  Text : String → KeyFact
  Recalls : String → KeyFact
  Quotation : String → KeyFact
  ItsRecalls : String → KeyFact
  Pattern : String → KeyFact
  Replacement : String → KeyFact
  In : Mode → KeyFact
  Stands : String → KeyFact
  Holds : String → KeyFact

abbrev pub reports : ℕ → ℕ → ℕ → Bool → Seen → Bool
reports code steps lines bell s =
    (eqb s.code code && eqb s.report.steps steps) && (eqb s.report.lines lines && same_bool s.report.bell bell)

abbrev pub same_mode : Mode → Mode → Bool
same_mode Main Main = true
same_mode Main Quoted = false
same_mode Quoted Main = false
same_mode Quoted Quoted = true

abbrev pub same_marking : Option ℕ → Option ℕ → Bool
same_marking None None = true
same_marking None (Some n) = false
same_marking (Some m) None = false
same_marking (Some m) (Some n) = eqb m n

-- A text written with `^` (94) at its mark: the text without it, and where the mark is, with n bytes before what is read. The bar does not count.
unfoldable pub unmarked : String → String
unmarked String.[] = String.[]
unmarked (String.◌∷◌ c s) = cond (eqb (code c) 94) s (String.◌∷◌ c (unmarked s))

unfoldable pub mark_after : ℕ → List ℕ → Option ℕ
mark_after n [] = None
mark_after n (b ∷ s) = cond (eqb b 94) (Some n) (mark_after (cond (eqb b 124) n (suc n)) s)

abbrev pub mark_in : String → Option ℕ
mark_in s = mark_after 0 (bytes s)

unfoldable pub states : Seen → KeyFact → Bool
states s (Refused n) = reports n 0 0 false s
states s (Goes n) = reports 0 n 0 false s
states s (Crosses n lines) = reports 0 n lines false s
states s Rings = reports 0 0 0 true s
states s (Text t) = is_doc s.state.main.text t
states s (Recalls t) = is_doc s.state.main.recall t
states s (Quotation t) = is_doc s.state.quoted.text t
states s (ItsRecalls t) = is_doc s.state.quoted.recall t
states s (Pattern t) = is_bytes s.state.pattern t
states s (Replacement t) = is_doc s.state.replacement t
states s (In mode) = same_mode s.state.mode mode
states s (Stands t) = is_doc s.state.main.text (unmarked t) && same_marking s.state.mark (mark_in t)
states s (Holds t) = is_doc s.state.held t

unfoldable pub states_all : Seen → List KeyFact → Bool
states_all s [] = true
states_all s (fact ∷ facts) = states s fact && states_all s facts

-- ---- Keys as the examples write them

abbrev pub move_left : Place → Key
move_left place = Function Move Left place

abbrev pub move_right : Place → Key
move_right place = Function Move Right place

abbrev pub delete_left : Place → Key
delete_left place = Function Delete Left place

abbrev pub delete_right : Place → Key
delete_right place = Function Delete Right place

-- Single moves, from behind a bytes to behind b.
abbrev pub moving : ℕ → ℕ → List Key
moving a b = times (◌∷◌ (move_left Character)) (a - b) (times (◌∷◌ (move_right Character)) (b - a) [])

-- The mark is set from a cursor behind l bytes, and the cursor is there again.
abbrev pub setting : Option ℕ → ℕ → List Key
setting None l = []
setting (Some m) l = moving l m ++ (Mark ∷ moving m l)

abbrev pub typed : String → List Key
typed s = map Insert (bytes s)

-- QUOTE, the letters, and the key that ends the quotation.
abbrev pub quoting : String → Key → List Key
quoting s k = Quote ∷ (typed s ++ (k ∷ []))

-- ---- An example

pub record KeyExample : Type 0 where
  pub T : ℕ
  pub at : String
  pub keys : List Key
  pub facts : List KeyFact

-- In a store of so many bytes; of 20 where it does not matter. Where a mark is written, the first keys set it.
abbrev pub example_in : ℕ → String → List Key → List KeyFact → KeyExample
example_in T at keys facts =
    record {
      T = T;
      at = unmarked at;
      keys = setting (mark_in at) (length (marked (unmarked at)).l) ++ keys;
      facts = facts;
    }

abbrev pub example : String → List Key → List KeyFact → KeyExample
example at keys facts = example_in 20 at keys facts

-- On the plain state, with the cursor at the bar and nothing else there.
abbrev pub standing : Doc → Plain
standing d =
    record {
      main = record { text = d; recall = empty };
      quoted = empty_side;
      pattern = [];
      replacement = empty;
      mode = Main;
      held = empty;
      mark = None;
    }

abbrev pub seen_after : Plain → Outcome → Seen
seen_after p (refused n) = record { code = n; report = quiet; state = p }
seen_after p (done did) = record { code = 0; report = did.report; state = did.state }

unfoldable pub seeing : ℕ → List Key → Seen → Seen
seeing T [] s = s
seeing T (k ∷ ks) s = seeing T ks (seen_after s.state (key T quarter k s.state))

unfoldable pub seen_in : KeyExample → Seen
seen_in e = seeing e.T e.keys (record { code = 0; report = quiet; state = standing (marked e.at) })

unfoldable pub on_plain : KeyExample → Bool
on_plain e = states_all (seen_in e) e.facts
