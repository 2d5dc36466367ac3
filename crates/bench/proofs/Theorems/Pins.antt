-- The definitions give each name, block and limit of document 01's bench program.
use Rattle.std.proofs.Common.{Option}
use mathlib.Core.Path.{◌≡◌, refl, ap, ◌∙◌}
use mathlib.Core.List.{List, [], ◌∷◌, ◌++◌, map, append-nil}
use mathlib.Core.Bool.{true, false}
use Prim.Native.Nat.{ℕ, ◌*◌, ◌≤◌, ◌<◌}
use native.Mathlib.Nat.{le_refl}
use native.Mathlib.Omega.{arith}
use lib.ListN.{length, take, drop, drop_of_length-le}
use lib.Seq.{take_all, length-take-le}
use borrow.Author.Tests.{le-leb, lt-leb, eq-eqb, ne_eqb}
use Rattle.gap.specs.Rules.Sequence.{every, same_bytes, begins, part, patch, zeros}
use Rattle.gap.specs.Rules.Strings.{bytes}
use Rattle.gap.specs.Rules.Nearest.{nearest}
use Rattle.gap.specs.Rules.Decimal.{value_after, is_number, number_of, digits_in, decimal}
use Rattle.gap.specs.Rules.Fields.{next_at, header_at, entry}
use Rattle.gap.specs.Tables.Sentence.{all_of, broken as failing, itself}
use Rattle.gap.proofs.Laws.Tests.{cond-true, cond-false}
use Rattle.editor.specs.Rules.Bytes.{quarter}
use Rattle.window.specs.Rules.Core.{Answer}
use Rattle.window.specs.Rules.Core.{Lent, rows_and_columns}
use Rattle.window.specs.Rules.Host.{KeyNumbers, numbers, numbers_of_key}
use Rattle.bench.specs.Words.{Right, Move, LineEnding, Some, None, Result, Ok, Header, Broken}
use Rattle.bench.specs.Words.{Insert, Function}
use Rattle.bench.specs.Rules.Names.{name_of, combinations, function_of, entry_of, function_named, insert_numbered, indent_named, mark_named, key_named}
use Rattle.bench.specs.Rules.Script.{broken, when_read, text_there, heading_of}
use Rattle.bench.specs.Rules.Print.{rows_of, accepted_block, refused_block, block, script_line}
use Rattle.bench.specs.Rules.Run.{unless_large, beginning, laid_out, fresh, printed_from, output}
use Rattle.bench.specs.Tables.KeyNames.{function_names, other_names, no_names}
use Rattle.bench.specs.Tables.Blocks.{block_pins}

-- 01, the bench program: keys. Each of these words names its key, and those of the second list name none.
pub names-pinned : map (λ n. key_named (bytes n.name)) (function_names ++ other_names) ≡ map (λ n. Some n.key) (function_names ++ other_names)
unfolding every same_bytes begins bytes nearest value_after is_number number_of combinations function_named indent_named mark_named key_named
names-pinned = refl

pub no-names-pinned : map (λ name. key_named (bytes name)) no_names ≡ map (λ name. None) no_names
unfolding every same_bytes begins bytes nearest value_after is_number number_of combinations function_named indent_named mark_named key_named
no-names-pinned = refl

-- 01, plain editor: all 20 stand in the table, in this order.
pub combinations-pinned : (map function_of combinations ≡ map (λ n. n.key) function_names) × (map name_of combinations ≡ map (λ n. bytes n.name) function_names)
unfolding bytes combinations
combinations-pinned = (refl, refl)

-- A row of that table: a name and its key. Of every row the key in the host's numbers, and the name.
abbrev fives : ℕ → ℕ → List KeyNumbers
fives action way = numbers 1 action way 0 ∷ numbers 1 action way 1 ∷ numbers 1 action way 2 ∷ numbers 1 action way 3 ∷ numbers 1 action way 4 ∷ []

pub entry-pinned : (entry_of (record { action = Move; direction = Right; place = LineEnding })
    ≡ record { name = bytes "move-right-line-end"; key = Function Move Right LineEnding })
    × (map (λ c. numbers_of_key (entry_of c).key) combinations ≡ fives 0 0 ++ (fives 0 1 ++ (fives 1 0 ++ fives 1 1)))
    × (map (λ c. (entry_of c).name) combinations ≡ map (λ n. bytes n.name) function_names)
unfolding bytes combinations
entry-pinned = (refl, refl, refl)

-- An insert's number is at most 255.
pub insert-limit : (n : ℕ) → (n ≤ 255 → insert_numbered (Some n) ≡ Some (Insert n)) × (255 < n → insert_numbered (Some n) ≡ None)
insert-limit n = (λ small. rw (le-leb n 255 small), λ large. rw (lt-leb n 255 large))

-- 01, the bench program: blocks.
pub blocks-pinned : failing itself block_pins ≡ []
unfolding same_bytes bytes digits_in decimal entry rows_of accepted_block refused_block block script_line all_of failing
blocks-pinned = refl

-- The full block is that of code 0 alone, whatever else the answer says.
pub block-by-code : (H W : ℕ) (a : Answer) (screen : List ℕ)
    → (a.code ≡ 0 → block H W a screen ≡ accepted_block H W a screen) × (0 < a.code → block H W a screen ≡ refused_block a.code a.place)
unfolding block
block-by-code H W a screen = (λ none. rw (eq-eqb a.code 0 none), λ some. rw (ne_eqb a.code 0 (λ e. omega arith)))

-- 01, the bench program: four header lines with numbers of at most 5 digits, then the text. The first that is not there is named, 4 for the text.
told : (line : ℕ) (then : ℕ → Result Header Broken) {a b : Option ℕ} → a ≡ b → when_read line a then ≡ when_read line b then
told line then e = ap (λ number. when_read line number then) e

pub header-lines : (s : List ℕ) (rows columns store n : ℕ)
    → let second = next_at s 0 in let third = next_at s second in let fourth = next_at s third in let at = next_at s fourth in
    (header_at (bytes "rows=") 5 s 0 ≡ None → heading_of s ≡ broken 1)
    × (header_at (bytes "rows=") 5 s 0 ≡ Some rows
    → (header_at (bytes "cols=") 5 s second ≡ None → heading_of s ≡ broken 2)
    × (header_at (bytes "cols=") 5 s second ≡ Some columns
    → (header_at (bytes "store=") 5 s third ≡ None → heading_of s ≡ broken 3)
    × (header_at (bytes "store=") 5 s third ≡ Some store
    → (header_at (bytes "text=") 5 s fourth ≡ None → heading_of s ≡ broken 4)
    × (header_at (bytes "text=") 5 s fourth ≡ Some n
    → (text_there s at n ≡ false → heading_of s ≡ broken 4)
    × (text_there s at n ≡ true → heading_of s ≡ Ok (record { rows = rows; columns = columns; store = store; length = n; at = at }))))))
unfolding heading_of
header-lines s rows columns store n = (
  told 1 _,
  λ one. (
    λ e. told 1 _ one ∙ told 2 _ e,
    λ two. (
      λ e. told 1 _ one ∙ told 2 _ two ∙ told 3 _ e,
      λ three. let before = told 1 _ one ∙ told 2 _ two ∙ told 3 _ three in
          (λ e. before ∙ told 4 _ e, λ four. (λ e. before ∙ told 4 _ four ∙ cond-false _ _ e, λ e. before ∙ told 4 _ four ∙ cond-true _ _ e)),
    ),
  ),
)

-- 01, the bench program: input is at most 8,192 bytes, and store at most 4,096.
pub input-limit : (input : List ℕ)
    → (length input ≤ 8192 → beginning input ≡ unless_large (heading_of input)) × (8192 < length input → beginning input ≡ broken 0)
unfolding beginning
input-limit input = (λ short. rw (le-leb (length input) 8192 short), λ long. rw (lt-leb (length input) 8192 long))

pub store-limit : (h : Header) → (h.store ≤ 4096 → unless_large (Ok h) ≡ Ok h) × (4096 < h.store → unless_large (Ok h) ≡ broken 0)
store-limit h = (λ small. rw (le-leb h.store 4096 small), λ large. rw (lt-leb h.store 4096 large))

-- Where the header is not read, the line's number is all that is printed; so it is with 0 where the input is too long. (DECISIONS A11.)
pub broken-printed : (input : List ℕ) (line : ℕ) → beginning input ≡ broken line → output input ≡ script_line line
unfolding output
broken-printed input line e = ap (printed_from input) e

pub long-printed : (input : List ℕ) → 8192 < length input → output input ≡ script_line 0
long-printed input long = broken-printed input 0 ((input-limit input).1 long)

-- The stores that are lent, all zeros, as the header asks; no screen where rows or columns are not as tabled. (DECISIONS A17.)
pub stores-lent : (h : Header)
    → ((fresh h).stores ≡ record { text = zeros h.store; recall = zeros h.store; held = zeros h.store; side = zeros 4096 })
    × (rows_and_columns h.rows h.columns ≡ true → (fresh h).screen ≡ zeros (h.rows * h.columns))
    × (rows_and_columns h.rows h.columns ≡ false → (fresh h).screen ≡ [])
unfolding quarter zeros fresh
stores-lent h = (refl, λ good. ap zeros (cond-true _ _ good), λ bad. ap zeros (cond-false _ _ bad))

-- 01, the bench program: n raw bytes. They alone go into the store, as many of them as it has.
abbrev laid : ℕ → ℕ → List ℕ
laid T n = let h : Header = record { rows = 1; columns = 1; store = T; length = n; at = 1 } in (laid_out h (bytes "-abcd") (fresh h)).stores.text

pub text-laid-out : (laid 4 2 ≡ 97 ∷ 98 ∷ 0 ∷ 0 ∷ []) × (laid 2 4 ≡ 97 ∷ 98 ∷ [])
unfolding part patch zeros bytes fresh
text-laid-out = (refl, refl)

-- So it is with any text, and any store: what does not get a byte stays.
pub text-laid : (h : Header) (input : List ℕ) (b : Lent)
    → let raw = part h.at h.length input in let store = b.stores.text in let laid = (laid_out h input b).stores.text in
    (length raw ≤ length store → laid ≡ raw ++ drop (length raw) store) × (length store ≤ length raw → laid ≡ take (length store) raw)
unfolding patch
text-laid h input b =
    let raw = part h.at h.length input in
    let store = b.stores.text in (
      λ fits. rw (take_all (length store) raw fits),
      λ full. rw (length-take-le (length store) raw full, drop_of_length-le store (le_refl (length store)), append-nil),
    )

-- All else that is lent is left as it was.
pub text-alone : (h : Header) (input : List ℕ) (b : Lent)
    → ((laid_out h input b).stores.recall ≡ b.stores.recall)
    × ((laid_out h input b).stores.held ≡ b.stores.held)
    × ((laid_out h input b).stores.side ≡ b.stores.side)
    × ((laid_out h input b).screen ≡ b.screen)
text-alone h input b = (refl, refl, refl, refl)
