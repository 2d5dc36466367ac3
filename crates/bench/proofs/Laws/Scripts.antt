-- Laws of what the lines of a script say: keys, and the header as a whole.
use mathlib.Core.Path.{◌≡◌, refl, sym, ap, subst, ◌∙◌}
use mathlib.Core.Bool.{Bool, true, false, cond}
use mathlib.Core.List.{List}
use Prim.Native.Nat.{ℕ, ◌+◌, ◌-◌, ◌≤◌, ◌<◌}
use native.Mathlib.Omega.{arith}
use lib.Dec.{ltb}
use lib.ListN.{length}
use borrow.Author.Tests.{ltb-true, lt-ltb}
use borrow.Rule.Slice.PartMut.{mid_of}
use Rattle.gap.specs.Rules.Strings.{bytes}
use Rattle.gap.specs.Rules.Fields.{line_at, end_at, next_at, header_at}
use Rattle.gap.proofs.Laws.Tests.{and_left, cond-true}
use Rattle.gap.proofs.Laws.LinePlaces.{line-lent, next-inside, next-after}
use Rattle.bench.specs.Words.{Key, Header, Broken}
use Rattle.bench.specs.Words.{Option, Some, None, Result, Ok, Pressed, Finished, Unknown}
use Rattle.bench.specs.Rules.Names.{most_digits}
use Rattle.bench.specs.Rules.Script.{broken, when_read, text_there, heading_of, key_of, read_as, reading_at}

-- ---- What a line says

module _ (s : List ℕ) (at : ℕ) {end : ℕ} (ends : end ≡ end_at s at) where
  -- A key line: its key decides.
  module _ {name : Option Key} (more : at < length s) (known : name ≡ key_of (mid_of at (end - at) s)) where
    key-decides : {found : Option Key} → name ≡ found → read_as found (next_at s at) ≡ reading_at s at
    unfolding reading_at
    key-decides e =
        ap (λ k. read_as k (next_at s at)) (sym e ∙ known ∙ ap key_of (line-lent s at ends)) ∙ sym (cond-true _ _ (lt-ltb _ _ more))

    pub reading-unknown : name ≡ None → Unknown ≡ reading_at s at
    reading-unknown e = key-decides e

    pub reading-pressed : {k : Key} {next : ℕ} → name ≡ Some k → next ≡ next_at s at → Pressed k next ≡ reading_at s at
    reading-pressed {k} e onward = ap (Pressed k) onward ∙ key-decides e

-- A key that is read stands on a line, so that the next line starts further on.
key-read : (t : Bool) (name : Option Key) (m : ℕ) {k : Key} {next : ℕ} → cond t (read_as name m) Finished ≡ Pressed k next
    → (t ≡ true) × (next ≡ m)
key-read true (Some j) m e = (refl, cc)
key-read true None m e = (refl, cc)
key-read false name m e = (cc, cc)

pub pressed-goes-on : (s : List ℕ) (at : ℕ) {k : Key} {next : ℕ} → reading_at s at ≡ Pressed k next
    → (at < next) × (next ≤ length s)
unfolding reading_at
pressed-goes-on s at e =
    let known = key-read (ltb at (length s)) (key_of (line_at s at)) (next_at s at) e in
    let more = ltb-true at (length s) known.0 in
    (rw known.1 (next-after s at more), next-inside s at known.1 (omega arith))

-- ---- The header, line by line

-- What the input says behind each header line, by the numbers read before, the place behind the line, and the line's number.
abbrev pub after_text : List ℕ → ℕ → ℕ → ℕ → ℕ → ℕ → Result Header Broken
after_text s rows columns store at n =
    cond (text_there s at n) (Ok (record { rows = rows; columns = columns; store = store; length = n; at = at })) (broken 4)

abbrev pub after_store : List ℕ → ℕ → ℕ → ℕ → ℕ → Result Header Broken
after_store s rows columns at store = when_read 4 (header_at (bytes "text=") most_digits s at) (after_text s rows columns store (next_at s at))

abbrev pub after_columns : List ℕ → ℕ → ℕ → ℕ → Result Header Broken
after_columns s rows at columns = when_read 3 (header_at (bytes "store=") most_digits s at) (after_store s rows columns (next_at s at))

abbrev pub after_rows : List ℕ → ℕ → ℕ → Result Header Broken
after_rows s at rows = when_read 2 (header_at (bytes "cols=") most_digits s at) (after_columns s rows (next_at s at))

-- ---- The text

module _ (s : List ℕ) (at n : ℕ) where
  text-inside : text_there s at n ≡ true → at + n < length s
  unfolding text_there
  text-inside e = ltb-true _ _ (and_left (ltb (at + n) (length s)) _ e)

-- A header that is read leaves its text, with a byte behind it, within the input.
module _ (s : List ℕ) where
  abbrev Inside : Result Header Broken → Type 0
  Inside found = (h : Header) → found ≡ Ok h → h.at + h.length < length s

  inside-when : (line : ℕ) (number : Option ℕ) (then : ℕ → Result Header Broken) → ((n : ℕ) → Inside (then n)) → Inside (when_read line number then)
  inside-when line (Some n) then all = all n
  inside-when line None then all = λ h e. let z : ◌≡◌ {A = ℕ} 0 1 = cc in omega arith

  inside-if : (there : Bool) (x : Header) → (there ≡ true → x.at + x.length < length s) → Inside (cond there (Ok x) (broken 4))
  inside-if true x fits = λ h e. let same : x ≡ h = cc in subst (λ y. y.at + y.length < length s) same (fits refl)
  inside-if false x fits = λ h e. let z : ◌≡◌ {A = ℕ} 0 1 = cc in omega arith

  inside-text : (rows columns store at n : ℕ) → Inside (after_text s rows columns store at n)
  inside-text rows columns store at n = inside-if (text_there s at n) _ (text-inside s at n)

  inside-store : (rows columns at store : ℕ) → Inside (after_store s rows columns at store)
  inside-store rows columns at store = inside-when 4 (header_at (bytes "text=") most_digits s at) _ (inside-text rows columns store (next_at s at))

  inside-columns : (rows at columns : ℕ) → Inside (after_columns s rows at columns)
  inside-columns rows at columns = inside-when 3 (header_at (bytes "store=") most_digits s at) _ (inside-store rows columns (next_at s at))

  inside-rows : (at rows : ℕ) → Inside (after_rows s at rows)
  inside-rows at rows = inside-when 2 (header_at (bytes "cols=") most_digits s at) _ (inside-columns rows (next_at s at))

  pub headed-inside : {h : Header} → heading_of s ≡ Ok h → h.at + h.length < length s
  unfolding heading_of
  headed-inside {h} e = inside-when 1 (header_at (bytes "rows=") most_digits s 0) _ (inside-rows (next_at s 0)) h e
