-- Laws of the mark: its rule, case by case, and that it stays within the document. (02, M-101.)
use Rattle.std.proofs.Common.{Option, Some, None}
use mathlib.Core.Path.{◌≡◌, refl, sym, ap, ◌∙◌}
use mathlib.Core.Bool.{Bool, true, false, cond, false≢true}
use Prim.Native.Nat.{ℕ, ◌+◌, ◌-◌, ◌≤◌, ◌<◌}
use native.Mathlib.Omega.{arith}
use borrow.Author.Tests.{le-leb, leb-true, leb-false, ltb-false, lt-leb, le-ltb, lt-ltb, eq-eqb, ne_eqb}
use lib.Dec.{eqb, leb, ltb}
use lib.ListN.{length, length-append}
use Rattle.gap.proofs.Laws.Holdable.{length-splice}
use Rattle.editor.specs.Words.{Direction, Mode, Main, Quoted}
use Rattle.editor.specs.Words.{Key, Insert, Function, Recall, Quote, Find, Replace, Mark, Cut, Paste, Newline, Tab}
use Rattle.editor.specs.Rules.Marks.{mark_through, mark_within}
use Rattle.editor.specs.Rules.Plain.{Plain, quiet, rang, reporting}
use Rattle.editor.specs.Rules.Indents.{newlined, tabbed}
use Rattle.editor.specs.Rules.Keys.{inserted, function, recalled, with_side, quoted, with_pattern, matches, searched, found}
use Rattle.editor.specs.Rules.Keys.{with_replacement, exchanged, substituted, replaced, marked_here, cut_to, pasted, acted, change_of, pressed}
use mathlib.Core.Logic.{⊎_elim}
use Rattle.gap.proofs.Laws.Tests.{decided}
use Rattle.editor.proofs.Laws.MarkedStates.{on-side-mark}
use Rattle.editor.proofs.Laws.Changes.{size, content-changed, change-within}

-- ---- The rule of the mark, case by case

module _ (from gone come m : ℕ) where
  pub through-stays : m ≤ from → mark_through from gone come (Some m) ≡ Some m
  unfolding mark_through
  through-stays h = rw (le-leb m from h)

  pub through-gone : from < m → m < from + gone → mark_through from gone come (Some m) ≡ None
  unfolding mark_through
  through-gone low high = rw (lt-leb m from low, lt-ltb m (from + gone) high)

  pub through-end : m ≡ from + gone → mark_through from gone come (Some m) ≡ Some from
  unfolding mark_through
  through-end e =
      ⊎_elim (λ low. rw low (ap Some (omega (arith, leb-true m from low, e))))
      (λ high. rw (high, le-ltb m (from + gone) (omega (arith, e)), eq-eqb m (from + gone) e)) (decided (leb m from))

  pub through-behind : from + gone < m → mark_through from gone come (Some m) ≡ Some (m - gone + come)
  unfolding mark_through
  through-behind h =
      let behind : (m ≡ from + gone → ⊥) = λ e. omega (arith, e, h) in
      rw (lt-leb m from (omega (arith, h)), le-ltb m (from + gone) (omega (arith, h)), ne_eqb m (from + gone) behind)

-- Where nothing goes and nothing comes the mark stays.
pub through-nothing : (from : ℕ) (mark : Option ℕ) → mark_through from 0 0 mark ≡ mark
unfolding mark_through
through-nothing from None = refl
through-nothing from (Some m) =
    let same : m - 0 + 0 ≡ m = omega arith in
    ⊎_elim (λ e. through-stays from 0 0 m (leb-true m from e))
    (λ e. through-behind from 0 0 m (omega (arith, leb-false m from e)) ∙ ap Some same)
    (decided (leb m from))

-- ---- The mark stays within the document

-- Through a change a mark within the document stays within it.
pub through-within : (from gone come n : ℕ) (mark : Option ℕ) → from + gone ≤ n → mark_within n mark ≡ true
    → mark_within (n - gone + come) (mark_through from gone come mark) ≡ true
unfolding mark_through
through-within from gone come n None fits inside = refl
through-within from gone come n (Some m) fits inside =
    go (leb m from) (ltb m (from + gone)) (eqb m (from + gone)) refl refl refl
  where
    go : (a b c : Bool) → leb m from ≡ a → ltb m (from + gone) ≡ b → eqb m (from + gone) ≡ c
        → mark_within (n - gone + come) (cond a (Some m) (cond b None (cond c (Some from) (Some (m - gone + come))))) ≡ true
    go true b c low high end = le-leb m _ (omega (arith, leb-true m from low))
    go false true c low high end = refl
    go false false true low high end = le-leb from _ (omega arith)
    go false false false low high end =
        le-leb (m - gone + come) _ (omega (arith, leb-true m n inside, ltb-false m (from + gone) high))

-- The mark before it goes through the change: MARK sets it at the cursor, CUT drops it, and all other keys have it as it was.
found-mark : (way : Direction) (mode : Mode) (p : Plain) → (searched way (with_pattern mode p)).state.mark ≡ p.mark
unfolding searched with_pattern
found-mark way Main p = refl
found-mark way Quoted p = refl

exchanged-mark : (q : Plain) (match : Bool)
    → (cond match (reporting quiet (with_side Main (exchanged q) q)) (reporting rang q)).state.mark ≡ q.mark
exchanged-mark q true = refl
exchanged-mark q false = refl

replaced-mark : (mode : Mode) (p : Plain) → (substituted (with_replacement mode p)).state.mark ≡ p.mark
unfolding substituted with_replacement
replaced-mark Main p = exchanged-mark p (matches p.pattern p.main.text)
replaced-mark Quoted p = exchanged-mark (with_replacement Quoted p) (matches p.pattern p.main.text)

-- The keys that set the mark or drop it.
abbrev pub marks : Key → Bool
marks (Insert b) = false
marks (Function action way place) = false
marks Recall = false
marks Quote = false
marks (Find way) = false
marks Replace = false
marks Mark = true
marks Cut = true
marks Paste = false
marks Newline = false
marks Tab = false

pub acted-mark : (k : Key) (p : Plain) → marks k ≡ false → (acted k p).state.mark ≡ p.mark
unfolding acted quoted found replaced pasted
acted-mark (Insert b) p other = on-side-mark (inserted b) p
acted-mark (Function action way place) p other = on-side-mark (function action way place) p
acted-mark Recall p other = on-side-mark recalled p
acted-mark Quote p other = refl
acted-mark (Find way) p other = found-mark way p.mode p
acted-mark Replace p other = replaced-mark p.mode p
acted-mark Mark p other = absurd (false≢true (sym other))
acted-mark Cut p other = absurd (false≢true (sym other))
acted-mark Paste p other = refl
acted-mark Newline p other = on-side-mark newlined p
acted-mark Tab p other = on-side-mark tabbed p

-- CUT leaves no mark.
pub cut-mark : (mark : Option ℕ) (p : Plain) → p.mark ≡ mark → (cut_to mark p).state.mark ≡ None
unfolding cut_to
cut-mark None p same = same
cut-mark (Some m) p same = refl

as_before : (k : Key) (p : Plain) → marks k ≡ false → mark_within (size p.main.text) p.mark ≡ true
    → mark_within (size p.main.text) (acted k p).state.mark ≡ true
as_before k p other inside = ap (mark_within (size p.main.text)) (acted-mark k p other) ∙ inside

-- With the mark within the document before the key, it is within that document too before it goes through the change.
pub acted-mark-within : (k : Key) (p : Plain) → mark_within (size p.main.text) p.mark ≡ true
    → mark_within (size p.main.text) (acted k p).state.mark ≡ true
unfolding acted marked_here
acted-mark-within (Insert b) p inside = as_before (Insert b) p refl inside
acted-mark-within (Function action way place) p inside = as_before (Function action way place) p refl inside
acted-mark-within Recall p inside = as_before Recall p refl inside
acted-mark-within Quote p inside = as_before Quote p refl inside
acted-mark-within (Find way) p inside = as_before (Find way) p refl inside
acted-mark-within Replace p inside = as_before Replace p refl inside
acted-mark-within Mark p inside = le-leb (length p.main.text.l) (size p.main.text) (omega arith)
acted-mark-within Cut p inside = ap (mark_within (size p.main.text)) (cut-mark p.mark p refl)
acted-mark-within Paste p inside = as_before Paste p refl inside
acted-mark-within Newline p inside = as_before Newline p refl inside
acted-mark-within Tab p inside = as_before Tab p refl inside

-- How long the document behind a key is.
pub size-changed : (k : Key) (p : Plain) → mark_within (size p.main.text) p.mark ≡ true
    → let did = acted k p in
    let c = change_of k p did in
    size did.state.main.text ≡ size p.main.text - (c.before + c.behind) + size c.put
size-changed k p inside =
    let did = acted k p in
    let c = change_of k p did in
    let fits = change-within k p inside in
    omega (
      arith,
      length-append did.state.main.text.l did.state.main.text.r,
      ap length (content-changed k p),
      length-splice c.before c.behind c.put p.main.text,
      fits.before,
      fits.behind,
    )

-- A session's mark is within the document behind every key. (02, M-101: a session needs the mark within the document.)
pub mark-kept : (k : Key) (p : Plain) → mark_within (length p.main.text.l + length p.main.text.r) p.mark ≡ true
    → let q = (pressed k p).state in mark_within (length q.main.text.l + length q.main.text.r) q.mark ≡ true
unfolding pressed
mark-kept k p inside =
    let did = acted k p in
    let c = change_of k p did in
    let fits = change-within k p inside in
    ap (λ n. mark_within n (pressed k p).state.mark) (size-changed k p inside)
    ∙ through-within (length p.main.text.l - c.before) (c.before + c.behind) (size c.put) (size p.main.text) did.state.mark
    (omega (arith, fits.before, fits.behind)) (acted-mark-within k p inside)
