-- Laws of writers: what one wrote, and what two wrote one behind the other.
use mathlib.Core.Path.{◌≡◌, refl, sym, ◌∙◌}
use mathlib.Core.List.{List, [], ◌∷◌, ◌++◌, append_assoc}
use Prim.Native.Nat.{ℕ, ◌+◌, ◌≤◌, ◌<◌}
use native.Mathlib.Omega.{arith}
use lib.ListN.{length, take, drop, set, length-append}
use lib.Seq.{length-take-le, take_at, drop_at, drop-drop}
use Rattle.gap.specs.Rules.Sequence.{patch}
use Rattle.gap.specs.Wording.Written.{Wrote}
use Rattle.gap.proofs.Laws.Runs.{length-patch, patch-none, patch-one}

pub wrote_none : (at : ℕ) (old : List ℕ) → at ≤ length old → Wrote at [] old at old
wrote_none at old within = record { fits = omega arith; place = omega arith; bytes = sym (patch-none old at) }

pub wrote-byte : (at b : ℕ) (old : List ℕ) → at < length old → Wrote at (b ∷ []) old (at + 1) (set old at b)
wrote-byte at b old within = record { fits = omega arith; place = refl; bytes = patch-one old at b within }

-- A patched store is cut at the place behind the run.
patch-cut : (at : ℕ) (run old : List ℕ) → patch at run old ≡ (take at old ++ run) ++ drop (at + length run) old
unfolding patch
patch-cut at run old = rw (append_assoc, ← drop-drop)

module _ {at next : ℕ} {run old new : List ℕ} (w : Wrote at run old next new) where
  pub wrote-length : length new ≡ length old
  wrote-length = rw w.bytes (length-patch at run old w.fits)

  cut : new ≡ (take at old ++ run) ++ drop next old
  cut = rw (w.bytes, w.place) (patch-cut at run old)

  cut-place : length (take at old ++ run) ≡ next
  cut-place =
      let before : length (take at old) ≡ at = length-take-le at old (omega arith) in
      rw (length-append, before) (sym w.place)

  -- What lies in front of the place behind the run, and what lies behind it.
  in-front : take next new ≡ take at old ++ run
  in-front = rw cut (take_at (take at old ++ run) (drop next old) next cut-place)

  pub wrote-behind : drop next new ≡ drop next old
  wrote-behind = rw cut (drop_at (take at old ++ run) (drop next old) next cut-place)

  further-behind : (k : ℕ) → drop (next + k) new ≡ drop (next + k) old
  further-behind k = rw (← drop-drop k next new, ← drop-drop k next old, wrote-behind)

-- A run from the very front on is then what the store begins with.
pub wrote-front : {next : ℕ} {run old new : List ℕ} → Wrote 0 run old next new → take next new ≡ run
wrote-front w = in-front w

-- Two runs, the second at the place behind the first, are one run.
pub then : {at p q : ℕ} {xs ys old mid new : List ℕ} → Wrote at xs old p mid → Wrote p ys mid q new → Wrote at (xs ++ ys) old q new
then {at} {p} {q} {xs} {ys} {old} {mid} {new} v w =
    let both : length (xs ++ ys) ≡ length xs + length ys = length-append xs ys in
    let end : q ≡ at + length (xs ++ ys) = omega (arith, v.place, w.place) in
    let behind : drop q mid ≡ drop q old = rw w.place (further-behind v (length ys)) in
    let cuts : new ≡ ((take at old ++ xs) ++ ys) ++ drop q old = cut w ∙ rw (in-front v, behind) in
    record {
      fits = omega (arith, w.fits, w.place, wrote-length v);
      place = end;
      bytes = cuts ∙ rw (patch-cut, ← end, append_assoc (take at old) xs ys);
    }

-- A promise of this kind leaves nothing open: the place behind the run and every byte of the store.
pub one_written : {at p q : ℕ} {run old new other : List ℕ} → Wrote at run old p new → Wrote at run old q other → (p ≡ q) × (new ≡ other)
one_written v w = (v.place ∙ sym w.place, v.bytes ∙ sym w.bytes)
