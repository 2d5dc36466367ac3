-- `read_full` keeps at the front of the buffer what it took from the input: a read puts more behind it.
use mathlib.Core.Path.{◌≡◌, sym, ap, subst, ◌∙◌}
use mathlib.Core.List.{List, ◌++◌}
use Prim.Native.Nat.{ℕ, ◌+◌, ◌-◌, ◌≤◌}
use native.Mathlib.Nat.{le_refl}
use lib.ListN.{length, take, drop}
use lib.Seq.{length-take-le, take-add, take-append-le}
use borrow.Author.Rules.{rules}
use borrow.Rule.Slice.PartMut.{put_mid, post_of}
use Rattle.std.proofs.Common.{drop_at}
use Rattle.std.proofs.KnownBytes.{Consumes-trans}
use Rattle.std.proofs.lemmas.Slice.{take-put_mid_below}
use Rattle.std.specs.Io.KnownBytes.{Consumes}
use Rattle.bench.proofs.read_full.Goals as goal

-- The front, and what a read put behind it, stand one behind the other.
front-read : (from n : ℕ) (s t : List ℕ) → from ≤ length s → n ≤ length t
    → take from s ++ take n t ≡ take (from + n) (put_mid from (length s - from) s t)
front-read from n s t inside fits =
    let k = length s - from in
    let after = post_of from k s in
    let behind : drop from (put_mid from k s t) ≡ t ++ after = drop_at (take from s) (t ++ after) from (length-take-le from s inside) in
    sym
    (take-add from n (put_mid from k s t)
    ∙ ap (λ l. l ++ take n (drop from (put_mid from k s t))) (take-put_mid_below _ _ _ _ from (le_refl from) inside)
    ∙ ap (λ l. take from s ++ take n l) behind
    ∙ ap (λ l. take from s ++ l) (take-append-le n t after fits))

pub loop-done-preserved : goal.loop-done-preserved
loop-done-preserved g c =
    let before = c.loop-done.invariant in
    let read = c.in_ok-n.ensures in (
      search rules,
      subst (Consumes _ _) (front-read c.loop-done.done c.in_ok-n.n c.loop-done.buffer c.read.new.buf before.0 read.bound.0)
          (Consumes-trans _ _ _ _ _ before.1 read.bytes.0),
    )
