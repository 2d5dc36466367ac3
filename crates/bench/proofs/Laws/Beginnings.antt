-- Laws of the program's beginning: the input's length, the header, and the stores that are lent for it.
use mathlib.Core.Path.{◌≡◌, refl, sym, subst}
use mathlib.Core.Bool.{Bool, true, false, cond, false≢true}
use mathlib.Core.List.{List}
use Prim.Native.Nat.{ℕ, ◌+◌, ◌≤◌, ◌<◌}
use lib.Dec.{leb}
use lib.ListN.{length}
use borrow.Author.Tests.{leb-true}
use Rattle.bench.specs.Words.{Result, Ok, Err, Header, Broken}
use Rattle.bench.specs.Rules.Script.{broken, heading_of}
use Rattle.bench.specs.Rules.Run.{unless_large, beginning}
use Rattle.bench.proofs.Laws.Scripts.{headed-inside}

-- What a header that was read tells: the text stands within the input, and the store is not too large.
unbroken : (t : Bool) (g : Result Header Broken) (h : Header) → Ok h ≡ cond t g (broken 0) → (t ≡ true) × (g ≡ Ok h)
unbroken true g h e = (refl, sym e)
unbroken false g h e = (cc, cc)

small : (g : Result Header Broken) (h : Header) → unless_large g ≡ Ok h → (g ≡ Ok h) × (h.store ≤ 4096)
small (Err e) h same = absurd (false≢true cc)
small (Ok g) h e =
    let known = unbroken (leb g.store 4096) (Ok g) h (sym e) in
    let same : g ≡ h = cc in
    (known.1, subst (λ x. x.store ≤ 4096) same (leb-true g.store 4096 known.0))

pub begun-as : (input : List ℕ) (h : Header) → Ok h ≡ beginning input → (heading_of input ≡ Ok h) × (h.store ≤ 4096)
unfolding beginning
begun-as input h e = small (heading_of input) h (unbroken (leb (length input) 8192) (unless_large (heading_of input)) h e).1

pub begun : (input : List ℕ) (h : Header) → Ok h ≡ beginning input → (h.at + h.length < length input) × (h.store ≤ 4096)
begun input h e = let known = begun-as input h e in (headed-inside input known.0, known.1)
