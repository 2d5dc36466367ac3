-- What a session tells of its record's lengths: they are the lengths of the texts held, and they keep to the stores.
use mathlib.Core.Path.{◌≡◌, ◌∙◌}
use mathlib.Core.List.{List}
use Prim.Native.Nat.{ℕ, ◌+◌, ◌*◌, ◌≤◌}
use native.Mathlib.Omega.{arith}
use lib.ListN.{length}
use Rattle.editor.specs.Words.{Mode, Main, Quoted, Lengths}
use Rattle.gap.proofs.Laws.Layout.{is-pair}
use Rattle.editor.specs.Rules.Plain.{Plain}
use Rattle.editor.specs.Rules.Bytes.{Stores, quarter, quarter_of, lengths_of, plain_of}
use Rattle.editor.specs.Wording.Promise.{Sound, pattern_taken, Searchable}
use Rattle.editor.proofs.Laws.Quarters.{length-quarter}
use Rattle.editor.proofs.Laws.Session.{measured, passed}
use Rattle.editor.proofs.Laws.Encoding.{session-encoded}
use Rattle.editor.proofs.Laws.Replies.{on-side}

-- The texts of a plain state have a record's lengths.
pub record Sized (n : Lengths) (p : Plain) : Type 0 where
  pub left : length p.main.text.l ≡ n.main.l
  pub right : length p.main.text.r ≡ n.main.r
  pub quoted_left : length p.quoted.text.l ≡ n.quoted.l
  pub quoted_right : length p.quoted.text.r ≡ n.quoted.r
  pub pattern : length p.pattern ≡ n.pl
  pub first : length p.replacement.l ≡ n.xl
  pub second : length p.replacement.r ≡ n.xr

-- What the lengths keep to.
pub record Fitting (Q : ℕ) (n : Lengths) (b : Stores) : Type 0 where
  pub high : length b.text ≤ 65536
  pub recall : length b.recall ≡ length b.text
  pub side : length b.side ≡ 4 * Q
  pub document : n.main.l + n.main.r ≤ length b.text
  pub quotation : n.quoted.l + n.quoted.r ≤ Q
  pub pattern : n.pl ≤ Q
  pub replacement : n.xl + n.xr ≤ Q

module _ (Q : ℕ) (n : Lengths) (b : Stores) (sound : Sound Q n b) where
  pub sizes : Sized n (plain_of Q n b)
  unfolding lengths_of
  sizes =
      let same = (session-encoded Q n b sound.tabled sound.ok).lengths in
      record {
        left = λ i. (same i).main.l;
        right = λ i. (same i).main.r;
        quoted_left = λ i. (same i).quoted.l;
        quoted_right = λ i. (same i).quoted.r;
        pattern = λ i. (same i).pl;
        first = λ i. (same i).xl;
        second = λ i. (same i).xr;
      }

  pub fitting : Fitting Q n b
  fitting =
      let known = measured Q b sound.tabled in
      let tests = passed Q n b sound.ok in
      let long : (i : ℕ) → i ≤ 3 → length (quarter_of Q i b.side) ≡ Q = λ i h. length-quarter Q 3 i b.side known.side h in
      record {
        high = known.high;
        recall = known.recall;
        side = known.side;
        document = (on-side Q n b sound Main).gap.fits;
        quotation = rw (long 0 (omega arith)) at (on-side Q n b sound Quoted).gap.fits;
        pattern = omega (arith, long 2 (omega arith), (is-pair n.pl 0 (quarter_of Q 2 b.side) tests.pattern).fits);
        replacement = omega (arith, long 3 (omega arith), (is-pair n.xl n.xr (quarter_of Q 3 b.side) tests.replacement).fits);
      }

  -- Text and side store of a session can be searched.
  pub searchable : Q ≡ quarter → Searchable n b.text b.side
  searchable e =
      let fit = fitting in
      record {
        document = (on-side Q n b sound Main).gap;
        pattern = rw e at fit.pattern;
        quotation = rw e at fit.quotation;
        quarters = rw e at fit.side;
      }

-- So they can once the quotation has become the pattern.
pub taken-searchable : (n m : Lengths) (text side then : List ℕ) → Searchable n text side → m ≡ pattern_taken n.mode n
    → length then ≡ length side → Searchable m text then
taken-searchable n m text side then asked e same =
    rw e (go n.mode)
  where
    go : (mode : Mode) → Searchable (pattern_taken mode n) text then
    go Main = record {
      document = asked.document;
      pattern = asked.pattern;
      quotation = asked.quotation;
      quarters = same ∙ asked.quarters;
    }
    go Quoted = record { document = asked.document; pattern = asked.quotation; quotation = omega arith; quarters = same ∙ asked.quarters }
