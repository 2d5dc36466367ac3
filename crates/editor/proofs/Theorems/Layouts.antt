-- Layouts (01, what the core holds): decoding an encoded state gives it back; a session's record and stores are the encoding of
-- what they decode to; the same plain state at the same T has the same bytes.
use mathlib.Core.Path.{◌≡◌, sym, ap, ap₂, ◌∙◌}
use mathlib.Core.Bool.{true}
use Prim.Native.Nat.{ℕ, ◌≤◌}
use lib.ListN.{length}
use Rattle.editor.specs.Words.{Lengths}
use Rattle.editor.specs.Rules.Plain.{Plain}
use Rattle.editor.specs.Rules.Bytes.{Stores, sized, plain_of, lengths_of, stores_of, editor_ok, SoundPlain, Encoded}
use Rattle.editor.proofs.Laws.Encoding as law

-- Decoding an encoded state gives it back.
pub plain-of-encoded : (T Q : ℕ) (p : Plain) → SoundPlain T Q p → plain_of Q (lengths_of p) (stores_of T Q p) ≡ p
plain-of-encoded T Q p s = law.plain-of-encoded T Q p s.texts

-- The encoding of a sound plain state passes the session test, and the test of sizes for a T that the stores may have.
pub encoded-ok : (T Q : ℕ) (p : Plain) → SoundPlain T Q p → editor_ok Q (lengths_of p) (stores_of T Q p) ≡ true
encoded-ok T Q p s = law.encoded-ok T Q p s.texts s.mark

pub encoded-sized : (T Q : ℕ) (p : Plain) → 1 ≤ T → T ≤ 65536 → SoundPlain T Q p → sized Q (stores_of T Q p) ≡ true
encoded-sized T Q p low high s = law.encoded-sized T Q p low high s.texts

-- Record and stores that pass the session test hold a sound plain state, and are its encoding.
pub session-encoded : (Q : ℕ) (n : Lengths) (b : Stores) → sized Q b ≡ true → editor_ok Q n b ≡ true → Encoded Q n b
session-encoded Q n b size ok = law.session-encoded Q n b size ok

-- The same plain state at the same T has the same bytes, and the same record.
pub same_bytes_lem : (Q : ℕ) (n m : Lengths) (b c : Stores) → sized Q b ≡ true → editor_ok Q n b ≡ true
    → sized Q c ≡ true → editor_ok Q m c ≡ true → length b.text ≡ length c.text → plain_of Q n b ≡ plain_of Q m c → (n ≡ m) × (b ≡ c)
same_bytes_lem Q n m b c sb ob sc oc t e =
    let one = session-encoded Q n b sb ob in
    let other = session-encoded Q m c sc oc in (
      sym one.lengths ∙ ap lengths_of e ∙ other.lengths,
      sym one.stores ∙ ap₂ (λ T p. stores_of T Q p) t e ∙ other.stores,
    )
