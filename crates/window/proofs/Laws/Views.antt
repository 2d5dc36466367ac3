-- Good views: plain states seen through a window. Their encodings are the sessions, and the key call on one is the plain
-- editor's key.
use mathlib.Core.Path.{◌≡◌, ap, ap₂, ◌∙◌}
use mathlib.Core.Bool.{true, ◌&&◌}
use mathlib.Core.List.{List, []}
use Prim.Native.Nat.{ℕ, ◌+◌, ◌*◌, ◌≤◌}
use native.Mathlib.Omega.{arith}
use lib.Dec.{leb}
use lib.ListN.{length}
use borrow.Author.Tests.{leb-true, le-leb, eqb-true, eq-eqb}
use Rattle.gap.specs.Rules.Lines.{newlines, since_after}
use Rattle.gap.proofs.Laws.Tests.{and_left, and_right, and_both, cond-true}
use Rattle.gap.proofs.Laws.Layout.{length-gapped}
use Rattle.editor.specs.declared.Key.{Key}
use Rattle.editor.specs.Rules.Plain.{Outcome, refused, done}
use Rattle.editor.specs.Rules.Keys.{key}
use Rattle.editor.specs.Rules.Bytes.{Stores, quarter, sized, stores_of, editor_ok}
use Rattle.window.specs.Words.{Session}
use Rattle.window.specs.Rules.Window.{virtual, visible, policy}
use Rattle.window.specs.Rules.Core.{start, Lent, T, rows_and_columns, tabled, is_session, held, finished, keyed}
use Rattle.window.specs.Rules.Terminal.{View, looked, Good, record_of, stores_with}
use Rattle.editor.proofs.Laws.Encoding.{plain-of-encoded, encoded-sized, encoded-ok, session-encoded}
use Rattle.editor.proofs.Laws.Keeps.{key-keeps}
use Rattle.window.proofs.Laws.Window.{policy-visible}

-- What the test of sizes tells.
pub record Tabled (H W : ℕ) (b : Lent) : Type 0 where
  pub stores : sized quarter b.stores ≡ true
  pub low : 1 ≤ T b.stores
  pub high : T b.stores ≤ 65536
  pub rows : 1 ≤ H
  pub frame : rows_and_columns H W ≡ true
  pub long : length b.screen ≡ H * W

pub some-rows : (H W : ℕ) → rows_and_columns H W ≡ true → 1 ≤ H
some-rows H W e = leb-true 1 H (and_left _ _ (and_left _ _ e))

pub tabled-facts : (H W : ℕ) (b : Lent) → tabled H W b ≡ true → Tabled H W b
unfolding tabled sized
tabled-facts H W b e =
    let stores = and_left (sized quarter b.stores) _ e in
    let others = and_right (sized quarter b.stores) _ e in
    let frame = and_left (rows_and_columns H W) _ others in
    let text = and_left (leb 1 (T b.stores) && leb (T b.stores) 65536) _ stores in
    record {
      stores = stores;
      low = leb-true _ _ (and_left _ _ text);
      high = leb-true _ _ (and_right (leb 1 (T b.stores)) _ text);
      rows = some-rows H W frame;
      frame = frame;
      long = eqb-true _ _ (and_right (rows_and_columns H W) _ others);
    }

module _ (size : ℕ) (v : View) (good : Good size v) (screen : List ℕ) (long : length screen ≡ v.frame.h * v.frame.w) where
  -- It holds the plain state again, its stores are as tabled, and it is a session.
  pub view-held : held (record_of v) (stores_of size quarter v.plain) ≡ v.plain
  view-held = plain-of-encoded size quarter v.plain good.sound.texts

  pub view-tabled : tabled v.frame.h v.frame.w (stores_with size v screen) ≡ true
  unfolding tabled
  view-tabled =
      and_both (encoded-sized size quarter v.plain good.low good.high good.sound.texts)
      (and_both good.tabled (eq-eqb _ _ long))

  pub view-session : is_session (record_of v) (stores_of size quarter v.plain) ≡ true
  unfolding is_session
  view-session =
      and_both (encoded-ok size quarter v.plain good.sound.texts good.sound.mark) (ap (λ p. visible v.frame (virtual p)) view-held ∙ good.seen)

  pub view-size : T (stores_of size quarter v.plain) ≡ size
  unfolding stores_of
  view-size = length-gapped size v.plain.main.text good.sound.texts.text.fits

  -- The key call on it is the plain editor's key on the plain state.
  pub view-keyed : (k : Key)
      → keyed (record_of v) k (stores_with size v screen) ≡ finished (record_of v) (stores_with size v screen) (key size quarter k v.plain)
  unfolding keyed
  view-keyed k =
      cond-true _ _ view-tabled
      ∙ (cond-true _ _ view-session
      ∙ ap₂ (λ t p. finished (record_of v) (stores_with size v screen) (key t quarter k p)) view-size view-held)

-- A session is the encoding of a good view, whatever its screen shows.
abbrev pub view_of : Session → Stores → View
view_of s b = record { plain = held s b; frame = s.frame }

pub record IsView (s : Session) (b : Lent) : Type 0 where
  pub good : Good (T b.stores) (view_of s b.stores)
  pub session : record_of (view_of s b.stores) ≡ s
  pub lent : stores_with (T b.stores) (view_of s b.stores) b.screen ≡ b
  pub long : length b.screen ≡ s.frame.h * s.frame.w

pub session-view : (s : Session) (b : Lent) → tabled s.frame.h s.frame.w b ≡ true → is_session s b.stores ≡ true → IsView s b
unfolding is_session
session-view s b fit ok =
    let facts = tabled-facts s.frame.h s.frame.w b fit in
    let e = session-encoded quarter s.lengths b.stores facts.stores (and_left _ _ ok) in
    record {
      good =
          record {
            low = facts.low;
            high = facts.high;
            sound = e.sound;
            tabled = facts.frame;
            seen = and_right (editor_ok quarter s.lengths b.stores) _ ok;
          };
      session = ap (λ n. record { lengths = n; frame = s.frame }) e.lengths;
      lent = ap (λ st. record { stores = st; screen = b.screen }) e.stores;
      long = facts.long;
    }

-- A good view stays good: what a key leads to is good again.
pub looked-good : (size : ℕ) (k : Key) (v : View) → Good size v → (o : Outcome) → key size quarter k v.plain ≡ o → Good size (looked v o)
unfolding policy
looked-good size k v good (refused n) e = good
looked-good size k v good (done did) e =
    record {
      low = good.low;
      high = good.high;
      sound = key-keeps size quarter k v.plain did good.sound e;
      tabled = good.tabled;
      seen =
          policy-visible v.frame (virtual did.state) (some-rows v.frame.h v.frame.w good.tabled);
    }

-- A cursor at the beginning is visible at the start.
pub start_seen : (H W : ℕ) (text : List ℕ) → 1 ≤ H → visible (start H W) (record { l = []; r = text }) ≡ true
unfolding visible newlines since_after
start_seen H W text h =
    let row : 1 ≤ 0 + H = omega arith in
    let column : 0 ≤ 0 + W = omega arith in
    and_both (le-leb 1 (0 + H) row) (le-leb 0 (0 + W) column)

-- On every session the key on bytes is the key on the plain state.
pub session-keyed : (s : Session) (k : Key) (b : Lent) → tabled s.frame.h s.frame.w b ≡ true → is_session s b.stores ≡ true
    → keyed s k b ≡ finished s b (key (T b.stores) quarter k (held s b.stores))
unfolding keyed
session-keyed s k b fit ok = cond-true _ _ fit ∙ cond-true _ _ ok
